-- `pass` meets its contract. Assumes nothing.
use mathlib.Core.Path.{sym, ap}
use Rattle.parity.specs.Causes.{numbered_reply}
use Rattle.passing.proofs.Passing.{bare}
use Rattle.passing.proofs.pass.Goals as goal

pub returns-in-Alone : goal.returns-in-Alone
returns-in-Alone c = bare _ c.args.values.now (sym (ap numbered_reply c.in-Alone.is))
