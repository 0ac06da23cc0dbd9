-- `gather::is_there` meets its contract. Assumes nothing.
use Rattle.std.proofs.Common.{rules}
use Rattle.parity.proofs.Finite.Positions.{any_below}
use Rattle.join.specs.Rows.{is_row}
use Rattle.join.proofs.gather.is_there.Goals as goal

pub returns : goal.returns
returns c = any_below (is_row c.args.rows.now c.args.x c.args.y) c.args.checks c.any.ensures.ran (λ x b q k. search rules)
