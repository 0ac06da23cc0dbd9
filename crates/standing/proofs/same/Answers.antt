-- `same` meets its contract. Assumes nothing.
use native.Mathlib.Omega.{arith}
use mathlib.Core.Path.{sym, ◌∙◌}
use Prim.Native.Nat.{◌+◌}
use Rattle.std.proofs.Common.{rules}
use Rattle.parity.proofs.Finite.Positions.{all_below}
use Rattle.standing.specs.Standing.{same_message}
use Rattle.standing.proofs.Kept.{twice_all}
use Rattle.standing.proofs.same.Goals as goal

pub returns : goal.returns
returns c = let w = c.args.w in let ts = c.args.tags.now in let xs = c.args.values.now in
    record {
      room = λ e. omega (arith, c.if-w-gt32512.false);
      twice = λ e. twice_all w ts xs c.type_inv.values (sym (all_below (λ i. same_message ts xs i (w + i)) w c.all.ensures.ran (λ x b q k. search rules)) ∙ e);
    }
