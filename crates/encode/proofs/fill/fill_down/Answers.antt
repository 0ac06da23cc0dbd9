-- `fill::fill_down` meets its contract. Assumes nothing.
use Rattle.encode.proofs.Filling.{fill_more}
use native.Mathlib.Omega.{arith}
use mathlib.Core.Path.{◌∙◌}
use Prim.Native.Nat.{◌-◌}
use Rattle.encode.proofs.fill.fill_down.Goals as goal

pub loop-c-preserved : goal.loop-c-preserved
loop-c-preserved c = let E = c.fill_bit in
    let l = c.loop-c in
    let e = rw l.invariant.1 at E.ensures.word_after in (
      omega (arith, l.invariant.0),
      E.auto.word ∙ l.invariant.1,
      E.ensures.set_of,
      rw e (fill_more _ _ _ _ _ c.requires.fact l.c (l.c - 1) (omega arith) l.word l.invariant.3 (omega (arith, l.invariant.0)) l.invariant.1),
    )
