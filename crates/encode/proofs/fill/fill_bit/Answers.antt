-- `fill::fill_bit` meets its contract. Assumes nothing.
use Rattle.encode.proofs.Filling.{set_put}
use Rattle.sets.proofs.Making.{set_inside}
use Rattle.parity.specs.Finite.{one}
use Rattle.parity.specs.Matrix.{lent}
use Rattle.parity.specs.Words.{odd}
use lib.ListN.{set}
use native.Mathlib.Omega.{arith}
use mathlib.Core.Path.{◌≡◌, refl, ap, ◌∙◌}
use mathlib.Core.Bool.{Bool, true, false}
use mir.Val.{bool_byte}
use Rattle.encode.proofs.fill.fill_bit.Goals as goal

-- a bit as a byte
byte_is_one : (x : Bool) → bool_byte x ≡ one x
byte_is_one true = refl
byte_is_one false = refl

pub returns : goal.returns
returns c = let p = c.put_bit in
    let o = c.is_odd-sum in
    let e = byte_is_one o.result in
    let sum = set_inside 2 (lent 2 c.args.rows.now) 128 c.args.c c.args.word.now 1 _ c.requires.4 (omega arith) in record { word_after = ap (set c.args.word.now c.args.b) (e ∙ ap one (o.ensures ∙ ap odd sum)); set_of = rw e (set_put _ _ _ _ _ _ c.requires.4 c.requires.2 p.auto.set p.ensures) }
