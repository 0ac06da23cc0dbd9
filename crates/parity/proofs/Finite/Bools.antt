-- Laws of Booleans that the others lean on. Assumes nothing.
use mathlib.Core.Path.{◌≡◌, refl, sym}
use mathlib.Core.Bool.{Bool, true, false, not, ◌||◌, xor, beq, true≢false, false≢true}

-- an implication as a test
pub then : (a b : Bool) → not a || b ≡ true → a ≡ true → b ≡ true
then true b e p = e
then false b e p = absurd (false≢true p)

pub when : (a b : Bool) → (a ≡ true → b ≡ true) → not a || b ≡ true
when true b h = h refl
when false b h = refl

pub or_false_both : (a b : Bool) → a || b ≡ false → (a ≡ false) × (b ≡ false)
or_false_both true b e = absurd (true≢false e)
or_false_both false b e = (refl, e)

pub or_else : (a b : Bool) → a || b ≡ true → a ≡ false → b ≡ true
or_else true b e f = absurd (true≢false f)
or_else false b e f = e

-- two tests that say the same
pub same_test : (a b : Bool) → (a ≡ true → b ≡ true) → (b ≡ true → a ≡ true) → a ≡ b
same_test true b f g = sym (f refl)
same_test false true f g = g refl
same_test false false f g = refl

pub beq_same : (a b : Bool) → beq a b ≡ true → a ≡ b
beq_same true true e = refl
beq_same true false e = absurd (false≢true e)
beq_same false true e = absurd (false≢true e)
beq_same false false e = refl

pub beq_refl : (a : Bool) → beq a a ≡ true
beq_refl true = refl
beq_refl false = refl

-- a sum modulo 2 that is 0
pub differ : (a b : Bool) → xor a b ≡ false → a ≡ b
unfolding xor
differ true true e = refl
differ true false e = absurd (true≢false e)
differ false true e = absurd (true≢false e)
differ false false e = refl

pub xor_self : (a b : Bool) → a ≡ b → xor a b ≡ false
unfolding xor
xor_self true true e = refl
xor_self true false e = absurd (true≢false e)
xor_self false true e = absurd (false≢true e)
xor_self false false e = refl

pub xor_false : (a : Bool) → xor a false ≡ a
unfolding xor
xor_false true = refl
xor_false false = refl
