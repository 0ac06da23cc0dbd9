-- `words::read` meets its contract. Assumes nothing.
use mathlib.Core.Path.{◌≡◌, sym}
use Prim.Native.Nat.{ℕ, ◌/◌, ◌^◌}
use native.Mathlib.Omega.{arith}
use Rattle.parity.specs.Record.{kind_of, payload, head_kind}
use Rattle.parity.specs.declared.Form.{Form}
use Rattle.parity.specs.declared.Form.TheVariants.{First, Second, Third}
use Rattle.reading.specs.Read.{Kind, Kindless}
use Rattle.reading.proofs.words.read.Goals as goal

of-kind : (k w x : ℕ) → w / 2 ^ 28 ≡ k → x ≡ payload w → Kind k w x
unfolding kind_of
of-kind k w x e f = record { kind = e; rest = sym f }

of_none : (w : ℕ) → (w / 2 ^ 28 ≡ 1 → ⊥) → (w / 2 ^ 28 ≡ 2 → ⊥) → (w / 2 ^ 28 ≡ 3 → ⊥) → (w / 2 ^ 28 ≡ 4 → ⊥) → (w / 2 ^ 28 ≡ 5 → ⊥) → (w / 2 ^ 28 ≡ 6 → ⊥)
    → (w / 2 ^ 28 ≡ 15 → ⊥) → Kindless w
unfolding kind_of
of_none w a b d g i j e = record { not_head = no-head; not_open = b; not_bit = d; not_split = j; not_end = e }
  where
    no-head : (f : Form) → w / 2 ^ 28 ≡ head_kind f → ⊥
    no-head First q = a q
    no-head Second q = g q
    no-head Third q = i q

pub returns-in-0 : goal.returns-in-0
returns-in-0 c = let e = c.in-0.is in
    of_none _ (λ q. omega arith) (λ q. omega arith) (λ q. omega arith) (λ q. omega arith) (λ q. omega arith) (λ q. omega arith) (λ q. omega arith)

pub returns-in-1 : goal.returns-in-1
returns-in-1 c = of-kind 1 _ _ c.in-1.is c.payload-x.ensures

pub returns-in-2 : goal.returns-in-2
returns-in-2 c = of-kind 2 _ _ c.in-2.is c.payload-x.ensures

pub returns-in-3 : goal.returns-in-3
returns-in-3 c = of-kind 3 _ _ c.in-3.is c.payload-x.ensures

pub returns-in-4 : goal.returns-in-4
returns-in-4 c = of-kind 4 _ _ c.in-4.is c.payload-x.ensures

pub returns-in-5 : goal.returns-in-5
returns-in-5 c = of-kind 5 _ _ c.in-5.is c.payload-x.ensures

pub returns-in-6 : goal.returns-in-6
returns-in-6 c = of-kind 6 _ _ c.in-6.is c.payload-x.ensures

pub returns-in-15 : goal.returns-in-15
returns-in-15 c = of-kind 15 _ _ c.in-15.is c.payload-x.ensures

pub returns-in-7-to-14 : goal.returns-in-7-to-14
returns-in-7-to-14 c =
    of_none _ (λ q. omega arith) (λ q. omega arith) (λ q. omega arith) (λ q. omega arith) (λ q. omega arith) (λ q. omega arith) (λ q. omega arith)
