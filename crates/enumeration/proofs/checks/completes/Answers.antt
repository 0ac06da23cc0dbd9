-- `completes` meets its contract. Assumes nothing.
use mathlib.Core.Path.{◌≡◌, sym, ◌∙◌}
use mathlib.Core.Bool.{true}
use mathlib.Core.List.{List}
use native.Mathlib.Omega.{arith}
use lib.Bits.{bit_and, bit_xor}
use lib.ListN.{get_or}
use Prim.Native.Nat.{ℕ, ◌*◌, ◌^◌, ◌<◌}
use Rattle.enumeration.specs.Search.{lone_word, decided, Among, completing}
use Rattle.enumeration.proofs.Lone.{lone_decided, completing_is, none_first, none_not_first}
use Rattle.enumeration.proofs.checks.completes.Goals as goal

-- what the first word says, by the checks where the bit decides
first : (o u d x w : ℕ) → o < 2 ^ 64 → u < 2 ^ 64 → d < 2 ^ 64 → x ≡ o → w ≡ decided x u → Among x u → bit_and (bit_xor d x) w ≡ lone_word o u d
first o u d x w ol ul dl e f A = rw (f, e) (lone_decided o u d ol ul dl (rw e at A))

-- no check of the first word
first_word : (cols o u : List ℕ) (d x w : ℕ) → ((i : ℕ) → get_or o i 0 < 2 ^ 64) → ((i : ℕ) → get_or u i 0 < 2 ^ 64) → ((i : ℕ) → get_or cols i 0 < 2 ^ 64) → x ≡ get_or o 0 0
    → w ≡ decided x (get_or u 0 0) → Among x (get_or u 0 0) → bit_and (bit_xor (get_or cols (d * 8) 0) x) w ≡ 0 → completing cols o u 64 d ≡ true
first_word cols o u d x w ol ul dl e f A z =
    completing_is cols o u 64 d ∙ none_first 8 cols o u d ul dl (omega arith) (sym (first (get_or o 0 0) (get_or u 0 0) (get_or cols (d * 8) 0) x w (ol 0) (ul 0) (dl (d * 8)) e f A) ∙ z)

pub returns-then-cols-d-ne0 : goal.returns-then-cols-d-ne0
returns-then-cols-d-ne0 c = let s = c.args in
    let P = c.requires in
    let F = first (get_or s.once.now 0 0) (get_or s.some.now 0 0) (get_or s.cols.now (s.d * 8) 0) s.x s.w (omega (arith, c.type_inv.once 0)) (omega (arith, c.type_inv.some 0)) (omega (arith, c.type_inv.cols (s.d * 8))) P.2 P.3 P.4 in
    sym (completing_is s.cols.now s.once.now s.some.now (s.used * 64) s.d ∙ none_not_first 8 s.cols.now s.once.now s.some.now s.d (λ i. omega (arith, c.type_inv.some i)) (λ i. omega (arith, c.type_inv.cols i)) (λ i. omega (arith, c.type_inv.once i)) s.used P.0.least P.0.most (λ z. c.if-cols-d-ne0.true (F ∙ z)))

pub completes_further-requires : goal.completes_further-requires
completes_further-requires c = let s = c.args in
    let P = c.requires in
    record {
      sized = (record { columns = P.0.columns; once = P.0.once; some = P.0.some; least = omega arith; most = omega arith }, P.1);
      d_value = first_word s.cols.now s.once.now s.some.now s.d s.x s.w (λ i. omega (arith, c.type_inv.once i)) (λ i. omega (arith, c.type_inv.some i)) (λ i. omega (arith, c.type_inv.cols i)) P.2 P.3 P.4 c.if-cols-d-ne0.false;
    }

pub returns-then-used-eq8 : goal.returns-then-used-eq8
returns-then-used-eq8 c = let e : c.args.used ≡ 8 = c.if-used-eq8.true in
    rw e c.completes_further.ensures

pub completes_further-requires-2 : goal.completes_further-requires-2
completes_further-requires-2 c = let s = c.args in
    let P = c.requires in
    record {
      sized = (P.0, P.1);
      d_value = first_word s.cols.now s.once.now s.some.now s.d s.x s.w (λ i. omega (arith, c.type_inv.once i)) (λ i. omega (arith, c.type_inv.some i)) (λ i. omega (arith, c.type_inv.cols i)) P.2 P.3 P.4 c.if-cols-d-ne0.false;
    }
