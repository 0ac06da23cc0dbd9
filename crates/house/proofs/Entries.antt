-- The tables, and the one test over all their entries. Assumes nothing.
use mathlib.Core.Path.{◌≡◌, refl}
use mathlib.Core.Bool.{Bool, true}
use mathlib.Core.List.{List, [], ◌∷◌}
use Prim.Native.Nat.{ℕ, zero, suc, ◌<◌}
use lib.Dec.{eqb}
use lib.ListN.{get_or}
use borrow.Author.Tests.{eqb-true}
use Rattle.parity.specs.Finite.{sum, all}
use Rattle.parity.specs.Matrix.{bit_of}
use Rattle.parity.specs.House.{at_offsets, circulant, hamming, code_of, hamming_code, house_code, table_word}
use Rattle.parity.proofs.Finite.Sums.{all_at}

-- the table of a name
unfoldable pub table : ℕ → List ℕ
table zero = 5279 ∷ 10558 ∷ 21116 ∷ 42232 ∷ 84464 ∷ 168928 ∷ 337856 ∷ 675712 ∷ 1351424 ∷ 2702848 ∷ 5405696 ∷ 2422785 ∷ 4845570 ∷ 1302533 ∷ 2605066 ∷ 5210132 ∷ 2031657 ∷ 4063314 ∷ 8126628 ∷ 7864649 ∷ 7340691 ∷ 6292775 ∷ 4196943 ∷ []
table (suc zero) = 5 ∷ 6 ∷ []
table (suc (suc zero)) = 85 ∷ 102 ∷ 120 ∷ []
table (suc (suc (suc zero))) = 21845 ∷ 26214 ∷ 30840 ∷ 32640 ∷ []
table (suc (suc (suc (suc i)))) = 1431655765 ∷ 1717986918 ∷ 2021161080 ∷ 2139127680 ∷ 2147450880 ∷ []

-- an entry is the word that the rule gives
agrees : ℕ → ℕ → Bool
agrees name c = eqb (get_or (table name) c 0) (table_word 32 (house_code name).matrix c)

-- the test, computed over all entries of all tables
entries_agree : all 5 (λ name. all (house_code name).m (agrees name)) ≡ true
unfolding all sum bit_of at_offsets circulant hamming code_of hamming_code house_code table_word table agrees
entries_agree = refl

-- and so the rule at each entry
pub table_word_lem : (name c : ℕ) → name < 5 → c < (house_code name).m → get_or (table name) c 0 ≡ table_word 32 (house_code name).matrix c
unfolding agrees
table_word_lem name c l k =
    let t = all_at 5 (λ name. all (house_code name).m (agrees name)) entries_agree name l in
    eqb-true _ _ (all_at (house_code name).m (agrees name) t c k)
