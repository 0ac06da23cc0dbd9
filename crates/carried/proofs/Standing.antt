-- The matrix that stands while splits are taken back on columns: given checks by their columns, and the added checks that are left. Assumes nothing.
use mathlib.Core.Path.{◌≡◌, refl, sym, ◌∙◌, fun_ext}
use mathlib.Core.Bool.{false, ◌||◌, or-false, and-false, and_comm}
use Prim.Native.Nat.{ℕ, suc, ◌+◌, ◌≤◌, ◌<◌}
use native.Mathlib.Omega.{arith}
use native.Mathlib.Decide.{ℕ_discrete, dec_lt}
use lib.Dec.{eqb}
use borrow.Author.Tests.{eq-eqb, ne_eqb, lt-ltb, le-ltb}
use Rattle.parity.specs.Matrix.{Matrix}
use Rattle.parity.specs.Cycles.{taken_back, lower_of, higher_of}
use Rattle.parity.specs.Sound.{Clean, Newest}
use Rattle.parity.proofs.Splits.Back.{back_at, back_bit, back_clean}
use Rattle.rows.specs.Rows.{NextOne}
use Rattle.columns.specs.Columns.{Columns}
use Rattle.columns.specs.Splits.{joined, Joined}
use Rattle.exchange.specs.Back.{Newer}
use Rattle.carried.specs.Recover.{standing, Raw}
use Rattle.carried.proofs.Newest.{columns_end, raw_clean, reads_lower, reads_higher, newer}

-- the entries of the matrix that stands
module _ (h g : Matrix) (m k : ℕ) where
  pub standing_given : (c b : ℕ) → c < m → standing h g m k c b ≡ g b c
  unfolding standing
  standing_given c b l = rw (lt-ltb c m l)

  standing_added : (c b : ℕ) → m ≤ c → c < m + k → standing h g m k c b ≡ h c b
  unfolding standing
  standing_added c b l r = rw (le-ltb c m l, lt-ltb c (m + k) r)

  standing_none : (c b : ℕ) → m + k ≤ c → standing h g m k c b ≡ false
  unfolding standing
  standing_none c b l = rw (le-ltb c m (omega arith), le-ltb c (m + k) l)

  -- its columns have no other place
  standing_columns : ((b d : ℕ) → m ≤ d → g b d ≡ false) → Columns m (standing h g m k) g
  standing_columns f = record {
    at = λ b d. elim (dec_lt d m) [ yes l ↦ rw (lt-ltb d m l, standing_given d b l) | no l ↦ rw (le-ltb d m (omega arith)) (f b d (omega arith)) ];
  }

pub standing_same : (h g : Matrix) (m k j : ℕ) → Columns m (standing h g m k) g → Columns m (standing h g m j) g
standing_same h g m k j C = standing_columns h g m j (columns_end m (standing h g m k) g C)

pub standing_start : (h g : Matrix) (n m k : ℕ) → Clean h (n + k) (m + k) → Columns m h g → standing h g m k ≡ h
standing_start h g n m k K C =
    fun_ext (λ c. fun_ext (λ b. elim (dec_lt c m) [
      | yes l ↦ standing_given h g m k c b l ∙ C.at b c ∙ rw (lt-ltb c m l)
      | no l ↦ elim (dec_lt c (m + k)) [
        | yes r ↦ standing_added h g m k c b (omega arith) r
        | no r ↦ standing_none h g m k c b (omega arith) ∙ sym (K.checks c b (omega arith))
      ]
    ]))

-- one step on the columns q of the given checks: the added checks are those of h
module _ (h q : Matrix) (n m j : ℕ) (R : Raw (standing h q m (suc j)) n m (suc j)) where
  abbrev stood : Matrix
  stood = standing h q m (suc j)

  newest_row : stood (m + j) ≡ h (m + j)
  newest_row = fun_ext (λ b. standing_added h q m (suc j) (m + j) b (omega arith) (omega arith))

  pub standing_lower : (x : ℕ) → NextOne 512 (h (m + j)) 0 x → x ≡ lower_of stood (n + j) (m + j)
  standing_lower x F = reads_lower stood n m j R x (rw newest_row F)

  pub standing_higher : (x y : ℕ) → x ≡ lower_of stood (n + j) (m + j) → NextOne 512 (h (m + j)) (x + 1) y → y ≡ higher_of stood (n + j) (m + j)
  standing_higher x y e F = reads_higher stood n m j R x y e (rw newest_row F)

  -- taken back
  module _ (q' : Matrix) (u v : ℕ) (a : u ≡ lower_of stood (n + j) (m + j)) (b : v ≡ higher_of stood (n + j) (m + j)) (A : Newest stood (n + j) (m + j)) (J : Joined q q' u v (n + j)) where
    W : Newer stood m (n + j) (m + j) u v
    W = rw (a, b) (newer stood n m j R A)

    joined_at : (c b : ℕ) → standing h q' m j c b ≡ taken_back stood (n + j) (m + j) c b
    unfolding joined
    joined_at c b =
        elim (dec_lt c m) [
          | yes l ↦ standing_given h q' m j c b l ∙ J.at b c ∙ elim (ℕ_discrete b (n + j)) [
            | yes e ↦ rw (e, eq-eqb (n + j) (n + j) refl) (sym (back_bit stood (n + j) (m + j) c))
            | no d ↦ rw (ne_eqb b (n + j) d) (sym (back_at stood (n + j) (m + j) c b (λ i. omega arith) d ∙ rw (
              standing_given h q m (suc j) c b l,
              standing_given h q m (suc j) c (n + j) l,
              W.own b,
              ne_eqb b (n + j) d,
              or-false (eqb b u || eqb b v),
              and_comm (q (n + j) c) (eqb b u || eqb b v),
            )))
          ]
          | no l ↦ elim (dec_lt c (m + j)) [
            | yes r ↦
                let e = W.alone c (omega arith) (λ i. omega arith) in
                standing_added h q' m j c b (omega arith) r ∙ sym (standing_added h q m (suc j) c b (omega arith) (omega arith)) ∙ elim (ℕ_discrete b (n + j)) [
                  | yes i ↦ rw i (e ∙ sym (back_bit stood (n + j) (m + j) c))
                  | no d ↦ sym (back_at stood (n + j) (m + j) c b (λ i. omega arith) d ∙ rw (e, or-false))
                ]
            | no r ↦ standing_none h q' m j c b (omega arith) ∙ sym ((back_clean stood (n + j) (m + j) (raw_clean stood n m j R)).checks c b (omega arith))
          ]
        ]

    pub joined_back : standing h q' m j ≡ taken_back stood (n + j) (m + j)
    joined_back = fun_ext (λ c. fun_ext (λ b. joined_at c b))

    pub joined_columns : Columns m stood q → Columns m (standing h q' m j) q'
    unfolding joined
    joined_columns C =
        standing_columns h q' m j (λ b d l. J.at b d ∙ rw (columns_end m stood q C b d l, columns_end m stood q C (n + j) d l, and-false)
        (elim (ℕ_discrete b (n + j)) [ yes e ↦ rw (eq-eqb b (n + j) e) | no d ↦ rw (ne_eqb b (n + j) d) ]))
