-- `rule::rule_at` meets its contract. Assumes nothing.
use mathlib.Core.Path.{◌≡◌, sym, ◌∙◌}
use mathlib.Core.Bool.{true, false}
use mathlib.Core.List.{List}
use Prim.Native.Nat.{ℕ, ◌+◌, ◌*◌, ◌≤◌, ◌<◌}
use native.Mathlib.Omega.{arith}
use Rattle.parity.specs.Finite.{count}
use Rattle.parity.specs.Matrix.{lent, clean, rule_at}
use Rattle.parity.proofs.Matrix.Clean.{clean_bits}
use Rattle.rows.specs.Rows.{NextOne}
use Rattle.matrix.specs.Three.{Three}
use Rattle.matrix.proofs.Three.{not_three, not_own, not_lower, these_three}
use Rattle.columns.proofs.Apart.{none_columns, columns_none}
use Rattle.matrix.proofs.Passing.{unless, judged_no, judged, rule_given}
use Rattle.matrix.proofs.rule.rule_at.Goals as goal

-- check m + j of a clean matrix has no one from bit n + k on
end : (ws : List ℕ) (n m k j : ℕ) → clean 8 (n + k) (m + k) 0 ws ≡ true → (b : ℕ) → n + k ≤ b → lent 8 ws (m + j) b ≡ false
end ws n m k j e b l = (clean_bits 8 (n + k) (m + k) ws e).bits (m + j) b l

-- its three bits, by the search for the next one
lowest : (ws : List ℕ) (n m k j : ℕ) → j < k → n + k ≤ 512 → clean 8 (n + k) (m + k) 0 ws ≡ true → count 512 (lent 8 ws (m + j)) ≡ 3
    → (x : ℕ) → NextOne 512 (lent 8 ws (m + j)) 0 x → (y : ℕ) → NextOne 512 (lent 8 ws (m + j)) (x + 1) y → lent 8 ws (m + j) (n + j) ≡ true → y < n + j
    → Three (lent 8 ws) (m + j) x y (n + j)
lowest ws n m k j l f e three x X y Y own k' = these_three 512 (lent 8 ws) n m k j l (end ws n m k j e) f three x X y Y own k'

pub returns-then-weight-ne3 : goal.returns-then-weight-ne3
returns-then-weight-ne3 c =
    let a = c.args in
    let q = c.requires.words_len in
    let above = end a.words.now a.n a.m a.k a.j c.requires.words_value.0 in
    judged_no a.width (lent 8 a.words.now) a.n a.m a.k a.j _
    (not_three 512 (lent 8 a.words.now) a.n a.m a.k a.j (omega arith) above (omega arith) (λ e. c.if-weight-ne3.true (c.weight.ensures ∙ e)))

pub returns-then-not-has : goal.returns-then-not-has
returns-then-not-has c =
    let a = c.args in
    let q = c.requires.words_len in
    let above = end a.words.now a.n a.m a.k a.j c.requires.words_value.0 in
    judged_no a.width (lent 8 a.words.now) a.n a.m a.k a.j _
    (not_own 512 (lent 8 a.words.now) a.n a.m a.k a.j (omega arith) above (omega arith) (sym c.has.ensures ∙ c.if-not-has.true))

pub returns-then-z-y : goal.returns-then-z-y
returns-then-z-y c =
    let a = c.args in
    let q = c.requires.words_len in
    let above = end a.words.now a.n a.m a.k a.j c.requires.words_value.0 in
    let three : count 512 (lent 8 a.words.now (a.m + a.j)) ≡ 3 = sym c.weight.ensures ∙ c.if-weight-ne3.false in
    judged_no a.width (lent 8 a.words.now) a.n a.m a.k a.j _
    (not_lower 512 (lent 8 a.words.now) a.n a.m a.k a.j (omega arith) above (omega arith) three c.next_one-x.result c.next_one-x.ensures c.next_one-y.result c.next_one-y.ensures
    (omega (arith, c.if-z-y.true)))

pub returns-then-not-apart : goal.returns-then-not-apart
returns-then-not-apart c =
    let a = c.args in
    let q = c.requires.words_len in
    let these = lowest a.words.now a.n a.m a.k a.j (omega arith) (omega arith) c.requires.words_value.0 (sym c.weight.ensures ∙ c.if-weight-ne3.false)
    c.next_one-x.result c.next_one-x.ensures c.next_one-y.result c.next_one-y.ensures (sym c.has.ensures ∙ c.if-not-has.false) (omega (arith, c.if-z-y.false)) in
    let m128 : a.m ≤ 2 * 64 = omega arith in
    judged_no a.width (lent 8 a.words.now) a.n a.m a.k a.j _
    (unless (rule_at (lent 8 a.words.now) a.n a.m a.k a.j) c.apart.result
    (λ t. c.apart.ensures.none_yes (columns_none 128 (lent 8 a.words.now) (lent 2 a.cols.now) a.m c.next_one-x.result c.next_one-y.result (a.n + a.j) c.requires.words_value.1 m128
    (rule_given (lent 8 a.words.now) a.n a.m a.k a.j c.next_one-x.result c.next_one-y.result (omega arith) these t)))
    c.if-not-apart.true)

pub fresh-requires : goal.fresh-requires
fresh-requires c =
    let a = c.args in
    let q = c.requires.words_len in
    let these = lowest a.words.now a.n a.m a.k a.j (omega arith) (omega arith) c.requires.words_value.0 (sym c.weight.ensures ∙ c.if-weight-ne3.false)
    c.next_one-x.result c.next_one-x.ensures c.next_one-y.result c.next_one-y.ensures (sym c.has.ensures ∙ c.if-not-has.false) (omega (arith, c.if-z-y.false)) in
    record { words_len = (q.0, q.2, q.3, omega arith, omega arith); three = (these, c.requires.words_value.2) }

pub returns : goal.returns
returns c =
    let a = c.args in
    let q = c.requires.words_len in
    let these = lowest a.words.now a.n a.m a.k a.j (omega arith) (omega arith) c.requires.words_value.0 (sym c.weight.ensures ∙ c.if-weight-ne3.false)
    c.next_one-x.result c.next_one-x.ensures c.next_one-y.result c.next_one-y.ensures (sym c.has.ensures ∙ c.if-not-has.false) (omega (arith, c.if-z-y.false)) in
    let m128 : a.m ≤ 2 * 64 = omega arith in
    let top : a.n + a.j < 64 * a.width = omega arith in
    judged a.width (lent 8 a.words.now) a.n a.m a.k a.j c.next_one-x.result c.next_one-y.result a.pairs.now _ c.fresh.result (omega arith) top these c.requires.words_value.2
    (none_columns 128 (lent 8 a.words.now) (lent 2 a.cols.now) a.m c.next_one-x.result c.next_one-y.result (a.n + a.j) c.requires.words_value.1 m128 (c.apart.ensures.yes_none c.if-not-apart.false))
    c.fresh.ensures
