-- `back_accepted` meets its contract. Assumes nothing.
use mathlib.Core.Path.{◌≡◌, refl, sym, ap, ◌∙◌}
use mathlib.Core.List.{[], ◌∷◌}
use Prim.Native.Nat.{ℕ, ◌+◌, ◌-◌}
use native.Mathlib.Omega.{arith}
use mathlib.Core.Bool.{true, false}
use lib.Dec.{lit<}
use Rattle.parity.specs.Matrix.{Matrix, lent, rule_a}
use Rattle.parity.specs.Cycles.{split_of, taken_back}
use Rattle.parity.specs.Causes.{answer}
use Rattle.parity.proofs.Matrix.Clean.{cleans}
use Rattle.parity.proofs.Matrix.Accept.{accepts, pack_words}
use Rattle.parity.proofs.Splits.Splitting.{back_made}
use Rattle.parity.proofs.Splits.Splitting.{packed, back_none, back_broken}
use Rattle.split.proofs.ReadBack.{read_first, read_back, sound_back}
use Rattle.split.proofs.back_accepted.Goals as goal

pub returns-then-k-eq0 : goal.returns-then-k-eq0
returns-then-k-eq0 c = let s = c.args in
    rw (back_none s.words.now s.n s.m s.k ((accepts s.words.now s.n s.m s.k).0 c.requires) c.if-k-eq0.true) record { result_value = refl; words_after = refl }

pub overflow_add-z : goal.overflow_add-z
overflow_add-z c = let s = c.args in
    let a = c.requires in
    let A = (accepts s.words.now s.n s.m s.k).0 a in
    let S = A.sound in
    omega (arith, S.n120, S.k392)

pub overflow_add-c : goal.overflow_add-c
overflow_add-c c = let s = c.args in
    let a = c.requires in
    let A = (accepts s.words.now s.n s.m s.k).0 a in
    let S = A.sound in
    omega (arith, S.m120, S.k392)

pub next_one-u-requires : goal.next_one-u-requires
next_one-u-requires c = let s = c.args in
    let a = c.requires in
    let A = (accepts s.words.now s.n s.m s.k).0 a in
    let S = A.sound in
    (A.words, omega (arith, S.m120, S.k392), omega arith)

pub next_one-v-requires : goal.next_one-v-requires
next_one-v-requires c = let s = c.args in
    let a = c.requires in
    let d = c.if-k-eq0.false in
    let A = (accepts s.words.now s.n s.m s.k).0 a in
    let S = A.sound in
    (A.words, omega (arith, S.m120, S.k392), read_first (lent 8 s.words.now) s.n s.m (s.k - 1) (sound_back s.words.now s.n s.m s.k a d) _ c.next_one-u.ensures)

pub back_pair-share-requires : goal.back_pair-share-requires
back_pair-share-requires c = let s = c.args in
    let a = c.requires in
    let d = c.if-k-eq0.false in
    let A = (accepts s.words.now s.n s.m s.k).0 a in
    let S = A.sound in
    let R = read_back (lent 8 s.words.now) s.n s.m (s.k - 1) (sound_back s.words.now s.n s.m s.k a d) _ _ c.next_one-u.ensures c.next_one-v.ensures in
    let N = R.newer in
    record { words_len = (A.words, S.m120, omega (arith, S.m120, S.k392), omega (arith, N.below.0, S.n120, S.k392), omega (arith, N.below.1, S.n120, S.k392), omega (arith, S.n120, S.k392)); newer = N }

pub rule_a-requires : goal.rule_a-requires
rule_a-requires c = let s = c.args in
    let a = c.requires in
    let d = c.if-k-eq0.false in
    let A = (accepts s.words.now s.n s.m s.k).0 a in
    let S = A.sound in
    let R = read_back (lent 8 s.words.now) s.n s.m (s.k - 1) (sound_back s.words.now s.n s.m s.k a d) _ _ c.next_one-u.ensures c.next_one-v.ensures in
    let E = c.back_pair-share in (
      E.auto.words ∙ A.words,
      omega (arith, S.n120, S.k392),
      omega (arith, S.m120, S.k392),
      S.m120,
      (cleans 8 (s.n + (s.k - 1)) (s.m + (s.k - 1)) (lit< tt) _).1 (λ i. (c.slice_known-2-1.given i).fits, rw E.ensures.0 R.clean),
    )

pub returns-then-rule_a : goal.returns-then-rule_a
returns-then-rule_a c = let s = c.args in
    let a = c.requires in
    let d = c.if-k-eq0.false in
    let A = (accepts s.words.now s.n s.m s.k).0 a in
    let S = A.sound in
    let E = c.back_pair-share in
    let t = taken_back (lent 8 s.words.now) (s.n + (s.k - 1)) (s.m + (s.k - 1)) in
    let r : rule_a t s.n s.m (s.k - 1) ≡ true = ap (λ (g : Matrix). rule_a g s.n s.m (s.k - 1)) (sym E.ensures.0) ∙ sym c.rule_a.ensures ∙ c.if-rule_a.true in
    rw (back_made s.words.now s.n s.m s.k A d r)
    record { result_value = ap (λ (x : ℕ). answer (x ∷ (s.k - 1) ∷ [])) E.ensures.1; words_after = packed _ _ (E.auto.words ∙ A.words) (λ i. (c.slice_known-2-1.given i).fits) E.ensures.0 }

pub split_pair-requires : goal.split_pair-requires
split_pair-requires c = let s = c.args in
    let a = c.requires in
    let d = c.if-k-eq0.false in
    let A = (accepts s.words.now s.n s.m s.k).0 a in
    let S = A.sound in
    let R = read_back (lent 8 s.words.now) s.n s.m (s.k - 1) (sound_back s.words.now s.n s.m s.k a d) _ _ c.next_one-u.ensures c.next_one-v.ensures in
    let E = c.back_pair-share in
    let N = R.newer in record { words_len = (E.auto.words ∙ A.words, omega (arith, S.m120), omega arith, omega (arith, S.m120, S.k392), N.below.0, N.below.1, omega (arith, S.n120, S.k392)); clean = (rw E.ensures.0 R.clean, rw E.ensures.0 R.apart) }

pub returns : goal.returns
returns c = let s = c.args in
    let a = c.requires in
    let d = c.if-k-eq0.false in
    let A = (accepts s.words.now s.n s.m s.k).0 a in
    let S = A.sound in
    let R = read_back (lent 8 s.words.now) s.n s.m (s.k - 1) (sound_back s.words.now s.n s.m s.k a d) _ _ c.next_one-u.ensures c.next_one-v.ensures in
    let E = c.back_pair-share in
    let F = c.split_pair in
    let t = taken_back (lent 8 s.words.now) (s.n + (s.k - 1)) (s.m + (s.k - 1)) in
    let r : rule_a t s.n s.m (s.k - 1) ≡ false = ap (λ (g : Matrix). rule_a g s.n s.m (s.k - 1)) (sym E.ensures.0) ∙ sym c.rule_a.ensures ∙ c.if-rule_a.false in
    let e = F.ensures ∙ ap (λ (g : Matrix). split_of g (s.n + (s.k - 1)) (s.m + (s.k - 1)) c.next_one-u.result c.next_one-v.result) E.ensures.0 ∙ R.again in
    rw (back_broken s.words.now s.n s.m s.k A d r)
    record { result_value = refl; words_after = packed _ _ (F.auto.words ∙ E.auto.words ∙ A.words) (λ i. (c.type_inv.words i).fits) e ∙ pack_words s.words.now s.n s.m s.k A }
