-- `split_accepted` meets its contract. Assumes nothing.
use mathlib.Core.Path.{◌≡◌, refl, sym, ap, ◌∙◌}
use mathlib.Core.Bool.{Bool, true, false, not, not-not}
use native.Mathlib.Numerals.{add-one}
use mathlib.Core.List.{[], ◌∷◌}
use Prim.Native.Nat.{ℕ, ◌+◌}
use native.Mathlib.Omega.{arith}
use Rattle.parity.specs.Matrix.{lent}
use Rattle.parity.specs.Causes.{refusal}
use Rattle.parity.specs.Calls.{not_pair}
use Rattle.parity.proofs.Matrix.Accept.{accepts}
use Rattle.parity.proofs.Splits.Splitting.{is_pair, split_made, packed, split_no_pair, split_low_share, split_no_room}
use Rattle.pairs.proofs.Columns.{columns_shared}
use Rattle.exchange.proofs.Common.{meeting_columns}
use borrow.Author.Rules.{rules}
use Rattle.split.proofs.split_accepted.Goals as goal

-- behind cause 7 the two are a pair
paired : (p r : Bool) → r ≡ not p → r ≡ true → p ≡ false
paired p r e t = sym (not-not p) ∙ ap not (sym e ∙ t)

pub overflow_add-bits : goal.overflow_add-bits
overflow_add-bits c = let s = c.args in
    let S = ((accepts s.words.now s.n s.m s.k).0 c.requires).sound in
    omega (arith, S.n120, S.k392)

pub overflow_add-checks : goal.overflow_add-checks
overflow_add-checks c = let s = c.args in
    let S = ((accepts s.words.now s.n s.m s.k).0 c.requires).sound in
    omega (arith, S.m120, S.k392)

pub returns-then-not-is_pair : goal.returns-then-not-is_pair
returns-then-not-is_pair c = let s = c.args in
    let A = (accepts s.words.now s.n s.m s.k).0 c.requires in
    let p : not_pair (s.n + s.k) s.u.0 s.v.0 ≡ true = sym (not-not _) ∙ ap not (sym c.is_pair.ensures ∙ c.if-not-is_pair.true) in
    rw (split_no_pair s.words.now s.n s.m s.k A s.u.0 s.v.0 p) record { result_value = refl; words_after = refl }

pub column-both-requires : goal.column-both-requires
column-both-requires c = let s = c.args in
    let A = (accepts s.words.now s.n s.m s.k).0 c.requires in
    let S = A.sound in
    let (un, vn, uv) = is_pair (s.n + s.k) s.u.0 s.v.0 (paired _ _ c.is_pair.ensures c.if-not-is_pair.false) in
    (A.words, omega (arith, S.m120, S.k392), omega (arith, S.n120, S.k392))

pub column-other-requires : goal.column-other-requires
column-other-requires c = let s = c.args in
    let A = (accepts s.words.now s.n s.m s.k).0 c.requires in
    let S = A.sound in
    let (un, vn, uv) = is_pair (s.n + s.k) s.u.0 s.v.0 (paired _ _ c.is_pair.ensures c.if-not-is_pair.false) in
    (A.words, omega (arith, S.m120, S.k392), omega (arith, S.n120, S.k392))

pub returns-then-share-lt2 : goal.returns-then-share-lt2
returns-then-share-lt2 c = let s = c.args in
    let A = (accepts s.words.now s.n s.m s.k).0 c.requires in
    let e = columns_shared 8 (lent 8 s.words.now) c.column-both.result c.column-other.result (s.m + s.k) s.u.0 s.v.0 (omega (arith, A.sound.m120, A.sound.k392)) c.column-both.ensures c.column-other.ensures in
    let shared = c.share_in-share.ensures.0 ∙ e.0 in
    rw (split_low_share s.words.now s.n s.m s.k A s.u.0 s.v.0 (paired _ _ c.is_pair.ensures c.if-not-is_pair.false) (rw shared at c.if-share-lt2.true)) record { result_value = ap (λ (x : ℕ). refusal 8 (x ∷ [])) shared; words_after = refl }

pub returns-then-k-eq392 : goal.returns-then-k-eq392
returns-then-k-eq392 c = let s = c.args in
    let A = (accepts s.words.now s.n s.m s.k).0 c.requires in
    let e = columns_shared 8 (lent 8 s.words.now) c.column-both.result c.column-other.result (s.m + s.k) s.u.0 s.v.0 (omega (arith, A.sound.m120, A.sound.k392)) c.column-both.ensures c.column-other.ensures in
    let shared = c.share_in-share.ensures.0 ∙ e.0 in
    rw (split_no_room s.words.now s.n s.m s.k A s.u.0 s.v.0 (paired _ _ c.is_pair.ensures c.if-not-is_pair.false) (rw shared at c.if-share-lt2.false) c.if-k-eq392.true) record { result_value = refl; words_after = refl }

pub split_columns-requires : goal.split_columns-requires
split_columns-requires c = let s = c.args in
    let A = (accepts s.words.now s.n s.m s.k).0 c.requires in
    let S = A.sound in
    let (un, vn, uv) = is_pair (s.n + s.k) s.u.0 s.v.0 (paired _ _ c.is_pair.ensures c.if-not-is_pair.false) in
    let room = c.if-k-eq392.false in
    let b = meeting_columns _ (s.m + s.k) (s.m + s.k) _ s.u.0 s.v.0 S.clean (record { never = λ e l k. absurd (omega arith) }) 8 _ _ (omega (arith, S.m120, S.k392)) c.column-both.ensures c.column-other.ensures in
    record { words_len = (A.words, omega (arith, S.m120, S.k392), un, vn, omega (arith, S.n120, S.k392), search rules, search rules); clean = (S.clean, b) }

pub overflow_add-next : goal.overflow_add-next
overflow_add-next c = let S = ((accepts c.args.words.now c.args.n c.args.m c.args.k).0 c.requires).sound in
    omega (arith, S.k392)

pub returns : goal.returns
returns c = let s = c.args in
    let A = (accepts s.words.now s.n s.m s.k).0 c.requires in
    let e = columns_shared 8 (lent 8 s.words.now) c.column-both.result c.column-other.result (s.m + s.k) s.u.0 s.v.0 (omega (arith, A.sound.m120, A.sound.k392)) c.column-both.ensures c.column-other.ensures in
    let shared = c.share_in-share.ensures.0 ∙ e.0 in
    let E = c.split_columns in
    rw (split_made s.words.now s.n s.m s.k A s.u.0 s.v.0 (paired _ _ c.is_pair.ensures c.if-not-is_pair.false) (rw shared at c.if-share-lt2.false) c.if-k-eq392.false, add-one)
    record { result_value = rw (← shared, ← (c.share_in-share.ensures.1 ∙ e.1)) refl; words_after = packed _ _ (E.auto.words ∙ A.words) (λ i. (c.type_inv.words i).fits) E.ensures }
