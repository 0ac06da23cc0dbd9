-- 4,096 bytes hold every text that `mend` writes: the law is `mend_fits`. Assumes nothing.
use Prim.Native.Nat.{ℕ, zero, suc, ◌+◌, ◌*◌, ◌-◌, ◌^◌, ◌≤◌, ◌<◌}
use mathlib.Core.Path.{◌≡◌, refl}
use mathlib.Core.Bool.{Bool, true, false, cond, not}
use mathlib.Core.List.{List, []}
use native.Mathlib.Omega.{arith}
use native.Mathlib.Decide.{ℕ_discrete}
use borrow.Author.Tests.{eq-eqb, ne_eqb}
use lib.Dec.{eqb}
use lib.ListN.{length, length-append, replicate}
use Rattle.parity.specs.Matrix.{Matrix, lent, in_range, clean, rule_a, cause}
use Rattle.parity.specs.Cycles.{share, pairs, largest_share, Orthogonalised}
use Rattle.parity.specs.Record.{Loaded, faulty, loaded, loading}
use Rattle.parity.specs.Words.{peels}
use Rattle.parity.specs.Causes.{Reply, refusal, refuse, accepting}
use Rattle.parity.specs.Calls.{byte_of, wrong_length, wrong_byte, loaded_reply, load_outcome, orthogonalising, orthogonalised_reply, orthogonalise_outcome, peel_reply, peel_outcome}
use Rattle.parity.specs.Mend.{residue_text, wrong_input, report, unless_refused, mend}
use Rattle.parity.proofs.Finite.Sums.{is, is_true, is_false, count_bound}
use Rattle.parity.proofs.Splits.Pairs.{pairs_add}
use Rattle.parity.proofs.Splits.Pick.{picked}
use Rattle.parity.proofs.Splits.Orthogonal.{keeps}
use Rattle.lines.specs.Lines.{left_text}
use Rattle.receiver.specs.Stages.{peel_text, orthogonalise_text, load_into, load_text}
use Rattle.lines.proofs.Pieces.{decimal_most}
use Rattle.lines.proofs.Lines.{left_erased, left_known, refused_length, splits_length, residue_length, word_line_length, report_length}
use Rattle.receiver.proofs.Passing.{answered_accepted, orthogonalise_values}
use Rattle.receiver.proofs.Whole.{wrong_mend, right_mend}

-- a report: its numbers are of at most 20 digits
left_most : (x b : ℕ) → b < 2 ^ 64 → length (left_text x b) ≤ 21
left_most x b h =
    elim (ℕ_discrete x 2) [
      | yes e ↦ rw (left_erased x b e) (omega (arith, decimal_most b h))
      | no d ↦ rw (left_known x b d) (omega arith)
    ]

residue_most : (w : List ℕ) (n : ℕ) → n < 2 ^ 64 → length (residue_text w n) ≤ 21 * n
unfolding residue_text left_text
residue_most w zero h = omega arith
residue_most w (suc n) h = rw length-append (omega (arith, residue_most w n (omega arith), left_most (byte_of w n) n (omega arith)))

report_fits : (n splits total : ℕ) (w : List ℕ) → n ≤ 120 → splits < 2 ^ 64 → total < 2 ^ 64 → length (report n splits total w) ≤ 4096
report_fits n splits total w a b c =
    omega (
      arith,
      report_length n splits total w,
      splits_length splits total,
      decimal_most splits b,
      decimal_most total c,
      residue_length w n,
      residue_most w n (omega arith),
      word_line_length w n,
    )

-- a refusal's number is at most 14
refuse_most : (holds : Bool) (r after : Reply) → r.number ≤ 14 → after.number ≤ 14 → (refuse holds r after).number ≤ 14
refuse_most true r after a b = a
refuse_most false r after a b = b

four_most : (a b c d : Bool) → cond a 1 (cond b 2 (cond c 3 (cond d 4 0))) ≤ 14
four_most true b c d = omega arith
four_most false true c d = omega arith
four_most false false true d = omega arith
four_most false false false true = omega arith
four_most false false false false = omega arith

accepting_most : (ws : List ℕ) (n m k : ℕ) (after : Reply) → after.number ≤ 14 → (accepting ws n m k after).number ≤ 14
unfolding accepting cause
accepting_most ws n m k after a =
    elim (is (eqb (cause ws n m k) 0)) [
      | is_true q ↦ rw q a
      | is_false q ↦ rw q (four_most (not (eqb (length ws) 4096)) (not (in_range n m k)) (not (clean 8 (n + k) (m + k) 0 ws)) (not (rule_a (lent 8 ws) n m k)))
    ]

loaded_most : (l : Loaded) → (loaded_reply l).number ≤ 14
unfolding loaded_reply
loaded_most (faulty place) = omega arith
loaded_most (loaded n m k h) = omega arith

orthogonalised_most : (o : Orthogonalised) → (orthogonalised_reply o).number ≤ 14
unfolding orthogonalised_reply
orthogonalised_most o = elim (is o.finished) [ is_true q ↦ rw q (omega arith) | is_false q ↦ rw q (omega arith) ]

orthogonalise_most : (ws : List ℕ) (n m j : ℕ) → (orthogonalise_outcome ws n m j).reply.number ≤ 14
unfolding orthogonalise_outcome
orthogonalise_most ws n m j = accepting_most ws n m j _ (orthogonalised_most _)

peel_most : (ws : List ℕ) (n m k : ℕ) (w : List ℕ) → (peel_reply ws n m k w).number ≤ 14
unfolding peel_reply
peel_most ws n m k w =
    accepting_most ws n m k _
    (refuse_most (wrong_length (n + k) w) _ _ (omega arith)
    (refuse_most (wrong_byte 2 w) _ _ (omega arith)
    (refuse_most (not (peels (lent 8 ws) (n + k) (m + k) (byte_of w))) _ _ (omega arith) (omega arith))))

-- what orthogonalising carries: a share is at most 512, so that a split adds at most 130,816
pairs_most : (s t : ℕ) → s ≤ t → pairs s ≤ pairs t
pairs_most s t h = let e : s + (t - s) ≡ t = omega arith in omega (arith, rw e at (pairs_add s (t - s)))

record Few (k splits total : ℕ) : Type 0 where
  added : k ≤ 392
  made : splits ≤ k
  carried : total ≤ 130816 * k

split_few : (n m : ℕ) → m ≤ 120 → (h : Matrix) (k splits total : ℕ) (held : List ℕ) → Few k splits total → 2 ≤ largest_share h (n + k) (m + k) → (k ≡ 392 → ⊥)
    → Few (suc k) (suc splits) (total + pairs (largest_share h (n + k) (m + k)))
split_few n m b h k splits total held F l d =
    let s = largest_share h (n + k) (m + k) in
    let (i, j, e) = picked h (n + k) (m + k) (omega arith) in
    let most : s ≤ m + k = rw (← e) (unfold share in count_bound (m + k) _) in
    let f : pairs 512 ≡ 130816 = unfold pairs in refl in
    record {
      added = omega (arith, F.added);
      made = omega (arith, F.made);
      carried = omega (arith, F.carried, F.added, pairs_most s 512 (omega (arith, F.added)));
    }

orthogonal_few : (ws : List ℕ) (n m j : ℕ) → m ≤ 120 → j ≤ 392 → let o = orthogonalising ws n m j in Few o.k o.splits o.sum
orthogonal_few ws n m j b l =
    keeps n m (λ h k splits total held. Few k splits total) (split_few n m b) (393 - j) (lent 8 ws) j 0 0 []
    record { added = l; made = omega arith; carried = omega arith }

-- each stage's text
unless_fits : (r : Reply) (text : List ℕ) → r.number ≤ 14 → (r.number ≡ 0 → length text ≤ 4096) → length (unless_refused r text) ≤ 4096
unfolding unless_refused
unless_fits r text a f =
    elim (ℕ_discrete r.number 0) [
      | yes q ↦ rw (eq-eqb r.number 0 q) (f q)
      | no q ↦ rw (ne_eqb r.number 0 q) (omega (arith, refused_length r.number, decimal_most r.number (omega arith)))
    ]

peel_fits : (ws : List ℕ) (n m k splits total : ℕ) (w : List ℕ) → n ≤ 120 → splits < 2 ^ 64 → total < 2 ^ 64 → length (peel_text ws n m k splits total w) ≤ 4096
unfolding peel_text peel_outcome
peel_fits ws n m k splits total w a b c = unless_fits _ _ (peel_most ws n m k w) (λ q. report_fits n splits total _ a b c)

orthogonalise_fits : (ws : List ℕ) (n m j : ℕ) (sent : List ℕ) → length (orthogonalise_text ws n m j sent) ≤ 4096
unfolding orthogonalise_text
orthogonalise_fits ws n m j sent =
    unless_fits (orthogonalise_outcome ws n m j).reply _ (orthogonalise_most ws n m j) (λ q.
    let A = answered_accepted ws n m j q in
    let F = orthogonal_few ws n m j A.sound.m120 A.sound.k392 in
    rw (orthogonalise_values ws n m j A) (peel_fits _ n m _ _ _ _ A.sound.n120 (omega (arith, F.added, F.made)) (omega (arith, F.added, F.carried))))

load_fits : (source sent : List ℕ) → length (load_text source sent) ≤ 4096
unfolding load_text load_into load_outcome
load_fits source sent =
    let l = loaded_reply (loading source) in
    unless_fits _ _ (refuse_most (wrong_length 4096 (replicate 4096 0)) (refusal 1 []) l (omega arith) (loaded_most (loading source))) (λ q. orthogonalise_fits _ _ _ _ sent)

-- Every text is at most 4,096 bytes long.
pub mend_fits : (input : List ℕ) → length (mend input) ≤ 4096
mend_fits input =
    elim (is (wrong_input input)) [
      | is_true q ↦ rw (← wrong_mend input q) (omega (arith, refused_length 14, decimal_most 14 (omega arith)))
      | is_false q ↦ rw (← right_mend input q) (load_fits _ _)
    ]
