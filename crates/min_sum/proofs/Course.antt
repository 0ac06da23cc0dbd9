-- The course of the rounds: what the memory holds after each phase. Assumes nothing.
use mathlib.Core.Path.{◌≡◌, refl, sym, ap, ◌∙◌}
use mathlib.Core.Bool.{true, ◌&&◌, and-eq-true_iff}
use mathlib.Core.List.{List}
use Prim.Native.Nat.{ℕ, zero, suc, ◌+◌, ◌-◌, ◌<◌, ◌≤◌}
use native.Mathlib.Decide.{dec_lt}
use native.Mathlib.Omega.{arith}
use lib.ListN.{length, get_or-eq_default}
use lib.Ieee.{Float}
use Rattle.parity.specs.Matrix.{Matrix}
use Rattle.parity.specs.Soft.{Messages, message_at, settled, bit_sends, to_bits, to_checks, sent_after, result_after, sound, byte_for, float_for, but}
use Rattle.parity.specs.SoftPromises.{Agree}
use Rattle.messages.specs.Memory.{start, place, held, Above, Within, Holds}
use Rattle.phases.specs.Phases.{Answering, SoundAll, result_of}
use Rattle.phases.specs.Loops.{SentAll, Round, Last}
use Rattle.standing.specs.Standing.{Twice, Kept}
use Rattle.soft.specs.Store.{Holding, Sounds}
use Rattle.parity.specs.declared.Channel.{Channel}
use Rattle.parity.proofs.Soft.Sound.{check_sound, bit_sound}
use Rattle.parity.proofs.Soft.Cong.{gathered_at, check_at'}
use Rattle.parity.proofs.Soft.Standing.{sent_standing}
use Rattle.min_sum.specs.Rounds.{Ready}
use Rattle.messages.proofs.Places.{laid_same, start_mono, start_end, place_high}
use Rattle.phases.proofs.Sends.{result_is}

-- lists of the same lengths are memory too
pub ready_same : (ws : List ℕ) (M : ℕ) (w : List ℕ) (f : List Float) (ts : List ℕ) (xs : List Float) → Ready ws M w f ts xs → (us : List ℕ) (ys : List Float)
    → length us ≡ length ts → length ys ≡ length xs → Ready ws M w f us ys
ready_same ws M w f ts xs R us ys p q = record { laid = laid_same _ _ ts xs R.laid us ys p q; within = R.within; inner = R.inner; sounds = R.sounds }

module _ (h : Matrix) (N M : ℕ) where
  -- all checks have answered
  pub holds_heard : (m : Messages) (ts : List ℕ) (xs : List Float) → Holds h N M m ts xs → (ts' : List ℕ) (xs' : List Float) → length ts' ≡ 65536 → length xs' ≡ 65536
      → Answering h N M M (held h N ts xs) ts' xs' → Holds h N M (to_bits h N m) ts' xs'
  holds_heard m ts xs H ts' xs' k l A = record {
    tags = k;
    values = l;
    at = λ d a i j e. A.done d a i j e ∙ same_bits d a i;
  }
    where
      same_bits : (d a : ℕ) → d < M → to_bits h N (held h N ts xs) d a ≡ to_bits h N m d a
      same_bits d a i = unfold to_bits in check_at' N (λ b. h d b && but a b) (held h N ts xs d) (m d)
          (λ b q t. H.at d b i q ((and-eq-true_iff (h d b) (but a b)).0 t).0)

  -- what is held is a number where what is sent is
  pub holds_sound : (m : Messages) (ts : List ℕ) (xs : List Float) → Holds h N M m ts xs → SoundAll h N M m → SoundAll h N M (held h N ts xs)
  holds_sound m ts xs H S = record { at = λ c b i j e. rw (H.at c b i j e) (S.at c b i j e) }

  -- messages stay numbers
  module _ (channel : ℕ → Channel) (C : (b : ℕ) → b < N → sound (channel b) ≡ true) where
    heard_sound : (m : Messages) → SoundAll h N M m → SoundAll h N M (to_bits h N m)
    unfolding to_bits
    heard_sound m S = record { at = λ c b i j e. check_sound N (λ a. h c a && but b a) (m c) (λ a k t. S.at c a i k ((and-eq-true_iff (h c a) (but b a)).0 t).0) }

    sends_sound : (m : Messages) → SoundAll h N M m → SoundAll h N M (to_checks h M channel m)
    unfolding to_checks
    sends_sound m S = record {
      at = λ c b i j e. bit_sound (channel b) M (λ d. h d b && but c d) (λ d. m d b) (C b j)
          (λ d k t. S.at d b k j ((and-eq-true_iff (h d b) (but c d)).0 t).0);
    }

    pub sent_sound : (r : ℕ) → SoundAll h N M (sent_after h N M channel r)
    unfolding sent_after
    sent_sound zero = record { at = λ c b i j e. C b j }
    sent_sound (suc r) = sends_sound _ (heard_sound _ (sent_sound r))

-- all bits have sent
pub holds_sent : (h : Matrix) (N M : ℕ) → ((d a : ℕ) → h d a ≡ true → a < N) → (channel : ℕ → Channel) (m : Messages) (ts : List ℕ) (xs : List Float) → Holds h 512 M m ts xs
    → (ts' : List ℕ) (xs' : List Float) → SentAll h M N channel (held h 512 ts xs) ts' xs' → Holds h 512 M (to_checks h M channel m) ts' xs'
holds_sent h N M I channel m ts xs H ts' xs' S = record {
  tags = S.tags;
  values = S.values;
  at = λ d a i j e. S.sending.done d a i j (I d a e) e ∙ same_checks d a j;
}
  where
    same_checks : (d a : ℕ) → a < 512 → to_checks h M channel (held h 512 ts xs) d a ≡ to_checks h M channel m d a
    same_checks d a j = unfold to_checks bit_sends in ap settled (gathered_at (channel a) M (λ e. h e a && but d e) (λ e. held h 512 ts xs e a) (λ e. m e a)
        (λ e q t. H.at e a q j ((and-eq-true_iff (h e a) (but d e)).0 t).0))

-- one round
pub sent_suc : (h : Matrix) (N M : ℕ) (channel : ℕ → Channel) (r : ℕ) → to_checks h M channel (to_bits h N (sent_after h N M channel r)) ≡ sent_after h N M channel (suc r)
unfolding sent_after
sent_suc h N M channel r = refl

-- the results
pub results_are : (h : Matrix) (M r : ℕ) (channel : ℕ → Channel) (ts : List ℕ) (xs : List Float) → Holds h 512 M (to_bits h 512 (sent_after h 512 M channel r)) ts xs → (b : ℕ) → b < 512
    → result_of h 512 M channel ts xs b ≡ result_after h 512 M channel (suc r) b
unfolding result_after
results_are h M r channel ts xs H b k =
    result_is h 512 M b channel (to_bits h 512 (sent_after h 512 M channel r)) ts xs k H ∙ (let e : suc r - 1 ≡ r = omega arith in rw e)

-- a round takes the messages on by one
pub round_more : (h : Matrix) (N M : ℕ) → ((d a : ℕ) → h d a ≡ true → a < N) → (channel : ℕ → Channel) (r : ℕ) (ts : List ℕ) (xs : List Float) → Holds h 512 M (sent_after h 512 M channel r) ts xs
    → (ts' : List ℕ) (xs' : List Float) → Round h N M channel ts xs ts' xs' → Holds h 512 M (sent_after h 512 M channel (suc r)) ts' xs'
round_more h N M I channel r ts xs H ts' xs' R =
    let K = holds_heard h 512 M _ ts xs H R.mt R.mx R.heard.tags R.heard.values R.heard.answering in
    rw (← sent_suc h 512 M channel r) (holds_sent h N M I channel _ R.mt R.mx K ts' xs' R.sent)

-- a message's place is below all w of them
place_fits : (h : Matrix) (M d a : ℕ) → d < M → a < 512 → h d a ≡ true → place h 512 d a < start h 512 M
place_fits h M d a i j e = omega (arith, place_high h 512 d a j e, start_mono h 512 (suc d) M i)

-- keeping the messages leaves them
pub holds_kept : (h : Matrix) (M w : ℕ) (m : Messages) (ts : List ℕ) (xs : List Float) → w ≡ start h 512 M → Holds h 512 M m ts xs
    → (us : List ℕ) (ys : List Float) → Kept w w ts xs us ys → Holds h 512 M m us ys
unfolding held
holds_kept h M w m ts xs e H us ys K = record {
  tags = K.tags ∙ H.tags;
  values = K.values ∙ H.values;
  at = λ d a i j q. K.same (place h 512 d a) (omega (arith, e, place_fits h M d a i j q)) ∙ H.at d a i j q;
}

-- A round that leaves every message as it was in the copy of the round before: the messages are those after any later round.
pub round_stands : (h : Matrix) (M w r last : ℕ) (channel : ℕ → Channel) (ts : List ℕ) (xs : List Float) (ts' : List ℕ) (xs' : List Float) → Within h M → M ≤ 512 → w ≡ start h 512 M
    → r ≤ last → Holds h 512 M (sent_after h 512 M channel r) ts xs → Twice w w ts xs → Above h 512 ts xs ts' xs' → Holds h 512 M (sent_after h 512 M channel (suc r)) ts' xs'
    → w + w ≤ 65024 → Twice w w ts' xs' → Holds h 512 M (sent_after h 512 M channel last) ts' xs'
round_stands h M w r last channel ts xs ts' xs' W k z l H A U H' q B = record {
  tags = H'.tags;
  values = H'.values;
  at = λ d a i j e. H'.at d a i j e ∙ agree d a i j e ∙ sym (later d a i j e);
}
  where
    unchanged : (d a : ℕ) → d < M → a < 512 → h d a ≡ true → held h 512 ts' xs' d a ≡ held h 512 ts xs d a
    unchanged d a i j e =
        let p = place h 512 d a in
        let f : p < w = omega (arith, z, place_fits h M d a i j e) in
        unfold held in (B.at q p f ∙ U.at (w + p) (omega (arith, z, start_end h 512 M 512 W k)) (omega arith) ∙ sym (A.at q p f))

    agree : Agree h 512 M (sent_after h 512 M channel (suc r)) (sent_after h 512 M channel r)
    agree d a i j e = sym (H'.at d a i j e) ∙ unchanged d a i j e ∙ H.at d a i j e

    later : Agree h 512 M (sent_after h 512 M channel last) (sent_after h 512 M channel r)
    later = let p : last - r + r ≡ last = omega arith in rw p at (sent_standing h 512 M channel r agree (last - r))

-- the last round gives the results
pub last_results : (h : Matrix) (N M : ℕ) (channel : ℕ → Channel) (r : ℕ) (ts : List ℕ) (xs : List Float) → N ≤ 512 → Holds h 512 M (sent_after h 512 M channel r) ts xs
    → (w : List ℕ) (f : List Float) → Last h N M channel ts xs w f → Holding N (result_after h 512 M channel (suc r)) w f
last_results h N M channel r ts xs k H w f L =
    let K = holds_heard h 512 M _ ts xs H L.mt L.mx L.heard.tags L.heard.values L.heard.answering in
    let e : (b : ℕ) → b < N → result_of h 512 M channel L.mt L.mx b ≡ result_after h 512 M channel (suc r) b = λ b l. results_are h M r channel L.mt L.mx K b (omega arith) in
    record {
      tags = L.results.tags;
      values = L.results.values;
      tag = λ t l. L.results.tag t l ∙ ap byte_for (e t l);
      value = λ t l. L.results.value t l ∙ ap float_for (e t l);
    }

-- a channel value is a number, also past the word's end
pub channel_sound : (n : ℕ) (w : List ℕ) (f : List Float) → length w ≡ n → Sounds n (message_at w f) → (b : ℕ) → sound (message_at w f b) ≡ true
channel_sound n w f e S b = elim (dec_lt b n) [
  | yes k ↦ S.at b k
  | no k ↦ past b (omega arith)
]
  where
    past : (b : ℕ) → length w ≤ b → sound (message_at w f b) ≡ true
    past b k = unfold message_at in (rw (get_or-eq_default w 0 {n = b} k))

pub round_sound : (h : Matrix) (M n : ℕ) (w : List ℕ) (f : List Float) → length w ≡ n → Sounds n (message_at w f) → (r : ℕ) (ts : List ℕ) (xs : List Float)
    → Holds h 512 M (sent_after h 512 M (message_at w f) r) ts xs → SoundAll h 512 M (held h 512 ts xs)
round_sound h M n w f e S r ts xs H = holds_sound h 512 M _ ts xs H (sent_sound h 512 M (message_at w f) (λ b k. channel_sound n w f e S b) r)
