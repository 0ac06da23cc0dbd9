-- What copying a house code answers and leaves, and that every house code is accepted with k = 0. Assumes nothing.
use mathlib.Core.Path.{◌≡◌, refl, sym, ap, ◌∙◌}
use mathlib.Core.List.{List, [], ◌∷◌}
use Prim.Native.Nat.{ℕ, zero, suc, ◌+◌, ◌-◌, ◌^◌, ◌≤◌, ◌<◌}
use native.Mathlib.Omega.{arith}
use native.Mathlib.Decide.{ℕ_discrete, dec_lt}
use lib.ListN.{length, get_or}
use borrow.Author.Tests.{eq-eqb, ne_eqb, lt-ltb, le-ltb}
use Rattle.parity.specs.Finite.{all}
use Rattle.parity.specs.Matrix.{lent, pack, rule_a, cause}
use Rattle.parity.specs.House.{circulant, hamming, code_of, hamming_code, house_code, known}
use Rattle.parity.specs.Causes.{Reply, answer, refusal, Outcome}
use Rattle.parity.specs.Calls.{house_outcome}
use Rattle.parity.specs.HousePromises.{HouseCopied}
use Rattle.parity.specs.Sound.{Clean, Sound}
use Rattle.parity.proofs.Matrix.Accept.{accepts, pack_same, pack_accepted}
use Rattle.parity.proofs.House.Rules.{code_clean}

-- by the cause that decides
module _ (name : ℕ) (ws : List ℕ) where
  pub house_length : (length ws ≡ 4096 → ⊥) → house_outcome name ws ≡ record { reply = refusal 1 []; after = ws }
  unfolding house_outcome
  house_length d = rw (ne_eqb (length ws) 4096 d)

  pub house_unknown : length ws ≡ 4096 → 5 ≤ name → house_outcome name ws ≡ record { reply = refusal 17 []; after = ws }
  unfolding house_outcome known
  house_unknown e l = rw (eq-eqb (length ws) 4096 e, le-ltb name 5 l)

  pub house_right : length ws ≡ 4096 → name < 5
      → house_outcome name ws ≡ record { reply = answer ((house_code name).n ∷ (house_code name).m ∷ []); after = pack 8 (house_code name).matrix }
  unfolding house_outcome known
  house_right e l = rw (eq-eqb (length ws) 4096 e, lt-ltb name 5 l)

-- the lengths and the checks of the five codes
pub house_sizes : (name : ℕ) → name < 5
    → ((house_code name).n < 32) × ((house_code name).m < 24) × (1 ≤ (house_code name).n)
unfolding house_code hamming_code code_of
house_sizes zero l = (omega arith, omega arith, omega arith)
house_sizes (suc zero) l = (omega arith, omega arith, omega arith)
house_sizes (suc (suc zero)) l = (omega arith, omega arith, omega arith)
house_sizes (suc (suc (suc zero))) l = (omega arith, omega arith, omega arith)
house_sizes (suc (suc (suc (suc zero)))) l = (omega arith, omega arith, omega arith)
house_sizes (suc (suc (suc (suc (suc i))))) l = absurd (omega arith)

-- no code has a one outside its bits and checks
pub house_clean : (name : ℕ) → Clean (house_code name).matrix (house_code name).n (house_code name).m
unfolding house_code hamming_code
house_clean zero = unfold code_of in code_clean 23 23 circulant
house_clean (suc i) = unfold code_of in code_clean (2 ^ (i + 2) - 1) (i + 2) hamming

pub house_sound : (name : ℕ) → name < 5 → Sound (house_code name).matrix (house_code name).n (house_code name).m 0
unfolding rule_a all
house_sound name l =
    let s = house_sizes name l in
    let K = house_clean name in
    record {
      n1 = s.2;
      n120 = omega arith;
      m120 = omega arith;
      k392 = omega arith;
      clean = record { checks = λ c b k. K.checks c b (omega arith); bits = λ c b k. K.bits c b (omega arith) };
      rule = refl;
    }

-- The promise: what is copied is accepted with k = 0, and is the matrix of the rule.
copied_right : (ws : List ℕ) (name : ℕ) → length ws ≡ 4096 → name < 5
    → (cause (house_outcome name ws).after (house_code name).n (house_code name).m 0 ≡ 0) × (lent 8 (house_outcome name ws).after ≡ (house_code name).matrix)
copied_right ws name e l =
    let S = house_sound name l in
    let f = ap (λ (o : Outcome). o.after) (house_right name ws e l) in
    (rw f ((accepts _ _ _ 0).1 (pack_accepted (house_code name).matrix _ _ 0 S)), rw f (pack_same (house_code name).matrix _ _ 0 S))

pub house_copied : HouseCopied
house_copied ws name n m e =
    elim (ℕ_discrete (length ws) 4096) [
      | no d ↦
          let z : ◌≡◌ {A = ℕ} 1 0 = ap (λ (r : Reply). r.number) (sym (ap (λ (o : Outcome). o.reply) (house_length name ws d)) ∙ e) in
          absurd (omega arith)
      | yes q ↦ elim (dec_lt name 5) [
        | no d ↦
            let z : ◌≡◌ {A = ℕ} 17 0 = ap (λ (r : Reply). r.number) (sym (ap (λ (o : Outcome). o.reply) (house_unknown name ws q (omega arith))) ∙ e) in
            absurd (omega arith)
        | yes l ↦
            let f : answer ((house_code name).n ∷ (house_code name).m ∷ []) ≡ answer (n ∷ m ∷ []) = sym (ap (λ (o : Outcome). o.reply) (house_right name ws q l)) ∙ e in
            let en : (house_code name).n ≡ n = ap (λ (r : Reply). get_or r.values 0 0) f in
            let em : (house_code name).m ≡ m = ap (λ (r : Reply). get_or r.values 1 0) f in
            rw (en, em) at (copied_right ws name q l)
      ]
    ]
