-- Loading and writing undo each other, as the calls answer and leave lists, and a matrix that loads is accepted. Assumes nothing.
use mathlib.Core.Path.{◌≡◌, refl, sym, ap, ◌∙◌}
use mathlib.Core.Bool.{false}
use mathlib.Core.List.{List, [], ◌∷◌, ◌++◌}
use Prim.Native.Nat.{ℕ, zero, suc, ◌+◌, ◌≤◌}
use native.Mathlib.Decide.{ℕ_discrete, dec_lt}
use native.Mathlib.Omega.{arith}
use lib.ListN.{get_or, length, drop, take}
use lib.Seq.{take_at}
use borrow.Author.Tests.{lt-ltb}
use Rattle.parity.specs.Matrix.{Matrix, lent, pack, cause}
use Rattle.parity.specs.Splits.{Pair, sum_all, all_back, recovered_list, not_built}
use Rattle.parity.specs.Record.{Loaded, faulty, loaded, loading, record_of, form_for, written, second_form}
use Rattle.parity.specs.declared.Form.TheVariants.{First, Second, Third}
use Rattle.parity.specs.Causes.{Reply, answer, Outcome}
use Rattle.parity.specs.Calls.{load_outcome, write_outcome}
use Rattle.parity.specs.RecordPromises.{WrittenLoads, SecondFormKept, FirstFormNumbered, ThirdFormKept, WrittenMost, NotRebuilt}
use Rattle.parity.specs.Sound.{Sound}
use Rattle.parity.proofs.Finite.Sums.{is_true, is_false, is}
use Rattle.parity.proofs.Matrix.Accept.{Accepted, accepts, pack_same, pack_accepted, pack_words, accepting_refuses}
use Rattle.parity.proofs.Lists.Built.{Built, good}
use Rattle.parity.proofs.Lists.Rebuilt.{length_recovered, built_recovers, list_built, list_recovered, all_sound, built_written, written_built, not_rebuilt}
use Rattle.parity.proofs.Record.Records.{load_length, load_faulty, load_right, write_unbuilt, write_short, write_made}
use Rattle.parity.proofs.Record.Writing.{record_most}
use Rattle.parity.proofs.Record.ReadWritten.{form_head}
use Rattle.parity.proofs.Record.ReadBack.{Sourced, loading_back}
use Rattle.parity.proofs.Record.Performed.{loading_plain, loading_splits}
use Rattle.parity.proofs.Record.SecondForm.{second_form_lem, second_third, length_second}

-- Where loading answers, the record loads.
pub record Answered (source held : List ℕ) (n m k : ℕ) : Type 0 where
  pub words : length held ≡ 4096
  pub matrix : Matrix
  pub loads : loading source ≡ loaded n m k matrix

load_cases : (source held : List ℕ) (n m k : ℕ) → length held ≡ 4096 → (r : Loaded) → loading source ≡ r → (load_outcome source held).reply ≡ answer (n ∷ m ∷ k ∷ [])
    → Answered source held n m k
load_cases source held n m k l (faulty p) f e =
    absurd (omega (arith, ap (λ (x : Reply). x.number) (sym (ap (λ (o : Outcome). o.reply) (load_faulty source held p l f)) ∙ e)))
load_cases source held n m k l (loaded n' m' k' h) f e =
    let t = sym (ap (λ (o : Outcome). o.reply) (load_right source held n' m' k' h l f)) ∙ e in
    let a : n' ≡ n = ap (λ (x : Reply). get_or x.values 0 0) t in
    let b : m' ≡ m = ap (λ (x : Reply). get_or x.values 1 0) t in
    let d : k' ≡ k = ap (λ (x : Reply). get_or x.values 2 0) t in
    record { words = l; matrix = h; loads = rw (← a, ← b, ← d) f }

pub load_answered : (source held : List ℕ) (n m k : ℕ) → (load_outcome source held).reply ≡ answer (n ∷ m ∷ k ∷ []) → Answered source held n m k
load_answered source held n m k e =
    elim (ℕ_discrete (length held) 4096) [
      | yes l ↦ load_cases source held n m k l (loading source) refl e
      | no d ↦ absurd (omega (arith, ap (λ (x : Reply). x.number) (sym (ap (λ (o : Outcome). o.reply) (load_length source held d)) ∙ e)))
    ]

pub loaded_words_lem : (source held : List ℕ) (n m k : ℕ) (A : Answered source held n m k) → (load_outcome source held).after ≡ pack 8 A.matrix
loaded_words_lem source held n m k A = ap (λ (o : Outcome). o.after) (load_right source held n m k A.matrix A.words A.loads)

-- The splits of a record that loads build its matrix, and what is written of it is made of its checks and its splits.
module _ (source : List ℕ) (n m k : ℕ) (h : Matrix) (S : Sourced source n m k h) where
  pub sourced_built : Built S.checks n m h k (sum_all S.checks n m S.pairs)
  sourced_built = rw (S.matrix, S.size) (list_built S.checks n m S.pairs S.right)

  pub sourced_sound : Sound h n m k
  sourced_sound = (good S.checks n m S.sound sourced_built).ok

  sourced_pairs : recovered_list h n m k ≡ S.pairs
  sourced_pairs = rw (S.matrix, S.size) (list_recovered S.checks n m S.sound S.pairs S.right)

  sourced_written : written h n m k ≡ record_of (form_for k) S.checks n m S.pairs
  unfolding written
  sourced_written = rw ((built_recovers S.checks n m S.sound sourced_built).base, sourced_pairs)

  plain_written : k ≡ 0 → written h n m k ≡ record_of Second S.checks n m S.pairs
  plain_written z = sourced_written ∙ ap (λ (x : ℕ). record_of (form_for x) S.checks n m S.pairs) z

  no_pairs : k ≡ 0 → S.pairs ≡ []
  no_pairs z = empty S.pairs (sym S.size ∙ z)
    where
      empty : (ps : List Pair) → length ps ≡ 0 → ps ≡ []
      empty [] e = refl
      empty (p ∷ ps) e = absurd (omega arith)

-- A matrix that loads is accepted.
pub load_accepted : (source held : List ℕ) (n m k : ℕ) → (load_outcome source held).reply ≡ answer (n ∷ m ∷ k ∷ []) → Accepted (load_outcome source held).after n m k
load_accepted source held n m k e =
    let A = load_answered source held n m k e in
    rw (loaded_words_lem source held n m k A) (pack_accepted A.matrix n m k (sourced_sound source n m k A.matrix (loading_back source n m k A.matrix A.loads)))

-- A record that loads to a matrix is written as what is written of the matrix.
load_writes : (source held target out : List ℕ) (n m k : ℕ) (A : Answered source held n m k) → written A.matrix n m k ≡ out → length out ≡ length source
    → length source ≤ length target
    → write_outcome (load_outcome source held).after n m k target ≡ record { reply = answer (length source ∷ []); after = out ++ drop (length source) target }
load_writes source held target out n m k A w e l =
    let S = loading_back source n m k A.matrix A.loads in
    let H = sourced_sound source n m k A.matrix S in
    let p = pack_same A.matrix n m k H in
    let c = (accepts (pack 8 A.matrix) n m k).1 (pack_accepted A.matrix n m k H) in
    let b = built_written S.checks n m S.sound (sourced_built source n m k A.matrix S) in
    rw (loaded_words_lem source held n m k A, ← e)
    (rw (p, w) at (write_made (pack 8 A.matrix) n m k target c (rw p b) (rw (p, w) (omega arith))))

-- A second_form_lem record that loads, once written, gives the same record words,
pub second_kept : SecondFormKept
second_kept source q held target n m k e l =
    let A = load_answered source held n m k e in
    let S = loading_back source n m k A.matrix A.loads in
    let f = form_head Second (get_or source 0 0) q in
    load_writes source held target source n m k A (plain_written source n m k A.matrix S (S.plain (rw f)) ∙ (rw f at S.words)) refl l

-- a first-form one those of its second form,
pub first_numbered : FirstFormNumbered
first_numbered source q held target n m k e l =
    let A = load_answered source held n m k e in
    let S = loading_back source n m k A.matrix A.loads in
    let f = form_head First (get_or source 0 0) q in
    let z : k ≡ 0 = S.plain (rw f) in
    let t = no_pairs source n m k A.matrix S z in
    let r : record_of First S.checks n m [] ≡ source = rw (f, t) at S.words in
    let w = rw t at (plain_written source n m k A.matrix S z) in
    load_writes source held target (second_form source) n m k A
    (w ∙ sym (second_form_lem S.checks n m S.sound.n120 S.sound.m120) ∙ ap second_form r) (length_second source) l

-- a third-form one with splits the same, and one without those of its second form.
third_splits : (source held target : List ℕ) (n m k : ℕ) → form_for k ≡ Third → (A : Answered source held n m k)
    → (S : Sourced source n m k A.matrix) → record_of Third S.checks n m S.pairs ≡ source → length source ≤ length target
    → write_outcome (load_outcome source held).after n m k target ≡ record { reply = answer (length source ∷ []); after = source ++ drop (length source) target }
third_splits source held target n m k g A S r l =
    load_writes source held target source n m k A (sourced_written source n m k A.matrix S ∙ rw g r) refl l

third_plain : (source held target : List ℕ) (n m k : ℕ) → k ≡ 0 → (A : Answered source held n m k)
    → (S : Sourced source n m k A.matrix) → record_of Third S.checks n m S.pairs ≡ source → length source ≤ length target
    → write_outcome (load_outcome source held).after n m k target ≡ record { reply = answer (length source ∷ []); after = second_form source ++ drop (length source) target }
third_plain source held target n m k z A S r l =
    let t = no_pairs source n m k A.matrix S z in
    let s : record_of Third S.checks n m [] ≡ source = rw t at r in
    let w = rw t at (plain_written source n m k A.matrix S z) in
    load_writes source held target (second_form source) n m k A
    (w ∙ sym (second_third S.checks n m S.sound.n120 S.sound.m120) ∙ ap second_form s) (length_second source) l

pub third_kept : ThirdFormKept
third_kept source q held target n m k e l =
    let A = load_answered source held n m k e in
    let S = loading_back source n m k A.matrix A.loads in
    let f = form_head Third (get_or source 0 0) q in
    let r = rw f at S.words in
    elim (dec_lt 0 k) [
      | yes t ↦ rw (lt-ltb 0 k t) (third_splits source held target n m k (form_third k t) A S r l)
      | no t ↦ let z : k ≡ 0 = omega arith in rw z (rw z at (third_plain source held target n m k z A S r l))
    ]
  where
    form_third : (k : ℕ) → 1 ≤ k → form_for k ≡ Third
    form_third zero l = absurd (omega arith)
    form_third (suc k) l = refl

refused_number : (ws : List ℕ) (n m k : ℕ) (target : List ℕ) → (cause ws n m k ≡ 0 → ⊥) → (write_outcome ws n m k target).reply.number ≡ 0 → cause ws n m k ≡ 0
unfolding write_outcome
refused_number ws n m k target d e = rw (accepting_refuses ws n m k _ d) at e

-- Where writing answers, the matrix is accepted, splits built it, and the record is long enough.
write_answered : (ws : List ℕ) (n m k : ℕ) (target : List ℕ) → (write_outcome ws n m k target).reply.number ≡ 0
    → (cause ws n m k ≡ 0) × (not_built (lent 8 ws) n m k ≡ false) × (length (written (lent 8 ws) n m k) ≤ length target)
write_answered ws n m k target e =
    elim (ℕ_discrete (cause ws n m k) 0) [
      | no d ↦ absurd (d (refused_number ws n m k target d e))
      | yes c ↦ elim (is (not_built (lent 8 ws) n m k)) [
        | is_true b ↦ absurd (omega (arith, ap (λ (o : Outcome). o.reply.number) (write_unbuilt ws n m k target c b)))
        | is_false b ↦ elim (dec_lt (length target) (length (written (lent 8 ws) n m k))) [
          | yes l ↦ absurd (omega (arith, ap (λ (o : Outcome). o.reply.number) (write_short ws n m k target c b l)))
          | no l ↦ (c, b, omega arith)
        ]
      ]
    ]

-- What is written of a matrix that splits built loads to it.
written_loads : (k : ℕ) (h : Matrix) (n m : ℕ) → Sound h n m k → not_built h n m k ≡ false → loading (written h n m k) ≡ loaded n m k h
unfolding written
written_loads zero h n m S b = unfold all_back recovered_list in loading_plain Second h n m S
written_loads (suc k) h n m S b =
    let g = all_back h n m (suc k) in
    let G = all_sound n m (suc k) h S in
    let R = built_recovers g n m G (written_built n m (suc k) h S b) in
    loading_splits g n m G (recovered_list h n m (suc k)) R.legal ∙ rw (length_recovered (suc k) h n m, R.list)

-- Loading what was written gives the same words, n, m and k.
pub write_load : WrittenLoads
write_load ws n m k target held used e l =
    let (c, b, t) = write_answered ws n m k target (ap (λ (x : Reply). x.number) e) in
    let A = (accepts ws n m k).0 c in
    let out = written (lent 8 ws) n m k in
    let W = write_made ws n m k target c b t in
    let u : length out ≡ used = ap (λ (x : Reply). get_or x.values 0 0) (sym (ap (λ (o : Outcome). o.reply) W) ∙ e) in
    let r : take used (write_outcome ws n m k target).after ≡ out = rw (ap (λ (o : Outcome). o.after) W) (take_at out _ used u) in
    rw r (load_right out held n m k (lent 8 ws) l (written_loads k (lent 8 ws) n m A.sound b) ∙ rw (pack_words ws n m k A))

-- At most 14,522 words are used, and one more for each split.
pub written_size : (h : Matrix) (n m k : ℕ) → Sound h n m k → length (written h n m k) ≤ 14522 + k
unfolding written
written_size h n m k S =
    rw (length_recovered k h n m) at (record_most (form_for k) (all_back h n m k) n m (recovered_list h n m k) S.n120 S.m120)

pub written_most : WrittenMost
written_most ws n m k target used e =
    let (c, b, t) = write_answered ws n m k target (ap (λ (x : Reply). x.number) e) in
    let W = write_made ws n m k target c b t in
    let u : length (written (lent 8 ws) n m k) ≡ used = ap (λ (x : Reply). get_or x.values 0 0) (sym (ap (λ (o : Outcome). o.reply) W) ∙ e) in
    omega (arith, written_size (lent 8 ws) n m k ((accepts ws n m k).0 c).sound)

-- A matrix that its recovered list does not rebuild is refused 16.
pub refused_16 : NotRebuilt
refused_16 ws n m k target c e = write_unbuilt ws n m k target c (not_rebuilt (lent 8 ws) n m k e)
