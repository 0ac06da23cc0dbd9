-- `list` meets its contract. Assumes nothing.
use mathlib.Core.Path.{◌≡◌, sym, ap, ◌∙◌}
use mathlib.Core.Bool.{Bool, true, false, not, not-not}
use mathlib.Core.List.{[], ◌∷◌}
use Prim.Native.Nat.{ℕ, ◌≤◌}
use native.Mathlib.Omega.{arith}
use borrow.Author.Rules.{rules}
use lib.ListN.{length}
use Rattle.parity.specs.StoppingSets.{flat}
use Rattle.parity.specs.Causes.{Outcome, answer, refusal_of, result_reply, number_values}
use Rattle.parity.specs.Calls.{wrong_size}
use Rattle.parity.proofs.Causes.Refused.{accepted_cause, accepted_words}
use Rattle.parity.proofs.Words.SetsListed.{found, list_refused, list_size, list_short, list_made}
use Rattle.enumeration.proofs.Storing.{put_first}
use Rattle.stopping_sets.proofs.Told.{found_count, put_found, place_is, right_size, none_found, none_stored}
use Rattle.stopping_sets.proofs.list.Goals as goal

-- whether the size can be asked for
size_is : (t : ℕ) (b d : Bool) → b ≡ not (wrong_size t) → b ≡ d → wrong_size t ≡ not d
size_is t b d e f = sym (not-not (wrong_size t)) ∙ ap not (sym e ∙ f)

pub returns-in_err-accept : goal.returns-in_err-accept
returns-in_err-accept c = let s : result_reply number_values c.from_residual.result ≡ refusal_of c.in_err-accept.field-0.0 = search rules in
    let e = list_refused c.args.words.now c.args.n c.args.m c.args.k c.args.t c.args.sets.now c.in_err-accept.field-0.0 c.in_err-accept.ensures in
    record { result_value = s ∙ sym (ap (λ (o : Outcome). o.reply) e); sets_after = sym (ap (λ (o : Outcome). o.after) e) }

pub returns-then-not-is_size : goal.returns-then-not-is_size
returns-then-not-is_size c = let a = accepted_cause c.args.words.now c.args.n c.args.m c.args.k c.in_ok-accept.ensures in
    let p : wrong_size c.args.t ≡ true = size_is c.args.t _ false c.is_size.ensures c.if-not-is_size.true in
    let e = list_size c.args.words.now c.args.n c.args.m c.args.k c.args.t c.args.sets.now a p in
    record { result_value = sym (ap (λ (o : Outcome). o.reply) e); sets_after = sym (ap (λ (o : Outcome). o.after) e) }

pub overflow_add-m : goal.overflow_add-m
overflow_add-m c = let S = (accepted_words c.args.words.now c.args.n c.args.m c.args.k c.in_ok-accept.ensures).sound in omega (arith, S.m120, S.k392)

pub first_columns-cols-requires : goal.first_columns-cols-requires
first_columns-cols-requires c = let A = accepted_words c.args.words.now c.args.n c.args.m c.args.k c.in_ok-accept.ensures in (A.words, omega (arith, A.sound.m120, A.sound.k392))

pub overflow_add-m-2 : goal.overflow_add-m-2
overflow_add-m-2 c = let S = (accepted_words c.args.words.now c.args.n c.args.m c.args.k c.in_ok-accept.ensures).sound in omega (arith, S.m120, S.k392)

pub words_used-used-requires : goal.words_used-used-requires
words_used-used-requires c = let S = (accepted_words c.args.words.now c.args.n c.args.m c.args.k c.in_ok-accept.ensures).sound in omega (arith, S.m120, S.k392)

pub list_all-needed-requires : goal.list_all-needed-requires
list_all-needed-requires c = let S = (accepted_words c.args.words.now c.args.n c.args.m c.args.k c.in_ok-accept.ensures).sound in
    let t = right_size _ (size_is c.args.t _ true c.is_size.ensures c.if-not-is_size.false) in
    record { cols_len = (search rules, c.words_used-used.ensures.1, c.words_used-used.ensures.2, S.n120, t.0, t.1); t_in_bounds = omega arith }

pub returns-then-sets-needed : goal.returns-then-sets-needed
returns-then-sets-needed c = let S = (accepted_words c.args.words.now c.args.n c.args.m c.args.k c.in_ok-accept.ensures).sound in
    let a = accepted_cause c.args.words.now c.args.n c.args.m c.args.k c.in_ok-accept.ensures in
    let z = size_is c.args.t _ true c.is_size.ensures c.if-not-is_size.false in
    let P = put_found _ _ _ _ _ _ _ _ _ _ _ c.first_columns-cols.ensures S.n120 c.words_used-used.ensures.0 c.list_all-needed.ensures in
    let u = place_is _ _ _ _ _ P in
    let e = list_short c.args.words.now c.args.n c.args.m c.args.k c.args.t c.args.sets.now a z (omega (arith, c.if-sets-needed.true, ap length P.stored)) in
    rw u record { result_value = sym (ap (λ (o : Outcome). o.reply) e); sets_after = P.stored ∙ sym (ap (λ (o : Outcome). o.after) e) }

pub returns-then-needed-eq0 : goal.returns-then-needed-eq0
returns-then-needed-eq0 c = let S = (accepted_words c.args.words.now c.args.n c.args.m c.args.k c.in_ok-accept.ensures).sound in
    let a = accepted_cause c.args.words.now c.args.n c.args.m c.args.k c.in_ok-accept.ensures in
    let s = size_is c.args.t _ true c.is_size.ensures c.if-not-is_size.false in
    let P = put_found _ _ _ _ _ _ _ _ _ _ _ c.first_columns-cols.ensures S.n120 c.words_used-used.ensures.0 c.list_all-needed.ensures in
    let z : length (flat (found c.args.words.now c.args.n c.args.m c.args.k c.args.t)) ≡ 0 = sym (place_is _ _ _ _ _ P) ∙ c.if-needed-eq0.true in
    let e = list_made c.args.words.now c.args.n c.args.m c.args.k c.args.t c.args.sets.now a s (omega arith) in record {
      result_value = ap (λ (x : ℕ). answer (x ∷ [])) (none_found c.args.words.now c.args.n c.args.m c.args.k c.args.t (right_size _ s).0 z) ∙ sym (ap (λ (o : Outcome). o.reply) e);
      sets_after = P.stored ∙ none_stored (flat (found c.args.words.now c.args.n c.args.m c.args.k c.args.t)) _ z ∙ sym (ap (λ (o : Outcome). o.after) e);
    }

pub list_all-requires : goal.list_all-requires
list_all-requires c = let S = (accepted_words c.args.words.now c.args.n c.args.m c.args.k c.in_ok-accept.ensures).sound in
    let used = c.words_used-used.ensures in
    let t = right_size _ (size_is c.args.t _ true c.is_size.ensures c.if-not-is_size.false) in record {
      cols_len = (search rules, used.1, used.2, S.n120, t.0, t.1);
      t_in_bounds = omega (arith, c.if-sets-needed.false, c.list_all-needed.ensures.place);
    }

pub nonzero_div-result : goal.nonzero_div-result
nonzero_div-result c = (right_size _ (size_is c.args.t _ true c.is_size.ensures c.if-not-is_size.false)).0

pub returns : goal.returns
returns c = let n = (accepted_words c.args.words.now c.args.n c.args.m c.args.k c.in_ok-accept.ensures).sound.n120 in
    let a = accepted_cause c.args.words.now c.args.n c.args.m c.args.k c.in_ok-accept.ensures in
    let s = size_is c.args.t _ true c.is_size.ensures c.if-not-is_size.false in
    let C = c.first_columns-cols.ensures in
    let used = c.words_used-used.ensures.0 in
    let P = put_found _ _ _ _ _ _ _ _ _ _ _ C n used c.list_all-needed.ensures in
    let Q = put_found _ _ _ _ _ _ _ _ _ _ _ C n used c.list_all.ensures in
    let u = place_is _ _ _ _ _ P in
    let k : length (flat (found c.args.words.now c.args.n c.args.m c.args.k c.args.t)) ≤ length c.args.sets.now = omega (arith, c.if-sets-needed.false, ap length P.stored) in
    let e = list_made c.args.words.now c.args.n c.args.m c.args.k c.args.t c.args.sets.now a s k in record {
      result_value = rw (u, found_count c.args.words.now c.args.n c.args.m c.args.k c.args.t (right_size _ s).0) (sym (ap (λ (o : Outcome). o.reply) e));
      sets_after = put_first _ _ _ _ (rw P.stored at Q) k ∙ sym (ap (λ (o : Outcome). o.after) e);
    }
