-- `emit::put_record` meets its contract. Assumes nothing.
use Rattle.parity.specs.Finite.{list_from}
use Rattle.parity.specs.Record.{check_words}
use mathlib.Core.List.{List}
use Rattle.parity.specs.declared.Form.{Form}
use mathlib.Core.Path.{◌≡◌, ◌∙◌}
use Prim.Native.Nat.{◌+◌, ◌*◌, ◌≤◌, ◌<◌, ℕ}
use native.Mathlib.Omega.{arith}
use lib.ListN.{length, length-set, set}
use Rattle.parity.specs.Matrix.{lent}
use Rattle.parity.proofs.Finite.Lists.{length_list_from}
use Rattle.writing.specs.Write.{split_of_check, Wrote, plain_record}
use Rattle.writing.proofs.Emitting.{wrote_length, plain_length, wrote_plain}
use Rattle.writing.proofs.emit.put_record.Goals as goal

-- the end word has a place
room : (f : Form) (w n m k u v a b : ℕ) (cs ws ts ms us : List ℕ) →
    length (plain_record f (lent w cs) (u * 64) (lent 8 ws) n m k) ≤ length ts →
    Wrote (set ts 0 v) ms 1 (check_words f (lent w cs) (u * 64) m) a →
    Wrote ms us a (list_from 0 k (split_of_check (lent 8 ws) n m)) b →
    (b + 1 ≤ length ts) × (length us ≡ length ts)
room f w n m k u v a b cs ws ts ms us r p q = (
  omega (arith, r, p.place, q.place, plain_length f (lent w cs) (u * 64) (lent 8 ws) n m k, length_list_from 0 k (split_of_check (lent 8 ws) n m)),
  wrote_length _ _ _ _ _ q ∙ wrote_length _ _ _ _ _ p ∙ length-set ts 0 v,
)

pub bounds-target-0 : goal.bounds-target-0
bounds-target-0 c = let k : 0 < length c.args.target.now = omega (arith, c.requires.k_in_bounds, plain_length c.args.form (lent c.args.checks.width c.args.checks.words.now) (c.args.checks.used * 64) (lent 8 c.args.words.now) c.args.n c.args.m c.args.k) in
    k

pub put_checks-behind-requires : goal.put_checks-behind-requires
put_checks-behind-requires c = record { width_in_bounds = (c.requires.width_in_bounds.0, c.requires.width_in_bounds.2.m120); m_in_bounds = omega (arith, c.requires.k_in_bounds, plain_length c.args.form (lent c.args.checks.width c.args.checks.words.now) (c.args.checks.used * 64) (lent 8 c.args.words.now) c.args.n c.args.m c.args.k, length-set c.args.target.now 0 c.head_word.result) }

pub put_splits-end-requires : goal.put_splits-end-requires
put_splits-end-requires c = let o = c.put_checks-behind.ensures in (
  c.requires.width_in_bounds.1,
  c.requires.width_in_bounds.2,
  omega (arith, c.requires.k_in_bounds, o.place, plain_length c.args.form (lent c.args.checks.width c.args.checks.words.now) (c.args.checks.used * 64) (lent 8 c.args.words.now) c.args.n c.args.m c.args.k, wrote_length _ _ _ _ _ o, length-set c.args.target.now 0 c.head_word.result),
)

pub offset_bounds-target-end : goal.offset_bounds-target-end
offset_bounds-target-end c = let k = (room _ _ _ _ _ _ _ _ _ _ _ _ _ _ c.requires.k_in_bounds c.put_checks-behind.ensures c.put_splits-end.ensures).0 in omega arith

pub bounds-target-end : goal.bounds-target-end
bounds-target-end c = omega (arith, (room _ _ _ _ _ _ _ _ _ _ _ _ _ _ c.requires.k_in_bounds c.put_checks-behind.ensures c.put_splits-end.ensures).0, (room _ _ _ _ _ _ _ _ _ _ _ _ _ _ c.requires.k_in_bounds c.put_checks-behind.ensures c.put_splits-end.ensures).1)

pub overflow_add-result : goal.overflow_add-result
overflow_add-result c = let k = (room _ _ _ _ _ _ _ _ _ _ _ _ _ _ c.requires.k_in_bounds c.put_checks-behind.ensures c.put_splits-end.ensures).0 in omega arith

pub returns : goal.returns
returns c = wrote_plain _ _ _ _ _ _ _ _ _ _ _ _ _ c.head_word.ensures c.put_checks-behind.ensures c.put_splits-end.ensures
