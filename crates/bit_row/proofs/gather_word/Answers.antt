-- `gather_word` meets its contract. Assumes nothing.
use lib.Count.{count_trailing_zeros}
use lib.Ieee.{Float}
use mathlib.Core.List.{List}
use Rattle.messages.proofs.Word.{Taken, left_all, left_none, left_taken, Left}
use Rattle.bit_row.proofs.Cursor.{gathering_gap, gathering_one, gathering_small}
use Rattle.messages.specs.Memory.{across, column, Laid}
use Rattle.bit_row.specs.Row.{Gathering}
use Rattle.parity.proofs.Matrix.Rest.{rest_less}
use Rattle.parity.specs.Matrix.{lent, Matrix}
use lib.ListN.{get_or}
use native.Mathlib.Omega.{arith}
use Prim.Native.Nat.{◌+◌, ◌*◌, ◌<◌, ℕ}
use mathlib.Core.Path.{sym, ◌∙◌, ◌≡◌}
use Rattle.bit_row.proofs.gather_word.Goals as goal

-- the lowest check left, whose message is the next of the row
here : (ws : List ℕ) (h : Matrix) (b i q rest e : ℕ) (ts : List ℕ) (xs : List Float) (d : ℕ) (at : List ℕ) (us : List ℕ) (ys : List Float) →
    Laid ws h ts xs → b < 512 → i < 8 → Left (column h b) i q rest → (rest ≡ 0 → ⊥) → e ≡ i * 64 + count_trailing_zeros 64 rest →
    Gathering h 512 b q ts xs d at us ys →
    Taken (column h b) i q rest e × (e < 512) × Gathering h 512 b e ts xs d at us ys × (get_or at e 0 < 65024) × (d < 512)
here ws h b i q rest e ts xs d at us ys R kb ki L n z F =
    let T = left_taken (column h b) i q rest L n e z in
    let k : e < 512 = omega (arith, T.top, ki) in
    let G = gathering_gap h 512 b _ _ _ _ _ _ _ F e T.gap in
    let g = gathering_small h 512 b _ _ _ _ _ _ _ G R.room kb k T.one in
    (T, k, G, g.0, g.1)

pub offset_bounds-cols-b : goal.offset_bounds-cols-b
offset_bounds-cols-b c = omega (arith, c.requires.laid.words)

pub bounds-cols-b : goal.bounds-cols-b
bounds-cols-b c = omega (arith, c.requires.laid.words)

pub loop-rest-init : goal.loop-rest-init
loop-rest-init c = (c.args.i * 64, left_all 8 c.args.cols.now c.args.b c.args.i c.requires.b_bound.1 (c.type_inv.cols _).fits, c.requires.b_bound.2)

pub lowest-c-requires : goal.lowest-c-requires
lowest-c-requires c = c.requires.b_bound.1

pub offset_bounds-at-c : goal.offset_bounds-at-c
offset_bounds-at-c c = let H = here _ (across (lent 8 c.args.cols.now)) _ _ _ _ _ _ _ _ _ _ _ c.requires.laid c.requires.b_bound.0 c.requires.b_bound.1 c.loop-rest.invariant.1 c.loop-rest-test.true c.lowest-c.ensures c.loop-rest.invariant.2 in omega (arith, H.1, H.2.moving.size)

pub bounds-at-c : goal.bounds-at-c
bounds-at-c c = let H = here _ (across (lent 8 c.args.cols.now)) _ _ _ _ _ _ _ _ _ _ _ c.requires.laid c.requires.b_bound.0 c.requires.b_bound.1 c.loop-rest.invariant.1 c.loop-rest-test.true c.lowest-c.ensures c.loop-rest.invariant.2 in omega (arith, H.1, H.2.moving.size)

pub overflow_add-d : goal.overflow_add-d
overflow_add-d c = omega (arith, (here _ (across (lent 8 c.args.cols.now)) _ _ _ _ _ _ _ _ _ _ _ c.requires.laid c.requires.b_bound.0 c.requires.b_bound.1 c.loop-rest.invariant.1 c.loop-rest-test.true c.lowest-c.ensures c.loop-rest.invariant.2).4)

pub copy-requires : goal.copy-requires
copy-requires c = let H = here _ (across (lent 8 c.args.cols.now)) _ _ _ _ _ _ _ _ _ _ _ c.requires.laid c.requires.b_bound.0 c.requires.b_bound.1 c.loop-rest.invariant.1 c.loop-rest-test.true c.lowest-c.ensures c.loop-rest.invariant.2 in
    let M = c.requires.laid.memory in
    let t = H.2.low.tags ∙ M.tags in
    let x = H.2.low.values ∙ M.values in
    record { i_in_bounds = (omega (arith, t, H.3), omega (arith, x, H.3)); j_in_bounds = (omega (arith, t, H.4), omega (arith, x, H.4)) }

pub overflow_add-at : goal.overflow_add-at
overflow_add-at c = omega (arith, (here _ (across (lent 8 c.args.cols.now)) _ _ _ _ _ _ _ _ _ _ _ c.requires.laid c.requires.b_bound.0 c.requires.b_bound.1 c.loop-rest.invariant.1 c.loop-rest-test.true c.lowest-c.ensures c.loop-rest.invariant.2).3)

pub offset_bounds-at-c-in-loop-rest : goal.offset_bounds-at-c-in-loop-rest
offset_bounds-at-c-in-loop-rest c = let H = here _ (across (lent 8 c.args.cols.now)) _ _ _ _ _ _ _ _ _ _ _ c.requires.laid c.requires.b_bound.0 c.requires.b_bound.1 c.loop-rest.invariant.1 c.loop-rest-test.true c.lowest-c.ensures c.loop-rest.invariant.2 in omega (arith, H.1, H.2.moving.size)

pub bounds-at-c-in-loop-rest : goal.bounds-at-c-in-loop-rest
bounds-at-c-in-loop-rest c = let H = here _ (across (lent 8 c.args.cols.now)) _ _ _ _ _ _ _ _ _ _ _ c.requires.laid c.requires.b_bound.0 c.requires.b_bound.1 c.loop-rest.invariant.1 c.loop-rest-test.true c.lowest-c.ensures c.loop-rest.invariant.2 in omega (arith, H.1, H.2.moving.size)

pub overflow_add-d-in-loop-rest : goal.overflow_add-d-in-loop-rest
overflow_add-d-in-loop-rest c = omega (arith, (here _ (across (lent 8 c.args.cols.now)) _ _ _ _ _ _ _ _ _ _ _ c.requires.laid c.requires.b_bound.0 c.requires.b_bound.1 c.loop-rest.invariant.1 c.loop-rest-test.true c.lowest-c.ensures c.loop-rest.invariant.2).4)

pub overflow_sub-rest : goal.overflow_sub-rest
overflow_sub-rest c = omega (arith, c.loop-rest-test.true)

pub loop-rest-smaller : goal.loop-rest-smaller
loop-rest-smaller c = rest_less _ c.loop-rest-test.true

pub loop-rest-preserved : goal.loop-rest-preserved
loop-rest-preserved c = let H = here _ (across (lent 8 c.args.cols.now)) _ _ _ _ _ _ _ _ _ _ _ c.requires.laid c.requires.b_bound.0 c.requires.b_bound.1 c.loop-rest.invariant.1 c.loop-rest-test.true c.lowest-c.ensures c.loop-rest.invariant.2 in
    (c.lowest-c.result + 1, H.0.next, gathering_one _ 512 c.args.b _ _ _ _ _ _ _ H.2 c.requires.laid.room c.requires.b_bound.0 H.1 H.0.one _ _ c.copy.ensures)

pub shape_of-at : goal.shape_of-at
shape_of-at c = c.loop-rest.invariant.2.moving.size ∙ sym c.requires.b_bound.2.moving.size

pub shape_of-tags : goal.shape_of-tags
shape_of-tags c = c.loop-rest.invariant.2.low.tags

pub shape_of-values : goal.shape_of-values
shape_of-values c = c.loop-rest.invariant.2.low.values

pub returns : goal.returns
returns c = let l = c.loop-rest in
    gathering_gap _ 512 c.args.b _ _ _ _ _ _ _ l.invariant.2 _ (left_none (column (across (lent 8 c.args.cols.now)) c.args.b) c.args.i _ l.rest l.invariant.1 c.loop-rest-test.false)
