-- `scatter_word` meets its contract. Assumes nothing.
use lib.Count.{count_trailing_zeros}
use lib.Ieee.{Float}
use mathlib.Core.List.{List}
use Rattle.messages.proofs.Word.{gap_count, Taken, left_all, left_none, left_taken, Left}
use Rattle.bit_row.proofs.Cursor.{place_before}
use Rattle.messages.proofs.Places.{count_yes, place_small}
use Rattle.bit_row.proofs.Row.{spread_none, spread_gap, spread_one}
use Rattle.messages.specs.Memory.{place, across, column, Laid, Cursors}
use Rattle.bit_row.specs.Row.{Spread}
use Rattle.parity.proofs.Finite.Sums.{count_bound}
use Rattle.parity.proofs.Matrix.Rest.{rest_less}
use Rattle.parity.specs.Finite.{count}
use Rattle.parity.specs.Matrix.{lent, Matrix}
use lib.ListN.{get_or}
use native.Mathlib.Omega.{arith}
use Prim.Native.Nat.{◌+◌, ◌*◌, ◌-◌, ◌<◌, ◌≤◌, ℕ}
use mathlib.Core.Path.{◌≡◌, sym, ◌∙◌}
use Rattle.bit_row.proofs.scatter_word.Goals as goal

-- the lowest check left, to whose message the next of the row goes
here : (ws : List ℕ) (h : Matrix) (b i m rest e d : ℕ) (ts : List ℕ) (xs : List Float) (at : List ℕ) (us : List ℕ) (ys : List Float) →
    Laid ws h ts xs → b < 512 → i < 8 → Cursors h 512 (b + 1) at → Left (column h b) i m rest → (rest ≡ 0 → ⊥) →
    e ≡ i * 64 + count_trailing_zeros 64 rest → d ≡ count m (column h b) → Spread h 512 b (i * 64) m ts xs us ys →
    Taken (column h b) i m rest e × (e < 512) × (d ≡ count e (column h b)) × Spread h 512 b (i * 64) e ts xs us ys
    × (get_or at e 0 - 1 ≡ place h 512 e b) × (1 ≤ get_or at e 0) × (place h 512 e b < 65024) × (d < 512)
here ws h b i m rest e d ts xs at us ys R kb ki C L z w r S =
    let p = column h b in
    let T = left_taken p i m rest L z e w in
    let k : e < 512 = omega (arith, T.top, ki) in
    let n = r ∙ sym (gap_count p m e T.gap) in
    let q = place_before h 512 b e at C T.one in (
      T,
      k,
      n,
      spread_gap h 512 b _ _ _ _ _ _ S e T.gap,
      omega (arith, q),
      omega (arith, q),
      place_small h 512 e b R.room k kb T.one,
      omega (arith, n, k, count_bound e p),
    )

pub offset_bounds-cols-b : goal.offset_bounds-cols-b
offset_bounds-cols-b c = omega (arith, c.requires.laid.words)

pub bounds-cols-b : goal.bounds-cols-b
bounds-cols-b c = omega (arith, c.requires.laid.words)

pub loop-rest-init : goal.loop-rest-init
loop-rest-init c = (c.args.i * 64, left_all 8 c.args.cols.now c.args.b c.args.i c.requires.b_bound.1 (c.type_inv.cols _).fits, c.requires.b_bound.3, spread_none _ _ _ _ _ _)

pub lowest-requires : goal.lowest-requires
lowest-requires c = c.requires.b_bound.1

pub offset_bounds-at-lowest : goal.offset_bounds-at-lowest
offset_bounds-at-lowest c = omega (arith, (here _ (across (lent 8 c.args.cols.now)) _ _ _ _ _ _ _ _ _ _ _ c.requires.laid c.requires.b_bound.0 c.requires.b_bound.1 c.requires.b_bound.2 c.loop-rest.invariant.1 c.loop-rest-test.true c.lowest.ensures c.loop-rest.invariant.2 c.loop-rest.invariant.3).1, c.requires.b_bound.2.size)

pub bounds-at-lowest : goal.bounds-at-lowest
bounds-at-lowest c = omega (arith, (here _ (across (lent 8 c.args.cols.now)) _ _ _ _ _ _ _ _ _ _ _ c.requires.laid c.requires.b_bound.0 c.requires.b_bound.1 c.requires.b_bound.2 c.loop-rest.invariant.1 c.loop-rest-test.true c.lowest.ensures c.loop-rest.invariant.2 c.loop-rest.invariant.3).1, c.requires.b_bound.2.size)

pub overflow_sub-p : goal.overflow_sub-p
overflow_sub-p c = omega (arith, (here _ (across (lent 8 c.args.cols.now)) _ _ _ _ _ _ _ _ _ _ _ c.requires.laid c.requires.b_bound.0 c.requires.b_bound.1 c.requires.b_bound.2 c.loop-rest.invariant.1 c.loop-rest-test.true c.lowest.ensures c.loop-rest.invariant.2 c.loop-rest.invariant.3).5)

pub overflow_add-d : goal.overflow_add-d
overflow_add-d c = omega (arith, (here _ (across (lent 8 c.args.cols.now)) _ _ _ _ _ _ _ _ _ _ _ c.requires.laid c.requires.b_bound.0 c.requires.b_bound.1 c.requires.b_bound.2 c.loop-rest.invariant.1 c.loop-rest-test.true c.lowest.ensures c.loop-rest.invariant.2 c.loop-rest.invariant.3).7)

pub copy-requires : goal.copy-requires
copy-requires c = let H = here _ (across (lent 8 c.args.cols.now)) _ _ _ _ _ _ _ _ _ _ _ c.requires.laid c.requires.b_bound.0 c.requires.b_bound.1 c.requires.b_bound.2 c.loop-rest.invariant.1 c.loop-rest-test.true c.lowest.ensures c.loop-rest.invariant.2 c.loop-rest.invariant.3 in
    let M = c.requires.laid.memory in
    let t = H.3.tags ∙ M.tags in
    let x = H.3.values ∙ M.values in
    record { i_in_bounds = (omega (arith, t, H.7), omega (arith, x, H.7)); j_in_bounds = (omega (arith, t, H.4, H.6), omega (arith, x, H.4, H.6)) }

pub overflow_add-d-in-loop-rest : goal.overflow_add-d-in-loop-rest
overflow_add-d-in-loop-rest c = omega (arith, (here _ (across (lent 8 c.args.cols.now)) _ _ _ _ _ _ _ _ _ _ _ c.requires.laid c.requires.b_bound.0 c.requires.b_bound.1 c.requires.b_bound.2 c.loop-rest.invariant.1 c.loop-rest-test.true c.lowest.ensures c.loop-rest.invariant.2 c.loop-rest.invariant.3).7)

pub overflow_sub-rest : goal.overflow_sub-rest
overflow_sub-rest c = omega (arith, c.loop-rest-test.true)

pub loop-rest-smaller : goal.loop-rest-smaller
loop-rest-smaller c = rest_less _ c.loop-rest-test.true

pub loop-rest-preserved : goal.loop-rest-preserved
loop-rest-preserved c = let H = here _ (across (lent 8 c.args.cols.now)) _ _ _ _ _ _ _ _ _ _ _ c.requires.laid c.requires.b_bound.0 c.requires.b_bound.1 c.requires.b_bound.2 c.loop-rest.invariant.1 c.loop-rest-test.true c.lowest.ensures c.loop-rest.invariant.2 c.loop-rest.invariant.3 in (
  c.lowest.result + 1,
  H.0.next,
  rw H.2 (sym (count_yes _ c.lowest.result H.0.one)),
  spread_one _ 512 c.args.b _ _ _ _ _ _ H.3 c.requires.laid.room c.requires.b_bound.0 H.1 H.0.low H.0.one _ _ H.4 H.2 _ _ c.copy.ensures,
)

pub shape_of-tags : goal.shape_of-tags
shape_of-tags c = c.loop-rest.invariant.3.tags

pub shape_of-values : goal.shape_of-values
shape_of-values c = c.loop-rest.invariant.3.values

pub returns : goal.returns
returns c = let l = c.loop-rest in
    let p = column (across (lent 8 c.args.cols.now)) c.args.b in
    let G = left_none p c.args.i _ l.rest l.invariant.1 c.loop-rest-test.false in
    record { value = l.invariant.2 ∙ sym (gap_count p _ _ G); spread = spread_gap _ 512 c.args.b _ _ _ _ _ _ l.invariant.3 _ G }
