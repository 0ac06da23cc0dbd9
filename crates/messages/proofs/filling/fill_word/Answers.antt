-- `fill_word` meets its contract. Assumes nothing.
use lib.Count.{count_trailing_zeros}
use Rattle.parity.specs.declared.Channel.{Channel}
use lib.Ieee.{Float}
use mathlib.Core.List.{List}
use Rattle.messages.proofs.Word.{Taken, left_all, left_none, left_taken, Left}
use Rattle.messages.proofs.Places.{place_yes, place_small}
use Rattle.messages.proofs.Fill.{place_gap, filling_gap, filling_one}
use Rattle.messages.specs.Memory.{place, Filling, Laid}
use Rattle.parity.specs.Matrix.{lent, Matrix}
use native.Mathlib.Omega.{arith}
use Prim.Native.Nat.{◌+◌, ◌*◌, ◌<◌, ℕ}
use mathlib.Core.Path.{◌≡◌, sym, ◌∙◌}
use Rattle.messages.proofs.filling.fill_word.Goals as goal

-- the lowest bit left, whose value goes to the next place
here : (ws : List ℕ) (h : Matrix) (c i b rest a e : ℕ) (m : ℕ → Channel) (ts : List ℕ) (xs : List Float) (us : List ℕ) (ys : List Float) →
    Laid ws h us ys → c < 512 → i < 8 → Left (h c) i b rest → (rest ≡ 0 → ⊥) → e ≡ i * 64 + count_trailing_zeros 64 rest →
    a ≡ place h 512 c b → Filling h 512 c b m ts xs →
    Taken (h c) i b rest e × (e < 512) × (a ≡ place h 512 c e) × Filling h 512 c e m ts xs × (place h 512 c e < 65024)
here ws h c i b rest a e m ts xs us ys R kc ki L n q p F =
    let T = left_taken (h c) i b rest L n e q in
    let k : e < 512 = omega (arith, T.top, ki) in (
      T,
      k,
      p ∙ sym (place_gap h 512 c b e T.gap),
      filling_gap h 512 _ c _ _ _ F e T.gap,
      place_small h 512 c e R.room kc k T.one,
    )

pub loop-rest-init : goal.loop-rest-init
loop-rest-init c = (c.args.i * 64, left_all 8 c.args.words.now c.args.c c.args.i c.requires.c_bound.1 (c.type_inv.words _).fits, c.requires.c_bound.2, c.requires.c_bound.3)

pub enter-requires : goal.enter-requires
enter-requires c =
    let l = c.loop-rest in
    let H = here _ (lent 8 c.args.words.now) _ _ _ _ _ _ _ _ _ _ _ c.requires.laid.0 c.requires.c_bound.0 c.requires.c_bound.1 l.invariant.1 c.loop-rest-test.true c.lowest.ensures l.invariant.2 l.invariant.3 in
    let I = c.requires.laid.1 in
    let k = I.below c.args.c c.lowest.result H.0.one in
    record { b_in_bounds = (k, omega (arith, k, I.same)); j_in_bounds = (omega (arith, H.2, H.4, H.3.tags), omega (arith, H.2, H.4, H.3.values)) }

pub overflow_add-a : goal.overflow_add-a
overflow_add-a c =
    let l = c.loop-rest in
    let H = here _ (lent 8 c.args.words.now) _ _ _ _ _ _ _ _ _ _ _ c.requires.laid.0 c.requires.c_bound.0 c.requires.c_bound.1 l.invariant.1 c.loop-rest-test.true c.lowest.ensures l.invariant.2 l.invariant.3 in
    omega (arith, H.2, H.4)

pub loop-rest-preserved : goal.loop-rest-preserved
loop-rest-preserved c =
    let l = c.loop-rest in
    let H = here _ (lent 8 c.args.words.now) _ _ _ _ _ _ _ _ _ _ _ c.requires.laid.0 c.requires.c_bound.0 c.requires.c_bound.1 l.invariant.1 c.loop-rest-test.true c.lowest.ensures l.invariant.2 l.invariant.3 in (
      c.lowest.result + 1,
      H.0.next,
      rw H.2 (sym (place_yes _ 512 c.args.c c.lowest.result H.0.one)),
      filling_one _ 512 _ c.args.c c.lowest.result _ _ H.3 H.1 H.0.one _ _ (rw H.2 at c.enter.ensures),
    )

pub returns : goal.returns
returns c = let l = c.loop-rest in
    let h = lent 8 c.args.words.now in
    let G = left_none (h c.args.c) c.args.i _ l.rest l.invariant.1 c.loop-rest-test.false in
    record { value = l.invariant.2 ∙ sym (place_gap h 512 c.args.c _ _ G); filling = filling_gap h 512 _ c.args.c _ _ _ l.invariant.3 _ G }
