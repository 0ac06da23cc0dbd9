-- The cursors of the checks, and a bit's messages gathered by them. Assumes nothing.
use mathlib.Core.Path.{◌≡◌, sym, ap, ◌∙◌}
use mathlib.Core.Bool.{true, false}
use mathlib.Core.List.{List}
use Prim.Native.Nat.{ℕ, ◌+◌, ◌<◌, ◌≤◌}
use native.Mathlib.Decide.{ℕ_discrete, dec_lt}
use native.Mathlib.Omega.{arith}
use lib.ListN.{get_or, length, set, length-set}
use lib.Seq.{get_or-set_same, get_or-set_other}
use lib.Ieee.{Float}
use Rattle.parity.specs.Matrix.{Matrix}
use Rattle.parity.proofs.Finite.Sums.{count_bound}
use Rattle.parity.specs.Soft.{message_at}
use Rattle.messages.specs.Memory.{start, place, held, held_at, column, Laid, Written, Cursors, Within}
use Rattle.messages.proofs.Places.{none_counted, count_yes, count_no, place_yes, within_below, place_small}
use Rattle.messages.proofs.Word.{Gap, gap_count}
use Rattle.bit_row.specs.Row.{Moving, Gathering}
use Rattle.bit_row.proofs.Row.{collected_none, collected_end, collected_gap, collected_one, within_gap, low_none, low_more, low_row, low_held}

-- ---- the cursors
place_no : (h : Matrix) (N c b : ℕ) → h c b ≡ false → place h N c (b + 1) ≡ place h N c b
unfolding place
place_no h N c b e = omega (arith, count_no (h c) b e)

module _ (h : Matrix) (N b : ℕ) where
  moving_none : (at : List ℕ) → Cursors h N b at → Moving h N b 0 at
  moving_none at C = record { size = C.size; new = λ d a e k. absurd (omega arith); old = λ d a e k. C.is d a e }

  module _ (c : ℕ) (at : List ℕ) (S : Moving h N b c at) where
    pub moving_end : (M : ℕ) → Within h M → M ≤ c → Cursors h N (b + 1) at
    moving_end M W k = record { size = S.size; is = λ d a e. S.new d a e (omega (arith, within_below h M W d a e)) }

    moving_gap : (e : ℕ) → Gap (column h b) c e → Moving h N b e at
    moving_gap e G = record {
      size = S.size;
      new = λ d a q k. elim (dec_lt d c) [
        | yes j ↦ S.new d a q j
        | no j ↦ S.old d a q (omega arith) ∙ sym (place_no h N d b (G.none d (omega arith) k))
      ];
      old = λ d a q k. S.old d a q (omega (arith, G.least));
    }

    moving_one : c < 512 → h c b ≡ true → Moving h N b (c + 1) (set at c (get_or at c 0 + 1))
    moving_one i e = record {
      size = length-set at _ _ ∙ S.size;
      new = λ d a q k. elim (ℕ_discrete d c) [
        | yes z ↦ rw z (get_or-set_same at c _ 0 (omega (arith, S.size)) ∙ ap (λ n. n + 1) (S.old c b e (omega arith)) ∙ sym (place_yes h N c b e))
        | no z ↦ get_or-set_other at c d _ 0 z ∙ S.new d a q (omega arith)
      ];
      old = λ d a q k. get_or-set_other at c d _ 0 (λ z. omega arith) ∙ S.old d a q (omega arith);
    }

-- ---- the row and the cursors
module _ (h : Matrix) (N b : ℕ) (ts : List ℕ) (xs : List Float) where
  pub gathering_none : (at : List ℕ) → Cursors h N b at → Gathering h N b 0 ts xs 0 at ts xs
  gathering_none at C = record { many = none_counted (column h b); moving = moving_none h N b at C; low = low_none ts xs; row = collected_none _ _ ts xs }

  module _ (c d : ℕ) (at : List ℕ) (us : List ℕ) (ys : List Float) (S : Gathering h N b c ts xs d at us ys) where
    pub gathering_gap : (e : ℕ) → Gap (column h b) c e → Gathering h N b e ts xs d at us ys
    gathering_gap e G = record {
      many = S.many ∙ sym (gap_count (column h b) c e G);
      moving = moving_gap h N b c at S.moving e G;
      low = S.low;
      row = collected_gap _ _ c us ys S.row e G;
    }

    -- no check from M on has messages
    pub gathering_end : (M : ℕ) → Within h M → M ≤ c → Gathering h N b M ts xs d at us ys
    gathering_end M W k = record {
      many = S.many ∙ gap_count (column h b) M c (within_gap h M W b c k);
      moving = record {
        size = S.moving.size;
        new = λ e a q l. S.moving.new e a q (omega arith);
        old = λ e a q l. absurd (omega (arith, within_below h M W e a q));
      };
      low = S.low;
      row = collected_end _ _ c us ys S.row M k;
    }

    module _ (m : start h N 512 ≤ 65024) (kb : b < N) where
      -- the cursor is a place before the row, and the row has room
      pub gathering_small : c < 512 → h c b ≡ true → (get_or at c 0 < 65024) × (d < 512)
      gathering_small k e = (omega (arith, S.moving.old c b e (omega arith), place_small h N c b m k kb e), omega (arith, S.many, count_bound c (column h b)))

      -- what stands at the cursor is read into the row
      pub gathering_one : c < 512 → h c b ≡ true → (vs : List ℕ) (zs : List Float) → Written (65024 + d) (message_at us ys (get_or at c 0)) us ys vs zs
          → Gathering h N b (c + 1) ts xs (d + 1) (set at c (get_or at c 0 + 1)) vs zs
      gathering_one k e vs zs W = record {
        many = rw S.many (sym (count_yes (column h b) c e));
        moving = moving_one h N b c at S.moving k e;
        low = low_row ts xs us ys S.low d _ vs zs W;
        row = collected_one (column h b) (held_at h N ts xs b) c us ys S.row e vs zs (rw (S.many, reads) at W);
      }
        where
          reads : message_at us ys (get_or at c 0) ≡ held_at h N ts xs b c
          reads = unfold held in (rw (S.moving.old c b e (omega arith)) (S.low.at (place h N c b) (place_small h N c b m k kb e)))

      -- The same, said of the lists at hand.
      pub gathering_now : c ≤ 512 → Gathering h N b c us ys d at us ys
      gathering_now k = record {
        many = S.many;
        moving = S.moving;
        low = low_none us ys;
        row = record { at = λ i l q. S.row.at i l q ∙ sym (low_held ts xs us ys S.low h N i b m (omega arith) kb q) };
      }

      pub gathering_more : (e f : ℕ) (at' : List ℕ) (vs : List ℕ) (zs : List Float) → e ≤ 512 → Gathering h N b e us ys f at' vs zs → Gathering h N b e ts xs f at' vs zs
      gathering_more e f at' vs zs k T = record {
        many = T.many;
        moving = T.moving;
        low = low_more ts xs us ys S.low vs zs T.low;
        row = record { at = λ i l q. T.row.at i l q ∙ low_held ts xs us ys S.low h N i b m (omega arith) kb q };
      }

-- the row of a bit with M checks is in the memory
pub row_fits : (ws : List ℕ) (h : Matrix) (N b M : ℕ) (ts : List ℕ) (xs : List Float) (d : ℕ) (at : List ℕ) (us : List ℕ) (ys : List Float) → Gathering h N b M ts xs d at us ys → Laid ws h ts xs → Within h M
    → (length us ≡ length ys) × (65024 + d ≤ length us)
row_fits ws h N b M ts xs d at us ys G L W =
    let t = G.low.tags ∙ L.memory.tags in
    (t ∙ sym (G.low.values ∙ L.memory.values), omega (arith, t, G.many, count_bound M (column h b), W.most))

-- before the cursor of the next bit is the place of this one
pub place_before : (h : Matrix) (N b c : ℕ) (at : List ℕ) → Cursors h N (b + 1) at → h c b ≡ true → get_or at c 0 ≡ place h N c b + 1
place_before h N b c at C e = C.is c b e ∙ place_yes h N c b e
