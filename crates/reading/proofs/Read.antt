-- The ones of a check, read one after another. Assumes nothing.
use mathlib.Core.Path.{◌≡◌, ◌∙◌}
use mathlib.Core.Bool.{true}
use mathlib.Core.List.{List}
use Prim.Native.Nat.{ℕ, suc, ◌+◌, ◌-◌, ◌<◌}
use native.Mathlib.Nat.{add-zero, zero-add, add-suc}
use native.Mathlib.Numerals.{add-one}
use native.Mathlib.Omega.{arith}
use lib.ListN.{get_or, length}
use Rattle.parity.specs.Record.{payload, bit_word}
use Rattle.parity.proofs.Record.Reading.{read_bit}
use Rattle.reading.specs.Read.{puts, Rising}

pub rising_none : (n : ℕ) (source : List ℕ) (from : ℕ) → Rising n source from 0 0
unfolding puts
rising_none n source from = record { goes = λ f m c d h. rw (add-zero from, zero-add d) }

pub rising_next : (n : ℕ) (source : List ℕ) (from j low : ℕ) → Rising n source from j low → from + j < length source
    → bit_word n low (get_or source (from + j) 0) ≡ true → Rising n source from (j + 1) (payload (get_or source (from + j) 0) + 1)
unfolding puts
rising_next n source from j low R k o = record {
  goes = λ f m c d h.
      let e : suc j + d ≡ j + suc d = omega arith in
      rw (add-one j, add-one (payload (get_or source (from + j) 0)), e, add-suc from j)
      (R.goes f m c (suc d) h ∙ read_bit f n m source (from + j) c low (puts source (c - 1) from j h) k d o);
}
