-- `judge::bits_singly` meets its contract. Assumes nothing.
use native.Mathlib.Omega.{arith}
use Rattle.parity.proofs.Record.Reading.{bit_yes, bit_kind, bit_low, bit_large}
use Rattle.reading.proofs.Other.{other_bit}
use Rattle.reading.proofs.Read.{rising_none, rising_next}
use Rattle.reading.proofs.judge.bits_singly.Goals as goal

-- the word is none of kind 3, or one whose bit is not above the last or not below n

pub loop-i-init : goal.loop-i-init
loop-i-init c = (omega arith, rising_none _ _ _)

pub returns-in_default : goal.returns-in_default
returns-in_default c = let l = c.loop-i in
    record {
      top = l.invariant.0;
      low = l.low;
      rising = l.invariant.1;
      next = λ k. bit_kind _ _ _ (other_bit _ c.read.result c.read.ensures c.in_default.not-Bit);
    }

pub returns-then-b-low : goal.returns-then-b-low
returns-then-b-low c = let l = c.loop-i in
    let K = rw c.in-Bit.is at c.read.ensures in
    record { top = l.invariant.0; low = l.low; rising = l.invariant.1; next = λ k. bit_low _ _ _ (rw K.rest c.if-b-low.true) }

pub returns-then-n-b : goal.returns-then-n-b
returns-then-n-b c = let l = c.loop-i in
    let K = rw c.in-Bit.is at c.read.ensures in
    record { top = l.invariant.0; low = l.low; rising = l.invariant.1; next = λ k. bit_large _ _ _ (rw K.rest c.if-n-b.true) }

pub loop-i-preserved : goal.loop-i-preserved
loop-i-preserved c = let l = c.loop-i in
    let K = rw c.in-Bit.is at c.read.ensures in
    (omega arith, rw (← K.rest) (rising_next _ _ _ _ _ l.invariant.1 (omega arith) (bit_yes _ _ _ K.kind (rw K.rest c.if-b-low.false) (rw K.rest c.if-n-b.false))))
