-- `judge::first_word` meets its contract. Assumes nothing.
use mathlib.Core.Path.{ap}
use Prim.Native.Nat.{ℕ, ◌/◌, ◌%◌}
use native.Mathlib.Omega.{arith}
use Rattle.parity.proofs.Record.ReadWritten.{form_head}
use Rattle.reading.proofs.Other.{other_head}
use Rattle.reading.proofs.Judging.{head_kind_lem, head_range, head_yes}
use Rattle.reading.proofs.judge.first_word.Goals as goal

pub returns-in_default : goal.returns-in_default
returns-in_default c = head_kind_lem _ (other_head _ c.read.result c.read.ensures c.in_default.not-Head)

pub returns-then-n-lt1 : goal.returns-then-n-lt1
returns-then-n-lt1 c = let K = rw c.in-Head.is at c.read.ensures in
    head_range _ _ (λ r. omega (arith, K.rest))

pub returns-then-n-gt120 : goal.returns-then-n-gt120
returns-then-n-gt120 c = let K = rw c.in-Head.is at c.read.ensures in
    head_range _ _ (λ r. omega (arith, K.rest))

pub returns-then-m-gt120 : goal.returns-then-m-gt120
returns-then-m-gt120 c = let K = rw c.in-Head.is at c.read.ensures in
    head_range _ _ (λ r. omega (arith, K.rest))

pub returns : goal.returns
returns c = let K = rw c.in-Head.is at c.read.ensures in
    record {
      right = head_yes _ _ K.kind (omega (arith, K.rest)) (omega (arith, K.rest)) (omega (arith, K.rest));
      form = form_head _ _ K.kind;
      bits = ap (λ (x : ℕ). x % 256) K.rest;
      checks = ap (λ (x : ℕ). x / 256) K.rest;
    }
