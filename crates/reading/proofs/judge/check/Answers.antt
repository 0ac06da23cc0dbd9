-- `judge::check` meets its contract. Assumes nothing.
use Rattle.reading.specs.Read.{Kind}
use Rattle.parity.specs.declared.Form.{Form}
use mathlib.Core.Path.{◌≡◌, sym, ap, ◌∙◌}
use Prim.Native.Nat.{ℕ, ◌/◌, ◌%◌, ◌≤◌}
use native.Mathlib.Omega.{arith}
use mathlib.Core.Bool.{true}
use Rattle.parity.specs.Record.{payload, open_word, number_in}
use Rattle.parity.proofs.Record.Reading.{open_yes, open_kind, open_number, open_large}
use Rattle.reading.proofs.Other.{other_open}
use Rattle.reading.proofs.Judging.{stop_missing, stop_open, check_stops, check_complete}
use Rattle.reading.proofs.judge.check.Goals as goal

-- the word that opens the check
opened : (f : Form) (n c w x m : ℕ) → Kind 2 w x → x / 256 ≡ m → m ≡ number_in f c → x % 256 ≤ n → (open_word f n c w ≡ true) × (payload w % 256 ≡ x % 256)
opened f n c w x m K d e k =
    let q = ap (λ (y : ℕ). y % 256) K.rest in
    (open_yes _ _ _ _ K.kind (ap (λ (y : ℕ). y / 256) K.rest ∙ d ∙ e) (omega (arith, q, k)), q)

pub returns-then-p-source : goal.returns-then-p-source
returns-then-p-source c = stop_missing _ _ _ _ _ (omega arith)

pub returns-in_default : goal.returns-in_default
returns-in_default c = stop_open _ _ _ _ _ (omega arith)
    (open_kind _ _ _ _ (other_open _ c.read.result c.read.ensures c.in_default.not-Open))

pub returns-then-number-due_number : goal.returns-then-number-due_number
returns-then-number-due_number c = let K = rw c.in-Open.is at c.read.ensures in
    stop_open _ _ _ _ _ (omega arith)
    (open_number _ _ _ _ (λ q. c.if-number-due_number.true (ap (λ (y : ℕ). y / 256) (sym K.rest) ∙ q ∙ sym c.number_in-due_number.ensures)))

pub returns-then-head-count : goal.returns-then-head-count
returns-then-head-count c = let K = rw c.in-Open.is at c.read.ensures in
    stop_open _ _ _ _ _ (omega arith) (open_large _ _ _ _ (rw K.rest c.if-head-count.true))

pub returns-then-right-count : goal.returns-then-right-count
returns-then-right-count c =
    let K = rw c.in-Open.is at c.read.ensures in
    let O = opened _ _ _ _ _ _ K c.if-number-due_number.false c.number_in-due_number.ensures c.if-head-count.false in
    check_stops _ _ _ _ _ (omega arith) _ _ _ O.0 O.1 c.bits-right.ensures (omega (arith, c.min-due.ensures)) (λ k. omega (arith, c.min-due.ensures)) c.if-right-count.true

pub returns : goal.returns
returns c =
    let K = rw c.in-Open.is at c.read.ensures in
    let O = opened _ _ _ _ _ _ K c.if-number-due_number.false c.number_in-due_number.ensures c.if-head-count.false in
    check_complete _ _ _ _ _ (omega arith) _ _ _ O.0 O.1 c.bits-right.ensures (omega (arith, c.min-due.ensures)) (omega (arith, c.min-due.ensures)) c.if-right-count.false
