-- `judge` meets its contract. Assumes nothing.
use Rattle.parity.specs.SoftCall.{soft_reply}
use Rattle.sets.proofs.Above.{wrong_some, wrong_none}
use Rattle.parity.proofs.Finite.Positions.{first_some, first_none}
use Rattle.min_sum.proofs.Judged.{fitting, searched}
use borrow.Author.Tests.{le-leb, lt-leb, eq-eqb, ne_eqb}
use mathlib.Core.Path.{sym, ◌∙◌}
use Rattle.min_sum.proofs.judge.judge.Goals.{then-rounds-lt1-via-then-rounds-lt1, then-rounds-lt1-via-else-rounds-lt1+then-rounds-gt512, then-word-bits-via-then-word-bits, then-word-bits-via-else-word-bits+then-floats-bits, then-word-bits-via-else-word-bits+else-floats-bits+then-tags-ne65536, then-word-bits-via-else-word-bits+else-floats-bits+else-tags-ne65536+then-values-ne65536}
use Rattle.min_sum.proofs.judge.judge.Goals as goal

pub returns-then-rounds-lt1 : goal.returns-then-rounds-lt1
unfolding soft_reply
returns-then-rounds-lt1 c =
    elim c.then-rounds-lt1.branch [
      | then-rounds-lt1-via-then-rounds-lt1 w ↦ rw (lt-leb 1 _ w.if-rounds-lt1.true)
      | then-rounds-lt1-via-else-rounds-lt1+then-rounds-gt512 w ↦ rw (le-leb 1 _ w.if-rounds-lt1.false, lt-leb _ 512 w.if-rounds-gt512.true)
    ]

pub returns-then-word-bits : goal.returns-then-word-bits
unfolding soft_reply
returns-then-word-bits c = let rounds = c.args.rounds in
    rw (le-leb 1 rounds c.if-rounds-lt1.false, le-leb rounds 512 c.if-rounds-gt512.false)
    (elim c.then-word-bits.branch [
      | then-word-bits-via-then-word-bits w ↦ rw (ne_eqb _ _ w.if-word-bits.true)
      | then-word-bits-via-else-word-bits+then-floats-bits w ↦ rw (eq-eqb _ _ w.if-word-bits.false, ne_eqb _ _ w.if-floats-bits.true)
      | then-word-bits-via-else-word-bits+else-floats-bits+then-tags-ne65536 w ↦ rw (eq-eqb _ _ w.if-word-bits.false, eq-eqb _ _ w.if-floats-bits.false, ne_eqb _ _ w.if-tags-ne65536.true)
      | then-word-bits-via-else-word-bits+else-floats-bits+else-tags-ne65536+then-values-ne65536 w ↦ rw (eq-eqb _ _ w.if-word-bits.false, eq-eqb _ _ w.if-floats-bits.false, eq-eqb _ _ w.if-tags-ne65536.false, ne_eqb _ _ w.if-values-ne65536.true)
    ])

pub returns-in-Some : goal.returns-in-Some
returns-in-Some c = let (e, f) = wrong_some 3 c.args.word.now _ (sym c.in-Some.is ∙ c.first_above.ensures) in
    sym (fitting _ _ _ _ _ _ c.if-rounds-lt1.false c.if-rounds-gt512.false c.if-word-bits.false c.if-floats-bits.false c.if-tags-ne65536.false c.if-values-ne65536.false ∙ rw (e, f))

pub returns-in-Some-first_float : goal.returns-in-Some-first_float
returns-in-Some-first_float c =
    let e = wrong_none 3 c.args.word.now (sym c.in_default.is ∙ c.first_above.ensures) in
    let (f, p) = first_some _ _ _ (sym c.in-Some-first_float.is ∙ c.first_float.ensures ∙ searched c.args.bits _ _ c.if-word-bits.false c.if-floats-bits.false) in
    sym (fitting _ _ _ _ _ _ c.if-rounds-lt1.false c.if-rounds-gt512.false c.if-word-bits.false c.if-floats-bits.false c.if-tags-ne65536.false c.if-values-ne65536.false ∙ rw (e, f, p))

pub returns-in-None : goal.returns-in-None
returns-in-None c =
    let e = wrong_none 3 c.args.word.now (sym c.in_default.is ∙ c.first_above.ensures) in
    let f = first_none _ _ (sym c.in-None.is ∙ c.first_float.ensures ∙ searched c.args.bits _ _ c.if-word-bits.false c.if-floats-bits.false) in
    sym (fitting _ _ _ _ _ _ c.if-rounds-lt1.false c.if-rounds-gt512.false c.if-word-bits.false c.if-floats-bits.false c.if-tags-ne65536.false c.if-values-ne65536.false ∙ rw (e, f))
