-- `judge::end` meets its contract. Assumes nothing.
use native.Mathlib.Omega.{arith}
use Rattle.parity.proofs.Record.Reading.{end_yes, end_kind, end_unnamed}
use Rattle.reading.proofs.Other.{other_end}
use Rattle.reading.proofs.Judging.{break_missing, break_other, break_more, end_right}
use Rattle.reading.proofs.judge.end.Goals as goal

pub returns-then-p-source : goal.returns-then-p-source
returns-then-p-source c = break_missing _ _ (omega arith)

pub returns-in_default : goal.returns-in_default
returns-in_default c = break_other _ _ (omega arith)
    (end_kind _ (other_end _ c.read.result c.read.ensures c.in_default.not-End))

pub returns-then-x-ne0 : goal.returns-then-x-ne0
returns-then-x-ne0 c = let K = rw c.in-End.is at c.read.ensures in
    break_other _ _ (omega arith) (end_unnamed _ (rw K.rest c.if-x-ne0.true))

pub returns-then-p-source-2 : goal.returns-then-p-source-2
returns-then-p-source-2 c = let K = rw c.in-End.is at c.read.ensures in
    break_more _ _ (omega arith) (end_yes _ K.kind (rw K.rest c.if-x-ne0.false)) c.if-p-source-2.true

pub returns : goal.returns
returns c = let K = rw c.in-End.is at c.read.ensures in
    end_right _ _ (omega arith) (end_yes _ K.kind (rw K.rest c.if-x-ne0.false)) c.if-p-source-2.false
