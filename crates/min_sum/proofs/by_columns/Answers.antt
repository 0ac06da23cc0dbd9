-- `by_columns` meets its contract. Assumes nothing.
use Prim.Native.Nat.{ℕ}
use lib.ListN.{length-replicate}
use mathlib.Core.Path.{refl, ◌∙◌}
use native.Mathlib.Omega.{arith}
use Rattle.rows.proofs.Zeros.{empty}
use Rattle.phases.proofs.Sends.{across_is}
use Rattle.parity.specs.Matrix.{lent}
use Rattle.min_sum.proofs.by_columns.Goals as goal

pub fill-requires : goal.fill-requires
fill-requires c = let Q = c.requires.0 in
    record { words_len = (Q.laid.words, length-replicate {A = ℕ} 4096 0, omega (arith, Q.within.most), Q.within.most); empty = empty 8 4096 _ refl }

pub run-requires : goal.run-requires
run-requires c = let C = c.fill in
    let long = C.auto.cols ∙ length-replicate {A = ℕ} 4096 0 in
    let places = length-replicate {A = ℕ} 512 0 in
    (c.requires.0, record { long = long; same = across_is (lent 8 c.args.words.now) _ c.args.checks c.requires.0.within C.ensures }, places, c.requires.1)

pub returns : goal.returns
returns c = c.run.ensures
