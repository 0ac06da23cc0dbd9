-- `orthogonal::turn` meets its contract. Assumes nothing.
use mathlib.Core.Path.{◌∙◌}
use native.Mathlib.Omega.{arith}
use Rattle.orthogonalise.proofs.Turns.{both_parted, given_parted, held_parted}
use Rattle.orthogonalise.proofs.course.turn.Goals as goal

pub merge-requires : goal.merge-requires
merge-requires c = let told = c.part in record { words_len = (c.requires.words_len.0, c.requires.words_len.3, omega (arith, c.requires.words_len.4, c.requires.words_len.5), c.requires.words_len.5, c.requires.words_len.6, omega arith, omega (arith, c.requires.words_len.1, told.auto.cols, c.requires.words_len.6)); clean = (c.requires.ready.clean, both_parted _ _ _ _ _ _ _ c.requires.ready told.ensures) }

pub widen-requires : goal.widen-requires
widen-requires c = let told = c.part in
    let done = c.merge in
    record { words_len = (done.auto.words ∙ c.requires.words_len.0, told.auto.cols ∙ c.requires.words_len.1, c.requires.words_len.2, c.requires.words_len.6); given = rw done.ensures (given_parted _ _ _ _ _ _ _ c.requires.ready told.ensures) }

pub returns : goal.returns
returns c = let told = c.part in
    record {
      matrix = c.merge.ensures;
      columns = told.ensures;
      bounds = c.widen.ensures;
      holders = c.holders.ensures ∙ held_parted _ _ _ _ _ _ c.requires.ready.clean (both_parted _ _ _ _ _ _ _ c.requires.ready told.ensures);
    }
