-- `orthogonalise_accepted` meets its contract. Assumes nothing.
use mathlib.Core.Path.{◌∙◌}
use Rattle.parity.proofs.Matrix.Accept.{accepts}
use Rattle.parity.proofs.Splits.Splitting.{orthogonalises, packed}
use Rattle.orthogonalise.proofs.orthogonalise_accepted.Goals as goal

pub repeat-requires : goal.repeat-requires
repeat-requires c = let s = c.args in
    let A = (accepts s.words.now s.n s.m s.k).0 c.requires in
    record { words_len = A.words; sound = A.sound }

pub returns : goal.returns
returns c = let s = c.args in
    let A = (accepts s.words.now s.n s.m s.k).0 c.requires in
    let E = c.repeat in
    rw (orthogonalises s.words.now s.n s.m s.k A)
    record { result_value = E.ensures.told; words_after = packed _ _ (E.auto.words ∙ A.words) (λ i. (c.type_inv.words i).fits) E.ensures.matrix }
