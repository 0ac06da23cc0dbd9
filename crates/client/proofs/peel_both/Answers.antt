-- `peel_both` meets its contract. Assumes nothing.
use mathlib.Core.Path.{sym, ◌∙◌}
use mathlib.Core.List.{[], ◌∷◌}
use native.Mathlib.Omega.{arith}
use Rattle.parity.specs.Demand3.{orthogonalises}
use Rattle.parity.proofs.Matrix.Accept.{accepts}
use Rattle.client.proofs.Closing.{few, relies, refused, copied_one, after_none, room}
use Rattle.client.proofs.peel_both.Goals as goal

pub copy_words-requires : goal.copy_words-requires
copy_words-requires c = let A = (accepts c.args.words.now c.args.n c.args.m 0).0 c.requires.0 in
    (omega (arith, A.words), omega (arith, c.requires.1))

pub peel_front-requires : goal.peel_front-requires
peel_front-requires c = let A = (accepts c.args.words.now c.args.n c.args.m 0).0 c.requires.0 in
    (omega (arith, c.requires.2), omega (arith, A.sound.n120))

pub returns-then-not-peel_front : goal.returns-then-not-peel_front
returns-then-not-peel_front c = refused c.args.words.now c.args.n c.args.m c.requires.0 c.args.given.now c.requires.2 _ _
    (sym c.if-not-peel_front.true ∙ c.peel_front.ensures.value)

pub peel_front-requires-in-Err : goal.peel_front-requires-in-Err
peel_front-requires-in-Err c = let A = (accepts c.args.words.now c.args.n c.args.m 0).0 c.requires.0 in
    (room c.args.n 0 c.args.given.now c.args.longer.now c.requires.2 c.requires.3 (omega arith), omega (arith, A.sound.n120))

pub peel_front-requires-in-Ok : goal.peel_front-requires-in-Ok
peel_front-requires-in-Ok c = let ws = c.args.words.now in
    let O = c.in-Ok.ensures in
    let (o, j) = copied_one ws c.args.n c.args.m c.requires.0 c.args.own.now _ _ c.requires.1 c.copy_words.ensures _ _ _ _ O.result_value O.words_after in
    let F = few ws c.args.n c.args.m c.requires.0 (orthogonalises ∷ []) in
    (room c.args.n _ c.args.given.now c.args.longer.now c.requires.2 c.requires.3 (omega (arith, F.0)), omega (arith, F.1))

pub returns-in-Err : goal.returns-in-Err
returns-in-Err c = let ws = c.args.words.now in
    let E = c.peel_front-in-Err.ensures in
    let (o, j) = after_none ws c.args.n c.args.m in
    relies ws c.args.n c.args.m c.requires.0 [] c.args.given.now c.args.longer.now c.requires.2 c.requires.3 ws 0 o j _ _ _ c.peel_front.ensures.bytes_after E.bytes_after E.value

pub returns-in-Ok : goal.returns-in-Ok
returns-in-Ok c = let ws = c.args.words.now in
    let O = c.in-Ok.ensures in
    let (o, j) = copied_one ws c.args.n c.args.m c.requires.0 c.args.own.now _ _ c.requires.1 c.copy_words.ensures _ _ _ _ O.result_value O.words_after in
    let E = c.peel_front-in-Ok.ensures in
    relies ws c.args.n c.args.m c.requires.0 (orthogonalises ∷ []) c.args.given.now c.args.longer.now c.requires.2 c.requires.3 _ _ o j _ _ _ c.peel_front.ensures.bytes_after E.bytes_after E.value
