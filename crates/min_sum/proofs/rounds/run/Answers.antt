-- `run` meets its contract. Assumes nothing.
use Rattle.min_sum.proofs.Course.{ready_same, round_sound, last_results}
use Rattle.parity.specs.Matrix.{lent}
use native.Mathlib.Omega.{arith}
use Prim.Native.Nat.{suc, ◌-◌}
use mathlib.Core.Path.{◌≡◌, refl, sym, ◌∙◌}
use Rattle.min_sum.proofs.rounds.run.Goals as goal

pub course-requires : goal.course-requires
course-requires c = (c.requires.0, c.requires.1, c.requires.2)

pub last_round-requires : goal.last_round-requires
last_round-requires c = let C = c.course in
    let K = C.ensures in
    let Q = c.requires.0 in
    let M = Q.laid.memory in
    let sound = round_sound (lent 8 c.args.words.now) c.args.checks _ c.args.word.now c.args.floats.now refl Q.sounds _ _ _ K in
    record { ready = (ready_same _ _ _ _ _ _ Q _ _ (K.tags ∙ sym M.tags) (K.values ∙ sym M.values), c.requires.1); at_len = (C.auto.at ∙ c.requires.2, sound) }

pub returns : goal.returns
returns c = let e : suc (c.args.rounds - 1) ≡ c.args.rounds = omega (arith, c.requires.3) in
    rw e at (last_results (lent 8 c.args.words.now) _ c.args.checks _ (c.args.rounds - 1) _ _ c.requires.0.inner.most c.course.ensures _ _ c.last_round.ensures)
