-- `check_at` meets its contract. Assumes nothing.
use Rattle.phases.proofs.Parts.{part_length, part_length', part_sounds, part_answers}
use native.Mathlib.Omega.{arith}
use mathlib.Core.Path.{◌∙◌, sym}
use Rattle.phases.proofs.checks.check_at.Goals as goal

pub check_answers-requires : goal.check_answers-requires
check_answers-requires c = let l = part_length c.args.a c.args.w c.args.tags.now c.args.values.now c.requires.tags_len.0 c.requires.tags_len.1 in
    let l' = part_length' c.args.a c.args.w c.args.tags.now c.args.values.now c.requires.tags_len.0 c.requires.tags_len.1 in
    record { tags_len = (l ∙ sym l', omega (arith, l, c.requires.tags_len.2)); sounds = part_sounds c.args.a c.args.w c.args.tags.now c.args.values.now c.requires.tags_len.0 c.requires.tags_len.1 c.requires.sounds }

pub returns : goal.returns
returns c = part_answers c.args.a c.args.w c.args.tags.now c.args.values.now c.requires.tags_len.0 c.requires.tags_len.1 _ _ c.check_answers.ensures
