-- `bit_result` meets its contract. Assumes nothing.
use Rattle.bit_row.proofs.Cursor.{row_fits, moving_end}
use Rattle.phases.proofs.Sends.{part_low, row_result}
use Rattle.bit_row.proofs.Row.{low_more}
use native.Mathlib.Omega.{arith}
use mathlib.Core.Path.{◌∙◌}
use Rattle.phases.proofs.bits.bit_result.Goals as goal

pub bit_at-requires : goal.bit_at-requires
bit_at-requires c = row_fits _ _ _ _ _ _ _ _ _ _ _ c.gather-d.ensures c.requires.laid_across.0 c.requires.laid_across.1

pub returns : goal.returns
returns c = let G = c.gather-d.ensures in
    let A = rw G.many at c.bit_at.ensures in record { value = A.value ∙ row_result _ 512 c.args.checks c.args.b c.args.channel _ _ _ _ G.row; cursors = moving_end _ 512 c.args.b _ _ G.moving c.args.checks c.requires.laid_across.1 (omega arith); low = low_more _ _ _ _ G.low _ _ (part_low _ _ _ _ _ _ A.part) }
