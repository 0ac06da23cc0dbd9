-- `bit_sends` meets its contract. Assumes nothing.
use Rattle.bit_row.proofs.Cursor.{row_fits, moving_end}
use Rattle.messages.proofs.Places.{laid_same}
use Rattle.phases.proofs.Sends.{bit_sent}
use native.Mathlib.Omega.{arith}
use mathlib.Core.Path.{◌∙◌}
use Rattle.phases.proofs.bits.bit_sends.Goals as goal

pub bit_at-requires : goal.bit_at-requires
bit_at-requires c = row_fits _ _ _ _ _ _ _ _ _ _ _ c.gather-d.ensures c.requires.laid_across.0 c.requires.laid_across.1

pub scatter-requires : goal.scatter-requires
scatter-requires c = let G = c.gather-d.ensures in
    let P = c.bit_at.ensures.part in
    let L = laid_same _ _ _ _ c.requires.laid_across.0 _ _ (P.tags ∙ G.low.tags) (P.values ∙ G.low.values) in
    record { laid_across = (L, c.requires.laid_across.1); b_bound = (c.requires.at_bit.0, moving_end _ 512 c.args.b _ _ G.moving c.args.checks c.requires.laid_across.1 (omega arith)) }

pub returns : goal.returns
returns c = let G = c.gather-d.ensures in
    let P = rw G.many at c.bit_at.ensures.part in record { cursors = moving_end _ 512 c.args.b _ _ G.moving c.args.checks c.requires.laid_across.1 (omega arith); bit_sent = bit_sent _ 512 c.args.checks c.args.b c.args.channel _ _ _ _ G.row _ _ P _ _ c.scatter.ensures G.low c.requires.laid_across.0.room c.requires.laid_across.1.most }
