-- `tiles::blank_row` meets its contract. Assumes nothing.
use Rattle.std.proofs.Common.{rules}
use mathlib.Core.Path.{◌≡◌}
use Prim.Native.Nat.{◌+◌, ◌*◌, ◌-◌}
use native.Mathlib.Omega.{arith}
use lib.ListN.{replicate}
use Rattle.std.proofs.lemmas.List.{get_or-replicate, length-replicate}
use Rattle.rows.proofs.Writing.{written_part}
use Rattle.lanes.proofs.Writing.{blanked_all}
use Rattle.lanes.proofs.tiles.blank_row.Goals as goal

pub returns : goal.returns
returns c = let s = c.args in
    let e : s.b * s.lanes + s.lanes - s.b * s.lanes ≡ s.lanes = omega arith in
    let z : c.fill.new.self ≡ replicate s.lanes 0 = search rules in
    blanked_all s.b s.tile.now _ s.lanes (rw (e, z) (written_part s.tile.now (replicate s.lanes 0) (s.b * s.lanes) s.lanes (λ a. 0) c.requires (length-replicate s.lanes 0) (λ j k. get_or-replicate s.lanes j 0 0 k)))
