-- What the loops of `next_alone` keep.
use mathlib.Core.Path.{◌≡◌}
use Prim.Native.Nat.{◌-◌, ◌≤◌, ◌<◌}
use lib.ListN.{length, get_or}
use Rattle.parity.specs.Matrix.{lent}
use Rattle.search.proofs.Offset.{Rest}
use Rattle.search.proofs.Seen.{Row, Bits}
use Rattle.search.proofs.Listing.{Searched}
use Rattle.search.proofs.next_alone.Given as goal

abbrev pub invariant-offsets : goal.invariant-offsets
invariant-offsets l = (l.at ≡ l.initial.at) × (l.c < l.checks) × (length l.live ≡ 512) × (get_or l.live l.at 0 ≡ l.c) × Searched (lent 8 l.words) 512 l.checks (lent 8 l.erased 0) l.count l.kept l.live l.k l.at × Rest 8 l.used l.words l.erased l.c l.seen l.y

abbrev pub decreases-offsets : goal.decreases-offsets
decreases-offsets l = l.y

abbrev pub invariant-bits : goal.invariant-bits
invariant-bits l = (l.at ≡ l.initial.at) × (l.i < l.used) × (l.c < l.checks) × (length l.live ≡ 512) × (get_or l.live l.at 0 ≡ l.c) × Searched (lent 8 l.words) 512 l.checks (lent 8 l.erased 0) l.count l.kept l.live l.k l.at × Bits 8 l.used l.words l.erased l.c l.b l.i l.x

abbrev pub decreases-bits : goal.decreases-bits
decreases-bits l = l.x

abbrev pub invariant-row : goal.invariant-row
invariant-row l = (l.at ≡ l.initial.at) × (l.i ≤ l.used) × (l.c < l.checks) × (length l.live ≡ 512) × (get_or l.live l.at 0 ≡ l.c) × Searched (lent 8 l.words) 512 l.checks (lent 8 l.erased 0) l.count l.kept l.live l.k l.at × Row 8 l.used l.words l.erased l.c l.b l.i

abbrev pub invariant-scan : goal.invariant-scan
invariant-scan l = (length l.live ≡ 512) × Searched (lent 8 l.words) 512 l.checks (lent 8 l.erased 0) l.count l.kept l.live l.k l.at

abbrev pub decreases-scan : goal.decreases-scan
decreases-scan l = l.count - l.at
