-- `added::put_sent` meets its contract: at each turn the first b bytes are put. Assumes nothing.
use mathlib.Core.Path.{◌≡◌, refl}
use mathlib.Core.List.{List, ◌++◌}
use Prim.Native.Nat.{ℕ, suc, ◌+◌, ◌<◌}
use native.Mathlib.Nat.{zero-add}
use native.Mathlib.Numerals.{add-one}
use native.Mathlib.Omega.{arith}
use lib.ListN.{get_or, length, set, take, drop, length-set}
use lib.Seq.{take-length, paste-suc}
use Rattle.extend.proofs.added.put_sent.Goals as goal

-- one more byte is put in front
front-more : (d s : List ℕ) (j : ℕ) → j < length d → j < length s → set (take j s ++ drop j d) j (get_or s j 0) ≡ take (j + 1) s ++ drop (j + 1) d
front-more d s j l k = rw add-one (rw (zero-add j, zero-add (suc j)) at (paste-suc d 0 s j 0 (omega arith) k))

pub loop-b-init : goal.loop-b-init
loop-b-init c = (refl, refl)

pub loop-b-preserved : goal.loop-b-preserved
loop-b-preserved c = let l = c.loop-b in
    (simp length-set l.invariant.0, rw l.invariant.1 (front-more c.args.word.now c.args.sent.now l.b (omega (arith, c.requires)) (omega arith)))

pub returns : goal.returns
returns c = let l = c.loop-b in
    let e : l.b ≡ length c.args.sent.now = omega arith in
    rw (e, take-length c.args.sent.now) at l.invariant.1
