-- `bytes::erased_behind` meets its contract. Assumes nothing.
use mathlib.Core.Path.{◌≡◌, ap, ◌∙◌}
use Prim.Native.Nat.{ℕ, ◌+◌, ◌-◌, ◌≤◌}
use native.Mathlib.Omega.{arith}
use lib.ListN.{length, drop, replicate, length-append, length-replicate, replicate-append-replicate}
use lib.Seq.{drop_at}
use Rattle.sets.proofs.bytes.erased_behind.Goals as goal

-- what is left of N bytes of 2 behind n of them
drop-erased : (n N : ℕ) → n ≤ N → drop n (replicate {A = ℕ} N 2) ≡ replicate (N - n) 2
drop-erased n N l =
    let e : N ≡ n + (N - n) = omega arith in
    ap (λ (j : ℕ). drop n (replicate {A = ℕ} j 2)) e
    ∙ rw (← replicate-append-replicate {A = ℕ} n (N - n) 2) (drop_at (replicate n 2) (replicate (N - n) 2) n (length-replicate {A = ℕ} n 2))

pub returns : goal.returns
returns c = let w = c.args.bytes.now in
    let e = drop-erased (length w) 512 c.requires in
    let a = c.copy_from_slice.ensures.after in
    (rw (a, e) (omega (arith, length-append w (replicate {A = ℕ} (512 - length w) 2), length-replicate {A = ℕ} (512 - length w) 2, c.requires)), rw (a, e))
