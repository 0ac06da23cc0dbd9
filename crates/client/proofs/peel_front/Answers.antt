-- `peel_front` meets its contract. Assumes nothing.
use mathlib.Core.Path.{sym, ap, ◌∙◌}
use mathlib.Core.List.{List, ◌++◌}
use Prim.Native.Nat.{ℕ, ◌+◌}
use lib.ListN.{drop}
use lib.Seq.{length-take-le}
use Rattle.client.proofs.Closing.{told}
use Rattle.client.proofs.peel_front.Goals as goal

pub slice_bounds-peel-end-2 : goal.slice_bounds-peel-end-2
slice_bounds-peel-end-2 c = sym (length-take-le (c.args.n + c.args.k) c.args.bytes.now c.requires.0)

pub returns : goal.returns
returns c = let E = c.peel.ensures in
    record { value = c.is_ok.ensures.value ∙ told _ _ E.result_value; bytes_after = ap (λ (l : List ℕ). l ++ drop (c.args.n + c.args.k) c.args.bytes.now) E.word_after }
