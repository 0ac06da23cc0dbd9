-- `same_float` meets its contract. Assumes nothing.
use Rattle.standing.proofs.Kept.{equal_right}
use Rattle.standing.proofs.same_float.Goals as goal

pub float_to_bits-result-then-x-y : goal.float_to_bits-result-then-x-y
float_to_bits-result-then-x-y c = equal_right c.args.x c.args.y c.if-x-y.true
