-- `touches` meets its contract. Assumes nothing.
use Rattle.rows.proofs.Touch.{touch_law}
use Rattle.rows.proofs.touches.Goals as goal

pub returns : goal.returns
returns c = touch_law c.args.width c.args.used c.requires.2 c.args.a.now c.args.b.now c.args.i c.args.j (λ q. (c.type_inv.a q).fits) _ c.meet.ensures
