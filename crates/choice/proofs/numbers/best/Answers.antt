-- `best` meets its contract. Assumes nothing.
use Rattle.columns.specs.Planes.{number}
use Rattle.choice.proofs.Highest.{stage_start, stage_next}
use Rattle.choice.proofs.numbers.best.Goals as goal

pub returns : goal.returns
unfolding number
returns c = let S0 = stage_start c.args.mask in
    let S1 = stage_next _ _ _ _ _ _ _ S0 c.narrow-t6.ensures in
    let S2 = stage_next _ _ _ _ _ _ _ S1 c.narrow-t5.ensures in
    let S3 = stage_next _ _ _ _ _ _ _ S2 c.narrow-t4.ensures in
    let S4 = stage_next _ _ _ _ _ _ _ S3 c.narrow-t3.ensures in
    let S5 = stage_next _ _ _ _ _ _ _ S4 c.narrow-t2.ensures in
    let S6 = stage_next _ _ _ _ _ _ _ S5 c.narrow-t1.ensures in
    let S7 = stage_next _ _ _ _ _ _ _ S6 c.narrow.ensures in
    record { here = S7.here; below = S7.below; some = S7.some; less = S7.less }
