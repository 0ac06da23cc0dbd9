-- `recover::back_one` meets its contract. Assumes nothing.
use native.Mathlib.Numerals.{add-one}
use native.Mathlib.Omega.{arith}
use Rattle.carried.proofs.Standing.{standing_same, standing_lower, standing_higher, joined_back, joined_columns}
use Rattle.carried.proofs.Newest.{bits_below, raw_small, one_stops, one_keeps, one_few, one_made}
use Rattle.carried.proofs.recover.back_one.Goals as goal

pub next_one-v-requires : goal.next_one-v-requires
next_one-v-requires c = let R = rw (add-one c.args.j) at c.requires.raw.0 in
    let a = standing_lower _ _ _ _ _ R _ c.next_one-u.ensures in
    let l = bits_below _ _ _ _ R in
    (c.requires.with_columns.0, omega (arith, R.sound.m120, R.sound.k392, R.less), omega (arith, a, l.0, l.1, raw_small _ _ _ _ R))

pub apart-requires : goal.apart-requires
apart-requires c = let R = rw (add-one c.args.j) at c.requires.raw.0 in
    let a = standing_lower _ _ _ _ _ R _ c.next_one-u.ensures in
    let b = standing_higher _ _ _ _ _ R _ _ a c.next_one-v.ensures in
    let l = bits_below _ _ _ _ R in
    let t = raw_small _ _ _ _ R in
    (omega (arith, c.requires.with_columns.1, a, l.0, l.1, t), omega (arith, c.requires.with_columns.1, b, l.1, t), omega (arith, c.requires.with_columns.1, t))

pub returns-then-not-apart : goal.returns-then-not-apart
returns-then-not-apart c = let R = rw (add-one c.args.j) at c.requires.raw.0 in
    let C = rw (add-one c.args.j) at c.requires.raw.1 in
    let a = standing_lower _ _ _ _ _ R _ c.next_one-u.ensures in
    let b = standing_higher _ _ _ _ _ R _ _ a c.next_one-v.ensures in
    let E = c.apart in
    rw (add-one c.args.j) record { back_one = one_stops _ _ _ _ R _ C _ _ E.result a b E.ensures c.if-not-apart.true _; columns = standing_same _ _ _ _ _ C }

pub returns-then-weight-lt2 : goal.returns-then-weight-lt2
returns-then-weight-lt2 c = let R = rw (add-one c.args.j) at c.requires.raw.0 in
    let C = rw (add-one c.args.j) at c.requires.raw.1 in
    let w = c.weight in
    rw (add-one c.args.j) record { back_one = one_few _ _ _ _ R _ C w.result w.ensures c.if-weight-lt2.true _; columns = standing_same _ _ _ _ _ C }

pub join-requires : goal.join-requires
join-requires c = let R = rw (add-one c.args.j) at c.requires.raw.0 in
    let a = standing_lower _ _ _ _ _ R _ c.next_one-u.ensures in
    let b = standing_higher _ _ _ _ _ R _ _ a c.next_one-v.ensures in
    let l = bits_below _ _ _ _ R in
    (c.requires.with_columns.1, omega (arith, a, b, l.0), omega (arith, b, l.1), raw_small _ _ _ _ R)

pub returns : goal.returns
returns c = let R = rw (add-one c.args.j) at c.requires.raw.0 in
    let C = rw (add-one c.args.j) at c.requires.raw.1 in
    let a = standing_lower _ _ _ _ _ R _ c.next_one-u.ensures in
    let b = standing_higher _ _ _ _ _ R _ _ a c.next_one-v.ensures in
    let E = c.apart in
    let w = c.weight in
    let A = one_keeps _ _ _ _ R _ C _ _ E.result a b E.ensures c.if-not-apart.false in
    let J = c.join.ensures in
    rw (add-one c.args.j) record { back_one = one_made _ _ _ _ R _ C A w.result w.ensures c.if-weight-lt2.false _ (joined_back _ _ _ _ _ R _ _ _ a b A J); columns = joined_columns _ _ _ _ _ R _ _ _ a b A J C }
