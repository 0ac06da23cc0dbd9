-- `added::added_bit` meets its contract. Assumes nothing.
use mathlib.Core.Path.{sym, ap, ◌∙◌}
use Prim.Native.Nat.{◌+◌, ◌≤◌, ◌<◌}
use native.Mathlib.Omega.{arith}
use Rattle.parity.specs.Finite.{one}
use Rattle.parity.specs.Matrix.{lent}
use Rattle.parity.specs.Words.{is_one, odd}
use Rattle.parity.specs.Calls.{byte_of}
use Rattle.parity.proofs.Matrix.Sound.{sound_rule}
use Rattle.parity.proofs.Matrix.Accept.{accepts}
use Rattle.extend.proofs.Lower.{lower_first, lower_second, inside_two, xor_odd}
use Rattle.extend.proofs.added.added_bit.Goals as goal

pub overflow_add-m : goal.overflow_add-m
overflow_add-m c = let A = (accepts c.args.words.now c.args.n c.args.m c.args.k).0 c.requires.0 in
    let S = A.sound in
    let j : c.args.j < c.args.k = c.requires.1 in
    omega (arith, S.m120, S.k392)

pub next_one-x-requires : goal.next_one-x-requires
next_one-x-requires c = let A = (accepts c.args.words.now c.args.n c.args.m c.args.k).0 c.requires.0 in
    let S = A.sound in
    let j : c.args.j < c.args.k = c.requires.1 in
    (A.words, omega (arith, S.m120, S.k392), omega arith)

pub overflow_add-m-2 : goal.overflow_add-m-2
overflow_add-m-2 c = let A = (accepts c.args.words.now c.args.n c.args.m c.args.k).0 c.requires.0 in
    let S = A.sound in
    let j : c.args.j < c.args.k = c.requires.1 in
    omega (arith, S.m120, S.k392)

pub next_one-y-requires : goal.next_one-y-requires
next_one-y-requires c = let A = (accepts c.args.words.now c.args.n c.args.m c.args.k).0 c.requires.0 in
    let S = A.sound in
    let j : c.args.j < c.args.k = c.requires.1 in
    let R = sound_rule (lent 8 c.args.words.now) c.args.n c.args.m c.args.k c.args.j S j in
    let few : c.args.n + c.args.j ≤ 512 = omega (arith, S.n120, S.k392) in
    (A.words, omega (arith, S.m120, S.k392), omega (arith, lower_first (lent 8 c.args.words.now) c.args.n c.args.m c.args.k c.args.j R c.next_one-x.result 0 c.next_one-x.ensures few))

pub bounds-word-x : goal.bounds-word-x
bounds-word-x c = let A = (accepts c.args.words.now c.args.n c.args.m c.args.k).0 c.requires.0 in
    let S = A.sound in
    let j : c.args.j < c.args.k = c.requires.1 in
    let R = sound_rule (lent 8 c.args.words.now) c.args.n c.args.m c.args.k c.args.j S j in
    let few : c.args.n + c.args.j ≤ 512 = omega (arith, S.n120, S.k392) in
    omega (arith, lower_first (lent 8 c.args.words.now) c.args.n c.args.m c.args.k c.args.j R c.next_one-x.result 0 c.next_one-x.ensures few, c.requires.2)

pub bounds-word-y : goal.bounds-word-y
bounds-word-y c = let A = (accepts c.args.words.now c.args.n c.args.m c.args.k).0 c.requires.0 in
    let S = A.sound in
    let j : c.args.j < c.args.k = c.requires.1 in
    let R = sound_rule (lent 8 c.args.words.now) c.args.n c.args.m c.args.k c.args.j S j in
    let few : c.args.n + c.args.j ≤ 512 = omega (arith, S.n120, S.k392) in
    omega (arith, lower_second (lent 8 c.args.words.now) c.args.n c.args.m c.args.k c.args.j R c.next_one-x.result c.next_one-y.result c.next_one-x.ensures few c.next_one-y.ensures, c.requires.2)

pub returns : goal.returns
returns c = let A = (accepts c.args.words.now c.args.n c.args.m c.args.k).0 c.requires.0 in
    let S = A.sound in
    let j : c.args.j < c.args.k = c.requires.1 in
    let R = sound_rule (lent 8 c.args.words.now) c.args.n c.args.m c.args.k c.args.j S j in
    let few : c.args.n + c.args.j ≤ 512 = omega (arith, S.n120, S.k392) in
    let w = c.args.word.now in
    let a = c.next_one-x.result in
    let b = c.next_one-y.result in
    let p = lower_first (lent 8 c.args.words.now) c.args.n c.args.m c.args.k c.args.j R a b c.next_one-x.ensures few in
    let q = lower_second (lent 8 c.args.words.now) c.args.n c.args.m c.args.k c.args.j R a b c.next_one-x.ensures few c.next_one-y.ensures in
    xor_odd (byte_of w a) (byte_of w b) (c.requires.3.at a p) (c.requires.3.at b q)
    ∙ ap (λ t. one (odd t)) (sym (inside_two (lent 8 c.args.words.now) c.args.n c.args.m c.args.k c.args.j R a b c.next_one-x.ensures few c.next_one-y.ensures (is_one (byte_of w))))
