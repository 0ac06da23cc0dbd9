-- `put_checks` meets its contract. Assumes nothing.
use mathlib.Core.Path.{◌≡◌, ◌∙◌}
use Prim.Native.Nat.{◌*◌}
use native.Mathlib.Omega.{arith}
use lib.Dec.{lit<}
use lib.ListN.{length-set}
use Rattle.house.specs.Names.{number_of, code}
use Rattle.house.proofs.Names.{sizes}
use Rattle.parity.proofs.House.Copied.{house_clean}
use Rattle.house.proofs.Held.{holding_none, holding_next}
use Rattle.house.proofs.put_checks.Goals as goal

pub loop-c-init : goal.loop-c-init
loop-c-init c = (omega arith, c.size-c-end.ensures.1, c.requires.0, holding_none 8 _ _ c.requires.1)

pub word-requires : goal.word-requires
word-requires c = omega (arith, c.loop-c.invariant.1)

pub overflow_mul-words : goal.overflow_mul-words
overflow_mul-words c = let s = sizes c.args.name in record { fits = omega arith }

pub offset_bounds-words-c : goal.offset_bounds-words-c
offset_bounds-words-c c = let s = sizes c.args.name in record { fits = omega arith }

pub bounds-words-c : goal.bounds-words-c
bounds-words-c c = let s = sizes c.args.name in omega arith

pub loop-c-preserved : goal.loop-c-preserved
loop-c-preserved c = let l = c.loop-c in
    let s = sizes c.args.name in
    let H = holding_next 8 (lit< tt) _ _ _ (house_clean (number_of c.args.name)) (omega arith) l.c l.words (omega arith) l.invariant.2 l.invariant.3 in
    (omega arith, l.invariant.1, length-set l.words (l.c * 8) _ ∙ l.invariant.2, rw (c.word.ensures) H)

pub returns : goal.returns
returns c = let l = c.loop-c in
    let e : l.c ≡ (code c.args.name).m = omega arith in
    rw e at l.invariant.3
