-- `rule::generate` meets its contract. Assumes nothing.
use mathlib.Core.Path.{◌≡◌, refl, ◌∙◌}
use native.Mathlib.Omega.{arith}
use Rattle.parity.specs.Finite.{sum}
use Rattle.parity.specs.House.{table_word}
use Rattle.house.specs.Names.{number_of, code}
use Rattle.house.proofs.Names.{sizes}
use Rattle.parity.proofs.House.Copied.{house_clean}
use Rattle.house.proofs.Generated.{word_fits, word_next, word_all}
use Rattle.house.proofs.rule.generate.Goals as goal

pub loop-b-init : goal.loop-b-init
unfolding table_word sum
loop-b-init c = let s = sizes c.args.name in (omega arith, c.size-b-end.ensures.0, omega (arith, c.size-b-end.ensures.0), refl)

pub contains-requires : goal.contains-requires
contains-requires c = (c.requires, omega (arith, c.loop-b.invariant.1))

pub overflow_add-x : goal.overflow_add-x
overflow_add-x c = let l = c.loop-b in
    let f = word_fits _ _ _ (house_clean (number_of c.args.name)) (omega arith) c.args.c.0 l.b (omega arith) in
    record { fits = rw (l.invariant.3, c.value-x.ensures, c.contains.ensures) f }

pub overflow_step-b : goal.overflow_step-b
overflow_step-b c = record { fits = omega arith }

pub loop-b-preserved : goal.loop-b-preserved
loop-b-preserved c = let l = c.loop-b in (
  omega arith,
  l.invariant.1,
  l.invariant.2,
  rw (l.invariant.3, c.value-x.ensures, c.contains.ensures) (word_next (code c.args.name).matrix c.args.c.0 l.b),
)

pub returns : goal.returns
returns c = let l = c.loop-b in
    let e : l.b ≡ (code c.args.name).n = omega arith in
    l.invariant.3 ∙ rw e (word_all _ _ _ (house_clean (number_of c.args.name)) (omega arith) c.args.c.0)
