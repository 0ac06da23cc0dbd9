-- `scan` meets its contract. Assumes nothing.
use native.Mathlib.Omega.{arith}
use Rattle.columns.proofs.Adders.{given_light, shares_met}
use Rattle.columns.proofs.From.{from_all}
use Rattle.choice.proofs.RowBounds.{word_hit, word_next}
use Rattle.choice.proofs.bounds.scan.Goals as goal

pub tally-requires : goal.tally-requires
tally-requires c = record { width_in_bounds = (omega (arith, c.requires.words_len.1, c.requires.words_len.3), omega arith, omega (arith, c.requires.words_len.0), omega (arith, c.words_of-i-end.ensures.1)); r_bound = given_light 2 _ _ c.requires.given.0 _ }

pub returns-then-top-s : goal.returns-then-top-s
returns-then-top-s c = let l = c.loop-i in
    word_hit _ c.args.bits _ _ _ _ l.invariant.2 _ l.invariant.1 _ (shares_met 2 _ _ c.requires.given.0 _ _ _ c.tally.ensures) _ _ c.best-top.ensures c.requires.given.1 (omega arith) c.requires.given.2 l.invariant.0 c.if-top-s.true

pub loop-i-preserved : goal.loop-i-preserved
loop-i-preserved c = let l = c.loop-i in (
  omega (arith, l.invariant.0),
  from_all _ _ (omega (arith, l.invariant.0)),
  rw c.max-most.ensures (word_next _ c.args.bits _ _ _ _ l.invariant.2 _ l.invariant.1 _ (shares_met 2 _ _ c.requires.given.0 _ _ _ c.tally.ensures) _ _ c.best-top.ensures c.requires.given.1 (omega arith) c.requires.given.2 l.invariant.0 c.if-top-s.false),
)
