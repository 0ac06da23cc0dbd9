-- `receiver::input::read_words` meets its contract: at each turn the first i words are read. Assumes nothing.
use mathlib.Core.Path.{◌∙◌, refl}
use borrow.Author.Rules.{rules}
use native.Mathlib.Omega.{arith}
use native.Mathlib.Numerals.{add-one}
use lib.ListN.{length-set}
use lib.Seq.{take-suc-set}
use Rattle.parity.specs.Finite.{list_from}
use Rattle.receiver.specs.Stages.{words_in}
use Rattle.receiver.proofs.Whole.{words_more}
use Rattle.receiver.proofs.input.read_words.Goals as goal

pub loop-i-init : goal.loop-i-init
unfolding words_in list_from
loop-i-init c = (omega arith, omega arith, omega arith, refl, refl)

pub loop-i-preserved : goal.loop-i-preserved
loop-i-preserved c = let l = c.loop-i in (
  omega arith,
  omega arith,
  omega arith,
  simp length-set (search rules),
  rw (words_more, add-one) (take-suc-set l.out l.i c.number_at.result (omega arith) ∙ rw (l.invariant.4, c.number_at.ensures)),
)
