-- `number` meets its contract. Assumes nothing.
use mathlib.Core.Path.{◌≡◌, sym, ap, ◌∙◌}
use Rattle.parity.specs.Causes.{Reply, numbered_reply}
use Rattle.parity.specs.declared.Numbered.{Numbered}
use Rattle.refusals.proofs.number.Goals as goal

-- what is told has the number of the reply
same : (told : Numbered) (reply : Reply) → numbered_reply told ≡ reply → (x : Numbered) → told ≡ x → (numbered_reply x).number ≡ reply.number
same told reply e x q = ap (λ (y : Numbered). (numbered_reply y).number) (sym q) ∙ ap (λ (y : Reply). y.number) e

pub returns-in-Alone : goal.returns-in-Alone
returns-in-Alone c = same _ _ c.refused-told.ensures _ c.in-Alone.is

pub returns-in-One : goal.returns-in-One
returns-in-One c = same _ _ c.refused-told.ensures _ c.in-One.is

pub returns-in-Two : goal.returns-in-Two
returns-in-Two c = same _ _ c.refused-told.ensures _ c.in-Two.is

pub returns-in-Three : goal.returns-in-Three
returns-in-Three c = same _ _ c.refused-told.ensures _ c.in-Three.is

pub returns-in-Four : goal.returns-in-Four
returns-in-Four c = same _ _ c.refused-told.ensures _ c.in-Four.is

pub returns-in-Five : goal.returns-in-Five
returns-in-Five c = same _ _ c.refused-told.ensures _ c.in-Five.is
