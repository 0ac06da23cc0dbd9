-- `rule::rule_a` meets its contract. Assumes nothing.
use mathlib.Core.Path.{refl, ◌∙◌}
use Prim.Native.Nat.{ℕ}
use native.Mathlib.Omega.{arith}
use lib.ListN.{length-replicate}
use borrow.Author.Rules.{rules}
use Rattle.parity.specs.Finite.{all}
use Rattle.parity.specs.Matrix.{lent, rule_a}
use Rattle.columns.proofs.Filling.{two_words}
use Rattle.matrix.proofs.Passing.{passing_none}
use Rattle.matrix.proofs.rule.rule_a.Goals as goal

pub returns-then-k-eq0 : goal.returns-then-k-eq0
unfolding rule_a all
returns-then-k-eq0 c = rw c.if-k-eq0.true

pub fill-requires : goal.fill-requires
fill-requires c = let e = two_words _ refl in record { words_len = (search rules, e.0, omega arith, omega arith); empty = e.1 }

pub all_rules-requires : goal.all_rules-requires
all_rules-requires c = let e = two_words _ refl in
    let a = c.args in record { words_len = (c.requires.0, c.fill.auto.cols ∙ e.0, length-replicate {A = ℕ} 516 0, omega arith, omega (arith, c.if-n-k-le256.true), c.requires.2, c.requires.3); words_value = (c.requires.4, c.fill.ensures, passing_none 4 (lent 8 a.words.now) a.n a.m 516 _ refl) }

pub all_rules-requires-2 : goal.all_rules-requires-2
all_rules-requires-2 c = let e = two_words _ refl in
    let a = c.args in record { words_len = (c.requires.0, c.fill.auto.cols ∙ e.0, length-replicate {A = ℕ} 2056 0, omega arith, c.requires.1, c.requires.2, c.requires.3); words_value = (c.requires.4, c.fill.ensures, passing_none 8 (lent 8 a.words.now) a.n a.m 2056 _ refl) }
