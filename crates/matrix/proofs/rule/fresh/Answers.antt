-- `rule::fresh` meets its contract. Assumes nothing.
use mathlib.Core.Path.{◌≡◌, refl, sym, ◌∙◌}
use mathlib.Core.Bool.{false, false≢true, and-eq-true_iff}
use Prim.Native.Nat.{◌+◌, ◌*◌, ◌-◌, ◌≤◌, ◌<◌}
use native.Mathlib.Omega.{arith}
use lib.Dec.{leb}
use borrow.Author.Tests.{leb-true, le-leb}
use Rattle.parity.specs.Matrix.{lent}
use Rattle.matrix.specs.Three.{paired}
use Rattle.matrix.proofs.Passing.{none_before, own_before, pair_before, seen_next}
use Rattle.matrix.proofs.rule.fresh.Goals as goal
use Rattle.matrix.proofs.rule.fresh.Goals.{then-in_own-via-then-in_own, then-in_own-via-else-in_own+then-has_pair}

pub returns-then-in_own : goal.returns-then-in_own
returns-then-in_own c = let a = c.args in
    let top : a.n + a.j < 64 * a.width = omega (arith, c.requires.words_len) in record {
      yes_none = λ q. absurd (false≢true q);
      yes_seen = λ q. absurd (false≢true q);
      none_yes = λ N. elim c.then-in_own.branch [
        | then-in_own-via-then-in_own w ↦
            let (le, e) = (and-eq-true_iff (leb a.n a.y) (lent 8 a.words.now (a.m + (a.y - a.n)) a.x)).0 (sym c.in_own.ensures ∙ w.if-in_own.true) in
            absurd (own_before a.width (lent 8 a.words.now) a.n a.m a.j a.x a.y a.pairs.now c.requires.three.0 c.requires.three.1 top (leb-true a.n a.y le) e N)
        | then-in_own-via-else-in_own+then-has_pair w ↦
            absurd (pair_before a.width (lent 8 a.words.now) a.n a.m a.j a.x a.y a.pairs.now c.requires.three.0 c.requires.three.1 top (sym w.has_pair.ensures ∙ w.if-has_pair.true) N)
      ];
    }

pub returns : goal.returns
returns c = let a = c.args in
    let top : a.n + a.j < 64 * a.width = omega (arith, c.requires.words_len) in
    let own : a.n ≤ a.y → lent 8 a.words.now (a.m + (a.y - a.n)) a.x ≡ false = λ l. rw (le-leb a.n a.y l) at (sym c.in_own.ensures ∙ c.if-in_own.false) in
    let new : paired a.width a.pairs.now a.x a.y ≡ false = sym c.has_pair.ensures ∙ c.if-has_pair.false in record {
      yes_none = λ e. none_before a.width (lent 8 a.words.now) a.n a.m a.j a.x a.y a.pairs.now c.requires.three.0 c.requires.three.1 top own new;
      yes_seen = λ e. seen_next a.width (lent 8 a.words.now) a.n a.m a.j a.x a.y a.pairs.now c.requires.three.0 c.requires.three.1 top _ c.put_pair.ensures;
      none_yes = λ N. refl;
    }
