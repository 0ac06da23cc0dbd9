-- `finish` meets its contract. Assumes nothing.
use mathlib.Core.Path.{refl, sym, ◌∙◌}
use Rattle.parity.specs.Matrix.{lent}
use Rattle.residue.proofs.Solving.{refused, uneven_none, all_known}
use Rattle.residue.proofs.finish.Goals as goal

pub returns-then-not-agree : goal.returns-then-not-agree
returns-then-not-agree c = let G = c.requires.0 in
    let a = c.agree in
    let h = lent 8 c.args.words.now in
    let e = lent 8 c.args.residue.now 0 in
    let o = lent 8 c.args.known.now 0 in
    record {
      sets = refused h c.args.bits c.args.checks e o G.bits G.apart
          (uneven_none h c.args.bits c.args.checks e o G.bits G.apart (sym a.ensures ∙ c.if-not-agree.true))
          _ _ (λ b q. rw G.left at q);
      word = refl;
    }

pub returns-then-size-eq0 : goal.returns-then-size-eq0
returns-then-size-eq0 c = let G = c.requires.0 in
    let a = c.agree in
    record {
      sets = rw (G.left, G.values) (all_known (lent 8 c.args.words.now) c.args.bits c.args.checks (lent 8 c.args.residue.now 0) (lent 8 c.args.known.now 0) G.bits G.apart
          (sym a.ensures ∙ c.if-not-agree.false) (sym c.size.ensures ∙ c.if-size-eq0.true));
      word = c.write.ensures;
    }
