-- `lines::put_residue` meets its contract: at each turn the text of the first b bits stands. Assumes nothing.
use mathlib.Core.Path.{◌≡◌, refl, sym}
use borrow.Author.Rules.{rules}
use native.Mathlib.Omega.{arith}
use Rattle.parity.specs.Mend.{residue_text}
use Rattle.lines.proofs.Pieces.{after}
use Rattle.lines.proofs.Lines.{none, same_text, residue_more, residue_room}
use Rattle.lines.proofs.put_residue.Goals as goal

pub loop-b-init : goal.loop-b-init
unfolding residue_text
loop-b-init c = let a = c.args in
    (omega arith, omega arith, omega arith, refl, none a.out.now a.at (omega arith))

pub put_left-next-requires : goal.put_left-next-requires
put_left-next-requires c = let l = c.loop-b in
    let a = c.args in
    omega (arith, l.invariant.4.next, residue_room a.word.now a.n l.b (omega arith))

pub loop-b-preserved : goal.loop-b-preserved
loop-b-preserved c = let l = c.loop-b in
    let a = c.args in
    let w = a.word.now in
    let f = c.put_left-next.ensures in (
      omega arith,
      omega arith,
      omega arith,
      search rules,
      same_text (sym (residue_more w l.b)) (after l.invariant.4 f),
    )

pub returns : goal.returns
returns c = let l = c.loop-b in
    let e : l.b ≡ c.args.n = omega arith in
    rw e at l.invariant.4
