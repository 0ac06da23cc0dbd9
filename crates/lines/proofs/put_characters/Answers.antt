-- `lines::put_characters` meets its contract: at each turn the text of the first b bits stands. Assumes nothing.
use mathlib.Core.Path.{◌≡◌, refl, sym}
use borrow.Author.Rules.{rules}
use native.Mathlib.Omega.{arith}
use Rattle.parity.specs.Finite.{list_from}
use Rattle.lines.specs.Lines.{word_text}
use Rattle.lines.proofs.Pieces.{after}
use Rattle.lines.proofs.Lines.{none, same_text, word_more}
use Rattle.lines.proofs.put_characters.Goals as goal

pub loop-b-init : goal.loop-b-init
unfolding word_text list_from
loop-b-init c = let a = c.args in
    (omega arith, omega arith, omega arith, refl, omega arith, none a.out.now a.at (omega arith))

pub character-requires : goal.character-requires
character-requires c = c.requires.bytes.most c.loop-b.b

pub loop-b-preserved : goal.loop-b-preserved
loop-b-preserved c = let l = c.loop-b in
    let a = c.args in
    let w = a.word.now in
    let f = rw c.character.ensures at c.put_byte-next.ensures in
    (omega arith, omega arith, omega arith, search rules, omega (arith, f.next), same_text (sym (word_more w l.b)) (after l.invariant.5 f))

pub returns : goal.returns
returns c = let l = c.loop-b in
    let e : l.b ≡ c.args.n = omega arith in
    rw e at l.invariant.5
