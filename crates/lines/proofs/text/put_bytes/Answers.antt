-- `lines::text::put_bytes` meets its contract: at each turn the first i bytes are copied. Assumes nothing.
use mathlib.Core.Path.{◌≡◌, refl}
use borrow.Author.Rules.{rules}
use native.Mathlib.Omega.{arith}
use native.Mathlib.Numerals.{add-one}
use lib.ListN.{length, length-set}
use lib.Seq.{paste-zero, paste-suc}
use Rattle.lines.proofs.Pieces.{copied}
use Rattle.lines.proofs.text.put_bytes.Goals as goal

pub loop-i-init : goal.loop-i-init
loop-i-init c = (refl, search rules, search rules, refl, paste-zero c.args.out.now c.args.at c.args.bytes.now)

pub loop-i-preserved : goal.loop-i-preserved
loop-i-preserved c = let l = c.loop-i in
    let a = c.args in (
      search rules,
      search rules,
      search rules,
      simp length-set (search rules),
      rw (l.invariant.4, add-one) (paste-suc a.out.now a.at a.bytes.now l.i 0 (omega arith) (omega arith)),
    )

pub returns : goal.returns
returns c = let l = c.loop-i in
    let a = c.args in
    let e : l.i ≡ length a.bytes.now = omega arith in
    rw (l.invariant.4, e) (copied a.out.now a.at a.bytes.now (omega arith))
