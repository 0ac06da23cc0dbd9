-- `determine_word` meets its contract. Assumes nothing.
use mathlib.Core.Path.{refl, sym, ap, ◌∙◌}
use native.Mathlib.Omega.{arith}
use Rattle.parity.specs.Matrix.{lent}
use Rattle.parity.specs.Causes.{answer, Outcome}
use Rattle.sets.proofs.Short.{set_short}
use Rattle.determine.proofs.Ending.{word_apart, word_within, word_refused, word_made}
use Rattle.determine.proofs.determine_word.Goals as goal

pub settle-requires : goal.settle-requires
settle-requires c = let u = c.words_of.ensures in
    let (E, O) = c.make_sets.ensures in
    let S = set_short 8 c.args.word.now 2 _ E in
    let T = set_short 8 c.args.word.now 1 _ O in
    (c.requires.0, omega (arith, c.requires.1), E.size, O.size, omega (arith, u.1, c.requires.3), record { none = λ b l. S.none b (omega (arith, u.0, c.requires.2)) }, record { none = λ b l. T.none b (omega (arith, u.0, c.requires.2)) })

pub finish-requires : goal.finish-requires
finish-requires c = let t = c.settle in
    let (E, O) = c.make_sets.ensures in
    let e = t.auto.erased ∙ E.size in
    let o = t.auto.ones ∙ O.size in (
      record { words = c.requires.0; bits = c.requires.3; checks = omega (arith, c.requires.1); residue = e; known = o; left = refl; values = refl; apart = word_apart 8 (lent 8 c.args.words.now) c.args.n c.args.k c.args.checks c.args.word.now _ _ c.requires.2 (omega (arith, c.requires.2, c.requires.3)) c.requires.5 E O _ _ t.ensures },
      E.size,
      set_short 8 c.args.word.now 2 _ E,
    )

pub returns-then-not-finish : goal.returns-then-not-finish
returns-then-not-finish c = let v = c.finish in
    let (E, O) = c.make_sets.ensures in
    let f = c.if-not-finish.true in
    let r = word_refused 8 (lent 8 c.args.words.now) c.args.n c.args.k c.args.checks c.args.word.now _ _ c.requires.2 (omega (arith, c.requires.2, c.requires.3)) c.requires.5 E O _ _ c.settle.ensures _ _ _ v.ensures.sets f in
    record { result_value = sym (ap (λ (o : Outcome). o.reply) r); word_after = (rw f at v.ensures.word) ∙ sym (ap (λ (o : Outcome). o.after) r) }

pub losses_of-requires : goal.losses_of-requires
losses_of-requires c = let t = c.settle in
    let v = c.finish in
    let (E, O) = c.make_sets.ensures in
    (E.size, v.auto.left ∙ t.auto.erased ∙ E.size, c.requires.4, word_within 8 (lent 8 c.args.words.now) c.args.n c.args.k c.args.checks c.args.word.now _ _ c.requires.2 (omega (arith, c.requires.2, c.requires.3)) c.requires.5 E O _ _ t.ensures _ _ _ v.ensures.sets)

pub returns : goal.returns
returns c = let v = c.finish in
    let (E, O) = c.make_sets.ensures in
    let f = c.if-not-finish.false in
    let r = word_made 8 (lent 8 c.args.words.now) c.args.n c.args.k c.args.checks c.args.word.now _ _ c.requires.2 (omega (arith, c.requires.2, c.requires.3)) c.requires.5 E O _ _ c.settle.ensures _ _ _ v.ensures.sets f in
    record { result_value = ap answer c.losses_of.ensures ∙ sym (ap (λ (o : Outcome). o.reply) r); word_after = (rw f at v.ensures.word) ∙ sym (ap (λ (o : Outcome). o.after) r) }
