-- `accept` meets its contract: each return has the cause that the tests before it decide. Assumes nothing.
use mathlib.Core.Path.{sym, ◌∙◌}
use native.Mathlib.Omega.{arith}
use Rattle.parity.proofs.Matrix.Accept.{ranges, cause_0, cause_1, cause_2, cause_3, cause_4, accept_refuses, accept_answers}
use Rattle.matrix.proofs.accept.Goals as goal

pub returns-then-words-ne4096 : goal.returns-then-words-ne4096
returns-then-words-ne4096 c = sym (accept_refuses c.args.words.now c.args.n c.args.m c.args.k 0 (cause_1 c.args.words.now c.args.n c.args.m c.args.k c.if-words-ne4096.true))

pub returns-then-not-in_range : goal.returns-then-not-in_range
returns-then-not-in_range c = sym (accept_refuses c.args.words.now c.args.n c.args.m c.args.k 1 (cause_2 c.args.words.now c.args.n c.args.m c.args.k c.if-words-ne4096.false (sym c.in_range.ensures ∙ c.if-not-in_range.true)))

pub overflow_add-n : goal.overflow_add-n
overflow_add-n c = let (a, b, d, e) = (ranges c.args.n c.args.m c.args.k).0 (sym c.in_range.ensures ∙ c.if-not-in_range.false) in
    omega arith

pub overflow_add-m : goal.overflow_add-m
overflow_add-m c = let (a, b, d, e) = (ranges c.args.n c.args.m c.args.k).0 (sym c.in_range.ensures ∙ c.if-not-in_range.false) in
    omega arith

pub is_clean-requires : goal.is_clean-requires
is_clean-requires c = let (a, b, d, e) = (ranges c.args.n c.args.m c.args.k).0 (sym c.in_range.ensures ∙ c.if-not-in_range.false) in
    (c.if-words-ne4096.false, omega arith, omega arith)

pub returns-then-not-is_clean : goal.returns-then-not-is_clean
returns-then-not-is_clean c = sym (accept_refuses c.args.words.now c.args.n c.args.m c.args.k 2 (cause_3 c.args.words.now c.args.n c.args.m c.args.k c.if-words-ne4096.false (sym c.in_range.ensures ∙ c.if-not-in_range.false) (sym c.is_clean.ensures ∙ c.if-not-is_clean.true)))

pub rule_a-requires : goal.rule_a-requires
rule_a-requires c = let (a, b, d, e) = (ranges c.args.n c.args.m c.args.k).0 (sym c.in_range.ensures ∙ c.if-not-in_range.false) in
    (c.if-words-ne4096.false, omega arith, omega arith, omega arith, sym c.is_clean.ensures ∙ c.if-not-is_clean.false)

pub returns-then-not-rule_a : goal.returns-then-not-rule_a
returns-then-not-rule_a c = sym (accept_refuses c.args.words.now c.args.n c.args.m c.args.k 3 (cause_4 c.args.words.now c.args.n c.args.m c.args.k c.if-words-ne4096.false (sym c.in_range.ensures ∙ c.if-not-in_range.false) (sym c.is_clean.ensures ∙ c.if-not-is_clean.false) (sym c.rule_a.ensures ∙ c.if-not-rule_a.true)))

pub returns : goal.returns
returns c = sym (accept_answers c.args.words.now c.args.n c.args.m c.args.k (cause_0 c.args.words.now c.args.n c.args.m c.args.k c.if-words-ne4096.false (sym c.in_range.ensures ∙ c.if-not-in_range.false) (sym c.is_clean.ensures ∙ c.if-not-is_clean.false) (sym c.rule_a.ensures ∙ c.if-not-rule_a.false)))
