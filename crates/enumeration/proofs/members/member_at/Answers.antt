-- `member_at` meets its contract. Assumes nothing.
use mathlib.Core.Path.{sym, ◌∙◌}
use mathlib.Core.List.{[], ◌∷◌, ◌++◌}
use native.Mathlib.Omega.{arith}
use lib.ListN.{get_or-append, get_or-eq_default, length-append}
use lib.Seq.{get_or_at}
use Rattle.enumeration.proofs.members.member_at.Goals as goal

pub returns-then-i-first : goal.returns-then-i-first
returns-then-i-first c = let s = c.args in
    sym (get_or-append s.first.now (s.d ∷ []) 0 s.i (omega arith))

pub returns-then-i-first-2 : goal.returns-then-i-first-2
returns-then-i-first-2 c = let s = c.args in
    c.member.ensures ∙ sym (get_or_at s.first.now s.d [] 0 s.i (omega arith))

pub returns : goal.returns
returns c = let s = c.args in
    sym (get_or-eq_default (s.first.now ++ (s.d ∷ [])) 0 (omega (arith, length-append s.first.now (s.d ∷ []))))
