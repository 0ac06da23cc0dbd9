-- `rule::contains` meets its contract. Assumes nothing.
use mathlib.Core.Path.{sym, ap, ◌∙◌}
use native.Mathlib.Omega.{arith}
use Rattle.house.specs.Names.{number_of}
use Rattle.house.proofs.Names.{sizes, other}
use Rattle.house.proofs.Generated.{hamming_entry, circulant_entry}
use Rattle.house.proofs.rule.contains.Goals as goal

pub in_circulant-requires : goal.in_circulant-requires
in_circulant-requires c = let s = sizes c.args.name in omega (arith, c.requires.0)

pub returns-in-Circulant : goal.returns-in-Circulant
returns-in-Circulant c = c.in_circulant.ensures ∙ sym (circulant_entry (number_of c.args.name) _ _ (ap number_of c.in-Circulant.is) c.requires.0 c.requires.1)

pub in_hamming-requires : goal.in_hamming-requires
in_hamming-requires c = let s = sizes c.args.name in (omega arith, omega arith)

pub returns-in_default : goal.returns-in_default
returns-in_default c = c.in_hamming.ensures ∙ sym (hamming_entry (number_of c.args.name) _ _ (other c.args.name c.in_default.not-Circulant) c.requires.0 c.requires.1)
