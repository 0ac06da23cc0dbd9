-- Cases A to K are established together, from the definitions, by one result. Assumes nothing.
use mathlib.Core.Path.{◌≡◌, refl}
use mathlib.Core.Bool.{true}
use Rattle.parity.specs.Finite.{sum, count, all, any, most, least, greatest, outermost, any_set, list_from}
use Rattle.parity.specs.Matrix.{in_range, rule_a, rule_at, no_other}
use Rattle.parity.specs.Cycles.{share, held_by, pairs, cycles, split_of, largest_share, lower_bit, higher_bit, orthogonal}
use Rattle.parity.specs.Words.{inside, even_checks, odd, solved, lone_check, lone_bit, steps, agrees, recovered, losses}
use Rattle.parity.specs.Record.{loading}
use Rattle.parity.specs.Encoding.{dependent, rank_of, holds, encoded}
use Rattle.parity.specs.Calls.{not_pair, wrong_byte}
use Rattle.bench.specs.Case.{among, listed}
use Rattle.bench.specs.Case.{AllHold}
use Rattle.bench.specs.Table.{table}
use Rattle.bench.specs.Test.{same_list, bits_below, all_below, fits, agree, orthogonalises, is_word, peels_to, faulty_at, test, tests}
use Rattle.bench.proofs.Law.{all_hold}

computed : tests table ≡ true
unfolding sum count all any most least greatest outermost any_set list_from in_range rule_a rule_at no_other share held_by pairs cycles split_of largest_share lower_bit higher_bit orthogonal inside even_checks odd solved lone_check lone_bit steps agrees loading dependent rank_of holds encoded not_pair wrong_byte among listed same_list bits_below all_below fits agree orthogonalises is_word peels_to faulty_at test tests losses recovered
computed = refl

pub cases_A_to_K : AllHold table
cases_A_to_K = all_hold table computed
