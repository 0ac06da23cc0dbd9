-- `rule::size` meets its contract. Assumes nothing.
use mathlib.Core.Path.{refl}
use Rattle.parity.specs.House.{house_code, hamming_code, code_of}
use Rattle.house.proofs.rule.size.Goals as goal

pub returns-in-Circulant : goal.returns-in-Circulant
unfolding house_code hamming_code code_of
returns-in-Circulant c = rw c.in-Circulant.is (refl, refl)

pub returns-in-Hamming3 : goal.returns-in-Hamming3
unfolding house_code hamming_code code_of
returns-in-Hamming3 c = rw c.in-Hamming3.is (refl, refl)

pub returns-in-Hamming7 : goal.returns-in-Hamming7
unfolding house_code hamming_code code_of
returns-in-Hamming7 c = rw c.in-Hamming7.is (refl, refl)

pub returns-in-Hamming15 : goal.returns-in-Hamming15
unfolding house_code hamming_code code_of
returns-in-Hamming15 c = rw c.in-Hamming15.is (refl, refl)

pub returns-in-Hamming31 : goal.returns-in-Hamming31
unfolding house_code hamming_code code_of
returns-in-Hamming31 c = rw c.in-Hamming31.is (refl, refl)
