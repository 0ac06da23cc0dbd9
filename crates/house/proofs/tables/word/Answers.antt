-- `tables::word` meets its contract. Assumes nothing.
use native.Mathlib.Omega.{arith}
use Rattle.parity.specs.House.{code_of, hamming_code, house_code}
use Rattle.house.proofs.Entries.{table, table_word_lem}
use Rattle.house.proofs.Names.{sizes}
use Rattle.house.proofs.tables.word.Goals as goal

pub offset_bounds-c : goal.offset_bounds-c
offset_bounds-c c = let s = sizes c.args.name in record { fits = omega (arith, c.requires) }

pub bounds-c : goal.bounds-c
unfolding house_code hamming_code code_of
bounds-c c = rw c.in-Circulant.is at c.requires

pub returns-in-Circulant : goal.returns-in-Circulant
unfolding table
returns-in-Circulant c = rw c.in-Circulant.is (table_word_lem 0 c.args.check.0 (omega arith) (rw c.in-Circulant.is at c.requires))

pub offset_bounds-c-in-Hamming3 : goal.offset_bounds-c-in-Hamming3
offset_bounds-c-in-Hamming3 c = let s = sizes c.args.name in record { fits = omega (arith, c.requires) }

pub bounds-c-in-Hamming3 : goal.bounds-c-in-Hamming3
unfolding house_code hamming_code code_of
bounds-c-in-Hamming3 c = rw c.in-Hamming3.is at c.requires

pub returns-in-Hamming3 : goal.returns-in-Hamming3
unfolding table
returns-in-Hamming3 c = rw c.in-Hamming3.is (table_word_lem 1 c.args.check.0 (omega arith) (rw c.in-Hamming3.is at c.requires))

pub offset_bounds-c-in-Hamming7 : goal.offset_bounds-c-in-Hamming7
offset_bounds-c-in-Hamming7 c = let s = sizes c.args.name in record { fits = omega (arith, c.requires) }

pub bounds-c-in-Hamming7 : goal.bounds-c-in-Hamming7
unfolding house_code hamming_code code_of
bounds-c-in-Hamming7 c = rw c.in-Hamming7.is at c.requires

pub returns-in-Hamming7 : goal.returns-in-Hamming7
unfolding table
returns-in-Hamming7 c = rw c.in-Hamming7.is (table_word_lem 2 c.args.check.0 (omega arith) (rw c.in-Hamming7.is at c.requires))

pub offset_bounds-c-in-Hamming15 : goal.offset_bounds-c-in-Hamming15
offset_bounds-c-in-Hamming15 c = let s = sizes c.args.name in record { fits = omega (arith, c.requires) }

pub bounds-c-in-Hamming15 : goal.bounds-c-in-Hamming15
unfolding house_code hamming_code code_of
bounds-c-in-Hamming15 c = rw c.in-Hamming15.is at c.requires

pub returns-in-Hamming15 : goal.returns-in-Hamming15
unfolding table
returns-in-Hamming15 c = rw c.in-Hamming15.is (table_word_lem 3 c.args.check.0 (omega arith) (rw c.in-Hamming15.is at c.requires))

pub offset_bounds-c-in-Hamming31 : goal.offset_bounds-c-in-Hamming31
offset_bounds-c-in-Hamming31 c = let s = sizes c.args.name in record { fits = omega (arith, c.requires) }

pub bounds-c-in-Hamming31 : goal.bounds-c-in-Hamming31
unfolding house_code hamming_code code_of
bounds-c-in-Hamming31 c = rw c.in-Hamming31.is at c.requires

pub returns-in-Hamming31 : goal.returns-in-Hamming31
unfolding table
returns-in-Hamming31 c = rw c.in-Hamming31.is (table_word_lem 4 c.args.check.0 (omega arith) (rw c.in-Hamming31.is at c.requires))
