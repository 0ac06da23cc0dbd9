-- `recover::all_back` meets its contract. Assumes nothing.
use native.Mathlib.Omega.{arith}
use mathlib.Core.Path.{refl}
use Rattle.columns.proofs.Filling.{two_words}
use Rattle.carried.proofs.Recovering.{rows_made}
use Rattle.carried.proofs.recover.all_back.Goals as goal

pub fill-requires : goal.fill-requires
fill-requires c = let e = two_words _ refl in
    record { words_len = (c.requires.0, e.0, omega (arith, c.requires.3.m120), omega (arith, c.requires.3.m120)); empty = e.1 }

pub returns : goal.returns
returns c = let E = c.each_back in
    rows_made _ _ _ _ _ _ c.requires.3 E.ensures.columns c.fill_checks.ensures E.result E.ensures.all_back c.if-not-each_back.false
