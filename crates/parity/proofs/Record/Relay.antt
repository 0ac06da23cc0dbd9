-- Lists of calls that start at a load (M-107): demand 3 of the checks before the splits, and the matrix is written and loaded back. Assumes nothing.
use mathlib.Core.Path.{◌≡◌, ap}
use mathlib.Core.Bool.{false}
use mathlib.Core.List.{List}
use Prim.Native.Nat.{ℕ}
use native.Mathlib.Omega.{arith}
use native.Mathlib.Decide.{dec_lt}
use lib.ListN.{length}
use Rattle.parity.specs.Matrix.{lent}
use Rattle.parity.specs.Splits.{all_back, not_built}
use Rattle.parity.specs.Record.{written}
use Rattle.parity.specs.Causes.{Outcome}
use Rattle.parity.specs.Calls.{load_outcome}
use Rattle.parity.specs.Demand3.{Stand, runs}
use Rattle.parity.specs.RecordPromises.{checks_before, loaded_start, Relayed, Relays}
use Rattle.parity.proofs.Matrix.Accept.{Accepted, accepts, pack_same, pack_accepted, pack_words}
use Rattle.parity.proofs.Lists.Rebuilt.{built_recovers, all_sound, built_written, written_built}
use Rattle.parity.proofs.Lists.Chain.{Stands, other_last, stands_runs}
use Rattle.parity.proofs.Lists.Demand3.{keeps}
use Rattle.parity.proofs.Record.Records.{write_short, write_made}
use Rattle.parity.proofs.Record.ReadBack.{loading_back}
use Rattle.parity.proofs.Record.RoundTrip.{load_answered, loaded_words_lem, sourced_built, sourced_sound, load_accepted, write_load, written_size}

-- what holds after a list, by its invariant
relayed : (given : List ℕ) (n m : ℕ) (A : Accepted given n m 0) (s : Stand) → Stands given n m s → Relayed given n m s
relayed given n m A s S =
    let h = lent 8 s.words in
    let c = (accepts s.words n m s.k).1 S.accepted in
    let b : not_built h n m s.k ≡ false = built_written (lent 8 given) n m A.sound S.built in
    record {
      accepted = (accepts given n m 0).1 A;
      keeps = keeps given n m A s S;
      checks = rw (built_recovers (lent 8 given) n m A.sound S.built).base (pack_words given n m 0 A);
      writes = λ target l.
          ap (λ (o : Outcome). o.reply.number) (write_made s.words n m s.k target c b (omega (arith, written_size h n m s.k S.accepted.sound)));
      never = λ target e. elim (dec_lt (length target) (length (written h n m s.k))) [
        | yes l ↦ omega (arith, ap (λ (o : Outcome). o.reply.number) (write_short s.words n m s.k target c b l))
        | no l ↦ omega (arith, ap (λ (o : Outcome). o.reply.number) (write_made s.words n m s.k target c b (omega arith)))
      ];
      returns = λ target held used e l. write_load s.words n m s.k target held used e l;
    }

-- a matrix that splits built, at the start of a list
stands_loaded : (ws : List ℕ) (n m k : ℕ) → Accepted ws n m k → not_built (lent 8 ws) n m k ≡ false
    → Stands (checks_before ws n m k) n m (loaded_start ws n m k)
stands_loaded ws n m k A b = record {
  accepted = A;
  built = rw (pack_same (all_back (lent 8 ws) n m k) n m 0 (all_sound n m k (lent 8 ws) A.sound)) (written_built n m k (lent 8 ws) A.sound b);
  finishes = λ r e. absurd (other_last cc);
}

pub relays : Relays
relays source held n m k e cs =
    let ws = (load_outcome source held).after in
    let A = load_accepted source held n m k e in
    let L = load_answered source held n m k e in
    let S = loading_back source n m k L.matrix L.loads in
    let p : lent 8 ws ≡ L.matrix = rw (loaded_words_lem source held n m k L) (pack_same L.matrix n m k (sourced_sound source n m k L.matrix S)) in
    let b : not_built (lent 8 ws) n m k ≡ false = rw p (built_written S.checks n m S.sound (sourced_built source n m k L.matrix S)) in
    let given = checks_before ws n m k in
    let G = pack_accepted (all_back (lent 8 ws) n m k) n m 0 (all_sound n m k (lent 8 ws) A.sound) in
    relayed given n m G (runs n m (loaded_start ws n m k) cs) (stands_runs given n m G cs (loaded_start ws n m k) (stands_loaded ws n m k A b))
