-- `list_all` meets its contract. Assumes nothing.
use mathlib.Core.Path.{refl}
use Prim.Native.Nat.{◌+◌, ◌*◌, ◌-◌}
use native.Mathlib.Omega.{arith}
use Rattle.parity.proofs.Matrix.Lent.{lent_empty}
use Rattle.enumeration.specs.Search.{across}
use Rattle.enumeration.proofs.Inside.{seen_none, under_none}
use Rattle.enumeration.proofs.Whole.{whole_call, whole_put}
use Rattle.enumeration.proofs.listing.list_all.Goals as goal

pub list_last-requires : goal.list_last-requires
list_last-requires c = let P = c.requires.cols_len in
    let F = whole_call (across c.args.cols.now) (c.args.used * 64) c.args.n c.args.t 1 (omega (arith, c.if-t-eq1.true)) c.args.write c.args.sets.now P.3 P.5 c.requires.t_in_bounds in record {
      sized = (record { columns = P.0; once = refl; some = refl; least = P.1; most = P.2 }, omega arith, omega arith);
      begun = (seen_none _ _ _ (λ i. lent_empty 8 8 _ refl 0 i) (λ i. lent_empty 8 8 _ refl 0 i), under_none 0);
      from_bound = F.0;
      from_in_bounds = F.1;
    }

pub returns-then-t-eq1 : goal.returns-then-t-eq1
returns-then-t-eq1 c = whole_put (across c.args.cols.now) (c.args.used * 64) c.args.n c.args.t 1 (omega (arith, c.if-t-eq1.true)) c.args.write c.list_last.ensures

pub list_from-requires : goal.list_from-requires
list_from-requires c = let P = c.requires.cols_len in
    let F = whole_call (across c.args.cols.now) (c.args.used * 64) c.args.n c.args.t (c.args.t - 2 + 2) (omega (arith, c.if-t-eq1.false)) c.args.write c.args.sets.now P.3 P.5 c.requires.t_in_bounds in record {
      sized = (record { columns = P.0; once = refl; some = refl; least = P.1; most = P.2 }, omega arith, omega arith);
      begun = (seen_none _ _ _ (λ i. lent_empty 8 8 _ refl 0 i) (λ i. lent_empty 8 8 _ refl 0 i), under_none 0);
      from_bound = F.0;
      from_in_bounds = F.1;
    }

pub returns : goal.returns
returns c = whole_put (across c.args.cols.now) (c.args.used * 64) c.args.n c.args.t (c.args.t - 2 + 2) (omega (arith, c.if-t-eq1.false)) c.args.write c.list_from.ensures
