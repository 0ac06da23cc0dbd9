-- `peel_extended` meets its contract. Assumes nothing.
use Rattle.std.proofs.Common.{rules}
use mathlib.Core.Path.{◌≡◌, sym, ap, ◌∙◌}
use mathlib.Core.Bool.{false}
use mathlib.Core.List.{List}
use Prim.Native.Nat.{ℕ}
use lib.ListN.{take}
use Rattle.parity.specs.Causes.{Outcome, refusal_of}
use Rattle.parity.specs.Calls.{orthogonalise_outcome}
use Rattle.parity.proofs.Matrix.Accept.{accepts}
use Rattle.extended.specs.Answers.{copy_peeling_reply, no_room}
use Rattle.extended.proofs.Copying.{refused_copy, copy_accepted, copy_room, front_room, front_right, peeled_copy}
use Rattle.extended.proofs.peel_extended.Goals as goal

pub copy_from_slice-requires : goal.copy_from_slice-requires
copy_from_slice-requires c = sym ((accepts _ _ _ _).0 c.requires.0).words

pub orthogonalise_accepted-requires : goal.orthogonalise_accepted-requires
orthogonalise_accepted-requires c = rw c.copy_from_slice.ensures.after c.requires.0

pub peel_front-requires : goal.peel_front-requires
peel_front-requires c = let ws = c.args.words.now in
    let O = c.orthogonalise_accepted.ensures in
    let C = c.copy_from_slice.ensures.after in
    let same = ap (λ (l : List ℕ). orthogonalise_outcome l c.args.n c.args.m 0) C in
    let e = c.in-Ok.ensures.result_value ∙ ap (λ (o : Outcome). o.reply) same in
    let own = O.words_after ∙ ap (λ (o : Outcome). o.after) same in
    let room = copy_room ws c.args.n c.args.m c.requires.0 _ _ _ _ e in (
      rw own (copy_accepted ws c.args.n c.args.m c.requires.0 _ _ _ _ e),
      front_room c.args.n c.args.longer.now c.requires.1 _ room,
      front_right c.args.n c.args.longer.now c.requires.1 _ room,
    )

pub returns-in-Err : goal.returns-in-Err
returns-in-Err c = let ws = c.args.words.now in
    let O = c.orthogonalise_accepted.ensures in
    let C = c.copy_from_slice.ensures.after in
    let same = ap (λ (l : List ℕ). orthogonalise_outcome l c.args.n c.args.m 0) C in
    let e = c.in-Err.ensures.result_value ∙ ap (λ (o : Outcome). o.reply) same in
    let (z, f, g) = refused_copy ws c.args.n c.args.m c.requires.0 c.in-Err.field-0 e (take c.args.n c.args.longer.now) in
    record { result_value = z; result_value_2 = f; longer_after = g }

pub returns-in_ok-peel_front-in-Ok : goal.returns-in_ok-peel_front-in-Ok
returns-in_ok-peel_front-in-Ok c = let ws = c.args.words.now in
    let O = c.orthogonalise_accepted.ensures in
    let C = c.copy_from_slice.ensures.after in
    let same = ap (λ (l : List ℕ). orthogonalise_outcome l c.args.n c.args.m 0) C in
    let e = c.in-Ok.ensures.result_value ∙ ap (λ (o : Outcome). o.reply) same in
    let own = O.words_after ∙ ap (λ (o : Outcome). o.after) same in
    let F = c.peel_front.ensures in
    let (z, f, g) = peeled_copy ws c.args.n c.args.m c.requires.0 _ _ _ _ e _ c.args.longer.now _ _ own c.requires.1 c.in_ok-peel_front-in-Ok.ensures.result_value F.longer_after in
    record { result_value = z; result_value_2 = f; longer_after = g }

pub returns-in_err-peel_front-in-Ok : goal.returns-in_err-peel_front-in-Ok
returns-in_err-peel_front-in-Ok c = let ws = c.args.words.now in
    let O = c.orthogonalise_accepted.ensures in
    let C = c.copy_from_slice.ensures.after in
    let same = ap (λ (l : List ℕ). orthogonalise_outcome l c.args.n c.args.m 0) C in
    let e = c.in-Ok.ensures.result_value ∙ ap (λ (o : Outcome). o.reply) same in
    let own = O.words_after ∙ ap (λ (o : Outcome). o.after) same in
    let F = c.peel_front.ensures in
    let (z, f, g) = peeled_copy ws c.args.n c.args.m c.requires.0 _ _ _ _ e _ c.args.longer.now _ _ own c.requires.1 c.in_err-peel_front-in-Ok.ensures.result_value F.longer_after in
    let r = c.in_err-peel_front-in-Ok.field-0.0 in
    let v : no_room c.from_residual.result ≡ false = search rules in
    let u : copy_peeling_reply c.from_residual.result ≡ refusal_of r = search rules in
    record { result_value = v ∙ z; result_value_2 = u ∙ f; longer_after = g }
