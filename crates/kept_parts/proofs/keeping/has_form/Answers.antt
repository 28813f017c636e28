use Rattle.std.proofs.Common.{◌≡◌, true, false, sym, ◌∙◌}
use Rattle.mo_types.specs.Graph.{head_at}
use Rattle.kept_parts.proofs.Kept.{not_typed, typed_form}
use Rattle.kept_parts.proofs.keeping.has_form.Goals as goal

pub returns-then-not-typed : goal.returns-then-not-typed
returns-then-not-typed c =
    not_typed (head_at c.args.types.now) c.args.of_type c.args.parts.now c.args.candid.now (λ h. absurd (let e : false ≡ true = sym c.if-not-typed.true ∙ c.in_ok-typed.ensures.1 h in cc))

pub returns : goal.returns
returns c =
    typed_form (head_at c.args.types.now) c.args.of_type c.args.parts.now c.args.candid.now c.as_slice.result.now c.same_parts.result (c.in_ok-typed.ensures.0 c.if-not-typed.false) (c.as_slice.ensures.value ∙ c.in_ok-again.ensures)
    c.same_parts.ensures
