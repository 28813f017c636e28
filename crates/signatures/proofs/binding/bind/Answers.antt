use Rattle.std.proofs.Common.{◌∙◌, ◌∷◌, ℕ, List, ap, false, refl}
use Rattle.type_terms.specs.declared.form.TermId.{TermId}
use Rattle.value_scopes.specs.declared.bound.Bound.{Bound}
use Rattle.typed_patterns.proofs.Joining.{handed_on}
use Rattle.signatures.specs.Naming.{bound_to, no_more}
use Rattle.signatures.proofs.Steps.{is_bound, met, not_bound, not_met}
use Rattle.signatures.proofs.binding.bind.Goals as goal

abbrev bound : TermId → List ℕ → Bound
bound kind generics = record { kind = kind; mutable = false; generics = generics }

pub returns-in_err-meets : goal.returns-in_err-meets
returns-in_err-meets c =
    handed_on (bound_to c.args.name.now c.args.generics c.args.kind) c.args.types.now c.meets.new.types c.args.sharing.now c.args.names.now c.args.names.now no_more c.in_err-meets.field-0.0 c.from_residual.result c.from_residual.ensures
    (not_bound c.args.name.now c.args.generics c.args.kind c.args.types.now c.meets.new.types c.args.sharing.now c.args.sharing.now c.args.names.now c.args.names.now no_more c.in_err-meets.field-0.0 (not_met c.args.types.now c.meets.new.types c.args.sharing.now c.args.kind c.in_err-meets.field-0.0 c.in_err-meets.ensures.left c.in_err-meets.ensures.judged))

pub returns : goal.returns
returns c =
    is_bound c.args.name.now c.args.generics c.args.kind c.args.types.now c.meets.new.types c.args.sharing.now c.args.names.now c.push.new.self (record { kind = c.args.kind; mutable = false; generics = c.args.generics }) refl (c.in_ok-push.ensures.ok ∙ ap (λ (x : List ℕ). (x, bound c.args.kind c.args.generics) ∷ c.args.names.now) c.as_slice.ensures) c.in_ok-meets.ensures.reached
    (met c.args.types.now c.meets.new.types c.args.sharing.now c.args.kind c.requires.ready c.in_ok-meets.ensures.kept c.in_ok-meets.ensures.goes c.in_ok-meets.ensures.judged)
