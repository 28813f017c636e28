use Rattle.std.proofs.Common.{List, subst, sym}
use Rattle.mo_types.specs.declared.node.Field.{Field}
use Rattle.mo_types.specs.Sub.{Each}
use Rattle.type_terms.specs.declared.form.TermId.{TermId}
use Rattle.met_types.specs.States.{IsReached}
use Rattle.judging.specs.Views.{kind_reached, typed_in}
use Rattle.judging.proofs.Chains.{no_memory}
use Rattle.judging.proofs.TypedParts.{Comes}
use Rattle.object_rules.proofs.ByObject.{fields_reached, fits, items_of, object_unwanted, object_wanted}
use Rattle.object_rules.proofs.objects.object.Goals as goal

pub object_fits-requires-clause-kinds : goal.object_fits-requires-clause-kinds
object_fits-requires-clause-kinds g c =
    subst (λ (ws : List (Field TermId)). Each (λ f. IsReached c.args.checker.now.types f.part) ws) (sym c.as_slice.ensures.value)
    (fields_reached c.args.checker.now.types items_of c.in_ok-wanted.field-0 c.in-Some.wanted c.in-Some.kinds c.in-Some.is c.in_ok-wanted.ensures.parts)

pub returns-in_err-wanted : goal.returns-in_err-wanted
returns-in_err-wanted g c = no_memory typed_in kind_reached _ c.args.scopes.now _ c.args.checker.now _ c.from_residual.result c.from_residual.ensures

pub returns-in-Some : goal.returns-in-Some
returns-in-Some g c =
    object_wanted c.args.layer.now.site c.args.fields.now c.args.scopes.now c.object_fits.new.scopes c.args.checker.now c.object_fits.new.checker c.object_fits.result items_of c.in_ok-wanted.field-0 c.in_ok-wanted.ensures.is
    c.in-Some.wanted c.in-Some.kinds c.in-Some.is
    (subst (λ (ws : List (Field TermId)). Comes (fits c.args.layer.now.site c.args.fields.now ws c.in-Some.wanted) c.args.scopes.now c.args.checker.now c.object_fits.new.scopes c.object_fits.new.checker c.object_fits.result)
    c.as_slice.ensures.value c.object_fits.ensures)

pub returns-in-None : goal.returns-in-None
returns-in-None g c =
    object_unwanted c.args.layer.now.site c.args.fields.now c.args.scopes.now c.object_gives.new.scopes c.args.checker.now c.object_gives.new.checker c.object_gives.result items_of c.in_ok-wanted.field-0
    c.in_ok-wanted.ensures.is c.in-None.is c.object_gives.ensures
