use Rattle.std.proofs.Common.{List, subst}
use Rattle.type_terms.specs.declared.form.TermId.{TermId}
use Rattle.judging.specs.Views.{kind_reached, typed_in}
use Rattle.judging.proofs.Chains.{no_memory}
use Rattle.judging.proofs.TypedParts.{Comes}
use Rattle.data_rules.proofs.ByTuple.{fits, items_of, tuple_unwanted, tuple_wanted}
use Rattle.data_rules.proofs.tuples.tuple.Goals as goal

pub returns-in_err-wanted : goal.returns-in_err-wanted
returns-in_err-wanted g c = no_memory typed_in kind_reached _ c.args.scopes.now _ c.args.checker.now _ c.from_residual.result c.from_residual.ensures

pub returns-in-Some : goal.returns-in-Some
returns-in-Some g c =
    tuple_wanted c.args.layer.now.site c.args.items.now c.args.scopes.now c.tuple_fits.new.scopes c.args.checker.now c.tuple_fits.new.checker c.tuple_fits.result items_of
    c.in_ok-wanted.field-0 c.in_ok-wanted.ensures.is c.in-Some.wanted c.in-Some.kinds c.in-Some.is
    (subst (λ (ids : List TermId). Comes (fits c.args.layer.now.site c.args.items.now c.in-Some.wanted ids) c.args.scopes.now c.args.checker.now c.tuple_fits.new.scopes c.tuple_fits.new.checker c.tuple_fits.result)
    c.as_slice.ensures.value c.tuple_fits.ensures)

pub returns-in-None : goal.returns-in-None
returns-in-None g c =
    tuple_unwanted c.args.layer.now.site c.args.items.now c.args.scopes.now c.tuple_gives.new.scopes c.args.checker.now c.tuple_gives.new.checker c.tuple_gives.result items_of
    c.in_ok-wanted.field-0 c.in_ok-wanted.ensures.is c.in-None.is c.tuple_gives.ensures
