use Rattle.std.proofs.Common.{◌∙◌, ◌<◌, List, ap, length, map, [], subst, sym}
use Rattle.typing_rules.specs.AbstractSyntax as p
use Rattle.typing_rules.specs.Terms as t
use Rattle.typing_rules.specs.Ends.{Has}
use Rattle.type_terms.specs.declared.form.TermId.{TermId}
use Rattle.type_definitions.specs.Meanings.{term}
use Rattle.value_scopes.specs.Values.{noted}
use Rattle.judging.specs.Views.{each_in, each_reached, kind_reached, typed_in, wanted_in}
use Rattle.judging.proofs.Chains.{goes_on, no_memory, stops}
use Rattle.judging.proofs.Forms.{seen_Tuple}
use Rattle.mo_types.specs.Sub.{Each}
use Rattle.judging.proofs.TypedParts.{Comes}
use Rattle.judging.proofs.Steps.{below_tuple}
use Rattle.data_parts.proofs.TypesOf.{kinds, kinds_below}
use Rattle.data_rules.proofs.ByTuple.{items_at, tuple_end, tuple_has}
use Rattle.data_rules.proofs.tuples.tuple_gives.Goals as goal

pub has_form-requires-clause-below : goal.has_form-requires-clause-below
has_form-requires-clause-below g c =
    below_tuple (length c.each.new.checker.types.forms) c.in_ok-kinds.kinds
    (subst (λ (ids : List TermId). Each (λ q. q.index < length c.each.new.checker.types.forms) ids) (sym (c.in_ok-kinds.ensures ∙ ap kinds c.as_slice.ensures))
    (kinds_below c.each.new.checker c.each.new.scopes c.in_ok-made.ensures.ready.sound c.in_ok-made.made c.in_ok-made.ensures.answer.outcome.holds))

pub returns-in_err-made : goal.returns-in_err-made
returns-in_err-made g c =
    stops typed_in kind_reached each_in each_reached (items_at c.args.layer.now.site c.args.items.now []) (tuple_end c.args.layer.now.site c.args.items.now) c.args.scopes.now c.each.new.scopes c.args.checker.now c.each.new.checker c.in_err-made.field-0.0 c.from_residual.result c.from_residual.ensures c.in_err-made.ensures.answer

pub returns-in_err-kinds : goal.returns-in_err-kinds
returns-in_err-kinds g c = no_memory typed_in kind_reached _ c.args.scopes.now _ c.args.checker.now _ c.from_residual-in_err-kinds.result c.from_residual-in_err-kinds.ensures

pub returns : goal.returns
returns g c =
    goes_on typed_in kind_reached each_in each_reached (items_at c.args.layer.now.site c.args.items.now []) (tuple_end c.args.layer.now.site c.args.items.now) c.args.scopes.now c.each.new.scopes c.each.new.scopes c.args.checker.now c.each.new.checker c.has_form.new.checker c.in_ok-made.made c.has_form.result c.in_ok-made.ensures.answer
    (tuple_has c.args.layer.now.site c.args.items.now c.args.scopes.now c.each.new.scopes c.args.checker.now c.each.new.checker c.has_form.new.checker c.in_ok-made.made c.has_form.result
    (subst (λ (ids : List TermId). Comes (λ v. Has c.args.layer.now.site.at (wanted_in v c.args.layer.now.site.wanted) (t.Tuple (t.unlisted (map (term v.later) ids))) (p.Tuple (each_in c.in_ok-made.made v.later))) c.each.new.scopes c.each.new.checker c.each.new.scopes
    c.has_form.new.checker c.has_form.result) (c.in_ok-kinds.ensures ∙ ap kinds c.as_slice.ensures)
    (c.has_form.ensures c.each.new.scopes c.in_ok-made.ensures.ready.sound (λ later. p.Tuple (each_in c.in_ok-made.made later)) (λ later. seen_Tuple (noted later) c.in_ok-made.made))))
