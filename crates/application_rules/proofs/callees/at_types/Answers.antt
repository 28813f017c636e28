use Rattle.std.proofs.Common.{◌∙◌, List, Some, map, option_map, ap, sym}
use Rattle.abstract_types.specs.declared.types.TypeNode.{TypeNode}
use Rattle.abstract_types.specs.TypeView.{type_node}
use Rattle.abstract_tree.specs.declared.expressions.ExpressionForm.{ExpressionForm}
use Rattle.value_scopes.specs.declared.note.Note.{Note}
use Rattle.judging.specs.Views.{form_in}
use Rattle.application_rules.proofs.CalleeParts.{no_instance, no_types, typed_there}
use Rattle.application_rules.proofs.callees.at_types.Goals as goal

pub has-requires-clause-wanting : goal.has-requires-clause-wanting
has-requires-clause-wanting c = record { kept = c.in_ok-kind-in-Some.ensures.answer.outcome.sound.known.kept; wanted = tt }

pub has-requires-clause-within : goal.has-requires-clause-within
has-requires-clause-within c = c.in_ok-kind-in-Some.ensures.answer.outcome.holds

pub returns-in_err-kind-in-Some : goal.returns-in_err-kind-in-Some
returns-in_err-kind-in-Some c =
    no_instance c.args.site.now.at c.args.place c.args.generic (option_map (map type_node) c.args.types.now) c.args.scopes.now c.args.checker.now (map type_node c.as_slice.result.now)
    (ap (option_map (map type_node)) c.in-Some.is ∙ ap (λ (xs : List TypeNode). Some (map type_node xs)) (sym c.as_slice.ensures)) c.instance.new.checker c.in_err-kind-in-Some.field-0.0 c.from_residual.result c.from_residual.ensures
    c.in_err-kind-in-Some.ensures.answer

pub returns-in_ok-kind-in-Some : goal.returns-in_ok-kind-in-Some
returns-in_ok-kind-in-Some c =
    typed_there c.args.site.now.at c.args.place c.args.generic (option_map (map type_node) c.args.types.now) c.args.scopes.now c.args.checker.now (map type_node c.as_slice.result.now)
    (ap (option_map (map type_node)) c.in-Some.is ∙ ap (λ (xs : List TypeNode). Some (map type_node xs)) (sym c.as_slice.ensures)) c.instance.new.checker c.has.new.checker c.in_ok-kind-in-Some.kind c.has.result
    c.in_ok-kind-in-Some.ensures.answer (c.has.ensures c.args.scopes.now c.in_ok-kind-in-Some.ensures.answer.outcome.sound (λ later. form_in c.args.generic.form later) (λ later. ap (λ (form : ExpressionForm Note). form_in form later) c.into_form.ensures))

pub returns-in-None : goal.returns-in-None
returns-in-None c = no_types c.args.site.now.at c.args.place c.args.generic (option_map (map type_node) c.args.types.now) c.args.scopes.now c.args.checker.now (ap (option_map (map type_node)) c.in-None.is)
