use Rattle.std.proofs.Common.{Err, List, Ok, ap, option_map, subst, sym}
use Rattle.mo_types.specs.Sub.{Each}
use Rattle.type_terms.specs.declared.form.TermId.{TermId}
use Rattle.type_definitions.specs.Tables.{Within}
use Rattle.type_definitions.proofs.Meanings.{within_on}
use Rattle.abstract_types.specs.declared.patterns.Pattern.{Pattern}
use Rattle.abstract_types.specs.PatternView.{plain as plain_pattern}
use Rattle.abstract_types.specs.TypeView.{named}
use Rattle.abstract_tree.specs.TreeView.{plain}
use Rattle.value_scopes.specs.declared.note.Note.{Note}
use Rattle.judging.proofs.Chains.{no_memory}
use Rattle.judging.proofs.Steps.{sound_on}
use Rattle.function_bodies.specs.Bodies.{any_made, body_in}
use Rattle.function_bodies.proofs.First.{each_within, here}
use Rattle.function_bodies.proofs.Enclosed.{called_there}
use Rattle.function_bodies.proofs.Finished.{method_given, method_not}
use Rattle.function_bodies.proofs.methods.method_body.Goals as goal

pub returns-in_err-copy : goal.returns-in_err-copy
returns-in_err-copy g c rest = no_memory (body_in rest) any_made _ c.args.scopes.now _ c.args.checker.now _ c.from_residual.result c.from_residual.ensures

pub returns-in_err-of : goal.returns-in_err-of
returns-in_err-of g c rest = no_memory (body_in rest) any_made _ c.args.scopes.now _ c.args.checker.now _ c.from_residual-in_err-of.result c.from_residual-in_err-of.ensures

pub with_context-requires-clause-sound : goal.with_context-requires-clause-sound
with_context-requires-clause-sound g c = sound_on c.args.checker.now c.args.scopes.now c.async_term.new.types c.requires.sound c.in_ok-of.ensures.same.kept c.in_ok-of.ensures.same.goes

pub with_context-requires-clause-within : goal.with_context-requires-clause-within
with_context-requires-clause-within g c = c.in_ok-of.ensures.made.within

pub returns-in_err-made : goal.returns-in_err-made
returns-in_err-made g c rest =
    method_not c.args.layer.now.site.place c.args.at c.args.query c.args.context.now (named c.args.name.now) c.args.signature.now (plain c.args.a.now) rest c.body_of.result c.body_of.ensures c.args.scopes.now c.args.checker.now c.async_term.new.types c.in_ok-of.of c.in_ok-of.ensures c.with_context.new.scopes
    c.with_context.new.checker c.in_err-made.field-0.0 c.from_residual-in_err-made.result c.from_residual-in_err-made.ensures
    (called_there c.args.layer.now.site.place c.body_of.result c.in_ok-of.of (plain c.args.a.now) c.as_slice.result.now c.args.signature.now.parameters c.args.scopes.now c.with_context.new.scopes (here c.args.checker.now c.async_term.new.types) c.with_context.new.checker c.as_slice.ensures
    (option_map plain_pattern c.args.context.now) (Err c.in_err-made.field-0.0) c.in_err-made.ensures)

pub shared-requires-clause-kept : goal.shared-requires-clause-kept
shared-requires-clause-kept g c = c.in_ok-made.ensures.outcome.sound.known.kept

pub shared-requires-clause-parameters : goal.shared-requires-clause-parameters
shared-requires-clause-parameters g c =
    subst (λ (q : List TermId × List (Pattern Note)). Each (Within c.with_context.new.checker.types.forms) q.0) (sym c.into_parts-kinds.ensures)
    (each_within c.with_context.new.checker.types c.in_ok-made.made.bodied.taken.kinds c.in_ok-made.ensures.outcome.sound.known.kept c.in_ok-made.ensures.outcome.holds)

pub shared-requires-clause-within : goal.shared-requires-clause-within
shared-requires-clause-within g c = within_on c.async_term.new.types.forms c.with_context.new.checker.types.forms c.in_ok-of.of c.in_ok-made.ensures.outcome.goes.forms c.in_ok-of.ensures.made.within

pub returns-in_err-kind : goal.returns-in_err-kind
returns-in_err-kind g c rest = no_memory (body_in rest) any_made _ c.args.scopes.now _ c.args.checker.now _ c.from_residual-in_err-kind.result c.from_residual-in_err-kind.ensures

pub returns-in_err-signature : goal.returns-in_err-signature
returns-in_err-signature g c rest = no_memory (body_in rest) any_made _ c.args.scopes.now _ c.args.checker.now _ c.from_residual-in_err-signature.result c.from_residual-in_err-signature.ensures

pub returns : goal.returns
returns g c rest =
    method_given c.args.layer.now.site.place c.args.at c.args.query c.args.context.now (named c.args.name.now) c.args.signature.now (plain c.args.a.now) rest c.body_of.result c.body_of.ensures c.args.scopes.now c.args.checker.now c.async_term.new.types c.in_ok-of.of c.in_ok-of.ensures c.with_context.new.scopes
    c.with_context.new.checker c.in_ok-made.made
    (called_there c.args.layer.now.site.place c.body_of.result c.in_ok-of.of (plain c.args.a.now) c.as_slice.result.now c.args.signature.now.parameters c.args.scopes.now c.with_context.new.scopes (here c.args.checker.now c.async_term.new.types) c.with_context.new.checker c.as_slice.ensures
    (option_map plain_pattern c.args.context.now) (Ok c.in_ok-made.made) c.in_ok-made.ensures)
    c.into_parts-kinds.result c.into_parts-kinds.ensures c.method_sort.result c.method_sort.ensures c.shared.new.types c.in_ok-kind.kind c.in_ok-kind.ensures c.in_ok-copy.copy (ap named c.in_ok-copy.ensures) c.in_ok-signature.signature c.in_ok-signature.ensures
