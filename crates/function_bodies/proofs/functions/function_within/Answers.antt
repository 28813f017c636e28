use Rattle.std.proofs.Common.{Err, List, Ok, ap, subst, sym}
use Rattle.mo_types.specs.Sub.{Each}
use Rattle.type_terms.specs.declared.form.TermId.{TermId}
use Rattle.type_definitions.specs.Tables.{Within}
use Rattle.type_definitions.proofs.Meanings.{within_on}
use Rattle.abstract_types.specs.declared.patterns.Pattern.{Pattern}
use Rattle.abstract_types.specs.TypeView.{named}
use Rattle.abstract_tree.specs.TreeView.{plain}
use Rattle.value_scopes.specs.declared.note.Note.{Note}
use Rattle.value_scopes.specs.declared.place.Body.TheVariants as body
use Rattle.judging.proofs.Chains.{no_memory}
use Rattle.judging.proofs.Steps.{sound_on}
use Rattle.function_bodies.specs.Bodies.{any_made, body_in}
use Rattle.function_bodies.proofs.First.{each_within, here}
use Rattle.function_bodies.proofs.Enclosed.{bodied_there}
use Rattle.function_bodies.proofs.Finished.{function_given, function_not}
use Rattle.function_bodies.proofs.functions.function_within.Goals as goal

pub returns-in_err-copy : goal.returns-in_err-copy
returns-in_err-copy g c rest = no_memory (body_in rest) any_made _ c.args.scopes.now _ c.args.checker.now _ c.from_residual.result c.from_residual.ensures

pub returns-in_err-of : goal.returns-in_err-of
returns-in_err-of g c rest = no_memory (body_in rest) any_made _ c.args.scopes.now _ c.args.checker.now _ c.from_residual-in_err-of.result c.from_residual-in_err-of.ensures

pub with_parameters-requires-clause-sound : goal.with_parameters-requires-clause-sound
with_parameters-requires-clause-sound g c = sound_on c.args.checker.now c.args.scopes.now c.term_or.new.types c.requires.sound c.in_ok-of.ensures.same.kept c.in_ok-of.ensures.same.goes

pub with_parameters-requires-clause-within : goal.with_parameters-requires-clause-within
with_parameters-requires-clause-within g c = c.in_ok-of.ensures.made.within

pub returns-in_err-made : goal.returns-in_err-made
returns-in_err-made g c rest =
    function_not c.args.layer.now.site.place c.args.at (named c.args.name.now) c.args.signature.now (plain c.args.a.now) rest c.args.scopes.now c.args.checker.now c.term_or.new.types c.in_ok-of.of c.in_ok-of.ensures c.with_parameters.new.scopes c.with_parameters.new.checker c.in_err-made.field-0.0 c.from_residual-in_err-made.result
    c.from_residual-in_err-made.ensures
    (bodied_there c.args.layer.now.site.place body.Local c.in_ok-of.of (plain c.args.a.now) c.as_slice.result.now c.args.signature.now.parameters c.args.scopes.now c.with_parameters.new.scopes (here c.args.checker.now c.term_or.new.types) c.with_parameters.new.checker c.as_slice.ensures (Err c.in_err-made.field-0.0) c.in_err-made.ensures)

pub function-requires-clause-kept : goal.function-requires-clause-kept
function-requires-clause-kept g c = c.in_ok-made.ensures.outcome.sound.known.kept

pub function-requires-clause-parameters : goal.function-requires-clause-parameters
function-requires-clause-parameters g c =
    subst (λ (q : List TermId × List (Pattern Note)). Each (Within c.with_parameters.new.checker.types.forms) q.0) (sym c.into_parts-kinds.ensures)
    (each_within c.with_parameters.new.checker.types c.in_ok-made.made.taken.kinds c.in_ok-made.ensures.outcome.sound.known.kept c.in_ok-made.ensures.outcome.holds)

pub function-requires-clause-within : goal.function-requires-clause-within
function-requires-clause-within g c = within_on c.term_or.new.types.forms c.with_parameters.new.checker.types.forms c.in_ok-of.of c.in_ok-made.ensures.outcome.goes.forms c.in_ok-of.ensures.made.within

pub returns-in_err-kind : goal.returns-in_err-kind
returns-in_err-kind g c rest = no_memory (body_in rest) any_made _ c.args.scopes.now _ c.args.checker.now _ c.from_residual-in_err-kind.result c.from_residual-in_err-kind.ensures

pub returns-in_err-signature : goal.returns-in_err-signature
returns-in_err-signature g c rest = no_memory (body_in rest) any_made _ c.args.scopes.now _ c.args.checker.now _ c.from_residual-in_err-signature.result c.from_residual-in_err-signature.ensures

pub returns : goal.returns
returns g c rest =
    function_given c.args.layer.now.site.place c.args.at (named c.args.name.now) c.args.signature.now (plain c.args.a.now) rest c.args.scopes.now c.args.checker.now c.term_or.new.types c.in_ok-of.of c.in_ok-of.ensures c.with_parameters.new.scopes c.with_parameters.new.checker c.in_ok-made.made
    (bodied_there c.args.layer.now.site.place body.Local c.in_ok-of.of (plain c.args.a.now) c.as_slice.result.now c.args.signature.now.parameters c.args.scopes.now c.with_parameters.new.scopes (here c.args.checker.now c.term_or.new.types) c.with_parameters.new.checker c.as_slice.ensures (Ok c.in_ok-made.made) c.in_ok-made.ensures)
    c.into_parts-kinds.result c.into_parts-kinds.ensures c.function.new.types c.in_ok-kind.kind c.in_ok-kind.ensures c.in_ok-copy.copy (ap named c.in_ok-copy.ensures) c.in_ok-signature.signature c.in_ok-signature.ensures
