use Rattle.std.proofs.Common.{Ok, ◌∙◌, ap}
use Rattle.typing_rules.specs.AbstractSyntax as p
use Rattle.abstract_types.specs.PatternView.{plain_signature}
use Rattle.abstract_types.specs.TypeView.{named}
use Rattle.abstract_tree.specs.TreeView.{plain}
use Rattle.type_scopes.specs.Scopes.{cut}
use Rattle.value_scopes.specs.declared.scopes.Scopes.{Scopes}
use Rattle.declared_names.proofs.Entering.{taken_back}
use Rattle.judging.proofs.Chains.{no_memory}
use Rattle.function_bodies.specs.Bodies.{any_made, body_in, judge_body}
use Rattle.function_bodies.specs.Functions.{function_in}
use Rattle.function_bodies.proofs.First.{sound_typed, typed_back, typed_not}
use Rattle.function_bodies.proofs.Finished.{function_typed}
use Rattle.function_bodies.proofs.functions.function_body.Goals as goal

pub returns-in_err-push_generics : goal.returns-in_err-push_generics
returns-in_err-push_generics g c rest = no_memory (body_in rest) any_made _ c.args.scopes.now _ c.args.checker.now _ c.from_residual.result c.from_residual.ensures

pub function_within-requires-clause-sound : goal.function_within-requires-clause-sound
function_within-requires-clause-sound g c = sound_typed c.args.scopes.now c.args.checker.now c.push_generics.new.scope c.requires.sound

pub returns-in_err-made : goal.returns-in_err-made
returns-in_err-made g c rest =
    typed_not (body_in rest) any_made (judge_body c.args.layer.now.site.place c.args.at (p.Func (named c.args.name.now) (plain_signature c.args.signature.now) (plain c.args.a.now)) rest)
    (function_in c.args.layer.now.site.place c.args.at (named c.args.name.now) (plain_signature c.args.signature.now) (plain c.args.a.now) rest) c.args.scopes.now c.function_within.new.scopes c.args.checker.now c.function_within.new.checker c.push_generics.new.scope c.push_generics.new.scope
    (λ later. function_typed c.args.layer.now.site.place c.args.at (named c.args.name.now) c.args.signature.now (plain c.args.a.now) rest c.args.scopes.now c.push_generics.new.scope (rw c.as_slice.ensures at c.in_ok-push_generics.ensures.seen) later c.args.checker.now.types.listed)
    c.in_err-made.field-0.0 c.from_residual-in_err-made.result c.from_residual-in_err-made.ensures (c.in_err-made.ensures rest)

pub returns : goal.returns
returns g c rest =
    typed_back (body_in rest) any_made (judge_body c.args.layer.now.site.place c.args.at (p.Func (named c.args.name.now) (plain_signature c.args.signature.now) (plain c.args.a.now)) rest)
    (function_in c.args.layer.now.site.place c.args.at (named c.args.name.now) (plain_signature c.args.signature.now) (plain c.args.a.now) rest) c.args.scopes.now c.function_within.new.scopes c.args.checker.now c.function_within.new.checker c.push_generics.new.scope c.truncate.new.self
    (λ later. function_typed c.args.layer.now.site.place c.args.at (named c.args.name.now) c.args.signature.now (plain c.args.a.now) rest c.args.scopes.now c.push_generics.new.scope (rw c.as_slice.ensures at c.in_ok-push_generics.ensures.seen) later c.args.checker.now.types.listed)
    (Ok c.in_ok-made.made)
    (c.truncate.ensures ∙ (ap (λ (z : Scopes). cut c.len-count.result z.types) (c.in_ok-made.ensures rest).outcome.same ∙ taken_back c.args.scopes.now.types c.push_generics.new.scope c.len-count.result c.len-count.ensures.names c.len-count.ensures.declared c.in_ok-push_generics.ensures.extends))
    c.requires.sound (c.in_ok-made.ensures rest)
