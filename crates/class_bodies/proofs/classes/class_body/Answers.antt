use Rattle.std.proofs.Common.{◌≡◌, ◌∙◌, ap}
use Rattle.abstract_types.specs.TypeView.{named}
use Rattle.type_scopes.specs.Scopes.{Names, cut}
use Rattle.value_scopes.specs.declared.scopes.Scopes.{Scopes}
use Rattle.declared_names.proofs.Entering.{taken_back}
use Rattle.judging.proofs.Chains.{no_memory}
use Rattle.function_bodies.specs.Bodies.{any_made, body_in}
use Rattle.class_bodies.proofs.Finished.{class_back, class_refused, sound_typed}
use Rattle.class_bodies.proofs.classes.class_body.Goals as goal

pub class_within-requires-clause-sound : goal.class_within-requires-clause-sound
class_within-requires-clause-sound g c =
    sound_typed c.args.checker.now c.args.scopes.now c.push_generics.new.scope c.requires.sound

pub returns-in_err-push_generics : goal.returns-in_err-push_generics
returns-in_err-push_generics g c rest = no_memory (body_in rest) any_made _ c.args.scopes.now _ c.args.checker.now _ c.from_residual.result c.from_residual.ensures

pub returns-in_err-made : goal.returns-in_err-made
returns-in_err-made g c rest =
    class_refused c.args.lists.now.layer.site.place c.args.at (named c.args.name.now) c.args.signature.now c.args.list.now rest c.args.scopes.now c.args.checker.now c.push_generics.new.scope (rw c.as_slice.ensures at c.in_ok-push_generics.ensures.seen)
    c.class_within.new.scopes c.class_within.new.checker c.in_err-made.field-0.0 c.from_residual-in_err-made.result c.from_residual-in_err-made.ensures (c.in_err-made.ensures rest)

pub returns : goal.returns
returns g c rest =
    let same : c.class_within.new.scopes.types ≡ c.push_generics.new.scope = ap (λ (z : Scopes). z.types) (c.in_ok-made.ensures rest).outcome.same in
    class_back c.args.lists.now.layer.site.place c.args.at (named c.args.name.now) c.args.signature.now c.args.list.now rest c.args.scopes.now c.args.checker.now c.push_generics.new.scope (rw c.as_slice.ensures at c.in_ok-push_generics.ensures.seen)
    c.class_within.new.scopes c.class_within.new.checker c.truncate.new.self c.in_ok-made.made
    (c.truncate.ensures ∙ (ap (λ (z : Names). cut c.len-count.result z) same ∙ taken_back c.args.scopes.now.types c.push_generics.new.scope c.len-count.result c.len-count.ensures.names c.len-count.ensures.declared c.in_ok-push_generics.ensures.extends))
    c.requires.sound (c.in_ok-made.ensures rest)
