use Rattle.std.proofs.Common.{◌∙◌, List, subst, sym}
use Rattle.mo_types.specs.Graph.{Slot}
use Rattle.mo_types.specs.Sub.{Each}
use Rattle.value_scopes.specs.Values.{noted}
use Rattle.kernel_methods.specs.Shared.{SharedIn}
use Rattle.kernel_programs.proofs.Together.{together}
use Rattle.kernel_programs.proofs.actors.written_actor.Goals as goal

pub actor_functions-requires-clause-shared : goal.actor_functions-requires-clause-shared
actor_functions-requires-clause-shared g c = subst (Each (SharedIn c.args.lists.now.layer.types.now)) (sym c.as_slice-fields.ensures) c.requires.shared

pub returns : goal.returns
returns g c = λ (types : List Slot).
    let s = c.args.lists.now.layer.types.now in
    together s c.args.program.now types c.as_slice-fields.result.now c.as_slice-fields.ensures c.in_ok-frames.frames c.list.new.frames c.push_functions.new.frames (c.in_ok-frames.ensures (noted s.forms)) c.in_ok-list.ensures.frame (c.in_ok-push_functions.ensures (noted s.forms))
    c.in_ok-nodes.nodes c.steps-declarations.result c.in_ok-functions.functions.0 c.in_ok-functions.functions.1 c.in_ok-functions.functions.2 c.in_ok-stable.stable
    (c.in_ok-nodes.ensures (noted s.forms)) (c.steps-declarations.ensures ∙ c.in_ok-list.ensures.steps) c.in_ok-functions.ensures.methods c.in_ok-functions.ensures.before c.in_ok-functions.ensures.after c.in_ok-stable.ensures
