use Rattle.std.proofs.Common.{◌≡◌, List, Some, None, false, map, ap, ◌∙◌}
use Rattle.std.proofs.lemmas.Result.{IfOk-weaker}
use Rattle.typed_tree.specs.declared.program.Method.{Method}
use Rattle.typed_tree.specs.ProgramView.{method}
use Rattle.mo_meaning.specs.Actor.{method_from}
use Rattle.arena_events.specs.Methods.{entry_of}
use Rattle.arena_events.proofs.Receives.{found_first, standing_in}
use Rattle.arena_events.proofs.calling.receive_update.Goals as goal

pub returns-in-Some : goal.returns-in-Some
returns-in-Some c =
    let p = c.args.program.now in
    let name = c.args.call.name.now in
    let found : Some (entry_of c.in-Some.found) ≡ method_from 0 false name (map method p.methods) = c.in-Some.ensures ∙ ap (λ (ms : List Method). method_from 0 false name (map method ms)) c.as_slice.ensures in
    IfOk-weaker c.call_found.result _ _
    (λ l h. found_first p c.args.own.now name c.args.call.caller.now c.args.call.argument.now c.args.turns c.args.actor.now l false (entry_of c.in-Some.found) found h)
    c.call_found.ensures

pub returns-in-None : goal.returns-in-None
returns-in-None c =
    let p = c.args.program.now in
    let name = c.args.call.name.now in
    let none : None ≡ method_from 0 false name (map method p.methods) = c.in-None.ensures ∙ ap (λ (ms : List Method). method_from 0 false name (map method ms)) c.as_slice.ensures in
    IfOk-weaker c.receive_query.result _ _
    (λ l h. standing_in p c.args.own.now name c.args.call.caller.now c.args.call.argument.now c.args.turns c.args.actor.now l none h)
    c.receive_query.ensures
