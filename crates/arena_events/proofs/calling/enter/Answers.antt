use Rattle.std.proofs.Common.{List, sym, subst, ◌∙◌}
use Rattle.std.proofs.lemmas.Result.{IfOk-weaker}
use Rattle.value_arena.specs.declared.node.ValueId.{ValueId}
use Rattle.value_arena.specs.Growth.{AreWithin}
use Rattle.arena_outcomes.specs.declared.ran.Ran.{Ran}
use Rattle.arena_events.specs.Calling.{IsEntered}
use Rattle.arena_events.specs.Methods.{entry_of}
use Rattle.arena_outcomes.specs.Running.{IsMethod}
use Rattle.arena_events.proofs.Assembled.{arrived_entered, here, here_sound, read_within}
use Rattle.arena_events.proofs.Calls.{unread_entered}
use Rattle.arena_events.proofs.calling.enter.Goals as goal

pub run_entered-requires-clause-sound : goal.run_entered-requires-clause-sound
run_entered-requires-clause-sound c = here_sound c.args.actor.now c.in_ok-copy.copy c.in_ok-copy-2.copy c.in_ok-copy.ensures c.in_ok-copy-2.ensures c.read_values.new.arena c.in_ok-read.ensures.grows

pub run_entered-requires-clause-arguments : goal.run_entered-requires-clause-arguments
run_entered-requires-clause-arguments c =
    let Of : List ValueId → Type 0 = λ ids. AreWithin c.read_values.new.arena ids in
    subst Of (sym c.as_slice-in-Some.ensures.value)
    (read_within c.args.types.now c.args.found.parameters.now c.args.call.argument.now c.in_ok-copy-2.copy.arena c.in-Some.values.items c.read_values.new.arena (rw c.in-Some.is at c.in_ok-read.ensures))

pub returns-in-None : goal.returns-in-None
returns-in-None c =
    let types = c.args.types.now in
    let entry = entry_of c.args.found in
    let x = c.args.actor.now in
    let Of : Ran → Type 0 = λ r. IsEntered types c.args.own.now entry c.args.call.caller.now c.args.call.argument.now c.args.turns x r in
    IfOk-weaker c.trapping.result _ _
    (λ r is. subst Of (sym is)
    (unread_entered types c.args.own.now entry c.args.call.caller.now c.args.call.argument.now c.args.turns x c.in_ok-table-in-None.table c.in_ok-copy-2.copy.arena c.read_values.new.arena
    (c.in_ok-table-in-None.ensures.items ∙ c.as_slice.ensures.value) (rw c.in-None.is at c.in_ok-read.ensures)))
    c.trapping.ensures

pub returns : goal.returns
returns c =
    let types = c.args.types.now in
    let entry = entry_of c.args.found in
    let x = c.args.actor.now in
    let ns = c.read_values.new.arena in
    IfOk-weaker c.run_entered.result _ _
    (λ r h.
    let Of : List ValueId → Type 0 = λ ids. IsMethod types c.args.own.now entry.results entry.place c.args.call.caller.now ids c.args.turns (here x c.in_ok-copy.copy c.in_ok-copy-2.copy c.in_ok-copy.ensures c.in_ok-copy-2.ensures ns c.in_ok-read.ensures.grows) r in
    arrived_entered x c.in_ok-copy.copy c.in_ok-copy-2.copy c.in_ok-copy.ensures c.in_ok-copy-2.ensures ns c.in_ok-read.ensures.grows types c.args.own.now entry c.args.call.caller.now c.args.call.argument.now c.args.turns
    c.in_ok-copy-2.copy.arena c.in-Some.values.items r (rw c.in-Some.is at c.in_ok-read.ensures) (subst Of c.as_slice-in-Some.ensures.value (rw c.in_ok-results-in-Some.ensures at h)))
    c.run_entered.ensures
