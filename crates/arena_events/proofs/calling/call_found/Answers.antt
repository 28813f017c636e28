use Rattle.std.proofs.lemmas.Result.{IfOk-weaker}
use Rattle.typed_tree.specs.ProgramView.{program}
use Rattle.arena_events.specs.Methods.{entry_of}
use Rattle.arena_events.proofs.Calls.{called_so}
use Rattle.arena_events.proofs.calling.call_found.Goals as goal

pub returns : goal.returns
returns c =
    IfOk-weaker c.concluded.result _ _
    (λ l h.
    called_so c.args.program.now.types c.args.own.now (entry_of c.args.found) c.args.call.caller.now c.args.call.argument.now c.args.turns c.args.actor.now c.args.query (program c.args.program.now)
    c.in_ok-ran.ran l c.in_ok-ran.ensures h)
    c.concluded.ensures
