use Rattle.canister_calls.specs.Calling.{without}
use Rattle.canister_calls.proofs.Numbering.{few_open}
use Rattle.canister_messages.proofs.Going.{can_run}
use Rattle.canister_messages.proofs.state.State.finish.Goals as goal

pub returns-in-Ok-clause-runs : goal.returns-in-Ok-clause-runs
returns-in-Ok-clause-runs c = λ m first second.
    let s = c.args.self.now in
    can_run m (record s { memories = c.settle.new.self; calls = c.finish.new.self }) c.args.puts_back s.memories.kept s.memories.standing c.settle.ensures.settled c.settle.ensures.kept
    (few_open (without c.args.answering s.calls.waiting.items) c.args.performed c.args.owner s.calls.made c.finish.new.self.waiting.items c.in-Ok.ensures.waiting c.requires.few)
    first second
