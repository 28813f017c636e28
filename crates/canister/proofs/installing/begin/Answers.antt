use Rattle.std.proofs.Common.{ap, ◌∙◌}
use Rattle.wasm_store.specs.Loading.{load_within}
use Rattle.canister.specs.Shown.{shown_state}
use Rattle.canister.proofs.Beginning.{begin_moved, loaded_so}
use Rattle.canister.proofs.installing.begin.Goals as goal

pub returns-in-Ok-clause-ok : goal.returns-in-Ok-clause-ok
returns-in-Ok-clause-ok c = λ modules there.
    let s = c.args.state.now in
    let m = c.args.tree.now in
    let x = c.load.new.self in
    begin_moved s.own m c.args.kind c.args.name.now c.args.last c.args.items s x s.memories.standing.stable modules c.start.result (shown_state modules c.start.new.state)
    c.load.ensures.limits c.load.ensures.stable c.load.ensures.kept
    (c.start.ensures.ok modules there (ap (λ l. load_within l.pages m) c.load.ensures.limits ∙ loaded_so (load_within s.memories.limits.pages m) c.in-Ok.field-0 x.standing.instance c.in-Ok.ensures.answer))
