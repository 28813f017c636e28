use Rattle.std.proofs.Common.{◌∙◌, ◌++◌, ap}
use Rattle.candid_write.proofs.VisitLemmas.{stacked}
use Rattle.candid_write.proofs.places.put_types.Goals as goal

pub returns : goal.returns
returns c = stacked c.args.todo.now.items c.args.types.now c.extend_from_slice.new.self.items
    (c.in_ok-extend_from_slice.ensures.items ∙ ap (λ l. c.args.todo.now.items ++ l) (c.as_slice.ensures.value ∙ c.in_ok-back.ensures))
