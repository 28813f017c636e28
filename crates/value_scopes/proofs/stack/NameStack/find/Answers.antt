use Rattle.std.proofs.Common.{◌≡◌, ◌<◌, length, arith}
use Rattle.value_scopes.proofs.Stacking.{not_found, found_at, get_there}
use Rattle.value_scopes.proofs.stack.NameStack.find.Goals as goal

pub returns-in-None : goal.returns-in-None
returns-in-None g c = not_found c.self.inside.names c.self.inside.items.items c.args.self.now c.args.name.now c.self.view_is c.self.invariant c.in-None.ensures.last

pub returns-in-Some : goal.returns-in-Some
returns-in-Some g c =
    let l : length c.self.inside.names ≡ length c.self.inside.items.items = c.self.invariant in
    let w : c.in-Some.place < length c.self.inside.names = c.in-Some.ensures.within in
    found_at c.self.inside.names c.self.inside.items.items c.args.self.now c.args.name.now c.self.view_is c.self.invariant c.in-Some.place c.index.result.now c.in-Some.ensures.last
    (get_there c.self.inside.items.items c.in-Some.place c.index.result.now (omega arith) c.index.ensures)
