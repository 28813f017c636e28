use Rattle.std.proofs.Common.{◌≡◌, rules, ◌∙◌, sym}
use Rattle.mo_name_table.proofs.Finding.{room}
use Rattle.type_scopes.proofs.names.make_room.Goals as goal

pub returns-clause-stay : goal.returns-clause-stay
returns-clause-stay c = λ x.
    let e : c.in_ok-key.key.items ≡ c.args.name.now = search rules in
    rw c.in_ok-insert.ensures.entries (room (λ k. k.items) c.args.places.now.entries c.in_ok-key.key c.args.name.now x e (sym c.contains_key.ensures ∙ c.if-contains_key.false))
