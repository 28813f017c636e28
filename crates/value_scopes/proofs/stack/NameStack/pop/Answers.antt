use Rattle.std.proofs.Common.{◌≡◌, ◌∙◌, ap, length, drop, rules}
use Rattle.value_scopes.proofs.Stacking.{popped}
use Rattle.value_scopes.proofs.stack.NameStack.pop.Goals as goal

pub returns : goal.returns
returns g c =
    let n : c.self.inside.items.len ≡ length c.self.inside.items.items = search rules in
    (popped c.self.inside.names c.pop.new.self c.self.inside.items.items c.pop-2.new.self.items c.pop-2.result c.self.inside.items.len c.self.invariant c.pop.ensures c.pop-2.ensures.items c.pop-2.ensures.variant n).less
    ∙ ap (λ s. drop 1 s) c.self.view_is
