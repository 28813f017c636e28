use Rattle.std.proofs.Common.{◌≡◌, ◌<◌, length, arith, refl, rules}
use Rattle.value_scopes.proofs.Looping.{is_looped, was_looped}
use Rattle.value_scopes.proofs.stack.NameStack+Label.set_loop.Goals as goal

pub returns-clause-set : goal.returns-clause-set
returns-clause-set c =
    let n : c.len-len.result ≡ length c.self.inside.items.items = search rules in
    let l : 0 < c.len-len.result = omega arith in
    is_looped c.self.inside.names c.self.inside.items.items c.args.self.now c.len-len.result c.index-label.result.now c.self.view_is c.self.invariant n l c.index-label.ensures c.args.is_loop
    (record { kind = c.index-label.result.now.kind; is_loop = c.args.is_loop }) refl

pub returns-clause-was : goal.returns-clause-was
returns-clause-was c =
    let n : c.len-len.result ≡ length c.self.inside.items.items = search rules in
    let l : 0 < c.len-len.result = omega arith in
    was_looped c.self.inside.names c.self.inside.items.items c.args.self.now c.len-len.result c.index-label.result.now c.self.view_is c.self.invariant n l c.index-label.ensures
