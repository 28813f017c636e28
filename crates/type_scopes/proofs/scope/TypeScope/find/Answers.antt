use Rattle.std.proofs.Common.{◌≡◌, ◌∙◌, ◌+◌, ◌<◌, ◌≤◌, ℕ, ap, length, List, Some, arith}
use Rattle.type_scopes.specs.Scopes.{named, outer_of, parameters_of}
use Rattle.type_scopes.proofs.Scoping.{bounded, get_there, found_at, not_found}
use Rattle.type_scopes.proofs.scope.TypeScope.find.Goals as goal

pub meaning-requires : goal.meaning-requires
meaning-requires c =
    let l : length c.self.inside.names ≡ length c.self.inside.declared.items = c.self.invariant.as_many in
    let w : c.in-Some.place < length c.self.inside.names = c.in-Some.ensures.within in
    let b : outer_of c.index.result.now ≤ 0 + length (parameters_of c.self.inside.declared.items) =
    bounded 0 c.self.inside.declared.items c.in-Some.place c.index.result.now c.self.invariant.counts (get_there c.self.inside.declared.items c.in-Some.place c.index.result.now (omega arith) c.index.ensures) in
    let p : length c.as_slice.result.now ≡ length (parameters_of c.self.inside.declared.items) = ap (λ (x : List ℕ). length x) (c.as_slice.ensures.value ∙ c.self.invariant.parameters) in
    omega arith

pub returns-in-None : goal.returns-in-None
returns-in-None c = not_found c.self.inside.names c.self.inside.declared.items c.self.inside.parameters.items c.args.self.now c.args.name.now c.self.view_is c.self.invariant c.in-None.ensures.last

pub returns-in-Some : goal.returns-in-Some
returns-in-Some c =
    let l : length c.self.inside.names ≡ length c.self.inside.declared.items = c.self.invariant.as_many in
    let w : c.in-Some.place < length c.self.inside.names = c.in-Some.ensures.within in
    ap Some (c.meaning.ensures ∙ ap (λ (x : List ℕ). named x c.index.result.now) c.as_slice.ensures.value)
    ∙ found_at c.self.inside.names c.self.inside.declared.items c.self.inside.parameters.items c.args.self.now c.args.name.now c.self.view_is c.self.invariant c.in-Some.place c.index.result.now c.in-Some.ensures.last
    (get_there c.self.inside.declared.items c.in-Some.place c.index.result.now (omega arith) c.index.ensures)
