use Rattle.std.proofs.Common.{◌≡◌, ◌∙◌, length, subst, sym, ap, arith, IfOk, Some, ◌+◌}
use Rattle.std.specs.Prelude.{slice_get}
use Rattle.core_ir.specs.ScopeNames.{named, names_at, EntriesFit}
use Rattle.core_ir.proofs.Scoping.{length_named, name_found, name_beyond, names_past}
use Rattle.core_ir.proofs.scopes.Scopes.name.Goals as goal

pub find-requires-clause-within : goal.find-requires-clause-within
find-requires-clause-within c = let d = ap length c.deref.ensures.value in omega (arith, d)

pub find-requires-clause-fit : goal.find-requires-clause-fit
find-requires-clause-fit c = subst EntriesFit (sym c.deref.ensures.value) c.self.invariant

pub returns-in-Ok : goal.returns-in-Ok
returns-in-Ok c =
    let all = c.args.self.now in
    let is : named c.deref.result.now ≡ all = ap named c.deref.ensures.value ∙ c.self.view_is in
    let found = subst (λ all. slice_get (names_at all c.args.scope) c.args.place ≡ Some c.in-Ok.name.now) is c.in-Ok.ensures.found in
    subst (λ x. IfOk c.copy.result (λ operand. operand ≡ x)) (name_found all c.args.outermost.now c.args.scope c.args.place c.in-Ok.name.now found) c.copy.ensures

pub returns-in-Err : goal.returns-in-Err
returns-in-Err c =
    let all = c.args.self.now in
    let is : named c.deref.result.now ≡ all = ap named c.deref.ensures.value ∙ c.self.view_is in
    let past = subst (λ all. c.args.place ≡ length (names_at all c.args.scope) + c.in-Err.beyond) is c.in-Err.ensures.beyond in
    subst (λ x. IfOk c.name-in-Err.result (λ operand. operand ≡ x)) (name_beyond all c.args.outermost.now c.args.scope c.args.place c.in-Err.beyond past) c.name-in-Err.ensures

pub returns-then-scope-len : goal.returns-then-scope-len
returns-then-scope-len c =
    let all = c.args.self.now in
    let k = length_named c.self.inside.entries.items in let e = ap length c.self.view_is in
    let past : c.args.place ≡ length (names_at all c.args.scope) + c.args.place = let z = ap length (names_past all c.args.scope (omega (arith, k, e, c.if-scope-len.true, c.len.ensures))) in omega (arith, z) in
    subst (λ x. IfOk c.name.result (λ operand. operand ≡ x)) (name_beyond all c.args.outermost.now c.args.scope c.args.place c.args.place past) c.name.ensures
