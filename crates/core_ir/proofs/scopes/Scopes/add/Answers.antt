use Rattle.std.proofs.Common.{◌∙◌, ◌++◌, ◌∷◌, [], length, subst, sym, ap, arith}
use Rattle.std.proofs.lemmas.List.{length-append}
use Rattle.core_ir.specs.ScopeNames.{named, names_at, EntriesFit, Jumps}
use Rattle.core_ir.proofs.Scoping.{length_named, named_push, fits_next}
use Rattle.core_ir.proofs.scopes.Scopes.add.Goals as goal

pub jump_from-jump-requires-clause-within : goal.jump_from-jump-requires-clause-within
jump_from-jump-requires-clause-within c =
    let e = ap length c.self.view_is in let k = length_named c.self.inside.entries.items in let d = ap length c.deref.ensures.value in omega (arith, e, k, d)

pub jump_from-jump-requires-clause-fit : goal.jump_from-jump-requires-clause-fit
jump_from-jump-requires-clause-fit c = subst EntriesFit (sym c.deref.ensures.value) c.self.invariant

pub invariant_of-self : goal.invariant_of-self
invariant_of-self c = subst EntriesFit (sym c.in_err-push.ensures.items) c.self.invariant

pub invariant_of-self-2 : goal.invariant_of-self-2
invariant_of-self-2 c =
    let es = c.self.inside.entries.items in
    let l = c.requires in let e = ap length c.self.view_is in let k = length_named es in
    subst EntriesFit (sym c.in_ok-push.ensures.items) (fits_next es _ c.self.invariant (omega (arith, e, k, l)) (subst (λ es. Jumps (named es) c.args.outer c.jump_from-jump.result.0 c.jump_from-jump.result.1) c.deref.ensures.value c.jump_from-jump.ensures))

pub returns-clause-added : goal.returns-clause-added
returns-clause-added c =
    let es = c.self.inside.entries.items in
    ap named c.in_ok-push.ensures.items ∙ named_push es _ ∙ ap (λ all. all ++ (c.args.name ∷ names_at all c.args.outer) ∷ []) c.self.view_is

pub returns-clause-number : goal.returns-clause-number
returns-clause-number c =
    let es = c.self.inside.entries.items in
    let x = ap length c.in_ok-push.ensures.items in
    let k = length_named c.push.new.self.items in
    let z = length-append es (record { name = c.args.name; outer = c.args.outer; jump = c.jump_from-jump.result.0; skip = c.jump_from-jump.result.1 } ∷ []) in
    let n = c.in-Ok.ensures in let m = c.len.ensures in omega (arith, x, k, z, n, m)
