use Rattle.std.proofs.Common.{◌≡◌, ◌∷◌, [], ◌∙◌, sym, subst, Some, true, false}
use Rattle.mo_syntax.specs.declared.place.Place.{Place}
use Rattle.mo_scopes.specs.Findings.{contains}
use Rattle.mo_order.specs.Early.{LateAt}
use Rattle.mo_order.specs.Least.{LeastOf}
use Rattle.mo_order.proofs.Looking.{late_here, late_absent}
use Rattle.mo_order.proofs.order.late_place.Goals as goal

pub returns-then-contains : goal.returns-then-contains
returns-then-contains c =
    let h : contains c.args.late.now c.args.name.now.bytes ≡ true = sym c.contains.ensures ∙ c.if-contains.true in
    subst (λ (p : Place). LeastOf (LateAt c.args.late.now (c.args.name.now ∷ [])) (Some p)) (sym c.place.ensures) (late_here c.args.late.now c.args.name.now h)

pub returns-else-contains : goal.returns-else-contains
returns-else-contains c =
    let h : contains c.args.late.now c.args.name.now.bytes ≡ false = sym c.contains.ensures ∙ c.if-contains.false in
    late_absent c.args.late.now c.args.name.now h
