use Rattle.std.proofs.Common.{◌∙◌, ap, inr, subst, Option, List}
use Rattle.mo_scopes.specs.declared.finding.Finding.{Finding}
use Rattle.mo_scopes.specs.declared.rule.Breach.{Breach}
use Rattle.mo_names.specs.ProgramNames.{meanings}
use Rattle.mo_names.specs.Bound.{Breaks}
use Rattle.mo_order.specs.Breaches.{FirstOf}
use Rattle.mo_order.proofs.Judging.{judged}
use Rattle.mo_order.proofs.resolving.resolve.Goals as goal

pub returns-in-Some-clause-err : goal.returns-in-Some-clause-err
returns-in-Some-clause-err c =
    let first : FirstOf (Breaks c.args.tree.now) c.first_breach.result =
    judged c.args.tree.now c.as_slice.result.now c.in_ok-early.early c.first_breach.result (c.as_slice.ensures ∙ c.in_ok-found.ensures) c.in_ok-early.ensures c.first_breach.ensures in
    inr (c.in-Some.breach, c.from_breach.ensures, subst (λ (b : Option Breach). FirstOf (Breaks c.args.tree.now) b) c.in-Some.is first)

pub returns-clause-ok : goal.returns-clause-ok
returns-clause-ok c =
    let first : FirstOf (Breaks c.args.tree.now) c.first_breach.result =
    judged c.args.tree.now c.as_slice.result.now c.in_ok-early.early c.first_breach.result (c.as_slice.ensures ∙ c.in_ok-found.ensures) c.in_ok-early.ensures c.first_breach.ensures in (
      subst (λ (b : Option Breach). FirstOf (Breaks c.args.tree.now) b) c.in-None.is first,
      c.in_ok-new-in-None.ensures ∙ ap (λ (f : List Finding). meanings f) (c.as_slice-in-None.ensures ∙ c.in_ok-found.ensures),
    )
