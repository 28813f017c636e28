use Rattle.std.proofs.Common.{List, get_or, refl, subst}
use Rattle.std.proofs.lemmas.List.{take_all}
use Rattle.mo_scopes.specs.declared.finding.Finding.{Finding}
use Rattle.mo_scopes.specs.declared.finding.Finding.TheVariants as finding
use Rattle.mo_scopes.specs.declared.meaning.Meaning.TheVariants as meaning
use Rattle.mo_order.specs.Breaches.{FirstOf, FoundOrEarly}
use Rattle.mo_order.proofs.Judging.{found_more}
use Rattle.mo_order.proofs.breaches.first_breach.Goals as goal

pub loop-finding-preserved : goal.loop-finding-preserved
loop-finding-preserved c =
    let other = finding.Meaning (meaning.Value 0) in
    found_more c.args.found.now c.loop-finding.finding-index other (get_or c.args.found.now c.loop-finding.finding-index other) c.args.early c.loop-finding.first c.first_with-first.result
    c.loop-finding-test.true refl c.loop-finding.invariant c.first_with-first.ensures

pub returns : goal.returns
returns c = subst (λ (t : List Finding). FirstOf (FoundOrEarly t c.args.early) c.loop-finding.first) (take_all c.loop-finding.finding-index c.args.found.now c.loop-finding-test.false) c.loop-finding.invariant
