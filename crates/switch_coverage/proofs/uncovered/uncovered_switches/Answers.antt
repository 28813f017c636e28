use Rattle.std.proofs.Common.{◌≡◌, sym, ap, ◌∙◌, subst}
use Rattle.std.specs.List.Sorted.{IsNonDecreasingBy, IsPermutation}
use Rattle.mo_types.specs.Sub.{Each}
use Rattle.switch_coverage.specs.declared.uncovered.Uncovered.{Uncovered}
use Rattle.switch_coverage.specs.Found.{switches_in}
use Rattle.switch_coverage.specs.Switches.{switches}
use Rattle.switch_coverage.specs.Uncovered.{AreUncovered, Fits, Selects, all_missing}
use Rattle.switch_coverage.proofs.Fitting.{switches_fit}
use Rattle.switch_coverage.proofs.Lists.{ok_both}
use Rattle.switch_coverage.proofs.uncovered.uncovered_switches.Goals as goal

pub select-requires-clause-fit : goal.select-requires-clause-fit
select-requires-clause-fit c =
    let e : switches_in c.as_slice-2.result.now ≡ switches c.args.program.now = ap switches_in c.as_slice-2.ensures.value ∙ c.in_ok-found.ensures in
    subst (λ ss. Each (Fits c.args.program.now.types) ss) (sym e) (switches_fit c.args.program.now c.requires)

pub returns : goal.returns
returns c =
    let e : switches_in c.as_slice-2.result.now ≡ switches c.args.program.now = ap switches_in c.as_slice-2.ensures.value ∙ c.in_ok-found.ensures in
    let s : Selects c.args.program.now.types (switches c.args.program.now) (all_missing c.in_ok-missing.missing.items) =
    subst (λ ss. Selects c.args.program.now.types ss (all_missing c.in_ok-missing.missing.items)) e c.in_ok-missing.ensures in
    ok_both c.sorted.result (λ made. IsPermutation (all_missing c.in_ok-missing.missing.items) (all_missing made.items)) (λ made. IsNonDecreasingBy (λ (u : Uncovered). u.token) made.items)
    (λ made. AreUncovered c.args.program.now made.items) c.sorted.ensures.same c.sorted.ensures.in_order
    (λ made p o. record { selected = all_missing c.in_ok-missing.missing.items; selects = s; same = p; in_order = o })
