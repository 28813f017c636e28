use Rattle.std.proofs.Common.{rules}
use Rattle.std.proofs.lemmas.List.Sorted.{IsNonDecreasingBy-from_sort_by_key, IsPermutation-map}
use Rattle.mo_coverage.specs.Shapes.{known}
use Rattle.switch_coverage.specs.declared.uncovered.Uncovered.{Uncovered}
use Rattle.switch_coverage.specs.Uncovered.{missing}
use Rattle.switch_coverage.proofs.uncovered.sorted.Goals as goal

pub returns-clause-same : goal.returns-clause-same
returns-clause-same c = IsPermutation-map (λ (u : Uncovered). missing u.token u.of_type (known u.missed)) _ _ c.in_ok-sort_by_key.ensures.permutation

pub returns-clause-in_order : goal.returns-clause-in_order
returns-clause-in_order c = IsNonDecreasingBy-from_sort_by_key (λ (u : Uncovered). u.token) _ c.in_ok-sort_by_key.ensures.sorted (λ a r q k. search rules)
