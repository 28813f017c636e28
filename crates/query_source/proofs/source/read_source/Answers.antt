use Rattle.std.proofs.Common.{arith, subst}
use Rattle.query_source.proofs.Answered.{source_at, no_source, source_whole, not_yet_never, passed_on, twins, DistinctIds}
use Rattle.query_source.proofs.source.read_source.Goals as goal

pub returns-in_default-clause-only : goal.returns-in_default-clause-only
returns-in_default-clause-only c = λ methods s. absurd (no_source methods _ c.in_default.ensures.none s)

pub returns-in_default-clause-not_yet : goal.returns-in_default-clause-not_yet
returns-in_default-clause-not_yet c = λ _ methods s. no_source methods _ c.in_default.ensures.none s

pub returns-in_err-methods-clause-only : goal.returns-in_err-methods-clause-only
returns-in_err-methods-clause-only c = λ methods s.
    passed_on c.from_residual.result _ methods c.from_residual.ensures.1 (c.in_err-methods.ensures.only methods (source_at methods _ _ c.in-Some.ensures.some s))

pub returns-in_err-methods-clause-not_yet : goal.returns-in_err-methods-clause-not_yet
returns-in_err-methods-clause-not_yet c = λ e methods s.
    not_yet_never c.from_residual.result methods (passed_on c.from_residual.result _ methods c.from_residual.ensures.1 (c.in_err-methods.ensures.only methods (source_at methods _ _ c.in-Some.ensures.some s))) e

pub returns-then-have_distinct_ids-clause-found : goal.returns-then-have_distinct_ids-clause-found
returns-then-have_distinct_ids-clause-found c =
    source_whole _ _ _ (omega arith) c.in-Some.ensures.some c.in_ok-methods.ensures.found (subst (λ ms. DistinctIds ms) c.as_slice.ensures (c.have_distinct_ids.ensures.0 c.if-have_distinct_ids.true))

pub returns-then-have_distinct_ids-clause-only : goal.returns-then-have_distinct_ids-clause-only
returns-then-have_distinct_ids-clause-only c = λ methods s. c.in_ok-methods.ensures.only methods (source_at methods _ _ c.in-Some.ensures.some s)

pub returns-else-have_distinct_ids-clause-only : goal.returns-else-have_distinct_ids-clause-only
returns-else-have_distinct_ids-clause-only c = λ methods s.
    absurd (twins _ methods _ _ _ c.as_slice.ensures c.have_distinct_ids.ensures.1 c.if-have_distinct_ids.false (c.in_ok-methods.ensures.only methods (source_at methods _ _ c.in-Some.ensures.some s)) s)

pub returns-else-have_distinct_ids-clause-not_yet : goal.returns-else-have_distinct_ids-clause-not_yet
returns-else-have_distinct_ids-clause-not_yet c = λ _ methods s.
    twins _ methods _ _ _ c.as_slice.ensures c.have_distinct_ids.ensures.1 c.if-have_distinct_ids.false (c.in_ok-methods.ensures.only methods (source_at methods _ _ c.in-Some.ensures.some s)) s
