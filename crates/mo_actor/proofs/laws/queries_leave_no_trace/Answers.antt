use Rattle.mo_actor.specs.Measures.{Unmeasured}
use Rattle.mo_actor.proofs.Undone.{queries_leave_no_trace, calls_of_queries_leave_no_trace}
use Rattle.mo_actor.proofs.laws.queries_leave_no_trace.Goals as goal

pub returns-clause-queries : goal.returns-clause-queries
returns-clause-queries g c = queries_leave_no_trace _ Unmeasured

pub returns-clause-calls : goal.returns-clause-calls
returns-clause-calls g c = calls_of_queries_leave_no_trace _ Unmeasured
