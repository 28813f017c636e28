use Rattle.query_source.specs.Reading.{EndsMethods}
use Rattle.query_source.proofs.Lists.{closed_here, closed_only, shorter, held, pushed, closed_pushed, only_pushed}
use Rattle.query_source.proofs.Answered.{found_when, only_when}
use Rattle.query_source.proofs.actor.read_methods.Goals as goal

pub returns-in_default-expect-clause-found : goal.returns-in_default-expect-clause-found
returns-in_default-expect-clause-found c =
    found_when c.closed.result _ _ (λ ms. EndsMethods ms c.args.text.now) c.closed.ensures.ok
    (closed_pushed c.loop-found.methods _ _ _ _ _ c.in_ok-push.ensures.ok c.loop-found.invariant (held _ _ _ _ _ c.in_ok-from_slice.ensures c.in-Some.ensures.some))

pub returns-in_default-expect-clause-only : goal.returns-in_default-expect-clause-only
returns-in_default-expect-clause-only c = λ methods e.
    only_when c.closed.result _ methods _ c.closed.ensures.ok c.closed.ensures.err
    (only_pushed c.loop-found.methods _ methods _ _ _ _ c.in_ok-push.ensures.ok c.loop-found.invariant (held _ _ _ _ _ c.in_ok-from_slice.ensures c.in-Some.ensures.some) c.in_default-expect.ensures.none e)

pub loop-found-smaller : goal.loop-found-smaller
loop-found-smaller c = shorter _ _ _ _ c.in-Some.ensures.some c.in-Some-expect.ensures.some

pub loop-found-preserved : goal.loop-found-preserved
loop-found-preserved c =
    pushed c.loop-found.methods _ _ _ _ _ _ c.in_ok-push.ensures.ok (held _ _ _ _ _ c.in_ok-from_slice.ensures c.in-Some.ensures.some) c.in-Some-expect.ensures.some c.loop-found.invariant

pub returns-clause-found : goal.returns-clause-found
returns-clause-found c = found_when c.closed-2.result _ _ (λ ms. EndsMethods ms c.args.text.now) c.closed-2.ensures.ok (closed_here _ _ _ c.loop-found.invariant)

pub returns-clause-only : goal.returns-clause-only
returns-clause-only c = λ methods e. only_when c.closed-2.result _ methods _ c.closed-2.ensures.ok c.closed-2.ensures.err (closed_only _ methods _ _ c.loop-found.invariant c.in_default.ensures.none e)
