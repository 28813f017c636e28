use Rattle.std.proofs.Common.{rules, ◌≡◌, ℕ, List, Err, Bor}
use Rattle.candid_types.specs.Inside.{below}
use Rattle.candid_read.specs.Values.{known_part}
use Rattle.candid_read.proofs.Reach.{over_next, stops_next}
use Rattle.candid_read.proofs.skip.skip_parts.Goals as goal

pub returns-in_err-rest-in-Some-clause-fault : goal.returns-in_err-rest-in-Some-clause-fault
returns-in_err-rest-in-Some-clause-fault c =
    let taken = rw c.in-Some.is at c.in_ok-next.ensures in
    let e : c.from_residual-in_err-rest-in-Some.result ≡ Err c.in_err-rest-in-Some.field-0.0 = search rules in
    rw e (stops_next (known_part c.args.types.now c.args.known.now) (below c.args.known.now.shapes) (Bor (List ℕ)) c.in_err-rest-in-Some.field-0.0 _ _ _ _ _ _ c.loop.invariant taken c.in_err-rest-in-Some.ensures.fault)

pub loop-preserved : goal.loop-preserved
loop-preserved c =
    let taken = rw c.in-Some.is at c.in_ok-next.ensures in
    over_next (known_part c.args.types.now c.args.known.now) (below c.args.known.now.shapes) _ _ _ _ _ _ _ _ c.loop.invariant taken c.in_ok-rest-in-Some.ensures.found
