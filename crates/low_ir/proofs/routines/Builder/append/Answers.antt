use Rattle.std.proofs.Common.{◌≡◌, ◌++◌, take, Result, Ok, Err}
use Rattle.std.specs.Prelude.{OnErr}
use Rattle.low_ir.proofs.routines.Builder.append.Goals as goal

-- Where it holds, it holds after any error.
after_any : {T E P : Type 0} (r : Result T E) → P → OnErr r P
after_any (Ok value) p = tt
after_any (Err cause) p = p

pub returns-in_err-push-clause-err : goal.returns-in_err-push-clause-err
returns-in_err-push-clause-err c =
    let same : c.push.new.self.items ≡ c.args.self.now ++ take c.loop-routine.routine-index c.args.more.now = let pushed : c.push.new.self.items ≡ c.loop-routine.self-inside.list.items = c.in_err-push.ensures.items in let kept = c.loop-routine.invariant in cc in
    after_any c.from_residual-in_err-push.result (c.loop-routine.routine-index, same)
