use Rattle.std.proofs.Common.{sym, ◌∙◌, add-one}
use Rattle.arena_upgrades.proofs.Counted.{open_behind, open_here, open_none}
use Rattle.arena_upgrades.proofs.open_calls.any_open.Goals as goal

pub returns-then-is_open : goal.returns-then-is_open
returns-then-is_open c = sym (open_here c.args.calls.now c.loop-call.call-index c.call-item.result c.loop-call-test.true c.call-item.is (sym c.if-is_open.ensures)) ∙ c.loop-call.invariant

pub loop-call-preserved : goal.loop-call-preserved
loop-call-preserved c = rw add-one (sym (open_behind c.args.calls.now c.loop-call.call-index c.call-item.result c.loop-call-test.true c.call-item.is (sym c.if-is_open.ensures)) ∙ c.loop-call.invariant)

pub returns : goal.returns
returns c = sym (open_none c.args.calls.now c.loop-call.call-index c.loop-call-test.false) ∙ c.loop-call.invariant
