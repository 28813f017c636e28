use Rattle.arena_saving.proofs.ExportParts.{hooks_call, hooks_none}
use Rattle.arena_saving.proofs.hook.begin.Goals as goal

pub returns-in_ok-operands-in-Some : goal.returns-in_ok-operands-in-Some
returns-in_ok-operands-in-Some c =
    hooks_call c.args.arena.now c.args.exports c.in-Some.function c.in_ok-operands-in-Some.operands c.in-Some.ensures.within c.in-Some.ensures.means c.in_ok-operands-in-Some.ensures.items

pub returns-in_ok-unit-in-None : goal.returns-in_ok-unit-in-None
returns-in_ok-unit-in-None c = hooks_none c.args.arena.now c.unit.new.self c.args.exports c.in_ok-unit-in-None.field-0 c.in-None.ensures.means c.in_ok-unit-in-None.ensures.ok
