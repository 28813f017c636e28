use Rattle.std.proofs.Common.{refl}
use Rattle.std.proofs.lemmas.Result.{IfOk-weaker}
use Rattle.arena_upgrades.proofs.Lefts.{incompatible_first, incompatible_later}
use Rattle.arena_upgrades.proofs.staying.incompatible.Goals as goal

pub returns-then-turns-eq0 : goal.returns-then-turns-eq0
returns-then-turns-eq0 c = incompatible_first c.args.turns c.args.actor.now c.args.table c.args.before _ c.if-turns-eq0.true refl

pub returns : goal.returns
returns c = IfOk-weaker c.trapped.result _ _ (λ u h. incompatible_later c.args.turns c.args.actor.now c.args.table c.args.before c.in_ok-text.text u c.if-turns-eq0.false c.in_ok-text.ensures h) c.trapped.ensures
