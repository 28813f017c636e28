use Rattle.std.proofs.lemmas.Result.{IfOk-weaker}
use Rattle.arena_events.proofs.Givens.{packed_many, packed_one}
use Rattle.arena_events.proofs.filling.packed.Goals as goal

pub returns-then-values-eq1 : goal.returns-then-values-eq1
returns-then-values-eq1 c = packed_one c.args.arena.now c.args.values.now _ c.if-values-eq1.true c.requires

pub returns-else-values-eq1 : goal.returns-else-values-eq1
returns-else-values-eq1 c =
    IfOk-weaker c.tuple_of.result _ _ (λ v added. packed_many c.args.arena.now c.tuple_of.new.arena c.args.values.now v c.if-values-eq1.false added) c.tuple_of.ensures
