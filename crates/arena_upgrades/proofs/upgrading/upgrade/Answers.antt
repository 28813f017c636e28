use Rattle.std.proofs.Common.{List, sym, ap, ◌∙◌}
use Rattle.std.proofs.lemmas.Result.{IfOk-weaker}
use Rattle.arena_actors.specs.declared.actor.Made.{Made}
use Rattle.arena_upgrades.specs.Outstanding.{any_open}
use Rattle.arena_upgrades.proofs.Counted.{has_none, has_open}
use Rattle.arena_upgrades.proofs.upgrading.upgrade.Goals as goal

pub returns-then-any_open : goal.returns-then-any_open
returns-then-any_open c =
    IfOk-weaker c.outstanding.result _ _
    (λ u h. h c.args.old.now c.args.new.now c.args.own.now (has_open c.args.actor.now (ap (λ (ms : List Made). any_open ms) (sym c.as_slice.ensures) ∙ sym c.if-any_open.ensures)))
    c.outstanding.ensures

pub save_first-requires-clause-closed : goal.save_first-requires-clause-closed
save_first-requires-clause-closed c = has_none c.args.actor.now (ap (λ (ms : List Made). any_open ms) (sym c.as_slice.ensures) ∙ sym c.if-any_open.ensures)
