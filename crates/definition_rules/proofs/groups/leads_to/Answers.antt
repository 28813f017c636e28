use Rattle.std.proofs.Common.{List, ℕ, subst, ap, arith, length}
use Rattle.definition_rules.specs.Uses.{AddsUsed}
use Rattle.definition_rules.proofs.Grouping.{led_first, led_on, led_to}
use Rattle.definition_rules.proofs.groups.leads_to.Goals as goal

pub loop-round-init : goal.loop-round-init
loop-round-init c =
    led_first c.args.definitions.now c.args.terms.now c.args.right c.add_used.new.names.keys
    (subst (λ (old : List ℕ). AddsUsed c.args.terms.now c.args.right old c.add_used.new.names.keys) c.new-names.ensures.empty c.in_ok-add_used.ensures)

pub loop-round-preserved : goal.loop-round-preserved
loop-round-preserved c =
    led_on c.args.definitions.now c.args.terms.now c.args.right c.loop-round._round c.loop-round.place c.in_ok-place.place c.loop-round.names.keys c.add_round.new.names.keys c.in_ok-place.ensures.many
    c.loop-round.invariant c.in_ok-place.ensures.adds

pub returns : goal.returns
returns c =
    led_to c.args.definitions.now c.args.terms.now c.args.right c.loop-round._round c.loop-round.place c.loop-round.names.keys c.args.name c.requires.stand.as_many
    (let h = ap length c.types-round-end.ensures in omega (arith, h)) c.loop-round.invariant c.contains.result c.contains.ensures
