use Rattle.std.proofs.Common.{◌∙◌, ◌-◌, option_map, ap, sym, arith}
use Rattle.type_definitions.specs.Meanings.{term}
use Rattle.kernel_types.proofs.Promoting.{leads_first, leads_no_more, leads_on, leads_to}
use Rattle.kernel_types.proofs.types.KernelTypes.promoted.Goals as goal

pub loop-left-init : goal.loop-left-init
loop-left-init c = leads_first c.args.self.now c.args.kind c.turns-left.result c.turns-left.ensures.number c.turns-left.ensures.many

pub loop-left-preserved : goal.loop-left-preserved
loop-left-preserved c =
    leads_on c.args.self.now c.args.kind c.loop-left.left (c.loop-left.left - 1) c.loop-left.last c.in-Some.next (omega (arith, c.loop-left-test.true))
    (ap (option_map (term c.args.self.now.forms)) (sym c.in-Some.is) ∙ c.in_ok-bound.ensures) c.loop-left.invariant

pub returns-in-None : goal.returns-in-None
returns-in-None c = leads_no_more c.args.self.now c.args.kind c.loop-left.left c.loop-left.last (ap (option_map (term c.args.self.now.forms)) (sym c.in-None.is) ∙ c.in_ok-bound.ensures) c.loop-left.invariant

pub returns : goal.returns
returns c = leads_to c.args.self.now c.args.kind c.loop-left.left c.loop-left.last (omega (arith, c.loop-left-test.false)) c.loop-left.invariant
