use Rattle.std.proofs.lemmas.Result.{IfOk-equal}
use Rattle.switch_coverage.specs.Found.{switches_in}
use Rattle.switch_coverage.proofs.Seen.{switch_walked}
use Rattle.switch_coverage.proofs.walk.+walk.Goals as goal

pub add_expression-returns-in_ok-add_expression-in-Switch : goal.add_expression-returns-in_ok-add_expression-in-Switch
add_expression-returns-in_ok-add_expression-in-Switch t c =
    IfOk-equal c.add_cases.result _ _ _ c.add_cases.ensures
    (switch_walked c.args.expression.now c.in-Switch.of c.get.result.now c.in-Switch.token c.in-Switch.cases c.as_slice-in-Switch-2.result.now c.args.found.now.items c.push.new.self.items
    (switches_in c.add_expression-in-Switch.new.found.items) c.as_slice-in-Switch.result c.get.ensures c.in-Switch.is c.as_slice-in-Switch.ensures c.in_ok-push-in-Switch.ensures.items
    (c.in_ok-add_expression-in-Switch.ensures {u = tt}) c.as_slice-in-Switch-2.ensures)
