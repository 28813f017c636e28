use Rattle.list_rules.proofs.Whole.{bodies_given, no_bodies, no_order}
use Rattle.list_rules.proofs.listing.order_and_bodies.Goals as goal

pub returns-in_err-run : goal.returns-in_err-run
returns-in_err-run g c =
    no_order c.args.lists.now.layer.site c.args.value c.args.list.now c.args.scopes.now c.judge_order.new.scopes c.judge_order.new.scopes c.args.checker.now c.judge_order.new.checker c.in_err-run.field-0.0
    c.from_residual.result c.from_residual.ensures c.in_err-run.ensures.enters

pub returns-in_err-declarations : goal.returns-in_err-declarations
returns-in_err-declarations g c =
    no_bodies c.args.lists.now.layer.site c.args.value c.args.list.now c.args.scopes.now c.judge_order.new.scopes c.args.checker.now c.judge_order.new.checker c.in_ok-run.run' c.in_ok-run.ensures.enters
    c.judge_bodies.new.scopes c.judge_bodies.new.scopes c.judge_bodies.new.checker c.in_err-declarations.field-0.0 c.from_residual-in_err-declarations.result c.from_residual-in_err-declarations.ensures c.in_err-declarations.ensures

pub returns : goal.returns
returns g c =
    bodies_given c.args.lists.now.layer.site c.args.value c.args.list.now c.args.scopes.now c.judge_order.new.scopes c.args.checker.now c.judge_order.new.checker c.in_ok-run.run' c.in_ok-run.ensures.enters
    c.judge_bodies.new.scopes c.judge_bodies.new.checker c.in_ok-declarations.declarations c.in_ok-declarations.ensures
