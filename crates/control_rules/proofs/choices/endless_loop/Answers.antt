use Rattle.typing_rules.specs.AbstractSyntax as p
use Rattle.typing_rules.specs.Terms as t
use Rattle.typing_rules.specs.Ends.{Has}
use Rattle.abstract_tree.specs.TreeView.{plain}
use Rattle.value_scopes.specs.Values.{noted}
use Rattle.judging.specs.Views.{loop_in, typed_in, wanted_in}
use Rattle.judging.proofs.Forms.{seen_Loop}
use Rattle.judging.proofs.TypedParts.{part_given, part_refused}
use Rattle.control_rules.proofs.choices.endless_loop.Goals as goal

pub returns-in_err-body : goal.returns-in_err-body
returns-in_err-body g c =
    part_refused (loop_in c.args.layer.now.site (plain c.args.a.now)) (λ v b. Has c.args.layer.now.site.at (wanted_in v c.args.layer.now.site.wanted) t.Bottom (p.Loop b)) c.args.scopes.now c.loop_body.new.scopes c.args.checker.now c.loop_body.new.checker
    c.in_err-body.field-0.0 c.from_residual.result c.from_residual.ensures c.in_err-body.ensures.answer

pub returns : goal.returns
returns g c =
    part_given (loop_in c.args.layer.now.site (plain c.args.a.now)) (λ v b. Has c.args.layer.now.site.at (wanted_in v c.args.layer.now.site.wanted) t.Bottom (p.Loop b)) c.args.scopes.now c.loop_body.new.scopes c.loop_body.new.scopes c.args.checker.now
    c.loop_body.new.checker c.has_bottom.new.checker c.in_ok-body.body c.has_bottom.result c.in_ok-body.ensures.answer
    (c.has_bottom.ensures c.loop_body.new.scopes c.in_ok-body.ensures.ready.sound (λ later. p.Loop (typed_in c.in_ok-body.body later)) (λ later. seen_Loop (noted later) c.in_ok-body.body))
