use Rattle.typing_rules.specs.AbstractSyntax as p
use Rattle.abstract_tree.specs.TreeView.{plain}
use Rattle.value_scopes.specs.Values.{noted}
use Rattle.judging.specs.Views.{typed_in}
use Rattle.judging.proofs.Forms.{seen_Assign}
use Rattle.judging.proofs.Steps.{reached_within}
use Rattle.place_rules.proofs.Placing.{is_assigned, no_place_judged, not_from}
use Rattle.place_rules.proofs.assigning.assign.Goals as goal

pub part-requires-clause-wanted : goal.part-requires-clause-wanted
part-requires-clause-wanted g c = reached_within c.judge_place.new.checker.types c.in_ok-to.to.note.kind c.in_ok-to.ensures.ready.wanting.kept c.in_ok-to.ensures.answer.outcome.holds

pub returns-in_err-to : goal.returns-in_err-to
returns-in_err-to g c =
    no_place_judged c.args.layer.now.site (plain c.args.of.now) (plain c.args.a.now) c.args.scopes.now c.judge_place.new.scopes c.args.checker.now c.judge_place.new.checker c.in_err-to.field-0.0 c.from_residual.result c.from_residual.ensures
    c.in_err-to.ensures.answer

pub returns-in_err-from : goal.returns-in_err-from
returns-in_err-from g c =
    not_from c.args.layer.now.site (plain c.args.of.now) (plain c.args.a.now) c.args.scopes.now c.judge_place.new.scopes c.args.checker.now c.judge_place.new.checker c.in_ok-to.to c.in_ok-to.ensures.answer
    c.part.new.scopes c.part.new.checker c.in_err-from.field-0.0 c.from_residual-in_err-from.result c.from_residual-in_err-from.ensures c.in_err-from.ensures.answer

pub returns : goal.returns
returns g c =
    is_assigned c.args.layer.now.site (plain c.args.of.now) (plain c.args.a.now) c.args.scopes.now c.judge_place.new.scopes c.args.checker.now c.judge_place.new.checker c.in_ok-to.to c.in_ok-to.ensures.answer
    c.part.new.scopes c.part.new.scopes c.part.new.checker c.has_unit.new.checker c.in_ok-from.from c.has_unit.result c.in_ok-from.ensures.answer
    (c.has_unit.ensures c.part.new.scopes c.in_ok-from.ensures.ready.sound (λ later. p.Assign (typed_in c.in_ok-to.to later) (typed_in c.in_ok-from.from later)) (λ later. seen_Assign (noted later) c.in_ok-to.to c.in_ok-from.from))
