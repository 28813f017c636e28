use Rattle.typing_rules.specs.AbstractSyntax as p
use Rattle.met_types.specs.States.{IsReached}
use Rattle.abstract_tree.specs.TreeView.{plain}
use Rattle.value_scopes.specs.Values.{noted}
use Rattle.judging.specs.Views.{typed_in}
use Rattle.judging.proofs.Forms.{seen_Await}
use Rattle.judging.proofs.Steps.{reached_within}
use Rattle.call_rules.proofs.Promises.{is_future, no_future, not_typed, some_is}
use Rattle.call_rules.proofs.futures.awaited.Goals as goal

pub returns-in_err-of : goal.returns-in_err-of
returns-in_err-of g c =
    not_typed c.args.layer.now.site (plain c.args.a.now) c.directly-place.result c.args.scopes.now c.part_at.new.scopes c.args.checker.now c.part_at.new.checker c.in_err-of.field-0.0 c.from_residual.result c.directly-place.ensures c.from_residual.ensures
    c.in_err-of.ensures.answer

pub future_part-requires-clause-reached : goal.future_part-requires-clause-reached
future_part-requires-clause-reached g c = c.in_ok-of.ensures.answer.outcome.holds

pub has-requires-clause-within : goal.has-requires-clause-within
has-requires-clause-within g c =
    reached_within c.part_at.new.checker.types c.in-Some.kind c.in_ok-of.ensures.ready.sound.known.kept (some_is (IsReached c.part_at.new.checker.types) c.future_part.result c.in-Some.kind c.in-Some.is c.future_part.ensures.reached)

pub returns-in-Some : goal.returns-in-Some
returns-in-Some g c =
    is_future c.args.layer.now.site (plain c.args.a.now) c.directly-place.result c.directly-place.ensures c.args.scopes.now c.part_at.new.scopes c.args.checker.now c.part_at.new.checker c.in_ok-of.of c.in_ok-of.ensures.answer c.future_part.result
    c.future_part.ensures.is c.in-Some.kind c.has.new.checker c.has.result c.in-Some.is
    (c.has.ensures c.part_at.new.scopes c.in_ok-of.ensures.ready.sound (λ later. p.Await (typed_in c.in_ok-of.of later)) (λ later. seen_Await (noted later) c.in_ok-of.of))

pub returns-in-None : goal.returns-in-None
returns-in-None g c =
    no_future c.args.layer.now.site (plain c.args.a.now) c.directly-place.result c.directly-place.ensures c.args.scopes.now c.part_at.new.scopes c.args.checker.now c.part_at.new.checker c.in_ok-of.of c.in_ok-of.ensures.answer c.future_part.result
    c.future_part.ensures.is c.in-None.is
