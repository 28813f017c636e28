use Rattle.std.proofs.Common.{Err, Ok, false, subst}
use Rattle.judging.specs.declared.site.Site.{Site}
use Rattle.judging.specs.Answers.{Answers}
use Rattle.judging.proofs.Steps.{ready_on}
use Rattle.list_judging.specs.Lists.{judge_list, list_in, list_reached}
use Rattle.block_rules.proofs.ObjectParts.{fields_ready, no_kind, no_list, not_public, object_given}
use Rattle.block_rules.proofs.objects.judge_object.Goals as goal

pub list_at-requires-clause-ready : goal.list_at-requires-clause-ready
list_at-requires-clause-ready g c = fields_ready c.args.checker.now c.args.scopes.now c.args.lists.now.layer.site c.args.at c.fields_site-site.result c.fields_site-site.ensures c.requires.ready

pub returns-in_err-public_fields-clause-answer : goal.returns-in_err-public_fields-clause-answer
returns-in_err-public_fields-clause-answer g c =
    not_public c.args.lists.now.layer.site.place c.args.at c.args.list.now c.args.scopes.now c.args.checker.now c.in_err-public_fields.field-0.0 c.from_residual.result c.from_residual.ensures c.requires.ready.sound
    c.in_err-public_fields.ensures

pub returns-in_err-made-clause-answer : goal.returns-in_err-made-clause-answer
returns-in_err-made-clause-answer g c =
    no_list c.args.lists.now.layer.site.place c.args.at c.args.list.now c.args.scopes.now c.list_at.new.scopes c.args.checker.now c.list_at.new.checker c.requires.ready.sound tt c.in_ok-public_fields.ensures
    c.in_err-made.field-0.0 c.from_residual-in_err-made.result c.from_residual-in_err-made.ensures
    (subst (λ (x : Site). Answers list_in list_reached (judge_list x false c.args.list.now) c.args.scopes.now c.args.checker.now c.list_at.new.scopes c.list_at.new.checker (Err c.in_err-made.field-0.0)) c.fields_site-site.ensures c.in_err-made.ensures.answer)

pub object_kind-requires : goal.object_kind-requires
object_kind-requires g c = c.in_ok-made.ensures.answer.outcome.sound

pub returns-in_err-kind-clause-answer : goal.returns-in_err-kind-clause-answer
returns-in_err-kind-clause-answer g c =
    no_kind c.args.lists.now.layer.site.place c.args.at c.args.list.now c.args.scopes.now c.list_at.new.scopes c.args.checker.now c.list_at.new.checker c.requires.ready.sound tt c.in_ok-public_fields.ensures
    c.in_ok-made.made
    (subst (λ (x : Site). Answers list_in list_reached (judge_list x false c.args.list.now) c.args.scopes.now c.args.checker.now c.list_at.new.scopes c.list_at.new.checker (Ok c.in_ok-made.made)) c.fields_site-site.ensures c.in_ok-made.ensures.answer)
    c.object_kind.new.scopes c.object_kind.new.checker c.in_err-kind.field-0.0 c.from_residual-in_err-kind.result c.from_residual-in_err-kind.ensures c.in_err-kind.ensures

pub returns-clause-answer : goal.returns-clause-answer
returns-clause-answer g c =
    object_given c.args.lists.now.layer.site.place c.args.at c.args.list.now c.args.scopes.now c.list_at.new.scopes c.args.checker.now c.list_at.new.checker c.requires.ready.sound tt c.in_ok-public_fields.ensures
    c.in_ok-made.made
    (subst (λ (x : Site). Answers list_in list_reached (judge_list x false c.args.list.now) c.args.scopes.now c.args.checker.now c.list_at.new.scopes c.list_at.new.checker (Ok c.in_ok-made.made)) c.fields_site-site.ensures c.in_ok-made.ensures.answer)
    c.object_kind.new.scopes c.object_kind.new.checker c.in_ok-kind.kind c.in_ok-kind.ensures

pub returns-clause-ready : goal.returns-clause-ready
returns-clause-ready g c = λ x r.
    ready_on c.list_at.new.checker c.object_kind.new.checker c.list_at.new.scopes c.object_kind.new.scopes x (c.in_ok-made.ensures.ready x r) c.in_ok-kind.ensures.outcome.sound c.in_ok-kind.ensures.outcome.goes
