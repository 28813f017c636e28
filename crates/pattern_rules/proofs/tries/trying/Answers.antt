use Rattle.std.proofs.Common.{◌∙◌, Ok, sym}
use Rattle.typing_rules.specs.AbstractSyntax as p
use Rattle.met_types.specs.States.{IsReached}
use Rattle.abstract_types.specs.PatternView.{plain as plain_pattern}
use Rattle.abstract_tree.specs.TreeView.{plain}
use Rattle.value_scopes.specs.Values.{noted}
use Rattle.typed_patterns.specs.Making.{pattern_in}
use Rattle.judging.specs.Views.{term_in, typed_in}
use Rattle.judging.proofs.Forms.{seen_Try}
use Rattle.judging.proofs.Steps.{plain_error, reached_on}
use Rattle.scope_judging.proofs.Answered.{ready_after}
use Rattle.pattern_rules.proofs.TryParts.{error, no_body, no_error, no_handler, not_there, try_given}
use Rattle.pattern_rules.proofs.tries.trying.Goals as goal

pub meets_plain-requires-clause-plain : goal.meets_plain-requires-clause-plain
meets_plain-requires-clause-plain g c = plain_error

pub judge_arm-requires-clause-ready : goal.judge_arm-requires-clause-ready
judge_arm-requires-clause-ready g c =
    ready_after term_in IsReached (error c.args.layer.now.site (plain c.args.a.now) (plain_pattern c.args.pattern.now) (plain c.args.b.now)) c.as_wanted.new.scopes c.as_wanted.new.checker c.meets_plain.new.checker (Ok c.in_ok-error.error) c.args.layer.now.site
    (c.in_ok-error.ensures.answer c.as_wanted.new.scopes c.in_ok-body.ensures.ready.sound) c.in_ok-body.ensures.ready

pub branches-requires-clause-kinds : goal.branches-requires-clause-kinds
branches-requires-clause-kinds g c = (
  reached_on c.meets_plain.new.checker.types c.judge_arm.new.checker.types c.in_ok-body.body.note.kind c.in_ok-caught.ensures.answer.outcome.goes
      (reached_on c.as_wanted.new.checker.types c.meets_plain.new.checker.types c.in_ok-body.body.note.kind c.in_ok-error.ensures.goes c.in_ok-body.ensures.answer.outcome.holds),
  (c.in_ok-caught.ensures.answer.outcome.holds, tt),
)

pub returns-else-waits : goal.returns-else-waits
returns-else-waits g c = not_there c.args.layer.now.site (plain c.args.a.now) (plain_pattern c.args.pattern.now) (plain c.args.b.now) c.args.scopes.now c.args.checker.now (sym c.waits.ensures ∙ c.if-waits.false)

pub returns-in_err-body : goal.returns-in_err-body
returns-in_err-body g c =
    no_body c.args.layer.now.site (plain c.args.a.now) (plain_pattern c.args.pattern.now) (plain c.args.b.now) (sym c.waits.ensures ∙ c.if-waits.true) c.args.scopes.now c.as_wanted.new.scopes c.args.checker.now c.as_wanted.new.checker
    c.in_err-body.field-0.0 c.from_residual.result c.from_residual.ensures c.in_err-body.ensures.answer

pub returns-in_err-error : goal.returns-in_err-error
returns-in_err-error g c =
    no_error c.args.layer.now.site (plain c.args.a.now) (plain_pattern c.args.pattern.now) (plain c.args.b.now) (sym c.waits.ensures ∙ c.if-waits.true) c.args.scopes.now c.as_wanted.new.scopes c.args.checker.now c.as_wanted.new.checker c.in_ok-body.body
    c.in_ok-body.ensures.answer c.meets_plain.new.checker c.in_err-error.field-0.0 c.from_residual-in_err-error.result c.from_residual-in_err-error.ensures (c.in_err-error.ensures.answer c.as_wanted.new.scopes c.in_ok-body.ensures.ready.sound)

pub returns-in_err-caught : goal.returns-in_err-caught
returns-in_err-caught g c =
    no_handler c.args.layer.now.site (plain c.args.a.now) (plain_pattern c.args.pattern.now) (plain c.args.b.now) (sym c.waits.ensures ∙ c.if-waits.true) c.args.scopes.now c.as_wanted.new.scopes c.args.checker.now c.as_wanted.new.checker c.in_ok-body.body
    c.in_ok-body.ensures.answer c.meets_plain.new.checker c.in_ok-error.error (c.in_ok-error.ensures.answer c.as_wanted.new.scopes c.in_ok-body.ensures.ready.sound) c.judge_arm.new.scopes c.judge_arm.new.checker c.in_err-caught.field-0.0
    c.from_residual-in_err-caught.result c.from_residual-in_err-caught.ensures c.in_err-caught.ensures.answer

pub returns-in_ok-caught : goal.returns-in_ok-caught
returns-in_ok-caught g c =
    try_given c.args.layer.now.site (plain c.args.a.now) (plain_pattern c.args.pattern.now) (plain c.args.b.now) (sym c.waits.ensures ∙ c.if-waits.true) c.args.scopes.now c.as_wanted.new.scopes c.args.checker.now c.as_wanted.new.checker c.in_ok-body.body
    c.in_ok-body.ensures.answer c.meets_plain.new.checker c.in_ok-error.error (c.in_ok-error.ensures.answer c.as_wanted.new.scopes c.in_ok-body.ensures.ready.sound) c.judge_arm.new.scopes c.judge_arm.new.checker c.branches.new.checker c.in_ok-caught.caught
    c.branches.result c.in_ok-caught.ensures.answer
    (c.branches.ensures c.judge_arm.new.scopes c.in_ok-caught.ensures.ready.sound (λ later. p.Try (typed_in c.in_ok-body.body later) (pattern_in c.in_ok-caught.caught.pattern later) (typed_in c.in_ok-caught.caught.body later))
    (λ later. seen_Try (noted later) c.in_ok-body.body c.in_ok-caught.caught.pattern c.in_ok-caught.caught.body))
