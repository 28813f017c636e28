use Rattle.typing_rules.specs.AbstractSyntax as p
use Rattle.abstract_tree.specs.TreeView.{plain}
use Rattle.value_scopes.specs.Values.{noted}
use Rattle.judging.specs.Views.{typed_in}
use Rattle.judging.proofs.Forms.{seen_If}
use Rattle.judging.proofs.Steps.{reached_on}
use Rattle.control_rules.proofs.Branching.{if_given, if_no_first, if_no_second, if_no_test}
use Rattle.control_rules.proofs.choices.conditional.Goals as goal

pub branches-requires-clause-kinds : goal.branches-requires-clause-kinds
branches-requires-clause-kinds g c = (
  reached_on c.as_wanted.new.checker.types c.as_wanted-2.new.checker.types c.in_ok-first.first.note.kind c.in_ok-second.ensures.answer.outcome.goes c.in_ok-first.ensures.answer.outcome.holds,
  (c.in_ok-second.ensures.answer.outcome.holds, tt),
)

pub returns-in_err-condition : goal.returns-in_err-condition
returns-in_err-condition g c =
    if_no_test c.args.layer.now.site (plain c.args.c.now) (plain c.args.a.now) (plain c.args.b.now) c.args.scopes.now c.fits_boolean.new.scopes c.args.checker.now c.fits_boolean.new.checker c.in_err-condition.field-0.0
    c.from_residual.result c.from_residual.ensures c.in_err-condition.ensures.answer

pub returns-in_err-first : goal.returns-in_err-first
returns-in_err-first g c =
    if_no_first c.args.layer.now.site (plain c.args.c.now) (plain c.args.a.now) (plain c.args.b.now) c.args.scopes.now c.fits_boolean.new.scopes c.args.checker.now c.fits_boolean.new.checker c.in_ok-condition.condition
    c.in_ok-condition.ensures.answer c.as_wanted.new.scopes c.as_wanted.new.checker c.in_err-first.field-0.0 c.from_residual-in_err-first.result c.from_residual-in_err-first.ensures c.in_err-first.ensures.answer

pub returns-in_err-second : goal.returns-in_err-second
returns-in_err-second g c =
    if_no_second c.args.layer.now.site (plain c.args.c.now) (plain c.args.a.now) (plain c.args.b.now) c.args.scopes.now c.fits_boolean.new.scopes c.args.checker.now c.fits_boolean.new.checker c.in_ok-condition.condition
    c.in_ok-condition.ensures.answer c.as_wanted.new.scopes c.as_wanted.new.checker c.in_ok-first.first c.in_ok-first.ensures.answer c.as_wanted-2.new.scopes c.as_wanted-2.new.checker c.in_err-second.field-0.0
    c.from_residual-in_err-second.result c.from_residual-in_err-second.ensures c.in_err-second.ensures.answer

pub returns : goal.returns
returns g c =
    if_given c.args.layer.now.site (plain c.args.c.now) (plain c.args.a.now) (plain c.args.b.now) c.args.scopes.now c.fits_boolean.new.scopes c.args.checker.now c.fits_boolean.new.checker c.in_ok-condition.condition
    c.in_ok-condition.ensures.answer c.as_wanted.new.scopes c.as_wanted.new.checker c.in_ok-first.first c.in_ok-first.ensures.answer c.as_wanted-2.new.scopes c.as_wanted-2.new.checker c.branches.new.checker c.in_ok-second.second
    c.branches.result c.in_ok-second.ensures.answer
    (c.branches.ensures c.as_wanted-2.new.scopes c.in_ok-second.ensures.ready.sound
    (λ later. p.If (typed_in c.in_ok-condition.condition later) (typed_in c.in_ok-first.first later) (typed_in c.in_ok-second.second later))
    (λ later. seen_If (noted later) c.in_ok-condition.condition c.in_ok-first.first c.in_ok-second.second))
