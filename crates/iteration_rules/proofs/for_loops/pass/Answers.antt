use Rattle.typing_rules.specs.AbstractSyntax as p
use Rattle.abstract_types.specs.PatternView.{plain as plain_pattern}
use Rattle.abstract_tree.specs.TreeView.{plain}
use Rattle.value_scopes.specs.Values.{noted}
use Rattle.typed_patterns.specs.Making.{pattern_in}
use Rattle.judging.specs.Views.{typed_in}
use Rattle.judging.proofs.Forms.{seen_For}
use Rattle.judging.proofs.Steps.{ready_on}
use Rattle.iteration_rules.proofs.Passing.{no_turn, not_met, pass_given}
use Rattle.iteration_rules.proofs.for_loops.pass.Goals as goal

pub meets_kind-requires-clause-kept : goal.meets_kind-requires-clause-kept
meets_kind-requires-clause-kept g c = c.requires.ready.wanting.kept

pub judge_turn-requires-clause-ready : goal.judge_turn-requires-clause-ready
judge_turn-requires-clause-ready g c =
    ready_on c.args.checker.now c.meets_kind.new.checker c.args.scopes.now c.args.scopes.now c.args.layer.now.site c.requires.ready (c.in_ok-meets_kind.ensures.answer c.args.scopes.now c.requires.ready.sound).outcome.sound c.in_ok-meets_kind.ensures.goes

pub returns-in_err-meets_kind : goal.returns-in_err-meets_kind
returns-in_err-meets_kind g c =
    not_met c.args.layer.now.site (plain_pattern c.args.pattern.now) (plain c.args.body.now) c.args.of c.args.kind c.args.scopes.now c.args.checker.now c.meets_kind.new.checker c.in_err-meets_kind.field-0.0 c.from_residual.result c.from_residual.ensures
    (c.in_err-meets_kind.ensures.answer c.args.scopes.now c.requires.ready.sound)

pub returns-in_err-made : goal.returns-in_err-made
returns-in_err-made g c =
    no_turn c.args.layer.now.site (plain_pattern c.args.pattern.now) (plain c.args.body.now) c.args.of c.args.kind c.args.scopes.now c.args.checker.now c.meets_kind.new.checker (c.in_ok-meets_kind.ensures.answer c.args.scopes.now c.requires.ready.sound)
    c.judge_turn.new.scopes c.judge_turn.new.checker c.in_err-made.field-0.0 c.from_residual-in_err-made.result c.from_residual-in_err-made.ensures c.in_err-made.ensures.answer

pub returns : goal.returns
returns g c =
    pass_given c.args.layer.now.site (plain_pattern c.args.pattern.now) (plain c.args.body.now) c.args.of c.args.kind c.args.scopes.now c.args.checker.now c.meets_kind.new.checker (c.in_ok-meets_kind.ensures.answer c.args.scopes.now c.requires.ready.sound)
    c.judge_turn.new.scopes c.judge_turn.new.checker c.has_unit.new.checker c.in_ok-made.made c.has_unit.result c.in_ok-made.ensures.answer
    (c.has_unit.ensures c.judge_turn.new.scopes c.in_ok-made.ensures.ready.sound (λ later. p.For (pattern_in c.in_ok-made.made.pattern later) (typed_in c.args.of later) (typed_in c.in_ok-made.made.body later))
    (λ later. seen_For (noted later) c.in_ok-made.made.pattern c.args.of c.in_ok-made.made.body))
