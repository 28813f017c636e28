use Rattle.std.proofs.Common.{◌∙◌, ap}
use Rattle.typing_rules.specs.AbstractSyntax as p
use Rattle.abstract_tree.specs.TreeView.{plain}
use Rattle.value_scopes.specs.Values.{noted}
use Rattle.judging.specs.Views.{kind_reached, typed_in}
use Rattle.judging.proofs.Chains.{no_memory}
use Rattle.judging.proofs.Forms.{seen_Switch}
use Rattle.pattern_rules.specs.Arms.{cases_in}
use Rattle.pattern_rules.proofs.SwitchParts.{kinds, kinds_reached, no_cases, no_value, switch_given}
use Rattle.pattern_rules.proofs.switches.switching.Goals as goal

pub each_case-requires-clause-reached : goal.each_case-requires-clause-reached
each_case-requires-clause-reached g c = c.in_ok-of.ensures.answer.outcome.holds

pub branches-requires-clause-kinds : goal.branches-requires-clause-kinds
branches-requires-clause-kinds g c = kinds_reached c.each_case.new.checker.types c.in_ok-made.made c.as_slice-2.result.now (c.as_slice-2.ensures.value ∙ (c.in_ok-kinds.ensures ∙ ap kinds c.as_slice.ensures)) c.in_ok-made.ensures.answer.outcome.holds

pub returns-in_err-of : goal.returns-in_err-of
returns-in_err-of g c =
    no_value c.args.layer.now.site (plain c.args.a.now) c.args.list.now c.args.scopes.now c.part.new.scopes c.args.checker.now c.part.new.checker c.in_err-of.field-0.0 c.from_residual.result c.from_residual.ensures c.in_err-of.ensures.answer

pub returns-in_err-made : goal.returns-in_err-made
returns-in_err-made g c =
    no_cases c.args.layer.now.site (plain c.args.a.now) c.args.list.now c.args.scopes.now c.part.new.scopes c.args.checker.now c.part.new.checker c.in_ok-of.of c.in_ok-of.ensures.answer c.each_case.new.scopes c.each_case.new.checker
    c.in_err-made.field-0.0 c.from_residual-in_err-made.result c.from_residual-in_err-made.ensures c.in_err-made.ensures.answer

pub returns-in_err-kinds : goal.returns-in_err-kinds
returns-in_err-kinds g c = no_memory typed_in kind_reached _ c.args.scopes.now _ c.args.checker.now _ c.from_residual-in_err-kinds.result c.from_residual-in_err-kinds.ensures

pub returns : goal.returns
returns g c =
    switch_given c.args.layer.now.site (plain c.args.a.now) c.args.list.now c.args.scopes.now c.part.new.scopes c.args.checker.now c.part.new.checker c.in_ok-of.of c.in_ok-of.ensures.answer c.each_case.new.scopes c.each_case.new.checker
    c.branches.new.checker c.in_ok-made.made c.as_slice-2.result.now c.branches.result (c.as_slice-2.ensures.value ∙ (c.in_ok-kinds.ensures ∙ ap kinds c.as_slice.ensures)) c.in_ok-made.ensures.answer
    (c.branches.ensures c.each_case.new.scopes c.in_ok-made.ensures.ready.sound (λ later. p.Switch (typed_in c.in_ok-of.of later) (cases_in c.in_ok-made.made later)) (λ later. seen_Switch (noted later) c.in_ok-of.of c.in_ok-made.made))
