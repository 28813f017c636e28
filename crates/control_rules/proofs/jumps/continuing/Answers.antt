use Rattle.std.proofs.Common.{◌∙◌, ap}
use Rattle.typing_rules.specs.AbstractSyntax as p
use Rattle.typing_rules.specs.declared.condition.Condition.TheVariants as condition
use Rattle.typing_rules.specs.Terms as t
use Rattle.typing_rules.specs.Judgements.{Tests}
use Rattle.typing_rules.specs.Ends.{Has}
use Rattle.type_judgements.specs.declared.refusal.Refusal.TheVariants as refusal
use Rattle.std.proofs.Common.{Err}
use Rattle.value_scopes.specs.Values.{noted}
use Rattle.judging.specs.Views.{kind_reached, typed_in, wanted_in}
use Rattle.judging.proofs.Cases.{tests_fail, tests_hold}
use Rattle.judging.proofs.Chains.{no_memory}
use Rattle.judging.proofs.Forms.{seen_Continue}
use Rattle.control_rules.proofs.Leaving.{label_given, no_label}
use Rattle.control_rules.proofs.jumps.continuing.Goals as goal

pub returns-in_err-copied-in-Some : goal.returns-in_err-copied-in-Some
returns-in_err-copied-in-Some c = no_memory typed_in kind_reached _ c.args.scopes.now c.args.scopes.now c.args.checker.now c.args.checker.now c.from_residual.result c.from_residual.ensures

pub returns-in_ok-copied-in-Some : goal.returns-in_ok-copied-in-Some
returns-in_ok-copied-in-Some c =
    label_given c.args.site.now c.args.name.now (λ v l. Tests condition.BadLabel c.args.site.now.at l.loop (Has c.args.site.now.at (wanted_in v c.args.site.now.wanted) t.Bottom (p.Continue c.args.name.now))) c.args.scopes.now c.args.checker.now c.label_named.result c.label_named.ensures c.in-Some.label
    c.args.scopes.now c.has_bottom.new.checker c.has_bottom.result c.in-Some.is
    (tests_hold typed_in kind_reached condition.BadLabel c.args.site.now.at c.in-Some.label.is_loop (λ v. Has c.args.site.now.at (wanted_in v c.args.site.now.wanted) t.Bottom (p.Continue c.args.name.now))
    c.args.scopes.now c.args.scopes.now c.args.checker.now c.has_bottom.new.checker c.has_bottom.result c.if-label.true
    (c.has_bottom.ensures c.args.scopes.now c.requires.sound (λ later. p.Continue c.args.name.now) (λ later. seen_Continue (noted later) c.in_ok-copied-in-Some.field-0 ∙ ap p.Continue c.in_ok-copied-in-Some.ensures)))

pub returns-else-label : goal.returns-else-label
returns-else-label c =
    label_given c.args.site.now c.args.name.now (λ v l. Tests condition.BadLabel c.args.site.now.at l.loop (Has c.args.site.now.at (wanted_in v c.args.site.now.wanted) t.Bottom (p.Continue c.args.name.now))) c.args.scopes.now c.args.checker.now c.label_named.result c.label_named.ensures c.in-Some.label
    c.args.scopes.now c.args.checker.now (Err (refusal.False c.args.site.now.at condition.BadLabel)) c.in-Some.is
    (tests_fail typed_in kind_reached condition.BadLabel c.args.site.now.at c.in-Some.label.is_loop (λ v. Has c.args.site.now.at (wanted_in v c.args.site.now.wanted) t.Bottom (p.Continue c.args.name.now)) c.args.scopes.now c.args.checker.now c.if-label.false)

pub returns-in-None : goal.returns-in-None
returns-in-None c = no_label c.args.site.now c.args.name.now (λ v l. Tests condition.BadLabel c.args.site.now.at l.loop (Has c.args.site.now.at (wanted_in v c.args.site.now.wanted) t.Bottom (p.Continue c.args.name.now))) c.args.scopes.now c.args.checker.now c.label_named.result c.label_named.ensures c.in-None.is
