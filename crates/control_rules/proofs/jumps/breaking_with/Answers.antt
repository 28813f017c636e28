use Rattle.std.proofs.Common.{◌∙◌, Some, ap}
use Rattle.typing_rules.specs.AbstractSyntax as p
use Rattle.typing_rules.specs.AbstractSyntax.{Bytes}
use Rattle.typing_rules.specs.Terms as t
use Rattle.typing_rules.specs.Judgements.{Part}
use Rattle.typing_rules.specs.Ends.{Has}
use Rattle.abstract_tree.specs.TreeView.{plain}
use Rattle.value_scopes.specs.Values.{noted}
use Rattle.judging.specs.Views.{judge, judge_at, kind_reached, typed_in, wanted_in}
use Rattle.judging.proofs.Chains.{no_memory}
use Rattle.judging.proofs.Forms.{seen_BreakWith}
use Rattle.judging.proofs.Steps.{reached_within}
use Rattle.judging.proofs.TypedParts.{part_given, part_refused}
use Rattle.control_rules.proofs.Leaving.{label_given, label_reached, no_label}
use Rattle.control_rules.proofs.jumps.breaking_with.Goals as goal

pub part-requires-clause-wanted : goal.part-requires-clause-wanted
part-requires-clause-wanted g c =
    reached_within c.args.checker.now.types c.in-Some.label.kind c.requires.ready.sound.known.kept
    (label_reached c.args.checker.now.types c.args.scopes.now.labels c.args.name.now c.label_named.result c.in-Some.label c.label_named.ensures c.in-Some.is c.requires.ready.sound.labels)

pub returns-in_err-of-in-Some : goal.returns-in_err-of-in-Some
returns-in_err-of-in-Some g c =
    label_given c.args.layer.now.site c.args.name.now (λ v l. Part (judge_at c.args.layer.now.site.place (plain c.args.a.now) (Some l.type) v) (λ b. Has c.args.layer.now.site.at (wanted_in v c.args.layer.now.site.wanted) t.Bottom (p.BreakWith c.args.name.now b))) c.args.scopes.now c.args.checker.now c.label_named.result c.label_named.ensures c.in-Some.label c.part.new.scopes
    c.part.new.checker c.from_residual.result c.in-Some.is
    (part_refused (judge c.args.layer.now.site.place (plain c.args.a.now) (Some c.in-Some.label.kind)) (λ v b. Has c.args.layer.now.site.at (wanted_in v c.args.layer.now.site.wanted) t.Bottom (p.BreakWith c.args.name.now b))
    c.args.scopes.now c.part.new.scopes c.args.checker.now c.part.new.checker c.in_err-of-in-Some.field-0.0 c.from_residual.result c.from_residual.ensures c.in_err-of-in-Some.ensures.answer)

pub returns-in_err-name-in-Some : goal.returns-in_err-name-in-Some
returns-in_err-name-in-Some g c = no_memory typed_in kind_reached _ c.args.scopes.now _ c.args.checker.now _ c.from_residual-in_err-name-in-Some.result c.from_residual-in_err-name-in-Some.ensures

pub returns-in_ok-name-in-Some : goal.returns-in_ok-name-in-Some
returns-in_ok-name-in-Some g c =
    label_given c.args.layer.now.site c.args.name.now (λ v l. Part (judge_at c.args.layer.now.site.place (plain c.args.a.now) (Some l.type) v) (λ b. Has c.args.layer.now.site.at (wanted_in v c.args.layer.now.site.wanted) t.Bottom (p.BreakWith c.args.name.now b))) c.args.scopes.now c.args.checker.now c.label_named.result c.label_named.ensures c.in-Some.label c.part.new.scopes
    c.has_bottom.new.checker c.has_bottom.result c.in-Some.is
    (part_given (judge c.args.layer.now.site.place (plain c.args.a.now) (Some c.in-Some.label.kind)) (λ v b. Has c.args.layer.now.site.at (wanted_in v c.args.layer.now.site.wanted) t.Bottom (p.BreakWith c.args.name.now b))
    c.args.scopes.now c.part.new.scopes c.part.new.scopes c.args.checker.now c.part.new.checker c.has_bottom.new.checker c.in_ok-of-in-Some.of c.has_bottom.result c.in_ok-of-in-Some.ensures.answer
    (c.has_bottom.ensures c.part.new.scopes c.in_ok-of-in-Some.ensures.ready.sound (λ later. p.BreakWith c.args.name.now (typed_in c.in_ok-of-in-Some.of later))
    (λ later. seen_BreakWith (noted later) c.in_ok-name-in-Some.name c.in_ok-of-in-Some.of ∙ ap (λ (x : Bytes). p.BreakWith x (typed_in c.in_ok-of-in-Some.of later)) c.in_ok-name-in-Some.ensures)))

pub returns-in-None : goal.returns-in-None
returns-in-None g c = no_label c.args.layer.now.site c.args.name.now (λ v l. Part (judge_at c.args.layer.now.site.place (plain c.args.a.now) (Some l.type) v) (λ b. Has c.args.layer.now.site.at (wanted_in v c.args.layer.now.site.wanted) t.Bottom (p.BreakWith c.args.name.now b))) c.args.scopes.now c.args.checker.now c.label_named.result c.label_named.ensures c.in-None.is
