use Rattle.std.proofs.Common.{◌∙◌, List, ap, ℕ}
use Rattle.typing_rules.specs.AbstractSyntax as p
use Rattle.abstract_tree.specs.TreeView.{plain}
use Rattle.value_scopes.specs.Values.{noted}
use Rattle.judging.specs.Views.{kind_reached, typed_in}
use Rattle.judging.proofs.Chains.{no_memory}
use Rattle.judging.proofs.Forms.{seen_Tagged}
use Rattle.judging.proofs.Steps.{reached_within}
use Rattle.data_rules.proofs.ByVariant.{tagged_has, tagged_refused}
use Rattle.data_rules.proofs.variants.tagged_gives.Goals as goal

pub has_tag-requires-clause-part : goal.has_tag-requires-clause-part
has_tag-requires-clause-part g c = reached_within c.part.new.checker.types c.in_ok-of.of.note.kind c.in_ok-of.ensures.ready.sound.known.kept c.in_ok-of.ensures.answer.outcome.holds

pub returns-in_err-of : goal.returns-in_err-of
returns-in_err-of g c =
    tagged_refused c.args.layer.now.site c.args.name.now (plain c.args.a.now) c.args.scopes.now c.part.new.scopes c.args.checker.now c.part.new.checker c.in_err-of.field-0.0 c.from_residual.result c.from_residual.ensures c.in_err-of.ensures.answer

pub returns-in_err-copy : goal.returns-in_err-copy
returns-in_err-copy g c = no_memory typed_in kind_reached _ c.args.scopes.now _ c.args.checker.now _ c.from_residual-in_err-copy.result c.from_residual-in_err-copy.ensures

pub returns : goal.returns
returns g c =
    tagged_has c.args.layer.now.site c.args.name.now (plain c.args.a.now) c.args.scopes.now c.part.new.scopes c.args.checker.now c.part.new.checker c.has_tag.new.checker c.in_ok-of.of c.has_tag.result c.in_ok-of.ensures.answer
    (c.has_tag.ensures c.part.new.scopes c.in_ok-of.ensures.ready.sound (λ later. p.Tagged c.args.name.now (typed_in c.in_ok-of.of later))
    (λ later. seen_Tagged (noted later) c.in_ok-copy.copy c.in_ok-of.of ∙ ap (λ (y : List ℕ). p.Tagged y (typed_in c.in_ok-of.of later)) c.in_ok-copy.ensures))
