use Rattle.std.proofs.Common.{◌∙◌, Option, ap, subst}
use Rattle.std.specs.Prelude.{IfSome}
use Rattle.type_terms.specs.declared.form.TermId.{TermId}
use Rattle.typing_rules.specs.AbstractSyntax as p
use Rattle.typing_rules.specs.AbstractSyntax.{Bytes}
use Rattle.type_definitions.specs.Tables.{Within}
use Rattle.met_types.specs.States.{State}
use Rattle.abstract_tree.specs.TreeView.{plain}
use Rattle.value_scopes.specs.Values.{noted}
use Rattle.judging.specs.declared.checker.Checker.{Checker}
use Rattle.judging.specs.Views.{kind_reached, typed_in}
use Rattle.judging.proofs.Chains.{no_memory}
use Rattle.judging.proofs.Forms.{seen_Member}
use Rattle.judging.proofs.Steps.{sound_on, wanting_on}
use Rattle.member_rules.proofs.ValueMembers.{member_found, no_member_found, no_value}
use Rattle.member_rules.proofs.members.value_member.Goals as goal

abbrev met : Checker → State → Checker
met k t = record k { types = t }

pub member_kind-requires-clause-kept : goal.member_kind-requires-clause-kept
member_kind-requires-clause-kept g c = c.in_ok-of.ensures.ready.wanting.kept

pub member_kind-requires-clause-reached : goal.member_kind-requires-clause-reached
member_kind-requires-clause-reached g c = c.in_ok-of.ensures.answer.outcome.holds

pub has-requires-clause-wanting : goal.has-requires-clause-wanting
has-requires-clause-wanting g c =
    wanting_on c.part.new.checker (met c.part.new.checker c.member_kind.new.types) c.args.layer.now.site c.in_ok-of.ensures.ready.wanting c.in_ok-kind.ensures.added.kept c.in_ok-kind.ensures.added.goes

pub has-requires-clause-within : goal.has-requires-clause-within
has-requires-clause-within g c = subst (λ (o : Option TermId). IfSome o (Within c.member_kind.new.types.forms)) c.in-Some.is c.in_ok-kind.ensures.within

pub returns-in_err-of : goal.returns-in_err-of
returns-in_err-of g c =
    no_value c.args.layer.now.site (plain c.args.a.now) c.args.name.now c.args.scopes.now c.args.checker.now c.part.new.scopes c.part.new.checker c.in_err-of.field-0.0 c.from_residual.result c.from_residual.ensures c.in_err-of.ensures.answer

pub returns-in_err-kind : goal.returns-in_err-kind
returns-in_err-kind g c = no_memory typed_in kind_reached _ c.args.scopes.now _ c.args.checker.now _ c.from_residual-in_err-kind.result c.from_residual-in_err-kind.ensures

pub returns-in_err-name-in-Some : goal.returns-in_err-name-in-Some
returns-in_err-name-in-Some g c = no_memory typed_in kind_reached _ c.args.scopes.now _ c.args.checker.now _ c.from_residual-in_err-name-in-Some.result c.from_residual-in_err-name-in-Some.ensures

pub returns-in_ok-name-in-Some : goal.returns-in_ok-name-in-Some
returns-in_ok-name-in-Some g c =
    member_found c.args.layer.now.site (plain c.args.a.now) c.args.name.now c.args.scopes.now c.args.checker.now c.part.new.scopes c.part.new.checker c.in_ok-of.of c.in_ok-of.ensures.answer c.member_kind.new.types c.in_ok-kind.field-0
    c.in_ok-kind.ensures c.in-Some.kind c.in-Some.is c.part.new.scopes c.has.new.checker c.has.result
    (c.has.ensures c.part.new.scopes (sound_on c.part.new.checker c.part.new.scopes c.member_kind.new.types c.in_ok-of.ensures.ready.sound c.in_ok-kind.ensures.added.kept c.in_ok-kind.ensures.added.goes)
    (λ later. p.Member (typed_in c.in_ok-of.of later) c.args.name.now)
    (λ later. seen_Member (noted later) c.in_ok-of.of c.in_ok-name-in-Some.name ∙ ap (λ (z : Bytes). p.Member (typed_in c.in_ok-of.of later) z) c.in_ok-name-in-Some.ensures))

pub returns-in-None : goal.returns-in-None
returns-in-None g c =
    no_member_found c.args.layer.now.site (plain c.args.a.now) c.args.name.now c.args.scopes.now c.args.checker.now c.part.new.scopes c.part.new.checker c.in_ok-of.of c.in_ok-of.ensures.answer c.member_kind.new.types c.in_ok-kind.field-0
    c.in_ok-kind.ensures c.in-None.is
