use Rattle.std.proofs.Common.{◌∙◌, ap, sym}
use Rattle.typing_rules.specs.AbstractSyntax as p
use Rattle.typing_rules.specs.AbstractSyntax.{Bytes}
use Rattle.typing_rules.specs.Expressions.{JudgePlace}
use Rattle.abstract_tree.specs.TreeView.{plain, plain_form}
use Rattle.abstract_tree.proofs.TreeViews.{seen_Name, seen_Member, seen_Index}
use Rattle.type_definitions.specs.Definitions.{rules_in}
use Rattle.value_scopes.specs.Places.{context_in}
use Rattle.judging.specs.declared.site.Site.{Site}
use Rattle.judging.specs.Views.{context, definitions}
use Rattle.place_rules.specs.Places.{site_in}
use Rattle.place_rules.proofs.NoPlaces.{no_place}
use Rattle.place_rules.proofs.Placing.{of_form, of_no_form, ready_after, ready_at}
use Rattle.place_rules.proofs.assigning.judge_place.Goals as goal

pub variable-requires-clause-ready : goal.variable-requires-clause-ready
variable-requires-clause-ready g c = ready_at c.args.of.now.note c.args.checker.now c.args.scopes.now c.args.layer.now.site c.site_in-site.result c.requires.ready c.site_in-site.ensures

pub variable-requires-clause-wanted : goal.variable-requires-clause-wanted
variable-requires-clause-wanted g c = ap (λ (z : Site). z.wanted) c.site_in-site.ensures

pub variable_field-requires-clause-wanted : goal.variable_field-requires-clause-wanted
variable_field-requires-clause-wanted g c = ap (λ (z : Site). z.wanted) c.site_in-site.ensures

pub variable_field-requires-clause-returns : goal.variable_field-requires-clause-returns
variable_field-requires-clause-returns g c = ap (λ (z : Site). z.place.returns) c.site_in-site.ensures

pub variable_element-requires-clause-wanted : goal.variable_element-requires-clause-wanted
variable_element-requires-clause-wanted g c = ap (λ (z : Site). z.wanted) c.site_in-site.ensures

pub variable_element-requires-clause-returns : goal.variable_element-requires-clause-returns
variable_element-requires-clause-returns g c = ap (λ (z : Site). z.place.returns) c.site_in-site.ensures

pub returns-in-Name-clause-answer : goal.returns-in-Name-clause-answer
returns-in-Name-clause-answer g c =
    (of_form c.args.layer.now.site.place c.args.of.now c.site_in-site.result (p.Name c.as_slice.result.now) c.args.scopes.now c.args.scopes.now c.args.checker.now c.variable.new.checker c.variable.result c.site_in-site.ensures
    (ap plain_form (sym c.get.ensures ∙ c.in-Name.is) ∙ (seen_Name c.in-Name.name ∙ ap p.Name (sym c.as_slice.ensures))) c.variable.ensures)

pub returns-in-Name-clause-ready : goal.returns-in-Name-clause-ready
returns-in-Name-clause-ready g c =
    ready_after c.args.layer.now.site (λ v. JudgePlace (definitions v) (context v c.args.layer.now.site.place) (plain c.args.of.now)) c.args.scopes.now c.args.scopes.now c.args.checker.now c.variable.new.checker c.variable.result c.requires.ready
    (of_form c.args.layer.now.site.place c.args.of.now c.site_in-site.result (p.Name c.as_slice.result.now) c.args.scopes.now c.args.scopes.now c.args.checker.now c.variable.new.checker c.variable.result c.site_in-site.ensures
    (ap plain_form (sym c.get.ensures ∙ c.in-Name.is) ∙ (seen_Name c.in-Name.name ∙ ap p.Name (sym c.as_slice.ensures))) c.variable.ensures)

pub returns-in-Member-clause-answer : goal.returns-in-Member-clause-answer
returns-in-Member-clause-answer g c =
    (of_form c.args.layer.now.site.place c.args.of.now c.site_in-site.result (p.Member (plain c.in-Member.a) c.as_slice-in-Member.result.now) c.args.scopes.now c.variable_field.new.scopes c.args.checker.now c.variable_field.new.checker c.variable_field.result c.site_in-site.ensures
    (ap plain_form (sym c.get.ensures ∙ c.in-Member.is) ∙ (seen_Member c.in-Member.a c.in-Member.name ∙ ap (λ (z : Bytes). p.Member (plain c.in-Member.a) z) (sym c.as_slice-in-Member.ensures))) c.variable_field.ensures)

pub returns-in-Member-clause-ready : goal.returns-in-Member-clause-ready
returns-in-Member-clause-ready g c =
    ready_after c.args.layer.now.site (λ v. JudgePlace (definitions v) (context v c.args.layer.now.site.place) (plain c.args.of.now)) c.args.scopes.now c.variable_field.new.scopes c.args.checker.now c.variable_field.new.checker c.variable_field.result c.requires.ready
    (of_form c.args.layer.now.site.place c.args.of.now c.site_in-site.result (p.Member (plain c.in-Member.a) c.as_slice-in-Member.result.now) c.args.scopes.now c.variable_field.new.scopes c.args.checker.now c.variable_field.new.checker c.variable_field.result c.site_in-site.ensures
    (ap plain_form (sym c.get.ensures ∙ c.in-Member.is) ∙ (seen_Member c.in-Member.a c.in-Member.name ∙ ap (λ (z : Bytes). p.Member (plain c.in-Member.a) z) (sym c.as_slice-in-Member.ensures))) c.variable_field.ensures)

pub returns-in-Index-clause-answer : goal.returns-in-Index-clause-answer
returns-in-Index-clause-answer g c =
    (of_form c.args.layer.now.site.place c.args.of.now c.site_in-site.result (p.Index (plain c.in-Index.a) (plain c.in-Index.i)) c.args.scopes.now c.variable_element.new.scopes c.args.checker.now c.variable_element.new.checker c.variable_element.result c.site_in-site.ensures
    (ap plain_form (sym c.get.ensures ∙ c.in-Index.is) ∙ (seen_Index c.in-Index.a c.in-Index.i)) c.variable_element.ensures)

pub returns-in-Index-clause-ready : goal.returns-in-Index-clause-ready
returns-in-Index-clause-ready g c =
    ready_after c.args.layer.now.site (λ v. JudgePlace (definitions v) (context v c.args.layer.now.site.place) (plain c.args.of.now)) c.args.scopes.now c.variable_element.new.scopes c.args.checker.now c.variable_element.new.checker c.variable_element.result c.requires.ready
    (of_form c.args.layer.now.site.place c.args.of.now c.site_in-site.result (p.Index (plain c.in-Index.a) (plain c.in-Index.i)) c.args.scopes.now c.variable_element.new.scopes c.args.checker.now c.variable_element.new.checker c.variable_element.result c.site_in-site.ensures
    (ap plain_form (sym c.get.ensures ∙ c.in-Index.is) ∙ (seen_Index c.in-Index.a c.in-Index.i)) c.variable_element.ensures)

pub returns-in_default-clause-answer : goal.returns-in_default-clause-answer
returns-in_default-clause-answer g c =
    of_no_form c.args.layer.now.site.place c.args.of.now c.site_in-site.result.at c.args.scopes.now c.args.checker.now (ap (λ (z : Site). z.at) c.site_in-site.ensures)
    (λ later. no_place c.args.of.now.form (λ x q. c.in_default.not-Name x (c.get.ensures ∙ q)) (λ a x q. c.in_default.not-Member a x (c.get.ensures ∙ q)) (λ a i q. c.in_default.not-Index a i (c.get.ensures ∙ q))
    (rules_in later c.args.checker.now.types.listed) (context_in later c.args.scopes.now (site_in c.args.layer.now.site.place c.args.of.now.note).place) c.args.of.now.note)
