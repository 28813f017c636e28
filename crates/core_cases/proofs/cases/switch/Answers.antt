use Rattle.std.proofs.Common.{length, map, sym, subst, ◌+◌, ◌∙◌}
use Rattle.typed_tree.specs.View.{case_view, cases, expression}
use Rattle.elaboration.specs.Elaboration.{elaborate}
use Rattle.elaboration.specs.Members.{Elaborated, let_in}
use Rattle.elaboration.specs.Scopes.{Scope}
use Rattle.core_parts.specs.Making.{IsMade, cases_under}
use Rattle.core_parts.proofs.Going.{in_any_case, on_ok, two_made}
use Rattle.core_cases.proofs.Choosing.{switch_is}
use Rattle.core_cases.proofs.cases.switch.Goals as goal

pub returns-clause-made : goal.returns-clause-made
returns-clause-made g c =
    let s : Scope = c.args.scope.now in
    let all = cases (map case_view c.args.cases.now) in
    let To : Scope → Type 0 = λ t. IsMade (cases_under t (length c.part.new.groups) all) c.part.new.groups c.under_value_of.new.groups c.in_ok-rest.rest in
    on_ok c.let_in.result c.let_in.ensures (λ made is.
    let Of : Elaborated → Type 0 = λ d. IsMade d c.args.groups.now c.under_value_of.new.groups made in
    subst Of (sym (switch_is s (length c.args.groups.now) (expression c.args.of.now) all))
    (two_made let_in (elaborate s (length c.args.groups.now) (expression c.args.of.now)) (λ n. cases_under s n all) c.args.groups.now c.part.new.groups c.under_value_of.new.groups c.in_ok-value.value c.in_ok-rest.rest made
    c.in_ok-value.ensures.made (subst To c.in_ok-value.ensures.scope c.in_ok-rest.ensures.made) is))

pub returns-clause-scope : goal.returns-clause-scope
returns-clause-scope g c = in_any_case c.let_in.result (c.in_ok-rest.ensures.scope ∙ c.in_ok-value.ensures.scope)
