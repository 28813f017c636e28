use Rattle.std.proofs.Common.{◌≤◌, ◌∙◌, [], length, map, ap, refl, sym, subst, arith}
use Rattle.core_ir.specs.Expressions.{Label}
use Rattle.typed_tree.specs.View.{case_view, cases}
use Rattle.elaboration.specs.Checks.{fails}
use Rattle.elaboration.specs.Elaboration.{changed, elaborate_cases}
use Rattle.elaboration.specs.Members.{Elaborated}
use Rattle.elaboration.specs.Scopes.{Scope, beside, inside}
use Rattle.core_layers.specs.Layers.{layered}
use Rattle.core_parts.specs.Making.{IsMade}
use Rattle.core_parts.proofs.Going.{in_any_case, on_ok}
use Rattle.core_cases.proofs.Choosing.{more_cases, no_more_cases}
use Rattle.core_cases.proofs.cases.each_case.Goals as goal

pub loop-case-init : goal.loop-case-init
loop-case-init g c = record {
  made = record { exp = ap (λ ls. layered ls fails (elaborate_cases c.names-level.result c.go_inside.new.self (length c.args.groups.now) (cases (map case_view c.args.cases.now))).exp) c.new-layers.ensures.items; groups = refl };
  places = refl;
  exits = refl;
}

pub loop-case-preserved : goal.loop-case-preserved
loop-case-preserved g c =
    let there = c.in_ok-go_beside-2.ensures ∙ ap (beside 1) c.in_ok-tried.ensures.scope in
    record {
      made = more_cases c.args.cases.now c.loop-case.case-index c.case-item.result c.names-level.result c.loop-case.scope c.go_beside-in-loop-case.new.self
          (elaborate_cases c.names-level.result c.go_inside.new.self (length c.args.groups.now) (cases (map case_view c.args.cases.now))) c.args.groups.now c.loop-case.groups c.one_case.new.groups c.loop-case.layers.items c.in_ok-layers.layers.items c.in_ok-tried.tried
          c.loop-case-test.true c.case-item.is there c.loop-case.invariant.made c.in_ok-tried.ensures.made c.in_ok-layers.ensures;
      places = ap (λ (s : Scope). s.places) there ∙ c.loop-case.invariant.places;
      exits = ap (λ (s : Scope). s.exits) there ∙ c.loop-case.invariant.exits;
    }

pub returns-clause-made : goal.returns-clause-made
returns-clause-made g c =
    let past : length c.args.cases.now ≤ c.loop-case.case-index = omega arith in
    let all = cases (map case_view c.args.cases.now) in
    let there = c.in_ok-go_inside.ensures ∙ ap inside c.in_ok-go_beside.ensures in
    on_ok c.labelled.result c.labelled.ensures (λ made is.
    let Of : Elaborated → Type 0 = λ d. IsMade (changed Label d) c.args.groups.now c.loop-case.groups made in
    subst Of (ap (λ k. elaborate_cases k c.go_inside.new.self (length c.args.groups.now) all) c.names-level.ensures ∙ ap (λ (s : Scope). elaborate_cases c.args.scope.now.names s (length c.args.groups.now) all) there)
    (no_more_cases c.args.cases.now c.loop-case.case-index c.names-level.result c.loop-case.scope (elaborate_cases c.names-level.result c.go_inside.new.self (length c.args.groups.now) all) c.args.groups.now c.loop-case.groups
    c.loop-case.layers.items made past c.loop-case.invariant.made (is ∙ ap (λ e. Label e) (c.in_ok-tries.ensures ∙ ap (λ e. layered c.loop-case.layers.items fails e) c.in_ok-end.ensures))))

pub returns-clause-scope : goal.returns-clause-scope
returns-clause-scope g c =
    let there = c.in_ok-go_inside.ensures ∙ ap inside c.in_ok-go_beside.ensures in
    in_any_case c.labelled.result
    (c.back.ensures.within c.args.scope.now c.mark-mark.ensures (record {
      names = [];
      labels = [];
      places = c.loop-case.invariant.places ∙ ap (λ (s : Scope). s.places) there;
      exits = c.loop-case.invariant.exits ∙ ap (λ (s : Scope). s.exits) there;
    }))
