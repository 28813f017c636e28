use Rattle.std.proofs.lemmas.List.{take_more}
use Rattle.std.proofs.Common.{◌∷◌, ◌++◌, [], ℕ, ap, map, refl, subst, sym, take, ◌∙◌}
use Rattle.abstract_types.specs.PatternView.{plain_signature}
use Rattle.abstract_types.specs.TypeView.{named}
use Rattle.abstract_tree.specs.declared.declarations.Declaration.{Declaration}
use Rattle.abstract_tree.specs.declared.expressions.Case.{Case}
use Rattle.abstract_tree.specs.declared.expressions.Expression.{Expression}
use Rattle.abstract_tree.specs.declared.expressions.ObjectField.{ObjectField}
use Rattle.abstract_tree.specs.TreeView.{cases, declarations, listed, plain, plain_case, plain_declaration, plain_declaration_form}
use Rattle.abstract_tree.proofs.TreeViews as V
use Rattle.typing_rules.specs.DeclaredTypes.{with_list, within}
use Rattle.typing_rules.specs.Gathered.{both, in_cases, in_declaration, in_each, in_expression, in_list, nothing}
use Rattle.typing_rules.specs.TypeScopes.{TypeScope}
use Rattle.type_scopes.specs.Scopes.{Names, seen}
use Rattle.gathered_types.specs.Finding.{Finds, class_head}
use Rattle.gathered_types.proofs.Defining.{class_walked, function_found, scope_back}
use Rattle.gathered_types.proofs.Finding.{all_found, finds_as, finds_none, first_found, found_in, if_finds_as, next_found, stays, then_finds}
use Rattle.gathered_types.proofs.Walking.{by_declaration, by_parts, cases_are, class_declared, each_are, fields_are, list_is}
use Rattle.gathered_types.proofs.walk.+walk.Goals as goal

pub find_expression-returns-in-Nothing-clause-found : goal.find_expression-returns-in-Nothing-clause-found
find_expression-returns-in-Nothing-clause-found t c = finds_as c.args.types.now c.args.types.now nothing _ c.args.found.now c.args.found.now (by_parts (seen c.args.scope.now) c.args.a.now _ _ _ c.get.ensures c.parts_of_form.ensures c.in-Nothing.is) (finds_none c.args.types.now c.args.found.now c.requires)

pub find_expression-returns-in-One-clause-found : goal.find_expression-returns-in-One-clause-found
find_expression-returns-in-One-clause-found t c = if_finds_as c.args.types.now c.find_expression.new.types _ _ c.args.found.now c.find_expression.new.found c.find_expression.result (by_parts (seen c.args.scope.now) c.args.a.now _ _ _ c.get.ensures c.parts_of_form.ensures c.in-One.is) c.find_expression.ensures.found

pub find_expression-returns-in_ok-find_expression-in-Two-clause-found : goal.find_expression-returns-in_ok-find_expression-in-Two-clause-found
find_expression-returns-in_ok-find_expression-in-Two-clause-found t c = then_finds c.args.scope.now c.find_expression-in-Two.new.scope c.args.types.now c.find_expression-in-Two.new.types c.find_expression-in-Two-2.new.types (in_expression (seen c.args.scope.now) (plain c.in-Two.first.now)) _ (λ (s : TypeScope). in_expression s (plain c.in-Two.last.now)) c.args.found.now c.find_expression-in-Two.new.found c.find_expression-in-Two-2.new.found c.find_expression-in-Two-2.result c.in_ok-find_expression-in-Two.ensures.scope (by_parts (seen c.args.scope.now) c.args.a.now _ _ _ c.get.ensures c.parts_of_form.ensures c.in-Two.is) c.in_ok-find_expression-in-Two.ensures.found c.find_expression-in-Two-2.ensures.found

pub find_expression-returns-in_ok-find_expression-in-Two-clause-scope : goal.find_expression-returns-in_ok-find_expression-in-Two-clause-scope
find_expression-returns-in_ok-find_expression-in-Two-clause-scope t c = stays c.args.scope.now c.find_expression-in-Two.new.scope c.find_expression-in-Two-2.new.scope c.find_expression-in-Two-2.result c.in_ok-find_expression-in-Two.ensures.scope c.find_expression-in-Two-2.ensures.scope

pub find_expression-returns-in_ok-find_expression-in-Three-2-clause-found : goal.find_expression-returns-in_ok-find_expression-in-Three-2-clause-found
find_expression-returns-in_ok-find_expression-in-Three-2-clause-found t c = then_finds c.args.scope.now c.find_expression-in-Three.new.scope c.args.types.now c.find_expression-in-Three.new.types c.find_expression-in-Three-3.new.types (in_expression (seen c.args.scope.now) (plain c.in-Three.first.now)) _ (λ (s : TypeScope). both (in_expression s (plain c.in-Three.middle.now)) (in_expression s (plain c.in-Three.last.now))) c.args.found.now c.find_expression-in-Three.new.found c.find_expression-in-Three-3.new.found c.find_expression-in-Three-3.result c.in_ok-find_expression-in-Three.ensures.scope (by_parts (seen c.args.scope.now) c.args.a.now _ _ _ c.get.ensures c.parts_of_form.ensures c.in-Three.is) c.in_ok-find_expression-in-Three.ensures.found
    (then_finds c.find_expression-in-Three.new.scope c.find_expression-in-Three-2.new.scope c.find_expression-in-Three.new.types c.find_expression-in-Three-2.new.types c.find_expression-in-Three-3.new.types (in_expression (seen c.find_expression-in-Three.new.scope) (plain c.in-Three.middle.now)) _ (λ (s : TypeScope). in_expression s (plain c.in-Three.last.now)) c.find_expression-in-Three.new.found c.find_expression-in-Three-2.new.found c.find_expression-in-Three-3.new.found c.find_expression-in-Three-3.result c.in_ok-find_expression-in-Three-2.ensures.scope refl c.in_ok-find_expression-in-Three-2.ensures.found c.find_expression-in-Three-3.ensures.found)

pub find_expression-returns-in_ok-find_expression-in-Three-2-clause-scope : goal.find_expression-returns-in_ok-find_expression-in-Three-2-clause-scope
find_expression-returns-in_ok-find_expression-in-Three-2-clause-scope t c = stays c.args.scope.now c.find_expression-in-Three-2.new.scope c.find_expression-in-Three-3.new.scope c.find_expression-in-Three-3.result (c.in_ok-find_expression-in-Three-2.ensures.scope ∙ c.in_ok-find_expression-in-Three.ensures.scope) c.find_expression-in-Three-3.ensures.scope

pub find_expression-returns-in-Each-clause-found : goal.find_expression-returns-in-Each-clause-found
find_expression-returns-in-Each-clause-found t c = if_finds_as c.args.types.now c.find_each.new.types _ _ c.args.found.now c.find_each.new.found c.find_each.result (by_parts (seen c.args.scope.now) c.args.a.now _ _ _ c.get.ensures c.parts_of_form.ensures c.in-Each.is) c.find_each.ensures.found

pub find_expression-returns-in-Fields-clause-found : goal.find_expression-returns-in-Fields-clause-found
find_expression-returns-in-Fields-clause-found t c = if_finds_as c.args.types.now c.find_fields.new.types _ _ c.args.found.now c.find_fields.new.found c.find_fields.result (by_parts (seen c.args.scope.now) c.args.a.now _ _ _ c.get.ensures c.parts_of_form.ensures c.in-Fields.is) c.find_fields.ensures.found

pub find_expression-returns-in-Annotated-clause-found : goal.find_expression-returns-in-Annotated-clause-found
find_expression-returns-in-Annotated-clause-found t c = if_finds_as c.args.types.now c.find_expression-in-Annotated.new.types _ _ c.args.found.now c.find_expression-in-Annotated.new.found c.find_expression-in-Annotated.result (by_parts (seen c.args.scope.now) c.args.a.now _ _ _ c.get.ensures c.parts_of_form.ensures c.in-Annotated.is) c.find_expression-in-Annotated.ensures.found

pub find_expression-returns-in_ok-find_expression-in-Call-clause-found : goal.find_expression-returns-in_ok-find_expression-in-Call-clause-found
find_expression-returns-in_ok-find_expression-in-Call-clause-found t c = then_finds c.args.scope.now c.find_expression-in-Call.new.scope c.args.types.now c.find_expression-in-Call.new.types c.find_each-in-Call.new.types (in_expression (seen c.args.scope.now) (plain c.in-Call.of.now)) _ (λ (s : TypeScope). in_each s (listed (map plain c.in-Call.arguments.now))) c.args.found.now c.find_expression-in-Call.new.found c.find_each-in-Call.new.found c.find_each-in-Call.result c.in_ok-find_expression-in-Call.ensures.scope (by_parts (seen c.args.scope.now) c.args.a.now _ _ _ c.get.ensures c.parts_of_form.ensures c.in-Call.is) c.in_ok-find_expression-in-Call.ensures.found c.find_each-in-Call.ensures.found

pub find_expression-returns-in_ok-find_expression-in-Call-clause-scope : goal.find_expression-returns-in_ok-find_expression-in-Call-clause-scope
find_expression-returns-in_ok-find_expression-in-Call-clause-scope t c = stays c.args.scope.now c.find_expression-in-Call.new.scope c.find_each-in-Call.new.scope c.find_each-in-Call.result c.in_ok-find_expression-in-Call.ensures.scope c.find_each-in-Call.ensures.scope

pub find_expression-returns-in_ok-find_expression-in-Switch-clause-found : goal.find_expression-returns-in_ok-find_expression-in-Switch-clause-found
find_expression-returns-in_ok-find_expression-in-Switch-clause-found t c = then_finds c.args.scope.now c.find_expression-in-Switch.new.scope c.args.types.now c.find_expression-in-Switch.new.types c.find_cases.new.types (in_expression (seen c.args.scope.now) (plain c.in-Switch.of.now)) _ (λ (s : TypeScope). in_cases s (cases (map plain_case c.in-Switch.list.now))) c.args.found.now c.find_expression-in-Switch.new.found c.find_cases.new.found c.find_cases.result c.in_ok-find_expression-in-Switch.ensures.scope (by_parts (seen c.args.scope.now) c.args.a.now _ _ _ c.get.ensures c.parts_of_form.ensures c.in-Switch.is) c.in_ok-find_expression-in-Switch.ensures.found c.find_cases.ensures.found

pub find_expression-returns-in_ok-find_expression-in-Switch-clause-scope : goal.find_expression-returns-in_ok-find_expression-in-Switch-clause-scope
find_expression-returns-in_ok-find_expression-in-Switch-clause-scope t c = stays c.args.scope.now c.find_expression-in-Switch.new.scope c.find_cases.new.scope c.find_cases.result c.in_ok-find_expression-in-Switch.ensures.scope c.find_cases.ensures.scope

pub find_expression-returns-in_ok-find_expression-in-WithPattern-clause-found : goal.find_expression-returns-in_ok-find_expression-in-WithPattern-clause-found
find_expression-returns-in_ok-find_expression-in-WithPattern-clause-found t c = then_finds c.args.scope.now c.find_expression-in-WithPattern.new.scope c.args.types.now c.find_expression-in-WithPattern.new.types c.find_expression-in-WithPattern-2.new.types (in_expression (seen c.args.scope.now) (plain c.in-WithPattern.first.now)) _ (λ (s : TypeScope). in_expression s (plain c.in-WithPattern.last.now)) c.args.found.now c.find_expression-in-WithPattern.new.found c.find_expression-in-WithPattern-2.new.found c.find_expression-in-WithPattern-2.result c.in_ok-find_expression-in-WithPattern.ensures.scope (by_parts (seen c.args.scope.now) c.args.a.now _ _ _ c.get.ensures c.parts_of_form.ensures c.in-WithPattern.is) c.in_ok-find_expression-in-WithPattern.ensures.found c.find_expression-in-WithPattern-2.ensures.found

pub find_expression-returns-in_ok-find_expression-in-WithPattern-clause-scope : goal.find_expression-returns-in_ok-find_expression-in-WithPattern-clause-scope
find_expression-returns-in_ok-find_expression-in-WithPattern-clause-scope t c = stays c.args.scope.now c.find_expression-in-WithPattern.new.scope c.find_expression-in-WithPattern-2.new.scope c.find_expression-in-WithPattern-2.result c.in_ok-find_expression-in-WithPattern.ensures.scope c.find_expression-in-WithPattern-2.ensures.scope

pub find_expression-returns-in-Labelled-clause-found : goal.find_expression-returns-in-Labelled-clause-found
find_expression-returns-in-Labelled-clause-found t c = if_finds_as c.args.types.now c.find_expression-in-Labelled.new.types _ _ c.args.found.now c.find_expression-in-Labelled.new.found c.find_expression-in-Labelled.result (by_parts (seen c.args.scope.now) c.args.a.now _ _ _ c.get.ensures c.parts_of_form.ensures c.in-Labelled.is) c.find_expression-in-Labelled.ensures.found

pub find_expression-returns-in-Declared-clause-found : goal.find_expression-returns-in-Declared-clause-found
find_expression-returns-in-Declared-clause-found t c = if_finds_as c.args.types.now c.find_block.new.types _ _ c.args.found.now c.find_block.new.found c.find_block.result (by_parts (seen c.args.scope.now) c.args.a.now _ _ _ c.get.ensures c.parts_of_form.ensures c.in-Declared.is) c.find_block.ensures.found

pub find_expression-returns-in-Function-clause-found : goal.find_expression-returns-in-Function-clause-found
find_expression-returns-in-Function-clause-found t c = if_finds_as c.args.types.now c.find_function.new.types _ _ c.args.found.now c.find_function.new.found c.find_function.result (by_parts (seen c.args.scope.now) c.args.a.now _ _ _ c.get.ensures c.parts_of_form.ensures c.in-Function.is) c.find_function.ensures.found

pub find_expression-returns-in-Subsumed-clause-found : goal.find_expression-returns-in-Subsumed-clause-found
find_expression-returns-in-Subsumed-clause-found t c = if_finds_as c.args.types.now c.find_expression-in-Subsumed.new.types _ _ c.args.found.now c.find_expression-in-Subsumed.new.found c.find_expression-in-Subsumed.result (by_parts (seen c.args.scope.now) c.args.a.now _ _ _ c.get.ensures c.parts_of_form.ensures c.in-Subsumed.is) c.find_expression-in-Subsumed.ensures.found

pub find_each-loop-one-init : goal.find_each-loop-one-init
find_each-loop-one-init t c = record { found = first_found (λ (x : Expression ℕ). in_expression (seen c.args.scope.now) (plain x)) c.args.types.now c.args.items.now c.args.found.now c.requires; scope = refl }

pub find_each-loop-one-preserved : goal.find_each-loop-one-preserved
find_each-loop-one-preserved t c = record {
  found = next_found (λ (x : Expression ℕ). in_expression (seen c.args.scope.now) (plain x)) c.args.types.now c.loop-one.types c.find_expression.new.types c.args.items.now c.loop-one.one-index c.one-item.result c.args.found.now c.loop-one.found c.find_expression.new.found
      (take_more c.args.items.now c.loop-one.one-index c.one-item.result c.loop-one-test.true ∙ ap (λ (n : Expression ℕ). take c.loop-one.one-index c.args.items.now ++ n ∷ []) (sym c.one-item.is)) c.loop-one.invariant.found
      (subst (λ (s : Names). Finds c.loop-one.types c.find_expression.new.types (in_expression (seen s) (plain c.one-item.result)) c.loop-one.found c.find_expression.new.found) c.loop-one.invariant.scope c.in_ok-find_expression.ensures.found);
  scope = c.in_ok-find_expression.ensures.scope ∙ c.loop-one.invariant.scope;
}

pub find_each-returns-clause-found : goal.find_each-returns-clause-found
find_each-returns-clause-found t c = all_found (λ (x : Expression ℕ). in_expression (seen c.args.scope.now) (plain x)) c.args.types.now c.loop-one.types _ c.args.items.now c.loop-one.one-index c.args.found.now c.loop-one.found c.loop-one-test.false (each_are (seen c.args.scope.now) c.args.items.now) c.loop-one.invariant.found

pub find_each-returns-clause-scope : goal.find_each-returns-clause-scope
find_each-returns-clause-scope t c = c.loop-one.invariant.scope

pub find_cases-loop-one-init : goal.find_cases-loop-one-init
find_cases-loop-one-init t c = record { found = first_found (λ (x : Case ℕ). in_expression (seen c.args.scope.now) (plain x.body)) c.args.types.now c.args.list.now c.args.found.now c.requires; scope = refl }

pub find_cases-loop-one-preserved : goal.find_cases-loop-one-preserved
find_cases-loop-one-preserved t c = record {
  found = next_found (λ (x : Case ℕ). in_expression (seen c.args.scope.now) (plain x.body)) c.args.types.now c.loop-one.types c.find_expression.new.types c.args.list.now c.loop-one.one-index c.one-item.result c.args.found.now c.loop-one.found c.find_expression.new.found
      (take_more c.args.list.now c.loop-one.one-index c.one-item.result c.loop-one-test.true ∙ ap (λ (n : Case ℕ). take c.loop-one.one-index c.args.list.now ++ n ∷ []) (sym c.one-item.is)) c.loop-one.invariant.found
      (subst (λ (s : Names). Finds c.loop-one.types c.find_expression.new.types (in_expression (seen s) (plain c.one-item.result.body)) c.loop-one.found c.find_expression.new.found) c.loop-one.invariant.scope c.in_ok-find_expression.ensures.found);
  scope = c.in_ok-find_expression.ensures.scope ∙ c.loop-one.invariant.scope;
}

pub find_cases-returns-clause-found : goal.find_cases-returns-clause-found
find_cases-returns-clause-found t c = all_found (λ (x : Case ℕ). in_expression (seen c.args.scope.now) (plain x.body)) c.args.types.now c.loop-one.types _ c.args.list.now c.loop-one.one-index c.args.found.now c.loop-one.found c.loop-one-test.false (cases_are (seen c.args.scope.now) c.args.list.now) c.loop-one.invariant.found

pub find_cases-returns-clause-scope : goal.find_cases-returns-clause-scope
find_cases-returns-clause-scope t c = c.loop-one.invariant.scope

pub find_fields-loop-one-init : goal.find_fields-loop-one-init
find_fields-loop-one-init t c = record { found = first_found (λ (x : ObjectField ℕ). in_expression (seen c.args.scope.now) (plain x.value)) c.args.types.now c.args.list.now c.args.found.now c.requires; scope = refl }

pub find_fields-loop-one-preserved : goal.find_fields-loop-one-preserved
find_fields-loop-one-preserved t c = record {
  found = next_found (λ (x : ObjectField ℕ). in_expression (seen c.args.scope.now) (plain x.value)) c.args.types.now c.loop-one.types c.find_expression.new.types c.args.list.now c.loop-one.one-index c.one-item.result c.args.found.now c.loop-one.found c.find_expression.new.found
      (take_more c.args.list.now c.loop-one.one-index c.one-item.result c.loop-one-test.true ∙ ap (λ (n : ObjectField ℕ). take c.loop-one.one-index c.args.list.now ++ n ∷ []) (sym c.one-item.is)) c.loop-one.invariant.found
      (subst (λ (s : Names). Finds c.loop-one.types c.find_expression.new.types (in_expression (seen s) (plain c.one-item.result.value)) c.loop-one.found c.find_expression.new.found) c.loop-one.invariant.scope c.in_ok-find_expression.ensures.found);
  scope = c.in_ok-find_expression.ensures.scope ∙ c.loop-one.invariant.scope;
}

pub find_fields-returns-clause-found : goal.find_fields-returns-clause-found
find_fields-returns-clause-found t c = all_found (λ (x : ObjectField ℕ). in_expression (seen c.args.scope.now) (plain x.value)) c.args.types.now c.loop-one.types _ c.args.list.now c.loop-one.one-index c.args.found.now c.loop-one.found c.loop-one-test.false (fields_are (seen c.args.scope.now) c.args.list.now) c.loop-one.invariant.found

pub find_fields-returns-clause-scope : goal.find_fields-returns-clause-scope
find_fields-returns-clause-scope t c = c.loop-one.invariant.scope

pub find_list-loop-one-init : goal.find_list-loop-one-init
find_list-loop-one-init t c = record { found = first_found (λ (x : Declaration ℕ). in_declaration (seen c.args.scope.now) (plain_declaration_form x.form)) c.args.types.now c.args.list.now c.args.found.now c.requires; scope = refl }

pub find_list-loop-one-preserved : goal.find_list-loop-one-preserved
find_list-loop-one-preserved t c = record {
  found = next_found (λ (x : Declaration ℕ). in_declaration (seen c.args.scope.now) (plain_declaration_form x.form)) c.args.types.now c.loop-one.types c.find_declaration.new.types c.args.list.now c.loop-one.one-index c.one-item.result c.args.found.now c.loop-one.found c.find_declaration.new.found
      (take_more c.args.list.now c.loop-one.one-index c.one-item.result c.loop-one-test.true ∙ ap (λ (n : Declaration ℕ). take c.loop-one.one-index c.args.list.now ++ n ∷ []) (sym c.one-item.is)) c.loop-one.invariant.found
      (subst (λ (s : Names). Finds c.loop-one.types c.find_declaration.new.types (in_declaration (seen s) (plain_declaration_form c.one-item.result.form)) c.loop-one.found c.find_declaration.new.found) c.loop-one.invariant.scope (rw c.get.ensures at c.in_ok-find_declaration.ensures.found));
  scope = c.in_ok-find_declaration.ensures.scope ∙ c.loop-one.invariant.scope;
}

pub find_list-returns-clause-found : goal.find_list-returns-clause-found
find_list-returns-clause-found t c = all_found (λ (x : Declaration ℕ). in_declaration (seen c.args.scope.now) (plain_declaration_form x.form)) c.args.types.now c.loop-one.types _ c.args.list.now c.loop-one.one-index c.args.found.now c.loop-one.found c.loop-one-test.false (list_is (seen c.args.scope.now) c.args.list.now) c.loop-one.invariant.found

pub find_list-returns-clause-scope : goal.find_list-returns-clause-scope
find_list-returns-clause-scope t c = c.loop-one.invariant.scope

pub find_block-returns-clause-found : goal.find_block-returns-clause-found
find_block-returns-clause-found t c = found_in c.args.types.now c.find_list.new.types (λ (s : TypeScope). in_list s (declarations (map plain_declaration c.args.list.now))) (seen c.push_list.new.scope) (with_list (seen c.args.scope.now) (declarations (map plain_declaration c.args.list.now))) c.args.found.now c.find_list.new.found
    c.in_ok-push_list.ensures.seen c.in_ok-find_list.ensures.found

pub find_block-returns-clause-scope : goal.find_block-returns-clause-scope
find_block-returns-clause-scope t c = c.truncate.ensures ∙ scope_back c.args.scope.now c.push_list.new.scope c.find_list.new.scope c.len-len.result c.len-len.ensures.names c.len-len.ensures.declared c.in_ok-push_list.ensures.extends c.in_ok-find_list.ensures.scope

pub find_function-returns-clause-found : goal.find_function-returns-clause-found
find_function-returns-clause-found t c = function_found (seen c.args.scope.now) (seen c.enter_generics.new.scope) (plain_signature c.args.signature.now) (plain c.args.body.now) c.args.types.now c.enter_generics.new.types c.find_expression.new.types c.args.found.now c.enter_generics.new.found c.find_expression.new.found
    (rw c.as_slice.ensures at c.in_ok-enter_generics.ensures.seen) (rw c.as_slice.ensures at c.in_ok-enter_generics.ensures.found) c.in_ok-find_expression.ensures.found

pub find_function-returns-clause-scope : goal.find_function-returns-clause-scope
find_function-returns-clause-scope t c = c.truncate.ensures ∙ scope_back c.args.scope.now c.enter_generics.new.scope c.find_expression.new.scope c.len-len.result c.len-len.ensures.names c.len-len.ensures.declared c.in_ok-enter_generics.ensures.extends c.in_ok-find_expression.ensures.scope

pub find_class-returns-clause-found : goal.find_class-returns-clause-found
find_class-returns-clause-found t c = class_walked (seen c.args.scope.now) (seen c.enter_class.new.scope) (class_head (seen c.args.scope.now) (named c.args.name.now) (plain_signature c.args.signature.now) (declarations (map plain_declaration c.args.list.now))) (declarations (map plain_declaration c.args.list.now)) (with_list (within (seen c.args.scope.now) (plain_signature c.args.signature.now)) (declarations (map plain_declaration c.args.list.now)))
    c.args.types.now c.enter_class.new.types c.find_list.new.types c.args.found.now c.enter_class.new.found c.find_list.new.found c.in_ok-enter_class.ensures.seen c.in_ok-enter_class.ensures.found c.in_ok-find_list.ensures.found

pub find_class-returns-clause-scope : goal.find_class-returns-clause-scope
find_class-returns-clause-scope t c = c.truncate.ensures ∙ scope_back c.args.scope.now c.enter_class.new.scope c.find_list.new.scope c.len-len.result c.len-len.ensures.names c.len-len.ensures.declared c.in_ok-enter_class.ensures.extends c.in_ok-find_list.ensures.scope

pub find_declaration-returns-in-Let-clause-found : goal.find_declaration-returns-in-Let-clause-found
find_declaration-returns-in-Let-clause-found t c = if_finds_as c.args.types.now c.find_expression.new.types _ _ c.args.found.now c.find_expression.new.found c.find_expression.result (by_declaration (seen c.args.scope.now) c.args.form.now _ _ c.in-Let.is (V.seen_Let _ _)) c.find_expression.ensures.found

pub find_declaration-returns-in-Var-clause-found : goal.find_declaration-returns-in-Var-clause-found
find_declaration-returns-in-Var-clause-found t c = if_finds_as c.args.types.now c.find_expression-in-Var.new.types _ _ c.args.found.now c.find_expression-in-Var.new.found c.find_expression-in-Var.result (by_declaration (seen c.args.scope.now) c.args.form.now _ _ c.in-Var.is (V.seen_Var _ _ _ _)) c.find_expression-in-Var.ensures.found

pub find_declaration-returns-in-Func-clause-found : goal.find_declaration-returns-in-Func-clause-found
find_declaration-returns-in-Func-clause-found t c = if_finds_as c.args.types.now c.find_function.new.types _ _ c.args.found.now c.find_function.new.found c.find_function.result (by_declaration (seen c.args.scope.now) c.args.form.now _ _ c.in-Func.is (V.seen_Func _ _ _)) c.find_function.ensures.found

pub find_declaration-returns-in-Method-clause-found : goal.find_declaration-returns-in-Method-clause-found
find_declaration-returns-in-Method-clause-found t c = if_finds_as c.args.types.now c.find_expression-in-Method.new.types _ _ c.args.found.now c.find_expression-in-Method.new.found c.find_expression-in-Method.result (by_declaration (seen c.args.scope.now) c.args.form.now _ _ c.in-Method.is (V.seen_Method _ _ _ _ _)) c.find_expression-in-Method.ensures.found

pub find_declaration-returns-in-System-clause-found : goal.find_declaration-returns-in-System-clause-found
find_declaration-returns-in-System-clause-found t c = if_finds_as c.args.types.now c.find_expression-in-System.new.types _ _ c.args.found.now c.find_expression-in-System.new.found c.find_expression-in-System.result (by_declaration (seen c.args.scope.now) c.args.form.now _ _ c.in-System.is (V.seen_System _ _)) c.find_expression-in-System.ensures.found

pub find_declaration-returns-in-TypeAlias-clause-found : goal.find_declaration-returns-in-TypeAlias-clause-found
find_declaration-returns-in-TypeAlias-clause-found t c = if_finds_as c.args.types.now c.find_alias.new.types _ _ c.args.found.now c.find_alias.new.found c.find_alias.result (by_declaration (seen c.args.scope.now) c.args.form.now _ _ c.in-TypeAlias.is (V.seen_TypeAlias _ _ _)) (rw c.as_slice.ensures at c.find_alias.ensures.found)

pub find_declaration-returns-in-Class-clause-found : goal.find_declaration-returns-in-Class-clause-found
find_declaration-returns-in-Class-clause-found t c = if_finds_as c.args.types.now c.find_class.new.types _ _ c.args.found.now c.find_class.new.found c.find_class.result (class_declared (seen c.args.scope.now) c.args.form.now c.in-Class.name c.in-Class.signature c.in-Class.list c.in-Class.is) (rw c.as_slice-in-Class.ensures at c.find_class.ensures.found)

pub find_declaration-returns-in-NamedObject-clause-found : goal.find_declaration-returns-in-NamedObject-clause-found
find_declaration-returns-in-NamedObject-clause-found t c = if_finds_as c.args.types.now c.find_block.new.types _ _ c.args.found.now c.find_block.new.found c.find_block.result (by_declaration (seen c.args.scope.now) c.args.form.now _ _ c.in-NamedObject.is (V.seen_NamedObject _ _)) (rw c.as_slice-in-NamedObject.ensures at c.find_block.ensures.found)

pub find_declaration-returns-in-Evaluate-clause-found : goal.find_declaration-returns-in-Evaluate-clause-found
find_declaration-returns-in-Evaluate-clause-found t c = if_finds_as c.args.types.now c.find_expression-in-Evaluate.new.types _ _ c.args.found.now c.find_expression-in-Evaluate.new.found c.find_expression-in-Evaluate.result (by_declaration (seen c.args.scope.now) c.args.form.now _ _ c.in-Evaluate.is (V.seen_Evaluate _)) c.find_expression-in-Evaluate.ensures.found
