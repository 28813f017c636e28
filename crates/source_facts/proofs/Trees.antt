-- Induction over trees and all that is read off them, layer by layer.
use Rattle.std.proofs.Common.{sym, subst}
use Rattle.mo_syntax.specs.declared.declarations.Declaration.{Declaration, Declaration-F, ind-Declaration, roll-Declaration, map-Declaration}
use Rattle.mo_syntax.specs.declared.expressions.Expression.{Expression, Expression-F, ind-Expression, roll-Expression, map-Expression}
use Rattle.mo_syntax.specs.declared.declarations.DeclarationField.{DeclarationField, ind-DeclarationField, roll-DeclarationField, map-DeclarationField}
use Rattle.mo_syntax.specs.declared.expressions.Case.{Case, ind-Case, roll-Case, map-Case}
use Rattle.mo_syntax.specs.declared.expressions.ExpressionField.{ExpressionField, ind-ExpressionField, roll-ExpressionField, map-ExpressionField}
use Rattle.mo_syntax.specs.declared.declarations.Declaration.TheOpen as F
use Rattle.mo_syntax.specs.Writing.{Writing}
use Rattle.mo_syntax.specs.ExpressionGrammar as grammar
use Rattle.mo_syntax.proofs.Known.{Known}
use Rattle.mo_scopes.specs.Findings.{InScope}
use Rattle.mo_pattern_names.specs.TypeNames.{Entry}
use Rattle.mo_bindings.specs.ExpressionNames.{Declared, Whole, Member}
use Rattle.mo_bindings.specs.ExpressionNames as names
use Rattle.mo_names.specs.Order.{Found, FoundStep}
use Rattle.mo_names.specs.Order as order
use Rattle.mo_order.specs.Parts as parts
use Rattle.typing_rules.specs.AbstractExpressions.{DeclarationSpan, ExpressionSpan, MemberSpan, CaseSpan, ObjectFieldSpan}
use Rattle.typing_rules.specs.AbstractExpressions as rules
use Rattle.source_facts.proofs.SpanRolls as spans
use Rattle.source_facts.proofs.NameRolls as named
use Rattle.source_facts.proofs.FoundRolls as occurs
use Rattle.source_facts.proofs.TokenRolls as written

module _ (D : DeclarationSpan → Declared → FoundStep → Writing → Type 0) (E : ExpressionSpan → Whole → Found → Writing → Type 0) (M : MemberSpan → Member → FoundStep → Writing → Type 0) (C : CaseSpan → InScope → Found → Writing → Type 0) (O : ObjectFieldSpan → Entry → Found → Writing → Type 0) where
  abbrev pub OfDeclaration : Declaration → Type 0
  OfDeclaration x = D (rules.in_declaration x) (names.in_declaration x) (order.found_step x) (grammar.declaration_tokens x)

  abbrev pub OfExpression : Expression → Type 0
  OfExpression x = E (rules.in_expression x) (names.in_expression x) (order.found x) (grammar.expression_tokens x)

  abbrev pub OfDeclarationField : DeclarationField → Type 0
  OfDeclarationField x = M (rules.in_member x) (names.in_member x) (parts.found_member x) (grammar.declaration_field_tokens x)

  abbrev pub OfCase : Case → Type 0
  OfCase x = C (rules.in_case x) (names.in_case x) (parts.found_case x) (grammar.case_tokens x)

  abbrev pub OfExpressionField : ExpressionField → Type 0
  OfExpressionField x = O (rules.in_object_field x) (names.in_field x) (parts.found_field x) (grammar.expression_field_tokens x)

  abbrev pub DeclarationLayer : Declaration-F (Known OfDeclaration) (Known OfExpression) (Known OfDeclarationField) (Known OfCase) (Known OfExpressionField) → Type 0
  DeclarationLayer y =
      D (rules.declaration_step (map-Declaration Declaration Expression DeclarationField Case ExpressionField DeclarationSpan ExpressionSpan MemberSpan CaseSpan ObjectFieldSpan rules.in_declaration rules.in_expression rules.in_member rules.in_case rules.in_object_field (map-Declaration (Known OfDeclaration) (Known OfExpression) (Known OfDeclarationField) (Known OfCase) (Known OfExpressionField) Declaration Expression DeclarationField Case ExpressionField (λ z. z.0) (λ z. z.0) (λ z. z.0) (λ z. z.0) (λ z. z.0) y)))
      (names.declaration_step (map-Declaration Declaration Expression DeclarationField Case ExpressionField Declared Whole Member InScope Entry names.in_declaration names.in_expression names.in_member names.in_case names.in_field (map-Declaration (Known OfDeclaration) (Known OfExpression) (Known OfDeclarationField) (Known OfCase) (Known OfExpressionField) Declaration Expression DeclarationField Case ExpressionField (λ z. z.0) (λ z. z.0) (λ z. z.0) (λ z. z.0) (λ z. z.0) y)))
      (order.declaration_step (map-Declaration Declaration Expression DeclarationField Case ExpressionField FoundStep Found FoundStep Found Found order.found_step order.found parts.found_member parts.found_case parts.found_field (map-Declaration (Known OfDeclaration) (Known OfExpression) (Known OfDeclarationField) (Known OfCase) (Known OfExpressionField) Declaration Expression DeclarationField Case ExpressionField (λ z. z.0) (λ z. z.0) (λ z. z.0) (λ z. z.0) (λ z. z.0) y)))
      (grammar.declaration_step (map-Declaration Declaration Expression DeclarationField Case ExpressionField Writing Writing Writing Writing Writing grammar.declaration_tokens grammar.expression_tokens grammar.declaration_field_tokens grammar.case_tokens grammar.expression_field_tokens (map-Declaration (Known OfDeclaration) (Known OfExpression) (Known OfDeclarationField) (Known OfCase) (Known OfExpressionField) Declaration Expression DeclarationField Case ExpressionField (λ z. z.0) (λ z. z.0) (λ z. z.0) (λ z. z.0) (λ z. z.0) y)))

  abbrev pub ExpressionLayer : Expression-F (Known OfDeclaration) (Known OfExpression) (Known OfDeclarationField) (Known OfCase) (Known OfExpressionField) → Type 0
  ExpressionLayer y =
      E (rules.expression_step (map-Expression Declaration Expression DeclarationField Case ExpressionField DeclarationSpan ExpressionSpan MemberSpan CaseSpan ObjectFieldSpan rules.in_declaration rules.in_expression rules.in_member rules.in_case rules.in_object_field (map-Expression (Known OfDeclaration) (Known OfExpression) (Known OfDeclarationField) (Known OfCase) (Known OfExpressionField) Declaration Expression DeclarationField Case ExpressionField (λ z. z.0) (λ z. z.0) (λ z. z.0) (λ z. z.0) (λ z. z.0) y)))
      (names.expression_step (map-Expression Declaration Expression DeclarationField Case ExpressionField Declared Whole Member InScope Entry names.in_declaration names.in_expression names.in_member names.in_case names.in_field (map-Expression (Known OfDeclaration) (Known OfExpression) (Known OfDeclarationField) (Known OfCase) (Known OfExpressionField) Declaration Expression DeclarationField Case ExpressionField (λ z. z.0) (λ z. z.0) (λ z. z.0) (λ z. z.0) (λ z. z.0) y)))
      (order.expression_step (map-Expression Declaration Expression DeclarationField Case ExpressionField FoundStep Found FoundStep Found Found order.found_step order.found parts.found_member parts.found_case parts.found_field (map-Expression (Known OfDeclaration) (Known OfExpression) (Known OfDeclarationField) (Known OfCase) (Known OfExpressionField) Declaration Expression DeclarationField Case ExpressionField (λ z. z.0) (λ z. z.0) (λ z. z.0) (λ z. z.0) (λ z. z.0) y)))
      (grammar.expression_step (map-Expression Declaration Expression DeclarationField Case ExpressionField Writing Writing Writing Writing Writing grammar.declaration_tokens grammar.expression_tokens grammar.declaration_field_tokens grammar.case_tokens grammar.expression_field_tokens (map-Expression (Known OfDeclaration) (Known OfExpression) (Known OfDeclarationField) (Known OfCase) (Known OfExpressionField) Declaration Expression DeclarationField Case ExpressionField (λ z. z.0) (λ z. z.0) (λ z. z.0) (λ z. z.0) (λ z. z.0) y)))

  abbrev pub DeclarationFieldLayer : F.DeclarationField-F (Known OfDeclaration) (Known OfExpression) (Known OfDeclarationField) (Known OfCase) (Known OfExpressionField) → Type 0
  DeclarationFieldLayer y =
      M (rules.declaration_field_step (map-DeclarationField Declaration Expression DeclarationField Case ExpressionField DeclarationSpan ExpressionSpan MemberSpan CaseSpan ObjectFieldSpan rules.in_declaration rules.in_expression rules.in_member rules.in_case rules.in_object_field (map-DeclarationField (Known OfDeclaration) (Known OfExpression) (Known OfDeclarationField) (Known OfCase) (Known OfExpressionField) Declaration Expression DeclarationField Case ExpressionField (λ z. z.0) (λ z. z.0) (λ z. z.0) (λ z. z.0) (λ z. z.0) y)))
      (names.declaration_field_step (map-DeclarationField Declaration Expression DeclarationField Case ExpressionField Declared Whole Member InScope Entry names.in_declaration names.in_expression names.in_member names.in_case names.in_field (map-DeclarationField (Known OfDeclaration) (Known OfExpression) (Known OfDeclarationField) (Known OfCase) (Known OfExpressionField) Declaration Expression DeclarationField Case ExpressionField (λ z. z.0) (λ z. z.0) (λ z. z.0) (λ z. z.0) (λ z. z.0) y)))
      (order.declaration_field_step (map-DeclarationField Declaration Expression DeclarationField Case ExpressionField FoundStep Found FoundStep Found Found order.found_step order.found parts.found_member parts.found_case parts.found_field (map-DeclarationField (Known OfDeclaration) (Known OfExpression) (Known OfDeclarationField) (Known OfCase) (Known OfExpressionField) Declaration Expression DeclarationField Case ExpressionField (λ z. z.0) (λ z. z.0) (λ z. z.0) (λ z. z.0) (λ z. z.0) y)))
      (grammar.declaration_field_step (map-DeclarationField Declaration Expression DeclarationField Case ExpressionField Writing Writing Writing Writing Writing grammar.declaration_tokens grammar.expression_tokens grammar.declaration_field_tokens grammar.case_tokens grammar.expression_field_tokens (map-DeclarationField (Known OfDeclaration) (Known OfExpression) (Known OfDeclarationField) (Known OfCase) (Known OfExpressionField) Declaration Expression DeclarationField Case ExpressionField (λ z. z.0) (λ z. z.0) (λ z. z.0) (λ z. z.0) (λ z. z.0) y)))

  abbrev pub CaseLayer : F.Case-F (Known OfDeclaration) (Known OfExpression) (Known OfDeclarationField) (Known OfCase) (Known OfExpressionField) → Type 0
  CaseLayer y =
      C (rules.case_step (map-Case Declaration Expression DeclarationField Case ExpressionField DeclarationSpan ExpressionSpan MemberSpan CaseSpan ObjectFieldSpan rules.in_declaration rules.in_expression rules.in_member rules.in_case rules.in_object_field (map-Case (Known OfDeclaration) (Known OfExpression) (Known OfDeclarationField) (Known OfCase) (Known OfExpressionField) Declaration Expression DeclarationField Case ExpressionField (λ z. z.0) (λ z. z.0) (λ z. z.0) (λ z. z.0) (λ z. z.0) y)))
      (names.case_step (map-Case Declaration Expression DeclarationField Case ExpressionField Declared Whole Member InScope Entry names.in_declaration names.in_expression names.in_member names.in_case names.in_field (map-Case (Known OfDeclaration) (Known OfExpression) (Known OfDeclarationField) (Known OfCase) (Known OfExpressionField) Declaration Expression DeclarationField Case ExpressionField (λ z. z.0) (λ z. z.0) (λ z. z.0) (λ z. z.0) (λ z. z.0) y)))
      (order.case_step (map-Case Declaration Expression DeclarationField Case ExpressionField FoundStep Found FoundStep Found Found order.found_step order.found parts.found_member parts.found_case parts.found_field (map-Case (Known OfDeclaration) (Known OfExpression) (Known OfDeclarationField) (Known OfCase) (Known OfExpressionField) Declaration Expression DeclarationField Case ExpressionField (λ z. z.0) (λ z. z.0) (λ z. z.0) (λ z. z.0) (λ z. z.0) y)))
      (grammar.case_step (map-Case Declaration Expression DeclarationField Case ExpressionField Writing Writing Writing Writing Writing grammar.declaration_tokens grammar.expression_tokens grammar.declaration_field_tokens grammar.case_tokens grammar.expression_field_tokens (map-Case (Known OfDeclaration) (Known OfExpression) (Known OfDeclarationField) (Known OfCase) (Known OfExpressionField) Declaration Expression DeclarationField Case ExpressionField (λ z. z.0) (λ z. z.0) (λ z. z.0) (λ z. z.0) (λ z. z.0) y)))

  abbrev pub ExpressionFieldLayer : F.ExpressionField-F (Known OfDeclaration) (Known OfExpression) (Known OfDeclarationField) (Known OfCase) (Known OfExpressionField) → Type 0
  ExpressionFieldLayer y =
      O (rules.expression_field_step (map-ExpressionField Declaration Expression DeclarationField Case ExpressionField DeclarationSpan ExpressionSpan MemberSpan CaseSpan ObjectFieldSpan rules.in_declaration rules.in_expression rules.in_member rules.in_case rules.in_object_field (map-ExpressionField (Known OfDeclaration) (Known OfExpression) (Known OfDeclarationField) (Known OfCase) (Known OfExpressionField) Declaration Expression DeclarationField Case ExpressionField (λ z. z.0) (λ z. z.0) (λ z. z.0) (λ z. z.0) (λ z. z.0) y)))
      (names.expression_field_step (map-ExpressionField Declaration Expression DeclarationField Case ExpressionField Declared Whole Member InScope Entry names.in_declaration names.in_expression names.in_member names.in_case names.in_field (map-ExpressionField (Known OfDeclaration) (Known OfExpression) (Known OfDeclarationField) (Known OfCase) (Known OfExpressionField) Declaration Expression DeclarationField Case ExpressionField (λ z. z.0) (λ z. z.0) (λ z. z.0) (λ z. z.0) (λ z. z.0) y)))
      (order.expression_field_step (map-ExpressionField Declaration Expression DeclarationField Case ExpressionField FoundStep Found FoundStep Found Found order.found_step order.found parts.found_member parts.found_case parts.found_field (map-ExpressionField (Known OfDeclaration) (Known OfExpression) (Known OfDeclarationField) (Known OfCase) (Known OfExpressionField) Declaration Expression DeclarationField Case ExpressionField (λ z. z.0) (λ z. z.0) (λ z. z.0) (λ z. z.0) (λ z. z.0) y)))
      (grammar.expression_field_step (map-ExpressionField Declaration Expression DeclarationField Case ExpressionField Writing Writing Writing Writing Writing grammar.declaration_tokens grammar.expression_tokens grammar.declaration_field_tokens grammar.case_tokens grammar.expression_field_tokens (map-ExpressionField (Known OfDeclaration) (Known OfExpression) (Known OfDeclarationField) (Known OfCase) (Known OfExpressionField) Declaration Expression DeclarationField Case ExpressionField (λ z. z.0) (λ z. z.0) (λ z. z.0) (λ z. z.0) (λ z. z.0) y)))

  -- what holds of a layer where it holds of its parts
  pub record Layers : Type 0 where
    pub declaration : (y : Declaration-F (Known OfDeclaration) (Known OfExpression) (Known OfDeclarationField) (Known OfCase) (Known OfExpressionField)) → DeclarationLayer y
    pub expression : (y : Expression-F (Known OfDeclaration) (Known OfExpression) (Known OfDeclarationField) (Known OfCase) (Known OfExpressionField)) → ExpressionLayer y
    pub member : (y : F.DeclarationField-F (Known OfDeclaration) (Known OfExpression) (Known OfDeclarationField) (Known OfCase) (Known OfExpressionField)) → DeclarationFieldLayer y
    pub case : (y : F.Case-F (Known OfDeclaration) (Known OfExpression) (Known OfDeclarationField) (Known OfCase) (Known OfExpressionField)) → CaseLayer y
    pub field : (y : F.ExpressionField-F (Known OfDeclaration) (Known OfExpression) (Known OfDeclarationField) (Known OfCase) (Known OfExpressionField)) → ExpressionFieldLayer y

  module _ (layers : Layers) where
    on_declaration : (y : Declaration-F (Known OfDeclaration) (Known OfExpression) (Known OfDeclarationField) (Known OfCase) (Known OfExpressionField)) → OfDeclaration (roll-Declaration (map-Declaration (Known OfDeclaration) (Known OfExpression) (Known OfDeclarationField) (Known OfCase) (Known OfExpressionField) Declaration Expression DeclarationField Case ExpressionField (λ z. z.0) (λ z. z.0) (λ z. z.0) (λ z. z.0) (λ z. z.0) y))
    on_declaration y =
        subst (λ v. D (rules.in_declaration (roll-Declaration (map-Declaration (Known OfDeclaration) (Known OfExpression) (Known OfDeclarationField) (Known OfCase) (Known OfExpressionField) Declaration Expression DeclarationField Case ExpressionField (λ z. z.0) (λ z. z.0) (λ z. z.0) (λ z. z.0) (λ z. z.0) y))) (names.in_declaration (roll-Declaration (map-Declaration (Known OfDeclaration) (Known OfExpression) (Known OfDeclarationField) (Known OfCase) (Known OfExpressionField) Declaration Expression DeclarationField Case ExpressionField (λ z. z.0) (λ z. z.0) (λ z. z.0) (λ z. z.0) (λ z. z.0) y))) (order.found_step (roll-Declaration (map-Declaration (Known OfDeclaration) (Known OfExpression) (Known OfDeclarationField) (Known OfCase) (Known OfExpressionField) Declaration Expression DeclarationField Case ExpressionField (λ z. z.0) (λ z. z.0) (λ z. z.0) (λ z. z.0) (λ z. z.0) y))) v) (sym (written.rolled_declaration (map-Declaration (Known OfDeclaration) (Known OfExpression) (Known OfDeclarationField) (Known OfCase) (Known OfExpressionField) Declaration Expression DeclarationField Case ExpressionField (λ z. z.0) (λ z. z.0) (λ z. z.0) (λ z. z.0) (λ z. z.0) y))) (subst (λ v. D (rules.in_declaration (roll-Declaration (map-Declaration (Known OfDeclaration) (Known OfExpression) (Known OfDeclarationField) (Known OfCase) (Known OfExpressionField) Declaration Expression DeclarationField Case ExpressionField (λ z. z.0) (λ z. z.0) (λ z. z.0) (λ z. z.0) (λ z. z.0) y))) (names.in_declaration (roll-Declaration (map-Declaration (Known OfDeclaration) (Known OfExpression) (Known OfDeclarationField) (Known OfCase) (Known OfExpressionField) Declaration Expression DeclarationField Case ExpressionField (λ z. z.0) (λ z. z.0) (λ z. z.0) (λ z. z.0) (λ z. z.0) y))) v (grammar.declaration_step (map-Declaration Declaration Expression DeclarationField Case ExpressionField Writing Writing Writing Writing Writing grammar.declaration_tokens grammar.expression_tokens grammar.declaration_field_tokens grammar.case_tokens grammar.expression_field_tokens (map-Declaration (Known OfDeclaration) (Known OfExpression) (Known OfDeclarationField) (Known OfCase) (Known OfExpressionField) Declaration Expression DeclarationField Case ExpressionField (λ z. z.0) (λ z. z.0) (λ z. z.0) (λ z. z.0) (λ z. z.0) y)))) (sym (occurs.rolled_declaration (map-Declaration (Known OfDeclaration) (Known OfExpression) (Known OfDeclarationField) (Known OfCase) (Known OfExpressionField) Declaration Expression DeclarationField Case ExpressionField (λ z. z.0) (λ z. z.0) (λ z. z.0) (λ z. z.0) (λ z. z.0) y))) (subst (λ v. D (rules.in_declaration (roll-Declaration (map-Declaration (Known OfDeclaration) (Known OfExpression) (Known OfDeclarationField) (Known OfCase) (Known OfExpressionField) Declaration Expression DeclarationField Case ExpressionField (λ z. z.0) (λ z. z.0) (λ z. z.0) (λ z. z.0) (λ z. z.0) y))) v (order.declaration_step (map-Declaration Declaration Expression DeclarationField Case ExpressionField FoundStep Found FoundStep Found Found order.found_step order.found parts.found_member parts.found_case parts.found_field (map-Declaration (Known OfDeclaration) (Known OfExpression) (Known OfDeclarationField) (Known OfCase) (Known OfExpressionField) Declaration Expression DeclarationField Case ExpressionField (λ z. z.0) (λ z. z.0) (λ z. z.0) (λ z. z.0) (λ z. z.0) y))) (grammar.declaration_step (map-Declaration Declaration Expression DeclarationField Case ExpressionField Writing Writing Writing Writing Writing grammar.declaration_tokens grammar.expression_tokens grammar.declaration_field_tokens grammar.case_tokens grammar.expression_field_tokens (map-Declaration (Known OfDeclaration) (Known OfExpression) (Known OfDeclarationField) (Known OfCase) (Known OfExpressionField) Declaration Expression DeclarationField Case ExpressionField (λ z. z.0) (λ z. z.0) (λ z. z.0) (λ z. z.0) (λ z. z.0) y)))) (sym (named.rolled_declaration (map-Declaration (Known OfDeclaration) (Known OfExpression) (Known OfDeclarationField) (Known OfCase) (Known OfExpressionField) Declaration Expression DeclarationField Case ExpressionField (λ z. z.0) (λ z. z.0) (λ z. z.0) (λ z. z.0) (λ z. z.0) y))) (subst (λ v. D v (names.declaration_step (map-Declaration Declaration Expression DeclarationField Case ExpressionField Declared Whole Member InScope Entry names.in_declaration names.in_expression names.in_member names.in_case names.in_field (map-Declaration (Known OfDeclaration) (Known OfExpression) (Known OfDeclarationField) (Known OfCase) (Known OfExpressionField) Declaration Expression DeclarationField Case ExpressionField (λ z. z.0) (λ z. z.0) (λ z. z.0) (λ z. z.0) (λ z. z.0) y))) (order.declaration_step (map-Declaration Declaration Expression DeclarationField Case ExpressionField FoundStep Found FoundStep Found Found order.found_step order.found parts.found_member parts.found_case parts.found_field (map-Declaration (Known OfDeclaration) (Known OfExpression) (Known OfDeclarationField) (Known OfCase) (Known OfExpressionField) Declaration Expression DeclarationField Case ExpressionField (λ z. z.0) (λ z. z.0) (λ z. z.0) (λ z. z.0) (λ z. z.0) y))) (grammar.declaration_step (map-Declaration Declaration Expression DeclarationField Case ExpressionField Writing Writing Writing Writing Writing grammar.declaration_tokens grammar.expression_tokens grammar.declaration_field_tokens grammar.case_tokens grammar.expression_field_tokens (map-Declaration (Known OfDeclaration) (Known OfExpression) (Known OfDeclarationField) (Known OfCase) (Known OfExpressionField) Declaration Expression DeclarationField Case ExpressionField (λ z. z.0) (λ z. z.0) (λ z. z.0) (λ z. z.0) (λ z. z.0) y)))) (sym (spans.rolled_declaration (map-Declaration (Known OfDeclaration) (Known OfExpression) (Known OfDeclarationField) (Known OfCase) (Known OfExpressionField) Declaration Expression DeclarationField Case ExpressionField (λ z. z.0) (λ z. z.0) (λ z. z.0) (λ z. z.0) (λ z. z.0) y))) (layers.declaration y))))

    on_expression : (y : Expression-F (Known OfDeclaration) (Known OfExpression) (Known OfDeclarationField) (Known OfCase) (Known OfExpressionField)) → OfExpression (roll-Expression (map-Expression (Known OfDeclaration) (Known OfExpression) (Known OfDeclarationField) (Known OfCase) (Known OfExpressionField) Declaration Expression DeclarationField Case ExpressionField (λ z. z.0) (λ z. z.0) (λ z. z.0) (λ z. z.0) (λ z. z.0) y))
    on_expression y =
        subst (λ v. E (rules.in_expression (roll-Expression (map-Expression (Known OfDeclaration) (Known OfExpression) (Known OfDeclarationField) (Known OfCase) (Known OfExpressionField) Declaration Expression DeclarationField Case ExpressionField (λ z. z.0) (λ z. z.0) (λ z. z.0) (λ z. z.0) (λ z. z.0) y))) (names.in_expression (roll-Expression (map-Expression (Known OfDeclaration) (Known OfExpression) (Known OfDeclarationField) (Known OfCase) (Known OfExpressionField) Declaration Expression DeclarationField Case ExpressionField (λ z. z.0) (λ z. z.0) (λ z. z.0) (λ z. z.0) (λ z. z.0) y))) (order.found (roll-Expression (map-Expression (Known OfDeclaration) (Known OfExpression) (Known OfDeclarationField) (Known OfCase) (Known OfExpressionField) Declaration Expression DeclarationField Case ExpressionField (λ z. z.0) (λ z. z.0) (λ z. z.0) (λ z. z.0) (λ z. z.0) y))) v) (sym (written.rolled_expression (map-Expression (Known OfDeclaration) (Known OfExpression) (Known OfDeclarationField) (Known OfCase) (Known OfExpressionField) Declaration Expression DeclarationField Case ExpressionField (λ z. z.0) (λ z. z.0) (λ z. z.0) (λ z. z.0) (λ z. z.0) y))) (subst (λ v. E (rules.in_expression (roll-Expression (map-Expression (Known OfDeclaration) (Known OfExpression) (Known OfDeclarationField) (Known OfCase) (Known OfExpressionField) Declaration Expression DeclarationField Case ExpressionField (λ z. z.0) (λ z. z.0) (λ z. z.0) (λ z. z.0) (λ z. z.0) y))) (names.in_expression (roll-Expression (map-Expression (Known OfDeclaration) (Known OfExpression) (Known OfDeclarationField) (Known OfCase) (Known OfExpressionField) Declaration Expression DeclarationField Case ExpressionField (λ z. z.0) (λ z. z.0) (λ z. z.0) (λ z. z.0) (λ z. z.0) y))) v (grammar.expression_step (map-Expression Declaration Expression DeclarationField Case ExpressionField Writing Writing Writing Writing Writing grammar.declaration_tokens grammar.expression_tokens grammar.declaration_field_tokens grammar.case_tokens grammar.expression_field_tokens (map-Expression (Known OfDeclaration) (Known OfExpression) (Known OfDeclarationField) (Known OfCase) (Known OfExpressionField) Declaration Expression DeclarationField Case ExpressionField (λ z. z.0) (λ z. z.0) (λ z. z.0) (λ z. z.0) (λ z. z.0) y)))) (sym (occurs.rolled_expression (map-Expression (Known OfDeclaration) (Known OfExpression) (Known OfDeclarationField) (Known OfCase) (Known OfExpressionField) Declaration Expression DeclarationField Case ExpressionField (λ z. z.0) (λ z. z.0) (λ z. z.0) (λ z. z.0) (λ z. z.0) y))) (subst (λ v. E (rules.in_expression (roll-Expression (map-Expression (Known OfDeclaration) (Known OfExpression) (Known OfDeclarationField) (Known OfCase) (Known OfExpressionField) Declaration Expression DeclarationField Case ExpressionField (λ z. z.0) (λ z. z.0) (λ z. z.0) (λ z. z.0) (λ z. z.0) y))) v (order.expression_step (map-Expression Declaration Expression DeclarationField Case ExpressionField FoundStep Found FoundStep Found Found order.found_step order.found parts.found_member parts.found_case parts.found_field (map-Expression (Known OfDeclaration) (Known OfExpression) (Known OfDeclarationField) (Known OfCase) (Known OfExpressionField) Declaration Expression DeclarationField Case ExpressionField (λ z. z.0) (λ z. z.0) (λ z. z.0) (λ z. z.0) (λ z. z.0) y))) (grammar.expression_step (map-Expression Declaration Expression DeclarationField Case ExpressionField Writing Writing Writing Writing Writing grammar.declaration_tokens grammar.expression_tokens grammar.declaration_field_tokens grammar.case_tokens grammar.expression_field_tokens (map-Expression (Known OfDeclaration) (Known OfExpression) (Known OfDeclarationField) (Known OfCase) (Known OfExpressionField) Declaration Expression DeclarationField Case ExpressionField (λ z. z.0) (λ z. z.0) (λ z. z.0) (λ z. z.0) (λ z. z.0) y)))) (sym (named.rolled_expression (map-Expression (Known OfDeclaration) (Known OfExpression) (Known OfDeclarationField) (Known OfCase) (Known OfExpressionField) Declaration Expression DeclarationField Case ExpressionField (λ z. z.0) (λ z. z.0) (λ z. z.0) (λ z. z.0) (λ z. z.0) y))) (subst (λ v. E v (names.expression_step (map-Expression Declaration Expression DeclarationField Case ExpressionField Declared Whole Member InScope Entry names.in_declaration names.in_expression names.in_member names.in_case names.in_field (map-Expression (Known OfDeclaration) (Known OfExpression) (Known OfDeclarationField) (Known OfCase) (Known OfExpressionField) Declaration Expression DeclarationField Case ExpressionField (λ z. z.0) (λ z. z.0) (λ z. z.0) (λ z. z.0) (λ z. z.0) y))) (order.expression_step (map-Expression Declaration Expression DeclarationField Case ExpressionField FoundStep Found FoundStep Found Found order.found_step order.found parts.found_member parts.found_case parts.found_field (map-Expression (Known OfDeclaration) (Known OfExpression) (Known OfDeclarationField) (Known OfCase) (Known OfExpressionField) Declaration Expression DeclarationField Case ExpressionField (λ z. z.0) (λ z. z.0) (λ z. z.0) (λ z. z.0) (λ z. z.0) y))) (grammar.expression_step (map-Expression Declaration Expression DeclarationField Case ExpressionField Writing Writing Writing Writing Writing grammar.declaration_tokens grammar.expression_tokens grammar.declaration_field_tokens grammar.case_tokens grammar.expression_field_tokens (map-Expression (Known OfDeclaration) (Known OfExpression) (Known OfDeclarationField) (Known OfCase) (Known OfExpressionField) Declaration Expression DeclarationField Case ExpressionField (λ z. z.0) (λ z. z.0) (λ z. z.0) (λ z. z.0) (λ z. z.0) y)))) (sym (spans.rolled_expression (map-Expression (Known OfDeclaration) (Known OfExpression) (Known OfDeclarationField) (Known OfCase) (Known OfExpressionField) Declaration Expression DeclarationField Case ExpressionField (λ z. z.0) (λ z. z.0) (λ z. z.0) (λ z. z.0) (λ z. z.0) y))) (layers.expression y))))

    on_member : (y : F.DeclarationField-F (Known OfDeclaration) (Known OfExpression) (Known OfDeclarationField) (Known OfCase) (Known OfExpressionField)) → OfDeclarationField (roll-DeclarationField (map-DeclarationField (Known OfDeclaration) (Known OfExpression) (Known OfDeclarationField) (Known OfCase) (Known OfExpressionField) Declaration Expression DeclarationField Case ExpressionField (λ z. z.0) (λ z. z.0) (λ z. z.0) (λ z. z.0) (λ z. z.0) y))
    on_member y =
        subst (λ v. M (rules.in_member (roll-DeclarationField (map-DeclarationField (Known OfDeclaration) (Known OfExpression) (Known OfDeclarationField) (Known OfCase) (Known OfExpressionField) Declaration Expression DeclarationField Case ExpressionField (λ z. z.0) (λ z. z.0) (λ z. z.0) (λ z. z.0) (λ z. z.0) y))) (names.in_member (roll-DeclarationField (map-DeclarationField (Known OfDeclaration) (Known OfExpression) (Known OfDeclarationField) (Known OfCase) (Known OfExpressionField) Declaration Expression DeclarationField Case ExpressionField (λ z. z.0) (λ z. z.0) (λ z. z.0) (λ z. z.0) (λ z. z.0) y))) (parts.found_member (roll-DeclarationField (map-DeclarationField (Known OfDeclaration) (Known OfExpression) (Known OfDeclarationField) (Known OfCase) (Known OfExpressionField) Declaration Expression DeclarationField Case ExpressionField (λ z. z.0) (λ z. z.0) (λ z. z.0) (λ z. z.0) (λ z. z.0) y))) v) (sym (written.rolled_member (map-DeclarationField (Known OfDeclaration) (Known OfExpression) (Known OfDeclarationField) (Known OfCase) (Known OfExpressionField) Declaration Expression DeclarationField Case ExpressionField (λ z. z.0) (λ z. z.0) (λ z. z.0) (λ z. z.0) (λ z. z.0) y))) (subst (λ v. M (rules.in_member (roll-DeclarationField (map-DeclarationField (Known OfDeclaration) (Known OfExpression) (Known OfDeclarationField) (Known OfCase) (Known OfExpressionField) Declaration Expression DeclarationField Case ExpressionField (λ z. z.0) (λ z. z.0) (λ z. z.0) (λ z. z.0) (λ z. z.0) y))) (names.in_member (roll-DeclarationField (map-DeclarationField (Known OfDeclaration) (Known OfExpression) (Known OfDeclarationField) (Known OfCase) (Known OfExpressionField) Declaration Expression DeclarationField Case ExpressionField (λ z. z.0) (λ z. z.0) (λ z. z.0) (λ z. z.0) (λ z. z.0) y))) v (grammar.declaration_field_step (map-DeclarationField Declaration Expression DeclarationField Case ExpressionField Writing Writing Writing Writing Writing grammar.declaration_tokens grammar.expression_tokens grammar.declaration_field_tokens grammar.case_tokens grammar.expression_field_tokens (map-DeclarationField (Known OfDeclaration) (Known OfExpression) (Known OfDeclarationField) (Known OfCase) (Known OfExpressionField) Declaration Expression DeclarationField Case ExpressionField (λ z. z.0) (λ z. z.0) (λ z. z.0) (λ z. z.0) (λ z. z.0) y)))) (sym (occurs.rolled_member (map-DeclarationField (Known OfDeclaration) (Known OfExpression) (Known OfDeclarationField) (Known OfCase) (Known OfExpressionField) Declaration Expression DeclarationField Case ExpressionField (λ z. z.0) (λ z. z.0) (λ z. z.0) (λ z. z.0) (λ z. z.0) y))) (subst (λ v. M (rules.in_member (roll-DeclarationField (map-DeclarationField (Known OfDeclaration) (Known OfExpression) (Known OfDeclarationField) (Known OfCase) (Known OfExpressionField) Declaration Expression DeclarationField Case ExpressionField (λ z. z.0) (λ z. z.0) (λ z. z.0) (λ z. z.0) (λ z. z.0) y))) v (order.declaration_field_step (map-DeclarationField Declaration Expression DeclarationField Case ExpressionField FoundStep Found FoundStep Found Found order.found_step order.found parts.found_member parts.found_case parts.found_field (map-DeclarationField (Known OfDeclaration) (Known OfExpression) (Known OfDeclarationField) (Known OfCase) (Known OfExpressionField) Declaration Expression DeclarationField Case ExpressionField (λ z. z.0) (λ z. z.0) (λ z. z.0) (λ z. z.0) (λ z. z.0) y))) (grammar.declaration_field_step (map-DeclarationField Declaration Expression DeclarationField Case ExpressionField Writing Writing Writing Writing Writing grammar.declaration_tokens grammar.expression_tokens grammar.declaration_field_tokens grammar.case_tokens grammar.expression_field_tokens (map-DeclarationField (Known OfDeclaration) (Known OfExpression) (Known OfDeclarationField) (Known OfCase) (Known OfExpressionField) Declaration Expression DeclarationField Case ExpressionField (λ z. z.0) (λ z. z.0) (λ z. z.0) (λ z. z.0) (λ z. z.0) y)))) (sym (named.rolled_member (map-DeclarationField (Known OfDeclaration) (Known OfExpression) (Known OfDeclarationField) (Known OfCase) (Known OfExpressionField) Declaration Expression DeclarationField Case ExpressionField (λ z. z.0) (λ z. z.0) (λ z. z.0) (λ z. z.0) (λ z. z.0) y))) (subst (λ v. M v (names.declaration_field_step (map-DeclarationField Declaration Expression DeclarationField Case ExpressionField Declared Whole Member InScope Entry names.in_declaration names.in_expression names.in_member names.in_case names.in_field (map-DeclarationField (Known OfDeclaration) (Known OfExpression) (Known OfDeclarationField) (Known OfCase) (Known OfExpressionField) Declaration Expression DeclarationField Case ExpressionField (λ z. z.0) (λ z. z.0) (λ z. z.0) (λ z. z.0) (λ z. z.0) y))) (order.declaration_field_step (map-DeclarationField Declaration Expression DeclarationField Case ExpressionField FoundStep Found FoundStep Found Found order.found_step order.found parts.found_member parts.found_case parts.found_field (map-DeclarationField (Known OfDeclaration) (Known OfExpression) (Known OfDeclarationField) (Known OfCase) (Known OfExpressionField) Declaration Expression DeclarationField Case ExpressionField (λ z. z.0) (λ z. z.0) (λ z. z.0) (λ z. z.0) (λ z. z.0) y))) (grammar.declaration_field_step (map-DeclarationField Declaration Expression DeclarationField Case ExpressionField Writing Writing Writing Writing Writing grammar.declaration_tokens grammar.expression_tokens grammar.declaration_field_tokens grammar.case_tokens grammar.expression_field_tokens (map-DeclarationField (Known OfDeclaration) (Known OfExpression) (Known OfDeclarationField) (Known OfCase) (Known OfExpressionField) Declaration Expression DeclarationField Case ExpressionField (λ z. z.0) (λ z. z.0) (λ z. z.0) (λ z. z.0) (λ z. z.0) y)))) (sym (spans.rolled_member (map-DeclarationField (Known OfDeclaration) (Known OfExpression) (Known OfDeclarationField) (Known OfCase) (Known OfExpressionField) Declaration Expression DeclarationField Case ExpressionField (λ z. z.0) (λ z. z.0) (λ z. z.0) (λ z. z.0) (λ z. z.0) y))) (layers.member y))))

    on_case : (y : F.Case-F (Known OfDeclaration) (Known OfExpression) (Known OfDeclarationField) (Known OfCase) (Known OfExpressionField)) → OfCase (roll-Case (map-Case (Known OfDeclaration) (Known OfExpression) (Known OfDeclarationField) (Known OfCase) (Known OfExpressionField) Declaration Expression DeclarationField Case ExpressionField (λ z. z.0) (λ z. z.0) (λ z. z.0) (λ z. z.0) (λ z. z.0) y))
    on_case y =
        subst (λ v. C (rules.in_case (roll-Case (map-Case (Known OfDeclaration) (Known OfExpression) (Known OfDeclarationField) (Known OfCase) (Known OfExpressionField) Declaration Expression DeclarationField Case ExpressionField (λ z. z.0) (λ z. z.0) (λ z. z.0) (λ z. z.0) (λ z. z.0) y))) (names.in_case (roll-Case (map-Case (Known OfDeclaration) (Known OfExpression) (Known OfDeclarationField) (Known OfCase) (Known OfExpressionField) Declaration Expression DeclarationField Case ExpressionField (λ z. z.0) (λ z. z.0) (λ z. z.0) (λ z. z.0) (λ z. z.0) y))) (parts.found_case (roll-Case (map-Case (Known OfDeclaration) (Known OfExpression) (Known OfDeclarationField) (Known OfCase) (Known OfExpressionField) Declaration Expression DeclarationField Case ExpressionField (λ z. z.0) (λ z. z.0) (λ z. z.0) (λ z. z.0) (λ z. z.0) y))) v) (sym (written.rolled_case (map-Case (Known OfDeclaration) (Known OfExpression) (Known OfDeclarationField) (Known OfCase) (Known OfExpressionField) Declaration Expression DeclarationField Case ExpressionField (λ z. z.0) (λ z. z.0) (λ z. z.0) (λ z. z.0) (λ z. z.0) y))) (subst (λ v. C (rules.in_case (roll-Case (map-Case (Known OfDeclaration) (Known OfExpression) (Known OfDeclarationField) (Known OfCase) (Known OfExpressionField) Declaration Expression DeclarationField Case ExpressionField (λ z. z.0) (λ z. z.0) (λ z. z.0) (λ z. z.0) (λ z. z.0) y))) (names.in_case (roll-Case (map-Case (Known OfDeclaration) (Known OfExpression) (Known OfDeclarationField) (Known OfCase) (Known OfExpressionField) Declaration Expression DeclarationField Case ExpressionField (λ z. z.0) (λ z. z.0) (λ z. z.0) (λ z. z.0) (λ z. z.0) y))) v (grammar.case_step (map-Case Declaration Expression DeclarationField Case ExpressionField Writing Writing Writing Writing Writing grammar.declaration_tokens grammar.expression_tokens grammar.declaration_field_tokens grammar.case_tokens grammar.expression_field_tokens (map-Case (Known OfDeclaration) (Known OfExpression) (Known OfDeclarationField) (Known OfCase) (Known OfExpressionField) Declaration Expression DeclarationField Case ExpressionField (λ z. z.0) (λ z. z.0) (λ z. z.0) (λ z. z.0) (λ z. z.0) y)))) (sym (occurs.rolled_case (map-Case (Known OfDeclaration) (Known OfExpression) (Known OfDeclarationField) (Known OfCase) (Known OfExpressionField) Declaration Expression DeclarationField Case ExpressionField (λ z. z.0) (λ z. z.0) (λ z. z.0) (λ z. z.0) (λ z. z.0) y))) (subst (λ v. C (rules.in_case (roll-Case (map-Case (Known OfDeclaration) (Known OfExpression) (Known OfDeclarationField) (Known OfCase) (Known OfExpressionField) Declaration Expression DeclarationField Case ExpressionField (λ z. z.0) (λ z. z.0) (λ z. z.0) (λ z. z.0) (λ z. z.0) y))) v (order.case_step (map-Case Declaration Expression DeclarationField Case ExpressionField FoundStep Found FoundStep Found Found order.found_step order.found parts.found_member parts.found_case parts.found_field (map-Case (Known OfDeclaration) (Known OfExpression) (Known OfDeclarationField) (Known OfCase) (Known OfExpressionField) Declaration Expression DeclarationField Case ExpressionField (λ z. z.0) (λ z. z.0) (λ z. z.0) (λ z. z.0) (λ z. z.0) y))) (grammar.case_step (map-Case Declaration Expression DeclarationField Case ExpressionField Writing Writing Writing Writing Writing grammar.declaration_tokens grammar.expression_tokens grammar.declaration_field_tokens grammar.case_tokens grammar.expression_field_tokens (map-Case (Known OfDeclaration) (Known OfExpression) (Known OfDeclarationField) (Known OfCase) (Known OfExpressionField) Declaration Expression DeclarationField Case ExpressionField (λ z. z.0) (λ z. z.0) (λ z. z.0) (λ z. z.0) (λ z. z.0) y)))) (sym (named.rolled_case (map-Case (Known OfDeclaration) (Known OfExpression) (Known OfDeclarationField) (Known OfCase) (Known OfExpressionField) Declaration Expression DeclarationField Case ExpressionField (λ z. z.0) (λ z. z.0) (λ z. z.0) (λ z. z.0) (λ z. z.0) y))) (subst (λ v. C v (names.case_step (map-Case Declaration Expression DeclarationField Case ExpressionField Declared Whole Member InScope Entry names.in_declaration names.in_expression names.in_member names.in_case names.in_field (map-Case (Known OfDeclaration) (Known OfExpression) (Known OfDeclarationField) (Known OfCase) (Known OfExpressionField) Declaration Expression DeclarationField Case ExpressionField (λ z. z.0) (λ z. z.0) (λ z. z.0) (λ z. z.0) (λ z. z.0) y))) (order.case_step (map-Case Declaration Expression DeclarationField Case ExpressionField FoundStep Found FoundStep Found Found order.found_step order.found parts.found_member parts.found_case parts.found_field (map-Case (Known OfDeclaration) (Known OfExpression) (Known OfDeclarationField) (Known OfCase) (Known OfExpressionField) Declaration Expression DeclarationField Case ExpressionField (λ z. z.0) (λ z. z.0) (λ z. z.0) (λ z. z.0) (λ z. z.0) y))) (grammar.case_step (map-Case Declaration Expression DeclarationField Case ExpressionField Writing Writing Writing Writing Writing grammar.declaration_tokens grammar.expression_tokens grammar.declaration_field_tokens grammar.case_tokens grammar.expression_field_tokens (map-Case (Known OfDeclaration) (Known OfExpression) (Known OfDeclarationField) (Known OfCase) (Known OfExpressionField) Declaration Expression DeclarationField Case ExpressionField (λ z. z.0) (λ z. z.0) (λ z. z.0) (λ z. z.0) (λ z. z.0) y)))) (sym (spans.rolled_case (map-Case (Known OfDeclaration) (Known OfExpression) (Known OfDeclarationField) (Known OfCase) (Known OfExpressionField) Declaration Expression DeclarationField Case ExpressionField (λ z. z.0) (λ z. z.0) (λ z. z.0) (λ z. z.0) (λ z. z.0) y))) (layers.case y))))

    on_field : (y : F.ExpressionField-F (Known OfDeclaration) (Known OfExpression) (Known OfDeclarationField) (Known OfCase) (Known OfExpressionField)) → OfExpressionField (roll-ExpressionField (map-ExpressionField (Known OfDeclaration) (Known OfExpression) (Known OfDeclarationField) (Known OfCase) (Known OfExpressionField) Declaration Expression DeclarationField Case ExpressionField (λ z. z.0) (λ z. z.0) (λ z. z.0) (λ z. z.0) (λ z. z.0) y))
    on_field y =
        subst (λ v. O (rules.in_object_field (roll-ExpressionField (map-ExpressionField (Known OfDeclaration) (Known OfExpression) (Known OfDeclarationField) (Known OfCase) (Known OfExpressionField) Declaration Expression DeclarationField Case ExpressionField (λ z. z.0) (λ z. z.0) (λ z. z.0) (λ z. z.0) (λ z. z.0) y))) (names.in_field (roll-ExpressionField (map-ExpressionField (Known OfDeclaration) (Known OfExpression) (Known OfDeclarationField) (Known OfCase) (Known OfExpressionField) Declaration Expression DeclarationField Case ExpressionField (λ z. z.0) (λ z. z.0) (λ z. z.0) (λ z. z.0) (λ z. z.0) y))) (parts.found_field (roll-ExpressionField (map-ExpressionField (Known OfDeclaration) (Known OfExpression) (Known OfDeclarationField) (Known OfCase) (Known OfExpressionField) Declaration Expression DeclarationField Case ExpressionField (λ z. z.0) (λ z. z.0) (λ z. z.0) (λ z. z.0) (λ z. z.0) y))) v) (sym (written.rolled_field (map-ExpressionField (Known OfDeclaration) (Known OfExpression) (Known OfDeclarationField) (Known OfCase) (Known OfExpressionField) Declaration Expression DeclarationField Case ExpressionField (λ z. z.0) (λ z. z.0) (λ z. z.0) (λ z. z.0) (λ z. z.0) y))) (subst (λ v. O (rules.in_object_field (roll-ExpressionField (map-ExpressionField (Known OfDeclaration) (Known OfExpression) (Known OfDeclarationField) (Known OfCase) (Known OfExpressionField) Declaration Expression DeclarationField Case ExpressionField (λ z. z.0) (λ z. z.0) (λ z. z.0) (λ z. z.0) (λ z. z.0) y))) (names.in_field (roll-ExpressionField (map-ExpressionField (Known OfDeclaration) (Known OfExpression) (Known OfDeclarationField) (Known OfCase) (Known OfExpressionField) Declaration Expression DeclarationField Case ExpressionField (λ z. z.0) (λ z. z.0) (λ z. z.0) (λ z. z.0) (λ z. z.0) y))) v (grammar.expression_field_step (map-ExpressionField Declaration Expression DeclarationField Case ExpressionField Writing Writing Writing Writing Writing grammar.declaration_tokens grammar.expression_tokens grammar.declaration_field_tokens grammar.case_tokens grammar.expression_field_tokens (map-ExpressionField (Known OfDeclaration) (Known OfExpression) (Known OfDeclarationField) (Known OfCase) (Known OfExpressionField) Declaration Expression DeclarationField Case ExpressionField (λ z. z.0) (λ z. z.0) (λ z. z.0) (λ z. z.0) (λ z. z.0) y)))) (sym (occurs.rolled_field (map-ExpressionField (Known OfDeclaration) (Known OfExpression) (Known OfDeclarationField) (Known OfCase) (Known OfExpressionField) Declaration Expression DeclarationField Case ExpressionField (λ z. z.0) (λ z. z.0) (λ z. z.0) (λ z. z.0) (λ z. z.0) y))) (subst (λ v. O (rules.in_object_field (roll-ExpressionField (map-ExpressionField (Known OfDeclaration) (Known OfExpression) (Known OfDeclarationField) (Known OfCase) (Known OfExpressionField) Declaration Expression DeclarationField Case ExpressionField (λ z. z.0) (λ z. z.0) (λ z. z.0) (λ z. z.0) (λ z. z.0) y))) v (order.expression_field_step (map-ExpressionField Declaration Expression DeclarationField Case ExpressionField FoundStep Found FoundStep Found Found order.found_step order.found parts.found_member parts.found_case parts.found_field (map-ExpressionField (Known OfDeclaration) (Known OfExpression) (Known OfDeclarationField) (Known OfCase) (Known OfExpressionField) Declaration Expression DeclarationField Case ExpressionField (λ z. z.0) (λ z. z.0) (λ z. z.0) (λ z. z.0) (λ z. z.0) y))) (grammar.expression_field_step (map-ExpressionField Declaration Expression DeclarationField Case ExpressionField Writing Writing Writing Writing Writing grammar.declaration_tokens grammar.expression_tokens grammar.declaration_field_tokens grammar.case_tokens grammar.expression_field_tokens (map-ExpressionField (Known OfDeclaration) (Known OfExpression) (Known OfDeclarationField) (Known OfCase) (Known OfExpressionField) Declaration Expression DeclarationField Case ExpressionField (λ z. z.0) (λ z. z.0) (λ z. z.0) (λ z. z.0) (λ z. z.0) y)))) (sym (named.rolled_field (map-ExpressionField (Known OfDeclaration) (Known OfExpression) (Known OfDeclarationField) (Known OfCase) (Known OfExpressionField) Declaration Expression DeclarationField Case ExpressionField (λ z. z.0) (λ z. z.0) (λ z. z.0) (λ z. z.0) (λ z. z.0) y))) (subst (λ v. O v (names.expression_field_step (map-ExpressionField Declaration Expression DeclarationField Case ExpressionField Declared Whole Member InScope Entry names.in_declaration names.in_expression names.in_member names.in_case names.in_field (map-ExpressionField (Known OfDeclaration) (Known OfExpression) (Known OfDeclarationField) (Known OfCase) (Known OfExpressionField) Declaration Expression DeclarationField Case ExpressionField (λ z. z.0) (λ z. z.0) (λ z. z.0) (λ z. z.0) (λ z. z.0) y))) (order.expression_field_step (map-ExpressionField Declaration Expression DeclarationField Case ExpressionField FoundStep Found FoundStep Found Found order.found_step order.found parts.found_member parts.found_case parts.found_field (map-ExpressionField (Known OfDeclaration) (Known OfExpression) (Known OfDeclarationField) (Known OfCase) (Known OfExpressionField) Declaration Expression DeclarationField Case ExpressionField (λ z. z.0) (λ z. z.0) (λ z. z.0) (λ z. z.0) (λ z. z.0) y))) (grammar.expression_field_step (map-ExpressionField Declaration Expression DeclarationField Case ExpressionField Writing Writing Writing Writing Writing grammar.declaration_tokens grammar.expression_tokens grammar.declaration_field_tokens grammar.case_tokens grammar.expression_field_tokens (map-ExpressionField (Known OfDeclaration) (Known OfExpression) (Known OfDeclarationField) (Known OfCase) (Known OfExpressionField) Declaration Expression DeclarationField Case ExpressionField (λ z. z.0) (λ z. z.0) (λ z. z.0) (λ z. z.0) (λ z. z.0) y)))) (sym (spans.rolled_field (map-ExpressionField (Known OfDeclaration) (Known OfExpression) (Known OfDeclarationField) (Known OfCase) (Known OfExpressionField) Declaration Expression DeclarationField Case ExpressionField (λ z. z.0) (λ z. z.0) (λ z. z.0) (λ z. z.0) (λ z. z.0) y))) (layers.field y))))

    pub holds_declaration : (x : Declaration) → OfDeclaration x
    holds_declaration = ind-Declaration OfDeclaration OfExpression OfDeclarationField OfCase OfExpressionField
        (λ x y is. subst (λ z. OfDeclaration (roll-Declaration z)) is (on_declaration y))
        (λ x y is. subst (λ z. OfExpression (roll-Expression z)) is (on_expression y))
        (λ x y is. subst (λ z. OfDeclarationField (roll-DeclarationField z)) is (on_member y))
        (λ x y is. subst (λ z. OfCase (roll-Case z)) is (on_case y))
        (λ x y is. subst (λ z. OfExpressionField (roll-ExpressionField z)) is (on_field y))

    pub holds_expression : (x : Expression) → OfExpression x
    holds_expression = ind-Expression OfDeclaration OfExpression OfDeclarationField OfCase OfExpressionField
        (λ x y is. subst (λ z. OfDeclaration (roll-Declaration z)) is (on_declaration y))
        (λ x y is. subst (λ z. OfExpression (roll-Expression z)) is (on_expression y))
        (λ x y is. subst (λ z. OfDeclarationField (roll-DeclarationField z)) is (on_member y))
        (λ x y is. subst (λ z. OfCase (roll-Case z)) is (on_case y))
        (λ x y is. subst (λ z. OfExpressionField (roll-ExpressionField z)) is (on_field y))

    pub holds_member : (x : DeclarationField) → OfDeclarationField x
    holds_member = ind-DeclarationField OfDeclaration OfExpression OfDeclarationField OfCase OfExpressionField
        (λ x y is. subst (λ z. OfDeclaration (roll-Declaration z)) is (on_declaration y))
        (λ x y is. subst (λ z. OfExpression (roll-Expression z)) is (on_expression y))
        (λ x y is. subst (λ z. OfDeclarationField (roll-DeclarationField z)) is (on_member y))
        (λ x y is. subst (λ z. OfCase (roll-Case z)) is (on_case y))
        (λ x y is. subst (λ z. OfExpressionField (roll-ExpressionField z)) is (on_field y))

    pub holds_case : (x : Case) → OfCase x
    holds_case = ind-Case OfDeclaration OfExpression OfDeclarationField OfCase OfExpressionField
        (λ x y is. subst (λ z. OfDeclaration (roll-Declaration z)) is (on_declaration y))
        (λ x y is. subst (λ z. OfExpression (roll-Expression z)) is (on_expression y))
        (λ x y is. subst (λ z. OfDeclarationField (roll-DeclarationField z)) is (on_member y))
        (λ x y is. subst (λ z. OfCase (roll-Case z)) is (on_case y))
        (λ x y is. subst (λ z. OfExpressionField (roll-ExpressionField z)) is (on_field y))

    pub holds_field : (x : ExpressionField) → OfExpressionField x
    holds_field = ind-ExpressionField OfDeclaration OfExpression OfDeclarationField OfCase OfExpressionField
        (λ x y is. subst (λ z. OfDeclaration (roll-Declaration z)) is (on_declaration y))
        (λ x y is. subst (λ z. OfExpression (roll-Expression z)) is (on_expression y))
        (λ x y is. subst (λ z. OfDeclarationField (roll-DeclarationField z)) is (on_member y))
        (λ x y is. subst (λ z. OfCase (roll-Case z)) is (on_case y))
        (λ x y is. subst (λ z. OfExpressionField (roll-ExpressionField z)) is (on_field y))
