-- The names that are found of a tree, by its layers.
use Rattle.std.proofs.Common.{◌≡◌}
use Rattle.mo_syntax.specs.declared.declarations.Declaration.{Declaration, Declaration-F, roll-Declaration, fold-roll-Declaration, map-Declaration}
use Rattle.mo_syntax.specs.declared.expressions.Expression.{Expression, Expression-F, roll-Expression, fold-roll-Expression, map-Expression}
use Rattle.mo_syntax.specs.declared.declarations.DeclarationField.{DeclarationField, roll-DeclarationField, fold-roll-DeclarationField, map-DeclarationField}
use Rattle.mo_syntax.specs.declared.expressions.Case.{Case, roll-Case, fold-roll-Case, map-Case}
use Rattle.mo_syntax.specs.declared.expressions.ExpressionField.{ExpressionField, roll-ExpressionField, fold-roll-ExpressionField, map-ExpressionField}
use Rattle.mo_syntax.specs.declared.declarations.Declaration.TheOpen as F
use Rattle.mo_bindings.specs.ExpressionNames.{Declared, Whole, Member, in_declaration, in_expression, in_member, in_case, in_field, declaration_step, expression_step, declaration_field_step, case_step, expression_field_step}
use Rattle.mo_scopes.specs.Findings.{InScope}
use Rattle.mo_pattern_names.specs.TypeNames.{Entry}

pub rolled_declaration : (y : Declaration-F Declaration Expression DeclarationField Case ExpressionField) → in_declaration (roll-Declaration y) ≡ declaration_step (map-Declaration Declaration Expression DeclarationField Case ExpressionField Declared Whole Member InScope Entry in_declaration in_expression in_member in_case in_field y)
unfolding in_declaration in_expression in_member in_case in_field
rolled_declaration y = fold-roll-Declaration Declared Whole Member InScope Entry declaration_step expression_step declaration_field_step case_step expression_field_step y

pub rolled_expression : (y : Expression-F Declaration Expression DeclarationField Case ExpressionField) → in_expression (roll-Expression y) ≡ expression_step (map-Expression Declaration Expression DeclarationField Case ExpressionField Declared Whole Member InScope Entry in_declaration in_expression in_member in_case in_field y)
unfolding in_declaration in_expression in_member in_case in_field
rolled_expression y = fold-roll-Expression Declared Whole Member InScope Entry declaration_step expression_step declaration_field_step case_step expression_field_step y

pub rolled_member : (y : F.DeclarationField-F Declaration Expression DeclarationField Case ExpressionField) → in_member (roll-DeclarationField y) ≡ declaration_field_step (map-DeclarationField Declaration Expression DeclarationField Case ExpressionField Declared Whole Member InScope Entry in_declaration in_expression in_member in_case in_field y)
unfolding in_declaration in_expression in_member in_case in_field
rolled_member y = fold-roll-DeclarationField Declared Whole Member InScope Entry declaration_step expression_step declaration_field_step case_step expression_field_step y

pub rolled_case : (y : F.Case-F Declaration Expression DeclarationField Case ExpressionField) → in_case (roll-Case y) ≡ case_step (map-Case Declaration Expression DeclarationField Case ExpressionField Declared Whole Member InScope Entry in_declaration in_expression in_member in_case in_field y)
unfolding in_declaration in_expression in_member in_case in_field
rolled_case y = fold-roll-Case Declared Whole Member InScope Entry declaration_step expression_step declaration_field_step case_step expression_field_step y

pub rolled_field : (y : F.ExpressionField-F Declaration Expression DeclarationField Case ExpressionField) → in_field (roll-ExpressionField y) ≡ expression_field_step (map-ExpressionField Declaration Expression DeclarationField Case ExpressionField Declared Whole Member InScope Entry in_declaration in_expression in_member in_case in_field y)
unfolding in_declaration in_expression in_member in_case in_field
rolled_field y = fold-roll-ExpressionField Declared Whole Member InScope Entry declaration_step expression_step declaration_field_step case_step expression_field_step y
