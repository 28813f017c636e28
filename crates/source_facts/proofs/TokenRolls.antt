-- The tokens of a tree, by its layers.
use Rattle.std.proofs.Common.{◌≡◌}
use Rattle.mo_syntax.specs.declared.declarations.Declaration.{Declaration, Declaration-F, roll-Declaration, fold-roll-Declaration, map-Declaration}
use Rattle.mo_syntax.specs.declared.expressions.Expression.{Expression, Expression-F, roll-Expression, fold-roll-Expression, map-Expression}
use Rattle.mo_syntax.specs.declared.declarations.DeclarationField.{DeclarationField, roll-DeclarationField, fold-roll-DeclarationField, map-DeclarationField}
use Rattle.mo_syntax.specs.declared.expressions.Case.{Case, roll-Case, fold-roll-Case, map-Case}
use Rattle.mo_syntax.specs.declared.expressions.ExpressionField.{ExpressionField, roll-ExpressionField, fold-roll-ExpressionField, map-ExpressionField}
use Rattle.mo_syntax.specs.declared.declarations.Declaration.TheOpen as F
use Rattle.mo_syntax.specs.ExpressionGrammar.{declaration_tokens, expression_tokens, declaration_field_tokens, case_tokens, expression_field_tokens, declaration_step, expression_step, declaration_field_step, case_step, expression_field_step}
use Rattle.mo_syntax.specs.Writing.{Writing}

pub rolled_declaration : (y : Declaration-F Declaration Expression DeclarationField Case ExpressionField) → declaration_tokens (roll-Declaration y) ≡ declaration_step (map-Declaration Declaration Expression DeclarationField Case ExpressionField Writing Writing Writing Writing Writing declaration_tokens expression_tokens declaration_field_tokens case_tokens expression_field_tokens y)
unfolding declaration_tokens expression_tokens declaration_field_tokens case_tokens expression_field_tokens
rolled_declaration y = fold-roll-Declaration Writing Writing Writing Writing Writing declaration_step expression_step declaration_field_step case_step expression_field_step y

pub rolled_expression : (y : Expression-F Declaration Expression DeclarationField Case ExpressionField) → expression_tokens (roll-Expression y) ≡ expression_step (map-Expression Declaration Expression DeclarationField Case ExpressionField Writing Writing Writing Writing Writing declaration_tokens expression_tokens declaration_field_tokens case_tokens expression_field_tokens y)
unfolding declaration_tokens expression_tokens declaration_field_tokens case_tokens expression_field_tokens
rolled_expression y = fold-roll-Expression Writing Writing Writing Writing Writing declaration_step expression_step declaration_field_step case_step expression_field_step y

pub rolled_member : (y : F.DeclarationField-F Declaration Expression DeclarationField Case ExpressionField) → declaration_field_tokens (roll-DeclarationField y) ≡ declaration_field_step (map-DeclarationField Declaration Expression DeclarationField Case ExpressionField Writing Writing Writing Writing Writing declaration_tokens expression_tokens declaration_field_tokens case_tokens expression_field_tokens y)
unfolding declaration_tokens expression_tokens declaration_field_tokens case_tokens expression_field_tokens
rolled_member y = fold-roll-DeclarationField Writing Writing Writing Writing Writing declaration_step expression_step declaration_field_step case_step expression_field_step y

pub rolled_case : (y : F.Case-F Declaration Expression DeclarationField Case ExpressionField) → case_tokens (roll-Case y) ≡ case_step (map-Case Declaration Expression DeclarationField Case ExpressionField Writing Writing Writing Writing Writing declaration_tokens expression_tokens declaration_field_tokens case_tokens expression_field_tokens y)
unfolding declaration_tokens expression_tokens declaration_field_tokens case_tokens expression_field_tokens
rolled_case y = fold-roll-Case Writing Writing Writing Writing Writing declaration_step expression_step declaration_field_step case_step expression_field_step y

pub rolled_field : (y : F.ExpressionField-F Declaration Expression DeclarationField Case ExpressionField) → expression_field_tokens (roll-ExpressionField y) ≡ expression_field_step (map-ExpressionField Declaration Expression DeclarationField Case ExpressionField Writing Writing Writing Writing Writing declaration_tokens expression_tokens declaration_field_tokens case_tokens expression_field_tokens y)
unfolding declaration_tokens expression_tokens declaration_field_tokens case_tokens expression_field_tokens
rolled_field y = fold-roll-ExpressionField Writing Writing Writing Writing Writing declaration_step expression_step declaration_field_step case_step expression_field_step y
