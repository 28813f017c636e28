-- The names that occur of a tree, by its layers.
use Rattle.std.proofs.Common.{◌≡◌}
use Rattle.mo_syntax.specs.declared.declarations.Declaration.{Declaration, Declaration-F, roll-Declaration, fold-roll-Declaration, map-Declaration}
use Rattle.mo_syntax.specs.declared.expressions.Expression.{Expression, Expression-F, roll-Expression, fold-roll-Expression, map-Expression}
use Rattle.mo_syntax.specs.declared.declarations.DeclarationField.{DeclarationField, roll-DeclarationField, fold-roll-DeclarationField, map-DeclarationField}
use Rattle.mo_syntax.specs.declared.expressions.Case.{Case, roll-Case, fold-roll-Case, map-Case}
use Rattle.mo_syntax.specs.declared.expressions.ExpressionField.{ExpressionField, roll-ExpressionField, fold-roll-ExpressionField, map-ExpressionField}
use Rattle.mo_syntax.specs.declared.declarations.Declaration.TheOpen as F
use Rattle.mo_names.specs.Order.{FoundStep, Found, found_step, found, declaration_step, expression_step, declaration_field_step, case_step, expression_field_step}
use Rattle.mo_order.specs.Parts.{found_member, found_case, found_field}

pub rolled_declaration : (y : Declaration-F Declaration Expression DeclarationField Case ExpressionField) → found_step (roll-Declaration y) ≡ declaration_step (map-Declaration Declaration Expression DeclarationField Case ExpressionField FoundStep Found FoundStep Found Found found_step found found_member found_case found_field y)
unfolding found_step found found_member found_case found_field
rolled_declaration y = fold-roll-Declaration FoundStep Found FoundStep Found Found declaration_step expression_step declaration_field_step case_step expression_field_step y

pub rolled_expression : (y : Expression-F Declaration Expression DeclarationField Case ExpressionField) → found (roll-Expression y) ≡ expression_step (map-Expression Declaration Expression DeclarationField Case ExpressionField FoundStep Found FoundStep Found Found found_step found found_member found_case found_field y)
unfolding found_step found found_member found_case found_field
rolled_expression y = fold-roll-Expression FoundStep Found FoundStep Found Found declaration_step expression_step declaration_field_step case_step expression_field_step y

pub rolled_member : (y : F.DeclarationField-F Declaration Expression DeclarationField Case ExpressionField) → found_member (roll-DeclarationField y) ≡ declaration_field_step (map-DeclarationField Declaration Expression DeclarationField Case ExpressionField FoundStep Found FoundStep Found Found found_step found found_member found_case found_field y)
unfolding found_step found found_member found_case found_field
rolled_member y = fold-roll-DeclarationField FoundStep Found FoundStep Found Found declaration_step expression_step declaration_field_step case_step expression_field_step y

pub rolled_case : (y : F.Case-F Declaration Expression DeclarationField Case ExpressionField) → found_case (roll-Case y) ≡ case_step (map-Case Declaration Expression DeclarationField Case ExpressionField FoundStep Found FoundStep Found Found found_step found found_member found_case found_field y)
unfolding found_step found found_member found_case found_field
rolled_case y = fold-roll-Case FoundStep Found FoundStep Found Found declaration_step expression_step declaration_field_step case_step expression_field_step y

pub rolled_field : (y : F.ExpressionField-F Declaration Expression DeclarationField Case ExpressionField) → found_field (roll-ExpressionField y) ≡ expression_field_step (map-ExpressionField Declaration Expression DeclarationField Case ExpressionField FoundStep Found FoundStep Found Found found_step found found_member found_case found_field y)
unfolding found_step found found_member found_case found_field
rolled_field y = fold-roll-ExpressionField FoundStep Found FoundStep Found Found declaration_step expression_step declaration_field_step case_step expression_field_step y
