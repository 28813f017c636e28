-- What occurs in the parts of a tree that are neither expressions nor declarations, and in several parts.
use Rattle.std.specs.Prelude.{List, map}
use Rattle.std.specs.List.{flat_map}
use Rattle.mo_syntax.specs.declared.expressions.Case.{Case, fold-Case}
use Rattle.mo_syntax.specs.declared.expressions.ExpressionField.{ExpressionField, fold-ExpressionField}
use Rattle.mo_syntax.specs.declared.declarations.DeclarationField.{DeclarationField, fold-DeclarationField}
use Rattle.mo_scopes.specs.Findings.{Names}
use Rattle.mo_names.specs.Order.{Step, Found, FoundStep, declaration_step, expression_step, declaration_field_step, case_step, expression_field_step}

unfoldable pub found_member : DeclarationField → FoundStep
found_member = fold-DeclarationField FoundStep Found FoundStep Found Found declaration_step expression_step declaration_field_step case_step expression_field_step

unfoldable pub found_case : Case → Found
found_case = fold-Case FoundStep Found FoundStep Found Found declaration_step expression_step declaration_field_step case_step expression_field_step

unfoldable pub found_field : ExpressionField → Found
found_field = fold-ExpressionField FoundStep Found FoundStep Found Found declaration_step expression_step declaration_field_step case_step expression_field_step

-- ---- of several parts

abbrev pub free_of : List Found → Names
free_of parts = flat_map (λ a. a.free) parts

abbrev pub lists_of : List Found → List (List Step)
lists_of parts = flat_map (λ a. a.lists) parts

abbrev pub steps_of : List FoundStep → List Step
steps_of found = map (λ d. d.step) found

abbrev pub step_lists : List FoundStep → List (List Step)
step_lists found = flat_map (λ d. d.lists) found

abbrev pub occurring : List Step → Names
occurring steps = flat_map (λ s. s.occurs) steps
