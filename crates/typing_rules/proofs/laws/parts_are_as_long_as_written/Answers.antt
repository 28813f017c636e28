use Rattle.typing_rules.proofs.TypeSizes.{type_size}
use Rattle.typing_rules.proofs.PatternSizes.{pattern_size}
use Rattle.typing_rules.proofs.ExpressionSizes.{expression_size, declaration_size}
use Rattle.typing_rules.proofs.ProgramSizes.{field_size, all_imports_size}
use Rattle.typing_rules.proofs.laws.parts_are_as_long_as_written.Goals as goal

pub returns-clause-types : goal.returns-clause-types
returns-clause-types c = type_size

pub returns-clause-patterns : goal.returns-clause-patterns
returns-clause-patterns c = pattern_size

pub returns-clause-expressions : goal.returns-clause-expressions
returns-clause-expressions c = expression_size

pub returns-clause-declarations : goal.returns-clause-declarations
returns-clause-declarations c = declaration_size

pub returns-clause-fields : goal.returns-clause-fields
returns-clause-fields c = field_size

pub returns-clause-imports : goal.returns-clause-imports
returns-clause-imports c = all_imports_size
