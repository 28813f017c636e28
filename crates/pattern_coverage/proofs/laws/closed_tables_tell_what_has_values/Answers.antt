use Rattle.typed_tree.proofs.OwnLabels.{labels_own}
use Rattle.pattern_coverage.proofs.Tables.{rules, tells}
use Rattle.pattern_coverage.specs.Followed.{end_of, value_head}
use Rattle.pattern_coverage.proofs.laws.closed_tables_tell_what_has_values.Goals as goal

pub returns-clause-rules : goal.returns-clause-rules
returns-clause-rules c = λ types lawful has sound t e. rules (value_head types) (λ u. labels_own types lawful (end_of types u)) has sound t e

pub returns-clause-closed : goal.returns-clause-closed
returns-clause-closed c = λ head has sound closed. tells head has closed sound
