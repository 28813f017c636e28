use Rattle.std.proofs.Common.{List, subst}
use Rattle.typing_rules.specs.Nodes.{in_expression, in_patterns}
use Rattle.abstract_types.specs.declared.patterns.Pattern.{Pattern}
use Rattle.value_scopes.specs.declared.note.Note.{Note}
use Rattle.value_scopes.specs.Values.{noted}
use Rattle.met_types.specs.States.{State}
use Rattle.kernel_counts.specs.Counting.{Counts}
use Rattle.kernel_parts.specs.Views.{expression_in}
use Rattle.kernel_scopes.specs.Bound.{patterns_in}
use Rattle.kernel_functions.proofs.Made.{both_counted}
use Rattle.kernel_functions.proofs.functions.count.Goals as goal

pub returns : goal.returns
returns c = λ (s : State).
    both_counted c.count_expression.result (in_patterns (patterns_in s c.args.of.now.parameters)) (in_expression (expression_in s c.args.body.now)) c.in_ok-parameters.parameters
    (subst (λ (l : List (Pattern Note)). Counts (in_patterns (patterns_in s l)) 0 c.in_ok-parameters.parameters) c.as_slice.ensures (c.in_ok-parameters.ensures (noted s.forms))) (c.count_expression.ensures (noted s.forms))
