use Rattle.std.proofs.Common.{List, subst}
use Rattle.typing_rules.specs.Nodes.{in_context, in_expression, in_patterns}
use Rattle.abstract_tree.specs.TreeView.{expression}
use Rattle.abstract_types.specs.declared.patterns.Pattern.{Pattern}
use Rattle.value_scopes.specs.declared.note.Note.{Note}
use Rattle.judged_parts.specs.Parts.{See}
use Rattle.kernel_counts.specs.Counting.{Counts}
use Rattle.kernel_methods.specs.Methods.{context_seen, patterns_seen}
use Rattle.kernel_methods.proofs.Adding.{all_counted}
use Rattle.kernel_methods.proofs.public_functions.method_nodes.Goals as goal

pub returns : goal.returns
returns c = λ (see : See).
    all_counted c.count_expression.result (in_context (context_seen see c.args.context.now)) (in_patterns (patterns_seen see c.args.of.now.parameters)) (in_expression (expression see c.args.body.now)) c.in_ok-first.first c.in_ok-second.second (c.in_ok-first.ensures see)
    (subst (λ (l : List (Pattern Note)). Counts (in_patterns (patterns_seen see l)) c.in_ok-first.first c.in_ok-second.second) c.as_slice.ensures (c.in_ok-second.ensures see)) (c.count_expression.ensures see)
