use Rattle.std.proofs.Common.{◌+◌, ◌*◌, map, take}
use Rattle.typing_rules.specs.DeclaredTypes.{pattern_fields}
use Rattle.type_scopes.specs.Scopes.{seen}
use Rattle.abstract_types.specs.PatternView.{plain}
use Rattle.object_types.specs.Adding.{Adds}
use Rattle.object_types.specs.Joining.{together}
use Rattle.object_types.proofs.names.+names.Given as goal

abbrev pub decreases-push_within : goal.decreases-push_within
decreases-push_within l = 2 * l.depth

abbrev pub decreases-push_each : goal.decreases-push_each
decreases-push_each l = 2 * l.depth + 1

abbrev pub decreases-push_fields : goal.decreases-push_fields
decreases-push_fields l = 2 * l.depth + 1

abbrev pub invariant-push_each-loop-q : goal.invariant-push_each-loop-q
invariant-push_each-loop-q l = Adds l.initial.types l.types (together (map (λ q. pattern_fields (seen l.scope) (plain q)) (take l.q-index l.patterns))) l.initial.made.items l.made.items

abbrev pub invariant-push_fields-loop-field : goal.invariant-push_fields-loop-field
invariant-push_fields-loop-field l = Adds l.initial.types l.types (together (map (λ x. pattern_fields (seen l.scope) (plain x.pattern)) (take l.field-index l.list))) l.initial.made.items l.made.items
