use Rattle.std.proofs.Common.{List, drop, map}
use Rattle.abstract_tree.specs.declared.declarations.Declaration.{Declaration}
use Rattle.abstract_tree.specs.TreeView.{declaration, declarations}
use Rattle.value_scopes.specs.declared.note.Note.{Note}
use Rattle.desugaring.specs.FreeNames.{names_of_list}
use Rattle.judged_parts.specs.Parts.{See}
use Rattle.kernel_names.proofs.Collecting.{Left}
use Rattle.kernel_names.proofs.binding.list_names.Given as goal

abbrev pub invariant-loop-one : goal.invariant-loop-one
invariant-loop-one l = (see : See) → Left (λ (xs : List (Declaration Note)). names_of_list (declarations (map (declaration see) xs))) l.fn.list l.initial.names (drop l.one-index l.list) l.names
