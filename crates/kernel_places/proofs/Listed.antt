-- The declarations of a list as its pieces have them.
use Rattle.std.proofs.Common.{◌≡◌, List, [], ◌∷◌, map, refl, ap, ◌∙◌}
use Rattle.mo_types.specs.declared.node.TypeId.{TypeId}
use Rattle.typing_rules.specs.AbstractSyntax.{Declarations}
use Rattle.typing_rules.specs.Definitions.{Definitions}
use Rattle.typing_rules.specs.Terms.{Term}
use Rattle.typing_rules.specs.TypedTrees as trees
use Rattle.typed_tree.specs.Placing.{Declared}
use Rattle.abstract_tree.specs.declared.declarations.Declaration.{Declaration}
use Rattle.abstract_tree.specs.TreeView.{DeclarationView, declaration, declaration_form, declarations}
use Rattle.value_scopes.specs.declared.note.Note.{Note}
use Rattle.desugaring.specs.Expressions.{pieces}
use Rattle.desugaring.specs.FreeNames.{declared}
use Rattle.judged_parts.specs.Parts.{See}
use Rattle.judged_parts.proofs.TreeViews.{declaration_is}
use Rattle.kernel_places.specs.Similar.{declared_list}

abbrev listed : (defs : Definitions) (number : Term → TypeId) → Declarations trees.Note → List Declared
listed defs number ds = map (λ b. b.declared) (pieces defs number ds)

-- what `places` speaks of is what the pieces of the list are placed by
pub pieces_declared : (defs : Definitions) (number : Term → TypeId) (see : See) (ds : List (Declaration Note))
    → map (λ b. b.declared) (pieces defs number (declarations (map (declaration see) ds))) ≡ declared_list see ds
pieces_declared defs number see [] = refl
pieces_declared defs number see (x ∷ ds) =
    ap {B = List Declared} (λ (f : DeclarationView trees.Note). listed defs number (f (declarations (map (declaration see) ds)))) (declaration_is see x)
    ∙ ap (λ (z : List Declared). declared (declaration_form see x.form) ∷ z) (pieces_declared defs number see ds)
