-- Declarations as far as the places of functions look at them.
use Rattle.std.specs.Prelude.{◌≡◌, List, [], ◌∷◌, Some, map}
use Rattle.typing_rules.specs.AbstractSyntax.{Bytes}
use Rattle.typed_tree.specs.Placing.{Declared}
use Rattle.abstract_tree.specs.declared.declarations.Declaration.{Declaration}
use Rattle.abstract_tree.specs.TreeView.{declaration_form}
use Rattle.value_scopes.specs.declared.note.Note.{Note}
use Rattle.desugaring.specs.FreeNames.{declared}
use Rattle.judged_parts.specs.Parts.{See}
use Rattle.kernel_names.specs.Occurring.{HasSame}

-- the declarations of a list as they are placed in the order of evaluation
abbrev pub declared_list : See → List (Declaration Note) → List Declared
declared_list see ds = map (λ d. declared (declaration_form see d.form)) ds

-- They define the same and are the same function, in which the same names occur.
pub record Alike (a b : Declared) : Type 0 where
  pub defines : a.defines ≡ b.defines
  pub function : a.function ≡ b.function
  pub occurs : (f : Bytes) → b.function ≡ Some f → HasSame a.occurs b.occurs

abbrev pub AllAlike : List Declared → List Declared → Type 0
AllAlike [] [] = Unit {0}
AllAlike (a ∷ xs) (b ∷ ys) = Alike a b × AllAlike xs ys
AllAlike [] (b ∷ ys) = ⊥
AllAlike (a ∷ xs) [] = ⊥
