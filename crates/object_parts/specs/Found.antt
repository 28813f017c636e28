-- Fields of the graph with the terms of their types.
use Rattle.std.specs.Prelude.{◌≡◌, List, [], ◌∷◌, slice_get, Some}
use Rattle.mo_types.specs.declared.node.Field.{Field}
use Rattle.mo_types.specs.declared.node.TypeId.{TypeId}
use Rattle.type_terms.specs.declared.form.TermId.{TermId}
use Rattle.met_types.specs.States.{State}

pub record FieldFound (s : State) (f : Field TypeId) (g : Field TermId) : Type 0 where
  pub label : g.label ≡ f.label
  pub mutable : g.mutable ≡ f.mutable
  pub part : slice_get s.reached f.part.index ≡ Some g.part

abbrev pub FieldsFound : State → List (Field TypeId) → List (Field TermId) → Type 0
FieldsFound s [] [] = Unit {0}
FieldsFound s (f ∷ fs) (g ∷ gs) = FieldFound s f g × FieldsFound s fs gs
FieldsFound s _ _ = ⊥
