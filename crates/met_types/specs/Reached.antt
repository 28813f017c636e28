-- Terms with the numbers that they have in a graph.
use Rattle.std.specs.Prelude.{◌≡◌, ℕ, List, Option, Some, slice_get}
use Rattle.mo_types.specs.declared.node.TypeId.{TypeId}
use Rattle.type_terms.specs.declared.form.TermId.{TermId}

abbrev pub numbered : ℕ → TermId
numbered n = record { index = n }

-- the term is not there
abbrev pub IsMissing : List TermId → TermId → Type 0
IsMissing list t = (i : ℕ) → slice_get list i ≡ Some t → ⊥

-- For each term of the list its place is kept, and no other.
pub record Indexed (numbers : List (Option TypeId)) (list : List TermId) : Type 0 where
  pub to : (k : ℕ) (id : TypeId) → slice_get numbers k ≡ Some (Some id) → slice_get list id.index ≡ Some (numbered k)
  pub from : (i : ℕ) (t : TermId) → slice_get list i ≡ Some t → (id : TypeId) × (slice_get numbers t.index ≡ Some (Some id)) × (id.index ≡ i)

-- the same numbers are kept
pub record SameNumbers (old new : List (Option TypeId)) : Type 0 where
  pub to : (k : ℕ) (id : TypeId) → slice_get old k ≡ Some (Some id) → slice_get new k ≡ Some (Some id)
  pub from : (k : ℕ) (id : TypeId) → slice_get new k ≡ Some (Some id) → slice_get old k ≡ Some (Some id)
