-- What a new program takes over of all stable variables.
use Rattle.std.specs.Prelude.{◌≡◌, ℕ, List, [], ◌∷◌, ◌++◌, map, take, Bool, true, false, Option, Some, None}
use Rattle.mo_types.specs.declared.datum.Datum.{Datum}
use Rattle.mo_types.specs.declared.node.TypeId.{TypeId}
use Rattle.mo_types.specs.Code.{Variable}
use Rattle.typed_tree.specs.declared.program.Program.{Program}
use Rattle.typed_tree.specs.Language.{Functions}
use Rattle.typed_tree.specs.Language as typed
use Rattle.typed_tree.specs.ProgramView.{stable_variable}
use Rattle.mo_meaning.specs.Coding.{Coding, IsFaithful}
use Rattle.mo_meaning.specs.Starting as starting
use Rattle.mo_meaning.specs.Starting.{all_kept, all_taken}
use Rattle.mo_machine.specs.Starting.{kept_value}
use Rattle.value_arena.specs.declared.node.Node.{Node}
use Rattle.value_arena.specs.declared.node.ValueId.{ValueId}
use Rattle.value_arena.specs.Growth.{Grows}
use Rattle.arena_bodies.specs.Restarting.{kept_at, AreKeptWithin}
use Rattle.arena_saving.specs.Saving.{AreVariables}
use Rattle.arena_keeping.specs.declared.taken.Taken.{Taken}
use Rattle.arena_keeping.specs.declared.taken.Taken.TheVariants as taken

-- it is put behind the others, where it is compatible
abbrev pub IsPut : Taken → Bool → List (Option ValueId) → List (Option ValueId) → Type 0
IsPut taken.Fresh fits before after = (fits ≡ true) × (after ≡ before ++ None ∷ [])
IsPut (taken.Kept id) fits before after = (fits ≡ true) × (after ≡ before ++ Some id ∷ [])
IsPut taken.Incompatible fits before after = fits ≡ false

abbrev pub IsKept : List Node → Option (List (Option typed.Value)) → Option (List (Option ValueId)) → Type 0
IsKept ns None None = Unit {0}
IsKept ns (Some ks) (Some os) = (groups : ℕ → Functions) → map kept_value ks ≡ map (kept_at groups ns) os
IsKept ns _ _ = ⊥

abbrev pub AreAllWithin : List Node → Option (List (Option ValueId)) → Type 0
AreAllWithin ns None = Unit {0}
AreAllWithin ns (Some os) = AreKeptWithin ns os

-- these parts are those of variables of the program
module _ (p q : Program) (parts : List (List Datum)) where
  -- what the meaning takes over of them
  abbrev pub all_of : Coding → List (Variable TypeId) → List starting.Taken
  all_of coding variables = all_taken coding p.types q.types variables (map stable_variable q.stable)

  -- so many variables of the new program
  pub record AreTakenTo (i : ℕ) (old : List Node) (os : List (Option ValueId)) (new : List Node) : Type 0 where
    pub grows : Grows old new
    pub within : AreKeptWithin new os
    pub means : (coding : Coding) → IsFaithful coding → (variables : List (Variable TypeId)) → AreVariables p.types (map stable_variable p.stable) parts variables → IsKept new (all_kept (take i (all_of coding variables))) (Some os)

pub record AreTakenOver (old : List Node) (p q : Program) (parts : List (List Datum)) (o : Option (List (Option ValueId))) (new : List Node) : Type 0 where
  pub grows : Grows old new
  pub within : AreAllWithin new o
  pub means : (coding : Coding) → IsFaithful coding → (variables : List (Variable TypeId)) → AreVariables p.types (map stable_variable p.stable) parts variables
      → IsKept new (all_kept (all_taken coding p.types q.types variables (map stable_variable q.stable))) o
