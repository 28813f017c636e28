-- What a new program takes over of a stable variable, over an arena: Motoko language manual, section "Stable variables".
use Rattle.std.specs.Prelude.{◌≡◌, ℕ, suc, List, [], ◌∷◌, map, cond, nat_eq, Option, Some, None}
use Rattle.std.specs.List.{find}
use Rattle.mo_types.specs.declared.datum.Datum.{Datum}
use Rattle.mo_types.specs.declared.node.TypeId.{TypeId}
use Rattle.mo_types.specs.Code.{Variable}
use Rattle.mo_types.specs.Graph.{head_at}
use Rattle.mo_types.specs.Label.{label_id}
use Rattle.mo_types.specs.Values.{HaveTypes, Values, flat}
use Rattle.mo_values.specs.Shapes.{Bytes}
use Rattle.typed_tree.specs.declared.program.StableVariable.{StableVariable as Written}
use Rattle.typed_tree.specs.Language.{Functions}
use Rattle.typed_tree.specs.ProgramView.{stable_variable}
use Rattle.mo_meaning.specs.Coding.{Coding, IsFaithful, Types}
use Rattle.mo_meaning.specs.Messages.{as_values, values_at}
use Rattle.mo_meaning.specs.Starting as starting
use Rattle.mo_meaning.specs.Starting.{first_value, taken_values}
use Rattle.mo_machine.specs.Values.{load}
use Rattle.value_arena.specs.declared.node.Node.{Node}
use Rattle.value_arena.specs.declared.node.ValueId.{ValueId}
use Rattle.value_arena.specs.Growth.{Grows, IsWithin}
use Rattle.value_arena.specs.Meaning.{value_of}
use Rattle.arena_saving.specs.Saving.{AreVariables}
use Rattle.arena_keeping.specs.declared.taken.Taken.{Taken}
use Rattle.arena_keeping.specs.declared.taken.Taken.TheVariants as taken

-- the place of the first variable of this name, from this one on
abbrev pub place_from : ℕ → List Written → Bytes → Option ℕ
place_from i [] name = None
place_from i (v ∷ vs) name = cond (nat_eq (label_id v.name) (label_id name)) (Some i) (place_from (suc i) vs name)

abbrev pub first_taken : List ValueId → Taken
first_taken [] = taken.Incompatible
first_taken (id ∷ ids) = taken.Kept id

-- ---- what is taken over in the arena is what the meaning says

abbrev pub IsTaken : List Node → starting.Taken → Taken → Type 0
IsTaken ns starting.Fresh taken.Fresh = Unit {0}
IsTaken ns (starting.Value? v) (taken.Kept id) = (groups : ℕ → Functions) → value_of groups ns id ≡ load v
IsTaken ns starting.Incompatible taken.Incompatible = Unit {0}
IsTaken ns _ _ = ⊥

abbrev pub IsTakenWithin : List Node → Taken → Type 0
IsTakenWithin ns (taken.Kept id) = IsWithin ns id
IsTakenWithin ns _ = Unit {0}

-- it is all that may be wanted
pub record IsTakenOver (old : List Node) (Wants : starting.Taken → Type 0) (t : Taken) (new : List Node) : Type 0 where
  pub grows : Grows old new
  pub within : IsTakenWithin new t
  pub means : (w : starting.Taken) → Wants w → IsTaken new w t

-- the value with these parts
pub record value_wanted (types : Types) (t : TypeId) (parts : List Datum) (w : starting.Taken) : Type 0 where
  pub value : Values
  pub typed : HaveTypes (head_at types) (t ∷ []) value
  pub spelled : parts ≡ flat value
  pub is : w ≡ first_value (as_values (values_at types (t ∷ []) value))

-- what a value with these parts at the old type is kept as
pub record kept_wanted (old new : Types) (from to : TypeId) (parts : List Datum) (w : starting.Taken) : Type 0 where
  pub coding : Coding
  pub faithful : IsFaithful coding
  pub value : Values
  pub typed : HaveTypes (head_at old) (from ∷ []) value
  pub spelled : parts ≡ flat value
  pub is : w ≡ taken_values new to (coding.keep old new from to value)

-- what is taken over of these variables
pub record taken_wanted (old new : Types) (stable : List Written) (parts : List (List Datum)) (v : Written) (w : starting.Taken) : Type 0 where
  pub coding : Coding
  pub faithful : IsFaithful coding
  pub variables : List (Variable TypeId)
  pub saved : AreVariables old (map stable_variable stable) parts variables
  pub is : w ≡ starting.taken coding old new (stable_variable v) (find (λ x. nat_eq (label_id x.name) (label_id v.name)) variables)
