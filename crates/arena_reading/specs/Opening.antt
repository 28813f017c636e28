-- Messages read into an arena: Motoko language manual, section "Candid serialization". The parts of values stand one after the
-- other, each before the parts inside it; values are made of them from the last one on.
use Rattle.std.specs.Prelude.{◌≡◌, ℕ, List, [], ◌∷◌, ◌++◌, take, drop, Option, Some, None}
use Rattle.mo_types.specs.declared.datum.Datum.{Datum}
use Rattle.mo_types.specs.declared.node.Node.{Node}
use Rattle.mo_types.specs.declared.node.TypeId.{TypeId}
use Rattle.mo_types.specs.Graph.{Slot}
use Rattle.mo_types.specs.Values.{arity, inside}
use Rattle.mo_values.specs.Messages.{head_of}
use Rattle.mo_values.specs.Shapes.{Bytes}
use Rattle.typed_tree.specs.Language.{Functions}
use Rattle.typed_tree.specs.Language as typed
use Rattle.mo_meaning.specs.Coding.{Coding, IsFaithful}
use Rattle.mo_meaning.specs.Messages.{read_values}
use Rattle.mo_machine.specs.Values.{Value, Made, gathered, listed, load_list}
use Rattle.value_arena.specs.declared.node.Node.{Node as ArenaNode}
use Rattle.value_arena.specs.declared.node.ValueId.{ValueId}
use Rattle.value_arena.specs.Growth.{AreWithin, Grows}
use Rattle.value_arena.specs.Meaning.{values_of}

-- the value of a part, and those behind it
abbrev pub put_on : Node TypeId → Datum → List Value → List Value
put_on n p vs = Made (head_of n p) (gathered (take (arity p) vs)) ∷ drop (arity p) vs

module _ (head : TypeId → Node TypeId) where
  -- the types of parts, of which these types are the first
  abbrev pub types_along : List TypeId → List Datum → List TypeId
  types_along ts [] = []
  types_along [] (p ∷ ps) = []
  types_along (t ∷ ts) (p ∷ ps) = t ∷ types_along (inside (head t) p ++ ts) ps

  -- the values of parts of these types
  abbrev pub built : List TypeId → List Datum → List Value
  built ts [] = []
  built [] (p ∷ ps) = []
  built (t ∷ ts) (p ∷ ps) = put_on (head t) p (built ts ps)

-- ---- over an arena

-- the numbers of these values
pub record AreOpened (old : List ArenaNode) (vs : List Value) (new : List ArenaNode) (ids : List ValueId) : Type 0 where
  pub grows : Grows old new
  pub within : AreWithin new ids
  pub means : (groups : ℕ → Functions) → listed (values_of groups new ids) ≡ vs

-- a part is put before these values, the next ones of which are inside it
pub record IsPut (old : List ArenaNode) (n : Node TypeId) (p : Datum) (before : List ValueId) (new : List ArenaNode) (after : List ValueId) : Type 0 where
  pub grows : Grows old new
  pub within : AreWithin new after
  pub means : (groups : ℕ → Functions) → listed (values_of groups new after) ≡ put_on n p (listed (values_of groups old before))

-- the values that were read, or that the bytes do not read
abbrev pub IsReadAs : List ArenaNode → Option (List typed.Value) → Option (List ValueId) → Type 0
IsReadAs ns None None = Unit {0}
IsReadAs ns (Some vs) (Some ids) = AreWithin ns ids × ((groups : ℕ → Functions) → listed (values_of groups ns ids) ≡ load_list vs)
IsReadAs ns _ _ = ⊥

pub record AreRead (types : List Slot) (ids : List TypeId) (bytes : Bytes) (old : List ArenaNode) (o : Option (List ValueId)) (new : List ArenaNode) : Type 0 where
  pub grows : Grows old new
  pub means : (coding : Coding) → IsFaithful coding → IsReadAs new (read_values coding types ids bytes) o
