-- Graphs of types: nodes in the order in which they were added.
use Rattle.std.specs.Prelude.{◌≡◌, ℕ, ◌+◌, ◌<◌, ◌≤◌, ◌⊎◌, List, [], ◌∷◌, ◌++◌, length, slice_get, map, Option, Some, None}
use Rattle.mo_types.specs.declared.key.Key.{Key}
use Rattle.mo_types.specs.declared.key.Key.TheVariants as key
use Rattle.mo_types.specs.declared.node.Node.{Node}
use Rattle.mo_types.specs.declared.node.Node.TheVariants as node
use Rattle.mo_types.specs.declared.node.TypeId.{TypeId}
use Rattle.mo_types.specs.declared.fault.TypesFault.{TypesFault}
use Rattle.mo_types.specs.declared.fault.TypesFault.TheVariants as fault
use Rattle.mo_types.specs.Layout.{entries}

-- what stands under a number of a graph
pub data Slot : Type 0 where
  -- from fresh, and not defined yet
  Open : Slot
  -- from fresh, and defined
  Defined : Node TypeId → Slot
  -- from intern
  Interned : Node TypeId → Slot

abbrev pub node_of : Slot → Option (Node TypeId)
node_of Open = None
node_of (Defined n) = Some n
node_of (Interned n) = Some n

abbrev pub node_of_slot : Option Slot → Option (Node TypeId)
node_of_slot None = None
node_of_slot (Some s) = node_of s

-- the node of a type, where it is defined
abbrev pub node_at : List Slot → TypeId → Option (Node TypeId)
node_at slots id = node_of_slot (slice_get slots id.index)

abbrev pub node_or_bottom : Option (Node TypeId) → Node TypeId
node_or_bottom None = node.Bottom
node_or_bottom (Some n) = n

-- the head of a type, by which subtyping goes; what is not defined yet has that of None
abbrev pub head_at : List Slot → TypeId → Node TypeId
head_at slots id = node_or_bottom (node_at slots id)

abbrev pub node_entries : Option (Node TypeId) → ℕ
node_entries None = 0
node_entries (Some n) = entries n

-- the fields and parts of all nodes
abbrev pub total : List Slot → ℕ
total [] = 0
total (s ∷ slots) = node_entries (node_of s) + total slots

-- the most nodes of a graph, and the most fields and parts
abbrev pub Fits : List Slot → Type 0
Fits slots = (length slots ≤ 4096) × (total slots ≤ 65536)

-- this node stands under the number, from intern, and under no lesser one
pub record IsInterned (slots : List Slot) (n : Node TypeId) (i : ℕ) : Type 0 where
  pub there : slice_get slots i ≡ Some (Interned n)
  pub first : (j : ℕ) → slice_get slots j ≡ Some (Interned n) → i ≤ j

-- intern was not given this node
abbrev pub IsNewNode : List Slot → Node TypeId → Type 0
IsNewNode slots n = (i : ℕ) → slice_get slots i ≡ Some (Interned n) → ⊥

-- one slot more, within the limits, under the next number
pub record IsAdded (old : List Slot) (s : Slot) (id : TypeId) (new : List Slot) : Type 0 where
  pub number : id.index ≡ length old
  pub slots : new ≡ old ++ s ∷ []
  pub fits : Fits new

-- what intern does: it finds the node, or adds it
abbrev pub Interns : List Slot → Node TypeId → TypeId → List Slot → Type 0
Interns old n id new = (IsInterned old n id.index × (new ≡ old)) ⊎ (IsNewNode old n × IsAdded old (Interned n) id new)

abbrev pub memory_fault : TypesFault
memory_fault = fault.Memory

abbrev pub too_many : TypesFault
too_many = fault.TooManyTypes

-- where the fault is TooManyTypes, p holds
abbrev pub IfTooMany : TypesFault → Type 0 → Type 0
IfTooMany fault.TooManyTypes p = p
IfTooMany fault.Memory p = Unit {0}

-- what a graph keeps of an entry
abbrev pub slot_of : Key × Option (Node TypeId) → Slot
slot_of (key.Interned n, o) = Interned n
slot_of (key.Fresh i, None) = Open
slot_of (key.Fresh i, Some n) = Defined n

abbrev pub slots_of : List (Key × Option (Node TypeId)) → List Slot
slots_of es = map slot_of es

-- the numbers of fresh keys are below n
abbrev pub KeyBelow : ℕ → Key → Type 0
KeyBelow n (key.Fresh i) = i < n
KeyBelow n (key.Interned m) = Unit {0}

abbrev pub KeysBelow : ℕ → List (Key × Option (Node TypeId)) → Type 0
KeysBelow n [] = Unit {0}
KeysBelow n (e ∷ es) = KeyBelow n e.0 × KeysBelow n es

-- what a graph keeps
pub record Kept (es : List (Key × Option (Node TypeId))) (count : ℕ) : Type 0 where
  pub counted : count ≡ total (slots_of es)
  pub below : KeysBelow (length es) es
  pub fits : Fits (slots_of es)
