-- Reading values of types, one part after the other, and what is spelled (Candid specification, section "Memory").
use Rattle.std.specs.Prelude.{◌≡◌, ℕ, ◌≤◌, List, [], ◌∷◌, ◌++◌, Bool, true, Option, Some, None, Result, Ok, Err, drop}
use Rattle.mo_types.specs.declared.datum.Datum.{Datum}
use Rattle.mo_types.specs.declared.wire.Entry.{Entry}
use Rattle.mo_types.specs.declared.wire.Wire.{Wire}
use Rattle.mo_types.specs.declared.wire.Wire.TheVariants.{Simple, Opt, Vec, Record, Variant, Func, Service}
use Rattle.mo_types.specs.Values.{copies}
use Rattle.candid_header.specs.declared.fault.Fault.{Fault}
use Rattle.exact_reading.specs.declared.stop.Stop.{Stop}
use Rattle.exact_reading.specs.declared.stop.Stop.TheVariants as stop
use Rattle.candid_types.specs.Shapes.{shape_at}
use Rattle.candid_header.specs.Reading.{Reading}
use Rattle.candid_types.specs.Inside.{parts_of}
use Rattle.candid_read.specs.Parts.{is_marked}
use Rattle.candid_read.specs.declared.todo.Goal.{Goal}
use Rattle.candid_read.specs.declared.todo.Goal.TheVariants as goal

-- at most 10,000 items of a type that is marked as one whose values have no bytes
abbrev pub IsAllowed : List Bool → ℕ → ℕ → Type 0
IsAllowed marks n t = is_marked marks t ≡ true → n ≤ 10000

-- Reading one part after the other, by a way to read a part of a type and the types of the values inside a part.
module _ {B : Type 0} (part_of : B → Reading Datum) (inside : B → Datum → List B) where
  -- Reading values of the types from these bytes gives these parts, and leaves the types todo and the bytes rest.
  abbrev pub Reaches : List B → List Datum → List ℕ → List B → List ℕ → Type 0
  Reaches types [] bytes todo rest = (types ≡ todo) × (bytes ≡ rest)
  Reaches [] (p ∷ ps) bytes todo rest = ⊥
  Reaches (t ∷ ts) (p ∷ ps) bytes todo rest = (after : List ℕ) × (part_of t bytes ≡ Ok (p, after)) × Reaches (inside t p ++ ts) ps after todo rest

  -- The same, whatever the parts are.
  pub record Passes (types : List B) (bytes : List ℕ) (todo : List B) (rest : List ℕ) : Type 0 where
    pub parts : List Datum
    pub reached : Reaches types parts bytes todo rest

  -- The first fault: after some parts that are read, the next one is not.
  pub record Stops (types : List B) (bytes : List ℕ) (f : Fault) : Type 0 where
    pub parts : List Datum
    pub next : B
    pub todo : List B
    pub rest : List ℕ
    pub reached : Reaches types parts bytes (next ∷ todo) rest
    pub faulty : part_of next rest ≡ Err f

abbrev pub IfFault : {X : Type 0} → Result X (Stop Fault) → (Fault → Type 0) → Type 0
IfFault (Ok x) P = Unit {0}
IfFault (Err stop.Memory) P = Unit {0}
IfFault (Err (stop.Fault f)) P = P f

-- bytes of this kind, and those after them
pub record Takes (P : List ℕ → Type 0) (bytes rest : List ℕ) : Type 0 where
  pub front : List ℕ
  pub whole : bytes ≡ front ++ rest
  pub holds : P front

-- that answer, or memory ran out
abbrev pub Finds : {X : Type 0} → (X → List Datum × List ℕ) → Result X (Stop Fault) → List Datum → List ℕ → Type 0
Finds view (Ok x) ps rest = view x ≡ (ps, rest)
Finds view (Err stop.Memory) ps rest = Unit {0}
Finds view (Err (stop.Fault f)) ps rest = ⊥

-- these bytes are left, or memory ran out
abbrev pub Leaves : {X : Type 0} → (X → List ℕ) → Result X (Stop Fault) → List ℕ → Type 0
Leaves more (Ok x) rest = more x ≡ rest
Leaves more (Err stop.Memory) rest = Unit {0}
Leaves more (Err (stop.Fault f)) rest = ⊥

-- ---- the types that wait

abbrev pub entries_of : Wire ℕ → List (Entry ℕ)
entries_of (Simple p) = []
entries_of (Opt t) = []
entries_of (Vec t) = []
entries_of (Record es) = es
entries_of (Variant es) = es
entries_of (Func ps rs ns) = []
entries_of (Service ms) = []

abbrev pub entry_type : Option (Entry ℕ) → Option ℕ
entry_type None = None
entry_type (Some e) = Some e.part

-- the types that a goal stands for
abbrev pub goal_types : List (Wire ℕ) → Goal → List ℕ
goal_types shapes (goal.Copies t n) = copies n t
goal_types shapes (goal.Rest t i) = parts_of (drop i (entries_of (shape_at shapes t)))

abbrev pub left : List (Wire ℕ) → List Goal → List ℕ
left shapes [] = []
left shapes (g ∷ more) = goal_types shapes g ++ left shapes more

abbrev pub all_types : List (Wire ℕ) → Option Goal → List ℕ
all_types shapes None = []
all_types shapes (Some g) = goal_types shapes g

-- the first type is taken off, or there is none
abbrev pub NextIs : Result (Option ℕ) (Stop Fault) → List ℕ → List ℕ → Type 0
NextIs (Ok None) old new = old ≡ []
NextIs (Ok (Some t)) old new = old ≡ t ∷ new
NextIs (Err stop.Memory) old new = Unit {0}
NextIs (Err (stop.Fault f)) old new = ⊥

abbrev pub Splits : List (Wire ℕ) → List ℕ → Option (ℕ × Goal) → Type 0
Splits shapes types None = types ≡ []
Splits shapes types (Some x) = types ≡ x.0 ∷ goal_types shapes x.1
