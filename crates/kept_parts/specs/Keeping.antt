-- A value of one program at a type of the next one: Motoko language manual, section "Stable variables".
use Rattle.std.specs.Prelude.{◌≡◌, List, [], ◌∷◌, Option, Some, None}
use Rattle.mo_types.specs.declared.datum.Datum.{Datum}
use Rattle.mo_types.specs.declared.node.Node.{Node}
use Rattle.mo_types.specs.declared.node.TypeId.{TypeId}
use Rattle.mo_types.specs.Code.{Keep}
use Rattle.mo_types.specs.Form.{form}
use Rattle.mo_types.specs.Values.{HaveTypes, Values, flat, tree}

-- the parts of the value that it is kept as, or none where it is kept as no value
abbrev pub IsKeptAs : (head next : TypeId → Node TypeId) → (t u : TypeId) → Values → Option (List Datum) → Type 0
IsKeptAs head next t u v None = (w : Values) → Keep head next t u v w → ⊥
IsKeptAs head next t u v (Some parts) = Keep head next t u v (tree parts)

-- ---- at one type

-- the parts of a value of the type with this Candid value
abbrev pub HasForm : (TypeId → Node TypeId) → TypeId → List Datum → List Datum → Type 0
HasForm head t parts candid = HaveTypes head (t ∷ []) (tree parts) × (flat (form head (t ∷ []) (tree parts)) ≡ candid)

abbrev pub IsValueOf : (TypeId → Node TypeId) → TypeId → List Datum → Option (List Datum) → Type 0
IsValueOf head t candid None = (w : Values) → HaveTypes head (t ∷ []) w → flat (form head (t ∷ []) w) ≡ candid → ⊥
IsValueOf head t candid (Some parts) = HasForm head t parts candid
