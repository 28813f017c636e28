-- What typing goes by where a program with type parameters runs: its types in environments (Motoko language manual, sections "Type parameters" and
-- "Function calls").
use Rattle.std.specs.Prelude.{◌≡◌, ◌<◌, ℕ, List, [], ◌∷◌, ◌++◌, length}
use Rattle.mo_types.specs.declared.node.Node.TheVariants as node
use Rattle.mo_types.specs.declared.node.TypeId.{TypeId}
use Rattle.mo_types.specs.Graph.{Slot, head_at}
use Rattle.mo_types.specs.Sub.{IsSubtype, Each}
use Rattle.typed_tree.specs.Shareable.{IsShareable}
use Rattle.closed_types.specs.Expanded.{Environment, id_of, written, read, value_in, close_in, expanded}
use Rattle.closed_types.specs.Numbering.{number_of_list, list_of_number}
use Rattle.mo_soundness.specs.Worlds.{World}

-- ---- a type in an environment as one number

abbrev pub first_type : List ℕ → TypeId
first_type [] = id_of 0
first_type (n ∷ ns) = id_of n

abbrev pub behind_first : List ℕ → List ℕ
behind_first [] = []
behind_first (n ∷ ns) = ns

unfoldable pub coded : Environment → TypeId → TypeId
coded e t = id_of (number_of_list (t.index ∷ written e))

unfoldable pub type_of : TypeId → TypeId
type_of g = first_type (list_of_number g.index)

unfoldable pub environment_of : TypeId → Environment
environment_of g = read (behind_first (list_of_number g.index))

-- ---- the types of a function with type parameters

-- these types stand for the type parameters, before what stands around
abbrev pub bound : List ℕ → List TypeId → Environment → Environment
bound (v ∷ vs) (t ∷ ts) e = record { parameter = v; argument = t } ∷ bound vs ts e
bound _ _ e = e

module _ (types : List Slot) (first : ℕ) where
  -- what stands in the place of each type parameter is below its bound
  abbrev pub Within : Environment → Type 0
  Within e = (t b : TypeId) (v : ℕ) → head_at types t ≡ node.Variable v b → IsSubtype (expanded types first) (value_in types first e v) (close_in types first e b)

  -- what a function's type comes to, for types within the bounds
  abbrev pub InstanceIn : List ℕ → TypeId → TypeId → Type 0
  InstanceIn vs g u = (ts : List TypeId) × (length ts ≡ length vs) × Within (bound vs ts (environment_of g)) × (u ≡ close_in types first (bound vs ts (environment_of g)) (type_of g))

  -- a type that is itself where nothing is put in, and has the same values there
  abbrev pub Stays : TypeId → Type 0
  Stays t = IsShareable (head_at types) t × (t.index < first)

  abbrev pub closed_world : World
  closed_world = record { head = expanded types first; meant = head_at types; Instance = λ vs g u. InstanceIn vs g u; IsMessage = λ ps rs. Each Stays (ps ++ rs) }
