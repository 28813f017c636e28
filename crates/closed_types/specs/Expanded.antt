-- The types of a program with types in the place of their type parameters (Motoko language manual, section "Type parameters"). Each is one of
-- the program's types with what stands in the place of the type parameters, which is again of this kind; so there are infinitely many. A
-- type of the program with nothing in their place is itself. Where nothing stands in the place of a type parameter, it is None. The others
-- have numbers from `first` on, which is behind all types of the program.
use Rattle.std.specs.Prelude.{ℕ, ◌+◌, ◌-◌, List, [], ◌∷◌, cond, Option, Some, None, nat_eq, nat_lt}
use Rattle.mo_types.specs.declared.node.Node.{Node}
use Rattle.mo_types.specs.declared.node.Node.TheVariants as node
use Rattle.mo_types.specs.declared.node.TypeId.{TypeId}
use Rattle.mo_types.specs.Graph.{Slot, head_at}
use Rattle.mo_types.specs.Heads.{variable_of}
use Rattle.mo_subtype.specs.Renamed.{on_node}
use Rattle.closed_types.specs.Numbering.{number_of_list, list_of_number}

-- a type parameter, and the type in its place
pub record Binding : Type 0 where
  pub parameter : ℕ
  pub argument : TypeId

-- the first one of a type parameter counts
abbrev pub Environment : Type 0
Environment = List Binding

abbrev pub id_of : ℕ → TypeId
id_of n = record { index = n }

abbrev pub written : Environment → List ℕ
written [] = []
written (b ∷ e) = b.parameter ∷ b.argument.index ∷ written e

abbrev pub read : List ℕ → Environment
read [] = []
read (v ∷ []) = []
read (v ∷ a ∷ ns) = record { parameter = v; argument = id_of a } ∷ read ns

module _ (types : List Slot) (first : ℕ) where
  -- behind all types of the program
  abbrev pub none_id : TypeId
  none_id = id_of first

  abbrev pub value_in : Environment → ℕ → TypeId
  value_in [] v = none_id
  value_in (b ∷ e) v = cond (nat_eq v b.parameter) b.argument (value_in e v)

  -- a type that is no type parameter, in an environment
  abbrev pub placed : Environment → TypeId → TypeId
  placed [] t = cond (nat_lt t.index first) t none_id
  placed (b ∷ e) t = id_of (first + number_of_list (t.index ∷ written (b ∷ e)))

  abbrev pub closed_as : Environment → TypeId → Option ℕ → TypeId
  closed_as e t None = placed e t
  closed_as e t (Some v) = value_in e v

  abbrev pub close_in : Environment → TypeId → TypeId
  close_in e t = closed_as e t (variable_of (head_at types t))

  -- type parameters themselves are nothing here
  abbrev pub opened : Environment → Node TypeId → Node TypeId
  opened e (node.Variable v b) = node.Bottom
  opened e x = on_node (close_in e) x

  abbrev pub opened_list : List ℕ → Node TypeId
  opened_list [] = node.Bottom
  opened_list (t ∷ ns) = opened (read ns) (head_at types (id_of t))

  abbrev pub expanded : TypeId → Node TypeId
  expanded t = cond (nat_lt t.index first) (opened [] (head_at types t)) (opened_list (list_of_number (t.index - first)))
