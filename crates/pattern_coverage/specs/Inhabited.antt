-- Values of a type, and which types have some (Motoko language manual, section "Types"): an object that lies in itself has none, nor has one
-- with a cell for which there are no contents.
use Rattle.std.specs.Prelude.{◌≡◌, ◌<◌, ℕ, suc, List, [], ◌∷◌, slice_get, Bool, true, false, ◌&&◌, ◌||◌, Option, Some, None}
use Rattle.mo_types.specs.declared.node.Field.{Field}
use Rattle.mo_types.specs.declared.node.Node.{Node}
use Rattle.mo_types.specs.declared.node.Node.TheVariants as node
use Rattle.mo_types.specs.declared.node.TypeId.{TypeId}
use Rattle.mo_types.specs.Sub.{Each, find}
use Rattle.mo_types.specs.Values.{types_of}
use Rattle.mo_values.specs.Shapes.{Bytes, Shape}
use Rattle.typed_tree.specs.Has.{Judgements, Has}
use Rattle.typed_tree.specs.Wants.{Of}

-- a type that has values whatever its parts are: null, an empty array, a function that never returns, a number
abbrev pub always : {A : Type 0} → Node A → Bool
always node.Bottom = false
always (node.Tuple ts) = false
always (node.Object fs) = false
always (node.Variant fs) = false
always (node.Variable v b) = false
always _ = true

module _ {A : Type 0} (head : A → Node A) where
  mutual
    -- the types that have values
    pub data HasValues : A → Type 0 where
      ByForm : (t : A) → always (head t) ≡ true → HasValues t
      ByParts : (t : A) (ts : List A) → head t ≡ node.Tuple ts → EachHasValues ts → HasValues t
      ByFields : (t : A) (fs : List (Field A)) → head t ≡ node.Object fs → EachHasValues (types_of fs) → HasValues t
      ByTag : (t : A) (fs : List (Field A)) (l : Bytes) (f : Field A) → head t ≡ node.Variant fs → find l fs ≡ Some f → HasValues f.part → HasValues t
      -- a type parameter stands for types within its bound
      ByBound : (t b : A) (v : ℕ) → head t ≡ node.Variable v b → HasValues b → HasValues t

    pub data EachHasValues : List A → Type 0 where
      NoType : EachHasValues []
      AType : (t : A) (ts : List A) → HasValues t → EachHasValues ts → EachHasValues (t ∷ ts)

  -- whatever is known of functions and futures, and of a type parameter whose bound has values
  abbrev pub everything : {F : Type 0} → Judgements A F
  everything = record { FunctionOf = λ f t. Unit {0}; AnswerOf = λ n t. Unit {0}; ParameterOf = λ v s. (t b : A) × (head t ≡ node.Variable v b) × HasValues b }

  -- a value of the type, over some cells for which there are contents
  abbrev pub IsValue : {F : Type 0} → A → Shape F → Type 0
  IsValue t v = (kinds : List A) × Each HasValues kinds × Has head everything kinds (Of t) v

-- ---- tables of types that have values

abbrev pub all_have : {A : Type 0} → (A → Bool) → List A → Bool
all_have has [] = true
all_have has (t ∷ ts) = has t && all_have has ts

abbrev pub some_has : {A : Type 0} → (A → Bool) → List A → Bool
some_has has [] = false
some_has has (t ∷ ts) = has t || some_has has ts

-- a type with this head has values, by those of its parts
abbrev pub by_parts : {A : Type 0} → (A → Bool) → Node A → Bool
by_parts has (node.Tuple ts) = all_have has ts
by_parts has (node.Object fs) = all_have has (types_of fs)
by_parts has (node.Variant fs) = some_has has (types_of fs)
by_parts has (node.Variable v b) = has b
by_parts has x = always x

module _ {A : Type 0} (head : A → Node A) (has : A → Bool) where
  -- what is in the table has values
  abbrev pub IsSound : Type 0
  IsSound = (t : A) → has t ≡ true → HasValues head t

  -- the table has each type that its types make have values
  abbrev pub IsClosed : Type 0
  IsClosed = (t : A) → by_parts has (head t) ≡ true → has t ≡ true

-- a table by the numbers of types
abbrev pub flag_there : Option Bool → Bool
flag_there None = false
flag_there (Some b) = b

abbrev pub in_table : List Bool → TypeId → Bool
in_table table t = flag_there (slice_get table t.index)

-- how many are not in it
abbrev pub left_out : List Bool → ℕ
left_out [] = 0
left_out (true ∷ bs) = left_out bs
left_out (false ∷ bs) = suc (left_out bs)

abbrev pub type_at : ℕ → TypeId
type_at i = record { index = i }

-- number i is not in the table, and is of a type that has values by those that are
abbrev pub IsNext : (TypeId → Node TypeId) → List Bool → ℕ → Type 0
IsNext head table i = (slice_get table i ≡ Some false) × (by_parts (in_table table) (head (type_at i)) ≡ true)

-- among the numbers below n there is none
abbrev pub AreDone : (TypeId → Node TypeId) → List Bool → ℕ → Type 0
AreDone head table n = (i : ℕ) → i < n → by_parts (in_table table) (head (type_at i)) ≡ true → in_table table (type_at i) ≡ true
