-- What is asked of the types of a program (Motoko language manual, sections "Types" and "Well-formed types").
use Rattle.std.specs.Prelude.{◌≡◌, ◌≢◌, ◌<◌, ℕ, List, [], ◌∷◌, ◌++◌, length, map, true, false, None}
use Rattle.mo_types.specs.declared.node.Node.{Node}
use Rattle.mo_types.specs.declared.node.Node.TheVariants as node
use Rattle.mo_types.specs.declared.node.Field.{Field}
use Rattle.mo_types.specs.declared.node.Sort.TheVariants as sort
use Rattle.mo_types.specs.declared.node.TypeId.{TypeId}
use Rattle.mo_types.specs.Graph.{Slot, node_of, head_at}
use Rattle.mo_types.specs.Heads.{async_of}
use Rattle.mo_types.specs.Label.{label_id}
use Rattle.mo_types.specs.Sub.{AtSome, Each}
use Rattle.mo_types.specs.Values.{is_method_name}
use Rattle.typed_tree.specs.Instances.{types_in}
use Rattle.typed_tree.specs.OperationTypes.{Distinct}
use Rattle.typed_tree.specs.Shareable.{IsSharedFunction, IsShareable}

-- labels have different numbers in Candid
abbrev pub LabelsDiffer : {A : Type 0} → List (Field A) → Type 0
LabelsDiffer fs = Distinct (map (λ f. label_id f.label) fs)

abbrev pub AreConstant : {A : Type 0} → List (Field A) → Type 0
AreConstant fs = Each (λ f. f.mutable ≡ false) fs

module _ {A : Type 0} (head : A → Node A) where
  -- of a shared function what goes into messages is shareable
  abbrev pub IsLawfulNode : Node A → Type 0
  IsLawfulNode (node.Tuple ts) = length ts ≢ 1
  IsLawfulNode (node.Object fs) = LabelsDiffer fs
  IsLawfulNode (node.Variant fs) = LabelsDiffer fs × AreConstant fs
  IsLawfulNode (node.Actor fs) = LabelsDiffer fs × AreConstant fs × Each (λ f. IsSharedFunction (head f.part) × (is_method_name f.label ≡ true)) fs
  IsLawfulNode (node.Func sort.Local ps rs) = length rs ≡ 1
  IsLawfulNode (node.Func _ ps rs) = Each (IsShareable head) (ps ++ rs)
  IsLawfulNode _ = Unit {0}

  -- a future is no part of a type
  abbrev pub HasNoFuture : Node A → Type 0
  HasNoFuture x = Each (λ t. async_of (head t) ≡ None) (types_in x)

-- what stands under each number of the graph is defined, and so are its parts
abbrev pub AllDefined : List Slot → List Slot → Type 0
AllDefined types [] = Unit {0}
AllDefined types (s ∷ slots) = AtSome (node_of s) (λ n. Each (λ t. t.index < length types) (types_in n)) × AllDefined types slots

pub record AreLawful (types : List Slot) : Type 0 where
  pub defined : AllDefined types types
  pub nodes : (t : TypeId) → IsLawfulNode (head_at types) (head_at types t) × HasNoFuture (head_at types) (head_at types t)
  -- a type parameter has one bound
  pub bounds : (t u b c : TypeId) (v : ℕ) → head_at types t ≡ node.Variable v b → head_at types u ≡ node.Variable v c → b ≡ c
  -- bounds that are parameters themselves come to an end: each has a lower rank than the parameter that it is the bound of
  pub rank : ℕ → ℕ
  pub bounds_end : (t b c : TypeId) (v w : ℕ) → head_at types t ≡ node.Variable v b → head_at types b ≡ node.Variable w c → rank w < rank v
