-- Types put in the place of all type parameters at once, in another collection of types, in which there are none (Motoko language manual,
-- section "Type parameters").
use Rattle.std.specs.Prelude.{◌≡◌, ◌<◌, ◌⊎◌, ℕ, List, Option, Some, None}
use Rattle.mo_types.specs.declared.node.Node.{Node}
use Rattle.mo_types.specs.declared.node.Node.TheVariants as node
use Rattle.mo_types.specs.Heads.{variable_of}
use Rattle.mo_types.specs.Sub.{IsSubtype}
use Rattle.mo_subtype.specs.Renamed.{on_node}
use Rattle.subtype_laws.specs.Labels.{OwnLabels}
use Rattle.typed_tree.specs.Instances.{IsAmong, MentionsOnly, argument_of}

abbrev pub IsNoVariable : {A : Type 0} → Node A → Type 0
IsNoVariable x = variable_of x ≡ None

-- a collection without type parameters, whose labels tell fields apart
pub record AreClosed {B : Type 0} (head : B → Node B) : Type 0 where
  pub own : (b : B) → OwnLabels (head b)
  pub none : (b : B) → IsNoVariable (head b)

-- bounds that are type parameters themselves come to an end: each has a lower rank than the parameter that it is the bound of
pub record BoundsEnd {A : Type 0} (head : A → Node A) : Type 0 where
  pub rank : ℕ → ℕ
  pub end : (t b c : A) (v w : ℕ) → head t ≡ node.Variable v b → head b ≡ node.Variable w c → rank w < rank v

-- what stands in the place of each type parameter, and what each type comes to with it
pub record Closing {A B : Type 0} (head : A → Node A) (other : B → Node B) : Type 0 where
  pub value : ℕ → B
  pub close : A → B
  pub variables : (t b : A) (v : ℕ) → head t ≡ node.Variable v b → close t ≡ value v
  pub others : (t : A) → IsNoVariable (head t) → other (close t) ≡ on_node close (head t)

module _ {A B : Type 0} (head : A → Node A) (other : B → Node B) where
  -- what stands in the place of a type parameter is below its bound, in which the same types are put in
  abbrev pub IsWithin : Closing head other → Type 0
  IsWithin c = (t b : A) (v : ℕ) → head t ≡ node.Variable v b → IsSubtype other (c.value v) (c.close b)

  -- the same in the place of each of these type parameters
  abbrev pub Agree : Closing head other → Closing head other → List ℕ → Type 0
  Agree c d vs = (v : ℕ) → IsAmong v vs → d.value v ≡ c.value v

  abbrev pub put_value : Closing head other → ℕ → Option A → B
  put_value c v None = c.value v
  put_value c v (Some a) = c.close a

  -- d has in the place of type parameters of a scope what c makes of their arguments, and else what c has
  abbrev pub Puts : Closing head other → List ℕ → List A → List ℕ → Closing head other → Type 0
  Puts c vs ts scope d = (v : ℕ) → IsAmong v scope → d.value v ≡ put_value c v (argument_of vs ts v)

  -- the bound of each of these type parameters mentions no type parameters but those of a scope
  abbrev pub BoundsMention : List ℕ → List ℕ → Type 0
  BoundsMention vs scope = (t b : A) (v : ℕ) → head t ≡ node.Variable v b → IsAmong v vs → MentionsOnly head scope b

  -- each type parameter is one of these, or has a type below all in its place
  abbrev pub OthersNone : Closing head other → List ℕ → Type 0
  OthersNone c vs = (v : ℕ) → IsAmong v vs ⊎ (other (c.value v) ≡ node.Bottom)

  -- no type is put in the place of one of these
  abbrev pub AreKept : List ℕ → List A → List ℕ → Type 0
  AreKept vs ts kept = (v : ℕ) → IsAmong v kept → argument_of vs ts v ≡ None
