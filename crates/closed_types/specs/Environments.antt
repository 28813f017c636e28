-- Environments in which bodies of functions with type parameters run, and what a call makes of them (Motoko language manual, sections "Type
-- parameters" and "Function calls").
use Rattle.std.specs.Prelude.{◌≡◌, ◌⊎◌, ℕ, List, ◌∷◌, ◌++◌, length}
use Rattle.mo_types.specs.declared.node.Node.TheVariants as node
use Rattle.mo_types.specs.declared.node.TypeId.{TypeId}
use Rattle.mo_types.specs.Graph.{Slot, head_at}
use Rattle.mo_types.specs.Sub.{IsSubtype}
use Rattle.typed_tree.specs.Instances.{IsAmong, AreWithinBounds}
use Rattle.closed_types.specs.Closings.{BoundsMention}
use Rattle.closed_types.specs.Expanded.{Environment, none_id, value_in, close_in, expanded}

module _ (types : List Slot) (first : ℕ) where
  -- types within the bounds stand in the place of these type parameters, and of no others
  pub record IsEnvironment (scope : List ℕ) (e : Environment) : Type 0 where
    pub within : (t b : TypeId) (v : ℕ) → head_at types t ≡ node.Variable v b → IsSubtype (expanded types first) (value_in types first e v) (close_in types first e b)
    pub others : (v : ℕ) → IsAmong v scope ⊎ (value_in types first e v ≡ none_id types first)

  -- an environment further inside: the same stands in the place of these type parameters
  abbrev pub IsInside : List ℕ → Environment → Environment → Type 0
  IsInside scope e at = (v : ℕ) → IsAmong v scope → value_in types first at v ≡ value_in types first e v

  -- around a body that is called with these types: they stand for what they are where the call is, before what stands around the function
  abbrev pub with_arguments : Environment → List ℕ → List TypeId → Environment → Environment
  with_arguments at (v ∷ vs) (t ∷ ts) e = record { parameter = v; argument = close_in types first at t } ∷ with_arguments at vs ts e
  with_arguments at _ _ e = e

  -- a function with these type parameters, none of which is in scope around it; and bounds mention what is in scope alone
  pub record HasParameters (scope vs : List ℕ) : Type 0 where
    pub fresh : (v : ℕ) → IsAmong v scope → IsAmong v vs → ⊥
    pub inner : BoundsMention (head_at types) (expanded types first) vs (vs ++ scope)
    pub outer : BoundsMention (head_at types) (expanded types first) scope scope

  -- a call with such types where such an environment is
  pub record IsCall (scope vs : List ℕ) (ts : List TypeId) (at : Environment) : Type 0 where
    pub many : length ts ≡ length vs
    pub bounds : AreWithinBounds (head_at types) vs ts
    pub around : List ℕ
    pub there : IsEnvironment around at
