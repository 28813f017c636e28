-- What a declaration of a list is written out to, wherever it stands.
use Rattle.std.specs.Prelude.{◌≡◌, ℕ, false, List, [], ◌∷◌, ◌++◌, length, Option, Some, None, slice_get}
use Rattle.mo_scopes.specs.Scopes.{named}
use Rattle.mo_types.specs.declared.node.TypeId.{TypeId}
use Rattle.mo_types.specs.Graph.{Slot}
use Rattle.mo_types.specs.Heads.{async_of}
use Rattle.subtype_laws.specs.Reached.{Among}
use Rattle.typed_tree.specs.declared.expression.Step.{Step}
use Rattle.typed_tree.specs.ActionTypes as typed
use Rattle.typed_tree.specs.Instances.{IsAmong}
use Rattle.typed_tree.specs.Shareable.{IsShareable}
use Rattle.typed_tree.specs.Typing.{Signature, IsFunctionOf, Declares}
use Rattle.typed_tree.specs.Wants.{Want, KeptOf}
use Rattle.typing_rules.specs.AbstractSyntax.{Bytes}
use Rattle.typing_rules.specs.AsyncPlaces.{calls}
use Rattle.typing_rules.specs.Contexts.{Bound, Scope, Context, variable}
use Rattle.typing_rules.specs.Definitions.{Definitions}
use Rattle.typing_rules.specs.Heads.{head}
use Rattle.typing_rules.specs.Lists.{Made, Entry as Given}
use Rattle.typing_rules.specs.Terms.{Term}
use Rattle.typing_rules.specs.Terms as t
use Rattle.desugaring.specs.Expressions.{becomes}
use Rattle.desugaring.specs.Frames.{Entry, Frame, kept_at}
use Rattle.desugaring.specs.Pieces.{Becomes, AStep, AFunction, AnExpression}
use Rattle.expression_laws.specs.Fitting.{Fits}
use Rattle.expression_laws.specs.Results.{IsBelowWanted, GivesValue}
use Rattle.list_laws.specs.Standing.{entry_names, NoneKept, StandsIn}

-- numbers that differ from each other and from these
abbrev pub AreFresh : List ℕ → List ℕ → Type 0
AreFresh ps [] = Unit {0}
AreFresh ps (v ∷ vs) = (IsAmong v (vs ++ ps) → ⊥) × AreFresh ps vs

-- these type parameters are among the types
abbrev pub AreThere : List Term → List ℕ → Type 0
AreThere terms [] = Unit {0}
AreThere terms (v ∷ vs) = Among (t.Parameter v) terms × AreThere terms vs

module _ (defs : Definitions) (slots : List Slot) (terms : List Term) (number : Term → TypeId) where
  -- what is around something that uses these names, where it is written out and where it is typed, with these type parameters in scope
  pub record Standing (vs : List ℕ) (uses : List Bytes) (e : Context) : Type 0 where
    pub frame : Frame
    pub context : typed.Context
    pub parameters : context.parameters ≡ vs
    pub fits : Fits defs slots terms number e.types uses e frame context

  -- a function of this name and signature
  abbrev pub FunctionMade : List ℕ → List Bytes → Context → Bytes → Signature → Becomes → Type 0
  FunctionMade vs uses e x s (AFunction y make) = (y ≡ x) × ((w : Standing vs uses e) → IsFunctionOf slots (make w.frame) w.context s)
  FunctionMade vs uses e x s _ = ⊥

  -- A step is typed, and each of these names stands for what it is bound to.
  pub record StepTyped (vs : List ℕ) (uses : List Bytes) (e : Context) (binds : List Entry) (step : Frame → Step) (xs : List Bytes) (scope : Scope) (w : Standing vs uses e) : Type 0 where
    pub wants : List (Want TypeId)
    pub declares : Declares slots (step w.frame) w.context wants
    pub many : length wants ≡ length binds
    pub stand : (y : Bytes) → Among y xs → (u : Scope) (b : Bound) → named (scope ++ u) y ≡ Some b → (rest : List Entry) (ms : List (Want TypeId))
        → StandsIn defs slots terms number w.context.parameters e.body (binds ++ rest) (wants ++ ms) y b
    -- a future is bound only where shared functions are called
    pub plain : calls e.body ≡ false → (y : Bytes) → Among y xs → (u : Scope) (b : Bound) → named (scope ++ u) y ≡ Some b → async_of (head defs b.type) ≡ None

  -- a step that binds these names so
  abbrev pub StepMade : List ℕ → List Bytes → Context → List Bytes → Scope → Becomes → Type 0
  StepMade vs uses e xs scope (AStep binds step) =
      (entry_names binds ≡ xs) × ((y : Bytes) → (Among y xs → ⊥) → (u : Scope) → named (scope ++ u) y ≡ named u y) × ((w : Standing vs uses e) → StepTyped vs uses e binds step xs scope w)
      × NoneKept binds
  StepMade vs uses e xs scope _ = ⊥

  -- A step that binds a stable variable, where what was kept of it stands for a value of its type, which is shareable.
  abbrev pub StableMade : List ℕ → List Bytes → Context → Bytes → Scope → Becomes → Type 0
  StableMade vs uses e x scope (AStep binds step) =
      (entry_names binds ≡ x ∷ []) × ((y : Bytes) → (Among y (x ∷ []) → ⊥) → (u : Scope) → named (scope ++ u) y ≡ named u y)
      × ((u : Term) × (scope ≡ (x, variable u) ∷ []) × IsShareable (head defs) u
      × ((w : Standing vs uses e) → slice_get w.context.names (kept_at w.frame x) ≡ Some (KeptOf (number u)) → StepTyped vs uses e binds step (x ∷ []) scope w)) × NoneKept binds
  StableMade vs uses e x scope _ = ⊥

  -- a value of this type, which is below the one that is wanted
  abbrev pub ValueMade : List ℕ → List Bytes → Context → Option Term → Option Term → Becomes → Type 0
  ValueMade vs uses e w (Some u) (AnExpression x) = (s : Standing vs uses e) → IsBelowWanted defs slots terms number w u × GivesValue defs slots terms number s.context u (x s.frame)
  ValueMade vs uses e w _ _ = ⊥

  -- of the one declaration that is given
  abbrev pub OneMade : (Becomes → Type 0) → Given → Type 0
  OneMade P g = by g.made
    where
      by : List Made → Type 0
      by (d ∷ []) = P (becomes defs number d.0 d.1)
      by _ = ⊥
