-- What is reached where a declaration of a list stands is reached at its end.
use Rattle.std.proofs.Common.{◌≡◌, inl, inr, ℕ, zero, suc, ◌<◌, ◌≤◌, List, [], ◌∷◌, length, ◌∙◌, arith}
use Rattle.mo_types.specs.declared.node.TypeId.{TypeId}
use Rattle.mo_types.specs.Graph.{Slot}
use Rattle.subtype_laws.specs.Reached.{Among}
use Rattle.typed_tree.specs.ActionTypes as typed
use Rattle.typing_rules.specs.AbstractSyntax.{Bytes}
use Rattle.typing_rules.specs.AsyncPlaces.{Body}
use Rattle.typing_rules.specs.Contexts.{Scope}
use Rattle.typing_rules.specs.Definitions.{Definitions}
use Rattle.typing_rules.specs.Terms.{Term}
use Rattle.desugaring.specs.Frames.{Frame}
use Rattle.list_laws.specs.Facts.{Fact, Evaluates, IsFunction, Other, scope_at, DefinedBefore, FunctionBefore, Around, At}
use Rattle.block_laws.specs.Order.{Reaches}
use Rattle.block_laws.proofs.Facts.{dropped}
use Rattle.block_laws.proofs.Keeping.{Defined, AllBindOnly, AreApart, bound_to_end}

pub below_length : (n : ℕ) (facts : List Fact) (x : Fact) (xs : List Fact) → dropped n facts ≡ x ∷ xs → n < length facts
below_length zero [] x xs h = cc
below_length zero (y ∷ ys) x xs h = omega (arith)
below_length (suc n) [] x xs h = cc
below_length (suc n) (y ∷ ys) x xs h = omega (arith, below_length n ys x xs h)

pub defined_all : (n : ℕ) (y : Bytes) (facts : List Fact) → DefinedBefore n y facts → DefinedBefore (length facts) y facts
defined_all zero y facts h = absurd h
defined_all (suc n) y [] h = absurd h
defined_all (suc n) y (Evaluates xs s ∷ facts) (inl m) = inl m
defined_all (suc n) y (Evaluates xs s ∷ facts) (inr h) = inr (defined_all n y facts h)
defined_all (suc n) y (IsFunction x p b w ∷ facts) h = defined_all n y facts h
defined_all (suc n) y (Other ∷ facts) h = defined_all n y facts h

further : (p j k : ℕ) → p < j → j ≤ k → p < k
further p j k h i = omega (arith, h, i)

pub function_later : (j k : ℕ) → j ≤ k → (y : Bytes) (facts : List Fact) → FunctionBefore j y facts → FunctionBefore k y facts
function_later j k h y [] f = absurd f
function_later j k h y (Evaluates xs s ∷ facts) f = function_later j k h y facts f
function_later j k h y (IsFunction x p b w ∷ facts) (inl f) = inl (f.0, further p j k f.1 h)
function_later j k h y (IsFunction x p b w ∷ facts) (inr f) = inr (function_later j k h y facts f)
function_later j k h y (Other ∷ facts) f = function_later j k h y facts f

later : (n k : ℕ) → n < k → suc n ≤ suc k
later n k h = omega (arith, h)

pub reached_at_end : (outer : List Bytes) (facts : List Fact) (n : ℕ) → n < length facts → (y : Bytes) → Reaches outer facts (suc n) n y → Reaches outer facts (suc (length facts)) (length facts) y
reached_at_end outer facts n h y (inl m) = inl m
reached_at_end outer facts n h y (inr (inl d)) = inr (inl (defined_all n y facts d))
reached_at_end outer facts n h y (inr (inr f)) = inr (inr (function_later (suc n) (suc (length facts)) (later n (length facts) h) y facts f))

module _ (defs : Definitions) (slots : List Slot) (terms : List Term) (number : Term → TypeId) (body : Body) (base : Scope) (f0 : Frame) (c0 : typed.Context) (outer : List Bytes) (facts : List Fact) (only : AllBindOnly facts) (apart : AreApart facts)
    (outside : (y : Bytes) → Among y outer → Defined y facts → ⊥) (functions : (k : ℕ) (y : Bytes) → FunctionBefore k y facts → Defined y facts → ⊥) (f : Frame) (c : typed.Context)
    (end : At defs slots terms number body base f0 c0 outer facts (suc (length facts)) (length facts) f c) where
  -- so what the n-th declaration uses stands around the end as where that is judged
  pub around_end : (n : ℕ) → n < length facts → (uses : List Bytes) → ((y : Bytes) → Among y uses → Reaches outer facts (suc n) n y) → Around defs slots terms number body base f0 c0 outer facts uses (scope_at n facts base) f c
  around_end n h uses there = record {
    stand = λ y m b e. end.stand y (reached_at_end outer facts n h y (there y m)) b (bound_to_end outer facts only apart outside functions (suc n) n y (there y m) base ∙ e);
    kept = end.kept;
    exits = end.exits;
    labels = end.labels;
    body_is = end.body_is;
    parameters = end.parameters;
  }
