-- What a judged expression becomes where it is written out.
use Rattle.std.specs.Prelude.{◌≡◌, ◌⊎◌, ℕ, List, ◌∷◌, Option, Some, None}
use Rattle.mo_types.specs.declared.node.Node.TheVariants as node
use Rattle.mo_types.specs.declared.node.Sort.TheVariants as sort
use Rattle.mo_types.specs.declared.node.TypeId.{TypeId}
use Rattle.mo_types.specs.Graph.{Slot, head_at}
use Rattle.subtype_laws.specs.Reached.{Among}
use Rattle.typed_tree.specs.declared.expression.TypedExpression.{TypedExpression}
use Rattle.typed_tree.specs.ActionTypes as typed
use Rattle.typed_tree.specs.Instances.{MentionsOnly}
use Rattle.typed_tree.specs.Typing as tree
use Rattle.typed_tree.specs.Wants.{Anything, Of, FutureOf, Below}
use Rattle.typing_rules.specs.AbstractSyntax.{Bytes, Expression}
use Rattle.typing_rules.specs.AsyncPlaces.{Around, Awaited, Named, Labelled}
use Rattle.typing_rules.specs.Contexts.{Context, Label}
use Rattle.typing_rules.specs.Definitions.{Definitions}
use Rattle.typing_rules.specs.Expressions.{Judge}
use Rattle.typing_rules.specs.Heads.{head}
use Rattle.typing_rules.specs.Terms.{Term}
use Rattle.typing_rules.specs.TypedTrees.{Typed, type_of}
use Rattle.typing_rules.specs.TypeScopes.{TypeScope}
use Rattle.desugaring.specs.Expressions.{tree as written_out, looped}
use Rattle.desugaring.specs.FreeNames.{occurring}
use Rattle.desugaring.specs.Frames.{Frame}
use Rattle.desugaring_laws.specs.Known.{IsFine, IsKnown}
use Rattle.desugaring_laws.specs.Yields.{Yields}
use Rattle.expression_laws.specs.Fitting.{Fits}

-- what is wanted is a type of values in scope
abbrev pub IsWantFine : Definitions → List ℕ → Option Term → Type 0
IsWantFine defs vs None = Unit {0}
IsWantFine defs vs (Some u) = IsFine defs vs u

-- a call of a shared function, or the name of one, may stand there
abbrev pub TakesFuture : Around → Type 0
TakesFuture Awaited = Unit {0}
TakesFuture Named = Unit {0}
TakesFuture _ = ⊥

module _ (defs : Definitions) (slots : List Slot) (terms : List Term) (number : Term → TypeId) where
  abbrev pub IsBelowWanted : Option Term → Term → Type 0
  IsBelowWanted None u = Unit {0}
  IsBelowWanted (Some v) u = Below (head_at slots) (number u) (number v)

  -- what it is written out to: directly under a label a loop has a label more
  abbrev pub standing : Around → List (Bytes × Label) → Frame → Typed → TypedExpression
  standing Labelled (l ∷ ls) f b = looped defs number f l.0 b
  standing _ ls f b = written_out defs number f b

  -- a future of a value of this type
  pub record IsFuture (vs : List ℕ) (o : Around) (u : Term) : Type 0 where
    pub takes : TakesFuture o
    pub there : Among u terms
    pub scoped : MentionsOnly (head defs) vs u
    pub value : Term
    pub head_is : head defs u ≡ node.Async value
    pub known : IsKnown defs terms vs value

  -- a value of this type, and so of each type above it
  pub record GivesValue (c : typed.Context) (u : Term) (e : TypedExpression) : Type 0 where
    pub known : IsKnown defs terms c.parameters u
    pub typed : (t : TypeId) → Below (head_at slots) (number u) t → tree.Typed slots e c (Of t)
    pub unasked : tree.Typed slots e c Anything

  -- where shared functions are called
  pub record GivesFuture (c : typed.Context) (o : Around) (u : Term) (e : TypedExpression) : Type 0 where
    pub called : c.body ≡ sort.Shared
    pub future : IsFuture c.parameters o u
    pub typed : tree.Typed slots e c (FutureOf (number future.value))

  -- a value, or a future where one may stand
  abbrev pub Gives : typed.Context → Around → Term → TypedExpression → Type 0
  Gives c o u e = GivesValue c u e ⊎ GivesFuture c o u e

  -- what is given is written out to a tree of its type, which is below the one that is wanted
  pub record Becomes (o : Around) (ls : List (Bytes × Label)) (f : Frame) (c : typed.Context) (w : Option Term) (b : Typed) : Type 0 where
    pub below : IsBelowWanted w (type_of b)
    pub gives : Gives c o (type_of b) (standing o ls f b)

  -- whatever stands around it in this scope of types
  abbrev pub AreTyped : TypeScope → Expression ℕ → Type 0
  AreTyped scope a = (e : Context) (f : Frame) (c : typed.Context) → Fits defs slots terms number scope (occurring a) e f c → (w : Option Term) → IsWantFine defs c.parameters w
      → Yields defs terms (Judge defs e a w) (Becomes e.around e.labels f c w)
