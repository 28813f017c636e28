-- How what the rules know around an expression, what stands around it where it is written out, and what is known around a typed tree fit together.
use Rattle.std.specs.Prelude.{◌≡◌, ◌≢◌, ℕ, Bool, true, false, List, [], ◌++◌, Some, slice_get}
use Rattle.mo_scopes.specs.Scopes.{named}
use Rattle.mo_types.specs.declared.node.Node.TheVariants as node
use Rattle.mo_types.specs.declared.node.Sort.{Sort}
use Rattle.mo_types.specs.declared.node.Sort.TheVariants as sort
use Rattle.mo_types.specs.declared.node.TypeId.{TypeId}
use Rattle.mo_types.specs.Graph.{Slot, head_at}
use Rattle.mo_types.specs.Heads.{opt_of}
use Rattle.mo_types.specs.Sub.{IsSomething}
use Rattle.subtype_laws.specs.Reached.{Among}
use Rattle.typed_tree.specs.ActionTypes as typed
use Rattle.typed_tree.specs.Wants.{Want, Of, CellOf, FutureOf, Generic}
use Rattle.typing_rules.specs.AbstractSyntax.{Bytes}
use Rattle.typing_rules.specs.AsyncPlaces.{Body, Update, Query, Local, calls}
use Rattle.typing_rules.specs.Contexts.{Bound, Label, Context, value_named}
use Rattle.typing_rules.specs.Definitions.{Definitions}
use Rattle.typing_rules.specs.Heads.{head}
use Rattle.typing_rules.specs.Terms.{Term, unit}
use Rattle.typing_rules.specs.TypeScopes.{TypeScope}
use Rattle.desugaring.specs.Frames.{Frame, is_label, is_continued, is_optional, is_returned, found, exit}
use Rattle.desugaring_laws.specs.Known.{IsKnown}
use Rattle.desugaring_laws.specs.Scopes.{IsScopeFine, AreBoundsIn}

-- how the function is called in whose body an expression stands
abbrev pub sort_of : Body → Sort
sort_of Update = sort.Shared
sort_of Query = sort.Query
sort_of Local = sort.Local

module _ (defs : Definitions) (slots : List Slot) (terms : List Term) (number : Term → TypeId) (vs : List ℕ) (body : Body) where
  -- A name that is bound so stands for this; it is one of a cell or not. A future is in reach where shared functions may be called.
  pub data StandsFor (b : Bound) (cell : Bool) (w : Want TypeId) : Type 0 where
    AValue : (b.mutable ≡ false) → (b.generics ≡ []) → (cell ≡ false) → IsKnown defs terms vs b.type → (w ≡ Of (number b.type)) → StandsFor b cell w
    ACell : (b.mutable ≡ true) → (b.generics ≡ []) → (cell ≡ true) → IsKnown defs terms vs b.type → (w ≡ CellOf (number b.type)) → StandsFor b cell w
    AFuture : (b.mutable ≡ false) → (b.generics ≡ []) → (cell ≡ false) → (a : Term) → (head defs b.type ≡ node.Async a) → IsKnown defs terms vs a → (calls body ≡ true → w ≡ FutureOf (number a))
        → StandsFor b cell w
    AGeneric : (b.mutable ≡ false) → (b.generics ≢ []) → (cell ≡ false) → IsKnown defs terms (b.generics ++ vs) b.type → (w ≡ Generic b.generics (number b.type)) → StandsFor b cell w

module _ (defs : Definitions) (slots : List Slot) (terms : List Term) (number : Term → TypeId) where
  -- what leaves a label, and what ends the body of a loop under it
  pub record IsLabelled (f : Frame) (c : typed.Context) (x : Bytes) (l : Label) : Type 0 where
    pub known : IsKnown defs terms c.parameters l.type
    pub left : slice_get c.labels (exit f (is_label x)) ≡ Some (number l.type)
    pub continued : l.loop ≡ true → slice_get c.labels (exit f (is_continued x)) ≡ Some (number unit)

  pub record IsReturned (f : Frame) (c : typed.Context) (u : Term) : Type 0 where
    pub known : IsKnown defs terms c.parameters u
    pub left : slice_get c.labels (exit f is_returned) ≡ Some (number u)

  -- for what uses none but these names, in this scope of types
  pub record Fits (scope : TypeScope) (used : List Bytes) (e : Context) (f : Frame) (c : typed.Context) : Type 0 where
    pub names : (x : Bytes) → Among x used → (b : Bound) → value_named e x ≡ Some b → (w : Want TypeId) × (slice_get c.names (found f x).index ≡ Some w) × StandsFor defs slots terms number c.parameters e.body b (found f x).cell w
    pub labels : (x : Bytes) (l : Label) → named e.labels x ≡ Some l → IsLabelled f c x l
    pub returns : (u : Term) → e.returns ≡ Some u → IsReturned f c u
    pub options : e.ends ≡ true → (o : TypeId) × (slice_get c.labels (exit f is_optional) ≡ Some o) × IsSomething (opt_of (head_at slots o))
    pub body_is : c.body ≡ sort_of e.body
    pub types : IsScopeFine defs c.parameters e.types
    pub bounds : AreBoundsIn c.parameters defs
    pub scope_is : e.types ≡ scope
