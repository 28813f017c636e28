-- What is known of each declaration of a list before its parts are put in order.
use Rattle.std.specs.Prelude.{◌≡◌, ◌⊎◌, ◌<◌, ℕ, zero, suc, Bool, true, false, List, [], ◌∷◌, ◌++◌, length, Option, Some, None, slice_get}
use Rattle.mo_scopes.specs.Scopes.{named}
use Rattle.mo_types.specs.declared.node.Sort.TheVariants as sort
use Rattle.mo_types.specs.declared.node.TypeId.{TypeId}
use Rattle.mo_types.specs.Graph.{Slot, head_at}
use Rattle.subtype_laws.specs.Reached.{Among}
use Rattle.typed_tree.specs.declared.expression.Function.{Function}
use Rattle.typed_tree.specs.declared.expression.Step.{Step}
use Rattle.typed_tree.specs.declared.expression.TypedExpression.{TypedExpression}
use Rattle.typed_tree.specs.ActionTypes.{Context}
use Rattle.typed_tree.specs.Placing.{Declared, place}
use Rattle.typed_tree.specs.Typing.{Signature, NameOf, IsFunctionOf, Declares, Typed}
use Rattle.typed_tree.specs.Wants.{Want}
use Rattle.typing_rules.specs.AbstractSyntax.{Bytes}
use Rattle.typing_rules.specs.AsyncPlaces.{Body}
use Rattle.typing_rules.specs.Contexts.{Bound, Scope}
use Rattle.typing_rules.specs.Definitions.{Definitions}
use Rattle.typing_rules.specs.Terms.{Term}
use Rattle.desugaring.specs.Frames.{Entry, Frame, kept_at}
use Rattle.desugaring.specs.Pieces.{Becomes, AStep, AFunction, AnExpression, Nothing, Piece, is_end}
use Rattle.expression_laws.specs.Fitting.{StandsFor}
use Rattle.list_laws.specs.Standing.{entry_names, NoneKept, StandsIn}

-- what the rules of a list give for one of its declarations
pub data Fact : Type 0 where
  -- one that is evaluated in order, with its names and what they are bound to
  Evaluates : (names : List Bytes) → (scope : Scope) → Fact
  -- a function, whose place is behind so many declarations, with what its name is bound to and what it stands for
  IsFunction : (x : Bytes) → (p : ℕ) → (b : Bound) → (w : Want TypeId) → Fact
  -- another, which has no name
  Other : Fact

-- what is bound where the n-th is judged, with this outside
abbrev pub scope_at : ℕ → List Fact → Scope → Scope
scope_at zero facts base = base
scope_at (suc n) [] base = base
scope_at (suc n) (Evaluates xs s ∷ facts) base = scope_at n facts (s ++ base)
scope_at (suc n) (_ ∷ facts) base = scope_at n facts base

-- a name that is defined by the first n
abbrev pub DefinedBefore : ℕ → Bytes → List Fact → Type 0
DefinedBefore zero y facts = ⊥
DefinedBefore (suc n) y [] = ⊥
DefinedBefore (suc n) y (Evaluates xs s ∷ facts) = Among y xs ⊎ DefinedBefore n y facts
DefinedBefore (suc n) y (_ ∷ facts) = DefinedBefore n y facts

-- a function whose place is before the k-th
abbrev pub FunctionBefore : ℕ → Bytes → List Fact → Type 0
FunctionBefore k y [] = ⊥
FunctionBefore k y (IsFunction x p b w ∷ facts) = ((y ≡ x) × (p < k)) ⊎ FunctionBefore k y facts
FunctionBefore k y (_ ∷ facts) = FunctionBefore k y facts

-- each of the n-th declaration and those behind it has a fact
abbrev pub nth : ℕ → List Fact → Option Fact
nth n [] = None
nth zero (x ∷ facts) = Some x
nth (suc n) (x ∷ facts) = nth n facts

module _ (defs : Definitions) (slots : List Slot) (terms : List Term) (number : Term → TypeId) (body : Body) (base : Scope) (f0 : Frame) (c0 : Context) (outer : List Bytes) (facts : List Fact) where
  abbrev pub vs : List ℕ
  vs = c0.parameters

  abbrev pub Stands : Frame → Context → Bytes → Bound → Type 0
  Stands f c y b = StandsIn defs slots terms number vs body f.names c.names y b

  -- what was kept of stable variables stands as before the list
  abbrev pub StaysKept : Frame → Context → Type 0
  StaysKept f c = (x : Bytes) → slice_get c.names (kept_at f x) ≡ slice_get c0.names (kept_at f0 x)

  -- around a part that uses these names, where this is bound
  pub record Around (uses : List Bytes) (scope : Scope) (f : Frame) (c : Context) : Type 0 where
    pub stand : (y : Bytes) → Among y uses → (b : Bound) → named scope y ≡ Some b → Stands f c y b
    pub kept : StaysKept f c
    pub exits : f.exits ≡ f0.exits
    pub labels : c.labels ≡ c0.labels
    pub body_is : c.body ≡ c0.body
    pub parameters : c.parameters ≡ c0.parameters

  -- a name that stands around where so many groups and so many declarations do
  abbrev pub Reach : ℕ → ℕ → Bytes → Type 0
  Reach k n y = Among y outer ⊎ (DefinedBefore n y facts ⊎ FunctionBefore k y facts)

  pub record At (k n : ℕ) (f : Frame) (c : Context) : Type 0 where
    pub stand : (y : Bytes) → Reach k n y → (b : Bound) → named (scope_at n facts base) y ≡ Some b → Stands f c y b
    pub kept : StaysKept f c
    pub exits : f.exits ≡ f0.exits
    pub labels : c.labels ≡ c0.labels
    pub body_is : c.body ≡ c0.body
    pub parameters : c.parameters ≡ c0.parameters

  -- a declaration that is evaluated, with its names and what they stand for, and the names that it uses
  pub record StepFact (n : ℕ) (binds : List Entry) (step : Frame → Step) (xs : List Bytes) (s : Scope) : Type 0 where
    pub names : entry_names binds ≡ xs
    pub none_kept : NoneKept binds
    pub uses : List Bytes
    pub there : (y : Bytes) → Among y uses → Reach (suc n) n y
    pub others : (y : Bytes) → (Among y xs → ⊥) → (u : Scope) → named (s ++ u) y ≡ named u y
    pub typed : (f : Frame) (c : Context) → Around uses (scope_at n facts base) f c
        → (ns : List (Want TypeId)) × Declares slots (step f) c ns × (length ns ≡ length binds)
        × ((y : Bytes) → Among y xs → (u : Scope) (b : Bound) → named (s ++ u) y ≡ Some b → (rest : List Entry) (ms : List (Want TypeId)) → StandsIn defs slots terms number vs body (binds ++ rest) (ns ++ ms) y b)

  pub record FunctionFact (all : List Declared) (d : Declared) (y : Bytes) (g : Frame → Function) (x : Bytes) (p : ℕ) (b : Bound) (w : Want TypeId) : Type 0 where
    pub name : y ≡ x
    pub place_is : place all d ≡ p
    -- it is bound so wherever it stands
    pub bound : (n : ℕ) → named (scope_at n facts base) x ≡ Some b
    pub stands : StandsFor defs slots terms number vs body b false w
    pub signature : Signature
    pub local : signature.sort ≡ sort.Local
    pub no_context : signature.context ≡ []
    pub named_so : NameOf (head_at slots) signature w
    -- what it uses stands around it, and is bound so at the end of the list
    pub uses : List Bytes
    pub there : (z : Bytes) → Among z uses → Reach (suc p) p z × (named (scope_at (length facts) facts base) z ≡ named (scope_at p facts base) z)
    pub typed : (f : Frame) (c : Context) → Around uses (scope_at (length facts) facts base) f c → IsFunctionOf slots (g f) c signature

  -- an expression serves where the value of the list is to serve, if it is its last, and else anywhere
  abbrev pub Gives : Bool → Want TypeId → TypedExpression → Context → Type 0
  Gives true of_list e c = Typed slots e c of_list
  Gives false of_list e c = (w : Want TypeId) × Typed slots e c w

  pub record ValueFact (of_list : Want TypeId) (n : ℕ) (is_last : Bool) (e : Frame → TypedExpression) : Type 0 where
    pub uses : List Bytes
    pub there : (y : Bytes) → Among y uses → Reach (suc n) n y
    pub typed : (f : Frame) (c : Context) → Around uses (scope_at n facts base) f c → Gives is_last of_list (e f) c

  module _ (all : List Declared) (pieces : List Piece) (has_value : Bool) (of_list : Want TypeId) where
    abbrev pub IsFact : ℕ → Bool → Declared → Becomes → Fact → Type 0
    IsFact n is_last d (AStep binds step) (Evaluates xs s) = StepFact n binds step xs s
    IsFact n is_last d (AFunction y g) (IsFunction x p b w) = FunctionFact all d y g x p b w
    IsFact n is_last d (AnExpression e) Other = ValueFact of_list n is_last e
    IsFact n is_last d Nothing Other = Unit {0}
    IsFact n is_last d _ _ = ⊥

    -- the pieces from the n-th on, with their facts
    abbrev pub AreFacts : ℕ → List Piece → List Fact → Type 0
    AreFacts n [] [] = Unit {0}
    AreFacts n (b ∷ bs) (x ∷ xs) = (nth n facts ≡ Some x) × IsFact n (is_end all pieces has_value bs) b.declared b.becomes x × AreFacts (suc n) bs xs
    AreFacts n _ _ = ⊥
