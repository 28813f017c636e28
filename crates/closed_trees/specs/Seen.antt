-- Where a tree is typed, and where it runs: the environment of its type parameters, and what its names stand for there (Motoko language manual,
-- sections "Type parameters" and "Declarations").
use Rattle.std.specs.Prelude.{◌≡◌, ◌⊎◌, ℕ, List, [], ◌∷◌, ◌++◌, map}
use Rattle.mo_types.specs.declared.node.Sort.TheVariants as sort
use Rattle.mo_types.specs.declared.node.TypeId.{TypeId}
use Rattle.mo_types.specs.Graph.{Slot, head_at}
use Rattle.typed_tree.specs.ActionTypes.{Context}
use Rattle.typed_tree.specs.Instances.{IsAmong, MentionsOnly}
use Rattle.typed_tree.specs.Wants.{Want, Anything, Of, CellOf, FutureOf, KeptOf, Generic, Equal}
use Rattle.closed_types.specs.Closings.{BoundsMention}
use Rattle.closed_types.specs.Environments.{IsEnvironment, IsInside, HasParameters}
use Rattle.closed_types.specs.Expanded.{Environment, close_in, expanded}
use Rattle.mo_soundness.specs.Running.{Around, AnswerTypes, in_sort}
use Rattle.closed_trees.specs.Worlds.{coded}

-- each of these is one of those
abbrev pub Among : List ℕ → List ℕ → Type 0
Among vs ws = (v : ℕ) → IsAmong v vs → IsAmong v ws

module _ (types : List Slot) (first : ℕ) where
  -- a type with these type parameters in scope comes to one equal to this
  abbrev pub SeesAs : List ℕ → Environment → TypeId → TypeId → Type 0
  SeesAs scope e t u = MentionsOnly (head_at types) scope t × Equal (expanded types first) (close_in types first e t) u

  -- a function with type parameters, from further outside
  pub record SeesGeneric (scope : List ℕ) (e : Environment) (vs : List ℕ) (t : TypeId) (w : Want TypeId) : Type 0 where
    pub outer : List ℕ
    pub at : Environment
    pub around : IsEnvironment types first outer at
    pub inside : IsInside types first outer at e
    pub among : Among outer scope
    pub parameters : HasParameters types first outer vs
    pub mentions : MentionsOnly (head_at types) (vs ++ outer) t
    pub is : w ≡ Generic vs (coded at t)

  -- a name that stands for the one where the tree is typed stands for the other where it runs
  abbrev pub Sees : List ℕ → Environment → Want TypeId → Want TypeId → Type 0
  Sees scope e Anything w = w ≡ Anything
  Sees scope e (Of t) w = (u : TypeId) × (w ≡ Of u) × SeesAs scope e t u
  Sees scope e (CellOf t) w = (u : TypeId) × (w ≡ CellOf u) × SeesAs scope e t u
  Sees scope e (FutureOf t) w = w ≡ FutureOf (close_in types first e t)
  Sees scope e (KeptOf t) w = (u : TypeId) × (w ≡ KeptOf u) × SeesAs scope e t u
  Sees scope e (Generic vs t) w = SeesGeneric scope e vs t w

  abbrev pub SeesAll : List ℕ → Environment → List (Want TypeId) → List (Want TypeId) → Type 0
  SeesAll scope e [] [] = Unit {0}
  SeesAll scope e (w ∷ ws) (u ∷ us) = Sees scope e w u × SeesAll scope e ws us
  SeesAll scope e _ _ = ⊥

  -- what runs sees of a context, with these names
  abbrev pub around_in : Environment → List (Want TypeId) → Context → Around
  around_in e ms c = record { names = ms; labels = map (close_in types first e) c.labels }

  -- an environment of the type parameters in scope, names that are seen in it, and whether calls may be made, as the function's sort says
  pub record Fine (answers : AnswerTypes) (c : Context) (e : Environment) (ms : List (Want TypeId)) : Type 0 where
    pub place : IsEnvironment types first c.parameters e
    pub bounds : BoundsMention (head_at types) (expanded types first) c.parameters c.parameters
    pub names : SeesAll c.parameters e c.names ms
    pub calls : in_sort c.body answers.may_call ≡ c.body
    pub shared : (c.body ≡ sort.Local) ⊎ (e ≡ [])
