-- What one reduction keeps: the types of the expression and of the store. An expression is never stuck (Motoko language manual, sections
-- "Expressions" and "Type soundness").
use Rattle.std.specs.Prelude.{◌≡◌, ◌≢◌, ℕ, List, [], ◌∷◌, ◌++◌, map, true, Option, Some, slice_get}
use Rattle.std.specs.Str.{is_utf8}
use Rattle.mo_types.specs.declared.node.Node.TheVariants as node
use Rattle.mo_types.specs.declared.node.Sort.{Sort}
use Rattle.mo_types.specs.declared.node.Sort.TheVariants as sort
use Rattle.mo_types.specs.declared.node.TypeId.{TypeId}
use Rattle.mo_types.specs.Sub.{AtSome}
use Rattle.typed_tree.specs.ActionTypes.{ResultOf}
use Rattle.typed_tree.specs.Language.{Value, Exp, Val}
use Rattle.typed_tree.specs.Wants.{Want, Of, FutureOf}
use Rattle.mo_meaning.specs.Acts.{Request, Given, Gets, Fails, Act, Goes, Prints, Asks, Awaits, Leaves, Throws, Traps, Stuck}
use Rattle.mo_soundness.specs.Running.{Around, IsErrorValue, AnswerTypes, HasValue, Typed, StoreTyped}
use Rattle.mo_soundness.specs.Worlds.{World}

-- more cells: those that there were stay as they were
abbrev pub IsLonger : List TypeId → List TypeId → Type 0
IsLonger kinds more = (others : List TypeId) × (more ≡ kinds ++ others)

-- more calls are under way, or may be made
abbrev pub KnowsMore : AnswerTypes → AnswerTypes → Type 0
KnowsMore answers more = ((n : ℕ) (t : TypeId) → answers.types n ≡ Some t → more.types n ≡ Some t) × (answers.may_call ≡ true → more.may_call ≡ true)

abbrev pub IsNoValue : Exp → Type 0
IsNoValue (Val v) = ⊥
IsNoValue _ = Unit {0}

-- a closed expression inside labels of these types
abbrev pub closed : List TypeId → Around
closed labels = record { names = []; labels = labels }

module _ (world : World) (answers : AnswerTypes) (kinds : List TypeId) where
  -- as many values as are asked for, each one that fits
  abbrev pub HasEach : List (Want TypeId) → List Value → Type 0
  HasEach [] [] = Unit {0}
  HasEach (w ∷ ws) (v ∷ vs) = HasValue world answers kinds w v × HasEach ws vs
  HasEach _ _ = ⊥

  -- a call of a shared function of such a type, with arguments of the types of its parameters, where calls may be made
  abbrev pub IsRequest : Request → Type 0
  IsRequest q =
      (f r : TypeId) × (how : Sort) × (how ≢ sort.Local) × (world.head f ≡ node.Func how q.parameters q.results) × ResultOf world.head q.results r
      × HasEach (map (λ t. Of t) q.parameters) q.arguments × (answers.may_call ≡ true)
      × world.IsMessage q.parameters q.results

  -- of an expression that gives w, inside labels of these types
  abbrev pub Keeps : List TypeId → Want TypeId → Act → Type 0
  Keeps labels w (Goes cost store e) = (more : List TypeId) × IsLonger kinds more × StoreTyped world answers more store more × Typed world answers more (closed labels) e w
  Keeps labels w (Prints cost text e) = (is_utf8 text ≡ true) × Typed world answers kinds (closed labels) e w
  Keeps labels w (Asks request) = IsRequest request
  Keeps labels w (Awaits nodes call) = AtSome (answers.types call) (λ t. Unit {0}) × (answers.may_call ≡ true)
  Keeps labels w (Leaves label v) = (t : TypeId) × (slice_get labels label ≡ Some t) × HasValue world answers kinds (Of t) v
  Keeps labels w (Throws cost error) = IsErrorValue error × (answers.may_call ≡ true)
  Keeps labels w (Traps cost text) = Unit {0}
  Keeps labels w Stuck = ⊥

  -- what is given fits what was asked: a future of the results, or a value of the answer's type, or an error
  abbrev pub Suits : Option Given → Act → Type 0
  Suits (Some (Gets v)) (Asks request) = (r : TypeId) → ResultOf world.head request.results r → HasValue world answers kinds (FutureOf r) v
  Suits (Some (Fails error)) (Asks request) = IsErrorValue error
  Suits (Some (Gets v)) (Awaits nodes call) = AtSome (answers.types call) (λ t. HasValue world answers kinds (Of t) v)
  Suits (Some (Fails error)) (Awaits nodes call) = IsErrorValue error
  Suits given act = Unit {0}
