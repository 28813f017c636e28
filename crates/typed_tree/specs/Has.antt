-- Which values a type has (Motoko language manual, section "Types"), by cases on the value. What a function or a future is a value
-- of, and what is known of a type parameter, is left open: the rules of typing say it, for each language.
use Rattle.std.specs.Prelude.{◌≡◌, ◌⊎◌, ◌<◌, ◌^◌, ℕ, List, [], ◌∷◌, map, Bool, true, false, Option, Some, None, slice_get}
use Rattle.std.specs.Str.{is_utf8}
use Rattle.mo_types.specs.declared.datum.Datum.{Datum}
use Rattle.mo_types.specs.declared.datum.Datum.TheVariants as part
use Rattle.mo_types.specs.declared.node.Node.{Node}
use Rattle.mo_types.specs.declared.node.Node.TheVariants as node
use Rattle.mo_types.specs.declared.node.Field.{Field}
use Rattle.mo_types.specs.declared.node.Sort.TheVariants as sort
use Rattle.mo_types.specs.Heads.{is_error, opt_of, array_of, mut_array_of, tuple_of, object_of, variant_of, async_of}
use Rattle.mo_types.specs.Sub.{AtSome, IsSomething, Each, find}
use Rattle.mo_types.specs.Values.{IsPartOf, copies}
use Rattle.mo_values.specs.declared.error_code.ErrorCode.{ErrorCode}
use Rattle.mo_values.specs.declared.error_code.ErrorCode.TheVariants as error
use Rattle.mo_values.specs.Shapes.{Head, Leaf, Present, Tuple, Array, Object, Tag, Error, Cell, Future, Shape, Shapes, Made, Function, NoShape, AShape}
use Rattle.mo_values.specs.Messages.{count}
use Rattle.typed_tree.specs.Instances.{IsAmong}
use Rattle.typed_tree.specs.Wants.{Want, Anything, Of, CellOf, FutureOf, KeptOf, Generic, Equal}

-- null, a truth value, a number, a character, a text, a Blob, a principal, an actor or a shared function
abbrev pub IsLeafPart : Datum → Type 0
IsLeafPart part.Present = ⊥
IsLeafPart (part.Many n) = ⊥
IsLeafPart (part.Record n) = ⊥
IsLeafPart (part.Tag i) = ⊥
IsLeafPart _ = Unit {0}

-- a code of 32 bits
abbrev pub IsCode : ErrorCode → Type 0
IsCode (error.Future n) = n < 2 ^ 32
IsCode (error.CallError n) = n < 2 ^ 32
IsCode _ = Unit {0}

-- A cell is no value of any type, not even of Any: what stands for it is a variable, a `var` field or an element.
abbrev pub IsNoCell : Head → Type 0
IsNoCell (Cell at) = ⊥
IsNoCell _ = Unit {0}

module _ {A : Type 0} where
  -- ---- what is asked of the values inside, by the head of the value and then by the type

  abbrev pub by_mutability : Bool → A → Want A
  by_mutability true t = CellOf t
  by_mutability false t = Of t

  abbrev pub field_want : Option (Field A) → Want A
  field_want None = Anything
  field_want (Some f) = by_mutability f.mutable f.part

  abbrev pub tag_want : Option (Field A) → Want A
  tag_want None = Anything
  tag_want (Some f) = Of f.part

  -- by the type, or else by the head alone
  abbrev pub some_wants : {V : Type 0} → List (Want A) → (V → List (Want A)) → Option V → List (Want A)
  some_wants others f None = others
  some_wants others f (Some v) = f v

  abbrev pub array_wants : ℕ → Option A → Option A → List (Want A)
  array_wants n (Some a) o = copies n (Of a)
  array_wants n None (Some a) = copies n (CellOf a)
  array_wants n None None = copies n Anything

  -- of a value with this head and so many values inside
  abbrev pub wants : Head → Node A → ℕ → List (Want A)
  wants (Leaf p) x n = []
  wants Present x n = some_wants (Anything ∷ []) (λ a. Of a ∷ []) (opt_of x)
  wants Tuple x n = some_wants (copies n Anything) (λ ts. map (λ t. Of t) ts) (tuple_of x)
  wants Array x n = array_wants n (array_of x) (mut_array_of x)
  wants (Object ls) x n = some_wants (map (λ l. Anything) ls) (λ fs. map (λ l. field_want (find l fs)) ls) (object_of x)
  wants (Tag l) x n = some_wants (Anything ∷ []) (λ fs. tag_want (find l fs) ∷ []) (variant_of x)
  wants (Error code message) x n = []
  wants (Cell at) x n = []
  wants (Future call) x n = []

-- what is known of the functions F, of the calls under way, and of values of a type parameter
pub record Judgements (A F : Type 0) : Type 1 where
  pub FunctionOf : F → A → Type 0
  pub AnswerOf : ℕ → A → Type 0
  pub ParameterOf : ℕ → Shape F → Type 0

module _ {A F : Type 0} (head : A → Node A) (known : Judgements A F) (kinds : List A) where
  -- the outermost part of a value fits the type's form
  abbrev pub RootOf : Node A → Head → Type 0
  RootOf x (Leaf p) = IsLeafPart p × IsPartOf x p
  RootOf x Present = IsSomething (opt_of x)
  RootOf x Tuple = IsSomething (tuple_of x)
  RootOf x Array = IsSomething (array_of x) ⊎ IsSomething (mut_array_of x)
  RootOf x (Object ls) = AtSome (object_of x) (λ fs. Each (λ f. IsAmong f.label ls) fs)
  RootOf x (Tag l) = AtSome (variant_of x) (λ fs. IsSomething (find l fs))
  RootOf x (Error code message) = (is_error x ≡ true) × IsCode code × (is_utf8 message ≡ true)
  RootOf x (Cell at) = ⊥
  RootOf x (Future call) = AtSome (async_of x) (known.AnswerOf call)

  abbrev pub Fits : Node A → Head → Shapes F → Type 0
  Fits node.Any h inside = IsNoCell h
  Fits (node.Variable v b) h inside = known.ParameterOf v (Made h inside)
  Fits x h inside = RootOf x h

  -- a function that is no shared one is a value of such a type
  abbrev pub FunctionFits : Node A → F → A → Type 0
  FunctionFits node.Any f t = Unit {0}
  FunctionFits (node.Variable v b) f t = known.ParameterOf v (Function f)
  FunctionFits (node.Func sort.Local ps rs) f t = known.FunctionOf f t
  FunctionFits _ f t = ⊥

  abbrev mutual
    -- kinds gives each cell of the store the type of its contents
    pub Has : Want A → Shape F → Type 0
    Has Anything v = Unit {0}
    Has (Of t) (Made h inside) = Fits (head t) h inside × HasEach (wants h (head t) (count inside)) inside
    Has (Of t) (Function f) = FunctionFits (head t) f t
    Has (CellOf t) (Made (Cell at) NoShape) = AtSome (slice_get kinds at) (λ u. Equal head t u)
    Has (FutureOf t) (Made (Future call) NoShape) = known.AnswerOf call t
    Has (KeptOf t) (Made (Leaf part.Null) NoShape) = Unit {0}
    Has (KeptOf t) (Made Present inside) = HasEach (Of t ∷ []) inside
    Has (Generic vs t) (Function f) = FunctionFits (head t) f t
    Has _ _ = ⊥

    pub HasEach : List (Want A) → Shapes F → Type 0
    HasEach [] NoShape = Unit {0}
    HasEach (w ∷ ws) (AShape v vs) = Has w v × HasEach ws vs
    HasEach _ _ = ⊥

  -- a store whose cells have contents of these types
  abbrev pub StoreHas : List (Shape F) → List A → Type 0
  StoreHas [] [] = Unit {0}
  StoreHas (v ∷ vs) (t ∷ ts) = Has (Of t) v × StoreHas vs ts
  StoreHas _ _ = ⊥
