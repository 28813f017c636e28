-- When an expression that runs is typed: the rules of typing with values in the place of names, with the types of the cells that there
-- are, and with those of the answers to the calls under way (Motoko language manual, sections "Types", "Expressions" and "Declarations").
-- Where one may wait and throw is no matter of whether it is stuck. So of the rules on it there is left whether calls may be made at all.
use Rattle.std.specs.Prelude.{◌≡◌, ◌⊎◌, ℕ, List, [], ◌∷◌, ◌++◌, map, Bool, true, false, Option, Some, slice_get}
use Rattle.std.specs.Str.{is_utf8}
use Rattle.mo_num.specs.declared.kind.Kind.TheVariants as kind
use Rattle.mo_types.specs.declared.datum.Datum.TheVariants as part
use Rattle.mo_types.specs.declared.node.Node.{Node}
use Rattle.mo_types.specs.declared.node.Node.TheVariants as node
use Rattle.mo_types.specs.declared.node.Sort.{Sort}
use Rattle.mo_types.specs.declared.node.Sort.TheVariants as sort
use Rattle.mo_types.specs.declared.node.TypeId.{TypeId}
use Rattle.mo_types.specs.Sub.{AtSome}
use Rattle.mo_values.specs.declared.operation.Operation.{Operation}
use Rattle.mo_values.specs.declared.operation.Operation.TheVariants as op
use Rattle.mo_values.specs.Equality.{equal}
use Rattle.mo_values.specs.Messages.{count}
use Rattle.mo_values.specs.Shapes.{Head, Leaf, Present, Array, Error, Cell, Future, Shape}
use Rattle.typed_tree.specs.declared.action.Action.{Action}
use Rattle.typed_tree.specs.declared.action.Action.TheVariants as action
use Rattle.typed_tree.specs.ActionTypes.{Context, ActionTyped, IsError}
use Rattle.typed_tree.specs.Has.{Judgements, RootOf, IsCode, IsNoCell, wants}
use Rattle.typed_tree.specs.Language.{Value, Values, Exp, Exps, Cases, Functions, Made, Function, BuiltIn, NoValue, AValue, Val, Name, Do, If, Switch, Group, Frame, Label, While, Repeat, For, Try, Update, NoExp, AnExp, NoCase, ACase, NoFunction, AFunction}
use Rattle.typed_tree.specs.MemberTypes as member
use Rattle.typed_tree.specs.MemberTypes.{IsUnit, IsNumber, MemberTyped}
use Rattle.typed_tree.specs.Opening.{Code, Closed, BuiltInCode, shapes_of}
use Rattle.typed_tree.specs.OperationTypes.{OperationTyped, IsBool}
use Rattle.typed_tree.specs.Typing.{GivesElements}
use Rattle.typed_tree.specs.Wants.{Want, Anything, Of, CellOf, FutureOf, KeptOf, Generic, in_function, Below, Equal, Serves}
use Rattle.mo_soundness.specs.Worlds.{World}
use Rattle.mo_soundness.specs.RunningPatterns.{PatternTyped, PatternsTyped, BindsAt}

-- what stands around an expression: what its names stand for, and what leaves each label; the last label is the function
pub record Around : Type 0 where
  pub names : List (Want TypeId)
  pub labels : List TypeId

abbrev pub with_names : List (Want TypeId) → Around → Around
with_names ns c = record { names = ns ++ c.names; labels = c.labels }

abbrev pub with_label : TypeId → Around → Around
with_label t c = record { names = c.names; labels = t ∷ c.labels }

-- inside a body that gives this type, whose parameters have these names
abbrev pub in_body : List (Want TypeId) → TypeId → Around → Around
in_body ns r c = record { names = ns ++ map in_function c.names; labels = r ∷ [] }

-- as the rules of actions see it, in the body of a function that is called so
abbrev pub context : Sort → Around → Context
context s c = record { names = c.names; labels = c.labels; body = s; parameters = [] }

-- what is known of outgoing calls: the types of the answers to those that were made, by their numbers, and whether further ones may be made and errors thrown
pub record AnswerTypes : Type 0 where
  pub types : ℕ → Option TypeId
  pub may_call : Bool

-- the same, where no calls may be made
abbrev pub still : AnswerTypes → AnswerTypes
still answers = record { types = answers.types; may_call = false }

-- where no calls may be made, all is as in the body of a function that is no shared one
abbrev pub in_sort : Sort → Bool → Sort
in_sort sort.Local b = sort.Local
in_sort s true = s
in_sort s false = sort.Local

-- an error that a program can have: its message is text, and its code one of 32 bits
abbrev pub IsErrorValue : Value → Type 0
IsErrorValue (Made (Error code message) NoValue) = IsCode code × (is_utf8 message ≡ true)
IsErrorValue _ = ⊥

-- an error on its way outward, also where the program names no type Error
abbrev pub IsThrown : Action → Exps → Type 0
IsThrown action.Throw (AnExp (Val v) NoExp) = IsErrorValue v
IsThrown _ _ = ⊥

-- an element of an empty array stands in the place of an expression that gives anything
abbrev pub IsElement : Action → Type 0
IsElement (action.Operate op.Element) = Unit {0}
IsElement _ = ⊥

-- a type that a function may have, of which p holds; at Any nothing is asked
abbrev pub Callable : Node TypeId → Type 0 → Type 0
Callable node.Any p = Unit {0}
Callable (node.Func sort.Local ps rs) p = p
Callable _ p = ⊥

module _ (head : TypeId → Node TypeId) (answers : AnswerTypes) where
  -- the future of a call gives a value of a type above that of the answer
  abbrev pub Answers : ℕ → TypeId → Type 0
  Answers call t = AtSome (answers.types call) (λ u. Below head u t)

  -- no function, and no value of a type parameter
  abbrev pub plain : Judgements TypeId Code
  plain = record { FunctionOf = λ f t. ⊥; AnswerOf = λ call t. Answers call t; ParameterOf = λ v s. ⊥ }

  -- the outermost part of a value fits the type's form; a cell is a value of no type
  abbrev pub Fits : Node TypeId → Head → Type 0
  Fits node.Any h = IsNoCell h
  Fits (node.Variable v b) h = ⊥
  Fits x h = RootOf head plain [] x h

  -- A jump or a thrown error stands in the place of an expression that gives anything. Errors are thrown where calls may be made.
  abbrev pub Jumps : Around → Action → List (Want TypeId) → Type 0
  Jumps c (action.Break l) ws = (t : TypeId) × (slice_get c.labels l ≡ Some t) × (ws ≡ Of t ∷ [])
  Jumps c action.Throw ws = (t : TypeId) × IsError head t × (ws ≡ Of t ∷ []) × (answers.may_call ≡ true)
  Jumps c _ ws = ⊥

module _ (world : World) where
  -- of a function with type parameters: types in the place of these
  abbrev pub Instances : Want TypeId → Type 0
  Instances (Generic vs t) = (u : TypeId) × world.Instance vs t u
  Instances w = Unit {0}

  -- the name of a function that is no shared one stands for its type, for nothing that is used, or for a type for each choice of types
  abbrev pub NameStands : (w : Want TypeId) → Instances w → List TypeId → TypeId → Type 0
  NameStands (Generic vs t) i ps r = world.head i.0 ≡ member.Function ps r
  NameStands w i ps r = (w ≡ Anything) ⊎ ((t : TypeId) × (world.head t ≡ member.Function ps r) × (w ≡ Of t))

  -- a function under a name that stands for this has the type
  abbrev pub HasType : Want TypeId → TypeId → Type 0
  HasType (Of t) f = t ≡ f
  HasType (Generic vs t) f = world.Instance vs t f
  HasType w f = ⊥

  abbrev pub Named : List (Want TypeId) → ℕ → TypeId → Type 0
  Named ws which f = (a : Want TypeId) × (slice_get ws which ≡ Some a) × HasType a f

  -- what the use of a name serves
  abbrev pub NameServes : Want TypeId → Want TypeId → Type 0
  NameServes (Generic vs t) w = (w ≡ Anything) ⊎ ((u : TypeId) × world.Instance vs t u × Serves world.head (Of u) w)
  NameServes a w = Serves world.head a w

  -- values are equal at the one type of the program where they are at the other of what runs
  abbrev pub SameEquality : TypeId → TypeId → Type 0
  SameEquality t u = (v x : Shape Code) → equal world.meant t v x ≡ equal world.head u v x

  -- the operands of an operation, and what is given
  abbrev pub Operates : Operation → List (Want TypeId) → Want TypeId → Type 0
  Operates (op.Equal t) ws w = (u : TypeId) × SameEquality t u × OperationTyped world.head (op.Equal u) ws w
  Operates (op.Unequal t) ws w = (u : TypeId) × SameEquality t u × OperationTyped world.head (op.Unequal u) ws w
  Operates o ws w = OperationTyped world.head o ws w

  -- what an action takes and gives in a context
  abbrev pub Acts : Context → Action → List (Want TypeId) → Want TypeId → Type 0
  Acts c (action.Operate o) ws w = Operates o ws w
  Acts c (action.Send ps rs) ws w = world.IsMessage ps rs × ActionTyped world.head c (action.Send ps rs) ws w
  Acts c a ws w = ActionTyped world.head c a ws w

  -- the same in the body of a function that is called in any way, or in no shared one
  abbrev pub Does : AnswerTypes → Around → Action → List (Want TypeId) → Want TypeId → Type 0
  Does answers c a ws w = ((s : Sort) × (g : Want TypeId) × Acts (context (in_sort s answers.may_call) c) a ws g × Serves world.head g w) ⊎ Jumps world.head answers c a ws

module _ (world : World) where
  abbrev mutual
    -- kinds gives each cell the type of its contents
    pub HasValue : AnswerTypes → List TypeId → Want TypeId → Value → Type 0
    HasValue answers kinds Anything v = Unit {0}
    HasValue answers kinds (Of t) (Made h inner) = Fits world.head answers (world.head t) h × HaveValues answers kinds (wants h (world.head t) (count (shapes_of inner))) inner
    -- a function has its own type, or one for each choice of types, and those above, and the functions of its group are typed
    HasValue answers kinds (Of t) (Function group which) =
        Callable (world.head t) ((ws : List (Want TypeId)) × (f : TypeId) × FunctionsTyped answers kinds (record { names = ws; labels = [] }) group ws × Named world ws which f × Below world.head f t)
    HasValue answers kinds (Of t) (BuiltIn m holds) = Callable (world.head t) ((ws : List (Want TypeId)) × (f : TypeId) × MemberTyped world.head m ws (world.head f) × HaveValues answers kinds ws holds × Below world.head f t)
    HasValue answers kinds (CellOf t) (Made (Cell at) NoValue) = AtSome (slice_get kinds at) (λ u. Equal world.head t u)
    HasValue answers kinds (FutureOf t) (Made (Future call) NoValue) = Answers world.head answers call t
    HasValue answers kinds (KeptOf t) (Made (Leaf part.Null) NoValue) = Unit {0}
    HasValue answers kinds (KeptOf t) (Made Present inner) = HaveValues answers kinds (Of t ∷ []) inner
    HasValue answers kinds _ _ = ⊥

    pub HaveValues : AnswerTypes → List TypeId → List (Want TypeId) → Values → Type 0
    HaveValues answers kinds [] NoValue = Unit {0}
    HaveValues answers kinds (w ∷ ws) (AValue v vs) = HasValue answers kinds w v × HaveValues answers kinds ws vs
    HaveValues answers kinds _ _ = ⊥

    pub Typed : AnswerTypes → List TypeId → Around → Exp → Want TypeId → Type 0
    Typed answers kinds c (Val v) w = HasValue answers kinds w v
    Typed answers kinds c (Name x) w = (a : Want TypeId) × (slice_get c.names x ≡ Some a) × NameServes world a w
    Typed answers kinds c (Do a es) w = ((ws : List (Want TypeId)) × Does world answers c a ws w × EachTyped answers kinds c es ws) ⊎ (IsThrown a es × (answers.may_call ≡ true)) ⊎ (IsElement a × OfEmpty answers kinds c es)
    Typed answers kinds c (If e a b) w = (t : TypeId) × IsBool world.head t × Typed answers kinds c e (Of t) × Typed answers kinds c a w × Typed answers kinds c b w
    Typed answers kinds c (Switch e cases) w = (a : Want TypeId) × Typed answers kinds c e a × CasesTyped answers kinds c cases a w
    Typed answers kinds c (Group fns b) w = (ws : List (Want TypeId)) × FunctionsTyped answers kinds (with_names ws c) fns ws × Typed answers kinds (with_names ws c) b w
    Typed answers kinds c (Frame n e) w = (t : TypeId) × Typed answers kinds (record { names = c.names; labels = t ∷ [] }) e (Of t) × Serves world.head (Of t) w
    Typed answers kinds c (Label e) w = (t : TypeId) × Typed answers kinds (with_label t c) e (Of t) × Serves world.head (Of t) w
    Typed answers kinds c (While e b) w = (t u : TypeId) × IsBool world.head t × IsUnit world.head u × Typed answers kinds c e (Of t) × Typed answers kinds c b (Of u) × Serves world.head (Of u) w
    Typed answers kinds c (Repeat b e) w = (t u : TypeId) × IsBool world.head t × IsUnit world.head u × Typed answers kinds c e (Of t) × Typed answers kinds c b (Of u) × Serves world.head (Of u) w
    Typed answers kinds c (For p e b) w =
        (i t u : TypeId) × (ns : List (Want TypeId)) × GivesElements world.head i t × IsUnit world.head u × Typed answers kinds c e (Of i) × PatternTyped world.head p t ns × Typed answers kinds (with_names ns c) b (Of u) × Serves world.head (Of u) w
    Typed answers kinds c (Try e p b) w = (t : TypeId) × (ns : List (Want TypeId)) × IsError world.head t × Typed answers kinds c e w × PatternTyped world.head p t ns × Typed answers kinds (with_names ns c) b w
    Typed answers kinds c (Update o e f) w =
        (t u r : TypeId) × (a b : Want TypeId) × Operates world o (a ∷ b ∷ []) (Of r) × Typed answers kinds c e (CellOf t) × Serves world.head (Of t) a × Typed answers kinds c f b × Below world.head r t × IsUnit world.head u × Serves world.head (Of u) w

    pub EachTyped : AnswerTypes → List TypeId → Around → Exps → List (Want TypeId) → Type 0
    EachTyped answers kinds c NoExp [] = Unit {0}
    EachTyped answers kinds c (AnExp e es) (w ∷ ws) = Typed answers kinds c e w × EachTyped answers kinds c es ws
    EachTyped answers kinds c _ _ = ⊥

    -- an empty array, of values or of cells, and an index
    pub OfEmpty : AnswerTypes → List TypeId → Around → Exps → Type 0
    OfEmpty answers kinds c (AnExp (Val (Made Array NoValue)) es) = (k : TypeId) × IsNumber world.head kind.Nat k × EachTyped answers kinds c es (Of k ∷ [])
    OfEmpty answers kinds c _ = ⊥

    -- on what is met at the first, the cases give the second
    pub CasesTyped : AnswerTypes → List TypeId → Around → Cases → Want TypeId → Want TypeId → Type 0
    CasesTyped answers kinds c NoCase a w = Unit {0}
    CasesTyped answers kinds c (ACase p e cases) a w = (ns : List (Want TypeId)) × BindsAt world.head p a ns × Typed answers kinds (with_names ns c) e w × CasesTyped answers kinds c cases a w

    -- The functions of a group, whose names are in scope. None of them is a shared one, so no calls may be made in their bodies.
    pub FunctionsTyped : AnswerTypes → List TypeId → Around → Functions → List (Want TypeId) → Type 0
    FunctionsTyped answers kinds c NoFunction [] = Unit {0}
    FunctionsTyped answers kinds c (AFunction how n ps body fns) (w ∷ ws) =
        ((i : Instances world w) → (params : List TypeId) × (r : TypeId) × (ns : List (Want TypeId)) × NameStands world w i params r × PatternsTyped world.head ps params ns × Typed (still answers) kinds (in_body ns r c) body (Of r))
        × FunctionsTyped answers kinds c fns ws
    FunctionsTyped answers kinds c _ _ = ⊥

  module _ (answers : AnswerTypes) (kinds : List TypeId) where
    -- what is known of the code of functions
    abbrev pub FunctionOf : Code → TypeId → Type 0
    FunctionOf (Closed group which) t = (ws : List (Want TypeId)) × (f : TypeId) × FunctionsTyped answers kinds (record { names = ws; labels = [] }) group ws × Named world ws which f × Below world.head f t
    FunctionOf (BuiltInCode m holds) t = (ws : List (Want TypeId)) × (f : TypeId) × MemberTyped world.head m ws (world.head f) × HaveValues answers kinds ws holds × Below world.head f t

    abbrev pub known : Judgements TypeId Code
    known = record { FunctionOf = λ f t. FunctionOf f t; AnswerOf = λ call t. Answers world.head answers call t; ParameterOf = λ v s. ⊥ }

    -- a store whose cells have contents of these types
    abbrev pub StoreTyped : List Value → List TypeId → Type 0
    StoreTyped [] [] = Unit {0}
    StoreTyped (v ∷ vs) (t ∷ ts) = HasValue answers kinds (Of t) v × StoreTyped vs ts
    StoreTyped _ _ = ⊥
