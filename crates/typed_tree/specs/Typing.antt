-- When typed expressions are well typed, by one rule for each form (Motoko language manual, sections "Expressions" and "Declarations"). The type of a
-- node follows from those of its parts.
use Rattle.std.specs.Prelude.{◌≡◌, ◌≢◌, ◌⊎◌, ◌≤◌, ◌+◌, ◌*◌, ℕ, List, [], ◌∷◌, ◌++◌, length, map, Some, slice_get, codes}
use Rattle.mo_types.specs.declared.node.Node.{Node}
use Rattle.mo_types.specs.declared.node.Node.TheVariants as node
use Rattle.mo_types.specs.declared.node.Field.{Field}
use Rattle.mo_types.specs.declared.node.Sort.{Sort}
use Rattle.mo_types.specs.declared.node.Sort.TheVariants as sort
use Rattle.mo_types.specs.declared.node.TypeId.{TypeId}
use Rattle.mo_types.specs.Graph.{Slot, head_at}
use Rattle.mo_types.specs.Sub.{Each}
use Rattle.typed_tree.specs.declared.expression.Form.{Form, rec-Form}
use Rattle.typed_tree.specs.declared.expression.Form.TheOpen as F
use Rattle.typed_tree.specs.declared.expression.Case.{Case, rec-Case}
use Rattle.typed_tree.specs.declared.expression.Step.{Step, rec-Step}
use Rattle.typed_tree.specs.declared.expression.Function.{Function, rec-Function}
use Rattle.typed_tree.specs.declared.expression.TypedExpression.{TypedExpression, rec-TypedExpression}
use Rattle.typed_tree.specs.ActionTypes.{Context, ActionTyped, IsError, IsNever}
use Rattle.typed_tree.specs.Instances.{IsAmong, IsInstance, AreWithinBounds}
use Rattle.typed_tree.specs.MemberTypes.{IsUnit, IsField}
use Rattle.typed_tree.specs.MemberTypes as member
use Rattle.typed_tree.specs.Nodes.{in_expression, in_patterns}
use Rattle.typed_tree.specs.OperationTypes.{OperationTyped, IsBool}
use Rattle.typed_tree.specs.Patterns.{Bind}
use Rattle.typed_tree.specs.PatternTypes.{IsInScope, LiteralOf, Stands, AllStand}
use Rattle.typed_tree.specs.PatternView.{pattern}
use Rattle.typed_tree.specs.Wants.{Want, Anything, Of, CellOf, FutureOf, KeptOf, Generic, in_function, Below, Serves}

abbrev pub with_names : List (Want TypeId) → Context → Context
with_names ns c = record c { names = ns ++ c.names }

abbrev pub with_label : TypeId → Context → Context
with_label t c = record c { labels = t ∷ c.labels }

-- what a function is asked to be: how it is called, its type parameters, the names of its context, the types of its parameters and its result
pub record Signature : Type 0 where
  pub sort : Sort
  pub generics : List ℕ
  pub context : List (Want TypeId)
  pub parameters : List TypeId
  pub result : TypeId

-- around the body of such a function, whose parameters have these names; labels and futures from outside are out of reach
abbrev pub in_body : Signature → List (Want TypeId) → Context → Context
in_body s ns c = record {
  names = (s.context ++ ns) ++ map in_function c.names;
  labels = s.result ∷ [];
  body = s.sort;
  parameters = s.generics ++ c.parameters;
}

-- in a context an expression gives, or a form gives
abbrev pub Giving : Type 1
Giving = Context → Want TypeId → Type 0

-- in a context a declaration has names that stand for these
abbrev pub Declaring : Type 1
Declaring = Context → List (Want TypeId) → Type 0

-- in a context a case on values of a type gives
abbrev pub Choosing : Type 1
Choosing = Context → TypeId → Want TypeId → Type 0

-- in a context, in which its group is in scope, a function is one of this signature
abbrev pub Being : Type 1
Being = Context → Signature → Type 0

-- The nodes of a body as it is written are at least a quarter of those in the tree, where derived forms are written out.
abbrev pub Covers : ℕ → ℕ → Type 0
Covers written there = there ≤ 4 * written

module _ (head : TypeId → Node TypeId) where
  -- a node that gives this has this type of its own
  abbrev pub OwnType : Want TypeId → TypeId → Type 0
  OwnType (Of t) u = t ≡ u
  OwnType (CellOf t) u = t ≡ u
  OwnType (FutureOf t) u = head u ≡ node.Async t
  OwnType _ u = ⊥

  -- what the use of a name gives; a function with type parameters stands with types for all of them
  abbrev pub NameGives : Want TypeId → Want TypeId → Type 0
  NameGives (Generic vs t) w = (ts : List TypeId) × (u : TypeId) × (length ts ≡ length vs) × AreWithinBounds head vs ts × IsInstance head vs ts t u × (w ≡ Of u)
  NameGives there w = w ≡ there

  -- type parameters of their own numbers, which none in scope has
  abbrev pub AreParameters : List ℕ → List TypeId → List ℕ → Type 0
  AreParameters scope [] [] = Unit {0}
  AreParameters scope (t ∷ ts) (v ∷ vs) = (b : TypeId) × (head t ≡ node.Variable v b) × (IsAmong v (vs ++ scope) → ⊥) × AreParameters scope ts vs
  AreParameters scope _ _ = ⊥

  abbrev pub generic : List ℕ → TypeId → Want TypeId
  generic [] t = Of t
  generic (v ∷ vs) t = Generic (v ∷ vs) t

  -- what the name of a function stands for: its type, or nothing that is used, where this type is not in the program
  abbrev pub NameOf : Signature → Want TypeId → Type 0
  NameOf s w = (w ≡ Anything) ⊎ ((t : TypeId) × (head t ≡ member.Function s.parameters s.result) × (w ≡ generic s.generics t))

-- an object with `next : () -> ?t`; where `next` never gives an element, the elements are of type None
abbrev pub GivesElements : (TypeId → Node TypeId) → TypeId → TypeId → Type 0
GivesElements head i t =
    (fs : List (Field TypeId)) × (next o : TypeId) × (head i ≡ node.Object fs) × IsField head fs (codes "next") next × (head next ≡ member.Function [] o)
    × ((head o ≡ node.Opt t) ⊎ (((head o ≡ node.Null) ⊎ (head o ≡ node.Bottom)) × (head t ≡ node.Bottom)))

-- as many expressions as are wanted
abbrev pub EachGives : {X : Type 0} → (X → Giving) → Context → List X → List (Want TypeId) → Type 0
EachGives Is c [] [] = Unit {0}
EachGives Is c (e ∷ es) (w ∷ ws) = Is e c w × EachGives Is c es ws
EachGives Is c _ _ = ⊥

abbrev pub CasesGive : {X : Type 0} → (X → Choosing) → Context → List X → TypeId → Want TypeId → Type 0
CasesGive Is c [] t w = Unit {0}
CasesGive Is c (x ∷ xs) t w = Is x c t w × CasesGive Is c xs t w

-- each declaration stands around those behind it
abbrev pub BlockGives : {X Y : Type 0} → (X → Declaring) → (Y → Giving) → Context → List X → Y → Want TypeId → Type 0
BlockGives IsSt Is c [] e w = Is e c w
BlockGives IsSt Is c (s ∷ ss) e w = (ns : List (Want TypeId)) × IsSt s c ns × BlockGives IsSt Is (with_names ns c) ss e w

-- each function is no shared one, and its name stands for it
abbrev pub GroupStands : {X : Type 0} → (TypeId → Node TypeId) → (X → Being) → Context → List X → List (Want TypeId) → Type 0
GroupStands head Is c [] [] = Unit {0}
GroupStands head Is c (f ∷ fs) (w ∷ ws) = ((s : Signature) × (s.sort ≡ sort.Local) × (s.context ≡ []) × Is f c s × NameOf head s w) × GroupStands head Is c fs ws
GroupStands head Is c _ _ = ⊥

module _ (types : List Slot) (Fo St Ca Fu Ex : Type 0) (whole : Ex → TypedExpression) (IsFo : Fo → Giving) (IsSt : St → Declaring) (IsCa : Ca → Choosing) (IsFu : Fu → Being) (Is : Ex → Giving) where
  abbrev pub form_rule : F.Form-F Fo St Ca Fu Ex → Giving
  form_rule (F.Constant l) c w = (t : TypeId) × (w ≡ Of t) × LiteralOf (head_at types) l t
  form_rule (F.Name x) c w = (there : Want TypeId) × (slice_get c.names x ≡ Some there) × NameGives (head_at types) there w
  form_rule (F.Do a es) c w = (ws : List (Want TypeId)) × ActionTyped (head_at types) c a ws w × EachGives Is c es ws
  form_rule (F.If e a b) c w = (t y : TypeId) × (w ≡ Of t) × IsBool (head_at types) y × Is e c (Of y) × Is a c w × Is b c w
  form_rule (F.Switch token e xs) c w = (t s : TypeId) × (w ≡ Of t) × Is e c (Of s) × CasesGive IsCa c xs s w
  form_rule (F.While e b) c w = (u y : TypeId) × (w ≡ Of u) × IsUnit (head_at types) u × IsBool (head_at types) y × Is e c (Of y) × Is b c w
  form_rule (F.Loop b) c w = (t u : TypeId) × (w ≡ Of t) × IsNever (head_at types) t × IsUnit (head_at types) u × Is b c (Of u)
  form_rule (F.Repeat b e) c w = (u y : TypeId) × (w ≡ Of u) × IsUnit (head_at types) u × IsBool (head_at types) y × Is b c w × Is e c (Of y)
  form_rule (F.For p e b) c w =
      (u i t : TypeId) × (ns : List (Want TypeId)) × (w ≡ Of u) × IsUnit (head_at types) u × GivesElements (head_at types) i t × Is e c (Of i)
      × Stands types c.parameters p t ns × Is b (with_names ns c) w
  form_rule (F.Label e) c w = (t : TypeId) × (w ≡ Of t) × Is e (with_label t c) w
  -- only in the body of a shared function
  form_rule (F.Try e p b) c w =
      (t x : TypeId) × (ns : List (Want TypeId)) × (w ≡ Of t) × (c.body ≢ sort.Local) × IsError (head_at types) x × Is e c w
      × Stands types c.parameters p x ns × Is b (with_names ns c) w
  form_rule (F.Update o e f) c w =
      (u t r : TypeId) × (a b : Want TypeId) × (w ≡ Of u) × IsUnit (head_at types) u × OperationTyped (head_at types) o (a ∷ b ∷ []) (Of r)
      × Is e c (CellOf t) × Serves (head_at types) (Of t) a × Is f c b × Below (head_at types) r t
  form_rule (F.Block ss e) c w = (t : TypeId) × (w ≡ Of t) × BlockGives IsSt Is c ss e w

  abbrev pub step_rule : F.Step-F Fo St Ca Fu Ex → Declaring
  -- a future has a name of its own, and no other pattern stands on it
  step_rule (F.Let p e) c ns =
      ((t : TypeId) × Is e c (Of t) × Stands types c.parameters p t ns)
      ⊎ ((t : TypeId) × Is e c (FutureOf t) × (pattern p ≡ Bind) × (ns ≡ FutureOf t ∷ []))
  step_rule (F.Var e) c ns = (t : TypeId) × IsInScope types c.parameters t × Is e c (Of t) × (ns ≡ CellOf t ∷ [])
  step_rule (F.Stable x e) c ns = (t : TypeId) × (slice_get c.names x ≡ Some (KeptOf t)) × Is e c (Of t) × (ns ≡ CellOf t ∷ [])
  step_rule (F.Functions fs) c ns = GroupStands (head_at types) IsFu (with_names ns c) fs ns
  -- a future too may go unused
  step_rule (F.Evaluate e) c ns = (w : Want TypeId) × Is e c w × (ns ≡ [])

  abbrev pub case_rule : F.Case-F Fo St Ca Fu Ex → Choosing
  case_rule x c t w = (ns : List (Want TypeId)) × Stands types c.parameters x.pattern t ns × Is x.body (with_names ns c) w

  -- Its type mentions no type parameters but its own and those in scope, and neither do the bounds of its own.
  abbrev pub function_rule : F.Function-F Fo St Ca Fu Ex → Being
  function_rule x c s =
      (ns : List (Want TypeId)) × (s.sort ≡ x.sort) × AreParameters (head_at types) c.parameters x.type_parameters s.generics
      × AllStand types (s.generics ++ c.parameters) x.parameters s.parameters ns
      × Each (IsInScope types (s.generics ++ c.parameters)) (s.result ∷ x.type_parameters ++ s.parameters)
      × Is x.body (in_body s ns c) (Of s.result) × Covers x.nodes (in_patterns x.parameters + in_expression (whole x.body))

  -- what a node gives is of its own type, and serves where something is wanted
  abbrev pub expression_rule : F.TypedExpression-F Fo St Ca Fu Ex → Giving
  expression_rule x c w =
      (given : Want TypeId) × OwnType (head_at types) given x.of_type × IsInScope types c.parameters x.of_type × IsFo x.form c given × Serves (head_at types) given w

unfoldable pub Typed : List Slot → TypedExpression → Giving
Typed types = rec-TypedExpression Giving Declaring Choosing Being Giving
    (λ A B C D E _ _ _ _ whole. form_rule types A B C D E whole) (λ A B C D E _ _ _ _ whole. step_rule types A B C D E whole) (λ A B C D E _ _ _ _ whole. case_rule types A B C D E whole)
    (λ A B C D E _ _ _ _ whole. function_rule types A B C D E whole) (λ A B C D E _ _ _ _ whole. expression_rule types A B C D E whole)

unfoldable pub Declares : List Slot → Step → Declaring
Declares types = rec-Step Giving Declaring Choosing Being Giving
    (λ A B C D E _ _ _ _ whole. form_rule types A B C D E whole) (λ A B C D E _ _ _ _ whole. step_rule types A B C D E whole) (λ A B C D E _ _ _ _ whole. case_rule types A B C D E whole)
    (λ A B C D E _ _ _ _ whole. function_rule types A B C D E whole) (λ A B C D E _ _ _ _ whole. expression_rule types A B C D E whole)

unfoldable pub IsFunctionOf : List Slot → Function → Being
IsFunctionOf types = rec-Function Giving Declaring Choosing Being Giving
    (λ A B C D E _ _ _ _ whole. form_rule types A B C D E whole) (λ A B C D E _ _ _ _ whole. step_rule types A B C D E whole) (λ A B C D E _ _ _ _ whole. case_rule types A B C D E whole)
    (λ A B C D E _ _ _ _ whole. function_rule types A B C D E whole) (λ A B C D E _ _ _ _ whole. expression_rule types A B C D E whole)

unfoldable pub FormTyped : List Slot → Form → Giving
FormTyped types = rec-Form Giving Declaring Choosing Being Giving
    (λ A B C D E _ _ _ _ whole. form_rule types A B C D E whole) (λ A B C D E _ _ _ _ whole. step_rule types A B C D E whole) (λ A B C D E _ _ _ _ whole. case_rule types A B C D E whole)
    (λ A B C D E _ _ _ _ whole. function_rule types A B C D E whole) (λ A B C D E _ _ _ _ whole. expression_rule types A B C D E whole)

unfoldable pub CaseTyped : List Slot → Case → Choosing
CaseTyped types = rec-Case Giving Declaring Choosing Being Giving
    (λ A B C D E _ _ _ _ whole. form_rule types A B C D E whole) (λ A B C D E _ _ _ _ whole. step_rule types A B C D E whole) (λ A B C D E _ _ _ _ whole. case_rule types A B C D E whole)
    (λ A B C D E _ _ _ _ whole. function_rule types A B C D E whole) (λ A B C D E _ _ _ _ whole. expression_rule types A B C D E whole)
