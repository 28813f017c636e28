-- What actions take and give in a context (Motoko language manual, sections "Assignment", "Function calls", "Async", "Await", "Throw", "Break", "Option block").
use Rattle.std.specs.Prelude.{◌≡◌, ◌≢◌, ◌⊎◌, ℕ, List, [], ◌∷◌, map, Some, slice_get}
use Rattle.mo_num.specs.declared.kind.Kind.TheVariants as kind
use Rattle.mo_types.specs.declared.node.Node.{Node}
use Rattle.mo_types.specs.declared.node.Node.TheVariants as node
use Rattle.mo_types.specs.declared.node.Sort.{Sort}
use Rattle.mo_types.specs.declared.node.Sort.TheVariants as sort
use Rattle.mo_types.specs.declared.node.TypeId.{TypeId}
use Rattle.mo_types.specs.Heads.{opt_of}
use Rattle.mo_types.specs.Sub.{IsSomething}
use Rattle.typed_tree.specs.declared.action.Action.{Action}
use Rattle.typed_tree.specs.declared.action.Action.TheVariants as action
use Rattle.typed_tree.specs.MemberTypes.{Function, IsUnit, IsNumber, IsText, MemberTyped}
use Rattle.typed_tree.specs.OperationTypes.{OperationTyped, One, Gives}
use Rattle.typed_tree.specs.Wants.{Want, Of, CellOf, FutureOf}

-- what stands around an expression
pub record Context : Type 0 where
  -- what each name stands for, the nearest first
  pub names : List (Want TypeId)
  -- the types of what leaves each label, the nearest first; the last is the result of the function
  pub labels : List TypeId
  -- How the function is called in whose body it stands directly. Only that of a shared one may wait.
  pub body : Sort
  -- the type parameters in scope
  pub parameters : List ℕ

module _ (head : TypeId → Node TypeId) where
  -- the body of a shared function with these results gives one value of this type
  abbrev pub ResultOf : List TypeId → TypeId → Type 0
  ResultOf [] t = IsUnit head t
  ResultOf (r ∷ []) t = r ≡ t
  ResultOf (r ∷ s ∷ rs) t = head t ≡ node.Tuple (r ∷ s ∷ rs)

  abbrev pub IsError : TypeId → Type 0
  IsError t = head t ≡ node.Error

  abbrev pub IsNever : TypeId → Type 0
  IsNever t = head t ≡ node.Bottom

  abbrev pub of_each : List TypeId → List (Want TypeId)
  of_each ts = map (λ t. Of t) ts

  abbrev pub ActionTyped : Context → Action → List (Want TypeId) → Want TypeId → Type 0
  ActionTyped c (action.Operate o) ws w = OperationTyped head o ws w
  ActionTyped c (action.BuiltIn m) ws w = Gives head (λ t. MemberTyped head m ws (head t)) w
  ActionTyped c action.New ws w = (t : TypeId) × (ws ≡ Of t ∷ []) × (w ≡ CellOf t)
  ActionTyped c action.Read ws w = (t : TypeId) × (ws ≡ CellOf t ∷ []) × (w ≡ Of t)
  ActionTyped c action.Write ws w = (t : TypeId) × (ws ≡ CellOf t ∷ Of t ∷ []) × Gives head (IsUnit head) w
  ActionTyped c action.WriteElement ws w =
      (a i t : TypeId) × (ws ≡ Of a ∷ Of i ∷ Of t ∷ []) × (head a ≡ node.MutArray t) × IsNumber head kind.Nat i × Gives head (IsUnit head) w
  ActionTyped c action.Print ws w = One head (IsText head) ws × Gives head (IsUnit head) w
  ActionTyped c action.Throw ws w = (c.body ≢ sort.Local) × One head IsError ws × Gives head IsNever w
  ActionTyped c action.Call ws w = (f r : TypeId) × (ps : List TypeId) × (head f ≡ Function ps r) × (ws ≡ Of f ∷ of_each ps) × (w ≡ Of r)
  ActionTyped c (action.Send ps rs) ws w =
      (f r : TypeId) × (c.body ≡ sort.Shared) × ((head f ≡ node.Func sort.Shared ps rs) ⊎ (head f ≡ node.Func sort.Query ps rs))
      × (ws ≡ Of f ∷ of_each ps) × ResultOf rs r × (w ≡ FutureOf r)
  ActionTyped c action.Await ws w = (r : TypeId) × (c.body ≡ sort.Shared) × (ws ≡ FutureOf r ∷ []) × (w ≡ Of r)
  ActionTyped c (action.Break l) ws w = (t : TypeId) × (slice_get c.labels l ≡ Some t) × (ws ≡ Of t ∷ []) × Gives head IsNever w
  -- null leaves a label of an option
  ActionTyped c (action.Unwrap l) ws w =
      (o t u : TypeId) × (slice_get c.labels l ≡ Some o) × IsSomething (opt_of (head o)) × (ws ≡ Of t ∷ []) × (head t ≡ node.Opt u) × (w ≡ Of u)
