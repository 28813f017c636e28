-- What operations take and give (Motoko language manual, sections "Unary operators", "Binary operators", "Relational operators", "Tuples", "Objects",
-- "Arrays", "Assert"; Motoko base library).
use Rattle.std.specs.Prelude.{◌≡◌, ◌≢◌, ◌⊎◌, ℕ, List, [], ◌∷◌, length, map, true, Some, slice_get}
use Rattle.mo_num.specs.declared.kind.Kind.TheVariants as kind
use Rattle.mo_types.specs.declared.node.Node.{Node}
use Rattle.mo_types.specs.declared.node.Node.TheVariants as node
use Rattle.mo_types.specs.declared.node.Field.{Field}
use Rattle.mo_types.specs.declared.node.TypeId.{TypeId}
use Rattle.mo_types.specs.Label.{label_id}
use Rattle.mo_types.specs.Sub.{Each, find}
use Rattle.mo_types.specs.Values.{copies, is_method_name}
use Rattle.mo_values.specs.declared.operation.Operation.{Operation}
use Rattle.mo_values.specs.declared.operation.Operation.TheVariants as op
use Rattle.mo_values.specs.declared.operation.Scalar.{Scalar}
use Rattle.mo_values.specs.declared.operation.Scalar.TheVariants as scalar
use Rattle.mo_values.specs.Numbers.{has_width}
use Rattle.mo_values.specs.Views.{scalar_type}
use Rattle.typed_tree.specs.Has.{field_want}
use Rattle.typed_tree.specs.Instances.{IsAmong}
use Rattle.typed_tree.specs.MemberTypes.{IsUnit, IsNumber, IsText, IsElementOf, IsErrorCode}
use Rattle.typed_tree.specs.Shareable.{IsSharedFunction, IsComparable}
use Rattle.typed_tree.specs.Wants.{Want, Of, CellOf}

-- numbers, characters and texts have an order
abbrev pub IsOrdered : Scalar → Type 0
IsOrdered scalar.Bool = ⊥
IsOrdered scalar.Blob = ⊥
IsOrdered _ = Unit {0}

-- all of them differ
abbrev pub Distinct : {V : Type 0} → List V → Type 0
Distinct [] = Unit {0}
Distinct (x ∷ xs) = Each (λ y. x ≢ y) xs × Distinct xs

module _ (head : TypeId → Node TypeId) where
  abbrev pub IsBool : TypeId → Type 0
  IsBool t = head t ≡ node.Bool

  -- two values of the type, and a value of it
  abbrev pub Twice : TypeId → List (Want TypeId) → Type 0
  Twice t ws = ws ≡ Of t ∷ Of t ∷ []

  -- one value of a type of which p holds
  abbrev pub One : (TypeId → Type 0) → List (Want TypeId) → Type 0
  One p ws = (t : TypeId) × (ws ≡ Of t ∷ []) × p t

  -- a value of a type of which p holds
  abbrev pub Gives : (TypeId → Type 0) → Want TypeId → Type 0
  Gives p w = (t : TypeId) × (w ≡ Of t) × p t

  -- an array of so many values, or of cells
  abbrev pub MakesArray : List (Want TypeId) → TypeId → Type 0
  MakesArray ws t = (e : TypeId) × (((head t ≡ node.Array e) × (ws ≡ copies (length ws) (Of e))) ⊎ ((head t ≡ node.MutArray e) × (ws ≡ copies (length ws) (CellOf e))))

  -- all fields of the type are there, and further ones may be
  abbrev pub MakesObject : List (List ℕ) → List (Want TypeId) → TypeId → Type 0
  MakesObject ls ws t =
      (fs : List (Field TypeId)) × (head t ≡ node.Object fs) × Distinct (map label_id ls) × Each (λ f. IsAmong f.label ls) fs × (ws ≡ map (λ l. field_want (find l fs)) ls)

  -- the operands, and what is given
  abbrev pub OperationTyped : Operation → List (Want TypeId) → Want TypeId → Type 0
  OperationTyped (op.Arithmetic o k) ws w = (t : TypeId) × IsNumber head k t × Twice t ws × (w ≡ Of t)
  OperationTyped (op.Wrap o k) ws w = (t : TypeId) × (has_width k ≡ true) × IsNumber head k t × Twice t ws × (w ≡ Of t)
  OperationTyped (op.Negate k) ws w = (t : TypeId) × IsNumber head k t × (ws ≡ Of t ∷ []) × (w ≡ Of t)
  OperationTyped (op.Compare c s) ws w = (t : TypeId) × IsOrdered s × (head t ≡ scalar_type s) × Twice t ws × Gives IsBool w
  OperationTyped (op.Same s) ws w = (t : TypeId) × (head t ≡ scalar_type s) × Twice t ws × Gives IsBool w
  OperationTyped (op.Equal t) ws w = IsComparable head t × Twice t ws × Gives IsBool w
  OperationTyped (op.Unequal t) ws w = IsComparable head t × Twice t ws × Gives IsBool w
  OperationTyped op.Not ws w = One IsBool ws × Gives IsBool w
  OperationTyped op.Assert ws w = One IsBool ws × Gives (IsUnit head) w
  OperationTyped op.Concat ws w = (t : TypeId) × IsText head t × Twice t ws × (w ≡ Of t)
  OperationTyped op.TextSize ws w = One (IsText head) ws × Gives (IsNumber head kind.Nat) w
  OperationTyped (op.ToText k) ws w = One (IsNumber head k) ws × Gives (IsText head) w
  OperationTyped op.MakeTuple ws w = Gives (λ t. (ts : List TypeId) × (head t ≡ node.Tuple ts) × (ws ≡ map (λ u. Of u) ts)) w
  OperationTyped op.MakeOption ws w = Gives (λ t. (u : TypeId) × (head t ≡ node.Opt u) × (ws ≡ Of u ∷ [])) w
  OperationTyped (op.MakeTag l) ws w =
      Gives (λ t. (fs : List (Field TypeId)) × (f : Field TypeId) × (head t ≡ node.Variant fs) × (find l fs ≡ Some f) × (ws ≡ Of f.part ∷ [])) w
  OperationTyped op.MakeArray ws w = Gives (MakesArray ws) w
  OperationTyped (op.MakeObject ls) ws w = Gives (MakesObject ls ws) w
  OperationTyped (op.Project i) ws w = One (λ t. (ts : List TypeId) × (u : TypeId) × (head t ≡ node.Tuple ts) × (slice_get ts i ≡ Some u) × (w ≡ Of u)) ws
  OperationTyped (op.Field l) ws w =
      One (λ t. (fs : List (Field TypeId)) × (f : Field TypeId) × (head t ≡ node.Object fs) × (find l fs ≡ Some f) × (w ≡ field_want (Some f))) ws
  OperationTyped op.Element ws w =
      (a i e : TypeId) × (ws ≡ Of a ∷ Of i ∷ []) × IsNumber head kind.Nat i × (((head a ≡ node.Array e) × (w ≡ Of e)) ⊎ ((head a ≡ node.MutArray e) × (w ≡ CellOf e)))
  OperationTyped op.ArraySize ws w = One (λ a. (e : TypeId) × IsElementOf head a e) ws × Gives (IsNumber head kind.Nat) w
  OperationTyped (op.Method l) ws w =
      One (λ t. (fs : List (Field TypeId)) × (f : Field TypeId) × (is_method_name l ≡ true) × (head t ≡ node.Actor fs) × (find l fs ≡ Some f) × IsSharedFunction (head f.part) × (w ≡ Of f.part)) ws
  OperationTyped op.PrincipalOf ws w = One (λ t. (fs : List (Field TypeId)) × (head t ≡ node.Actor fs)) ws × Gives (λ t. head t ≡ node.Principal) w
  OperationTyped op.RejectError ws w = One (IsText head) ws × Gives (λ t. head t ≡ node.Error) w
  OperationTyped op.Message ws w = One (λ t. head t ≡ node.Error) ws × Gives (IsText head) w
  OperationTyped op.Code ws w = One (λ t. head t ≡ node.Error) ws × Gives (IsErrorCode head) w
  OperationTyped op.Trap ws w = One (IsText head) ws × Gives (λ t. head t ≡ node.Bottom) w
  OperationTyped (op.Fail text) ws w = (ws ≡ []) × Gives (λ t. head t ≡ node.Bottom) w
