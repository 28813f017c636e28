-- What declarations end in, where the functions behind them have become values: a tuple that is made of what the actor exports.
use Rattle.std.proofs.Common.{◌≡◌, inl, inr, ℕ, zero, suc, ◌+◌, ◌≤◌, List, [], ◌∷◌, ◌++◌, length, map, Option, Some, None, refl, sym, ap, ap₂, ◌∙◌, subst, slice_get, arith, eq-eqb}
use Rattle.mo_types.specs.declared.node.TypeId.{TypeId}
use Rattle.mo_types.specs.Graph.{Slot, head_at}
use Rattle.mo_values.specs.declared.operation.Operation.TheVariants as op
use Rattle.mo_values.specs.Messages.{only_if}
use Rattle.mo_values.specs.Shapes.{Bytes, Present, Tuple, Object, AShape, shapes}
use Rattle.mo_values.specs.Shapes as shape
use Rattle.mo_values.specs.Views as answer
use Rattle.typed_tree.specs.declared.action.Action.TheVariants as action
use Rattle.typed_tree.specs.declared.expression.Function.{Function as Code}
use Rattle.typed_tree.specs.declared.program.Method.{Method}
use Rattle.typed_tree.specs.declared.program.Program.{Program}
use Rattle.typed_tree.specs.declared.program.StableVariable.{StableVariable}
use Rattle.typed_tree.specs.Language.{Value, Exp, Exps, Functions, Made, Function, NoValue, AValue, Val, Name, Do, NoExp, AnExp, NoFunction, AFunction, null}
use Rattle.typed_tree.specs.Opening.{shape_of, shapes_of, shapes_list}
use Rattle.typed_tree.specs.ProgramView.{method, stable_variable, names_from, optional_function, optional_name}
use Rattle.typed_tree.specs.Substitution.{pick, put, put_all, functions, group_of, count}
use Rattle.typed_tree.specs.View.{exps}
use Rattle.mo_meaning.specs.Places.{operands, values_of_list}
use Rattle.mo_soundness.specs.Lawful.{IsLawful}
use Rattle.mo_soundness.specs.Running.{AnswerTypes}
use Rattle.program_soundness.specs.Declared.{hook_role, roles_of, ending, CellsNamed}
use Rattle.program_soundness.specs.Exports.{MethodsTyped, HookTyped, CellsTyped}
use Rattle.program_soundness.specs.Roles.{Role, AMethod, AHook, unused, in_group, RolesTyped}
use Rattle.program_soundness.specs.Starting.{Soon, IsCollecting}
use Rattle.program_soundness.proofs.Declared.{cells_put, roles_length}
use Rattle.program_soundness.proofs.Roles.{covers_unused, roles_count}
use Rattle.program_soundness.specs.Worlds.{running}

-- ---- names of functions become functions

pick_function : (group fns : Functions) (n i x : ℕ) → suc i ≤ count fns → pick (functions group fns n) i x ≡ Val (Function group (n + i))
pick_function group NoFunction n i x h = absurd (omega (arith, h))
pick_function group (AFunction how m ps body fns) n zero x h = ap (λ k. Val (Function group k)) (omega arith)
pick_function group (AFunction how m ps body fns) n (suc i) x h = pick_function group fns (suc n) i x (omega (arith, h)) ∙ ap (λ k. Val (Function group k)) (omega arith)

abbrev functions_from : Functions → ℕ → ℕ → List Value
functions_from group n zero = []
functions_from group n (suc m) = Function group n ∷ functions_from group (suc n) m

names_become : (group : Functions) (n m : ℕ) → n + m ≤ count group → put_all (group_of group) (exps (names_from n m)) ≡ operands (functions_from group n m)
names_become group n zero h = refl
names_become group n (suc m) h = ap₂ AnExp (pick_function group group 0 n n (omega (arith, h)) ∙ ap (λ k. Val (Function group k)) (omega arith)) (names_become group (suc n) m (omega (arith, h)))

abbrev hook_value : Functions → ℕ → Option Code → Value
hook_value group n None = null
hook_value group n (Some f) = Made Present (AValue (Function group n) NoValue)

-- ---- shapes of lists of values

pub listed_shapes : (us : List Value) → shapes (shapes_list us) ≡ shapes_of (values_of_list us)
listed_shapes [] = refl
listed_shapes (u ∷ us) = ap (λ s. AShape (shape_of u) s) (listed_shapes us)

length_shapes : (us : List Value) → length (shapes_list us) ≡ length us
length_shapes [] = refl
length_shapes (u ∷ us) = ap suc (length_shapes us)

length_names : (vs : List StableVariable) → length (map (λ v. v.name) vs) ≡ length vs
length_names [] = refl
length_names (v ∷ vs) = ap suc (length_names vs)

past_append : {A : Type 0} (xs ys : List A) (n : ℕ) → slice_get (xs ++ ys) (length xs + n) ≡ slice_get ys n
past_append [] ys n = ap (slice_get ys) (omega arith)
past_append (x ∷ xs) ys n = ap (slice_get (x ∷ (xs ++ ys))) (next (length xs) n) ∙ past_append xs ys n
  where
    next : (k n : ℕ) → suc k + n ≡ suc (k + n)
    next k n = omega arith

before_append : {A : Type 0} (xs ys : List A) (n : ℕ) (x : A) → slice_get xs n ≡ Some x → slice_get (xs ++ ys) n ≡ Some x
before_append [] ys n x h = absurd (let z : None ≡ Some x = h in cc)
before_append (y ∷ xs) ys zero x h = h
before_append (y ∷ xs) ys (suc n) x h = before_append xs ys n x h

abbrev role_of : Method → Role
role_of m = AMethod m.parameters m.results

length_roles : (ms : List Method) → length (map role_of ms) ≡ length ms
length_roles [] = refl
length_roles (m ∷ ms) = ap suc (length_roles ms)

hook_count : (o : Option Code) → length (hook_role o) ≡ length (optional_function o)
hook_count None = refl
hook_count (Some f) = refl

module _ (types : List Slot) (lawful : IsLawful (running types).head) (answers : AnswerTypes) (kinds : List TypeId) where
  tuple_soon : (e : Exp) (us : List Value) → e ≡ Do (action.Operate op.MakeTuple) (operands us) → Soon (head_at types) e (Made Tuple (values_of_list us))
  tuple_soon e us q = inr (op.MakeTuple, us, q, ap (λ s. answer.Gives (shape.Made Tuple s)) (listed_shapes us))

  object_soon : (ls : List Bytes) (us : List Value) → length us ≡ length ls → Soon (head_at types) (Do (action.Operate (op.MakeObject ls)) (operands us)) (Made (Object ls) (values_of_list us))
  object_soon ls us q = inr (
    op.MakeObject ls,
    us,
    refl,
    ap (λ b. answer.given (only_if b ls) (λ ks. answer.Gives (shape.Made (Object ks) (shapes (shapes_list us))))) (eq-eqb (length (shapes_list us)) (length ls) (length_shapes us ∙ q))
        ∙ ap (λ s. answer.Gives (shape.Made (Object ls) s)) (listed_shapes us),
  )

  hook_soon : (group : Functions) (n : ℕ) (o : Option Code) → n + length (optional_function o) ≤ count group → Soon (head_at types) (put (group_of group) (optional_name n o)) (hook_value group n o)
  hook_soon group n None h = inl refl
  hook_soon group n (Some f) h =
      inr (op.MakeOption, Function group n ∷ [], ap (λ (e : Exp). Do (action.Operate op.MakeOption) (AnExp e NoExp)) (pick_function group group 0 n n (one h) ∙ ap (λ k. Val (Function group k)) (omega arith)), refl)
    where
      one : n + 1 ≤ count group → suc n ≤ count group
      one i = omega (arith, i)

  -- closed names or values of cells are values
  cells_closed : (es : Exps) (vs : List StableVariable) → CellsNamed types answers kinds (record { names = []; labels = [] }) es vs
      → (us : List Value) × (es ≡ operands us) × (length us ≡ length vs) × CellsTyped types answers kinds (map stable_variable vs) (values_of_list us)
  cells_closed NoExp [] h = ([], refl, refl, tt)
  cells_closed NoExp (v ∷ vs) h = absurd h
  cells_closed (AnExp e es) [] h = absurd h
  cells_closed (AnExp (Val u) es) (v ∷ vs) h = let k = cells_closed es vs h.1 in (u ∷ k.0, ap (λ es. AnExp (Val u) es) k.1, ap suc k.2, (h.0.1, k.3))
  cells_closed (AnExp (Name x) es) (v ∷ vs) h = absurd (let q : None ≡ Some h.0.1.0 = h.0.1.1 in cc)
  cells_closed (AnExp e es) (v ∷ vs) h = absurd h.0.0

  module _ (group : Functions) (roles : List Role) (typed : RolesTyped types answers kinds (in_group roles) roles group) where
    methods_typed : (ms : List Method) (n : ℕ) → ((j : ℕ) (role : Role) → slice_get (map role_of ms) j ≡ Some role → slice_get roles (n + j) ≡ Some role)
        → MethodsTyped types answers kinds (map method ms) (values_of_list (functions_from group n (length ms)))
    methods_typed [] n at = tt
    methods_typed (m ∷ ms) n at = (
      (roles, typed, ap (slice_get roles) (omega arith) ∙ at 0 (role_of m) refl),
      methods_typed ms (suc n) (λ j role q. ap (slice_get roles) (omega arith) ∙ at (suc j) role q),
    )

    hook_typed : (n : ℕ) (o : Option Code) → ((f : Code) → o ≡ Some f → slice_get roles n ≡ Some AHook) → HookTyped types answers kinds (hook_value group n o)
    hook_typed n None at = inl refl
    hook_typed n (Some f) at = inr (Function group n, refl, (roles, typed, at f refl))

-- ---- the whole

module _ (p : Program) (lawful : IsLawful (running p.types).head) (answers : AnswerTypes) (kinds : List TypeId) (group : Functions) (cells : Exps)
    (typed : RolesTyped p.types answers kinds (in_group (roles_of p)) (roles_of p) group) (named : CellsNamed p.types answers kinds (in_group (roles_of p)) cells p.stable) where
  abbrev first : List Role
  first = map role_of p.methods

  abbrev behind_first : ℕ
  behind_first = length p.methods + length (optional_function p.before_upgrade)

  many : length p.methods + (length (optional_function p.before_upgrade) + length (optional_function p.after_upgrade)) ≤ count group
  many = omega (arith, roles_length p, roles_count p.types lawful answers kinds (in_group (roles_of p)) (roles_of p) group typed)

  method_at : (j : ℕ) (role : Role) → slice_get first j ≡ Some role → slice_get (roles_of p) (0 + j) ≡ Some role
  method_at j role q = ap (slice_get (roles_of p)) (omega arith) ∙ before_append first (hook_role p.before_upgrade ++ hook_role p.after_upgrade) j role q

  before_at : (f : Code) → p.before_upgrade ≡ Some f → slice_get (roles_of p) (length p.methods) ≡ Some AHook
  before_at f q =
      ap (slice_get (roles_of p)) (omega (arith, length_roles p.methods)) ∙ past_append first (hook_role p.before_upgrade ++ hook_role p.after_upgrade) 0
      ∙ ap (λ o. slice_get (hook_role o ++ hook_role p.after_upgrade) 0) q

  after_at : (f : Code) → p.after_upgrade ≡ Some f → slice_get (roles_of p) behind_first ≡ Some AHook
  after_at f q =
      ap (slice_get (roles_of p)) (omega (arith, length_roles p.methods, hook_count p.before_upgrade)) ∙ past_append first (hook_role p.before_upgrade ++ hook_role p.after_upgrade) (length (hook_role p.before_upgrade) + 0)
      ∙ past_append (hook_role p.before_upgrade) (hook_role p.after_upgrade) 0 ∙ ap (λ o. slice_get (hook_role o) 0) q

  closed_cells : CellsNamed p.types answers kinds (record { names = []; labels = [] }) (put_all (group_of group) cells) p.stable
  closed_cells = cells_put p.types lawful answers kinds cells p.stable (group_of group) (unused (roles_of p)) [] []
      (covers_unused p.types lawful answers kinds group group 0 (length (roles_of p)) (roles_count p.types lawful answers kinds (in_group (roles_of p)) (roles_of p) group typed)) named

  pub collected : IsCollecting p.types p answers kinds (put (group_of group) (ending p cells))
  collected =
      let k = cells_closed p.types lawful answers kinds (put_all (group_of group) cells) p.stable closed_cells in
      let methods = functions_from group 0 (length p.methods) in
      let before = hook_value group (length p.methods) p.before_upgrade in
      let after = hook_value group behind_first p.after_upgrade in
      let labels = map (λ (v : StableVariable). v.name) p.stable in (
        _,
        Made Tuple (values_of_list methods) ∷ before ∷ after ∷ Made (Object labels) (values_of_list k.0) ∷ [],
        refl,
        (
          tuple_soon p.types lawful answers kinds _ methods (ap (λ es. Do (action.Operate op.MakeTuple) es) (names_become group 0 (length p.methods) (omega (arith, many)))),
          (
            hook_soon p.types lawful answers kinds group (length p.methods) p.before_upgrade (omega (arith, many)),
            (
              hook_soon p.types lawful answers kinds group behind_first p.after_upgrade (omega (arith, many)),
              (
                subst (λ es. Soon (head_at p.types) (Do (action.Operate (op.MakeObject labels)) es) (Made (Object labels) (values_of_list k.0))) (sym k.1) (object_soon p.types lawful answers kinds labels k.0 (k.2 ∙ sym (length_names p.stable))),
                tt,
              ),
            ),
          ),
        ),
        record {
          functions = values_of_list methods;
          before = before;
          after = after;
          labels = labels;
          cells = values_of_list k.0;
          is = refl;
          methods = methods_typed p.types lawful answers kinds group (roles_of p) typed p.methods 0 method_at;
          before_upgrade = hook_typed p.types lawful answers kinds group (roles_of p) typed (length p.methods) p.before_upgrade before_at;
          after_upgrade = hook_typed p.types lawful answers kinds group (roles_of p) typed behind_first p.after_upgrade after_at;
          stable = k.3;
        },
      )
