-- Built-in functions as values: what they hold, and their bodies.
use Rattle.std.proofs.Common.{◌≡◌, ◌⊎◌, inl, inr, ℕ, suc, ◌+◌, ◌≤◌, Bool, true, false, List, [], ◌∷◌, ◌++◌, length, Some, None, slice_get, refl, ap, ◌∙◌, arith}
use Rattle.mo_types.specs.declared.datum.Datum.TheVariants as part
use Rattle.mo_values.specs.declared.operation.Comparison.TheVariants as comparison
use Rattle.mo_values.specs.declared.operation.Scalar.TheVariants as scalar
use Rattle.core_ir.specs.declared.constant.Constant.TheVariants as constant
use Rattle.core_ir.specs.declared.primitive.Primitive.TheVariants as primitive
use Rattle.core_ir.specs.Writing.{num}
use Rattle.mo_meaning.specs.Members.{number}
use Rattle.mo_meaning.specs.Places as places
use Rattle.mo_num.specs.declared.operator.Operator.TheVariants as operator
use Rattle.mo_num.specs.declared.kind.Kind.TheVariants as kind
use Rattle.mo_values.specs.declared.operation.Operation.TheVariants as op
use Rattle.mo_values.specs.Shapes.{Head, Array, Cell, NoShape, AShape}
use Rattle.mo_values.specs.Shapes as shape
use Rattle.core_ir.specs.Programs.{Group}
use Rattle.core_ir.specs.Primitives as primitives
use Rattle.core_ir.specs.Values as core_value
use Rattle.core_ir.specs.Expressions as core
use Rattle.core_ir.specs.Expressions.{NoExp, AnExp, Body}
use Rattle.typed_tree.specs.declared.action.Action.{Action}
use Rattle.typed_tree.specs.declared.action.Action.TheVariants as action
use Rattle.typed_tree.specs.declared.action.Member.{Member}
use Rattle.typed_tree.specs.declared.action.Member.TheVariants as member
use Rattle.typed_tree.specs.Language as source
use Rattle.typed_tree.specs.Language.{Exps}
use Rattle.mo_machine.specs.Values.{Value, Values, Made, Closure, BuiltIn, NoValue, AValue}
use Rattle.mo_machine.specs.Acts.{Store, Act}
use Rattle.mo_machine.specs.Acts as acts
use Rattle.mo_machine.specs.Members.{call_member, next_code, element_code, is_mutable}
use Rattle.elaboration.specs.Scopes.{Local, Scope, one, two, name}
use Rattle.elaboration.specs.Members.{Form, Does, Calls, Iterates, Steps, form_of, number_of, parameters_of, own_body, own_group, function_of, levels_from, amount, called, bind_all, let_in, does, element, place, next_by}
use Rattle.elaboration.specs.Elaboration.{count_of}
use Rattle.elaboration.specs.Meeting.{Reads}
use Rattle.elaboration.proofs.Coming.{reads_new, reads_more}
use Rattle.elaboration_forms.specs.Elaborates.{AtOnce, HasGroups, Elaborates, ElaboratesAll, ElaboratesNames}
use Rattle.elaboration_values.specs.Belonging.{Known, Belongs}
use Rattle.elaboration_steps.specs.Stacks.{row_of, alone, no_labels, goal_at, HeldAt}
use Rattle.elaboration_steps.proofs.Rows.{some_action}

-- ---- forms

pub own_there : (table : List (Group Body)) (f : Form) (names : ℕ) (levels : List ℕ) (n : ℕ) → HasGroups table n (function_of f names levels n).groups → slice_get table (number_of f n) ≡ Some (own_group f names levels n)
own_there table (Does goal holds parameters) names levels n h = h.0
own_there table (Calls goal parameters) names levels n h = h.0
own_there table (Iterates over) names levels n h = h.1.0
own_there table (Steps over) names levels n h = h.0

-- it is no single operation
abbrev pub IsCalled : Member → Type 0
IsCalled member.ArrayTabulate = Unit {0}
IsCalled member.ArrayInit = Unit {0}
IsCalled member.ArrayFreeze = Unit {0}
IsCalled member.ArrayThaw = Unit {0}
IsCalled member.ArrayVals = Unit {0}
IsCalled member.ArrayKeys = Unit {0}
IsCalled member.TextChars = Unit {0}
IsCalled member.NextVal = Unit {0}
IsCalled member.NextKey = Unit {0}
IsCalled member.NextChar = Unit {0}
IsCalled _ = ⊥

pub done_or_called : (m : Member) (n : ℕ) → AtOnce (form_of m) n → ((a : Action) × (row_of m ≡ Some a)) ⊎ (IsCalled m × (n ≤ 1))
done_or_called member.DebugPrint n h = inl (action.Print, refl)
done_or_called member.DebugTrap n h = inl ((action.Operate op.Trap), refl)
done_or_called member.ErrorReject n h = inl ((action.Operate op.RejectError), refl)
done_or_called member.ErrorMessage n h = inl ((action.Operate op.Message), refl)
done_or_called member.ErrorCode n h = inl ((action.Operate op.Code), refl)
done_or_called member.NatToText n h = inl ((action.Operate (op.ToText kind.Nat)), refl)
done_or_called member.IntToText n h = inl ((action.Operate (op.ToText kind.Int)), refl)
done_or_called member.PrincipalFromActor n h = inl ((action.Operate op.PrincipalOf), refl)
done_or_called member.ArraySize n h = inl ((action.Operate op.ArraySize), refl)
done_or_called member.TextSize n h = inl ((action.Operate op.TextSize), refl)
done_or_called member.ArrayTabulate n h = inr (tt, h)
done_or_called member.ArrayInit n h = inr (tt, h)
done_or_called member.ArrayFreeze n h = inr (tt, h)
done_or_called member.ArrayThaw n h = inr (tt, h)
done_or_called member.ArrayVals n h = inr (tt, h)
done_or_called member.ArrayKeys n h = inr (tt, h)
done_or_called member.TextChars n h = inr (tt, h)
done_or_called member.NextVal n h = inr (tt, h)
done_or_called member.NextKey n h = inr (tt, h)
done_or_called member.NextChar n h = inr (tt, h)

-- then it is called as a value
pub value_called : (m : Member) (ds fs : core.Exps) (names n : ℕ) → IsCalled m
    → ((called (form_of m) ds fs names n).exp ≡ core.Do core.Call (AnExp (bind_all ds (core.Functions (number_of (form_of m) n) (core.Name 0))) fs))
    × ((called (form_of m) ds fs names n).groups ≡ (function_of (form_of m) (amount ds + names) (levels_from names (amount ds)) n).groups)
value_called member.ArrayTabulate ds fs names n i = (refl, refl)
value_called member.ArrayInit ds fs names n i = (refl, refl)
value_called member.ArrayFreeze ds fs names n i = (refl, refl)
value_called member.ArrayThaw ds fs names n i = (refl, refl)
value_called member.ArrayVals ds fs names n i = (refl, refl)
value_called member.ArrayKeys ds fs names n i = (refl, refl)
value_called member.TextChars ds fs names n i = (refl, refl)
value_called member.NextVal ds fs names n i = (refl, refl)
value_called member.NextKey ds fs names n i = (refl, refl)
value_called member.NextChar ds fs names n i = (refl, refl)
value_called _ ds fs names n i = absurd i

module _ (table : List (Group Body)) (b : Bool) (s : Scope) where
  pub as_many_operands : (es : Exps) (ds : core.Exps) → ElaboratesAll table b s es ds → amount ds ≡ count_of es
  as_many_operands source.NoExp ds r = ap amount r
  as_many_operands (source.AnExp e es) ds r = ap amount (r.4) ∙ ap (λ n. suc n) (as_many_operands es (r.1) (r.3))

  -- one operand has no name before it
  pub only_name : (es : Exps) (ds : core.Exps) → count_of es ≤ 1 → ElaboratesAll table b s es ds → ElaboratesNames table b s es ds
  only_name source.NoExp ds h r = r
  only_name (source.AnExp e source.NoExp) ds h r = r
  only_name (source.AnExp e (source.AnExp f es)) ds h r = absurd (let z : suc (suc (count_of es)) ≤ 1 = h in let y : ⊥ = omega (arith, z) in y)

-- ---- what is held

pub held_more : (known : List Known) (vals : List core_value.Value) (v : Value) (w : core_value.Value) (levels : List ℕ) (vs : List Value) → HeldAt known vals levels vs → Belongs known v w
    → HeldAt known (w ∷ vals) (levels ++ length vals ∷ []) (vs ++ v ∷ [])
held_more known vals v w [] [] a value = ((w, reads_new vals w, value), tt)
held_more known vals v w [] (u ∷ us) a value = absurd a
held_more known vals v w (level ∷ levels) [] a value = absurd a
held_more known vals v w (level ∷ levels) (u ∷ us) a value = ((a.0.0, reads_more vals w level (a.0.0) (a.0.1), a.0.2), held_more known vals v w levels us (a.1) value)

pub held_none : (known : List Known) (vals : List core_value.Value) (levels : List ℕ) → HeldAt known vals levels [] → levels ≡ []
held_none known vals [] a = refl
held_none known vals (level ∷ levels) a = absurd a

pub held_one : (known : List Known) (vals : List core_value.Value) (levels : List ℕ) (v : Value) → HeldAt known vals levels (v ∷ []) → (level : ℕ) × (w : core_value.Value) × (levels ≡ level ∷ []) × Reads vals level w × Belongs known v w
held_one known vals [] v a = absurd a
held_one known vals (level ∷ []) v a = (level, a.0.0, refl, a.0.1, a.0.2)
held_one known vals (level ∷ other ∷ levels) v a = absurd (a.1)

pub held_two : (known : List Known) (vals : List core_value.Value) (levels : List ℕ) (u v : Value) → HeldAt known vals levels (u ∷ v ∷ [])
    → (i j : ℕ) × (x y : core_value.Value) × (levels ≡ i ∷ j ∷ []) × (Reads vals i x × Belongs known u x) × (Reads vals j y × Belongs known v y)
held_two known vals [] u v a = absurd a
held_two known vals (i ∷ []) u v a = absurd (a.1)
held_two known vals (i ∷ j ∷ []) u v a = (i, j, a.0.0, a.1.0.0, refl, (a.0.1, a.0.2), (a.1.0.1, a.1.0.2))
held_two known vals (i ∷ j ∷ l ∷ levels) u v a = absurd (a.1.1)

-- ---- those that are one operation or a print, and hold nothing

pub alone_body : (m : Member) (a : Action) (names n : ℕ) → alone m ≡ Some a → own_body (form_of m) names [] n ≡ core.Do (goal_at no_labels a) (one (core.Name 0))
alone_body member.DebugPrint a names n e = ap (λ x. core.Do (goal_at no_labels x) (one (core.Name 0))) (some_action action.Print a e)
alone_body member.DebugTrap a names n e = ap (λ x. core.Do (goal_at no_labels x) (one (core.Name 0))) (some_action (action.Operate op.Trap) a e)
alone_body member.ErrorReject a names n e = ap (λ x. core.Do (goal_at no_labels x) (one (core.Name 0))) (some_action (action.Operate op.RejectError) a e)
alone_body member.ErrorMessage a names n e = ap (λ x. core.Do (goal_at no_labels x) (one (core.Name 0))) (some_action (action.Operate op.Message) a e)
alone_body member.ErrorCode a names n e = ap (λ x. core.Do (goal_at no_labels x) (one (core.Name 0))) (some_action (action.Operate op.Code) a e)
alone_body member.NatToText a names n e = ap (λ x. core.Do (goal_at no_labels x) (one (core.Name 0))) (some_action (action.Operate (op.ToText kind.Nat)) a e)
alone_body member.IntToText a names n e = ap (λ x. core.Do (goal_at no_labels x) (one (core.Name 0))) (some_action (action.Operate (op.ToText kind.Int)) a e)
alone_body member.PrincipalFromActor a names n e = ap (λ x. core.Do (goal_at no_labels x) (one (core.Name 0))) (some_action (action.Operate op.PrincipalOf) a e)
alone_body _ a names n e = absurd (let z : None ≡ Some a = e in cc)

pub alone_parameters : (m : Member) (a : Action) → alone m ≡ Some a → parameters_of (form_of m) ≡ 1
alone_parameters member.DebugPrint a e = refl
alone_parameters member.DebugTrap a e = refl
alone_parameters member.ErrorReject a e = refl
alone_parameters member.ErrorMessage a e = refl
alone_parameters member.ErrorCode a e = refl
alone_parameters member.NatToText a e = refl
alone_parameters member.IntToText a e = refl
alone_parameters member.PrincipalFromActor a e = refl
alone_parameters _ a e = absurd (let z : None ≡ Some a = e in cc)

pub alone_holds_none : (store : Store) (T : Act → Type 0) (m : Member) (a : Action) (h : Value) (hs vs : List Value) → alone m ≡ Some a → T acts.Stuck → T (call_member store m (h ∷ hs) vs)
alone_holds_none store T member.DebugPrint a h hs vs e none = none
alone_holds_none store T member.DebugTrap a h hs vs e none = none
alone_holds_none store T member.ErrorReject a h hs vs e none = none
alone_holds_none store T member.ErrorMessage a h hs vs e none = none
alone_holds_none store T member.ErrorCode a h hs vs e none = none
alone_holds_none store T member.NatToText a h hs vs e none = none
alone_holds_none store T member.IntToText a h hs vs e none = none
alone_holds_none store T member.PrincipalFromActor a h hs vs e none = none
alone_holds_none store T _ a h hs vs e none = absurd (let z : None ≡ Some a = e in cc)

-- ---- iterators

-- an array and the cell with the place, in names of these levels
abbrev pub over_both : (names i j : ℕ) → Scope
over_both names i j = record { places = Local i ∷ Local j ∷ []; names = names; exits = []; labels = 0 }

module _ (table : List (Group Body)) where
  abbrev E : Scope → source.Exp → core.Exp → Type 0
  E s e c = Elaborates table false s e c

  -- a cell with the first place
  pub first_place : (s : Scope) → E s (source.Do action.New (places.one (source.Val (number 0)))) (does primitive.New (one (num 0)))
  first_place s = (one (num 0), tt, (num 0, NoExp, (tt, refl), refl, refl), refl)

  module _ (names i j : ℕ) where
    -- where the place has a name, and behind the writing of the next one
    abbrev placed : Scope
    placed = record { places = Local names ∷ Local i ∷ Local j ∷ []; names = suc names; exits = []; labels = 0 }

    abbrev written : Scope
    written = record { places = Local names ∷ Local i ∷ Local j ∷ []; names = suc (suc names); exits = []; labels = 0 }

    abbrev at_place : core.Exp
    at_place = name (suc names) names

    abbrev array : core.Exp
    array = name (suc (suc names)) i

    abbrev index : core.Exp
    index = name (suc (suc names)) names

    element_elaborates : (mutable : Bool) → E written (element_code mutable (source.Name 0)) (element mutable array index)
    element_elaborates false = (two array index, tt, (array, one index, (tt, refl), (index, NoExp, (tt, refl), refl, refl), refl), refl)
    element_elaborates true = (
      one (element false array index),
      tt,
      (element false array index, NoExp, (two array index, tt, (array, one index, (tt, refl), (index, NoExp, (tt, refl), refl, refl), refl), refl), refl, refl),
      refl,
    )

    abbrev read : core.Exp
    read = does primitive.Read (one (name names j))

    abbrev size : core.Exp
    size = does (primitive.Operate op.ArraySize) (one (name (suc names) i))

    abbrev test : core.Exp
    test = does (primitive.Operate (op.Compare comparison.Less (scalar.Number kind.Nat))) (two at_place size)

    abbrev sum : core.Exp
    sum = does (primitive.Operate (op.Arithmetic operator.Add kind.Nat)) (two at_place (num 1))

    abbrev write : core.Exp
    write = does primitive.Write (two (name (suc names) j) sum)

    abbrev null : core.Exp
    null = core.Constant? (constant.Leaf part.Null)

    -- what is made of the place
    module _ (at : source.Exp → source.Exp) (made : core.Exp → core.Exp → core.Exp) (h : E written (at (source.Name 0)) (made array index)) where
      abbrev option : core.Exp
      option = does (primitive.Operate op.MakeOption) (one (made array index))

      abbrev chosen : core.Exp
      chosen = core.Do (core.Choose primitive.Copy (let_in write option) null) (one test)

      next_elaborates : E (over_both names i j) (next_code at) (next_by made names i j)
      next_elaborates = (
        read,
        chosen,
        (one (name names j), tt, (name names j, NoExp, (tt, refl), refl, refl), refl),
        (
          test,
          let_in write option,
          null,
          (
            two at_place size,
            tt,
            (at_place, one size, (tt, refl), (size, NoExp, (one (name (suc names) i), tt, (name (suc names) i, NoExp, (tt, refl), refl, refl), refl), refl, refl), refl),
            refl,
          ),
          (
            write,
            option,
            (
              two (name (suc names) j) sum,
              tt,
              (
                name (suc names) j,
                one sum,
                (tt, refl),
                (sum, NoExp, (two at_place (num 1), tt, (at_place, one (num 1), (tt, refl), (num 1, NoExp, (tt, refl), refl, refl), refl), refl), refl, refl),
                refl,
              ),
              refl,
            ),
            (one (made array index), tt, (made array index, NoExp, h, refl, refl), refl),
            refl,
          ),
          (tt, refl),
          refl,
        ),
        refl,
      )

  pub elements_elaborate : (names i j : ℕ) (mutable : Bool) → E (over_both names i j) (next_code (element_code mutable)) (next_by (element mutable) names i j)
  elements_elaborate names i j mutable = next_elaborates names i j (element_code mutable) (element mutable) (element_elaborates names i j mutable)

  pub places_elaborate : (names i j : ℕ) → E (over_both names i j) (next_code (λ x. x)) (next_by place names i j)
  places_elaborate names i j = next_elaborates names i j (λ x. x) place (tt, refl)

-- an array is mutable where that of Core is
module _ (known : List Known) where
  cell_same : (v : Value) (w : core_value.Value) → Belongs known v w → is_mutable (Made Array (AValue v NoValue)) ≡ primitives.is_cell w
  cell_same (Made h inside) (shape.Made i us) a = cells h i (a.0)
    where
      cells : (h i : Head) → h ≡ i → is_mutable (Made Array (AValue (Made h inside) NoValue)) ≡ primitives.is_cell (shape.Made i us)
      cells (Cell at) i e = ap (λ i. primitives.is_cell (shape.Made i us)) e
      cells h i e = ap (λ i. primitives.is_cell (shape.Made i us)) e
  cell_same (Made h inside) (shape.Function f) a = absurd a
  cell_same (Closure group which env) (shape.Function f) a = refl
  cell_same (Closure group which env) (shape.Made i us) a = absurd a
  cell_same (BuiltIn m holds) (shape.Function f) a = refl
  cell_same (BuiltIn m holds) (shape.Made i us) a = absurd a

  first_alone : (v : Value) (vs : Values) → is_mutable (Made Array (AValue v vs)) ≡ is_mutable (Made Array (AValue v NoValue))
  first_alone (Made (Cell at) inside) vs = refl
  first_alone (Made _ inside) vs = refl
  first_alone (Closure group which env) vs = refl
  first_alone (BuiltIn m holds) vs = refl

  pub mutable_same : (v : Value) (w : core_value.Value) → Belongs known v w → is_mutable v ≡ primitives.is_mutable w
  mutable_same (Made h NoValue) (shape.Made i NoShape) a = empty h i (a.0)
    where
      empty : (h i : Head) → h ≡ i → is_mutable (Made h NoValue) ≡ primitives.is_mutable (shape.Made i NoShape)
      empty Array i e = ap (λ i. primitives.is_mutable (shape.Made i NoShape)) e
      empty h i e = ap (λ i. primitives.is_mutable (shape.Made i NoShape)) e
  mutable_same (Made h NoValue) (shape.Made i (AShape u us)) a = absurd (a.1)
  mutable_same (Made h (AValue v vs)) (shape.Made i NoShape) a = absurd (a.1)
  mutable_same (Made h (AValue v vs)) (shape.Made i (AShape u us)) a = several h i (a.0)
    where
      several : (h i : Head) → h ≡ i → is_mutable (Made h (AValue v vs)) ≡ primitives.is_mutable (shape.Made i (AShape u us))
      several Array i e = first_alone v vs ∙ (cell_same v u (a.1.0) ∙ ap (λ i. primitives.is_mutable (shape.Made i (AShape u us))) e)
      several h i e = ap (λ i. primitives.is_mutable (shape.Made i (AShape u us))) e
  mutable_same (Made h inside) (shape.Function f) a = absurd a
  mutable_same (Closure group which env) (shape.Function f) a = refl
  mutable_same (Closure group which env) (shape.Made i us) a = absurd a
  mutable_same (BuiltIn m holds) (shape.Function f) a = refl
  mutable_same (BuiltIn m holds) (shape.Made i us) a = absurd a
