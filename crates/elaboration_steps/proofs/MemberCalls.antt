-- Built-in functions that are values are called: Core enters their bodies.
use Rattle.std.proofs.Common.{◌≡◌, inr, ℕ, zero, suc, ◌+◌, ◌*◌, ◌≤◌, Bool, true, false, List, [], ◌∷◌, ◌++◌, length, Option, Some, None, slice_get, refl, sym, ap, ◌∙◌, subst, arith}
use Rattle.std.specs.Prelude.{codes, pos, replicate}
use Rattle.mo_num.specs.declared.kind.Kind.TheVariants as kind
use Rattle.mo_values.specs.declared.operation.Operation.{Operation}
use Rattle.mo_values.specs.declared.operation.Operation.TheVariants as op
use Rattle.mo_num.specs.declared.operator.Operator.TheVariants as operator
use Rattle.mo_types.specs.declared.datum.Datum.TheVariants as part
use Rattle.mo_types.specs.declared.node.Node.TheVariants as node
use Rattle.mo_values.specs.Costs.{weighing}
use Rattle.mo_values.specs.Shapes.{Bytes, size}
use Rattle.mo_values.specs.Views.{text_of, text_in, leaf_if, natural_in, natural_of, array_of}
use Rattle.mo_machine.specs.Cells.{cell_of, held}
use Rattle.std.specs.Str.{chars}
use Rattle.mo_values.specs.Shapes as shape
use Rattle.core_ir.specs.declared.primitive.Primitive.TheVariants as primitive
use Rattle.core_ir.specs.Choices.{on_some, choose}
use Rattle.core_ir.specs.Values as core_value
use Rattle.core_ir.specs.Values.{Handle}
use Rattle.core_ir.specs.Primitives as primitives
use Rattle.core_ir.specs.Worlds.{MadeGroup, World, Context}
use Rattle.core_ir.specs.Executions.{Go, heavier}
use Rattle.core_ir.specs.Writing.{num}
use Rattle.core_ir.specs.Expressions as core
use Rattle.core_ir.specs.Expressions.{NoExp, Core}
use Rattle.core_ir.specs.CoreMachine as core_machine
use Rattle.core_ir.specs.CoreMachine.{Frame, Arguments, Join, Caller, Focus, Eval, Give, focused, at, operated, depth_of, called, stuck}
use Rattle.typed_tree.specs.declared.action.Action.{Action}
use Rattle.typed_tree.specs.declared.action.Action.TheVariants as action
use Rattle.typed_tree.specs.declared.action.Member.{Member}
use Rattle.typed_tree.specs.declared.action.Member.TheVariants as member
use Rattle.typed_tree.specs.Language as source
use Rattle.typed_tree.specs.Language.{Functions}
use Rattle.mo_meaning.specs.Members.{number}
use Rattle.mo_meaning.specs.Places as places
use Rattle.mo_machine.specs.Values as machine_value
use Rattle.mo_machine.specs.Values.{Value, Values, BuiltIn, NoValue, AValue, Code, BuiltInCode, listed, shape_of, shapes_list}
use Rattle.mo_machine.specs.Environments.{Environment}
use Rattle.mo_machine.specs.Acts.{Store, Act}
use Rattle.mo_machine.specs.Acts as acts
use Rattle.mo_machine.specs.Configurations.{live_on}
use Rattle.mo_machine.specs.Frames as machine
use Rattle.mo_machine.specs.Frames.{Operands, Returning, Stack, Ready}
use Rattle.mo_machine.specs.Jumps.{on_stack}
use Rattle.mo_machine.specs.Members.{call_member, in_frame, sized, each, elements, calls_code, cells_code, each_code, next_char, next_char_at, number_in, char_code, iterator_code, next_code, element_code, is_mutable}
use Rattle.elaboration.specs.Scopes.{Local, one, two, name}
use Rattle.elaboration.specs.Members as members
use Rattle.elaboration.specs.Members.{Elements, Places, Characters, Steps, form_of, number_of, parameters_of, nearest, own_body, own_group, function_of, element, place, next_by, iterator, let_in, does}
use Rattle.elaboration.specs.Meeting.{Reads, Comes, There}
use Rattle.elaboration.proofs.Coming.{step, seq, on_one, reads_more, name_gives}
use Rattle.elaboration_forms.specs.Elaborates.{HasGroups, Elaborates}
use Rattle.elaboration_values.specs.Belonging.{Known, OfFunctions, OfOne, OfMember, code_in, Names, Belongs, EachBelongs, EnvironmentBelongs}
use Rattle.elaboration_steps.specs.Stacks.{Labels, no_labels, scope, IsGoal, alone, goal_at, HeldAt, MemberBelongs, WorldBelongs, StateBelongs, Standing, making_array, AtCode, AtValue, AtRaising, behind_place, Later, Around, InFunction, InOperands, InHolding, Gathered}
use Rattle.elaboration_steps.specs.Follows.{Start, owed, Suits, Acts}
use Rattle.elaboration_steps.proofs.Depth.{as_deep}
use Rattle.elaboration_steps.proofs.Members.{held_none, held_one, held_two, alone_holds_none, first_place, over_both, elements_elaborate, places_elaborate, mutable_same}
use Rattle.elaboration_steps.proofs.Filling.{cells_making, each_making, replicated, ElementsAlike, elements_alike, fills, reads}
use Rattle.elaboration_steps.proofs.Gathering.{gathers_first}
use Rattle.elaboration_steps.proofs.MemberEntries as entries
use Rattle.elaboration_steps.proofs.Paths.{nothing_more, does_then, does_then_in}
use Rattle.elaboration_steps.proofs.Values.{leaf_same, place_same, same_cell, Both, get_both}
use Rattle.elaboration_values.proofs.Messages.{messages}
use Rattle.elaboration_steps.proofs.Rows.{alone_row, member_acts}

abbrev some_or : Value → Option Value → Value
some_or d None = d
some_or d (Some v) = v

some_value : (u v : Value) → Some u ≡ Some v → u ≡ v
some_value u v e = ap (some_or u) e

pub no_member : (n : ℕ) (fns : Functions) (i : ℕ) (env : Environment) (m : Member) (holds : Values) → code_in (Some (OfOne fns i env)) n ≡ Some (BuiltInCode m holds) → ⊥
no_member zero fns i env m holds z = let y : Some (machine_value.ClosureCode fns i env) ≡ Some (BuiltInCode m holds) = z in cc
no_member (suc n) fns i env m holds z = let y : None ≡ Some (BuiltInCode m holds) = z in cc

pub first_member : (n : ℕ) (m : Member) (holds : Values) (code : Code) → code_in (Some (OfMember m holds)) n ≡ Some code → (n ≡ 0) × (BuiltInCode m holds ≡ code)
first_member zero m holds code z = (refl, let y : Some (BuiltInCode m holds) ≡ Some code = z in cc)
first_member (suc n) m holds code z = absurd (let y : None ≡ Some code = z in cc)

module _ (program : Core) (context : Context) (nodes : ℕ) (before : Start) (supply : ℕ) (known : List Known) (world : World) (store : Store) (k : Stack) (worlds : WorldBelongs program.groups known context.globals store world) (spent : ℕ) (cf : Focus) (ck : List Frame) where
  abbrev T : Act → Type 0
  T a = Acts program context nodes before supply known world store k spent cf ck (on_stack store a k)

  module _ (b : Bool) (l : Labels) (less : ℕ) (others : List Frame) (around : Around program context nodes world known b l less k others) (paid : spent + less ≤ supply) where
    -- a built-in function that is a value: Core enters its body
    module _ (m : Member) (holds : Values) (h : Handle) (made : MadeGroup) (stands : slice_get world.groups h.group ≡ Some made) (first : h.member ≡ 0) (g : MemberBelongs program.groups known context.globals m holds made) where
      abbrev itself : core_value.Value
      itself = shape.Function (record { group = h.group; member = 0 })

      abbrev inner : List core_value.Value
      inner = core_value.members h.group 0 1 ++ made.seen

      abbrev inside : List Frame
      inside = Caller 0 None ∷ others

      abbrev Called : List core_value.Value → Type 0
      Called ws = focused program context nodes world cf ck ≡ called program context nodes world (shape.Function h) ws None others

      enters : (ws : List core_value.Value) (c : core.Exp) → Called ws → length ws ≡ parameters_of (form_of m) → own_body (form_of m) (length made.seen) g.levels g.n ≡ c
          → focused program context nodes world cf ck ≡ Go (weighing (1 + 0)) [] world (at program context nodes (Eval c (ws ++ inner)) inside)
      enters ws c eq many is = entries.enters program context nodes before supply known world store k worlds spent cf ck m holds h made stands first g (λ d. d) 0 None others (λ s. refl) ws c eq many is

      -- where Core comes to by further steps, for a reduction of this weight
      lands_by : (by n less' : ℕ) (ws : List core_value.Value) (c : core.Exp) (f' : Focus) (k' : List Frame) (f : machine.Focus) → Called ws → length ws ≡ parameters_of (form_of m) → own_body (form_of m) (length made.seen) g.levels g.n ≡ c
          → Comes program context nodes world n (Eval c (ws ++ inner)) inside f' k' → 1 + n + less' ≤ 2 * by + less → StateBelongs program context nodes world known less' f (Returning 0 ∷ k) f' k' → T (acts.Goes (weighing by) store f (Returning 0 ∷ []))
      lands_by by n less' ws c f' k' f eq many is path light state =
          does_then program context nodes n before (spent + owed k) (2 * by + supply) 0 less' (weighing (1 + 0)) [] known known world world cf ck (Eval c (ws ++ inner)) inside f' k' store f (Returning 0 ∷ k) (enters ws c eq many is) path (omega (arith, paid, light)) (omega arith)
          ([], nothing_more known) refl worlds state

      lands_at : (n : ℕ) (ws : List core_value.Value) (c : core.Exp) (f' : Focus) (k' : List Frame) (f : machine.Focus) → Called ws → length ws ≡ parameters_of (form_of m) → own_body (form_of m) (length made.seen) g.levels g.n ≡ c
          → Comes program context nodes world n (Eval c (ws ++ inner)) inside f' k' → depth_of k' ≡ 16 + depth_of others → n ≤ 1 → Standing program context nodes world known less store f (Returning 0 ∷ k) f' k' → T (acts.Goes (weighing 1) store f (Returning 0 ∷ []))
      lands_at n ws c f' k' f eq many is path depth light stands =
          does_then_in program context nodes n before (spent + owed k) (2 * 1 + supply) 0 less (weighing (1 + 0)) [] known known world world cf ck (Eval c (ws ++ inner)) inside f' k' store f (Returning 0 ∷ k) (enters ws c eq many is) path (omega (arith, paid, light)) (omega arith)
          ([], nothing_more known) refl (inr (let z : live_on k ≡ 16 + nodes + depth_of others = as_deep program.groups known context.globals nodes b l less k others around in omega (arith, z, depth))) stands

      lands_in : (n : ℕ) (ws : List core_value.Value) (c : core.Exp) (f' : Focus) (k' : List Frame) (f : machine.Focus) → Called ws → length ws ≡ parameters_of (form_of m) → own_body (form_of m) (length made.seen) g.levels g.n ≡ c
          → Comes program context nodes world n (Eval c (ws ++ inner)) inside f' k' → n ≤ 1 → StateBelongs program context nodes world known less f (Returning 0 ∷ k) f' k' → T (acts.Goes (weighing 1) store f (Returning 0 ∷ []))
      lands_in n ws c f' k' f eq many is path light state = lands_by 1 n less ws c f' k' f eq many is path (omega (arith, light)) state

      -- one operation or a print, with these values
      row_enters : (a : Action) (vs : List Value) (v : core_value.Value) (ws : List core_value.Value) (e : core.Exp) → Called ws → length ws ≡ parameters_of (form_of m) → own_body (form_of m) (length made.seen) g.levels g.n ≡ core.Do (goal_at no_labels a) (one e)
          → ((k : List Frame) → Comes program context nodes world 0 (Eval e (ws ++ inner)) k (Give v) k) → IsGoal false a → EachBelongs known vs (v ∷ []) → T (acts.Goes (weighing 1) store (Ready a vs) (Returning 0 ∷ []))
      row_enters = entries.row_enters program context nodes before supply known world store k worlds spent cf ck m holds h made stands first g (λ d. d) 0 None others (λ s. refl) less (InFunction 0 b l less k [] others tt around) (omega arith) paid

      alone_enters : (a : Action) (vs : List Value) (ws : List core_value.Value) → alone m ≡ Some a → g.levels ≡ [] → length vs ≡ 1 → EachBelongs known vs ws → Called ws → T (acts.Goes (weighing 1) store (Ready a vs) (Returning 0 ∷ []))
      alone_enters = entries.alone_enters program context nodes before supply known world store k worlds spent cf ck m holds h made stands first g (λ d. d) 0 None others (λ s. refl) less (InFunction 0 b l less k [] others tt around) (omega arith) paid

      -- the size of what it holds
      size_enters : (o : Operation) (level : ℕ) (v : Value) (u : core_value.Value) → Reads made.seen level u → Belongs known v u → parameters_of (form_of m) ≡ 0
          → own_body (form_of m) (length made.seen) g.levels g.n ≡ core.Do (goal_at no_labels (action.Operate o)) (one (name (0 + suc (length made.seen)) level)) → Called [] → T (acts.Goes (weighing 1) store (Ready (action.Operate o) (v ∷ [])) (Returning 0 ∷ []))
      size_enters o level v u reads value none is eq =
          let z : 0 + suc (length made.seen) ≡ suc (length made.seen) = omega arith in
          row_enters (action.Operate o) (v ∷ []) u [] (name (suc (length made.seen)) level) eq (sym none) (is ∙ ap (λ n. core.Do (goal_at no_labels (action.Operate o)) (one (name n level))) z)
          (λ k. name_gives program context nodes world inner level u (reads_more made.seen itself level u reads) k) tt (value, tt)

      -- an iterator: Core stands before the cell with its place
      iterator_enters : (by : Member) (level : ℕ) (v : Value) (u : core_value.Value) → Reads made.seen level u → Belongs known v u → parameters_of (form_of m) ≡ 0
          → own_body (form_of m) (length made.seen) g.levels g.n ≡ iterator (suc (length made.seen)) level (number_of (form_of by) g.n)
          → HasGroups program.groups g.n (function_of (form_of by) (suc (suc (length made.seen))) (level ∷ suc (length made.seen) ∷ []) g.n).groups → Called []
          → T (acts.Goes (weighing 1) store (machine.Eval (iterator_code by) (AValue v NoValue)) (Returning 0 ∷ []))
      iterator_enters by level v u reads value none is groups eq =
          lands_in 0 [] (iterator (suc (length made.seen)) level (number_of (form_of by) g.n)) (Eval fresh inner) stack (machine.Eval (iterator_code by) env) eq (sym none) is
          (step program context nodes world 0 0 (Eval (core.Do making (one (let_in fresh function))) inner) inside (Eval (let_in fresh function) inner) (Arguments making [] NoExp inner ∷ inside) refl (Eval fresh inner) stack refl
          (step program context nodes world 0 0 (Eval (let_in fresh function) inner) (Arguments making [] NoExp inner ∷ inside) (Eval fresh inner) stack refl (Eval fresh inner) stack refl (There 0 (Eval fresh inner) stack)))
          (omega arith)
          (Later (machine.Eval (iterator_code by) env) (Returning 0 ∷ k) (machine.Eval made_by env) (object ∷ Returning 0 ∷ k) (Eval fresh inner) stack refl (λ store. refl) (omega arith) (omega arith) (omega (arith, deep))
          (Later (machine.Eval made_by env) (object ∷ Returning 0 ∷ k) (machine.Eval (source.Name 0) env) (Operands (action.BuiltIn by) [] (places.one cell) env ∷ object ∷ Returning 0 ∷ k) (Eval fresh inner) stack refl (λ store. refl) (omega arith) (omega arith) (omega (arith, deep))
          (Later (machine.Eval (source.Name 0) env) (Operands (action.BuiltIn by) [] (places.one cell) env ∷ object ∷ Returning 0 ∷ k) (machine.Give v) (Operands (action.BuiltIn by) [] (places.one cell) env ∷ object ∷ Returning 0 ∷ k) (Eval fresh inner) stack refl (λ store. refl) (omega arith) (omega arith) (omega (arith, deep))
          (Later (machine.Give v) (Operands (action.BuiltIn by) [] (places.one cell) env ∷ object ∷ Returning 0 ∷ k) (machine.Eval cell env) (Operands (action.BuiltIn by) (v ∷ []) source.NoExp env ∷ object ∷ Returning 0 ∷ k) (Eval fresh inner) stack refl (λ store. refl) (omega arith) (omega arith) (omega (arith, deep))
          (AtCode false no_labels cell env (Operands (action.BuiltIn by) (v ∷ []) source.NoExp env ∷ object ∷ Returning 0 ∷ k) fresh inner stack (record { places = []; code = first_place program.groups (scope [] no_labels inner); names = λ x y e. tt })
          (InHolding false no_labels less by (v ∷ []) env (object ∷ Returning 0 ∷ k) g.n (level ∷ []) inner (Arguments making [] NoExp inner ∷ inside) ((u, reads_more made.seen itself level u reads, value), tt) groups
          (InOperands false no_labels less (action.Operate (op.MakeObject (codes "next" ∷ []))) [] source.NoExp env (Returning 0 ∷ k) [] NoExp inner inside tt tt (record { places = []; code = refl; names = λ x y e. tt })
          (InFunction 0 b l less k [] others tt around))))))))
        where
          env : Environment
          env = AValue v NoValue

          making : core.Goal
          making = core.Operate (primitive.Operate (op.MakeObject (codes "next" ∷ [])))

          fresh : core.Exp
          fresh = does primitive.New (one (num 0))

          function : core.Exp
          function = core.Functions (number_of (form_of by) g.n) (core.Name 0)

          stack : List Frame
          stack = Arguments (core.Bind function) [] NoExp inner ∷ Arguments making [] NoExp inner ∷ inside

          cell : source.Exp
          cell = source.Do action.New (places.one (source.Val (number 0)))

          made_by : source.Exp
          made_by = source.Do (action.BuiltIn by) (places.two (source.Name 0) cell)

          object : machine.Frame
          object = Operands (action.Operate (op.MakeObject (codes "next" ∷ []))) [] source.NoExp env

          deep : live_on k ≡ 16 + nodes + depth_of others
          deep = as_deep program.groups known context.globals nodes b l less k others around

      -- `next` of an iterator over an array
      module _ (i j : ℕ) (u v : Value) (x y : core_value.Value) (array : Reads made.seen i x × Belongs known u x) (cell : Reads made.seen j y × Belongs known v y) (none : parameters_of (form_of m) ≡ 0) where
        abbrev held_both : Environment
        held_both = AValue u (AValue v NoValue)

        both_stand : EnvironmentBelongs known context.globals (Local i ∷ Local j ∷ []) held_both inner
        both_stand zero z e = (x, reads_more made.seen itself i x (array.0), subst (λ z. Belongs known z x) (some_value u z e) (array.1))
        both_stand (suc zero) z e = (y, reads_more made.seen itself j y (cell.0), subst (λ z. Belongs known z y) (some_value v z e) (cell.1))
        both_stand (suc (suc n)) z e = absurd (let w : None ≡ Some z = e in cc)

        elements_enter : own_body (form_of m) (length made.seen) g.levels g.n
            ≡ core.Do (core.Choose primitive.IsMutable (next_by (element true) (suc (length made.seen)) i j) (next_by (element false) (suc (length made.seen)) i j)) (one (name (suc (length made.seen)) i)) → Called []
            → T (acts.Goes (weighing 1) store (machine.Eval (next_code (element_code (is_mutable u))) held_both) (Returning 0 ∷ []))
        elements_enter is eq =
            lands_in 1 [] (core.Do (core.Choose primitive.IsMutable on off) (one (name (length inner) i))) (Eval (choose (primitives.is_mutable x) on off) inner) (Join ∷ inside) (machine.Eval (next_code (element_code (is_mutable u))) held_both) eq (sym none) is
            (on_one program context nodes world 0 1 (core.Choose primitive.IsMutable on off) (name (length inner) i) inner x inside (Eval (choose (primitives.is_mutable x) on off) inner) (Join ∷ inside) refl
            (name_gives program context nodes world inner i x (reads_more made.seen itself i x (array.0))) refl)
            (omega arith)
            (AtCode false no_labels (next_code (element_code (is_mutable u))) held_both (Returning 0 ∷ k) (choose (primitives.is_mutable x) on off) inner (Join ∷ inside)
            (record { places = Local i ∷ Local j ∷ []; code = subst (λ c. Elaborates program.groups false (over_both (length inner) i j) (next_code (element_code (is_mutable u))) c) (by_form (is_mutable u) ∙ ap (λ c. choose c on off) (mutable_same known u x (array.1))) (elements_elaborate program.groups (length inner) i j (is_mutable u)); names = both_stand })
            (InFunction 0 b l less k (Join ∷ []) others tt around))
          where
            on : core.Exp
            on = next_by (element true) (length inner) i j

            off : core.Exp
            off = next_by (element false) (length inner) i j

            by_form : (c : Bool) → next_by (element c) (length inner) i j ≡ choose c on off
            by_form true = refl
            by_form false = refl

        places_enter : own_body (form_of m) (length made.seen) g.levels g.n ≡ next_by place (suc (length made.seen)) i j → Called []
            → T (acts.Goes (weighing 1) store (machine.Eval (next_code (λ x. x)) held_both) (Returning 0 ∷ []))
        places_enter is eq =
            lands_in 0 [] (next_by place (length inner) i j) (Eval (next_by place (length inner) i j) inner) inside (machine.Eval (next_code (λ x. x)) held_both) eq (sym none) is (There 0 (Eval (next_by place (length inner) i j) inner) inside) (omega arith)
            (AtCode false no_labels (next_code (λ x. x)) held_both (Returning 0 ∷ k) (next_by place (length inner) i j) inner inside (record { places = Local i ∷ Local j ∷ []; code = places_elaborate program.groups (length inner) i j; names = both_stand })
            (InFunction 0 b l less k [] others tt around))

      -- arrays are made of new cells, or of what cells hold: Core stands before that
      init_enters : (n v : Value) (x y : core_value.Value) → Belongs known n x → Belongs known v y → 2 ≡ parameters_of (form_of m) → own_body (form_of m) (length made.seen) g.levels g.n ≡ does primitive.ArrayInit (nearest 0 2) → Called (x ∷ y ∷ [])
          → T (in_frame store (sized cells_code (AValue v NoValue) (natural_of (shape_of n))))
      init_enters n v x y number value many is eq = by (natural_of (shape_of n)) (ap (λ o. natural_in (leaf_if (node.Number kind.Nat) o)) (sym (leaf_same known n x number)))
        where
          env : List core_value.Value
          env = x ∷ y ∷ inner

          goal : core.Goal
          goal = core.Operate primitive.ArrayInit

          last : List Frame
          last = Arguments goal (x ∷ []) NoExp env ∷ inside

          path : Comes program context nodes world 0 (Eval (does primitive.ArrayInit (nearest 0 2)) env) inside (Give y) last
          path =
              step program context nodes world 0 0 (Eval (does primitive.ArrayInit (nearest 0 2)) env) inside (Eval (core.Name 0) env) (Arguments goal [] (one (core.Name 1)) env ∷ inside) refl (Give y) last refl
              (step program context nodes world 0 0 (Eval (core.Name 0) env) (Arguments goal [] (one (core.Name 1)) env ∷ inside) (Give x) (Arguments goal [] (one (core.Name 1)) env ∷ inside) refl (Give y) last refl
              (step program context nodes world 0 0 (Give x) (Arguments goal [] (one (core.Name 1)) env ∷ inside) (Eval (core.Name 1) env) last refl (Give y) last refl
              (step program context nodes world 0 0 (Eval (core.Name 1) env) last (Give y) last refl (Give y) last refl (There 0 (Give y) last))))

          by : (o : Option ℕ) → natural_of x ≡ o → T (in_frame store (sized cells_code (AValue v NoValue) o))
          by None e = tt
          by (Some count) e =
              lands_at 0 (x ∷ y ∷ []) (does primitive.ArrayInit (nearest 0 2)) (Give y) last (machine.Eval (source.Do making_array (cells_code count)) (AValue v NoValue)) eq many is path refl (omega arith)
              (fills program context nodes world known less store worlds b l k others around (AValue v NoValue) (cells_code count) (replicate count v) (replicate count y) (Give y) last (cells_making v count) (replicated known v y value count)
              (ap (λ o. operated program context nodes world inside (on_some primitives.Stuck o (λ n. primitives.celled context.head world.store (replicate n y)))) e) (omega arith))

      -- a function makes the elements
      tabulate_enters : (n v : Value) (x y : core_value.Value) → Belongs known n x → Belongs known v y → 2 ≡ parameters_of (form_of m) → own_body (form_of m) (length made.seen) g.levels g.n ≡ core.Do core.Tabulate (nearest 0 2) → Called (x ∷ y ∷ [])
          → T (in_frame store (sized (calls_code 0) (AValue v NoValue) (natural_of (shape_of n))))
      tabulate_enters n v x y number value many is eq = by (natural_of (shape_of n)) (ap (λ o. natural_in (leaf_if (node.Number kind.Nat) o)) (sym (leaf_same known n x number)))
        where
          env : List core_value.Value
          env = x ∷ y ∷ inner

          last : List Frame
          last = Arguments core.Tabulate (x ∷ []) NoExp env ∷ inside

          path : Comes program context nodes world 0 (Eval (core.Do core.Tabulate (nearest 0 2)) env) inside (Give y) last
          path =
              step program context nodes world 0 0 (Eval (core.Do core.Tabulate (nearest 0 2)) env) inside (Eval (core.Name 0) env) (Arguments core.Tabulate [] (one (core.Name 1)) env ∷ inside) refl (Give y) last refl
              (step program context nodes world 0 0 (Eval (core.Name 0) env) (Arguments core.Tabulate [] (one (core.Name 1)) env ∷ inside) (Give x) (Arguments core.Tabulate [] (one (core.Name 1)) env ∷ inside) refl (Give y) last refl
              (step program context nodes world 0 0 (Give x) (Arguments core.Tabulate [] (one (core.Name 1)) env ∷ inside) (Eval (core.Name 1) env) last refl (Give y) last refl
              (step program context nodes world 0 0 (Eval (core.Name 1) env) last (Give y) last refl (Give y) last refl (There 0 (Give y) last))))

          by : (o : Option ℕ) → natural_of x ≡ o → T (in_frame store (sized (calls_code 0) (AValue v NoValue) o))
          by None e = tt
          by (Some count) e =
              lands_at 0 (x ∷ y ∷ []) (core.Do core.Tabulate (nearest 0 2)) (Give y) last (machine.Eval (source.Do making_array (calls_code 0 count)) (AValue v NoValue)) eq many is path refl (omega arith)
              (Gathered store (machine.Eval (source.Do making_array (calls_code 0 count)) (AValue v NoValue)) (Returning 0 ∷ k) (Give y) last worlds
              (gathers_first program context nodes world known less b l v y value k others (Give y) last around count
              (ap (λ o. on_some (stuck program context nodes world) o (λ n. heavier 1 (core_machine.gather program context nodes world y 0 n [] inside))) e)))

      array_enters : (a : Value) (x : core_value.Value) → Belongs known a x → 1 ≡ parameters_of (form_of m) → own_body (form_of m) (length made.seen) g.levels g.n ≡ does primitive.ArrayThaw (nearest 0 1) → Called (x ∷ [])
          → T (in_frame store (each action.New (elements a)))
      array_enters a x value many is eq = by (elements a) (elements_alike known a x value)
        where
          goal : core.Goal
          goal = core.Operate primitive.ArrayThaw

          last : List Frame
          last = Arguments goal [] NoExp (x ∷ inner) ∷ inside

          by : (o : Option (List Value)) → ElementsAlike known o (array_of x) → T (in_frame store (each action.New o))
          by None e = tt
          by (Some vs) e =
              lands_at 0 (x ∷ []) (does primitive.ArrayThaw (nearest 0 1)) (Give x) last (machine.Eval (source.Do making_array (each_code action.New 0 vs)) (machine_value.gathered vs)) eq many is
              (step program context nodes world 0 0 (Eval (does primitive.ArrayThaw (nearest 0 1)) (x ∷ inner)) inside (Eval (core.Name 0) (x ∷ inner)) last refl (Give x) last refl
              (step program context nodes world 0 0 (Eval (core.Name 0) (x ∷ inner)) last (Give x) last refl (Give x) last refl (There 0 (Give x) last))) refl (omega arith)
              (fills program context nodes world known less store worlds b l k others around (machine_value.gathered vs) (each_code action.New 0 vs) vs (e.0) (Give x) last (each_making action.New vs) (e.2)
              (ap (λ o. operated program context nodes world inside (on_some primitives.Stuck o (primitives.celled context.head world.store))) (e.1)) (omega arith))

      held_enters : (a : Value) (x : core_value.Value) → Belongs known a x → 1 ≡ parameters_of (form_of m) → own_body (form_of m) (length made.seen) g.levels g.n ≡ does primitive.ArrayFreeze (nearest 0 1) → Called (x ∷ [])
          → T (in_frame store (each action.Read (elements a)))
      held_enters a x value many is eq = by (elements a) (elements_alike known a x value)
        where
          goal : core.Goal
          goal = core.Operate primitive.ArrayFreeze

          last : List Frame
          last = Arguments goal [] NoExp (x ∷ inner) ∷ inside

          by : (o : Option (List Value)) → ElementsAlike known o (array_of x) → T (in_frame store (each action.Read o))
          by None e = tt
          by (Some cs) e =
              lands_at 0 (x ∷ []) (does primitive.ArrayFreeze (nearest 0 1)) (Give x) last (machine.Eval (source.Do making_array (each_code action.Read 0 cs)) (machine_value.gathered cs)) eq many is
              (step program context nodes world 0 0 (Eval (does primitive.ArrayFreeze (nearest 0 1)) (x ∷ inner)) inside (Eval (core.Name 0) (x ∷ inner)) last refl (Give x) last refl
              (step program context nodes world 0 0 (Eval (core.Name 0) (x ∷ inner)) last (Give x) last refl (Give x) last refl (There 0 (Give x) last))) refl (omega arith)
              (reads program context nodes world known less store worlds b l k others around (machine_value.gathered cs) (each_code action.Read 0 cs) cs (e.0) (Give x) last (each_making action.Read cs) (e.2)
              (ap (λ o. operated program context nodes world inside (on_some primitives.Stuck o (λ cs. on_some primitives.Stuck (primitives.all_held world.store cs) (primitives.whole_array context.head world.store)))) (e.1)) (omega arith))

      -- `next` of an iterator over a text
      module _ (i j : ℕ) (v place : Value) (x y : core_value.Value) (text : Reads made.seen i x × Belongs known v x) (cell : Reads made.seen j y × Belongs known place y) (none : parameters_of (form_of m) ≡ 0)
          (is : own_body (form_of m) (length made.seen) g.levels g.n ≡ does primitive.NextChar (two (name (suc (length made.seen)) j) (name (suc (length made.seen)) i))) (eq : Called []) where
        abbrev goal : core.Goal
        goal = core.Operate primitive.NextChar

        abbrev body : core.Exp
        body = does primitive.NextChar (two (name (length inner) j) (name (length inner) i))

        abbrev last : List Frame
        last = Arguments goal (y ∷ []) NoExp inner ∷ inside

        abbrev env : Environment
        env = AValue place NoValue

        ready : Comes program context nodes world 0 (Eval body inner) inside (Give x) last
        ready =
            step program context nodes world 0 0 (Eval body inner) inside (Eval (name (length inner) j) inner) (Arguments goal [] (one (name (length inner) i)) inner ∷ inside) refl (Give x) last refl
            (seq program context nodes world 0 0 (Eval (name (length inner) j) inner) (Arguments goal [] (one (name (length inner) i)) inner ∷ inside) (Give y) (Arguments goal [] (one (name (length inner) i)) inner ∷ inside) (Give x) last
            (name_gives program context nodes world inner j y (reads_more made.seen itself j y (cell.0)) (Arguments goal [] (one (name (length inner) i)) inner ∷ inside))
            (step program context nodes world 0 0 (Give y) (Arguments goal [] (one (name (length inner) i)) inner ∷ inside) (Eval (name (length inner) i) inner) last refl (Give x) last refl
            (name_gives program context nodes world inner i x (reads_more made.seen itself i x (text.0)) last)))

        deep : live_on k ≡ 16 + nodes + depth_of others
        deep = as_deep program.groups known context.globals nodes b l less k others around

        sizes_same : size (shape_of v) ≡ size x
        sizes_same = let z : size (shape_of v) + 0 ≡ size x + 0 = (messages known (shapes_list (v ∷ [])) (x ∷ []) (text.1, tt)).1 in omega (arith, z)

        -- what comes of the character
        by_character : (p : ℕ) (o : Option ℕ) → focused program context nodes world (Give x) last
            ≡ operated program context nodes world inside (primitives.next context.head world.store (1 + size x) y p (on_some None o (λ c. Some (shape.leaf (part.Char c)))))
            → T (acts.Goes (weighing (1 + size (shape_of v))) store (machine.Eval (char_code p o) env) (Returning 0 ∷ []))
        by_character p None does_it =
            lands_by (1 + size (shape_of v)) (0 + (1 + size x + 0)) less [] body (Give core_value.null) inside (machine.Eval (source.Val source.null) env) eq (sym none) is
            (seq program context nodes world 0 (1 + size x + 0) (Eval body inner) inside (Give x) last (Give core_value.null) inside ready
            (step program context nodes world (1 + size x) 0 (Give x) last (Give core_value.null) inside refl (Give core_value.null) inside does_it (There 0 (Give core_value.null) inside)))
            (omega (arith, sizes_same))
            (Later (machine.Eval (source.Val source.null) env) (Returning 0 ∷ k) (machine.Give machine_value.null) (Returning 0 ∷ k) (Give core_value.null) inside refl (λ store. refl) (omega arith) (omega arith) (omega (arith, deep))
            (AtValue false no_labels machine_value.null core_value.null (Returning 0 ∷ k) inside (refl, tt) (InFunction 0 b l less k [] others tt around)))
        by_character p (Some c) does_it =
            lands_by (1 + size (shape_of v)) 0 supplied [] body (Give x) last (machine.Eval (char_code p (Some c)) env) eq (sym none) is ready (omega (arith, sizes_same))
            (Later (machine.Eval (char_code p (Some c)) env) (Returning 0 ∷ k) (machine.Eval writing env) (behind_place c place k) (Give x) last refl (λ store. refl) (omega arith) (omega arith) (omega (arith, deep))
            (Later (machine.Eval writing env) (behind_place c place k) (machine.Eval (source.Name 0) env) (Operands action.Write [] (places.one sum) env ∷ behind_place c place k) (Give x) last refl (λ store. refl) (omega arith) (omega arith) (omega (arith, deep))
            (Later (machine.Eval (source.Name 0) env) (Operands action.Write [] (places.one sum) env ∷ behind_place c place k) (machine.Give place) (Operands action.Write [] (places.one sum) env ∷ behind_place c place k) (Give x) last refl (λ store. refl) (omega arith) (omega arith) (omega (arith, deep))
            (Later (machine.Give place) (Operands action.Write [] (places.one sum) env ∷ behind_place c place k) (machine.Eval sum env) second (Give x) last refl (λ store. refl) (omega arith) (omega arith) (omega (arith, deep))
            (Later (machine.Eval sum env) second (machine.Eval (source.Val (number p)) env) (Operands add [] (places.one (source.Val (number 1))) env ∷ second) (Give x) last refl (λ store. refl) (omega arith) (omega arith) (omega (arith, deep))
            (Later (machine.Eval (source.Val (number p)) env) (Operands add [] (places.one (source.Val (number 1))) env ∷ second) (machine.Give (machine_value.leaf (part.Number (pos p)))) (Operands add [] (places.one (source.Val (number 1))) env ∷ second) (Give x) last refl (λ store. refl) (omega arith) (omega arith) (omega (arith, deep))
            (Later (machine.Give (machine_value.leaf (part.Number (pos p)))) (Operands add [] (places.one (source.Val (number 1))) env ∷ second) (machine.Eval (source.Val (number 1)) env) (Operands add (machine_value.leaf (part.Number (pos p)) ∷ []) source.NoExp env ∷ second) (Give x) last refl (λ store. refl) (omega arith) (omega arith) (omega (arith, deep))
            (Later (machine.Eval (source.Val (number 1)) env) (Operands add (machine_value.leaf (part.Number (pos p)) ∷ []) source.NoExp env ∷ second) (machine.Give (machine_value.leaf (part.Number (pos 1)))) (Operands add (machine_value.leaf (part.Number (pos p)) ∷ []) source.NoExp env ∷ second) (Give x) last refl (λ store. refl) (omega arith) (omega arith) (omega (arith, deep))
            (Later (machine.Give (machine_value.leaf (part.Number (pos 1)))) (Operands add (machine_value.leaf (part.Number (pos p)) ∷ []) source.NoExp env ∷ second) (Ready add (machine_value.leaf (part.Number (pos p)) ∷ machine_value.leaf (part.Number (pos 1)) ∷ [])) second (Give x) last refl (λ store. refl) (omega arith) (omega arith) (omega (arith, deep))
            (AtRaising b l less (1 + size x) p c place y k others (Give x) last (cell.1) does_it (omega arith) (omega arith) around))))))))))
          where
            supplied : ℕ
            supplied = less + 1 + size x + size (shape_of v)

            add : Action
            add = action.Operate (op.Arithmetic operator.Add kind.Nat)

            sum : source.Exp
            sum = source.Do add (places.two (source.Val (number p)) (source.Val (number 1)))

            writing : source.Exp
            writing = source.Do action.Write (places.two (source.Name 0) sum)

            second : Stack
            second = Operands action.Write (place ∷ []) source.NoExp env ∷ behind_place c place k

        by_place : (o : Option Bytes) (p : Option ℕ) → text_of x ≡ o → primitives.place_in context.head world.store y ≡ p → T (next_char_at store v place o p)
        by_place None p text_is place_is = tt
        by_place (Some bytes) None text_is place_is = tt
        by_place (Some bytes) (Some p) text_is place_is =
            by_character p (slice_get (chars bytes) p)
            (ap (λ o. operated program context nodes world inside (on_some primitives.Stuck o (λ bytes. on_some primitives.Stuck (primitives.place_in context.head world.store y) (λ i. primitives.next_char context.head world.store y x i bytes)))) text_is
            ∙ ap (λ o. operated program context nodes world inside (on_some primitives.Stuck o (λ i. primitives.next_char context.head world.store y x i bytes))) place_is)

        characters_enter : T (next_char store v place)
        characters_enter =
            by_place (text_of (shape_of v)) (number_in (held store (cell_of place))) (ap (λ o. text_in (leaf_if node.Text o)) (sym (leaf_same known v x (text.1))))
            (ap (λ o. on_some None (primitives.held world.store o) natural_of) (same_cell known place y (cell.1)) ∙ place_same known (held store (cell_of place)) (primitives.held world.store (cell_of place)) (held_both (cell_of place)))
          where
            held_both : (o : Option ℕ) → Both known (held store o) (primitives.held world.store o)
            held_both None = tt
            held_both (Some i) = get_both known store world.store i worlds.cells

    -- whatever it holds
    module _ (h : Handle) (made : MadeGroup) (stands : slice_get world.groups h.group ≡ Some made) (first : h.member ≡ 0) where
      abbrev Held : Member → Values → List Value → Type 0
      Held m holds hs = (g : MemberBelongs program.groups known context.globals m holds made) × HeldAt known made.seen g.levels hs

      abbrev Entered : List core_value.Value → Type 0
      Entered ws = focused program context nodes world cf ck ≡ called program context nodes world (shape.Function h) ws None others

      alone_called : (m : Member) (holds : Values) (a : Action) (hs vs : List Value) (ws : List core_value.Value) → alone m ≡ Some a → length vs ≡ 1 → Held m holds hs → EachBelongs known vs ws → Entered ws → T (call_member store m hs vs)
      alone_called m holds a (x ∷ hs) vs ws is many g r eq = alone_holds_none store T m a x hs vs is tt
      alone_called m holds a [] vs ws is many g r eq =
          member_acts store T m a [] vs (alone_row m a is) tt (alone_enters m holds h made stands first (g.0) a vs ws is (held_none known made.seen g.0.levels (g.1)) many r eq)

      by_member : (m : Member) (holds : Values) (hs vs : List Value) (ws : List core_value.Value) → Held m holds hs → ((a : Action) → alone m ≡ Some a → length vs ≡ 1) → EachBelongs known vs ws → Entered ws → T (call_member store m hs vs)
      by_member member.DebugPrint holds hs vs ws g many r eq = alone_called member.DebugPrint holds action.Print hs vs ws refl (many action.Print refl) g r eq
      by_member member.DebugTrap holds hs vs ws g many r eq = alone_called member.DebugTrap holds (action.Operate op.Trap) hs vs ws refl (many (action.Operate op.Trap) refl) g r eq
      by_member member.ErrorReject holds hs vs ws g many r eq = alone_called member.ErrorReject holds (action.Operate op.RejectError) hs vs ws refl (many (action.Operate op.RejectError) refl) g r eq
      by_member member.ErrorMessage holds hs vs ws g many r eq = alone_called member.ErrorMessage holds (action.Operate op.Message) hs vs ws refl (many (action.Operate op.Message) refl) g r eq
      by_member member.ErrorCode holds hs vs ws g many r eq = alone_called member.ErrorCode holds (action.Operate op.Code) hs vs ws refl (many (action.Operate op.Code) refl) g r eq
      by_member member.NatToText holds hs vs ws g many r eq = alone_called member.NatToText holds (action.Operate (op.ToText kind.Nat)) hs vs ws refl (many (action.Operate (op.ToText kind.Nat)) refl) g r eq
      by_member member.IntToText holds hs vs ws g many r eq = alone_called member.IntToText holds (action.Operate (op.ToText kind.Int)) hs vs ws refl (many (action.Operate (op.ToText kind.Int)) refl) g r eq
      by_member member.PrincipalFromActor holds hs vs ws g many r eq = alone_called member.PrincipalFromActor holds (action.Operate op.PrincipalOf) hs vs ws refl (many (action.Operate op.PrincipalOf) refl) g r eq
      by_member member.ArraySize holds [] vs ws g many r eq = tt
      by_member member.ArraySize holds (v ∷ []) [] [] g many r eq =
          let o = held_one known made.seen g.0.levels v (g.1) in
          size_enters member.ArraySize holds h made stands first (g.0) op.ArraySize (o.0) v (o.1) (o.3) (o.4) refl (ap (λ ls. own_body (form_of member.ArraySize) (length made.seen) ls g.0.n) (o.2)) eq
      by_member member.ArraySize holds (v ∷ []) [] (w ∷ ws) g many r eq = absurd r
      by_member member.ArraySize holds (v ∷ []) (u ∷ vs) ws g many r eq = tt
      by_member member.ArraySize holds (v ∷ x ∷ hs) vs ws g many r eq = tt
      by_member member.TextSize holds [] vs ws g many r eq = tt
      by_member member.TextSize holds (v ∷ []) [] [] g many r eq =
          let o = held_one known made.seen g.0.levels v (g.1) in
          size_enters member.TextSize holds h made stands first (g.0) op.TextSize (o.0) v (o.1) (o.3) (o.4) refl (ap (λ ls. own_body (form_of member.TextSize) (length made.seen) ls g.0.n) (o.2)) eq
      by_member member.TextSize holds (v ∷ []) [] (w ∷ ws) g many r eq = absurd r
      by_member member.TextSize holds (v ∷ []) (u ∷ vs) ws g many r eq = tt
      by_member member.TextSize holds (v ∷ x ∷ hs) vs ws g many r eq = tt
      by_member member.ArrayVals holds [] vs ws g many r eq = tt
      by_member member.ArrayVals holds (v ∷ []) [] [] g many r eq =
          let o = held_one known made.seen g.0.levels v (g.1) in
          iterator_enters member.ArrayVals holds h made stands first (g.0) member.NextVal (o.0) v (o.1) (o.3) (o.4) refl (ap (λ ls. own_body (form_of member.ArrayVals) (length made.seen) ls g.0.n) (o.2))
          (g.0.there.0 ∙ ap (λ ls. Some (own_group (Steps Elements) (suc (suc (length made.seen))) (members.first ls ∷ suc (length made.seen) ∷ []) 0)) (o.2), tt) eq
      by_member member.ArrayVals holds (v ∷ []) [] (w ∷ ws) g many r eq = absurd r
      by_member member.ArrayVals holds (v ∷ []) (u ∷ vs) ws g many r eq = tt
      by_member member.ArrayVals holds (v ∷ x ∷ hs) vs ws g many r eq = tt
      by_member member.ArrayKeys holds [] vs ws g many r eq = tt
      by_member member.ArrayKeys holds (v ∷ []) [] [] g many r eq =
          let o = held_one known made.seen g.0.levels v (g.1) in
          iterator_enters member.ArrayKeys holds h made stands first (g.0) member.NextKey (o.0) v (o.1) (o.3) (o.4) refl (ap (λ ls. own_body (form_of member.ArrayKeys) (length made.seen) ls g.0.n) (o.2))
          (g.0.there.0 ∙ ap (λ ls. Some (own_group (Steps Places) (suc (suc (length made.seen))) (members.first ls ∷ suc (length made.seen) ∷ []) 0)) (o.2), tt) eq
      by_member member.ArrayKeys holds (v ∷ []) [] (w ∷ ws) g many r eq = absurd r
      by_member member.ArrayKeys holds (v ∷ []) (u ∷ vs) ws g many r eq = tt
      by_member member.ArrayKeys holds (v ∷ x ∷ hs) vs ws g many r eq = tt
      by_member member.TextChars holds [] vs ws g many r eq = tt
      by_member member.TextChars holds (v ∷ []) [] [] g many r eq =
          let o = held_one known made.seen g.0.levels v (g.1) in
          iterator_enters member.TextChars holds h made stands first (g.0) member.NextChar (o.0) v (o.1) (o.3) (o.4) refl (ap (λ ls. own_body (form_of member.TextChars) (length made.seen) ls g.0.n) (o.2))
          (g.0.there.0 ∙ ap (λ ls. Some (own_group (Steps Characters) (suc (suc (length made.seen))) (members.first ls ∷ suc (length made.seen) ∷ []) 0)) (o.2), tt) eq
      by_member member.TextChars holds (v ∷ []) [] (w ∷ ws) g many r eq = absurd r
      by_member member.TextChars holds (v ∷ []) (u ∷ vs) ws g many r eq = tt
      by_member member.TextChars holds (v ∷ x ∷ hs) vs ws g many r eq = tt
      by_member member.NextVal holds [] vs ws g many r eq = tt
      by_member member.NextVal holds (v ∷ []) vs ws g many r eq = tt
      by_member member.NextVal holds (u ∷ v ∷ []) [] [] g many r eq =
          let o = held_two known made.seen g.0.levels u v (g.1) in
          elements_enter member.NextVal holds h made stands first (g.0) (o.0) (o.1) u v (o.2) (o.3) (o.5) (o.6) refl (ap (λ ls. own_body (form_of member.NextVal) (length made.seen) ls g.0.n) (o.4)) eq
      by_member member.NextVal holds (u ∷ v ∷ []) [] (w ∷ ws) g many r eq = absurd r
      by_member member.NextVal holds (u ∷ v ∷ []) (x ∷ vs) ws g many r eq = tt
      by_member member.NextVal holds (u ∷ v ∷ x ∷ hs) vs ws g many r eq = tt
      by_member member.NextKey holds [] vs ws g many r eq = tt
      by_member member.NextKey holds (v ∷ []) vs ws g many r eq = tt
      by_member member.NextKey holds (u ∷ v ∷ []) [] [] g many r eq =
          let o = held_two known made.seen g.0.levels u v (g.1) in
          places_enter member.NextKey holds h made stands first (g.0) (o.0) (o.1) u v (o.2) (o.3) (o.5) (o.6) refl (ap (λ ls. own_body (form_of member.NextKey) (length made.seen) ls g.0.n) (o.4)) eq
      by_member member.NextKey holds (u ∷ v ∷ []) [] (w ∷ ws) g many r eq = absurd r
      by_member member.NextKey holds (u ∷ v ∷ []) (x ∷ vs) ws g many r eq = tt
      by_member member.NextKey holds (u ∷ v ∷ x ∷ hs) vs ws g many r eq = tt
      by_member member.ArrayTabulate holds (h0 ∷ hs) vs ws g many r eq = tt
      by_member member.ArrayTabulate holds [] [] ws g many r eq = tt
      by_member member.ArrayTabulate holds [] (n ∷ []) ws g many r eq = tt
      by_member member.ArrayTabulate holds [] (n ∷ v ∷ []) [] g many r eq = absurd r
      by_member member.ArrayTabulate holds [] (n ∷ v ∷ []) (x ∷ []) g many r eq = absurd (r.1)
      by_member member.ArrayTabulate holds [] (n ∷ v ∷ []) (x ∷ y ∷ []) g many r eq = tabulate_enters member.ArrayTabulate holds h made stands first (g.0) n v x y (r.0) (r.1.0) refl refl eq
      by_member member.ArrayTabulate holds [] (n ∷ v ∷ []) (x ∷ y ∷ z ∷ ws) g many r eq = absurd (r.1.1)
      by_member member.ArrayTabulate holds [] (n ∷ v ∷ u ∷ vs) ws g many r eq = tt
      by_member member.ArrayInit holds (h0 ∷ hs) vs ws g many r eq = tt
      by_member member.ArrayInit holds [] [] ws g many r eq = tt
      by_member member.ArrayInit holds [] (n ∷ []) ws g many r eq = tt
      by_member member.ArrayInit holds [] (n ∷ v ∷ []) [] g many r eq = absurd r
      by_member member.ArrayInit holds [] (n ∷ v ∷ []) (x ∷ []) g many r eq = absurd (r.1)
      by_member member.ArrayInit holds [] (n ∷ v ∷ []) (x ∷ y ∷ []) g many r eq = init_enters member.ArrayInit holds h made stands first (g.0) n v x y (r.0) (r.1.0) refl refl eq
      by_member member.ArrayInit holds [] (n ∷ v ∷ []) (x ∷ y ∷ z ∷ ws) g many r eq = absurd (r.1.1)
      by_member member.ArrayInit holds [] (n ∷ v ∷ u ∷ vs) ws g many r eq = tt
      by_member member.ArrayThaw holds (h0 ∷ hs) vs ws g many r eq = tt
      by_member member.ArrayThaw holds [] [] ws g many r eq = tt
      by_member member.ArrayThaw holds [] (a ∷ []) [] g many r eq = absurd r
      by_member member.ArrayThaw holds [] (a ∷ []) (x ∷ []) g many r eq = array_enters member.ArrayThaw holds h made stands first (g.0) a x (r.0) refl refl eq
      by_member member.ArrayThaw holds [] (a ∷ []) (x ∷ y ∷ ws) g many r eq = absurd (r.1)
      by_member member.ArrayThaw holds [] (a ∷ u ∷ vs) ws g many r eq = tt
      by_member member.ArrayFreeze holds (h0 ∷ hs) vs ws g many r eq = tt
      by_member member.ArrayFreeze holds [] [] ws g many r eq = tt
      by_member member.ArrayFreeze holds [] (a ∷ []) [] g many r eq = absurd r
      by_member member.ArrayFreeze holds [] (a ∷ []) (x ∷ []) g many r eq = held_enters member.ArrayFreeze holds h made stands first (g.0) a x (r.0) refl refl eq
      by_member member.ArrayFreeze holds [] (a ∷ []) (x ∷ y ∷ ws) g many r eq = absurd (r.1)
      by_member member.ArrayFreeze holds [] (a ∷ u ∷ vs) ws g many r eq = tt
      by_member member.NextChar holds [] vs ws g many r eq = tt
      by_member member.NextChar holds (v ∷ []) vs ws g many r eq = tt
      by_member member.NextChar holds (u ∷ v ∷ []) [] [] g many r eq =
          let o = held_two known made.seen g.0.levels u v (g.1) in
          characters_enter member.NextChar holds h made stands first (g.0) (o.0) (o.1) u v (o.2) (o.3) (o.5) (o.6) refl (ap (λ ls. own_body (form_of member.NextChar) (length made.seen) ls g.0.n) (o.4)) eq
      by_member member.NextChar holds (u ∷ v ∷ []) [] (w ∷ ws) g many r eq = absurd r
      by_member member.NextChar holds (u ∷ v ∷ []) (x ∷ vs) ws g many r eq = tt
      by_member member.NextChar holds (u ∷ v ∷ x ∷ hs) vs ws g many r eq = tt

    pub member_called : (m : Member) (holds : Values) (vs : List Value) (ws : List core_value.Value) (h : Handle) → Names known (BuiltInCode m holds) h → EachBelongs known vs ws → Suits known (Ready action.Call (BuiltIn m holds ∷ vs)) k
        → focused program context nodes world cf ck ≡ called program context nodes world (shape.Function h) ws None others → T (call_member store m (listed holds) vs)
    member_called m holds vs ws h value r suits eq = by (slice_get known h.group) refl value
      where
        by : (o : Option Known) → slice_get known h.group ≡ o → code_in o h.member ≡ Some (BuiltInCode m holds) → T (call_member store m (listed holds) vs)
        by None e z = absurd (let y : None ≡ Some (BuiltInCode m holds) = z in cc)
        by (Some (OfFunctions fns env)) e z = absurd (let y : Some (machine_value.ClosureCode fns h.member env) ≡ Some (BuiltInCode m holds) = z in cc)
        by (Some (OfOne fns j env)) e z = absurd (no_member h.member fns j env m holds z)
        by (Some (OfMember n inside)) e z =
            let c : (h.member ≡ 0) × (BuiltInCode n inside ≡ BuiltInCode m holds) = first_member h.member n inside (BuiltInCode m holds) z in
            let x : BuiltInCode n inside ≡ BuiltInCode m holds = c.1 in
            let y : n ≡ m = cc in
            let u : inside ≡ holds = cc in
            let f : (i : MadeGroup) × (slice_get world.groups h.group ≡ Some i) × MemberBelongs program.groups known context.globals n inside i = worlds.groups.each h.group (OfMember n inside) e in
            let g : MemberBelongs program.groups known context.globals m holds (f.0) =
            subst (λ i. MemberBelongs program.groups known context.globals i holds (f.0)) y (subst (λ i. MemberBelongs program.groups known context.globals n i (f.0)) u (f.2)) in
            by_member h (f.0) (f.1) (c.0) m holds (listed holds) vs ws (g, g.held) suits r eq
