-- Each reduction of the machine of typed programs is followed by Core.
use Rattle.std.proofs.Common.{◌≡◌, ℕ, zero, suc, ◌+◌, ◌*◌, ◌≤◌, Bool, true, false, cond, List, [], ◌∷◌, ◌++◌, length, Some, None, slice_get, refl, sym, ap, subst, arith, inl, inr}
use Rattle.mo_num.specs.declared.kind.Kind.TheVariants as kind
use Rattle.mo_types.specs.declared.datum.Datum.TheVariants as part
use Rattle.mo_values.specs.declared.operation.Operation.TheVariants as op
use Rattle.mo_values.specs.Costs.{weighing}
use Rattle.mo_values.specs.Shapes.{Leaf, Function, unit}
use Rattle.core_ir.specs.declared.primitive.Primitive.TheVariants as primitive
use Rattle.core_ir.specs.Choices.{on_some}
use Rattle.core_ir.specs.Values as core_value
use Rattle.core_ir.specs.Values.{members}
use Rattle.core_ir.specs.Worlds.{World, Context}
use Rattle.core_ir.specs.Worlds as worlds
use Rattle.core_ir.specs.Expressions as core
use Rattle.core_ir.specs.Expressions.{Loop, NoExp, Choose, Bind, Body, Core, nodes_of}
use Rattle.core_ir.specs.CoreMachine as core_machine
use Rattle.core_ir.specs.CoreMachine.{Frame, Arguments, Looping, Focus, Eval, stuck, grouped}
use Rattle.typed_tree.specs.declared.action.Action.{Action}
use Rattle.typed_tree.specs.declared.action.Action.TheVariants as action
use Rattle.typed_tree.specs.declared.action.Member.{Member}
use Rattle.typed_tree.specs.declared.action.Member.TheVariants as member
use Rattle.typed_tree.specs.Patterns.{Pat}
use Rattle.typed_tree.specs.Language as source
use Rattle.typed_tree.specs.Language.{Exp, Exps, Functions, While, Repeat}
use Rattle.typed_tree.specs.Substitution.{count, group_nodes}
use Rattle.mo_machine.specs.Values.{Value, Values, BuiltIn, listed, gathered}
use Rattle.mo_machine.specs.Values as machine_value
use Rattle.mo_machine.specs.Environments.{Environment, with_group}
use Rattle.mo_machine.specs.Acts.{Store, Act, goes}
use Rattle.mo_machine.specs.Frames as machine
use Rattle.mo_machine.specs.Frames.{Operands, Returning, Testing, Repeating, Going, Stepping, Stack, Ready, Turning}
use Rattle.mo_machine.specs.Jumps.{on_stack}
use Rattle.mo_machine.specs.Reductions.{reduces}
use Rattle.elaboration.specs.Scopes.{Place, under, nothing, beside, inside}
use Rattle.elaboration.specs.Elaboration.{break_with, if_true, next_of, is_true, loop_scope, loop_of, tested_loop, element_of}
use Rattle.elaboration.specs.Members.{form_of, number_of}
use Rattle.elaboration.specs.Meeting.{There}
use Rattle.elaboration.proofs.Coming.{step}
use Rattle.elaboration_forms.specs.Elaborates.{Elaborates, ElaboratesFunctions, unseen, only, ElaboratesOne}
use Rattle.elaboration_values.specs.Belonging.{Known, OfFunctions, OfMember, code_in, Belongs, EachBelongs, EnvironmentBelongs, OfOne}
use Rattle.elaboration_steps.specs.Stacks.{Labels, with_own_label, row_of, spare, scope, while_of, repeat_of, turn_with, Passing, Written, Arrived, Coded, CodedBeside, CodedPattern, WorldBelongs, StateBelongs, AtCode, AtWhile, AtRepeat, AtAction, AtValue, AtEnd, AtBody, AtTurned, AtGoing, AtLeft, AtCallee, AtMaking, AtMade, AtApplied, AtInner, AtBack, AtFunction, Later, LaterBy, AtRaising, AtWriting, AtWritten, HeldAt, Holding, Acting, Calling, Applied, Around, InTesting, InRepeating, AtEndless, AtTruth, AtTrue, InEndless, truth, endless_of}
use Rattle.elaboration_steps.specs.Follows.{start, further, owed, Suits, Acts}
use Rattle.elaboration_steps.proofs.Acting.{act_follows, inner_follows}
use Rattle.elaboration_steps.proofs.Characters.{raises, writes, gives_character}
use Rattle.elaboration_steps.proofs.Groups.{last_stands, with_members, as_many_bodies, same_nodes, group_names, one_name, one_lighter, world_grows}
use Rattle.elaboration_steps.proofs.Growth.{names_stay, member_stays, stack_stays}
use Rattle.elaboration_steps.proofs.Matching.{coded}
use Rattle.elaboration_steps.proofs.Members.{own_there}
use Rattle.elaboration_steps.proofs.Paths.{waits, steps, does, does_then, acts_ahead, acts_behind}
use Rattle.elaboration_steps.proofs.Rows.{some_action, member_acts}
use Rattle.elaboration_steps.proofs.Taking.{turn_stack, takes_follow, going_follows, beside_code, element_stack}

ready : (a : Action) (vs : List Value) → 1 ≤ further (Ready a vs)
ready action.Call (BuiltIn m holds ∷ vs) = omega arith
ready a vs = omega arith

listed_all : (vs : List Value) → listed (gathered vs) ≡ vs
listed_all [] = refl
listed_all (v ∷ vs) = ap (λ xs. v ∷ xs) (listed_all vs)

further_of_row : (m : Member) (a : Action) (vs : List Value) → row_of m ≡ Some a → further (Ready a vs) ≡ 1
further_of_row member.DebugPrint a vs e = ap (λ x. further (Ready x vs)) (sym (some_action action.Print a e))
further_of_row member.DebugTrap a vs e = ap (λ x. further (Ready x vs)) (sym (some_action (action.Operate op.Trap) a e))
further_of_row member.ErrorReject a vs e = ap (λ x. further (Ready x vs)) (sym (some_action (action.Operate op.RejectError) a e))
further_of_row member.ErrorMessage a vs e = ap (λ x. further (Ready x vs)) (sym (some_action (action.Operate op.Message) a e))
further_of_row member.ErrorCode a vs e = ap (λ x. further (Ready x vs)) (sym (some_action (action.Operate op.Code) a e))
further_of_row member.NatToText a vs e = ap (λ x. further (Ready x vs)) (sym (some_action (action.Operate (op.ToText kind.Nat)) a e))
further_of_row member.IntToText a vs e = ap (λ x. further (Ready x vs)) (sym (some_action (action.Operate (op.ToText kind.Int)) a e))
further_of_row member.PrincipalFromActor a vs e = ap (λ x. further (Ready x vs)) (sym (some_action (action.Operate op.PrincipalOf) a e))
further_of_row member.ArraySize a vs e = ap (λ x. further (Ready x vs)) (sym (some_action (action.Operate op.ArraySize) a e))
further_of_row member.TextSize a vs e = ap (λ x. further (Ready x vs)) (sym (some_action (action.Operate op.TextSize) a e))
further_of_row _ a vs e = absurd (let z : None ≡ Some a = e in cc)

true_is : (x : Exp) → is_true x ≡ true → x ≡ truth
true_is (source.Val (source.Made (Leaf (part.Flag true)) source.NoValue)) h = refl
true_is _ h = absurd (let z : false ≡ true = h in cc)

module _ (program : Core) (context : Context) (nodes : ℕ) (held : ℕ) (known : List Known) (world : World) (store : Store) (worlds_belong : WorldBelongs program.groups known context.globals store world) where
  module _ (b : Bool) (l : Labels) (k : Stack) (ck : List Frame) (around : Around program context nodes world known b l held k ck) (env : Environment) (vals : List core_value.Value) where
    abbrev A : machine.Focus → ℕ → Focus → List Frame → Act → Type 0
    A f = Acts program context nodes (start f k) held known world store k

    abbrev Code : Exp → core.Exp → Type 0
    Code e c = Coded program.groups known context.globals b (with_own_label l) e env c vals

    -- the test of a loop, from where its body stands
    tests : (f : machine.Focus) (x y : Exp) (c d : core.Exp) (spent : ℕ) → Code x c → CodedBeside program.groups known context.globals b (with_own_label l) y env d vals → spent ≤ 2
        → A f spent (Eval (while_of c d) vals) (Looping (while_of c d) vals ∷ core_machine.Labelled ∷ ck) (goes store (machine.Eval x env) (Testing x y env ∷ k))
    tests f x y c d spent p q le =
        acts_ahead program context nodes (start f k) held known world store k 0 spent _ _ (Eval (if_true c nothing (break_with nothing)) vals) bound (goes store (machine.Eval x env) (Testing x y env ∷ k)) refl refl
        (steps program context nodes 0 (start f k) (spent + 0 + owed k) (2 * 1 + held) 0 held known world _ _ (Eval c vals) (Arguments (Choose primitive.Copy nothing (break_with nothing)) [] NoExp vals ∷ bound)
        store (machine.Eval x env) (Testing x y env ∷ k) refl refl (omega (arith, le)) worlds_belong
        (AtCode b (with_own_label l) x env (Testing x y env ∷ k) c vals (Arguments (Choose primitive.Copy nothing (break_with nothing)) [] NoExp vals ∷ bound) p
        (InTesting b l held x y env k c d vals ck p q around)))
      where
        bound : List Frame
        bound = Arguments (Bind d) [] NoExp vals ∷ Looping (while_of c d) vals ∷ core_machine.Labelled ∷ ck

    -- the test of one without an end, which holds
    goes_on : (y : Exp) (d : core.Exp) (spent : ℕ) → CodedBeside program.groups known context.globals b l y env d vals → spent ≤ 2
        → A (machine.Eval (While truth y) env) spent (Eval (endless_of d) vals) (Looping (endless_of d) vals ∷ ck) (goes store (machine.Eval truth env) (Testing truth y env ∷ k))
    goes_on y d spent q le =
        steps program context nodes 0 (start (machine.Eval (While truth y) env) k) (spent + owed k) (2 * 1 + held) 0 held known world _ _ (Eval nothing vals) (Arguments (Bind d) [] NoExp vals ∷ Looping (endless_of d) vals ∷ ck)
        store (machine.Eval truth env) (Testing truth y env ∷ k) refl refl (omega (arith, le)) worlds_belong
        (AtTruth b l y env k d vals ck q around)

    repeats : (f : machine.Focus) (y x : Exp) (d c : core.Exp) (spent : ℕ) → Code y d → CodedBeside program.groups known context.globals b (with_own_label l) x env c vals → spent ≤ 2
        → A f spent (Eval (repeat_of d c) vals) (Looping (repeat_of d c) vals ∷ core_machine.Labelled ∷ ck) (goes store (machine.Eval y env) (Repeating y x env ∷ k))
    repeats f y x d c spent p q le =
        steps program context nodes 0 (start f k) (spent + owed k) (2 * 1 + held) 0 held known world _ _ (Eval d vals) (Arguments (Bind (if_true c nothing (break_with nothing))) [] NoExp vals ∷ Looping (repeat_of d c) vals ∷ core_machine.Labelled ∷ ck)
        store (machine.Eval y env) (Repeating y x env ∷ k) refl refl (omega (arith, le)) worlds_belong
        (AtCode b (with_own_label l) y env (Repeating y x env ∷ k) d vals (Arguments (Bind (if_true c nothing (break_with nothing))) [] NoExp vals ∷ Looping (repeat_of d c) vals ∷ core_machine.Labelled ∷ ck) p
        (InRepeating b l held y x env k d c vals ck p q around))

    -- a loop is entered
    enters_loop : (f : machine.Focus) (c : core.Exp) (t : Act) → A f (0 + 1 + 1) (Eval c vals) (Looping c vals ∷ core_machine.Labelled ∷ ck) t → A f 0 (Eval (core.Label (Loop c)) vals) ck t
    enters_loop f c t r =
        acts_ahead program context nodes (start f k) held known world store k 1 0 _ ck (Eval (Loop c) vals) (core_machine.Labelled ∷ ck) t refl refl
        (acts_ahead program context nodes (start f k) held known world store k 1 (0 + 1) _ _ (Eval c vals) (Looping c vals ∷ core_machine.Labelled ∷ ck) t refl refl r)

    -- a group is made
    module _ (places : List Place) (names : EnvironmentBelongs known context.globals places env vals) (fns : Functions) (d : Exp) (n : ℕ) (bodies : List Body) (z : core.Exp)
        (there : slice_get program.groups n ≡ Some (record { sees = length vals; bodies = bodies })) (functions : ElaboratesFunctions program.groups (under (count fns) (scope places l vals)) fns bodies)
        (rest : Elaborates program.groups b (under (count fns) (scope places l vals)) d z) where
      abbrev made : Known
      made = OfFunctions fns env

      abbrev grown : List Known
      grown = known ++ made ∷ []

      abbrev g : ℕ
      g = length world.groups

      here : slice_get grown g ≡ Some made
      here = subst (λ i. slice_get grown i ≡ Some made) (sym worlds_belong.groups.as_many) (last_stands known made)

      names_grown : EnvironmentBelongs grown context.globals places env vals
      names_grown = names_stay program.groups known (made ∷ []) context.globals places env vals names

      bodies_are : length bodies ≡ count fns
      bodies_are = as_many_bodies program.groups (under (count fns) (scope places l vals)) fns bodies functions

      abbrev inner : List core_value.Value
      inner = members g 0 (length bodies) ++ vals

      as_many : count fns + length vals ≡ length inner
      as_many = let x : length inner ≡ length bodies + length vals = with_members g 0 (length bodies) vals in let y : length bodies ≡ count fns = bodies_are in omega (arith, x, y)

      pub group_follows : A (machine.Eval (source.Group fns d) env) 0 (Eval (core.Functions n z) vals) ck (reduces context.head None store (machine.Eval (source.Group fns d) env) k)
      group_follows =
          let same : nodes_of bodies ≡ group_nodes fns = same_nodes program.groups (under (count fns) (scope places l vals)) fns bodies functions in
          does program context nodes (start (machine.Eval (source.Group fns d) env) k) (0 + owed k) (2 * (1 + group_nodes fns) + held) 0 held (weighing (1 + nodes_of bodies)) [] known grown world (worlds.with_group world n vals) _ ck (Eval z inner) ck store
          (machine.Eval d (with_group fns env)) k
          (ap (λ o. on_some (stuck program context nodes world) o (λ i. grouped program context nodes world n z vals ck i.bodies)) there) (omega (arith, same)) (omega arith) (made ∷ [], refl) refl
          (world_grows program.groups known context.globals made store world n vals worlds_belong (record { places = places; labels = l; bodies = bodies; there = there; code = functions; names = names_grown }))
          (AtCode b l d (with_group fns env) k z inner ck
          (coded program context nodes grown b (under (count fns) (scope places l vals)) d (with_group fns env) z inner as_many rest
          (subst (λ i. EnvironmentBelongs grown context.globals (under (count fns) (scope places l vals)).places (with_group fns env) (members g 0 i ++ vals)) (sym bodies_are)
          (group_names grown context.globals fns env g here fns 0 env places vals names_grown)))
          (stack_stays program.groups known (made ∷ []) context.globals nodes b l held k ck around))

    -- one function of a group is made
    module _ (places : List Place) (names : EnvironmentBelongs known context.globals places env vals) (fns : Functions) (d : Exp) (i n : ℕ) (body : Body) (z : core.Exp)
        (there : slice_get program.groups n ≡ Some (record { sees = length vals; bodies = body ∷ [] })) (function : ElaboratesOne program.groups (unseen (count fns) (scope places l vals)) fns i body)
        (rest : Elaborates program.groups b (only i (count fns) (scope places l vals)) d z) where
      abbrev one : Known
      one = OfOne fns i env

      abbrev with_one : List Known
      with_one = known ++ one ∷ []

      abbrev number : ℕ
      number = length world.groups

      one_here : slice_get with_one number ≡ Some one
      one_here = subst (λ i. slice_get with_one i ≡ Some one) (sym worlds_belong.groups.as_many) (last_stands known one)

      names_with_one : EnvironmentBelongs with_one context.globals places env vals
      names_with_one = names_stay program.groups known (one ∷ []) context.globals places env vals names

      abbrev behind_one : List core_value.Value
      behind_one = members number 0 1 ++ vals

      pub one_follows : A (machine.Eval (source.Group fns d) env) 0 (Eval (core.Functions n z) vals) ck (reduces context.head None store (machine.Eval (source.Group fns d) env) k)
      one_follows =
          let fewer : body.nodes ≤ group_nodes fns = one_lighter program.groups (unseen (count fns) (scope places l vals)) fns i body function in
          does program context nodes (start (machine.Eval (source.Group fns d) env) k) (0 + owed k) (2 * (1 + group_nodes fns) + held) 0 held (weighing (1 + nodes_of (body ∷ []))) [] known with_one world (worlds.with_group world n vals) _ ck (Eval z behind_one) ck store
          (machine.Eval d (with_group fns env)) k
          (ap (λ o. on_some (stuck program context nodes world) o (λ i. grouped program context nodes world n z vals ck i.bodies)) there) (omega (arith, fewer)) (omega arith) (one ∷ [], refl) refl
          (world_grows program.groups known context.globals one store world n vals worlds_belong (record { places = places; labels = l; body = body; there = there; code = function; names = names_with_one }))
          (AtCode b l d (with_group fns env) k z behind_one ck
          (coded program context nodes with_one b (only i (count fns) (scope places l vals)) d (with_group fns env) z behind_one (omega arith) rest
          (one_name with_one context.globals fns i env number one_here fns i 0 (omega arith) env places vals names_with_one))
          (stack_stays program.groups known (one ∷ []) context.globals nodes b l held k ck around))

    eval_follows : (e : Exp) (c : core.Exp) → Coded program.groups known context.globals b l e env c vals → A (machine.Eval e env) 0 (Eval c vals) ck (reduces context.head None store (machine.Eval e env) k)
    eval_follows (source.Group fns d) c r =
        either r.code
      where
        either : Elaborates program.groups b (scope r.places l vals) (source.Group fns d) c → A (machine.Eval (source.Group fns d) env) 0 (Eval c vals) ck (reduces context.head None store (machine.Eval (source.Group fns d) env) k)
        either (inl t) =
            subst (λ x. A (machine.Eval (source.Group fns d) env) 0 (Eval x vals) ck (reduces context.head None store (machine.Eval (source.Group fns d) env) k)) (sym (t.6))
            (group_follows r.places r.names fns d (t.0) (t.1) (t.2) (t.3) (t.4) (t.5))
        either (inr t) =
            subst (λ x. A (machine.Eval (source.Group fns d) env) 0 (Eval x vals) ck (reduces context.head None store (machine.Eval (source.Group fns d) env) k)) (sym (t.7))
            (one_follows r.places r.names fns d (t.0) (t.1) (t.2) (t.3) (t.4) (t.5) (t.6))
    eval_follows (While x d) c r =
        let t : Elaborates program.groups b (scope r.places l vals) (While x d) c = r.code in
        subst (λ y. A (machine.Eval (While x d) env) 0 (Eval y vals) ck (reduces context.head None store (machine.Eval (While x d) env) k)) (sym (t.4))
        (by (is_true x) refl (t.0) (t.1) (t.2) (t.3))
      where
        by : (e : Bool) → is_true x ≡ e → (y z : core.Exp) → Elaborates program.groups b (inside (scope r.places l vals)) x y → Elaborates program.groups b (beside 1 (loop_scope x (scope r.places l vals))) d z
            → A (machine.Eval (While x d) env) 0 (Eval (loop_of x y z) vals) ck (goes store (machine.Eval x env) (Testing x d env ∷ k))
        by true h y z p q =
            let same : x ≡ truth = true_is x h in
            subst (λ i. A (machine.Eval (While x d) env) 0 (Eval (cond i (Loop (endless_of z)) (tested_loop y z)) vals) ck (goes store (machine.Eval x env) (Testing x d env ∷ k))) (sym h)
            (subst (λ i. A (machine.Eval (While i d) env) 0 (Eval (Loop (endless_of z)) vals) ck (goes store (machine.Eval i env) (Testing i d env ∷ k))) (sym same)
            (acts_ahead program context nodes (start (machine.Eval (While truth d) env) k) held known world store k 1 0 _ ck (Eval (endless_of z) vals) (Looping (endless_of z) vals ∷ ck) (goes store (machine.Eval truth env) (Testing truth d env ∷ k)) refl refl
            (goes_on d z (0 + 1) (record { places = r.places; code = subst (λ i. Elaborates program.groups b (record (beside 1 (scope r.places l vals)) { labels = cond i l.count (suc l.count) }) d z) h q; names = r.names }) (omega arith))))
        by false h y z p q =
            subst (λ i. A (machine.Eval (While x d) env) 0 (Eval (cond i (Loop (endless_of z)) (tested_loop y z)) vals) ck (goes store (machine.Eval x env) (Testing x d env ∷ k))) (sym h)
            (enters_loop (machine.Eval (While x d) env) (while_of y z) (goes store (machine.Eval x env) (Testing x d env ∷ k))
            (tests (machine.Eval (While x d) env) x d y z (0 + 1 + 1) (record { places = r.places; code = p; names = r.names })
            (record { places = r.places; code = subst (λ i. Elaborates program.groups b (record (beside 1 (scope r.places l vals)) { labels = cond i l.count (suc l.count) }) d z) h q; names = r.names }) (omega arith)))
    eval_follows (Repeat d x) c r =
        let t : Elaborates program.groups b (scope r.places l vals) (Repeat d x) c = r.code in
        subst (λ y. A (machine.Eval (Repeat d x) env) 0 (Eval y vals) ck (reduces context.head None store (machine.Eval (Repeat d x) env) k)) (sym (t.4))
        (enters_loop (machine.Eval (Repeat d x) env) (repeat_of (t.0) (t.1)) (goes store (machine.Eval d env) (Repeating d x env ∷ k))
        (repeats (machine.Eval (Repeat d x) env) d x (t.0) (t.1) (0 + 1 + 1) (record { places = r.places; code = t.2; names = r.names }) (record { places = r.places; code = t.3; names = r.names }) (omega arith)))
    eval_follows (source.Val v) c r = tt
    eval_follows (source.Name x) c r = tt
    eval_follows (source.Do a es) c r = tt
    eval_follows (source.If x y z) c r = tt
    eval_follows (source.Switch e cases) c r = tt
    eval_follows (source.Frame n e) c r = tt
    eval_follows (source.Label e) c r = tt
    eval_follows (source.For p e d) c r = tt
    eval_follows (source.Try e p d) c r = tt
    eval_follows (source.Update o e f) c r = tt

  -- the action that is due
  acting : (a : Action) (vs : List Value) (k : Stack) (cf : Focus) (ck : List Frame) → Acting program context nodes world known held a vs k cf ck → Suits known (Ready a vs) k
      → Acts program context nodes (start (Ready a vs) k) held known world store k 0 cf ck (reduces context.head None store (Ready a vs) k)
  acting a vs k cf ck r suits =
      acts_behind program context nodes (start (Ready a vs) k) held known world store k r.weight 0 cf ck r.f' r.ck' _ r.path
      (act_follows program context nodes (start (Ready a vs) k) held known world store k worlds_belong (0 + r.weight) r.f' r.ck' r.b r.l r.less r.others r.around r.vals (let z : 1 ≤ further (Ready a vs) = ready a vs in omega (arith, z)) a vs r.values r.may r.arguments r.level suits (omega arith) r.acts
      (let h : r.weight + r.less ≤ held + spare a = r.paid in omega (arith, h)))

  -- the value behind the body of a `for`, and that behind the last element
  turned : (b : Bool) (l : Labels) (p : Pat) (e : Exp) (env : Environment) (v : Value) (k : Stack) (c : core.Exp) (w : core_value.Value) (vals : List core_value.Value) (ck : List Frame) (f : machine.Focus) (more : Stack)
      → Passing true (Stepping p v e env ∷ k) f more → Belongs known v w → CodedPattern program.groups known context.globals b (with_own_label l) p e env c (w ∷ vals) → Around program context nodes world known b l held k ck
      → Acts program context nodes (start f more) held known world store more 0 (Eval (turn_with c) (w ∷ vals)) (Looping (turn_with c) (w ∷ vals) ∷ core_machine.Labelled ∷ ck) (reduces context.head None store f more)
  turned b l p e env v k c w vals ck f more (Written n env') value pattern around = tt
  turned b l p e env v k c w vals ck f more (Arrived (suc n)) value pattern around = tt
  turned b l p e env v k c w vals ck f more (Arrived zero) value pattern around =
      acts_ahead program context nodes (start f more) held known world store more 0 0 _ _ (Eval element_of (w ∷ vals)) (element_stack c w vals ck) (goes store (machine.Give v) (Going p e env ∷ k)) refl refl
      (steps program context nodes 0 (start f more) (0 + 0 + owed more) (2 * 1 + held) 0 held known world _ _ (Eval (next_of (core.Name 0)) (w ∷ vals)) (turn_stack c w vals ck) store (machine.Give v) (Going p e env ∷ k) refl refl (omega arith) worlds_belong
      (AtGoing b l p e env v k c w vals ck value pattern around))

  left_behind : (b : Bool) (l : Labels) (p : Pat) (e : Exp) (env : Environment) (v : Value) (k : Stack) (ck : List Frame) (f : machine.Focus) (more : Stack)
      → Passing false (Stepping p v e env ∷ k) f more → Around program context nodes world known b l held k ck
      → Acts program context nodes (start f more) held known world store more 0 (core_machine.Give unit) ck (reduces context.head None store f more)
  left_behind b l p e env v k ck f more (Written n env') around = tt
  left_behind b l p e env v k ck f more (Arrived (suc n)) around = tt
  left_behind b l p e env v k ck f more (Arrived zero) around =
      waits program context nodes (start f more) (0 + owed more) (2 * 1 + held) 0 held known world (core_machine.Give unit) ck store (machine.Give machine_value.unit) k (omega arith) (omega arith) worlds_belong
      (AtValue b l machine_value.unit unit k ck (refl, tt) around)

  -- a built-in function that is called at once: what it holds is put together, it is entered, and left
  member_made : (m : Member) (vs : List Value) (args : Exps) (env : Environment) (k : Stack) (cf : Focus) (ck : List Frame) → Calling program context nodes world known held m vs args env k cf ck
      → Acts program context nodes (start (Ready (action.BuiltIn m) vs) (Operands action.Call [] args env ∷ k)) held known world store (Operands action.Call [] args env ∷ k) 0 cf ck (reduces context.head None store (Ready (action.BuiltIn m) vs) (Operands action.Call [] args env ∷ k))
  member_made m vs args env k cf ck r =
      waits program context nodes (start (Ready (action.BuiltIn m) vs) (Operands action.Call [] args env ∷ k)) (0 + owed (Operands action.Call [] args env ∷ k)) (2 * (2 + length (machine_value.shapes_list vs)) + held) 0 held known world cf ck store
      (machine.Give (BuiltIn m (gathered vs))) (Operands action.Call [] args env ∷ k) (omega arith) (omega arith) worlds_belong
      (AtMade m (gathered vs) args env k cf ck (record {
        b = r.b;
        l = r.l;
        a = r.a;
        values = r.values;
        arguments = r.arguments;
        vals = r.vals;
        others = r.others;
        row = r.row;
        belongs = subst (λ xs. EachBelongs known xs r.values) (sym (listed_all vs)) r.belongs;
        code = r.code;
        acts = r.acts;
        level = r.level;
        around = r.around;
      }))

  member_applied : (m : Member) (a : Action) (holds : Values) (vs : List Value) (k : Stack) (cf : Focus) (ck : List Frame) → row_of m ≡ Some a → Applied program context nodes world known held a (listed holds ++ vs) k cf ck
      → Acts program context nodes (start (Ready action.Call (BuiltIn m holds ∷ vs)) k) held known world store k 0 cf ck (reduces context.head None store (Ready action.Call (BuiltIn m holds ∷ vs)) k)
  member_applied m a holds vs k cf ck row r =
      member_acts store (λ t. Acts program context nodes (start (Ready action.Call (BuiltIn m holds ∷ vs)) k) held known world store k 0 cf ck (on_stack store t k)) m a (listed holds) vs row tt
      (waits program context nodes (start (Ready action.Call (BuiltIn m holds ∷ vs)) k) (0 + owed k) (2 * 1 + held) 0 held known world cf ck store (Ready a (listed holds ++ vs)) (Returning 0 ∷ k) (omega arith)
      (let z : further (Ready a (listed holds ++ vs)) ≡ 1 = further_of_row m a (listed holds ++ vs) row in omega (arith, z)) worlds_belong
      (AtInner m a (listed holds ++ vs) k cf ck row r))

  member_inner : (m : Member) (a : Action) (vs : List Value) (k : Stack) (cf : Focus) (ck : List Frame) → row_of m ≡ Some a → Applied program context nodes world known held a vs k cf ck → Suits known (Ready a vs) (Returning 0 ∷ k)
      → Acts program context nodes (start (Ready a vs) (Returning 0 ∷ k)) held known world store (Returning 0 ∷ k) 0 cf ck (reduces context.head None store (Ready a vs) (Returning 0 ∷ k))
  member_inner m a vs k cf ck row r suits =
      inner_follows program context nodes (start (Ready a vs) (Returning 0 ∷ k)) held known world store (Returning 0 ∷ k) worlds_belong 0 cf ck held r.others
      (λ world' v w x. AtBack r.b r.l v w k r.others x r.around) r.vals (omega arith) r.l m a vs r.values row r.belongs suits r.acts

  member_back : (b : Bool) (l : Labels) (v : Value) (w : core_value.Value) (k : Stack) (ck : List Frame) → Belongs known v w → Around program context nodes world known b l held k ck
      → Acts program context nodes (start (machine.Give v) (Returning 0 ∷ k)) held known world store (Returning 0 ∷ k) 0 (core_machine.Give w) ck (reduces context.head None store (machine.Give v) (Returning 0 ∷ k))
  member_back b l v w k ck value around =
      waits program context nodes (start (machine.Give v) (Returning 0 ∷ k)) (0 + owed (Returning 0 ∷ k)) (2 * 1 + held) 0 held known world (core_machine.Give w) ck store (machine.Give v) k (omega arith) (omega arith) worlds_belong
      (AtValue b l v w k ck value around)

  -- a built-in function is made
  function_made : (m : Member) (vs : List Value) (k : Stack) (cf : Focus) (ck : List Frame) → Holding program context nodes world known held m vs k cf ck
      → Acts program context nodes (start (Ready (action.BuiltIn m) vs) k) held known world store k 0 cf ck (reduces context.head None store (Ready (action.BuiltIn m) vs) k)
  function_made m vs k cf ck r =
      acts_behind program context nodes (start (Ready (action.BuiltIn m) vs) k) held known world store k r.weight 0 cf ck (Eval (core.Functions number (core.Name 0)) r.vals) r.others (reduces context.head None store (Ready (action.BuiltIn m) vs) k) r.path
      (does_then program context nodes 0 (start (Ready (action.BuiltIn m) vs) k) (0 + r.weight + owed k) (2 * (2 + length (machine_value.shapes_list vs)) + held) 0 held (weighing (1 + (0 + 0))) [] known (known ++ OfMember m (gathered vs) ∷ []) world (worlds.with_group world number r.vals)
      (Eval (core.Functions number (core.Name 0)) r.vals) r.others (Eval (core.Name 0) (function ∷ r.vals)) r.others (core_machine.Give function) r.others store (machine.Give (BuiltIn m (gathered vs))) k
      (ap (λ o. on_some (stuck program context nodes world) o (λ i. grouped program context nodes world number (core.Name 0) r.vals r.others i.bodies)) (own_there program.groups (form_of m) (length r.vals) r.levels r.n r.there))
      (step program context nodes (worlds.with_group world number r.vals) 0 0 (Eval (core.Name 0) (function ∷ r.vals)) r.others (core_machine.Give function) r.others refl (core_machine.Give function) r.others refl (There 0 (core_machine.Give function) r.others))
      (let h : r.weight ≤ 1 = r.light in omega (arith, h)) (omega arith) (OfMember m (gathered vs) ∷ [], refl) refl
      (world_grows program.groups known context.globals (OfMember m (gathered vs)) store world number r.vals worlds_belong
      (member_stays program.groups known (OfMember m (gathered vs) ∷ []) context.globals m (gathered vs) (record { code = number; seen = r.vals })
      (record { n = r.n; levels = r.levels; held = subst (λ vs. HeldAt known r.vals r.levels vs) (sym (listed_all vs)) r.inside; there = r.there; code = refl })))
      (AtValue r.b r.l (BuiltIn m (gathered vs)) function k r.others (ap (λ o. code_in o 0) here) (stack_stays program.groups known (OfMember m (gathered vs) ∷ []) context.globals nodes r.b r.l held k r.others r.around)))
    where
      number : ℕ
      number = number_of (form_of m) r.n

      function : core_value.Value
      function = Function (record { group = length world.groups; member = 0 })

      here : slice_get (known ++ OfMember m (gathered vs) ∷ []) (length world.groups) ≡ Some (OfMember m (gathered vs))
      here = subst (λ i. slice_get (known ++ OfMember m (gathered vs) ∷ []) i ≡ Some (OfMember m (gathered vs))) (sym worlds_belong.groups.as_many) (last_stands known (OfMember m (gathered vs)))

  pub reduces_follow : (f : machine.Focus) (k : Stack) (cf : Focus) (ck : List Frame) → StateBelongs program context nodes world known held f k cf ck → Suits known f k
      → Acts program context nodes (start f k) held known world store k 0 cf ck (reduces context.head None store f k)
  reduces_follow f k cf ck (AtCode b l e env j c vals cj code around) suits =
      (eval_follows b l j cj around env vals e c code)
  reduces_follow f k cf ck (AtWhile b l x y env j c d vals cj p q r) suits =
      (tests b l j cj r env vals (machine.Eval (While x y) env) x y c d 0 p q (omega arith))
  reduces_follow f k cf ck (AtEndless b l y env j d vals cj q r) suits = goes_on b l j cj r env vals y d 0 q (omega arith)
  reduces_follow f k cf ck (AtTruth b l y env j d vals cj q r) suits = tt
  reduces_follow f k cf ck (AtTrue b l y env j d vals cj q r) suits =
      steps program context nodes 1 (start f k) (0 + owed k) (2 * 1 + held) 0 held known world cf ck (Eval d (unit ∷ vals)) (Looping (endless_of d) vals ∷ cj) store (machine.Eval y env) (Turning truth y env ∷ j) refl refl (omega arith) worlds_belong
      (AtCode b l y env (Turning truth y env ∷ j) d (unit ∷ vals) (Looping (endless_of d) vals ∷ cj) (beside_code program context nodes held known world store worlds_belong b l y env d vals unit q) (InEndless b l held y env j d vals cj q r))
  reduces_follow f k cf ck (AtRepeat b l y x env j d c vals cj p q r) suits =
      (repeats b l j cj r env vals (machine.Eval (Repeat y x) env) y x d c 0 p q (omega arith))
  reduces_follow f k cf ck (AtAction a vs j g cj r) suits = acting a vs j g cj r suits
  reduces_follow f k cf ck (AtValue b l v w j cj value around) suits =
      (takes_follow program context nodes held known world store worlds_belong v w value b l j cj around suits)
  reduces_follow f k cf ck (AtEnd v w g cj value eq paid flat) suits = tt
  reduces_follow f k cf ck (AtBody b l p e env inner v j c d w vals vals' js cj a value pattern code around) suits = tt
  reduces_follow f k cf ck (AtTurned b l p e env v j c w vals cj g more q value pattern around) suits = turned b l p e env v j c w vals cj g more q value pattern around
  reduces_follow f k cf ck (AtGoing b l p e env v j c w vals cj value pattern around) suits =
      (going_follows program context nodes held known world store worlds_belong v w value b l p e env j c vals cj pattern around)
  reduces_follow f k cf ck (AtLeft b l p e env v j cj g more q around) suits = left_behind b l p e env v j cj g more q around
  reduces_follow f k cf ck (AtCallee b l m a es args env j later arguments vals cj row d e around) suits = tt
  reduces_follow f k cf ck (AtMaking m vs args env j g cj r) suits = member_made m vs args env j g cj r
  reduces_follow f k cf ck (AtMade m holds args env j g cj r) suits = tt
  reduces_follow f k cf ck (AtApplied m a holds vs j g cj row r) suits = member_applied m a holds vs j g cj row r
  reduces_follow f k cf ck (AtInner m a vs j g cj row r) suits = member_inner m a vs j g cj row r suits
  reduces_follow f k cf ck (AtBack b l v w j cj value around) suits = member_back b l v w j cj value around
  reduces_follow f k cf ck (AtFunction m vs j g cj r) suits = function_made m vs j g cj r
  reduces_follow f k cf ck (Later g j g2 more cg cj moves none falls owes deep state) suits = subst (λ a. Acts program context nodes (start g j) held known world store j 0 cg cj a) (sym (none store)) tt
  reduces_follow f k cf ck (LaterBy g j n g2 more cg cj moves goes falls owes deep state) suits =
      subst (λ a. Acts program context nodes (start g j) held known world store j 0 cg cj a) (sym (goes store)) (waits program context nodes (start g j) (0 + owed j) (2 * n + held) 0 held known world cg cj store g2 more (omega (arith, owes)) falls worlds_belong state)
  reduces_follow f k cf ck (AtRaising b l less w i c place cell j others g cj value eq depth fits around) suits =
      raises program context nodes held known world store worlds_belong b l less c place cell j others g cj value depth around w i eq fits
  reduces_follow f k cf ck (AtWriting b l less w c place v cell u j others g cj value new eq depth fits around) suits =
      writes program context nodes held known world store worlds_belong b l less c place cell j others g cj value depth around w v u new eq fits
  reduces_follow f k cf ck (AtWritten b l c place j others around) suits = gives_character program context nodes held known world store worlds_belong b l c place j others around
