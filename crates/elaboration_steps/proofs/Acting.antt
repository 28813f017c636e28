-- What is done where all operands have their values.
use Rattle.std.proofs.Common.{◌≡◌, ℕ, ◌+◌, ◌*◌, ◌≤◌, Bool, List, [], ◌∷◌, ◌++◌, length, Option, Some, None, slice_get, refl, sym, ap, ◌∙◌, subst, arith}
use Rattle.std.specs.Prelude.{slice_set}
use Rattle.mo_num.specs.declared.operator.Operator.{Operator}
use Rattle.mo_num.specs.declared.operator.Operator.TheVariants as operator
use Rattle.mo_types.specs.declared.datum.Datum.TheVariants as part
use Rattle.mo_types.specs.declared.node.TypeId.{TypeId}
use Rattle.mo_values.specs.declared.operation.Operation.{Operation}
use Rattle.mo_values.specs.declared.operation.Operation.TheVariants as op
use Rattle.mo_values.specs.declared.operation.Scalar.{Scalar}
use Rattle.mo_values.specs.declared.operation.Scalar.TheVariants as scalar
use Rattle.mo_values.specs.Alike.{AlikeAnswers}
use Rattle.mo_values.specs.Costs.{Cost, weighing, arithmetic_weight, scalar_weight, operation_cost}
use Rattle.mo_values.specs.Messages.{only_if}
use Rattle.mo_values.specs.Operations.{operate}
use Rattle.mo_values.specs.Shapes.{Leaf, Present, Cell, Future, Shape, NoShape, AShape}
use Rattle.mo_values.specs.Shapes as shape
use Rattle.mo_values.specs.Views as view
use Rattle.mo_values.specs.Views.{Answer, text_in, text_of}
use Rattle.core_ir.specs.declared.constant.Constant.TheVariants as constant
use Rattle.core_ir.specs.Choices.{on_some}
use Rattle.core_ir.specs.Values as core_value
use Rattle.core_ir.specs.Values.{Handle}
use Rattle.core_ir.specs.Primitives as primitives
use Rattle.core_ir.specs.Primitives.{Done}
use Rattle.core_ir.specs.Openings.{option_opened}
use Rattle.core_ir.specs.Worlds.{World, Context, with_store}
use Rattle.core_ir.specs.Executions.{Go, Ends}
use Rattle.core_ir.specs.Executions as execution
use Rattle.core_ir.specs.Expressions as core
use Rattle.core_ir.specs.Expressions.{NoExp, Constant?, Core}
use Rattle.core_ir.specs.CoreMachine.{Frame, Arguments, Join, Focus, Eval, Give, focused, at, act, operated, matched, depth_of}
use Rattle.typed_tree.specs.declared.action.Action.{Action}
use Rattle.typed_tree.specs.declared.action.Action.TheVariants as action
use Rattle.typed_tree.specs.declared.action.Member.{Member}
use Rattle.typed_tree.specs.declared.action.Member.TheVariants as member
use Rattle.mo_machine.specs.Values as machine_value
use Rattle.mo_machine.specs.Values.{Value, Made, Closure, BuiltIn, NoValue, AValue, Code, shape_of, shapes_list, value_of}
use Rattle.mo_machine.specs.Acts.{Store, Act, goes}
use Rattle.mo_machine.specs.Frames as machine
use Rattle.mo_machine.specs.Frames.{Stack, Ready}
use Rattle.mo_machine.specs.Measure.{left_on}
use Rattle.mo_machine.specs.Cells.{cell_of, held, goes_to, written, written_in}
use Rattle.mo_machine.specs.Jumps.{on_stack, unwrapped}
use Rattle.mo_machine.specs.Actions as actions
use Rattle.elaboration.specs.Scopes as scopes
use Rattle.elaboration.specs.Scopes.{one}
use Rattle.elaboration.specs.Meeting.{There}
use Rattle.elaboration.proofs.Coming.{step}
use Rattle.elaboration_values.specs.Belonging.{Known, Names, Belongs, EachBelongs}
use Rattle.elaboration_values.proofs.Belong.{operations}
use Rattle.elaboration_steps.specs.Stacks.{Labels, IsGoal, row_of, spare, goal_at, WorldBelongs, StateBelongs, AtAction, AtValue, Around}
use Rattle.elaboration_steps.specs.Follows.{Start, owed, Suits, Acts}
use Rattle.mo_machine.specs.Configurations.{live_on}
use Rattle.elaboration_steps.proofs.Entering.{call_follows}
use Rattle.elaboration_steps.proofs.MemberCalls.{member_called}
use Rattle.elaboration_steps.proofs.Leaving.{act_out, past_joins, leaves}
use Rattle.elaboration_steps.proofs.Paths.{nothing_more, does, does_then, stops}
use Rattle.elaboration_steps.proofs.Rows.{some_action}
use Rattle.elaboration_steps.proofs.Throwing.{throws}
use Rattle.elaboration_steps.proofs.Values.{value_belongs, each_append, as_many, Both, get_both, set_both, same_cell}

-- ---- each operation costs

arithmetic_pays : (o : Operator) → 1 ≤ arithmetic_weight o
arithmetic_pays operator.Div = omega arith
arithmetic_pays operator.Rem = omega arith
arithmetic_pays operator.Pow = omega arith
arithmetic_pays _ = omega arith

scalar_pays : (s : Scalar) (n : ℕ) → 1 ≤ scalar_weight s n
scalar_pays scalar.Text n = omega arith
scalar_pays scalar.Blob n = omega arith
scalar_pays _ n = omega arith

pays : (o : Operation) (vs : List (Shape Code)) (a : Answer Code) → 1 ≤ (operation_cost o vs a).weight
pays (op.Arithmetic o k) vs a = arithmetic_pays o
pays (op.Compare c s) vs a = scalar_pays s _
pays (op.Same s) vs a = scalar_pays s _
pays o vs a = omega arith

module _ (program : Core) (context : Context) (nodes : ℕ) (before : Start) (supply : ℕ) (known : List Known) (world : World) (store : Store) (k : Stack) (worlds : WorldBelongs program.groups known context.globals store world) (spent : ℕ) (cf : Focus) (ck : List Frame) where
  abbrev T : Act → Type 0
  T a = Acts program context nodes before supply known world store k spent cf ck (on_stack store a k)

  -- whatever is done with the value
  module _ (less : ℕ) (others : List Frame) (lands : (world' : World) (v : Value) (w : core_value.Value) → Belongs known v w → StateBelongs program context nodes world' known less (machine.Give v) k (Give w) others) where
    abbrev Comes-to : Done → Type 0
    Comes-to d = focused program context nodes world cf ck ≡ operated program context nodes world others d

    answered_follows : (cost : Cost) (a : Answer Code) (c : Answer Handle) → AlikeAnswers (Names known) a c → Comes-to (primitives.answered context.head world.store cost c) → 1 ≤ cost.weight → spent + less ≤ supply + 1 → T (actions.answered store cost a)
    answered_follows cost (view.Gives v) (view.Gives w) r eq some paid =
        does program context nodes before (spent + owed k) (2 * cost.weight + supply) cost.levels less cost [] known known world world cf ck (Give w) others store (machine.Give (value_of v)) k eq (omega (arith, some, paid)) (omega arith) ([], nothing_more known) refl worlds
        (lands world (value_of v) w (value_belongs known v w r))
    answered_follows cost (view.Gives v) (view.Traps t) r eq some paid = absurd r
    answered_follows cost (view.Gives v) view.Stuck r eq some paid = absurd r
    answered_follows cost (view.Traps t) (view.Gives w) r eq some paid = absurd r
    answered_follows cost (view.Traps t) (view.Traps u) r eq some paid =
        stops program context nodes before spent (2 * cost.weight + supply) cost.levels cost world cf ck (execution.Traps t) (eq ∙ ap (λ x. Ends cost [] world (execution.Traps x)) (sym r)) (omega (arith, some, paid)) (omega arith)
    answered_follows cost (view.Traps t) view.Stuck r eq some paid = absurd r
    answered_follows cost view.Stuck c r eq some paid = tt

    module _ (paid : spent + less ≤ supply) where
      gives_with : (later : Store) (world' : World) (v : Value) (w : core_value.Value) → focused program context nodes world cf ck ≡ Go (weighing 1) [] world' (at program context nodes (Give w) others)
          → world'.requests ≡ world.requests → WorldBelongs program.groups known context.globals later world' → Belongs known v w → T (goes later (machine.Give v) [])
      gives_with later world' v w eq same worlds' value =
          does program context nodes before (spent + owed k) (2 * 1 + supply) 0 less (weighing 1) [] known known world world' cf ck (Give w) others later (machine.Give v) k eq (omega (arith, paid)) (omega arith) ([], nothing_more known) same worlds'
          (lands world' v w value)

      written_follows : (o : Option ℕ) (v : Value) (w : core_value.Value) → Belongs known v w → Comes-to (primitives.written context.head world.store w o) → T (written store o v)
      written_follows None v w value eq = tt
      written_follows (Some i) v w value eq =
          gives_with (slice_set store i v) (with_store world (slice_set world.store i w)) machine_value.unit shape.unit eq refl
          (record { cells = set_both known store world.store i v w worlds.cells value; groups = worlds.groups }) (refl, tt)

      read_follows : (o : Option Value) (o' : Option core_value.Value) → Both known o o' → Comes-to (on_some primitives.Stuck o' (primitives.gives context.head world.store)) → T (goes_to store o)
      read_follows None o' r eq = tt
      read_follows (Some v) None r eq = absurd r
      read_follows (Some v) (Some w) r eq = gives_with store world v w eq refl worlds r

      held_both : (o : Option ℕ) → Both known (held store o) (primitives.held world.store o)
      held_both None = tt
      held_both (Some i) = get_both known store world.store i worlds.cells

      element_follows : (a : Answer Code) (c : Answer Handle) → AlikeAnswers (Names known) a c → (v : Value) (w : core_value.Value) → Belongs known v w → Comes-to (primitives.written_in context.head world.store w c) → T (written_in store a v)
      element_follows (view.Gives a) (view.Gives c) r v w value eq =
          written_follows (cell_of (value_of a)) v w value (eq ∙ ap (λ o. operated program context nodes world others (primitives.written context.head world.store w o)) (same_cell known (value_of a) c (value_belongs known a c r)))
      element_follows (view.Gives a) (view.Traps t) r v w value eq = absurd r
      element_follows (view.Gives a) view.Stuck r v w value eq = absurd r
      element_follows (view.Traps t) (view.Gives c) r v w value eq = absurd r
      element_follows (view.Traps t) (view.Traps u) r v w value eq =
          stops program context nodes before spent (2 * 1 + supply) 0 (weighing 1) world cf ck (execution.Traps t) (eq ∙ ap (λ x. Ends (weighing 1) [] world (execution.Traps x)) (sym r)) (omega (arith, paid)) (omega arith)
      element_follows (view.Traps t) view.Stuck r v w value eq = absurd r
      element_follows view.Stuck c r v w value eq = tt

      printed_follows : (v : Value) (w : core_value.Value) → Belongs known v w → Suits known (Ready action.Print (v ∷ [])) k → Comes-to (on_some primitives.Stuck (text_of w) (λ t. primitives.Prints (weighing (1 + 2 * length t)) t)) → T (actions.printed store v)
      printed_follows (Made (Leaf (part.Text t)) NoValue) (shape.Made i NoShape) value suits eq =
          does program context nodes before (spent + owed k) (2 * (1 + 2 * length t) + supply) 0 less (weighing (1 + 2 * length t)) (t ∷ []) known known world world cf ck (Give shape.unit) others store (machine.Give machine_value.unit) k
          (eq ∙ (ap (λ h. operated program context nodes world others (on_some primitives.Stuck (text_of {F = Handle} (shape.Made h NoShape)) (λ t. primitives.Prints (weighing (1 + 2 * length t)) t))) (sym (value.0))
          ∙ ap (λ x. operated program context nodes world others (on_some primitives.Stuck (text_in (only_if x (part.Text t))) (λ t. primitives.Prints (weighing (1 + 2 * length t)) t))) (suits t refl))) (omega (arith, paid)) (omega arith) ([], nothing_more known) refl worlds
          (lands world machine_value.unit shape.unit (refl, tt))
      printed_follows (Made (Leaf (part.Text t)) NoValue) (shape.Made i (AShape u us)) value suits eq = absurd (value.1)
      printed_follows (Made (Leaf (part.Text t)) NoValue) (shape.Function h) value suits eq = absurd value
      printed_follows _ w value suits eq = tt

  module _ (b : Bool) (l : Labels) (less : ℕ) (others : List Frame) (around : Around program context nodes world known b l less k others) (paid : spent + less ≤ supply) where
    asks_nothing : (ps rs : List TypeId) (v : Value) (vs : List Value) → T (actions.sent store None ps rs v vs)
    asks_nothing ps rs (Made (Leaf (part.Method p name)) NoValue) vs = tt
    asks_nothing ps rs _ vs = tt

    waits_for_nothing : (v : Value) → T (actions.awaited store None v)
    waits_for_nothing (Made (Future call) NoValue) = tt
    waits_for_nothing _ = tt

    call_alike : (f : Value) (w : core_value.Value) (vs : List Value) (ws vals : List core_value.Value) → Belongs known f w → EachBelongs known vs ws → Suits known (Ready action.Call (f ∷ vs)) k → live_on k ≤ before.live → focused program context nodes world cf ck ≡ act program context nodes world core.Call (w ∷ ws) vals others
        → T (actions.call store f vs)
    call_alike (Closure group which env) (shape.Function h) vs ws vals value arguments suits deep eq =
        call_follows program context nodes before supply known world store k worlds spent cf ck vs ws arguments h b l less others around paid eq group which env deep value (suits ws arguments)
    call_alike (Closure group which env) (shape.Made i us) vs ws vals value arguments suits deep eq = absurd value
    call_alike (BuiltIn m holds) (shape.Function h) vs ws vals value arguments suits deep eq = member_called program context nodes before supply known world store k worlds spent cf ck b l less others around paid m holds vs ws h value arguments suits eq
    call_alike (BuiltIn m holds) (shape.Made i us) vs ws vals value arguments suits deep eq = absurd value
    call_alike (Made i us) w vs ws vals value arguments suits deep eq = tt

  -- ---- `!`

  module _ (b : Bool) (l : Labels) (less : ℕ) (others : List Frame) (around : Around program context nodes world known b l less k others) (n : ℕ) (vals : List core_value.Value) (paid : spent + less ≤ supply) where
    abbrev leaving : core.Goal
    leaving = scopes.leave l.count (slice_get l.exits n)

    abbrev null_with : core.Exp
    null_with = core.Do leaving (one (Constant? (constant.Leaf part.Null)))

    unwraps : (v : Value) (w : core_value.Value) → Belongs known v w → focused program context nodes world cf ck ≡ matched program context nodes world (core.Name 0) null_with vals others (option_opened w) → T (unwrapped store n v)
    unwraps (Made (Leaf part.Null) NoValue) (shape.Made i NoShape) value eq =
        ahead (eq ∙ ap (λ h. matched program context nodes world (core.Name 0) null_with vals others (option_opened (shape.Made h NoShape))) (sym (value.0)))
      where
        jumping : Frame
        jumping = Arguments leaving [] NoExp vals

        ahead : focused program context nodes world cf ck ≡ Go (weighing 1) [] world (at program context nodes (Eval null_with vals) (Join ∷ others)) → T (goes store (Ready (action.Break n) (machine_value.null ∷ [])) [])
        ahead eq2 =
            does_then program context nodes 0 before (spent + owed k) (2 * 1 + supply) 0 less (weighing 1) [] known known world world cf ck (Eval null_with vals) (Join ∷ others) (Give core_value.null) (jumping ∷ Join ∷ others) store (Ready (action.Break n) (machine_value.null ∷ [])) k eq2
            (step program context nodes world 0 0 (Eval null_with vals) (Join ∷ others) (Eval (Constant? (constant.Leaf part.Null)) vals) (jumping ∷ Join ∷ others) refl (Give core_value.null) (jumping ∷ Join ∷ others) refl
            (step program context nodes world 0 0 (Eval (Constant? (constant.Leaf part.Null)) vals) (jumping ∷ Join ∷ others) (Give core_value.null) (jumping ∷ Join ∷ others) refl (Give core_value.null) (jumping ∷ Join ∷ others) refl (There 0 (Give core_value.null) (jumping ∷ Join ∷ others))))
            (omega (arith, paid)) (omega arith) ([], nothing_more known) refl worlds
            (AtAction (action.Break n) (machine_value.null ∷ []) k (Give core_value.null) (jumping ∷ Join ∷ others) (record {
              b = b;
              l = l;
              values = core_value.null ∷ [];
              vals = vals;
              weight = 0;
              less = less;
              f' = Give core_value.null;
              ck' = jumping ∷ Join ∷ others;
              others = others;
              arguments = ((refl, tt), tt);
              may = tt;
              path = There 0 (Give core_value.null) (jumping ∷ Join ∷ others);
              acts = act_out program context nodes world core_value.null (slice_get l.exits n) l.count vals (Join ∷ others)
                  ∙ (past_joins program context nodes world core_value.null (slice_get l.exits n) l.count (Join ∷ []) others tt ∙ sym (act_out program context nodes world core_value.null (slice_get l.exits n) l.count vals others));
              level = refl;
              paid = omega arith;
              around = around;
            }))
    unwraps (Made (Leaf part.Null) NoValue) (shape.Made i (AShape u us)) value eq = absurd (value.1)
    unwraps (Made (Leaf part.Null) NoValue) (shape.Function h) value eq = absurd value
    unwraps (Made Present (AValue v NoValue)) (shape.Made i (AShape u NoShape)) value eq =
        does_then program context nodes 0 before (spent + owed k) (2 * 1 + supply) 0 less (weighing 1) [] known known world world cf ck (Eval (core.Name 0) (u ∷ vals)) (Join ∷ others) (Give u) others store (machine.Give v) k
        (eq ∙ ap (λ h. matched program context nodes world (core.Name 0) null_with vals others (option_opened (shape.Made h (AShape u NoShape)))) (sym (value.0)))
        (step program context nodes world 0 0 (Eval (core.Name 0) (u ∷ vals)) (Join ∷ others) (Give u) (Join ∷ others) refl (Give u) others refl
        (step program context nodes world 0 0 (Give u) (Join ∷ others) (Give u) others refl (Give u) others refl (There 0 (Give u) others)))
        (omega (arith, paid)) (omega arith) ([], nothing_more known) refl worlds (AtValue b l v u k others (value.1.0) around)
    unwraps (Made Present (AValue v NoValue)) (shape.Made i NoShape) value eq = absurd (value.1)
    unwraps (Made Present (AValue v NoValue)) (shape.Made i (AShape u (AShape x us))) value eq = absurd (value.1.1)
    unwraps (Made Present (AValue v NoValue)) (shape.Function h) value eq = absurd value
    unwraps _ w value eq = tt

  -- ---- each action

  module _ (b : Bool) (l : Labels) (less : ℕ) (others : List Frame) (around : Around program context nodes world known b l less k others) (vals : List core_value.Value) (low : 4 * left_on k + length k + 1 ≤ before.most) where
    abbrev Before : Action → List core_value.Value → Type 0
    Before a ws = focused program context nodes world cf ck ≡ act program context nodes world (goal_at l a) ws vals others

    lands : (world' : World) (v : Value) (w : core_value.Value) → Belongs known v w → StateBelongs program context nodes world' known less (machine.Give v) k (Give w) others
    lands world' v w value = AtValue b l v w k others value around

    pub act_follows : (a : Action) (vs : List Value) (ws : List core_value.Value) → IsGoal b a → EachBelongs known vs ws → depth_of ck ≡ depth_of others → Suits known (Ready a vs) k → live_on k ≤ before.live → Before a ws → spent + less ≤ supply + spare a
        → T (actions.act context.head None store a vs)
    act_follows (action.Operate o) vs ws may r level suits deep eq paid =
        let same : operation_cost o (shapes_list vs) (operate context.head o (shapes_list vs)) ≡ operation_cost o ws (operate context.head o ws) = (operations known context.head o (shapes_list vs) ws r).1 in
        answered_follows less others lands (operation_cost o (shapes_list vs) (operate context.head o (shapes_list vs))) (operate context.head o (shapes_list vs)) (operate context.head o ws) ((operations known context.head o (shapes_list vs) ws r).0)
        (eq ∙ ap (λ c. operated program context nodes world others (primitives.answered context.head world.store c (operate context.head o ws))) (sym same)) (pays o (shapes_list vs) (operate context.head o (shapes_list vs))) (omega (arith, paid))
    act_follows (action.BuiltIn m) vs ws may r level suits deep eq paid = absurd may
    act_follows action.New [] ws may r level suits deep eq paid = tt
    act_follows action.New (v ∷ []) [] may r level suits deep eq paid = absurd r
    act_follows action.New (v ∷ []) (w ∷ []) may r level suits deep eq paid =
        gives_with less others lands (omega (arith, paid)) (store ++ v ∷ []) (with_store world (world.store ++ w ∷ [])) (Made (Cell (length store)) NoValue) (core_value.cell (length world.store)) eq refl
        (record { cells = each_append known store world.store v w worlds.cells (r.0); groups = worlds.groups }) (ap (λ n. Cell n) (as_many known store world.store worlds.cells), tt)
    act_follows action.New (v ∷ []) (w ∷ x ∷ ws) may r level suits deep eq paid = absurd (r.1)
    act_follows action.New (v ∷ u ∷ vs) ws may r level suits deep eq paid = tt
    act_follows action.Read [] ws may r level suits deep eq paid = tt
    act_follows action.Read (c ∷ []) [] may r level suits deep eq paid = absurd r
    act_follows action.Read (c ∷ []) (w ∷ []) may r level suits deep eq paid =
        read_follows less others lands (omega (arith, paid)) (held store (cell_of c)) (primitives.held world.store (cell_of c)) (held_both less others lands (omega (arith, paid)) (cell_of c))
        (eq ∙ ap (λ o. operated program context nodes world others (on_some primitives.Stuck (primitives.held world.store o) (primitives.gives context.head world.store))) (same_cell known c w (r.0)))
    act_follows action.Read (c ∷ []) (w ∷ x ∷ ws) may r level suits deep eq paid = absurd (r.1)
    act_follows action.Read (c ∷ u ∷ vs) ws may r level suits deep eq paid = tt
    act_follows action.Write [] ws may r level suits deep eq paid = tt
    act_follows action.Write (c ∷ []) ws may r level suits deep eq paid = tt
    act_follows action.Write (c ∷ v ∷ []) [] may r level suits deep eq paid = absurd r
    act_follows action.Write (c ∷ v ∷ []) (w ∷ []) may r level suits deep eq paid = absurd (r.1)
    act_follows action.Write (c ∷ v ∷ []) (w ∷ x ∷ []) may r level suits deep eq paid =
        written_follows less others lands (omega (arith, paid)) (cell_of c) v x (r.1.0) (eq ∙ ap (λ o. operated program context nodes world others (primitives.written context.head world.store x o)) (same_cell known c w (r.0)))
    act_follows action.Write (c ∷ v ∷ []) (w ∷ x ∷ y ∷ ws) may r level suits deep eq paid = absurd (r.1.1)
    act_follows action.Write (c ∷ v ∷ u ∷ vs) ws may r level suits deep eq paid = tt
    act_follows action.WriteElement [] ws may r level suits deep eq paid = tt
    act_follows action.WriteElement (a ∷ []) ws may r level suits deep eq paid = tt
    act_follows action.WriteElement (a ∷ i ∷ []) ws may r level suits deep eq paid = tt
    act_follows action.WriteElement (a ∷ i ∷ v ∷ []) [] may r level suits deep eq paid = absurd r
    act_follows action.WriteElement (a ∷ i ∷ v ∷ []) (w ∷ []) may r level suits deep eq paid = absurd (r.1)
    act_follows action.WriteElement (a ∷ i ∷ v ∷ []) (w ∷ x ∷ []) may r level suits deep eq paid = absurd (r.1.1)
    act_follows action.WriteElement (a ∷ i ∷ v ∷ []) (w ∷ x ∷ y ∷ []) may r level suits deep eq paid =
        element_follows less others lands (omega (arith, paid)) (operate context.head op.Element (shape_of a ∷ shape_of i ∷ [])) (operate context.head op.Element (w ∷ x ∷ []))
        ((operations known context.head op.Element (shape_of a ∷ shape_of i ∷ []) (w ∷ x ∷ []) (r.0, (r.1.0, tt))).0) v y (r.1.1.0) eq
    act_follows action.WriteElement (a ∷ i ∷ v ∷ []) (w ∷ x ∷ y ∷ z ∷ ws) may r level suits deep eq paid = absurd (r.1.1.1)
    act_follows action.WriteElement (a ∷ i ∷ v ∷ u ∷ vs) ws may r level suits deep eq paid = tt
    act_follows action.Print [] ws may r level suits deep eq paid = tt
    act_follows action.Print (v ∷ []) [] may r level suits deep eq paid = absurd r
    act_follows action.Print (v ∷ []) (w ∷ []) may r level suits deep eq paid = printed_follows less others lands (omega (arith, paid)) v w (r.0) suits eq
    act_follows action.Print (v ∷ []) (w ∷ x ∷ ws) may r level suits deep eq paid = absurd (r.1)
    act_follows action.Print (v ∷ u ∷ vs) ws may r level suits deep eq paid = tt
    act_follows action.Throw [] ws may r level suits deep eq paid = tt
    act_follows action.Throw (v ∷ []) [] may r level suits deep eq paid = absurd r
    act_follows action.Throw (v ∷ []) (w ∷ []) may r level suits deep eq paid =
        throws program context nodes before supply known world store k worlds v w (r.0) spent cf ck l less k others (subst (λ x. Around program context nodes world known x l less k others) may around) (suits w (r.0)) eq (omega (arith, paid)) refl low level
    act_follows action.Throw (v ∷ []) (w ∷ x ∷ ws) may r level suits deep eq paid = absurd (r.1)
    act_follows action.Throw (v ∷ u ∷ vs) ws may r level suits deep eq paid = tt
    act_follows action.Call [] ws may r level suits deep eq paid = tt
    act_follows action.Call (f ∷ vs) [] may r level suits deep eq paid = absurd r
    act_follows action.Call (f ∷ vs) (w ∷ ws) may r level suits deep eq paid = call_alike b l less others around (omega (arith, paid)) f w vs ws vals (r.0) (r.1) suits deep eq
    act_follows (action.Send ps rs) [] ws may r level suits deep eq paid = tt
    act_follows (action.Send ps rs) (f ∷ vs) ws may r level suits deep eq paid = asks_nothing b l less others around (omega (arith, paid)) ps rs f vs
    act_follows action.Await [] ws may r level suits deep eq paid = tt
    act_follows action.Await (v ∷ []) ws may r level suits deep eq paid = waits_for_nothing b l less others around (omega (arith, paid)) v
    act_follows action.Await (v ∷ u ∷ vs) ws may r level suits deep eq paid = tt
    act_follows (action.Break n) [] ws may r level suits deep eq paid = tt
    act_follows (action.Break n) (v ∷ []) [] may r level suits deep eq paid = absurd r
    act_follows (action.Break n) (v ∷ []) (w ∷ []) may r level suits deep eq paid =
        leaves program context nodes before supply known world store k worlds v w (r.0) spent cf ck b l less n k others around (eq ∙ act_out program context nodes world w (slice_get l.exits n) l.count vals others) (omega (arith, paid)) refl low level
    act_follows (action.Break n) (v ∷ []) (w ∷ x ∷ ws) may r level suits deep eq paid = absurd (r.1)
    act_follows (action.Break n) (v ∷ u ∷ vs) ws may r level suits deep eq paid = tt
    act_follows (action.Unwrap n) [] ws may r level suits deep eq paid = tt
    act_follows (action.Unwrap n) (v ∷ []) [] may r level suits deep eq paid = absurd r
    act_follows (action.Unwrap n) (v ∷ []) (w ∷ []) may r level suits deep eq paid = unwraps b l less others around n vals (omega (arith, paid)) v w (r.0) eq
    act_follows (action.Unwrap n) (v ∷ []) (w ∷ x ∷ ws) may r level suits deep eq paid = absurd (r.1)
    act_follows (action.Unwrap n) (v ∷ u ∷ vs) ws may r level suits deep eq paid = tt

  -- ---- built-in functions that are one operation or a print

  module _ (less : ℕ) (others : List Frame) (lands : (world' : World) (v : Value) (w : core_value.Value) → Belongs known v w → StateBelongs program context nodes world' known less (machine.Give v) k (Give w) others) (vals : List core_value.Value) (paid : spent + less ≤ supply) where
    abbrev IsRow : Action → Type 0
    IsRow (action.Operate o) = Unit {0}
    IsRow action.Print = Unit {0}
    IsRow _ = ⊥

    row_follows : (l : Labels) (a : Action) (vs : List Value) (ws : List core_value.Value) → IsRow a → EachBelongs known vs ws → Suits known (Ready a vs) k → focused program context nodes world cf ck ≡ act program context nodes world (goal_at l a) ws vals others → T (actions.act context.head None store a vs)
    row_follows l (action.Operate o) vs ws i r suits eq =
        let same : operation_cost o (shapes_list vs) (operate context.head o (shapes_list vs)) ≡ operation_cost o ws (operate context.head o ws) = (operations known context.head o (shapes_list vs) ws r).1 in
        answered_follows less others lands (operation_cost o (shapes_list vs) (operate context.head o (shapes_list vs))) (operate context.head o (shapes_list vs)) (operate context.head o ws) ((operations known context.head o (shapes_list vs) ws r).0)
        (eq ∙ ap (λ c. operated program context nodes world others (primitives.answered context.head world.store c (operate context.head o ws))) (sym same)) (pays o (shapes_list vs) (operate context.head o (shapes_list vs))) (omega (arith, paid))
    row_follows l action.Print [] ws i r suits eq = tt
    row_follows l action.Print (v ∷ []) [] i r suits eq = absurd r
    row_follows l action.Print (v ∷ []) (w ∷ []) i r suits eq = printed_follows less others lands paid v w (r.0) suits eq
    row_follows l action.Print (v ∷ []) (w ∷ x ∷ ws) i r suits eq = absurd (r.1)
    row_follows l action.Print (v ∷ u ∷ vs) ws i r suits eq = tt
    row_follows l _ vs ws i r suits eq = absurd i

    is_row : (m : Member) (a : Action) → row_of m ≡ Some a → IsRow a
    is_row member.DebugPrint a e = subst (λ x. IsRow x) (some_action action.Print a e) tt
    is_row member.DebugTrap a e = subst (λ x. IsRow x) (some_action _ a e) tt
    is_row member.ErrorReject a e = subst (λ x. IsRow x) (some_action _ a e) tt
    is_row member.ErrorMessage a e = subst (λ x. IsRow x) (some_action _ a e) tt
    is_row member.ErrorCode a e = subst (λ x. IsRow x) (some_action _ a e) tt
    is_row member.NatToText a e = subst (λ x. IsRow x) (some_action _ a e) tt
    is_row member.IntToText a e = subst (λ x. IsRow x) (some_action _ a e) tt
    is_row member.PrincipalFromActor a e = subst (λ x. IsRow x) (some_action _ a e) tt
    is_row member.ArraySize a e = subst (λ x. IsRow x) (some_action _ a e) tt
    is_row member.TextSize a e = subst (λ x. IsRow x) (some_action _ a e) tt
    is_row _ a e = absurd (let z : None ≡ Some a = e in cc)

    pub inner_follows : (l : Labels) (m : Member) (a : Action) (vs : List Value) (ws : List core_value.Value) → row_of m ≡ Some a → EachBelongs known vs ws → Suits known (Ready a vs) k → focused program context nodes world cf ck ≡ act program context nodes world (goal_at l a) ws vals others → T (actions.act context.head None store a vs)
    inner_follows l m a vs ws row r suits eq = row_follows l a vs ws (is_row m a row) r suits eq
