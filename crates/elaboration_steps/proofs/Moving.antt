-- Where the machine of typed programs only looks for its next reduction.
use Rattle.std.proofs.Common.{◌≡◌, ◌⊎◌, inl, inr, ℕ, zero, suc, ◌+◌, ◌≤◌, Bool, true, false, List, [], ◌∷◌, ◌++◌, length, Option, Some, None, slice_get, refl, sym, ap, ap₂, ◌∙◌, subst, arith}
use Rattle.mo_types.specs.declared.datum.Datum.TheVariants as part
use Rattle.mo_num.specs.declared.kind.Kind.TheVariants as kind
use Rattle.mo_values.specs.declared.operation.Operation.TheVariants as op
use Rattle.mo_values.specs.Costs.{weighing}
use Rattle.mo_values.specs.Shapes.{Leaf, Tuple}
use Rattle.mo_values.specs.Shapes as shape
use Rattle.core_ir.specs.Choices.{on_some}
use Rattle.core_ir.specs.Values as core_value
use Rattle.core_ir.specs.Worlds.{World, Context}
use Rattle.core_ir.specs.Executions.{Go}
use Rattle.core_ir.specs.Expressions as core
use Rattle.core_ir.specs.Expressions.{NoExp, AnExp, Choose, Bind, Core}
use Rattle.core_ir.specs.CoreMachine as core_machine
use Rattle.core_ir.specs.CoreMachine.{Frame, Arguments, Focus, Eval, Give, focused, at, stuck, depth_of}
use Rattle.core_ir.specs.declared.primitive.Primitive.TheVariants as primitive
use Rattle.typed_tree.specs.declared.action.Action.{Action}
use Rattle.typed_tree.specs.declared.action.Action.TheVariants as action
use Rattle.typed_tree.specs.declared.action.Member.{Member}
use Rattle.typed_tree.specs.declared.action.Member.TheVariants as member
use Rattle.typed_tree.specs.Language as source
use Rattle.typed_tree.specs.Language.{Exp, Exps, Cases, NoCase, ACase}
use Rattle.mo_machine.specs.Values.{Value, Values, BuiltIn, load, leaf, listed}
use Rattle.mo_machine.specs.Environments.{Environment}
use Rattle.mo_machine.specs.Environments as environment
use Rattle.mo_machine.specs.Acts.{Store}
use Rattle.mo_machine.specs.Frames as machine
use Rattle.mo_machine.specs.Frames.{Operands, Choosing, Switching, Going, Updating, Stack, Ready}
use Rattle.mo_machine.specs.Moves.{Move, Moved, Reduces, move, found}
use Rattle.elaboration.specs.Scopes.{Scope, Place, Local, Own, Nowhere, place_or_nowhere, at_place, beside, inside, one, append}
use Rattle.elaboration.specs.Checks.{around_all, behind, fails}
use Rattle.elaboration.specs.Members.{form_of, number_of, function_of, levels_from, called, bind_all, let_in}
use Rattle.elaboration.specs.Elaboration.{count_of, goal_of, on_nearest, constant_of}
use Rattle.elaboration.specs.Meeting.{There}
use Rattle.elaboration.proofs.Coming.{assoc, pop, step}
use Rattle.elaboration_forms.specs.Elaborates.{IsPlace, Elaborates, ElaboratesAll, ElaboratesNames, ElaboratesCases, HasGroups}
use Rattle.elaboration_values.specs.Belonging.{Known, Belongs, EachBelongs, StandsAt, EnvironmentBelongs}
use Rattle.elaboration_steps.specs.Stacks.{Labels, labels_of, with_label, with_own_label, scope, goal_at, IsGoal, row_of, update_with, turn_with, body_cases, joinings, Passing, Written, Arrived, Coded, CodedAll, with_operands, Calling, WorldBelongs, StateBelongs, AtCode, AtWhile, AtRepeat, AtAction, AtValue, AtEnd, AtBody, AtTurned, AtGoing, AtLeft, AtCallee, AtMaking, AtMade, AtApplied, AtInner, AtBack, AtFunction, Later, LaterBy, AtRaising, AtWriting, AtWritten, Around, Bottom, InFunction, InGathering, InOperands, InMaking, InCalling, InHolding, InChoosing, InLet, InSwitch, InLabel, InTesting, InTurning, InRepeating, InRetesting, InTry, InUpdating, InGoing, InTurn, InBody, InBranch, InCase, InEndless, AtEndless, AtTruth, AtTrue}
use Rattle.elaboration_steps.specs.Follows.{start, further, owed, MoveFollows}
use Rattle.elaboration_steps.proofs.Rows.{some_action}
use Rattle.elaboration_steps.proofs.Leaving.{past_skips}
use Rattle.elaboration_steps.proofs.Members.{IsCalled, done_or_called, value_called, as_many_operands, only_name, held_more}
use Rattle.elaboration_steps.proofs.Paths.{nothing_more, waits, steps, does, follows_behind}
use Rattle.elaboration_steps.proofs.Values.{each_append}

-- a goal of an action sees labels alone
goal_same : (s : Scope) (a : Action) → goal_of s a ≡ goal_at (labels_of s) a
goal_same s (action.Operate o) = refl
goal_same s (action.BuiltIn m) = refl
goal_same s action.New = refl
goal_same s action.Read = refl
goal_same s action.Write = refl
goal_same s action.WriteElement = refl
goal_same s action.Print = refl
goal_same s action.Throw = refl
goal_same s action.Call = refl
goal_same s (action.Send ps rs) = refl
goal_same s action.Await = refl
goal_same s (action.Break l) = refl
goal_same s (action.Unwrap l) = refl

most : (f : machine.Focus) → further f ≤ 3
most (Ready action.Call (BuiltIn m holds ∷ vs)) = omega arith
most (Ready a vs) = omega arith
most (machine.Eval e env) = omega arith
most (machine.Give v) = omega arith

-- what is made of a call of a built-in function that is one operation or a print
row_form : (m : Member) (a : Action) (l : Labels) (ds fs : core.Exps) (names n : ℕ) → row_of m ≡ Some a → (called (form_of m) ds fs names n).exp ≡ core.Do (goal_at l a) (append ds fs)
row_form member.DebugPrint a l ds fs names n e = ap (λ x. core.Do (goal_at l x) (append ds fs)) (some_action action.Print a e)
row_form member.DebugTrap a l ds fs names n e = ap (λ x. core.Do (goal_at l x) (append ds fs)) (some_action (action.Operate op.Trap) a e)
row_form member.ErrorReject a l ds fs names n e = ap (λ x. core.Do (goal_at l x) (append ds fs)) (some_action (action.Operate op.RejectError) a e)
row_form member.ErrorMessage a l ds fs names n e = ap (λ x. core.Do (goal_at l x) (append ds fs)) (some_action (action.Operate op.Message) a e)
row_form member.ErrorCode a l ds fs names n e = ap (λ x. core.Do (goal_at l x) (append ds fs)) (some_action (action.Operate op.Code) a e)
row_form member.NatToText a l ds fs names n e = ap (λ x. core.Do (goal_at l x) (append ds fs)) (some_action (action.Operate (op.ToText kind.Nat)) a e)
row_form member.IntToText a l ds fs names n e = ap (λ x. core.Do (goal_at l x) (append ds fs)) (some_action (action.Operate (op.ToText kind.Int)) a e)
row_form member.PrincipalFromActor a l ds fs names n e = ap (λ x. core.Do (goal_at l x) (append ds fs)) (some_action (action.Operate op.PrincipalOf) a e)
row_form member.ArraySize a l ds fs names n e = ap (λ x. core.Do (goal_at l x) (append ds fs)) (some_action (action.Operate op.ArraySize) a e)
row_form member.TextSize a l ds fs names n e = ap (λ x. core.Do (goal_at l x) (append ds fs)) (some_action (action.Operate op.TextSize) a e)
row_form _ a l ds fs names n e = absurd (let z : None ≡ Some a = e in cc)

module _ (program : Core) (context : Context) (nodes : ℕ) (held : ℕ) (known : List Known) (world : World) (store : Store) (worlds : WorldBelongs program.groups known context.globals store world) where
  abbrev M : machine.Focus → Stack → Focus → List Frame → Move → Type 0
  M f k = MoveFollows program context nodes (start f k) held known world store k

  -- the operands of an action that is no built-in function
  abbrev Operated : Bool → Scope → Action → Exps → core.Exp → Type 0
  Operated b s a es c = (ds : core.Exps) × IsGoal b a × ElaboratesAll program.groups b s es ds × (c ≡ core.Do (goal_of s a) ds)

  abbrev Other : Exp → Type 0
  Other (source.Do (action.BuiltIn m) es) = ⊥
  Other (source.Do action.Call (source.AnExp (source.Do (action.BuiltIn m) es) args)) = ⊥
  Other _ = Unit {0}

  plain : (b : Bool) (s : Scope) (a : Action) (es : Exps) (c : core.Exp) → Other (source.Do a es) → Elaborates program.groups b s (source.Do a es) c → Operated b s a es c
  plain b s (action.BuiltIn m) es c p r = absurd p
  plain b s action.Call (source.AnExp (source.Do (action.BuiltIn m) es) args) c p r = absurd p
  plain b s a es c p r = r

  name_found : (b : Bool) (l : Labels) (x : ℕ) (env : Environment) (k : Stack) (vals : List core_value.Value) (ck : List Frame) (p : Place) (o : Option Value) → IsPlace p → Around program context nodes world known b l held k ck
      → ((v : Value) → o ≡ Some v → StandsAt known context.globals vals p v) → M (machine.Eval (source.Name x) env) k (Eval (at_place (length vals) p) vals) ck (found o k)
  name_found b l x env k vals ck p None is around h = tt
  name_found b l x env k vals ck (Local level) (Some v) is around h =
      let s : StandsAt known context.globals vals (Local level) v = h v refl in
      steps program context nodes 0 (start (machine.Eval (source.Name x) env) k) (owed k) held 0 held known world _ ck (Give (s.0)) ck store (machine.Give v) k
      (ap (λ o. on_some (stuck program context nodes world) o (λ w. Go (weighing 0) [] world (at program context nodes (Give w) ck))) (s.1.1)) refl (omega arith) worlds (AtValue b l v (s.0) k ck (s.2) around)
  name_found b l x env k vals ck (Own i) (Some v) is around h =
      let s : StandsAt known context.globals vals (Own i) v = h v refl in
      steps program context nodes 0 (start (machine.Eval (source.Name x) env) k) (owed k) held 0 held known world _ ck (Give (s.0)) ck store (machine.Give v) k
      (ap (λ o. on_some (stuck program context nodes world) o (λ w. Go (weighing 0) [] world (at program context nodes (Give w) ck))) (s.1)) refl (omega arith) worlds (AtValue b l v (s.0) k ck (s.2) around)
  name_found b l x env k vals ck Nowhere (Some v) is around h = absurd is

  module _ (b : Bool) (l : Labels) (env : Environment) (k : Stack) (vals : List core_value.Value) (ck : List Frame) (around : Around program context nodes world known b l held k ck) (places : List Place) (names : EnvironmentBelongs known context.globals places env vals) where
    abbrev s : Scope
    s = scope places l vals

    abbrev Code : Exp → core.Exp → Type 0
    Code e c = Elaborates program.groups b s e c

    -- Core's code is looked into
    looked : (e : Exp) (f : machine.Focus) (more : Stack) (c c' : core.Exp) (f' : Focus) (ck' : List Frame) → c ≡ c' → focused program context nodes world (Eval c' vals) ck ≡ Go (weighing 0) [] world (at program context nodes f' ck') → depth_of ck ≡ depth_of ck' → owed more ≡ owed k
        → StateBelongs program context nodes world known held f more f' ck' → M (machine.Eval e env) k (Eval c vals) ck (Moved f more)
    looked e f more c c' f' ck' is eq deep q state =
        subst (λ x. M (machine.Eval e env) k (Eval x vals) ck (Moved f more)) (sym is)
        (steps program context nodes 0 (start (machine.Eval e env) k) (owed k) held 0 held known world (Eval c' vals) ck f' ck' store f more eq deep (omega (arith, q)) worlds state)

    code : (e : Exp) (c : core.Exp) → Code e c → Coded program.groups known context.globals b l e env c vals
    code e c r = record { places = places; code = r; names = names }

    operands_follow : (a : Action) (es : Exps) (c : core.Exp) → Operated b s a es c → M (machine.Eval (source.Do a es) env) k (Eval c vals) ck (move (machine.Eval (source.Do a es) env) k)
    operands_follow a source.NoExp c r =
        waits program context nodes (start (machine.Eval (source.Do a source.NoExp) env) k) (owed k) held 0 held known world (Eval c vals) ck store (Ready a []) k (omega arith) (let z : further (Ready a []) ≤ 3 = most (Ready a []) in omega (arith, z)) worlds
        (AtAction a [] k (Eval c vals) ck (record {
          b = b;
          l = l;
          values = [];
          vals = vals;
          weight = 0;
          less = held;
          f' = Eval c vals;
          ck' = ck;
          others = ck;
          arguments = tt;
          may = r.1;
          path = There 0 (Eval c vals) ck;
          acts = ap (λ x. focused program context nodes world (Eval x vals) ck) (r.3 ∙ ap₂ (λ g ds. core.Do g ds) (goal_same s a) (r.2));
          level = refl;
          paid = omega arith;
          around = around;
        }))
    operands_follow a (source.AnExp e es) c r =
        let d : ElaboratesAll program.groups b s (source.AnExp e es) (r.0) = r.2 in
        looked (source.Do a (source.AnExp e es)) (machine.Eval e env) (Operands a [] es env ∷ k) c (core.Do (goal_at l a) (AnExp (d.0) (d.1))) (Eval (d.0) vals) (Arguments (goal_at l a) [] (d.1) vals ∷ ck)
        (r.3 ∙ ap₂ (λ g ds. core.Do g ds) (goal_same s a) (d.4)) refl refl refl
        (AtCode b l e env (Operands a [] es env ∷ k) (d.0) vals (Arguments (goal_at l a) [] (d.1) vals ∷ ck) (code e (d.0) (d.2))
        (InOperands b l held a [] es env k [] (d.1) vals ck (r.1) tt (record { places = places; code = d.3; names = names }) around))

    literal_follows : (v : source.Value) (c : core.Exp) → Code (source.Val v) c → M (machine.Eval (source.Val v) env) k (Eval c vals) ck (move (machine.Eval (source.Val v) env) k)
    literal_follows (source.Made (Leaf p) source.NoValue) c r =
        looked (source.Val (source.Made (Leaf p) source.NoValue)) (machine.Give (load (source.Made (Leaf p) source.NoValue))) k c (constant_of (source.Made (Leaf p) source.NoValue)) (Give (shape.leaf p)) ck (r.1) refl refl refl
        (AtValue b l (load (source.Made (Leaf p) source.NoValue)) (shape.leaf p) k ck (refl, tt) around)
    literal_follows (source.Made Tuple source.NoValue) c r =
        looked (source.Val (source.Made Tuple source.NoValue)) (machine.Give (load (source.Made Tuple source.NoValue))) k c (constant_of (source.Made Tuple source.NoValue)) (Give shape.unit) ck (r.1) refl refl refl
        (AtValue b l (load (source.Made Tuple source.NoValue)) shape.unit k ck (refl, tt) around)
    literal_follows _ c r = absurd (r.0)

    several : (e : Exp) (cases : Cases) (c y z : core.Exp) → Elaborates program.groups b s e y
        → ElaboratesCases program.groups b s.names (inside (beside 1 s)) cases z → c ≡ let_in y (core.Label z)
        → M (machine.Eval (source.Switch e cases) env) k (Eval c vals) ck (move (machine.Eval (source.Switch e cases) env) k)
    several e cases c y z first others is =
        looked (source.Switch e cases) (machine.Eval e env) (Switching cases env ∷ k) c (core.Do (Bind (core.Label z)) (one y)) (Eval y vals) (Arguments (Bind (core.Label z)) [] NoExp vals ∷ ck) is refl refl refl
        (AtCode b l e env (Switching cases env ∷ k) y vals (Arguments (Bind (core.Label z)) [] NoExp vals ∷ ck) (code e y first)
        (InSwitch b l held cases env k z vals ck (record { places = places; code = others; names = names }) around))

    -- a built-in function that is called at once
    callee_follows : (m : Member) (a : Action) (es args : Exps) (c : core.Exp) → row_of m ≡ Some a → Code (source.Do action.Call (source.AnExp (source.Do (action.BuiltIn m) es) args)) c
        → M (machine.Eval (source.Do action.Call (source.AnExp (source.Do (action.BuiltIn m) es) args)) env) k (Eval c vals) ck (move (machine.Eval (source.Do action.Call (source.AnExp (source.Do (action.BuiltIn m) es) args)) env) k)
    callee_follows m a es args c row r =
        subst (λ x. M (machine.Eval (source.Do action.Call (source.AnExp (source.Do (action.BuiltIn m) es) args)) env) k (Eval x vals) ck (Moved (machine.Eval (source.Do (action.BuiltIn m) es) env) (Operands action.Call [] args env ∷ k))) (sym (r.6 ∙ row_form m a l (r.0) (r.1) (length vals) (r.2) row))
        (waits program context nodes (start (machine.Eval (source.Do action.Call (source.AnExp (source.Do (action.BuiltIn m) es) args)) env) k) (owed k) held 0 held known world (Eval (core.Do (goal_at l a) (append (r.0) (r.1))) vals) ck store
        (machine.Eval (source.Do (action.BuiltIn m) es) env) (Operands action.Call [] args env ∷ k) (omega arith) (omega arith) worlds
        (AtCallee b l m a es args env k (r.0) (r.1) vals ck row (record { places = places; code = r.3; names = names }) (record { places = places; code = r.4; names = names }) around))

    -- one that is called as a value
    value_called_follows : (m : Member) (es args : Exps) (c : core.Exp) → IsCalled m → count_of es ≤ 1 → Code (source.Do action.Call (source.AnExp (source.Do (action.BuiltIn m) es) args)) c
        → M (machine.Eval (source.Do action.Call (source.AnExp (source.Do (action.BuiltIn m) es) args)) env) k (Eval c vals) ck (move (machine.Eval (source.Do action.Call (source.AnExp (source.Do (action.BuiltIn m) es) args)) env) k)
    value_called_follows m es args c makes few r =
        let f = value_called m (r.0) (r.1) (length vals) (r.2) makes in
        let callee : core.Exp = bind_all (r.0) (core.Functions (number_of (form_of m) (r.2)) (core.Name 0)) in
        looked (source.Do action.Call (source.AnExp (source.Do (action.BuiltIn m) es) args)) (machine.Eval (source.Do (action.BuiltIn m) es) env) (Operands action.Call [] args env ∷ k) c (core.Do core.Call (AnExp callee (r.1))) (Eval callee vals) (Arguments core.Call [] (r.1) vals ∷ ck)
        (r.6 ∙ f.0) refl refl refl
        (AtCode b l (source.Do (action.BuiltIn m) es) env (Operands action.Call [] args env ∷ k) callee vals (Arguments core.Call [] (r.1) vals ∷ ck)
        (code (source.Do (action.BuiltIn m) es) callee (
          r.0,
          r.2,
          only_name program.groups b s es (r.0) few (r.3),
          subst (λ i. HasGroups program.groups (r.2) (function_of (form_of m) (i + length vals) (levels_from (length vals) i) (r.2)).groups) (as_many_operands program.groups b s es (r.0) (r.3)) (subst (λ gs. HasGroups program.groups (r.2) gs) (f.1) (r.5)),
          refl,
          few,
        ))
        (InOperands b l held action.Call [] args env k [] (r.1) vals ck tt tt (record { places = places; code = r.4; names = names }) around))

    -- one that is a value
    function_looks : (m : Member) (es : Exps) (c : core.Exp) → count_of es ≤ 1 → Code (source.Do (action.BuiltIn m) es) c
        → M (machine.Eval (source.Do (action.BuiltIn m) es) env) k (Eval c vals) ck (move (machine.Eval (source.Do (action.BuiltIn m) es) env) k)
    function_looks m source.NoExp c few r =
        let z : 0 + length vals ≡ length vals = omega arith in
        let function : core.Exp = core.Functions (number_of (form_of m) (r.1)) (core.Name 0) in
        subst (λ x. M (machine.Eval (source.Do (action.BuiltIn m) source.NoExp) env) k (Eval x vals) ck (Moved (Ready (action.BuiltIn m) []) k)) (sym (r.4 ∙ ap (λ ds. bind_all ds function) (r.2)))
        (waits program context nodes (start (machine.Eval (source.Do (action.BuiltIn m) source.NoExp) env) k) (owed k) held 0 held known world (Eval function vals) ck store (Ready (action.BuiltIn m) []) k (omega arith) (omega arith) worlds
        (AtFunction m [] k (Eval function vals) ck (record {
          b = b;
          l = l;
          n = r.1;
          levels = [];
          vals = vals;
          weight = 0;
          others = ck;
          inside = tt;
          there = subst (λ i. HasGroups program.groups (r.1) (function_of (form_of m) i [] (r.1)).groups) z (r.3);
          path = There 0 (Eval function vals) ck;
          light = omega arith;
          around = around;
        })))
    function_looks m (source.AnExp e source.NoExp) c few r =
        let z : suc 0 + length vals ≡ suc (length vals) = omega arith in
        let d : ElaboratesNames program.groups b s (source.AnExp e source.NoExp) (r.0) = r.2 in
        let function : core.Exp = core.Functions (number_of (form_of m) (r.1)) (core.Name 0) in
        looked (source.Do (action.BuiltIn m) (source.AnExp e source.NoExp)) (machine.Eval e env) (Operands (action.BuiltIn m) [] source.NoExp env ∷ k) c (core.Do (Bind function) (one (d.0))) (Eval (d.0) vals) (Arguments (Bind function) [] NoExp vals ∷ ck)
        (r.4 ∙ ap (λ ds. bind_all ds function) (d.4 ∙ ap (λ ds. AnExp (d.0) ds) (d.3))) refl refl refl
        (AtCode b l e env (Operands (action.BuiltIn m) [] source.NoExp env ∷ k) (d.0) vals (Arguments (Bind function) [] NoExp vals ∷ ck) (code e (d.0) (d.2))
        (InHolding b l held m [] env k (r.1) [] vals ck tt (subst (λ i. HasGroups program.groups (r.1) (function_of (form_of m) i (length vals ∷ []) (r.1)).groups) z (r.3)) around))
    function_looks m (source.AnExp e (source.AnExp f es)) c few r = absurd (let z : suc (suc (count_of es)) ≤ 1 = few in let y : ⊥ = omega (arith, z) in y)

    do_follows : (a : Action) (es : Exps) (c : core.Exp) → Code (source.Do a es) c → M (machine.Eval (source.Do a es) env) k (Eval c vals) ck (move (machine.Eval (source.Do a es) env) k)
    do_follows (action.BuiltIn m) es c r = function_looks m es c (r.5) r
    do_follows action.Call (source.AnExp (source.Do (action.BuiltIn m) es) args) c r = by (done_or_called m (count_of es) (r.7))
      where
        by : ((a : Action) × (row_of m ≡ Some a)) ⊎ (IsCalled m × (count_of es ≤ 1))
            → M (machine.Eval (source.Do action.Call (source.AnExp (source.Do (action.BuiltIn m) es) args)) env) k (Eval c vals) ck (move (machine.Eval (source.Do action.Call (source.AnExp (source.Do (action.BuiltIn m) es) args)) env) k)
        by (inl p) = callee_follows m (p.0) es args c (p.1) r
        by (inr p) = value_called_follows m es args c (p.0) (p.1) r
    do_follows a es c r = operands_follow a es c (plain b s a es c tt r)

    looks_follow : (e : Exp) (c : core.Exp) → Code e c → M (machine.Eval e env) k (Eval c vals) ck (move (machine.Eval e env) k)
    looks_follow (source.Val v) c r = literal_follows v c r
    looks_follow (source.Name x) c r =
        subst (λ i. M (machine.Eval (source.Name x) env) k (Eval i vals) ck (found (environment.at env x) k)) (sym (r.1))
        (name_found b l x env k vals ck (place_or_nowhere (slice_get places x)) (environment.at env x) (r.0) around (names x))
    looks_follow (source.Do a es) c r = do_follows a es c r
    looks_follow (source.If x y z) c r =
        looked (source.If x y z) (machine.Eval x env) (Choosing y z env ∷ k) c (core.Do (Choose primitive.Copy (r.1) (r.2)) (one (r.0))) (Eval (r.0) vals) (Arguments (Choose primitive.Copy (r.1) (r.2)) [] NoExp vals ∷ ck) (r.6) refl refl refl
        (AtCode b l x env (Choosing y z env ∷ k) (r.0) vals (Arguments (Choose primitive.Copy (r.1) (r.2)) [] NoExp vals ∷ ck) (code x (r.0) (r.3))
        (InChoosing b l held y z env k (r.1) (r.2) vals ck (code y (r.1) (r.4)) (code z (r.2) (r.5)) around))
    looks_follow (source.Switch e NoCase) c r = several e NoCase c (r.0) (r.1) (r.2) (r.3) (r.4)
    looks_follow (source.Switch e (ACase q d (ACase q2 d2 cases))) c r = several e (ACase q d (ACase q2 d2 cases)) c (r.0) (r.1) (r.2) (r.3) (r.4)
    looks_follow (source.Switch e (ACase q d NoCase)) c r =
        looked (source.Switch e (ACase q d NoCase)) (machine.Eval e env) (Switching (ACase q d NoCase) env ∷ k) c (core.Do (Bind (around_all (on_nearest q s).checks fails (r.1))) (one (r.0))) (Eval (r.0) vals)
        (Arguments (Bind (around_all (on_nearest q s).checks fails (r.1))) [] NoExp vals ∷ ck) (r.4) refl refl refl
        (AtCode b l e env (Switching (ACase q d NoCase) env ∷ k) (r.0) vals (Arguments (Bind (around_all (on_nearest q s).checks fails (r.1))) [] NoExp vals ∷ ck) (code e (r.0) (r.2))
        (InLet b l held q d env k (around_all (on_nearest q s).checks fails (r.1)) vals ck (record { places = places; body = r.1; code = r.3; is = refl; names = names }) around))
    looks_follow (source.Group fns d) c r = tt
    looks_follow (source.Frame n e) c r = absurd r
    looks_follow (source.Label e) c r =
        subst (λ x. M (machine.Eval (source.Label e) env) k (Eval x vals) ck (move (machine.Eval (source.Label e) env) k)) (sym (r.2))
        (steps program context nodes 1 (start (machine.Eval (source.Label e) env) k) (owed k) held 0 held known world (Eval (core.Label (r.0)) vals) ck (Eval (r.0) vals) (core_machine.Labelled ∷ ck) store (machine.Eval e env) (machine.Labelled ∷ k) refl refl (omega arith) worlds
        (AtCode b (with_label l) e env (machine.Labelled ∷ k) (r.0) vals (core_machine.Labelled ∷ ck) (record { places = places; code = r.1; names = names }) (InLabel b l held k ck around)))
    looks_follow (source.While x d) c r = tt
    looks_follow (source.Repeat d x) c r = tt
    looks_follow (source.For q e d) c r =
        looked (source.For q e d) (machine.Eval e env) (Going q d env ∷ k) c (core.Do (Bind (core.Label (core.Loop (turn_with turn)))) (one (r.0))) (Eval (r.0) vals) (Arguments (Bind (core.Label (core.Loop (turn_with turn)))) [] NoExp vals ∷ ck) (r.4) refl refl refl
        (AtCode b l e env (Going q d env ∷ k) (r.0) vals (Arguments (Bind (core.Label (core.Loop (turn_with turn)))) [] NoExp vals ∷ ck) (code e (r.0) (r.2))
        (InGoing b l held q d env k turn vals ck (record { places = places; body = r.1; code = r.3; is = refl; names = names }) around))
      where
        turn : core.Exp
        turn = around_all (on_nearest q (beside 1 s)).checks fails (r.1)
    looks_follow (source.Try e q d) c r =
        subst (λ x. M (machine.Eval (source.Try e q d) env) k (Eval x vals) ck (move (machine.Eval (source.Try e q d) env) k)) (sym (r.5))
        (steps program context nodes 1 (start (machine.Eval (source.Try e q d) env) k) (owed k) held 0 held known world (Eval (core.Try (r.0) handler) vals) ck (Eval (r.0) vals) (core_machine.Trying handler vals ∷ ck) store (machine.Eval e env) (machine.Trying q d env ∷ k) refl refl (omega arith) worlds
        (AtCode true l e env (machine.Trying q d env ∷ k) (r.0) vals (core_machine.Trying handler vals ∷ ck) (record { places = places; code = subst (λ x. Elaborates program.groups x s e (r.0)) (r.2) (r.3); names = names })
        (InTry l held q d env k handler vals ck (record { places = places; body = r.1; code = subst (λ x. Elaborates program.groups x (behind (on_nearest q s) s) d (r.1)) (r.2) (r.4); is = refl; names = names })
        (subst (λ x. Around program context nodes world known x l held k ck) (r.2) around))))
      where
        handler : core.Exp
        handler = around_all (on_nearest q s).checks fails (r.1)
    looks_follow (source.Update o e f) c r =
        looked (source.Update o e f) (machine.Eval e env) (Updating o f env ∷ k) c (core.Do (Bind (update_with o (r.1))) (one (r.0))) (Eval (r.0) vals) (Arguments (Bind (update_with o (r.1))) [] NoExp vals ∷ ck) (r.4) refl refl refl
        (AtCode b l e env (Updating o f env ∷ k) (r.0) vals (Arguments (Bind (update_with o (r.1))) [] NoExp vals ∷ ck) (code e (r.0) (r.2))
        (InUpdating b l held o f env k (r.1) vals ck (record { places = places; code = r.3; names = names }) around))

  behind_last : (goal : core.Goal) (before : List core_value.Value) (arguments : core.Exps) (vals : List core_value.Value) (cj : List Frame) (w : core_value.Value)
      → focused program context nodes world (Give w) (Arguments goal before arguments vals ∷ cj) ≡ with_operands program context nodes world known goal (before ++ w ∷ []) arguments vals cj
  behind_last goal before NoExp vals cj w = refl
  behind_last goal before (AnExp e es) vals cj w = refl

  before_first : (goal : core.Goal) (arguments : core.Exps) (vals : List core_value.Value) (cj : List Frame)
      → focused program context nodes world (Eval (core.Do goal arguments) vals) cj ≡ with_operands program context nodes world known goal [] arguments vals cj
  before_first goal NoExp vals cj = refl
  before_first goal (AnExp e es) vals cj = refl

  passes_follow : (b : Bool) (l : Labels) (v : Value) (w : core_value.Value) (k : Stack) (ck : List Frame) → Belongs known v w → Around program context nodes world known b l held k ck → M (machine.Give v) k (Give w) ck (move (machine.Give v) k)
  passes_follow b l v w k ck value (Bottom c h js i) = tt
  passes_follow b l v w k ck value (InFunction n c m h j js cj i r) = tt
  passes_follow b l v w k ck value (InGathering n c m h f g done before next left j js cj i e d r) = tt
  passes_follow b l v w k ck value (InOperands x m h a done source.NoExp env j before later vals cj g e d r) =
      waits program context nodes (start (machine.Give v) k) (owed k) held 0 held known world (Give w) ck store (Ready a (done ++ v ∷ [])) j (omega arith) (let z : further (Ready a (done ++ v ∷ [])) ≤ 3 = most (Ready a (done ++ v ∷ [])) in omega (arith, z)) worlds
      (AtAction a (done ++ v ∷ []) j (Give w) ck (record {
        b = x;
        l = m;
        values = before ++ w ∷ [];
        vals = vals;
        weight = 0;
        less = held;
        f' = Give w;
        ck' = ck;
        others = cj;
        arguments = each_append known done before v w e value;
        may = g;
        path = There 0 (Give w) ck;
        acts = ap (λ later. focused program context nodes world (Give w) (Arguments (goal_at m a) before later vals ∷ cj)) d.code;
        level = refl;
        paid = omega arith;
        around = r;
      }))
  passes_follow b l v w k ck value (InOperands x m h a done (source.AnExp f fs) env j before later vals cj g e d r) =
      let t : ElaboratesAll program.groups x (scope d.places m vals) (source.AnExp f fs) later = d.code in
      steps program context nodes 0 (start (machine.Give v) k) (owed k) held 0 held known world (Give w) ck (Eval (t.0) vals) (Arguments (goal_at m a) (before ++ w ∷ []) (t.1) vals ∷ cj) store (machine.Eval f env) (Operands a (done ++ v ∷ []) fs env ∷ j)
      (ap (λ later. focused program context nodes world (Give w) (Arguments (goal_at m a) before later vals ∷ cj)) (t.4)) refl (omega arith) worlds
      (AtCode x m f env (Operands a (done ++ v ∷ []) fs env ∷ j) (t.0) vals (Arguments (goal_at m a) (before ++ w ∷ []) (t.1) vals ∷ cj) (record { places = d.places; code = t.2; names = d.names })
      (InOperands x m held a (done ++ v ∷ []) fs env j (before ++ w ∷ []) (t.1) vals cj g (each_append known done before v w e value) (record { places = d.places; code = t.3; names = d.names }) r))
  passes_follow b l v w k ck value (InMaking x m h i a done source.NoExp args env j before later arguments vals cj row e d f r) =
      waits program context nodes (start (machine.Give v) k) (owed k) held 0 held known world (Give w) ck store (Ready (action.BuiltIn i) (done ++ v ∷ [])) (Operands action.Call [] args env ∷ j) (omega arith) (omega arith) worlds
      (AtMaking i (done ++ v ∷ []) args env j (Give w) ck (record {
        b = x;
        l = m;
        a = a;
        values = before ++ w ∷ [];
        arguments = arguments;
        vals = vals;
        others = cj;
        row = row;
        belongs = each_append known done before v w e value;
        code = f;
        acts = ap (λ es. focused program context nodes world (Give w) (Arguments (goal_at m a) before (append es arguments) vals ∷ cj)) d.code ∙ behind_last (goal_at m a) before arguments vals cj w;
        level = refl;
        around = r;
      }))
  passes_follow b l v w k ck value (InMaking x m h i a done (source.AnExp g fs) args env j before later arguments vals cj row e d f r) =
      let t : ElaboratesAll program.groups x (scope d.places m vals) (source.AnExp g fs) later = d.code in
      steps program context nodes 0 (start (machine.Give v) k) (owed k) held 0 held known world (Give w) ck (Eval (t.0) vals) (Arguments (goal_at m a) (before ++ w ∷ []) (append (t.1) arguments) vals ∷ cj) store (machine.Eval g env) (Operands (action.BuiltIn i) (done ++ v ∷ []) fs env ∷ Operands action.Call [] args env ∷ j)
      (ap (λ es. focused program context nodes world (Give w) (Arguments (goal_at m a) before (append es arguments) vals ∷ cj)) (t.4)) refl (omega arith) worlds
      (AtCode x m g env (Operands (action.BuiltIn i) (done ++ v ∷ []) fs env ∷ Operands action.Call [] args env ∷ j) (t.0) vals (Arguments (goal_at m a) (before ++ w ∷ []) (append (t.1) arguments) vals ∷ cj) (record { places = d.places; code = t.2; names = d.names })
      (InMaking x m held i a (done ++ v ∷ []) fs args env j (before ++ w ∷ []) (t.1) arguments vals cj row (each_append known done before v w e value) (record { places = d.places; code = t.3; names = d.names }) f r))
  passes_follow b l v w k ck value (InCalling x m h i a holds done source.NoExp env j before later vals cj row e d r) =
      waits program context nodes (start (machine.Give v) k) (owed k) held 0 held known world (Give w) ck store (Ready action.Call (BuiltIn i holds ∷ (done ++ v ∷ []))) j (omega arith) (omega arith) worlds
      (AtApplied i a holds (done ++ v ∷ []) j (Give w) ck row (record {
        b = x;
        l = m;
        values = before ++ w ∷ [];
        vals = vals;
        others = cj;
        belongs = subst (λ xs. EachBelongs known xs (before ++ w ∷ [])) (assoc (listed holds) done (v ∷ [])) (each_append known (listed holds ++ done) before v w e value);
        acts = ap (λ es. focused program context nodes world (Give w) (Arguments (goal_at m a) before es vals ∷ cj)) d.code;
        level = refl;
        around = r;
      }))
  passes_follow b l v w k ck value (InCalling x m h i a holds done (source.AnExp g fs) env j before later vals cj row e d r) =
      let t : ElaboratesAll program.groups x (scope d.places m vals) (source.AnExp g fs) later = d.code in
      steps program context nodes 0 (start (machine.Give v) k) (owed k) held 0 held known world (Give w) ck (Eval (t.0) vals) (Arguments (goal_at m a) (before ++ w ∷ []) (t.1) vals ∷ cj) store (machine.Eval g env) (Operands action.Call (BuiltIn i holds ∷ (done ++ v ∷ [])) fs env ∷ j)
      (ap (λ es. focused program context nodes world (Give w) (Arguments (goal_at m a) before es vals ∷ cj)) (t.4)) refl (omega arith) worlds
      (AtCode x m g env (Operands action.Call (BuiltIn i holds ∷ (done ++ v ∷ [])) fs env ∷ j) (t.0) vals (Arguments (goal_at m a) (before ++ w ∷ []) (t.1) vals ∷ cj) (record { places = d.places; code = t.2; names = d.names })
      (InCalling x m held i a holds (done ++ v ∷ []) fs env j (before ++ w ∷ []) (t.1) vals cj row
      (subst (λ xs. EachBelongs known xs (before ++ w ∷ [])) (assoc (listed holds) done (v ∷ [])) (each_append known (listed holds ++ done) before v w e value)) (record { places = d.places; code = t.3; names = d.names }) r))
  passes_follow b l v w k ck value (InHolding x m h i done env j n levels vals cj e d r) =
      waits program context nodes (start (machine.Give v) k) (owed k) held 0 held known world (Give w) ck store (Ready (action.BuiltIn i) (done ++ v ∷ [])) j (omega arith) (omega arith) worlds
      (AtFunction i (done ++ v ∷ []) j (Give w) ck (record {
        b = x;
        l = m;
        n = n;
        levels = levels ++ length vals ∷ [];
        vals = w ∷ vals;
        weight = 1 + 0;
        others = cj;
        inside = held_more known vals v w levels done e value;
        there = d;
        path = step program context nodes world 1 0 (Give w) ck (Eval (core.Functions (number_of (form_of i) n) (core.Name 0)) (w ∷ vals)) cj refl (Eval (core.Functions (number_of (form_of i) n) (core.Name 0)) (w ∷ vals)) cj refl
            (There 0 (Eval (core.Functions (number_of (form_of i) n) (core.Name 0)) (w ∷ vals)) cj);
        light = omega arith;
        around = r;
      }))
  passes_follow b l v w k ck value (InChoosing x m h y z env j c d vals cj p q r) = tt
  passes_follow b l v w k ck value (InLet x m h p e env j c vals cj d r) = tt
  passes_follow b l v w k ck value (InSwitch x m h cs env j c vals cj d r) = tt
  passes_follow b l v w k ck value (InLabel c m h j cj r) = tt
  passes_follow b l v w k ck value (InTesting x m h y z env j c d vals cj p q r) = tt
  passes_follow b l v w k ck value (InTurning x m h y z env j c d vals cj p q r) = tt
  passes_follow b l v w k ck value (InEndless x m h y env j d vals cj q r) = tt
  passes_follow b l v w k ck value (InRepeating x m h y z env j d c vals cj p q r) = tt
  passes_follow b l v w k ck value (InRetesting x m h y z env j d c u vals cj p q r) = tt
  passes_follow b l v w k ck value (InTry m h p e env j c vals cj d r) = tt
  passes_follow b l v w k ck value (InUpdating x m h o e env j c vals cj d r) = tt
  passes_follow b l v w k ck value (InGoing x m h p e env j c vals cj d r) = tt
  passes_follow b l v w k ck value (InTurn x m h p e env u j c z vals cj i d r) = tt
  passes_follow b l v w k ck value (InBody x m h p e env inner u j c z vals js cj a i d r) = tt
  passes_follow b l v w k ck value (InBranch x m h j joins cj i r) =
      follows_behind program context nodes world 0 (start (machine.Give v) k) (owed k) held 0 [] known (Give w) ck (Give w) cj store (machine.Give v) j (pop program context nodes world joins w cj i)
      (waits program context nodes (start (machine.Give v) k) (owed k + 0) held 0 held known world (Give w) cj store (machine.Give v) j (omega arith) (omega arith) worlds (AtValue x m v w j cj value r))
  passes_follow b l v w k ck value (InCase x m h less j vals skips cj i paid r) =
      does program context nodes (start (machine.Give v) k) (owed k) held 0 less (weighing 1) [] known known world world (Give w) ck (Give w) cj store (machine.Give v) j
      (past_skips program context nodes world w (Some 0) 1 skips (core_machine.Labelled ∷ cj) i) (let z : suc less ≤ held = paid in omega (arith, z)) (omega arith) ([], nothing_more known) refl worlds (AtValue x m v w j cj value r)

  -- the operands of a built-in function that is called at once
  callee_looks : (b : Bool) (l : Labels) (m : Member) (a : Action) (es args : Exps) (env : Environment) (k : Stack) (later arguments : core.Exps) (vals : List core_value.Value) (ck : List Frame) → row_of m ≡ Some a
      → CodedAll program.groups known context.globals b l es env later vals → CodedAll program.groups known context.globals b l args env arguments vals → Around program context nodes world known b l held k ck
      → M (machine.Eval (source.Do (action.BuiltIn m) es) env) (Operands action.Call [] args env ∷ k) (Eval (core.Do (goal_at l a) (append later arguments)) vals) ck (move (machine.Eval (source.Do (action.BuiltIn m) es) env) (Operands action.Call [] args env ∷ k))
  callee_looks b l m a source.NoExp args env k later arguments vals ck row d f around =
      waits program context nodes (start (machine.Eval (source.Do (action.BuiltIn m) source.NoExp) env) (Operands action.Call [] args env ∷ k)) (owed k) held 0 held known world (Eval (core.Do (goal_at l a) (append later arguments)) vals) ck store (Ready (action.BuiltIn m) []) (Operands action.Call [] args env ∷ k) (omega arith) (omega arith) worlds
      (AtMaking m [] args env k (Eval (core.Do (goal_at l a) (append later arguments)) vals) ck (record {
        b = b;
        l = l;
        a = a;
        values = [];
        arguments = arguments;
        vals = vals;
        others = ck;
        row = row;
        belongs = tt;
        code = f;
        acts = ap (λ es. focused program context nodes world (Eval (core.Do (goal_at l a) (append es arguments)) vals) ck) d.code ∙ before_first (goal_at l a) arguments vals ck;
        level = refl;
        around = around;
      }))
  callee_looks b l m a (source.AnExp g fs) args env k later arguments vals ck row d f around =
      let t : ElaboratesAll program.groups b (scope d.places l vals) (source.AnExp g fs) later = d.code in
      steps program context nodes 0 (start (machine.Eval (source.Do (action.BuiltIn m) (source.AnExp g fs)) env) (Operands action.Call [] args env ∷ k)) (owed k) held 0 held known world _ ck (Eval (t.0) vals) (Arguments (goal_at l a) [] (append (t.1) arguments) vals ∷ ck) store (machine.Eval g env)
      (Operands (action.BuiltIn m) [] fs env ∷ Operands action.Call [] args env ∷ k)
      (ap (λ es. focused program context nodes world (Eval (core.Do (goal_at l a) (append es arguments)) vals) ck) (t.4)) refl (omega arith) worlds
      (AtCode b l g env (Operands (action.BuiltIn m) [] fs env ∷ Operands action.Call [] args env ∷ k) (t.0) vals (Arguments (goal_at l a) [] (append (t.1) arguments) vals ∷ ck) (record { places = d.places; code = t.2; names = d.names })
      (InMaking b l held m a [] fs args env k [] (t.1) arguments vals ck row tt (record { places = d.places; code = t.3; names = d.names }) f around))

  made_moves : (m : Member) (holds : Values) (args : Exps) (env : Environment) (k : Stack) (cf : Focus) (ck : List Frame) → Calling program context nodes world known held m (listed holds) args env k cf ck
      → M (machine.Give (BuiltIn m holds)) (Operands action.Call [] args env ∷ k) cf ck (move (machine.Give (BuiltIn m holds)) (Operands action.Call [] args env ∷ k))
  made_moves m holds source.NoExp env k cf ck r =
      let t : r.arguments ≡ NoExp = r.code.code in
      waits program context nodes (start (machine.Give (BuiltIn m holds)) (Operands action.Call [] source.NoExp env ∷ k)) (owed k) held 0 held known world cf ck store (Ready action.Call (BuiltIn m holds ∷ [])) k (omega arith) (omega arith) worlds
      (AtApplied m r.a holds [] k cf ck r.row (record {
        b = r.b;
        l = r.l;
        values = r.values;
        vals = r.vals;
        others = r.others;
        belongs = subst (λ xs. EachBelongs known xs r.values) (nothing_more (listed holds)) r.belongs;
        acts = r.acts ∙ ap (λ es. with_operands program context nodes world known (goal_at r.l r.a) r.values es r.vals r.others) t;
        level = r.level;
        around = r.around;
      }))
  made_moves m holds (source.AnExp g fs) env k cf ck r =
      let t : ElaboratesAll program.groups r.b (scope r.code.places r.l r.vals) (source.AnExp g fs) r.arguments = r.code.code in
      does program context nodes (start (machine.Give (BuiltIn m holds)) (Operands action.Call [] (source.AnExp g fs) env ∷ k)) (owed k) held 0 held (weighing 0) [] known known world world cf ck (Eval (t.0) r.vals) (Arguments (goal_at r.l r.a) r.values (t.1) r.vals ∷ r.others) store
      (machine.Eval g env) (Operands action.Call (BuiltIn m holds ∷ []) fs env ∷ k)
      (r.acts ∙ ap (λ es. with_operands program context nodes world known (goal_at r.l r.a) r.values es r.vals r.others) (t.4)) (omega arith) (omega arith) ([], nothing_more known) refl worlds
      (AtCode r.b r.l g env (Operands action.Call (BuiltIn m holds ∷ []) fs env ∷ k) (t.0) r.vals (Arguments (goal_at r.l r.a) r.values (t.1) r.vals ∷ r.others) (record { places = r.code.places; code = t.2; names = r.code.names })
      (InCalling r.b r.l held m r.a holds [] fs env k r.values (t.1) r.vals r.others r.row (subst (λ xs. EachBelongs known xs r.values) (nothing_more (listed holds)) r.belongs) (record { places = r.code.places; code = t.3; names = r.code.names }) r.around))

  -- a truth value goes outward, and Core stands still
  standing : (t : Bool) (k : Stack) (f : machine.Focus) (more : Stack) (cf : Focus) (ck : List Frame) → Passing t k f more → ((g : machine.Focus) (l : Stack) → Passing t k g l → StateBelongs program context nodes world known held g l cf ck)
      → move (machine.Give (leaf (part.Flag t))) k ≡ Reduces → M f more cf ck (move f more)
  standing t k f more cf ck (Written n env) state last =
      waits program context nodes (start f more) (owed more) held 0 held known world cf ck store (machine.Give (leaf (part.Flag t))) more (omega arith) (omega arith) worlds (state (machine.Give (leaf (part.Flag t))) more (Arrived n))
  standing t k f more cf ck (Arrived zero) state last = subst (λ x. M (machine.Give (leaf (part.Flag t))) k cf ck x) (sym last) tt
  standing t k f more cf ck (Arrived (suc n)) state last =
      waits program context nodes (start f more) (owed more) held 0 held known world cf ck store (machine.Give (leaf (part.Flag t))) (joinings n k) (omega arith) (omega arith) worlds (state (machine.Give (leaf (part.Flag t))) (joinings n k) (Arrived n))

  pub moves_follow : (f : machine.Focus) (k : Stack) (cf : Focus) (ck : List Frame) → StateBelongs program context nodes world known held f k cf ck → M f k cf ck (move f k)
  moves_follow f k cf ck (AtCode b l e env j c vals cj code around) = looks_follow b l env j vals cj around code.places code.names e c code.code
  moves_follow f k cf ck (AtWhile b l x y env j c d vals cj p q r) = tt
  moves_follow f k cf ck (AtEndless b l y env j d vals cj q r) = tt
  moves_follow f k cf ck (AtTruth b l y env j d vals cj q r) =
      steps program context nodes 0 (start f k) (owed k) held 0 held known world cf ck (Give shape.unit) ck store (machine.Give (leaf (part.Flag true))) k refl refl (omega arith) worlds (AtTrue b l y env j d vals cj q r)
  moves_follow f k cf ck (AtTrue b l y env j d vals cj q r) = tt
  moves_follow f k cf ck (AtRepeat b l y x env j d c vals cj p q r) = tt
  moves_follow f k cf ck (AtAction a vs j g cj r) = tt
  moves_follow f k cf ck (AtValue b l v w j cj value around) = passes_follow b l v w j cj value around
  moves_follow f k cf ck (AtEnd v w g cj value eq paid flat) = (w, value, eq, paid, worlds)
  moves_follow f k cf ck (AtBody b l p e env inner v j c d w vals vals' js cj a value pattern code around) =
      waits program context nodes (start f k) (owed k) held 0 held known world cf ck store (machine.Eval e inner) (Switching body_cases inner ∷ machine.Joining ∷ machine.Stepping p v e env ∷ j) (omega arith) (omega arith) worlds
      (AtCode b (with_own_label l) e inner (Switching body_cases inner ∷ machine.Joining ∷ machine.Stepping p v e env ∷ j) d vals' ck code (InBody b l held p e env inner v j c w vals js cj a value pattern around))
  moves_follow f k cf ck (AtTurned b l p e env v j c w vals cj g more q value pattern around) =
      standing true (machine.Stepping p v e env ∷ j) g more _ _ q (λ g2 more2 q2. AtTurned b l p e env v j c w vals cj g2 more2 q2 value pattern around) refl
  moves_follow f k cf ck (AtGoing b l p e env v j c w vals cj value pattern around) = tt
  moves_follow f k cf ck (AtLeft b l p e env v j cj g more q around) = standing false (machine.Stepping p v e env ∷ j) g more _ _ q (λ g2 more2 q2. AtLeft b l p e env v j cj g2 more2 q2 around) refl
  moves_follow f k cf ck (AtCallee b l m a es args env j later arguments vals cj row d e around) = callee_looks b l m a es args env j later arguments vals cj row d e around
  moves_follow f k cf ck (AtMaking m vs args env j g cj r) = tt
  moves_follow f k cf ck (AtMade m holds args env j g cj r) = made_moves m holds args env j g cj r
  moves_follow f k cf ck (AtApplied m a holds vs j g cj row r) = tt
  moves_follow f k cf ck (AtInner m a vs j g cj row r) = tt
  moves_follow f k cf ck (AtBack b l v w j cj value around) = tt
  moves_follow f k cf ck (AtFunction m vs j g cj r) = tt
  moves_follow f k cf ck (Later g j g2 more cg cj moves none falls owes deep state) =
      subst (λ m. M g j cg cj m) (sym moves) (waits program context nodes (start g j) (owed j) held 0 held known world cg cj store g2 more (omega (arith, owes)) falls worlds state)
  moves_follow f k cf ck (LaterBy g j n g2 more cg cj moves goes falls owes deep state) = subst (λ m. M g j cg cj m) (sym moves) tt
  moves_follow f k cf ck (AtRaising b l less w i c place cell j others g cj value eq depth fits around) = tt
  moves_follow f k cf ck (AtWriting b l less w c place v cell u j others g cj value new eq depth fits around) = tt
  moves_follow f k cf ck (AtWritten b l c place j others around) = tt
