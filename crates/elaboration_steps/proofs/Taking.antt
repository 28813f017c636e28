-- What each frame does with a value.
use Rattle.std.proofs.Common.{◌≡◌, inl, inr, ℕ, suc, ◌+◌, ◌*◌, ◌≤◌, Bool, true, false, List, [], ◌∷◌, ◌++◌, length, Option, Some, None, refl, sym, ap, subst, arith}
use Rattle.std.specs.Prelude.{codes}
use Rattle.mo_types.specs.declared.datum.Datum.TheVariants as part
use Rattle.mo_values.specs.declared.operation.Operation.TheVariants as op
use Rattle.mo_values.specs.Alike.{Alike}
use Rattle.mo_values.specs.Costs.{weighing}
use Rattle.mo_values.specs.Shapes.{Shape}
use Rattle.mo_values.specs.Shapes as shape
use Rattle.mo_values.specs.Views.{flag_of}
use Rattle.core_ir.specs.declared.primitive.Constructor.TheVariants as constructor
use Rattle.core_ir.specs.declared.primitive.Primitive.TheVariants as primitive
use Rattle.core_ir.specs.Choices.{on_some, choose}
use Rattle.core_ir.specs.Values as core_value
use Rattle.core_ir.specs.Worlds.{World, Context}
use Rattle.core_ir.specs.Executions.{Go}
use Rattle.core_ir.specs.Expressions as core
use Rattle.core_ir.specs.Openings.{Inside, Otherwise, option_opened}
use Rattle.core_ir.specs.Expressions.{NoExp, AnExp, Choose, Match, Break, Core, Bind}
use Rattle.core_ir.specs.CoreMachine as core_machine
use Rattle.core_ir.specs.CoreMachine.{Frame, Arguments, Looping, Join, Focus, Eval, Give, focused, at, stuck, matched}
use Rattle.typed_tree.specs.declared.action.Action.TheVariants as action
use Rattle.typed_tree.specs.Patterns.{Pat, Found, Constant, Present?, matches, is_literal, where_true, where_there, present_of, pattern_nodes}
use Rattle.typed_tree.specs.PatternWeights as weights
use Rattle.typed_tree.specs.PatternWeights.{pattern_weight}
use Rattle.typed_tree.specs.Language as source
use Rattle.typed_tree.specs.Language.{Exp, While, Repeat, NoCase, ACase}
use Rattle.mo_meaning.specs.Places as places
use Rattle.mo_meaning.specs.Reduce.{turn_cases}
use Rattle.mo_machine.specs.Values.{Value, Code, shape_of, value_of, values_list}
use Rattle.mo_machine.specs.Values as machine_value
use Rattle.mo_machine.specs.Environments.{Environment, extended}
use Rattle.mo_machine.specs.Acts.{Store, Act, Goes, goes}
use Rattle.mo_machine.specs.Frames as machine
use Rattle.mo_machine.specs.Frames.{Operands, Switching, Turning, Retesting, Going, Stepping, Joining, Stack, Ready}
use Rattle.mo_machine.specs.Jumps.{on_stack}
use Rattle.mo_machine.specs.Matching.{on_match, fails_to_match, first_case, trying}
use Rattle.mo_machine.specs.Reductions.{reduces}
use Rattle.elaboration.specs.Scopes.{beside, inside, nothing, one}
use Rattle.elaboration.specs.Checks.{Named, check, around_all, behind, fails}
use Rattle.elaboration.specs.Elaboration.{break_with, if_true, next_of, element_of}
use Rattle.elaboration.specs.Meeting.{OpensTo, Meets, There}
use Rattle.elaboration.proofs.Coming.{reads_new, reads_more, step, pop}
use Rattle.elaboration_forms.specs.Elaborates.{Elaborates, ElaboratesCases}
use Rattle.elaboration_values.specs.Belonging.{Known, Names, Belongs, AlikeFound}
use Rattle.elaboration_values.proofs.Belong.{patterns}
use Rattle.elaboration_steps.specs.Stacks.{Labels, with_own_label, scope, while_of, repeat_of, update_with, turn_with, Coded, CodedBeside, CodedPattern, CodedTurn, Written, WorldBelongs, AtCode, AtWhile, AtRepeat, AtAction, AtValue, AtEnd, AtBody, AtTurned, AtLeft, Around, Bottom, InFunction, InGathering, InOperands, InMaking, InCalling, InHolding, InChoosing, InLet, InSwitch, InLabel, InTesting, InTurning, InRepeating, InRetesting, InTry, InUpdating, InGoing, InTurn, InBody, InBranch, InCase, gathering_on, gathering_of, Gathered, InEndless, AtEndless, truth, endless_of}
use Rattle.elaboration_steps.specs.Follows.{start, owed, Suits, Acts}
use Rattle.elaboration_steps.proofs.Matching.{one_more, on_both, names_more, coded, pattern_lands, pattern_follows, cases_follow}
use Rattle.elaboration_steps.proofs.Gathering.{gathers_behind}
use Rattle.elaboration_steps.proofs.Paths.{nothing_more, waits_in, waits, steps, does, acts_ahead, acts_behind}
use Rattle.elaboration_steps.proofs.Values.{shape_value, value_belongs, by_flag, inside_is, present_both}

abbrev pub asks_next : Value → machine.Focus
asks_next v = Ready (action.Operate (op.Field (codes "next"))) (v ∷ [])

abbrev pub next_stack : Pat → Exp → Environment → Value → Stack → Stack
next_stack p e env v j = Operands action.Call [] source.NoExp env ∷ Switching (turn_cases p e) env ∷ Stepping p v e env ∷ j

abbrev pub element_stack : core.Exp → core_value.Value → List core_value.Value → List Frame → List Frame
element_stack c w vals cj = Arguments (Bind c) [] NoExp (w ∷ vals) ∷ Looping (turn_with c) (w ∷ vals) ∷ core_machine.Labelled ∷ cj

abbrev pub turn_stack : core.Exp → core_value.Value → List core_value.Value → List Frame → List Frame
turn_stack c w vals cj = Arguments (Match constructor.Present (core.Name 0) (break_with nothing)) [] NoExp (w ∷ vals) ∷ element_stack c w vals cj

abbrev call_stack : core.Exp → core_value.Value → List core_value.Value → List Frame → List Frame
call_stack c w vals cj = Arguments core.Call [] NoExp (w ∷ vals) ∷ turn_stack c w vals cj

abbrev next_field : core.Exp
next_field = core.Do (core.Operate (primitive.Operate (op.Field (codes "next")))) (one (core.Name 0))

abbrev field_stack : core.Exp → core_value.Value → List core_value.Value → List Frame → List Frame
field_stack c w vals cj = Arguments (core.Operate (primitive.Operate (op.Field (codes "next")))) [] NoExp (w ∷ vals) ∷ call_stack c w vals cj

module _ (program : Core) (context : Context) (nodes : ℕ) (held : ℕ) (known : List Known) (world : World) (store : Store) (worlds : WorldBelongs program.groups known context.globals store world) where
  -- behind a name of Core alone
  pub beside_code : (b : Bool) (l : Labels) (e : Exp) (env : Environment) (c : core.Exp) (vals : List core_value.Value) (w : core_value.Value) → CodedBeside program.groups known context.globals b l e env c vals
      → Coded program.groups known context.globals b l e env c (w ∷ vals)
  beside_code b l e env c vals w r = coded program context nodes known b (beside 1 (scope r.places l vals)) e env c (w ∷ vals) (one_more (length vals)) r.code (names_more known context.globals r.places env vals (w ∷ vals) r.names (reads_more vals w))

  module _ (v : Value) (w : core_value.Value) (value : Belongs known v w) where
    abbrev A : Stack → ℕ → Focus → List Frame → Act → Type 0
    A k = Acts program context nodes (start (machine.Give v) k) held known world store k

    -- by the truth value
    choice : (b : Bool) (c d : core.Exp) (vals : List core_value.Value) (ck : List Frame) → flag_of w ≡ Some b
        → focused program context nodes world (Give w) (Arguments (Choose primitive.Copy c d) [] NoExp vals ∷ ck) ≡ Go (weighing 1) [] world (at program context nodes (Eval (choose b c d) vals) (Join ∷ ck))
    choice b c d vals ck e = ap (λ o. on_some (stuck program context nodes world) o (λ t. Go (weighing 1) [] world (at program context nodes (Eval (choose t c d) vals) (Join ∷ ck)))) e

    -- the end of a loop, whose label is left
    finishes : (k k0 : Stack) (b : Bool) (l : Labels) (spent : ℕ) (c : core.Exp) (inner vals : List core_value.Value) (ck : List Frame) → owed k0 ≡ owed k → spent ≤ 1 → Around program context nodes world known b l held k ck
        → A k0 spent (Eval (break_with nothing) inner) (Join ∷ Looping c vals ∷ core_machine.Labelled ∷ ck) (goes store (machine.Give machine_value.unit) k)
    finishes k k0 b l spent c inner vals ck q le r =
        acts_ahead program context nodes (start (machine.Give v) k0) held known world store k0 0 spent _ _ (Eval nothing inner) (Arguments (Break 0) [] NoExp inner ∷ Join ∷ Looping c vals ∷ core_machine.Labelled ∷ ck) (goes store (machine.Give machine_value.unit) k) refl refl
        (acts_ahead program context nodes (start (machine.Give v) k0) held known world store k0 0 (spent + 0) _ _ (Give shape.unit) (Arguments (Break 0) [] NoExp inner ∷ Join ∷ Looping c vals ∷ core_machine.Labelled ∷ ck) (goes store (machine.Give machine_value.unit) k) refl refl
        (steps program context nodes 1 (start (machine.Give v) k0) (spent + 0 + 0 + owed k0) (2 * 1 + held) 0 held known world _ _ (Give shape.unit) ck store (machine.Give machine_value.unit) k refl refl (omega (arith, q, le)) worlds
        (AtValue b l machine_value.unit shape.unit k ck (refl, tt) r)))

    next_around : (x : Bool) (m : Labels) (p : Pat) (e : Exp) (env : Environment) (j : Stack) (c : core.Exp) (vals : List core_value.Value) (cj : List Frame) → CodedPattern program.groups known context.globals x (with_own_label m) p e env c (w ∷ vals)
        → Around program context nodes world known x m held j cj → Around program context nodes world known x (with_own_label m) held (next_stack p e env v j) (call_stack c w vals cj)
    next_around x m p e env j c vals cj d r =
        InOperands x (with_own_label m) held action.Call [] source.NoExp env (Switching (turn_cases p e) env ∷ Stepping p v e env ∷ j) [] NoExp (w ∷ vals) (turn_stack c w vals cj) tt tt (record { places = d.places; code = refl; names = d.names })
        (InTurn x m held p e env v j c w vals cj value d r)

    turn_pattern : (x : Bool) (m : Labels) (p : Pat) (e : Exp) (env : Environment) (c : core.Exp) (vals : List core_value.Value) → CodedTurn program.groups known context.globals x m p e env c vals → CodedPattern program.groups known context.globals x (with_own_label m) p e env c (w ∷ vals)
    turn_pattern x m p e env c vals d = record {
      places = d.places;
      body = d.body;
      code = subst (λ n. Elaborates program.groups x (inside (behind (check p (Named n) (suc n)) (scope d.places m vals))) e d.body) (one_more (length vals)) d.code;
      is = subst (λ n. c ≡ around_all (check p (Named n) (suc n)).checks fails d.body) (one_more (length vals)) d.is;
      names = names_more known context.globals d.places env vals (w ∷ vals) d.names (reads_more vals w);
    }

    -- the object of a `for`, again
    pub going_follows : (x : Bool) (m : Labels) (p : Pat) (e : Exp) (env : Environment) (j : Stack) (c : core.Exp) (vals : List core_value.Value) (cj : List Frame) → CodedPattern program.groups known context.globals x (with_own_label m) p e env c (w ∷ vals)
        → Around program context nodes world known x m held j cj → A (Going p e env ∷ j) 0 (Eval (next_of (core.Name 0)) (w ∷ vals)) (turn_stack c w vals cj) (goes store (asks_next v) (next_stack p e env v j))
    going_follows x m p e env j c vals cj d r =
        acts_ahead program context nodes (start (machine.Give v) (Going p e env ∷ j)) held known world store (Going p e env ∷ j) 0 0 _ _ (Eval next_field (w ∷ vals)) (call_stack c w vals cj) (goes store (asks_next v) (next_stack p e env v j)) refl refl
        (acts_ahead program context nodes (start (machine.Give v) (Going p e env ∷ j)) held known world store (Going p e env ∷ j) 0 (0 + 0) _ _ (Eval (core.Name 0) (w ∷ vals)) (field_stack c w vals cj) (goes store (asks_next v) (next_stack p e env v j)) refl refl
        (steps program context nodes 0 (start (machine.Give v) (Going p e env ∷ j)) (0 + 0 + 0 + owed (Going p e env ∷ j)) (2 * 1 + held) 0 held known world _ _ (Give w) (field_stack c w vals cj) store (asks_next v) (next_stack p e env v j) refl refl (omega arith) worlds
        (AtAction (action.Operate (op.Field (codes "next"))) (v ∷ []) (next_stack p e env v j) (Give w) (field_stack c w vals cj) (record {
          b = x;
          l = with_own_label m;
          values = w ∷ [];
          vals = w ∷ vals;
          weight = 0;
          less = held;
          f' = Give w;
          ck' = field_stack c w vals cj;
          others = call_stack c w vals cj;
          arguments = (value, tt);
          may = tt;
          path = There 0 (Give w) (field_stack c w vals cj);
          acts = refl;
          level = refl;
          paid = omega arith;
          around = next_around x m p e env j c vals cj d r;
        }))))

    pub takes_follow : (b : Bool) (l : Labels) (k : Stack) (ck : List Frame) → Around program context nodes world known b l held k ck → Suits known (machine.Give v) k → A k 0 (Give w) ck (reduces context.head None store (machine.Give v) k)
    takes_follow b l k ck (Bottom c h js i) suits =
        acts_behind program context nodes (start (machine.Give v) k) held known world store k 0 0 (Give w) (js ++ []) (Give w) [] (goes store (machine.Give v) []) (pop program context nodes world js w [] i)
        (waits program context nodes (start (machine.Give v) k) (0 + 0 + owed k) (2 * 1 + held) 0 (suc held) known world (Give w) [] store (machine.Give v) [] (omega arith) (omega arith) worlds
        (AtEnd v w (Give w) [] value refl (omega arith) refl))
    takes_follow b l k ck (InFunction n c m h j js cj i r) suits =
        acts_behind program context nodes (start (machine.Give v) k) held known world store k 0 0 (Give w) (js ++ (core_machine.Caller n None ∷ cj)) (Give w) (core_machine.Caller n None ∷ cj) (goes store (machine.Give v) j) (pop program context nodes world js w (core_machine.Caller n None ∷ cj) i)
        (does program context nodes (start (machine.Give v) k) (0 + 0 + owed k) (2 * 1 + held) 0 held (weighing 1) [] known known world world (Give w) (core_machine.Caller n None ∷ cj) (Give w) cj store (machine.Give v) j refl (omega arith) (omega arith) ([], nothing_more known) refl worlds
        (AtValue c m v w j cj value r))
    takes_follow b l k ck (InGathering n c m h f g done before next left j js cj i e d r) suits =
        acts_behind program context nodes (start (machine.Give v) k) held known world store k 0 0 (Give w) (js ++ inside) (Give w) inside (goes store (machine.Give v) (gathering_on f done next left j)) (pop program context nodes world js w inside i)
        (waits_in program context nodes (start (machine.Give v) k) (0 + 0 + owed k) (2 * 1 + held) 0 held known world (Give w) inside store (machine.Give v) (gathering_on f done next left j) (omega arith) (omega arith)
        (Gathered store (machine.Give v) (gathering_on f done next left j) (Give w) inside worlds
        (gathers_behind program context nodes world known held c m f g e j cj (Give w) inside r done before v w next left d value refl)))
      where
        inside : List Frame
        inside = core_machine.Caller n (Some (gathering_of g before next left)) ∷ core_machine.Caller 0 None ∷ cj
    takes_follow b l k ck (InOperands x m h a done rest env j before later vals cj g e d r) suits = tt
    takes_follow b l k ck (InMaking x m h i a done rest args env j before later arguments vals cj row e d f r) suits = tt
    takes_follow b l k ck (InCalling x m h i a holds done rest env j before later vals cj row e d r) suits = tt
    takes_follow b l k ck (InBranch x m h j joins cj i r) suits = tt
    takes_follow b l k ck (InCase x m h less j vals skips cj i paid r) suits = tt
    takes_follow b l k ck (InHolding x m h i done env j n levels vals cj e d r) suits = tt
    takes_follow b l k ck (InChoosing x m h y z env j c d vals cj p q r) suits =
        by_flag known (λ t. A k 0 (Give w) ck (on_stack store t j)) v w (goes store (machine.Eval y env) (Joining ∷ [])) (goes store (machine.Eval z env) (Joining ∷ [])) value tt
        (λ e. branch y c true p (choice true c d vals cj e)) (λ e. branch z d false q (choice false c d vals cj e))
      where
        branch : (e : Exp) (f : core.Exp) (t : Bool) → Coded program.groups known context.globals x m e env f vals
            → focused program context nodes world (Give w) ck ≡ Go (weighing 1) [] world (at program context nodes (Eval f vals) (Join ∷ cj)) → A k 0 (Give w) ck (goes store (machine.Eval e env) (Joining ∷ j))
        branch e f t code eq =
            steps program context nodes 1 (start (machine.Give v) k) (0 + owed k) (2 * 1 + held) 0 held known world (Give w) ck (Eval f vals) (Join ∷ cj) store (machine.Eval e env) (Joining ∷ j) eq refl (omega arith) worlds
            (AtCode x m e env (Joining ∷ j) f vals (Join ∷ cj) code (InBranch x m held j (Join ∷ []) cj tt r))
    takes_follow b l k ck (InLet x m h p e env j c vals cj d r) suits =
        subst (λ t. A k 0 (Give w) ck t) (sym (on_both (matches p (shape_of v)) _ (fails_to_match (1 + trying p v)) store j))
        (pattern_follows program context nodes (start (machine.Give v) k) held known world store k worlds p e env c vals x m held j cj [] v w 1 (1 + trying p v) 0 (Give w) ck d value (let y = suits w value in y.0) tt r refl (omega arith) (omega arith) (omega arith))
    takes_follow b l k ck (InSwitch x m h cs env j c vals cj d r) suits =
        acts_ahead program context nodes (start (machine.Give v) k) held known world store k 1 0 (Give w) ck (Eval (core.Label c) (w ∷ vals)) cj (on_stack store (first_case store 1 v cs env) j) refl refl
        (acts_ahead program context nodes (start (machine.Give v) k) held known world store k 1 (0 + 1) _ cj (Eval c (w ∷ vals)) (core_machine.Labelled ∷ cj) (on_stack store (first_case store 1 v cs env) j) refl refl
        (cases_follow program context nodes (start (machine.Give v) k) held known world store k worlds cs d.places env c (w ∷ vals) (length vals) x m held j cj v w 1 (0 + 1 + 1)
        (subst (λ i. ElaboratesCases program.groups x (length vals) (record (scope d.places (with_own_label m) vals) { names = i }) cs c) (one_more (length vals)) d.code)
        (names_more known context.globals d.places env vals (w ∷ vals) d.names (reads_more vals w)) (reads_new vals w) value (suits w value) r (omega arith) (omega arith)))
    takes_follow b l k ck (InLabel c m h j cj r) suits =
        steps program context nodes 0 (start (machine.Give v) k) (0 + owed k) (2 * 1 + held) 0 held known world (Give w) ck (Give w) cj store (machine.Give v) j refl refl (omega arith) worlds (AtValue c m v w j cj value r)
    takes_follow b l k ck (InTesting x m h y z env j c d vals cj p q r) suits =
        by_flag known (λ t. A k 0 (Give w) ck (on_stack store t j)) v w (goes store (machine.Eval z env) (Turning y z env ∷ [])) (goes store (machine.Give machine_value.unit) []) value tt
        (λ e. acts_ahead program context nodes (start (machine.Give v) k) held known world store k 1 0 (Give w) ck (Eval nothing vals) (Join ∷ Arguments (Bind d) [] NoExp vals ∷ turns) (goes store (machine.Eval z env) (Turning y z env ∷ j))
        (choice true nothing (break_with nothing) vals (Arguments (Bind d) [] NoExp vals ∷ turns) e) refl
        (acts_ahead program context nodes (start (machine.Give v) k) held known world store k 0 (0 + 1) _ _ (Give shape.unit) (Join ∷ Arguments (Bind d) [] NoExp vals ∷ turns) (goes store (machine.Eval z env) (Turning y z env ∷ j)) refl refl
        (acts_ahead program context nodes (start (machine.Give v) k) held known world store k 0 (0 + 1 + 0) _ _ (Give shape.unit) (Arguments (Bind d) [] NoExp vals ∷ turns) (goes store (machine.Eval z env) (Turning y z env ∷ j)) refl refl
        (steps program context nodes 1 (start (machine.Give v) k) (0 + 1 + 0 + 0 + owed k) (2 * 1 + held) 0 held known world _ _ (Eval d (shape.unit ∷ vals)) turns store (machine.Eval z env) (Turning y z env ∷ j) refl refl (omega arith) worlds
        (AtCode x (with_own_label m) z env (Turning y z env ∷ j) d (shape.unit ∷ vals) turns (beside_code x (with_own_label m) z env d vals shape.unit q) (InTurning x m held y z env j c d vals cj p q r))))))
        (λ e. acts_ahead program context nodes (start (machine.Give v) k) held known world store k 1 0 (Give w) ck (Eval (break_with nothing) vals) (Join ∷ Arguments (Bind d) [] NoExp vals ∷ turns) (goes store (machine.Give machine_value.unit) j)
        (choice false nothing (break_with nothing) vals (Arguments (Bind d) [] NoExp vals ∷ turns) e) refl
        (acts_ahead program context nodes (start (machine.Give v) k) held known world store k 0 (0 + 1) _ _ (Eval nothing vals) (Arguments (Break 0) [] NoExp vals ∷ Join ∷ Arguments (Bind d) [] NoExp vals ∷ turns) (goes store (machine.Give machine_value.unit) j) refl refl
        (acts_ahead program context nodes (start (machine.Give v) k) held known world store k 0 (0 + 1 + 0) _ _ (Give shape.unit) (Arguments (Break 0) [] NoExp vals ∷ Join ∷ Arguments (Bind d) [] NoExp vals ∷ turns) (goes store (machine.Give machine_value.unit) j) refl refl
        (steps program context nodes 1 (start (machine.Give v) k) (0 + 1 + 0 + 0 + owed k) (2 * 1 + held) 0 held known world _ _ (Give shape.unit) cj store (machine.Give machine_value.unit) j refl refl (omega arith) worlds
        (AtValue x m machine_value.unit shape.unit j cj (refl, tt) r)))))
      where
        turns : List Frame
        turns = Looping (while_of c d) vals ∷ core_machine.Labelled ∷ cj
    takes_follow b l k ck (InTurning x m h y z env j c d vals cj p q r) suits =
        steps program context nodes 1 (start (machine.Give v) k) (0 + owed k) (2 * 2 + held) 0 held known world (Give w) ck (Eval (while_of c d) vals) ck store (machine.Eval (While y z) env) j refl refl (omega arith) worlds
        (AtWhile x m y z env j c d vals cj p q r)
    takes_follow b l k ck (InEndless x m h y env j d vals cj q r) suits =
        steps program context nodes 1 (start (machine.Give v) k) (0 + owed k) (2 * 2 + held) 0 held known world (Give w) ck (Eval (endless_of d) vals) ck store (machine.Eval (While truth y) env) j refl refl (omega arith) worlds
        (AtEndless x m y env j d vals cj q r)
    takes_follow b l k ck (InRepeating x m h y z env j d c vals cj p q r) suits =
        acts_ahead program context nodes (start (machine.Give v) k) held known world store k 1 0 (Give w) ck (Eval (if_true c nothing (break_with nothing)) (w ∷ vals)) (Looping (repeat_of d c) vals ∷ core_machine.Labelled ∷ cj) (Goes (weighing 2) store (machine.Eval z env) (Retesting y z env ∷ j)) refl refl
        (steps program context nodes 0 (start (machine.Give v) k) (0 + 1 + owed k) (2 * 2 + held) 0 held known world _ _ (Eval c (w ∷ vals)) (Arguments (Choose primitive.Copy nothing (break_with nothing)) [] NoExp (w ∷ vals) ∷ Looping (repeat_of d c) vals ∷ core_machine.Labelled ∷ cj) store (machine.Eval z env) (Retesting y z env ∷ j) refl refl (omega arith) worlds
        (AtCode x (with_own_label m) z env (Retesting y z env ∷ j) c (w ∷ vals) (Arguments (Choose primitive.Copy nothing (break_with nothing)) [] NoExp (w ∷ vals) ∷ Looping (repeat_of d c) vals ∷ core_machine.Labelled ∷ cj) (beside_code x (with_own_label m) z env c vals w q)
        (InRetesting x m held y z env j d c w vals cj p q r)))
    takes_follow b l k ck (InRetesting x m h y z env j d c u vals cj p q r) suits =
        by_flag known (λ t. A k 0 (Give w) ck (on_stack store t j)) v w (goes store (machine.Eval (Repeat y z) env) []) (goes store (machine.Give machine_value.unit) []) value tt
        (λ e. acts_ahead program context nodes (start (machine.Give v) k) held known world store k 1 0 (Give w) ck (Eval nothing (u ∷ vals)) (Join ∷ Looping (repeat_of d c) vals ∷ core_machine.Labelled ∷ cj) (goes store (machine.Eval (Repeat y z) env) j)
        (choice true nothing (break_with nothing) (u ∷ vals) (Looping (repeat_of d c) vals ∷ core_machine.Labelled ∷ cj) e) refl
        (acts_ahead program context nodes (start (machine.Give v) k) held known world store k 0 (0 + 1) _ _ (Give shape.unit) (Join ∷ Looping (repeat_of d c) vals ∷ core_machine.Labelled ∷ cj) (goes store (machine.Eval (Repeat y z) env) j) refl refl
        (acts_ahead program context nodes (start (machine.Give v) k) held known world store k 0 (0 + 1 + 0) _ _ (Give shape.unit) (Looping (repeat_of d c) vals ∷ core_machine.Labelled ∷ cj) (goes store (machine.Eval (Repeat y z) env) j) refl refl
        (steps program context nodes 1 (start (machine.Give v) k) (0 + 1 + 0 + 0 + owed k) (2 * 1 + held) 0 held known world _ _ (Eval (repeat_of d c) vals) (Looping (repeat_of d c) vals ∷ core_machine.Labelled ∷ cj) store (machine.Eval (Repeat y z) env) j refl refl (omega arith) worlds
        (AtRepeat x m y z env j d c vals cj p q r)))))
        (λ e. acts_ahead program context nodes (start (machine.Give v) k) held known world store k 1 0 (Give w) ck (Eval (break_with nothing) (u ∷ vals)) (Join ∷ Looping (repeat_of d c) vals ∷ core_machine.Labelled ∷ cj) (goes store (machine.Give machine_value.unit) j)
        (choice false nothing (break_with nothing) (u ∷ vals) (Looping (repeat_of d c) vals ∷ core_machine.Labelled ∷ cj) e) refl
        (finishes j k x m (0 + 1) (repeat_of d c) (u ∷ vals) vals cj refl (omega arith) r))
    takes_follow b l k ck (InGoing x m h p e env j c vals cj d r) suits =
        steps program context nodes 1 (start (machine.Give v) k) (0 + owed k) (2 * 1 + held) 0 (suc held) known world (Give w) ck (Eval (core.Label (core.Loop (turn_with c))) (w ∷ vals)) cj store (asks_next v) (next_stack p e env v j) refl refl (omega arith) worlds
        (AtAction (action.Operate (op.Field (codes "next"))) (v ∷ []) (next_stack p e env v j) (Eval (core.Label (core.Loop (turn_with c))) (w ∷ vals)) cj (record {
          b = x;
          l = with_own_label m;
          values = w ∷ [];
          vals = w ∷ vals;
          weight = 2;
          less = held;
          f' = Give w;
          ck' = field_stack c w vals cj;
          others = call_stack c w vals cj;
          arguments = (value, tt);
          may = tt;
          path = step program context nodes world 1 1 (Eval (core.Label (core.Loop (turn_with c))) (w ∷ vals)) cj (Eval (core.Loop (turn_with c)) (w ∷ vals)) (core_machine.Labelled ∷ cj) refl (Give w) (field_stack c w vals cj) refl
              (step program context nodes world 1 0 (Eval (core.Loop (turn_with c)) (w ∷ vals)) (core_machine.Labelled ∷ cj) (Eval (turn_with c) (w ∷ vals)) (Looping (turn_with c) (w ∷ vals) ∷ core_machine.Labelled ∷ cj) refl (Give w) (field_stack c w vals cj) refl
              (step program context nodes world 0 0 (Eval (turn_with c) (w ∷ vals)) (Looping (turn_with c) (w ∷ vals) ∷ core_machine.Labelled ∷ cj) (Eval element_of (w ∷ vals)) (element_stack c w vals cj) refl (Give w) (field_stack c w vals cj) refl
              (step program context nodes world 0 0 (Eval element_of (w ∷ vals)) (element_stack c w vals cj) (Eval (next_of (core.Name 0)) (w ∷ vals)) (turn_stack c w vals cj) refl (Give w) (field_stack c w vals cj) refl
              (step program context nodes world 0 0 (Eval (next_of (core.Name 0)) (w ∷ vals)) (turn_stack c w vals cj) (Eval next_field (w ∷ vals)) (call_stack c w vals cj) refl (Give w) (field_stack c w vals cj) refl
              (step program context nodes world 0 0 (Eval next_field (w ∷ vals)) (call_stack c w vals cj) (Eval (core.Name 0) (w ∷ vals)) (field_stack c w vals cj) refl (Give w) (field_stack c w vals cj) refl
              (step program context nodes world 0 0 (Eval (core.Name 0) (w ∷ vals)) (field_stack c w vals cj) (Give w) (field_stack c w vals cj) refl (Give w) (field_stack c w vals cj) refl (There 0 (Give w) (field_stack c w vals cj))))))));
          acts = refl;
          level = refl;
          paid = omega arith;
          around = next_around x m p e env j c vals cj (turn_pattern x m p e env c vals d) r;
        }))
    takes_follow b l k ck (InTurn x m h p e env u j c z vals cj i d r) suits = by (meets.0)
      where
        meets : Meets (Constant part.Null) w × (Meets (Present? p) w × Unit {0})
        meets = suits w value

        hit : List Value → Act
        hit vs = Goes (weighing (1 + trying (Constant part.Null) v)) store (machine.Eval (source.Val (source.leaf (part.Flag false))) (extended vs env)) (Joining ∷ [])

        second : List Value → Act
        second vs = Goes (weighing (1 + trying (Constant part.Null) v + trying (Present? p) v)) store (machine.Eval (source.then e (source.Val source.true_value)) (extended vs env)) (Joining ∷ [])

        M : Act
        M = on_stack store (first_case store (1 + trying (Constant part.Null) v) v (ACase (Present? p) (source.then e (source.Val source.true_value)) NoCase) env) (Stepping p u e env ∷ j)

        found : AlikeFound known (matches (Constant part.Null) (shape_of v)) (matches (Constant part.Null) w)
        found = (patterns known (Constant part.Null) (shape_of v) w value).0

        left : (env' : Environment) → option_opened w ≡ Otherwise → A k 0 (Give w) ck (Goes (weighing (1 + trying (Constant part.Null) v)) store (machine.Eval (source.Val (source.leaf (part.Flag false))) env') (Joining ∷ Stepping p u e env ∷ j))
        left env' o =
            let t : Act = Goes (weighing (1 + trying (Constant part.Null) v)) store (machine.Eval (source.Val (source.leaf (part.Flag false))) env') (Joining ∷ Stepping p u e env ∷ j) in
            acts_ahead program context nodes (start (machine.Give v) k) held known world store k 1 0 (Give w) ck (Eval (break_with nothing) (z ∷ vals)) (Join ∷ element_stack c z vals cj) t
            (ap (matched program context nodes world (core.Name 0) (break_with nothing) (z ∷ vals) (element_stack c z vals cj)) o) refl
            (acts_ahead program context nodes (start (machine.Give v) k) held known world store k 0 (0 + 1) _ _ (Eval nothing (z ∷ vals)) (Arguments (Break 0) [] NoExp (z ∷ vals) ∷ Join ∷ element_stack c z vals cj) t refl refl
            (acts_ahead program context nodes (start (machine.Give v) k) held known world store k 0 (0 + 1 + 0) _ _ (Give shape.unit) (Arguments (Break 0) [] NoExp (z ∷ vals) ∷ Join ∷ element_stack c z vals cj) t refl refl
            (steps program context nodes 1 (start (machine.Give v) k) (0 + 1 + 0 + 0 + owed k) (2 * (1 + trying (Constant part.Null) v) + held) 0 held known world _ _ (Give shape.unit) cj store (machine.Eval (source.Val (source.leaf (part.Flag false))) env') (Joining ∷ Stepping p u e env ∷ j) refl refl (omega arith) worlds
            (AtLeft x m p e env u j cj (machine.Eval (source.Val (source.leaf (part.Flag false))) env') (Joining ∷ Stepping p u e env ∷ j) (Written 1 env') r))))

        nulls : option_opened w ≡ Otherwise → (o : Found Code) → AlikeFound known o (Some []) → A k 0 (Give w) ck (on_match o (λ vs. Goes (weighing (1 + trying (Constant part.Null) v)) store (machine.Eval (source.Val (source.leaf (part.Flag false))) (extended vs env)) (Joining ∷ Stepping p u e env ∷ j)) M)
        nulls o None a = absurd a
        nulls o (Some us) a = left (extended (values_list us) env) o

        nones : (o : Found Code) → AlikeFound known o None → A k 0 (Give w) ck M → A k 0 (Give w) ck (on_match o (λ vs. Goes (weighing (1 + trying (Constant part.Null) v)) store (machine.Eval (source.Val (source.leaf (part.Flag false))) (extended vs env)) (Joining ∷ Stepping p u e env ∷ j)) M)
        nones None a done = done
        nones (Some us) a done = absurd a

        -- there is an element
        Tried : Option (Shape Code) → Act
        Tried o =
            on_match (where_there (λ s. matches p s) o)
            (λ vs. Goes (weighing (1 + trying (Constant part.Null) v + (1 + weights.where_there (λ s. pattern_weight p s) (pattern_nodes p) o))) store (machine.Eval (source.then e (source.Val source.true_value)) (extended vs env)) (Joining ∷ Stepping p u e env ∷ j))
            (fails_to_match (1 + trying (Constant part.Null) v + (1 + weights.where_there (λ s. pattern_weight p s) (pattern_nodes p) o)))

        element : (a : core_value.Value) → option_opened w ≡ Inside a → Meets p a → (s : Shape Code) → Alike (Names known) s a → A k 0 (Give w) ck (Tried (Some s))
        element a o good s al =
            subst (λ y. A k 0 (Give w) ck (Tried (Some y))) (shape_value s)
            (let t : Act = Tried (Some (shape_of (value_of s))) in
            acts_ahead program context nodes (start (machine.Give v) k) held known world store k 1 0 (Give w) ck (Eval (core.Name 0) (a ∷ z ∷ vals)) (Join ∷ element_stack c z vals cj) t
            (ap (matched program context nodes world (core.Name 0) (break_with nothing) (z ∷ vals) (element_stack c z vals cj)) o) refl
            (acts_ahead program context nodes (start (machine.Give v) k) held known world store k 0 (0 + 1) _ _ (Give a) (Join ∷ element_stack c z vals cj) t refl refl
            (acts_ahead program context nodes (start (machine.Give v) k) held known world store k 0 (0 + 1 + 0) _ _ (Give a) (element_stack c z vals cj) t refl refl
            (pattern_lands program context nodes (start (machine.Give v) k) held known world store k worlds p e env c (z ∷ vals) x (with_own_label m) held (λ vs. machine.Eval (source.then e (source.Val source.true_value)) (extended vs env)) (Joining ∷ Stepping p u e env ∷ j)
            (Looping (turn_with c) (z ∷ vals) ∷ core_machine.Labelled ∷ cj) [] (value_of s) a 1 (1 + trying (Constant part.Null) v + (1 + trying p (value_of s))) (0 + 1 + 0 + 0) (Give a) (element_stack c z vals cj) d (value_belongs known s a al) good tt
            (λ vs env' js h code. AtBody x m p e env (extended vs env) u j c d.body z vals env' js cj h i d code r)
            refl (omega arith) (omega arith) (omega arith)))))

        present : (a : core_value.Value) → option_opened w ≡ Inside a → A k 0 (Give w) ck M
        present a o =
            let there : present_of w ≡ Some a = inside_is known w a o in
            let f : (s : Shape Code) × (present_of (shape_of v) ≡ Some s) × Alike (Names known) s a = present_both known v w a value there in
            let good : OpensTo constructor.Present w (Some a) (λ b. Meets p b) = subst (λ y. OpensTo constructor.Present w y (λ b. Meets p b)) there (meets.1.0) in
            subst (λ t. A k 0 (Give w) ck t) (sym (on_both (matches (Present? p) (shape_of v)) second (fails_to_match (1 + trying (Constant part.Null) v + trying (Present? p) v)) store (Stepping p u e env ∷ j)))
            (subst (λ y. A k 0 (Give w) ck (Tried y)) (sym (f.1)) (element a o (good.1) (f.0) (f.2)))

        by : Meets (Constant part.Null) w → A k 0 (Give w) ck (on_stack store (first_case store 1 v (turn_cases p e) env) (Stepping p u e env ∷ j))
        by (inl h) =
            subst (λ t. A k 0 (Give w) ck t) (sym (on_both (matches (Constant part.Null) (shape_of v)) hit _ store (Stepping p u e env ∷ j)))
            (nulls (h.0) (matches (Constant part.Null) (shape_of v)) (subst (λ o. AlikeFound known (matches (Constant part.Null) (shape_of v)) (where_true (is_literal part.Null o))) (h.1) found))
        by (inr h) =
            subst (λ t. A k 0 (Give w) ck t) (sym (on_both (matches (Constant part.Null) (shape_of v)) hit _ store (Stepping p u e env ∷ j)))
            (nones (matches (Constant part.Null) (shape_of v)) (subst (λ o. AlikeFound known (matches (Constant part.Null) (shape_of v)) (where_true (is_literal part.Null o))) (h.2) found) (present (h.0) (h.1)))
    takes_follow b l k ck (InBody x m h p e env inner u j c z vals js cj a i d r) suits =
        acts_behind program context nodes (start (machine.Give v) k) held known world store k 0 0 (Give w) ck (Give w) (Looping (turn_with c) (z ∷ vals) ∷ core_machine.Labelled ∷ cj) (Goes (weighing (1 + 1)) store (machine.Eval (source.Val source.true_value) inner) (Joining ∷ Joining ∷ Stepping p u e env ∷ j))
        (pop program context nodes world js w (Looping (turn_with c) (z ∷ vals) ∷ core_machine.Labelled ∷ cj) a)
        (steps program context nodes 1 (start (machine.Give v) k) (0 + 0 + owed k) (2 * 2 + held) 0 held known world _ _ (Eval (turn_with c) (z ∷ vals)) (Looping (turn_with c) (z ∷ vals) ∷ core_machine.Labelled ∷ cj) store (machine.Eval (source.Val source.true_value) inner) (Joining ∷ Joining ∷ Stepping p u e env ∷ j) refl refl (omega arith) worlds
        (AtTurned x m p e env u j c z vals cj (machine.Eval (source.Val source.true_value) inner) (Joining ∷ Joining ∷ Stepping p u e env ∷ j) (Written 2 inner) i d r))
    takes_follow b l k ck (InTry m h p e env j c vals cj d r) suits =
        steps program context nodes 1 (start (machine.Give v) k) (0 + owed k) (2 * 1 + held) 0 held known world (Give w) ck (Give w) cj store (machine.Give v) j refl refl (omega arith) worlds (AtValue true m v w j cj value r)
    takes_follow b l k ck (InUpdating x m h o e env j c vals cj d r) suits =
        acts_ahead program context nodes (start (machine.Give v) k) held known world store k 1 0 (Give w) ck (Eval (update_with o c) inner) cj (goes store (Ready action.Read (v ∷ [])) later) refl refl
        (acts_ahead program context nodes (start (machine.Give v) k) held known world store k 0 (0 + 1) _ cj (Eval (core.Name 0) inner) (Arguments write [] (one operates) inner ∷ cj) (goes store (Ready action.Read (v ∷ [])) later) refl refl
        (acts_ahead program context nodes (start (machine.Give v) k) held known world store k 0 (0 + 1 + 0) _ _ (Give w) (Arguments write [] (one operates) inner ∷ cj) (goes store (Ready action.Read (v ∷ [])) later) refl refl
        (acts_ahead program context nodes (start (machine.Give v) k) held known world store k 0 (0 + 1 + 0 + 0) _ _ (Eval operates inner) (Arguments write (w ∷ []) NoExp inner ∷ cj) (goes store (Ready action.Read (v ∷ [])) later) refl refl
        (acts_ahead program context nodes (start (machine.Give v) k) held known world store k 0 (0 + 1 + 0 + 0 + 0) _ _ (Eval reads inner) (Arguments (core.Operate (primitive.Operate o)) [] (one c) inner ∷ Arguments write (w ∷ []) NoExp inner ∷ cj) (goes store (Ready action.Read (v ∷ [])) later) refl refl
        (acts_ahead program context nodes (start (machine.Give v) k) held known world store k 0 (0 + 1 + 0 + 0 + 0 + 0) _ _ (Eval (core.Name 0) inner) (Arguments (core.Operate primitive.Read) [] NoExp inner ∷ others) (goes store (Ready action.Read (v ∷ [])) later) refl refl
        (steps program context nodes 0 (start (machine.Give v) k) (0 + 1 + 0 + 0 + 0 + 0 + 0 + owed k) (2 * 1 + held) 0 held known world _ _ (Give w) (Arguments (core.Operate primitive.Read) [] NoExp inner ∷ others) store (Ready action.Read (v ∷ [])) later refl refl (omega arith) worlds
        (AtAction action.Read (v ∷ []) later (Give w) (Arguments (core.Operate primitive.Read) [] NoExp inner ∷ others) (record {
          b = x;
          l = m;
          values = w ∷ [];
          vals = inner;
          weight = 0;
          less = held;
          f' = Give w;
          ck' = Arguments (core.Operate primitive.Read) [] NoExp inner ∷ others;
          others = others;
          arguments = (value, tt);
          may = tt;
          path = There 0 (Give w) (Arguments (core.Operate primitive.Read) [] NoExp inner ∷ others);
          acts = refl;
          level = refl;
          paid = omega arith;
          around = InOperands x m held (action.Operate o) [] (places.one e) env (Operands action.Write (v ∷ []) source.NoExp env ∷ j) [] (one c) inner (Arguments write (w ∷ []) NoExp inner ∷ cj) tt tt
              (record { places = code.places; code = (c, NoExp, code.code, refl, refl); names = code.names })
              (InOperands x m held action.Write (v ∷ []) source.NoExp env j (w ∷ []) NoExp inner cj tt (value, tt) (record { places = code.places; code = refl; names = code.names }) r);
        }))))))))
      where
        inner : List core_value.Value
        inner = w ∷ vals

        write : core.Goal
        write = core.Operate primitive.Write

        reads : core.Exp
        reads = core.Do (core.Operate primitive.Read) (one (core.Name 0))

        operates : core.Exp
        operates = core.Do (core.Operate (primitive.Operate o)) (AnExp reads (one c))

        others : List Frame
        others = Arguments (core.Operate (primitive.Operate o)) [] (one c) inner ∷ Arguments write (w ∷ []) NoExp inner ∷ cj

        later : Stack
        later = Operands (action.Operate o) [] (places.one e) env ∷ Operands action.Write (v ∷ []) source.NoExp env ∷ j

        code : Coded program.groups known context.globals x m e env c inner
        code = beside_code x m e env c vals w d
