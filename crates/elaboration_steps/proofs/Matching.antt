-- Patterns where values meet them.
use Rattle.std.proofs.Common.{◌≡◌, ℕ, suc, ◌+◌, ◌*◌, ◌≤◌, Bool, List, [], ◌∷◌, ◌++◌, length, Option, Some, None, refl, sym, ap, ◌∙◌, subst, arith}
use Rattle.mo_values.specs.Costs.{weighing}
use Rattle.mo_values.specs.Shapes.{Shape, unit}
use Rattle.core_ir.specs.Values as core_value
use Rattle.core_ir.specs.Values.{Handle}
use Rattle.core_ir.specs.Worlds.{World, Context}
use Rattle.core_ir.specs.Executions.{Go}
use Rattle.core_ir.specs.Executions as execution
use Rattle.core_ir.specs.Expressions as core
use Rattle.core_ir.specs.Expressions.{NoExp, Bind, Break, Core}
use Rattle.core_ir.specs.CoreMachine as core_machine
use Rattle.core_ir.specs.CoreMachine.{Frame, Arguments, Looping, Caller, Join, Focus, Eval, Give, focused, at, depth_of}
use Rattle.typed_tree.specs.Patterns.{Pat, Found, matches}
use Rattle.typed_tree.specs.PatternWeights.{pattern_weight}
use Rattle.typed_tree.specs.Language.{Exp, Cases, NoCase, ACase}
use Rattle.mo_meaning.specs.Matching.{pattern_failed}
use Rattle.mo_machine.specs.Values.{Value, Code, shape_of, values_list}
use Rattle.mo_machine.specs.Environments.{Environment, extended}
use Rattle.mo_machine.specs.Acts.{Store, Act, Goes}
use Rattle.mo_machine.specs.Frames as machine
use Rattle.mo_machine.specs.Frames.{Joining, Stack}
use Rattle.mo_machine.specs.Jumps.{on_stack}
use Rattle.mo_machine.specs.Matching.{on_match, fails_to_match, first_case, trying}
use Rattle.elaboration.specs.Scopes.{Place, Scope, nothing, one}
use Rattle.elaboration.specs.Checks.{Checked, Named, check, around_all, behind, fails}
use Rattle.elaboration.specs.Elaboration.{break_with}
use Rattle.elaboration.specs.Meeting.{Meets, Reads, Extends, Joins, Decides, allowed}
use Rattle.elaboration.proofs.Coming.{assoc, joins_both, reads_new, reads_more, pop}
use Rattle.elaboration.proofs.Checking.{weight_pos, decide}
use Rattle.elaboration_forms.specs.Elaborates.{Elaborates, ElaboratesCases}
use Rattle.elaboration_values.specs.Belonging.{Known, Belongs, AlikeFound, EnvironmentBelongs}
use Rattle.elaboration_values.proofs.Belong.{patterns, names_extend}
use Rattle.elaboration_steps.specs.Stacks.{Passed, Labels, labels_of, with_own_label, scope, Coded, CodedPattern, WorldBelongs, StateBelongs, AtCode, Around, InBranch, InCase}
use Rattle.elaboration_steps.specs.Follows.{Start, owed, CasesMeet, Acts}
use Rattle.elaboration_steps.proofs.Values.{values_belong}
use Rattle.elaboration_steps.proofs.Levels.{joins_level}
use Rattle.elaboration_steps.proofs.Paths.{nothing_more, steps, stops, does_then, stops_then, acts_ahead, acts_behind}

pub one_more : (n : ℕ) → 1 + n ≡ suc n
one_more n = omega arith

-- a reduction at the top of a stack
pub on_both : (o : Option (List (Shape Code))) (hit : List Value → Act) (miss : Act) (store : Store) (k : Stack) → on_stack store (on_match o hit miss) k ≡ on_match o (λ vs. on_stack store (hit vs) k) (on_stack store miss k)
on_both None hit miss store k = refl
on_both (Some vs) hit miss store k = refl

pub joins_pass : (js : List Frame) (f : Frame) → Joins js → Passed (f ∷ []) → Passed (js ++ f ∷ [])
joins_pass [] f h p = p
joins_pass (Join ∷ js) f h p = joins_pass js f h p
joins_pass (Arguments g d r e ∷ js) f h p = absurd h
joins_pass (Looping b e ∷ js) f h p = absurd h
joins_pass (core_machine.Labelled ∷ js) f h p = absurd h
joins_pass (core_machine.Trying b e ∷ js) f h p = absurd h
joins_pass (Caller n g ∷ js) f h p = absurd h

-- names that there were
pub names_more : (known : List Known) (globals : List core_value.Value) (places : List Place) (env : Environment) (vals vals' : List core_value.Value) → EnvironmentBelongs known globals places env vals → Extends vals vals' → EnvironmentBelongs known globals places env vals'
names_more known globals places env vals vals' h x = names_extend known globals places env vals vals' [] [] [] h x tt tt

module _ (program : Core) (context : Context) (nodes : ℕ) where
  -- code in a scope with as many names as there are values
  pub coded : (known : List Known) (b : Bool) (s : Scope) (e : Exp) (env : Environment) (c : core.Exp) (vals : List core_value.Value) → s.names ≡ length vals → Elaborates program.groups b s e c
      → EnvironmentBelongs known context.globals s.places env vals → Coded program.groups known context.globals b (labels_of s) e env c vals
  coded known b s e env c vals eq code names = record { places = s.places; code = subst (λ n. Elaborates program.groups b (record s { names = n }) e c) eq code; names = names }

  module _ (before : Start) (held : ℕ) (known : List Known) (world : World) (store : Store) (k0 : Stack) (worlds : WorldBelongs program.groups known context.globals store world) where
    abbrev A : ℕ → Focus → List Frame → Act → Type 0
    A = Acts program context nodes before held known world store k0

    some_text : 1 ≤ length pattern_failed
    some_text = omega arith

    -- the trap of a value that nothing matches
    pub fails_follow : (spent n : ℕ) (env : List core_value.Value) (ck : List Frame) → spent ≤ 2 * n + held → A spent (Eval fails env) ck (fails_to_match n)
    fails_follow spent n env ck le =
        let z : 1 ≤ length pattern_failed = some_text in
        stops program context nodes before spent (2 * (n + length pattern_failed) + held) 0 (weighing (1 + length pattern_failed)) world (Eval fails env) ck (execution.Traps pattern_failed) refl (omega (arith, le, z)) (omega arith)

    -- one pattern: Core comes to its checks by a step, and behind them to a state that belongs to the next one
    pub pattern_lands : (p : Pat) (e : Exp) (env : Environment) (c : core.Exp) (vals : List core_value.Value) (b : Bool) (l : Labels) (less : ℕ) (next : List Value → machine.Focus) (k : Stack) (ck joins : List Frame) (v : Value) (w : core_value.Value) (m n spent : ℕ) (cf0 : Focus) (ck0 : List Frame)
        → (code : CodedPattern program.groups known context.globals b l p e env c vals) → Belongs known v w → Meets p w → Joins joins
        → ((vs : List Value) (env' : List core_value.Value) (js : List Frame) → Joins js → Coded program.groups known context.globals b l e (extended vs env) code.body env' → StateBelongs program context nodes world known less (next vs) k (Eval code.body env') (js ++ ck))
        → focused program context nodes world cf0 ck0 ≡ Go (weighing m) [] world (at program context nodes (Eval c (w ∷ vals)) (joins ++ ck))
        → spent + m + 2 * trying p v + less + owed k0 ≤ 2 * n + held + owed k + 1 → spent + m + 2 * trying p v ≤ 2 * n + held + 1 → depth_of ck ≤ depth_of ck0
        → A spent cf0 ck0 (on_match (matches p (shape_of v)) (λ vs. Goes (weighing n) store (next vs) k) (fails_to_match n))
    pattern_lands p e env c vals b l less next k ck joins v w m n spent cf0 ck0 code value meets js lands eq le lt low =
        go (matches p (shape_of v)) (matches p w) (both.0) (decide program context nodes world p (Named (length vals)) (w ∷ vals) w (joins ++ ck) (reads_new vals w) meets)
      where
        c' : Checked
        c' = check p (Named (length vals)) (suc (length vals))

        both : AlikeFound known (matches p (shape_of v)) (matches p w) × (pattern_weight p (shape_of v) ≡ pattern_weight p w)
        both = patterns known p (shape_of v) w value

        tried : ℕ
        tried = allowed (Named (length vals)) p w

        tries : tried + 1 ≡ 2 * trying p v
        tries = let x : pattern_weight p (shape_of v) ≡ pattern_weight p w = both.1 in let y : 1 ≤ pattern_weight p w = weight_pos p w in omega (arith, x, y)

        begins : focused program context nodes world cf0 ck0 ≡ Go (weighing m) [] world (at program context nodes (Eval (around_all c'.checks fails code.body) (w ∷ vals)) (joins ++ ck))
        begins = eq ∙ ap (λ x. Go (weighing m) [] world (at program context nodes (Eval x (w ∷ vals)) (joins ++ ck))) code.is

        go : (o : Found Code) (o' : Found Handle) → AlikeFound known o o' → Decides program context nodes world o' tried (w ∷ vals) (joins ++ ck) c'
            → A spent cf0 ck0 (on_match o (λ vs. Goes (weighing n) store (next vs) k) (fails_to_match n))
        go None None a d =
            let z : 1 ≤ length pattern_failed = some_text in
            let y : tried + 1 ≡ 2 * trying p v = tries in
            stops_then program context nodes tried before spent (2 * (n + length pattern_failed) + held) 0 (weighing m) (weighing (1 + length pattern_failed)) world cf0 ck0 _ (joins ++ ck) (Eval fails (d.0)) ((d.1) ++ (joins ++ ck)) (execution.Traps pattern_failed)
            begins (d.2 fails code.body) refl (omega (arith, lt, z, y)) (omega arith) (omega arith)
            (let a : depth_of ((d.1) ++ (joins ++ ck)) ≡ depth_of (joins ++ ck) = joins_level (d.1) (joins ++ ck) (d.4) in let b : depth_of (joins ++ ck) ≡ depth_of ck = joins_level joins ck js in omega (arith, a, b, low))
        go None (Some ws) a d = absurd a
        go (Some vs) None a d = absurd a
        go (Some vs) (Some ws) a d =
            let y : tried + 1 ≡ 2 * trying p v = tries in
            does_then program context nodes tried before (spent + owed k0) (2 * n + held) 0 less (weighing m) [] known known world world cf0 ck0 _ (joins ++ ck) (Eval code.body (d.0)) ((d.1) ++ (joins ++ ck)) store (next (values_list vs)) k
            begins (d.2 fails code.body) (omega (arith, le, y)) (omega arith) ([], nothing_more known) refl worlds
            (subst (λ s. StateBelongs program context nodes world known less (next (values_list vs)) k (Eval code.body (d.0)) s) (assoc (d.1) joins ck)
            (lands (values_list vs) (d.0) ((d.1) ++ joins) (joins_both (d.1) joins (d.6) js)
            (coded known b (behind c' (scope code.places l vals)) e (extended (values_list vs) env) code.body (d.0) (d.3) code.code
            (names_extend known context.globals code.places env vals (d.0) c'.bound (values_list vs) ws code.names (λ level u r. d.5 level u (reads_more vals w level u r)) (d.4) (values_belong known vs ws a)))))

    pub pattern_follows : (p : Pat) (e : Exp) (env : Environment) (c : core.Exp) (vals : List core_value.Value) (b : Bool) (l : Labels) (less : ℕ) (k : Stack) (ck joins : List Frame) (v : Value) (w : core_value.Value) (m n spent : ℕ) (cf0 : Focus) (ck0 : List Frame)
        → CodedPattern program.groups known context.globals b l p e env c vals → Belongs known v w → Meets p w → Joins joins → Around program context nodes world known b l less k ck
        → focused program context nodes world cf0 ck0 ≡ Go (weighing m) [] world (at program context nodes (Eval c (w ∷ vals)) (joins ++ ck))
        → spent + m + 2 * trying p v + less + owed k0 ≤ 2 * n + held + owed k + 1 → spent + m + 2 * trying p v ≤ 2 * n + held + 1 → depth_of ck ≤ depth_of ck0
        → A spent cf0 ck0 (on_match (matches p (shape_of v)) (λ vs. Goes (weighing n) store (machine.Eval e (extended vs env)) (Joining ∷ k)) (fails_to_match n))
    pattern_follows p e env c vals b l less k ck joins v w m n spent cf0 ck0 code value meets js around eq le lt low =
        pattern_lands p e env c vals b l less (λ vs. machine.Eval e (extended vs env)) (Joining ∷ k) ck joins v w m n spent cf0 ck0 code value meets js
        (λ vs env' js h r. AtCode b l e (extended vs env) (Joining ∷ k) code.body env' (js ++ ck) r (InBranch b l less k js ck h around)) eq le lt low

    -- the cases of a switch, from the first that is left
    pub cases_follow : (cases : Cases) (places : List Place) (env : Environment) (c : core.Exp) (vals : List core_value.Value) (level : ℕ) (b : Bool) (l : Labels) (less : ℕ) (k : Stack) (ck : List Frame) (v : Value) (w : core_value.Value) (n spent : ℕ)
        → ElaboratesCases program.groups b level (scope places (with_own_label l) vals) cases c → EnvironmentBelongs known context.globals places env vals → Reads vals level w → Belongs known v w → CasesMeet cases w
        → Around program context nodes world known b l less k ck → spent + less + owed k0 ≤ 2 * n + held + owed k → spent ≤ 2 * n + held
        → A spent (Eval c vals) (core_machine.Labelled ∷ ck) (on_stack store (first_case store n v cases env) k)
    cases_follow NoCase places env c vals level b l less k ck v w n spent code names reads value meets around le lt =
        subst (λ x. A spent (Eval x vals) (core_machine.Labelled ∷ ck) (fails_to_match n)) (sym code) (fails_follow spent n vals (core_machine.Labelled ∷ ck) lt)
    cases_follow (ACase p e cases) places env c vals level b l less k ck v w n spent code names reads value meets around le lt =
        subst (λ x. A spent (Eval x vals) (core_machine.Labelled ∷ ck) (on_stack store (first_case store n v (ACase p e cases) env) k)) (sym (code.4))
        (subst (λ x. A spent (Eval (core.Do (Bind z) (one (around_all c'.checks nothing (break_with y)))) vals) (core_machine.Labelled ∷ ck) x) (sym (on_both (matches p (shape_of v)) hit miss store k))
        (acts_ahead program context nodes before held known world store k0 0 spent _ (core_machine.Labelled ∷ ck) (Eval (around_all c'.checks nothing (break_with y)) vals) stack _ refl refl
        (go
        (λ u s le2 lt2. cases_follow cases places env (code.1) (u ∷ vals) level b l less k ck v w (n + trying p v) s
        (subst (λ i. ElaboratesCases program.groups b level (record (scope places (with_own_label l) vals) { names = i }) cases (code.1)) (one_more (length vals)) (code.3))
        (names_more known context.globals places env vals (u ∷ vals) names (reads_more vals u)) (reads_more vals u level w reads) value (meets.1) around le2 lt2)
        (matches p (shape_of v)) (matches p w) (both.0) (decide program context nodes world p (Named level) vals w stack reads (meets.0)))))
      where
        c' : Checked
        c' = check p (Named level) (length vals)

        y : core.Exp
        y = code.0

        z : core.Exp
        z = code.1

        stack : List Frame
        stack = Arguments (Bind z) [] NoExp vals ∷ core_machine.Labelled ∷ ck

        both : AlikeFound known (matches p (shape_of v)) (matches p w) × (pattern_weight p (shape_of v) ≡ pattern_weight p w)
        both = patterns known p (shape_of v) w value

        tried : ℕ
        tried = allowed (Named level) p w

        tries : tried + 1 ≡ 2 * trying p v
        tries = let x : pattern_weight p (shape_of v) ≡ pattern_weight p w = both.1 in let y : 1 ≤ pattern_weight p w = weight_pos p w in omega (arith, x, y)

        hit : List Value → Act
        hit vs = Goes (weighing (n + trying p v)) store (machine.Eval e (extended vs env)) (Joining ∷ [])

        miss : Act
        miss = first_case store (n + trying p v) v cases env

        go : ((u : core_value.Value) (s : ℕ) → s + less + owed k0 ≤ 2 * (n + trying p v) + held + owed k → s ≤ 2 * (n + trying p v) + held → A s (Eval z (u ∷ vals)) (core_machine.Labelled ∷ ck) (on_stack store miss k))
            → (o : Found Code) (o' : Found Handle) → AlikeFound known o o' → Decides program context nodes world o' tried vals stack c'
            → A (spent + 0) (Eval (around_all c'.checks nothing (break_with y)) vals) stack (on_match o (λ vs. on_stack store (hit vs) k) (on_stack store miss k))
        go rest None None a d =
            let t : tried + 1 ≡ 2 * trying p v = tries in
            acts_behind program context nodes before held known world store k0 tried (spent + 0) _ stack (Eval nothing (d.0)) ((d.1) ++ stack) (on_stack store miss k) (d.2 nothing (break_with y))
            (acts_ahead program context nodes before held known world store k0 0 (spent + 0 + tried) _ ((d.1) ++ stack) (Give unit) ((d.1) ++ stack) (on_stack store miss k) refl refl
            (acts_behind program context nodes before held known world store k0 0 (spent + 0 + tried + 0) _ ((d.1) ++ stack) (Give unit) stack (on_stack store miss k) (pop program context nodes world (d.1) unit stack (d.4))
            (acts_ahead program context nodes before held known world store k0 1 (spent + 0 + tried + 0 + 0) _ stack (Eval z (unit ∷ vals)) (core_machine.Labelled ∷ ck) (on_stack store miss k) refl refl
            (rest unit (spent + 0 + tried + 0 + 0 + 1) (omega (arith, le, t)) (omega (arith, lt, t))))))
        go rest None (Some ws) a d = absurd a
        go rest (Some vs) None a d = absurd a
        go rest (Some vs) (Some ws) a d =
            let t : tried + 1 ≡ 2 * trying p v = tries in
            acts_behind program context nodes before held known world store k0 tried (spent + 0) _ stack (Eval (break_with y) (d.0)) ((d.1) ++ stack) (Goes (weighing (n + trying p v)) store (machine.Eval e (extended (values_list vs) env)) (Joining ∷ k)) (d.2 nothing (break_with y))
            (steps program context nodes 0 before (spent + 0 + tried + owed k0) (2 * (n + trying p v) + held) 0 (suc less) known world _ ((d.1) ++ stack) (Eval y (d.0)) (Arguments (Break 0) [] NoExp (d.0) ∷ ((d.1) ++ stack)) store (machine.Eval e (extended (values_list vs) env)) (Joining ∷ k) refl refl
            (omega (arith, le, t)) worlds
            (AtCode b (with_own_label l) e (extended (values_list vs) env) (Joining ∷ k) y (d.0) (Arguments (Break 0) [] NoExp (d.0) ∷ ((d.1) ++ stack))
            (coded known b (behind c' (scope places (with_own_label l) vals)) e (extended (values_list vs) env) y (d.0) (d.3) (code.2)
            (names_extend known context.globals places env vals (d.0) c'.bound (values_list vs) ws names (d.5) (d.4) (values_belong known vs ws a)))
            (subst (λ s. Around program context nodes world known b (with_own_label l) (suc less) (Joining ∷ k) (Arguments (Break 0) [] NoExp (d.0) ∷ s)) (assoc (d.1) (Arguments (Bind z) [] NoExp vals ∷ []) (core_machine.Labelled ∷ ck))
            (InCase b l (suc less) less k (d.0) ((d.1) ++ Arguments (Bind z) [] NoExp vals ∷ []) ck (joins_pass (d.1) (Arguments (Bind z) [] NoExp vals) (d.6) tt) (omega arith) around))))
