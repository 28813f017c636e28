-- Calls of functions.
use Rattle.std.proofs.Common.{◌≡◌, ℕ, zero, suc, ◌+◌, ◌-◌, ◌*◌, ◌≤◌, Bool, true, false, List, [], ◌∷◌, ◌++◌, length, Option, Some, None, slice_get, refl, sym, ap, ap₂, ◌∙◌, subst, arith}
use Rattle.std.specs.Int.{div_ceil}
use Rattle.std.specs.Prelude.{cond, nat_eq}
use Rattle.std.proofs.lemmas.Grind.{div_ceil_times}
use Rattle.std.proofs.lemmas.Bool.{eq-eqb}
use Rattle.mo_values.specs.Alike.{AlikeEach}
use Rattle.mo_values.specs.Costs.{weighing}
use Rattle.mo_values.specs.Shapes.{Shape, Function}
use Rattle.core_ir.specs.Programs.{Group}
use Rattle.core_ir.specs.Values as core_value
use Rattle.core_ir.specs.Values.{Handle, members}
use Rattle.core_ir.specs.Choices.{on_some}
use Rattle.core_ir.specs.Worlds.{MadeGroup, World, Context}
use Rattle.core_ir.specs.Executions.{Go}
use Rattle.core_ir.specs.Gatherings.{Gathering}
use Rattle.core_ir.specs.Executions as execution
use Rattle.core_ir.specs.Expressions as core
use Rattle.core_ir.specs.Expressions.{Body, Core}
use Rattle.core_ir.specs.CoreMachine as core_machine
use Rattle.core_ir.specs.CoreMachine.{Frame, Caller, Focus, Eval, State, Did, focused, at, called, stuck, depth_of}
use Rattle.typed_tree.specs.declared.action.Member.{Member}
use Rattle.typed_tree.specs.Patterns.{Pats, Found, NoPat, APat, matches_all, all_of}
use Rattle.typed_tree.specs.PatternWeights.{pattern_weight, weight_of_all}
use Rattle.typed_tree.specs.Language.{Exp, Functions, NoFunction, AFunction}
use Rattle.typed_tree.specs.Substitution.{count}
use Rattle.mo_meaning.specs.Depth.{levels_of_body}
use Rattle.mo_meaning.specs.Matching.{pattern_failed}
use Rattle.mo_machine.specs.Configurations.{live_on}
use Rattle.mo_machine.specs.Values.{Value, Code, ClosureCode, BuiltInCode, shapes_list, values_list, Values}
use Rattle.mo_machine.specs.Environments.{Environment, extended, with_group}
use Rattle.mo_machine.specs.Acts.{Store, Act, Stuck}
use Rattle.mo_machine.specs.Frames as machine
use Rattle.mo_machine.specs.Frames.{Returning, Stack}
use Rattle.mo_machine.specs.Calls.{are_as_many, entered, entering, call_function}
use Rattle.mo_machine.specs.Jumps.{on_stack}
use Rattle.elaboration.specs.Scopes.{Scope, under, in_body}
use Rattle.elaboration.specs.Checks.{Checked, check_all, around_all, behind, fails}
use Rattle.elaboration.specs.Elaboration.{number_of_parameters, on_parameters}
use Rattle.elaboration.specs.Meeting.{MeetEach, Reads, Extends, Joins, Decides}
use Rattle.elaboration.proofs.Coming.{reads_new, reads_more, ReadDown, down_more}
use Rattle.elaboration.proofs.Checking.{decide_all}
use Rattle.elaboration_forms.specs.Elaborates.{unseen, Elaborates, ElaboratesFunctions, ElaboratesOne}
use Rattle.elaboration_values.specs.Belonging.{Known, OfFunctions, OfOne, OfMember, code_in, Names, EachBelongs, AlikeFound, EnvironmentBelongs}
use Rattle.elaboration_values.proofs.Belong.{patterns, names_extend}
use Rattle.elaboration_steps.specs.Stacks.{Labels, no_labels, scope, FunctionsBelong, OneBelongs, WorldBelongs, AtCode, Around, InFunction}
use Rattle.elaboration_steps.specs.Follows.{Start, owed, ParametersMeet, Acts, TrapsInBody}
use Rattle.elaboration_steps.proofs.Depth.{as_deep}
use Rattle.elaboration_steps.proofs.Groups.{with_members, as_many_bodies, group_names, behind_group}
use Rattle.elaboration_steps.proofs.Matching.{names_more, coded}
use Rattle.elaboration_steps.proofs.Paths.{nothing_more, does_then, stops_in}
use Rattle.elaboration_steps.proofs.Values.{as_many, values_belong}

-- ---- several patterns

module _ (known : List Known) where
  both_lists : (vs us : List (Shape Code)) (ws xs : List core_value.Value) → AlikeEach (Names known) vs ws → AlikeEach (Names known) us xs → AlikeEach (Names known) (vs ++ us) (ws ++ xs)
  both_lists [] us [] xs a b = b
  both_lists [] us (w ∷ ws) xs a b = absurd a
  both_lists (v ∷ vs) us [] xs a b = absurd a
  both_lists (v ∷ vs) us (w ∷ ws) xs a b = (a.0, both_lists vs us ws xs (a.1) b)

  both_found : (o r : Found Code) (p q : Found Handle) → AlikeFound known o p → AlikeFound known r q → AlikeFound known (all_of o r) (all_of p q)
  both_found None r None q a b = tt
  both_found None r (Some ws) q a b = absurd a
  both_found (Some vs) r None q a b = absurd a
  both_found (Some vs) None (Some ws) None a b = tt
  both_found (Some vs) None (Some ws) (Some xs) a b = absurd b
  both_found (Some vs) (Some us) (Some ws) None a b = absurd b
  both_found (Some vs) (Some us) (Some ws) (Some xs) a b = both_lists vs us ws xs a b

  pub all_alike : (ps : Pats) (vs : List (Shape Code)) (ws : List core_value.Value) → AlikeEach (Names known) vs ws → AlikeFound known (matches_all ps vs) (matches_all ps ws) × (weight_of_all ps vs ≡ weight_of_all ps ws)
  all_alike NoPat [] [] a = (tt, refl)
  all_alike NoPat [] (w ∷ ws) a = absurd a
  all_alike NoPat (v ∷ vs) [] a = absurd a
  all_alike NoPat (v ∷ vs) (w ∷ ws) a = (tt, refl)
  all_alike (APat p ps) [] [] a = (tt, refl)
  all_alike (APat p ps) [] (w ∷ ws) a = absurd a
  all_alike (APat p ps) (v ∷ vs) [] a = absurd a
  all_alike (APat p ps) (v ∷ vs) (w ∷ ws) a =
      let one : AlikeFound known _ _ × (pattern_weight p v ≡ pattern_weight p w) = patterns known p v w (a.0) in
      let others : AlikeFound known (matches_all ps vs) (matches_all ps ws) × (weight_of_all ps vs ≡ weight_of_all ps ws) = all_alike ps vs ws (a.1) in
      (both_found _ (matches_all ps vs) _ (matches_all ps ws) (one.0) (others.0), ap₂ (λ x y. x + y) (one.1) (others.1))

as_parameters : (ps : Pats) (vs : List Value) → are_as_many ps vs ≡ true → length vs ≡ number_of_parameters ps
as_parameters NoPat [] h = refl
as_parameters NoPat (v ∷ vs) h = absurd (let z : false ≡ true = h in cc)
as_parameters (APat p ps) [] h = absurd (let z : false ≡ true = h in cc)
as_parameters (APat p ps) (v ∷ vs) h = ap (λ n. suc n) (as_parameters ps vs h)

-- ---- arguments stand before other values

pub append_length : (ws rest : List core_value.Value) → length (ws ++ rest) ≡ length ws + length rest
append_length [] rest = omega arith
append_length (w ∷ ws) rest = let z : length (ws ++ rest) ≡ length ws + length rest = append_length ws rest in omega (arith, z)

more_before : (ws rest : List core_value.Value) → Extends rest (ws ++ rest)
more_before [] rest = λ level w r. r
more_before (u ∷ ws) rest = λ level w r. reads_more (ws ++ rest) u level w (more_before ws rest level w r)

pub read_arguments : (ws rest : List core_value.Value) (level : ℕ) → level ≡ length (ws ++ rest) - 1 → ReadDown (ws ++ rest) level ws
read_arguments [] rest level e = tt
read_arguments (w ∷ ws) rest level e =
    let z : level ≡ length (ws ++ rest) = e ∙ (let x : suc (length (ws ++ rest)) - 1 ≡ length (ws ++ rest) = omega arith in x) in (
      subst (λ n. Reads (w ∷ (ws ++ rest)) n w) (sym z) (reads_new (ws ++ rest) w),
      down_more (ws ++ rest) (w ∷ (ws ++ rest)) (reads_more (ws ++ rest) w) (level - 1) ws (read_arguments ws rest (level - 1) (ap (λ n. n - 1) z)),
    )

-- ---- the function of a place

module _ (table : List (Group Body)) (s : Scope) (T : Act → Type 0) (store : Store) (group : Functions) (env : Environment) (vs : List Value) (ws : List core_value.Value) (k : Stack) where
  function_at : (fns : Functions) (bodies : List Body) (n : ℕ) → T Stuck → ElaboratesFunctions table s fns bodies → ParametersMeet fns n ws
      → ((nodes : ℕ) (ps : Pats) (body : Exp) (y : core.Exp) → slice_get bodies n ≡ Some (record { parameters = number_of_parameters ps; nodes = nodes; expression = around_all (on_parameters ps s).checks fails y })
      → Elaborates table false (behind (on_parameters ps s) (in_body (number_of_parameters ps) s)) body y → MeetEach ps ws
      → T (on_stack store (cond (are_as_many ps vs) (entered store group env (entering nodes ps (shapes_list vs)) nodes body (matches_all ps (shapes_list vs))) Stuck) k))
      → T (on_stack store (call_function store group env fns n vs) k)
  function_at NoFunction bodies n none r meets f = none
  function_at (AFunction how nodes ps body fns) bodies zero none r meets f = f nodes ps body (r.0) (ap (λ l. slice_get l 0) (r.4)) (r.2) meets
  function_at (AFunction how nodes ps body fns) bodies (suc n) none r meets f =
      function_at fns (r.1) n none (r.3) meets (λ nodes2 ps2 body2 y at code m. f nodes2 ps2 body2 y (ap (λ l. slice_get l (suc n)) (r.4) ∙ at) code m)

  one_at : (fns : Functions) (n : ℕ) (b : Body) → T Stuck → ElaboratesOne table s fns n b → ParametersMeet fns n ws
      → ((nodes : ℕ) (ps : Pats) (body : Exp) (y : core.Exp) → b ≡ record { parameters = number_of_parameters ps; nodes = nodes; expression = around_all (on_parameters ps s).checks fails y }
      → Elaborates table false (behind (on_parameters ps s) (in_body (number_of_parameters ps) s)) body y → MeetEach ps ws
      → T (on_stack store (cond (are_as_many ps vs) (entered store group env (entering nodes ps (shapes_list vs)) nodes body (matches_all ps (shapes_list vs))) Stuck) k))
      → T (on_stack store (call_function store group env fns n vs) k)
  one_at NoFunction n b none r meets f = none
  one_at (AFunction how nodes ps body fns) zero b none r meets f = f nodes ps body (r.0) (r.2) (r.1) meets
  one_at (AFunction how nodes ps body fns) (suc n) b none r meets f = one_at fns n b none r meets f

module _ (program : Core) (context : Context) (nodes : ℕ) (before : Start) (held : ℕ) (known : List Known) (world : World) (store : Store) (k : Stack) (worlds : WorldBelongs program.groups known context.globals store world) (spent : ℕ) (cf : Focus) (ck : List Frame) where
  abbrev A : Act → Type 0
  A = Acts program context nodes before held known world store k spent cf ck

  -- where the arguments do not match, in the body
  abbrev T : Act → Type 0
  T a = (r : A a) × TrapsInBody program context nodes before held known world store k spent cf ck a r

  -- by what a call is done, at so much more in weight, and what its value is for
  module _ (vs : List Value) (ws : List core_value.Value) (arguments : EachBelongs known vs ws) (h : Handle) (less : ℕ) (how : Did → Did) (extra : ℕ) (gathering : Option Gathering) (others : List Frame)
      (around : (n : ℕ) (joins : List Frame) → Joins joins → Around program context nodes world known false no_labels less (Returning n ∷ k) (joins ++ (Caller n gathering ∷ others)))
      (weighs : (n : ℕ) (s : State) → how (Go (weighing (1 + n)) [] world s) ≡ Go (weighing (extra + (1 + n))) [] world s) (small : extra ≤ 1) (paid : spent + less ≤ held)
      (eq : focused program context nodes world cf ck ≡ how (called program context nodes world (Function h) ws gathering others)) (low : live_on k ≤ before.live) where
    -- the function is entered, and its parameters are looked at
    module _ (group : Functions) (env : Environment) (made : MadeGroup) (at_group : slice_get world.groups h.group ≡ Some made) (bodies : List Body) (there : slice_get program.groups made.code ≡ Some (record { sees = length made.seen; bodies = bodies }))
        (s : Scope) (same : s.names ≡ length (members h.group 0 (length bodies) ++ made.seen)) (around_names : EnvironmentBelongs known context.globals s.places (with_group group env) (members h.group 0 (length bodies) ++ made.seen)) where
      enters : (n : ℕ) (ps : Pats) (body : Exp) (y : core.Exp) → slice_get bodies h.member ≡ Some (record { parameters = number_of_parameters ps; nodes = n; expression = around_all (on_parameters ps s).checks fails y })
          → Elaborates program.groups false (behind (on_parameters ps s) (in_body (number_of_parameters ps) s)) body y → MeetEach ps ws
          → (m : Bool) → are_as_many ps vs ≡ m → T (on_stack store (cond m (entered store group env (entering n ps (shapes_list vs)) n body (matches_all ps (shapes_list vs))) Stuck) k)
      enters n ps body y at_body code meets false many = (tt, tt)
      enters n ps body y at_body code meets true many = go (matches_all ps (shapes_list vs)) (matches_all ps ws) (alike.0) (decide_all program context nodes world ps ws level names vals (Caller n gathering ∷ others) same_names (read_arguments ws rest level same_level) meets)
        where
          rest : List core_value.Value
          rest = members h.group 0 (length bodies) ++ made.seen

          vals : List core_value.Value
          vals = ws ++ rest

          level : ℕ
          level = number_of_parameters ps + s.names - 1

          names : ℕ
          names = number_of_parameters ps + s.names

          c' : Checked
          c' = on_parameters ps s

          arguments_are : length ws ≡ number_of_parameters ps
          arguments_are = sym (as_many known vs ws arguments) ∙ as_parameters ps vs many

          same_names : names ≡ length vals
          same_names =
              let x : length (ws ++ rest) ≡ length ws + length rest = append_length ws rest in
              let z : s.names ≡ length rest = same in
              let u : length ws ≡ number_of_parameters ps = arguments_are in
              omega (arith, x, z, u)

          same_level : level ≡ length vals - 1
          same_level = ap (λ n. n - 1) same_names

          alike : AlikeFound known (matches_all ps (shapes_list vs)) (matches_all ps ws) × (weight_of_all ps (shapes_list vs) ≡ weight_of_all ps ws)
          alike = all_alike known ps (shapes_list vs) ws arguments

          entry : Body → Did
          entry z = cond (nat_eq (length ws) z.parameters) (core_machine.go program context nodes (1 + z.nodes) world (Eval z.expression vals) (Caller z.nodes gathering ∷ others)) (stuck program context nodes world)

          begins : focused program context nodes world cf ck ≡ Go (weighing (extra + (1 + n))) [] world (at program context nodes (Eval (around_all c'.checks fails y) vals) (Caller n gathering ∷ others))
          begins =
              eq
              ∙ (ap how (ap (λ o. on_some (stuck program context nodes world) o (λ g. on_some (stuck program context nodes world) (slice_get program.groups g.code) (λ i. cond (nat_eq (length g.seen) i.sees) (core_machine.entered program context nodes world h.group ws g.seen gathering others i.bodies h.member) (stuck program context nodes world)))) at_group
              ∙ (ap (λ o. on_some (stuck program context nodes world) o (λ i. cond (nat_eq (length made.seen) i.sees) (core_machine.entered program context nodes world h.group ws made.seen gathering others i.bodies h.member) (stuck program context nodes world))) there
              ∙ (ap (λ t. cond t (core_machine.entered program context nodes world h.group ws made.seen gathering others bodies h.member) (stuck program context nodes world)) (eq-eqb (length made.seen) (length made.seen) refl)
              ∙ (ap (λ o. on_some (stuck program context nodes world) o entry) at_body
              ∙ ap (λ t. cond t (core_machine.go program context nodes (1 + n) world (Eval (around_all c'.checks fails y) vals) (Caller n gathering ∷ others)) (stuck program context nodes world)) (eq-eqb (length ws) (number_of_parameters ps) arguments_are)))))
              ∙ weighs n (at program context nodes (Eval (around_all c'.checks fails y) vals) (Caller n gathering ∷ others)))

          go : (o : Found Code) (o' : Found Handle) → AlikeFound known o o' → Decides program context nodes world o' (2 * weight_of_all ps ws) vals (Caller n gathering ∷ others) (check_all ps level names)
              → T (on_stack store (entered store group env (entering n ps (shapes_list vs)) n body o) k)
          go None None a d =
              let x : weight_of_all ps (shapes_list vs) ≡ weight_of_all ps ws = alike.1 in
              let z : 1 ≤ length pattern_failed = omega arith in
              let l : live_on (Returning n ∷ k) ≡ 16 + nodes + depth_of ((d.1) ++ (Caller n gathering ∷ others)) = as_deep program.groups known context.globals nodes false no_labels less (Returning n ∷ k) ((d.1) ++ (Caller n gathering ∷ others)) (around n (d.1) (d.4)) in
              let up : n ≤ div_ceil n 16 * 16 = (div_ceil_times n 16 (omega arith)).0 in
              stops_in program context nodes (2 * weight_of_all ps ws) before spent (2 * (entering n ps (shapes_list vs) + length pattern_failed) + held) (levels_of_body n) (weighing (extra + (1 + n))) (weighing (1 + length pattern_failed)) world cf ck _ _ (Eval fails (d.0)) ((d.1) ++ (Caller n gathering ∷ others)) (execution.Traps pattern_failed)
              begins (d.2 fails y) refl (omega (arith, x, z, paid, small)) refl refl (omega (arith, l, up, low))
          go None (Some xs) a d = absurd a
          go (Some us) None a d = absurd a
          go (Some us) (Some xs) a d =
              let x : weight_of_all ps (shapes_list vs) ≡ weight_of_all ps ws = alike.1 in (
                does_then program context nodes (2 * weight_of_all ps ws) before (spent + owed k) (2 * entering n ps (shapes_list vs) + held) 0 less (weighing (extra + (1 + n))) [] known known world world cf ck _ _ (Eval y (d.0)) ((d.1) ++ (Caller n gathering ∷ others)) store
                    (machine.Eval body (extended (values_list us) (with_group group env))) (Returning n ∷ k)
                    begins (d.2 fails y) (omega (arith, x, paid, small)) (omega arith) ([], nothing_more known) refl worlds
                    (AtCode false no_labels body (extended (values_list us) (with_group group env)) (Returning n ∷ k) y (d.0) ((d.1) ++ (Caller n gathering ∷ others))
                    (coded program context nodes known false (behind c' (in_body (number_of_parameters ps) s)) body (extended (values_list us) (with_group group env)) y (d.0) (d.3) code
                    (names_extend known context.globals s.places (with_group group env) vals (d.0) c'.bound (values_list us) xs
                    (names_more known context.globals s.places (with_group group env) rest vals
                    around_names
                    (more_before ws rest)) (d.5) (d.4) (values_belong known us xs a)))
                    (around n (d.1) (d.6))),
                tt,
              )

    other_code : (n : ℕ) (m : Member) (holds : Values) (group : Functions) (which : ℕ) (env : Environment) → code_in (Some (OfMember m holds)) n ≡ Some (ClosureCode group which env) → ⊥
    other_code zero m holds group which env z = let y : Some (BuiltInCode m holds) ≡ Some (ClosureCode group which env) = z in cc
    other_code (suc n) m holds group which env z = let y : None ≡ Some (ClosureCode group which env) = z in cc

    pub call_by_follows : (group : Functions) (which : ℕ) (env : Environment) → Names known (ClosureCode group which env) h → ParametersMeet group which ws → T (on_stack store (call_function store group env group which vs) k)
    call_by_follows group which env value meets = by (slice_get known h.group) refl value
      where
        by : (o : Option Known) → slice_get known h.group ≡ o → code_in o h.member ≡ Some (ClosureCode group which env) → T (on_stack store (call_function store group env group which vs) k)
        by None e z = absurd (let y : None ≡ Some (ClosureCode group which env) = z in cc)
        by (Some (OfFunctions fns env')) e z =
            let y : Some (ClosureCode fns h.member env') ≡ Some (ClosureCode group which env) = z in
            let a : fns ≡ group = cc in
            let b : h.member ≡ which = cc in
            let c : env' ≡ env = cc in
            found (subst (λ f. slice_get known h.group ≡ Some (OfFunctions f env)) a (subst (λ x. slice_get known h.group ≡ Some (OfFunctions fns x)) c e)) b
          where
            found : slice_get known h.group ≡ Some (OfFunctions group env) → h.member ≡ which → T (on_stack store (call_function store group env group which vs) k)
            found there same =
                let f : (m : MadeGroup) × (slice_get world.groups h.group ≡ Some m) × FunctionsBelong program.groups known context.globals group env m = worlds.groups.each h.group (OfFunctions group env) there in
                by_group (f.0) (f.1) (f.2)
              where
                by_group : (made : MadeGroup) → slice_get world.groups h.group ≡ Some made → (r : FunctionsBelong program.groups known context.globals group env made) → T (on_stack store (call_function store group env group which vs) k)
                by_group made at_group r =
                    let s : Scope = under (count group) (scope r.places r.labels made.seen) in
                    let bodies_are : length r.bodies ≡ count group = as_many_bodies program.groups s group r.bodies r.code in
                    let z : length (members h.group 0 (length r.bodies) ++ made.seen) ≡ length r.bodies + length made.seen = with_members h.group 0 (length r.bodies) made.seen in
                    function_at program.groups s T store group env vs ws k group r.bodies which (tt, tt) r.code meets
                    (λ n ps body y at code m. enters group env made at_group r.bodies r.there s (omega (arith, z, bodies_are))
                    (subst (λ i. EnvironmentBelongs known context.globals s.places (with_group group env) (members h.group 0 i ++ made.seen)) (sym bodies_are) (group_names known context.globals group env h.group there group 0 env r.places made.seen r.names)) n ps body y
                    (subst (λ i. slice_get r.bodies i ≡ Some (record { parameters = number_of_parameters ps; nodes = n; expression = around_all (on_parameters ps s).checks fails y })) (sym same) at) code m (are_as_many ps vs) refl)
        by (Some (OfOne fns i env')) e z = alone h.member refl z
          where
            alone : (n : ℕ) → h.member ≡ n → code_in (Some (OfOne fns i env')) n ≡ Some (ClosureCode group which env) → T (on_stack store (call_function store group env group which vs) k)
            alone (suc n) is z = absurd (let y : None ≡ Some (ClosureCode group which env) = z in cc)
            alone zero is z =
                let y : Some (ClosureCode fns i env') ≡ Some (ClosureCode group which env) = z in
                let a : fns ≡ group = cc in
                let b : i ≡ which = cc in
                let c : env' ≡ env = cc in
                found (subst (λ f. slice_get known h.group ≡ Some (OfOne f which env)) a (subst (λ j. slice_get known h.group ≡ Some (OfOne fns j env)) b (subst (λ x. slice_get known h.group ≡ Some (OfOne fns i x)) c e))) is
              where
                by_one : (made : MadeGroup) → slice_get world.groups h.group ≡ Some made → (r : OneBelongs program.groups known context.globals group which env made) → h.member ≡ 0 → T (on_stack store (call_function store group env group which vs) k)
                by_one made at_group r is =
                    let s : Scope = unseen (count group) (scope r.places r.labels made.seen) in
                    one_at program.groups s T store group env vs ws k group which r.body (tt, tt) r.code meets
                    (λ n ps body y at code m. enters group env made at_group (r.body ∷ []) r.there s (omega arith)
                    (behind_group known context.globals (members h.group 0 1 ++ made.seen) env group group 0 env r.places (names_more known context.globals r.places env made.seen (members h.group 0 1 ++ made.seen) r.names (more_before (members h.group 0 1) made.seen))) n ps body y
                    (subst (λ i. slice_get (r.body ∷ []) i ≡ Some (record { parameters = number_of_parameters ps; nodes = n; expression = around_all (on_parameters ps s).checks fails y })) (sym is) (ap (λ b. Some b) at)) code m (are_as_many ps vs) refl)

                found : slice_get known h.group ≡ Some (OfOne group which env) → h.member ≡ 0 → T (on_stack store (call_function store group env group which vs) k)
                found there is =
                    let f : (m : MadeGroup) × (slice_get world.groups h.group ≡ Some m) × OneBelongs program.groups known context.globals group which env m = worlds.groups.each h.group (OfOne group which env) there in
                    by_one (f.0) (f.1) (f.2) is
        by (Some (OfMember m holds)) e z = absurd (other_code h.member m holds group which env z)

  pub call_follows : (vs : List Value) (ws : List core_value.Value) → EachBelongs known vs ws → (h : Handle) (b : Bool) (l : Labels) (less : ℕ) (others : List Frame) → Around program context nodes world known b l less k others → spent + less ≤ held
      → focused program context nodes world cf ck ≡ called program context nodes world (Function h) ws None others
      → (group : Functions) (which : ℕ) (env : Environment) → live_on k ≤ before.live → Names known (ClosureCode group which env) h → ParametersMeet group which ws → A (on_stack store (call_function store group env group which vs) k)
  call_follows vs ws arguments h b l less others around paid eq group which env low value meets = (call_by_follows vs ws arguments h less (λ d. d) 0 None others (λ n joins i. InFunction n b l less k joins others i around)
      (λ n s. ap (λ i. Go (weighing i) [] world s) (let z : 1 + n ≡ 0 + (1 + n) = omega arith in z)) (omega arith) paid eq low group which env value meets).0
