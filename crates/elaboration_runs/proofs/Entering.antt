-- Methods are entered alike.
use Rattle.std.proofs.Common.{◌≡◌, ℕ, zero, suc, ◌+◌, ◌*◌, ◌≤◌, true, List, [], ◌∷◌, length, Option, Some, None, refl, sym, ap, ◌∙◌, subst, arith}
use Rattle.std.specs.Int.{div_ceil}
use Rattle.std.proofs.lemmas.Grind.{div_ceil_times}
use Rattle.std.specs.Prelude.{max, cond}
use Rattle.std.proofs.lemmas.Bool.{eq-eqb}
use Rattle.mo_values.specs.Costs.{weighing}
use Rattle.mo_values.specs.Shapes.{Bytes}
use Rattle.core_ir.specs.Values as core_value
use Rattle.core_ir.specs.Worlds.{World, Context}
use Rattle.core_ir.specs.Executions.{Go, Traps}
use Rattle.core_ir.specs.Expressions as core
use Rattle.core_ir.specs.Expressions.{Core}
use Rattle.core_ir.specs.CoreMachine.{Eval, begins, at, stuck, depth_of}
use Rattle.typed_tree.specs.Patterns.{Pats, Found, NoPat, APat, matches_all}
use Rattle.typed_tree.specs.PatternWeights.{weight_of_all}
use Rattle.typed_tree.specs.Language.{Functions, NoFunction, AFunction}
use Rattle.mo_meaning.specs.Matching.{pattern_failed}
use Rattle.mo_machine.specs.Values.{Value, Code, shapes_list, values_list}
use Rattle.mo_machine.specs.Acts.{Store, Stuck}
use Rattle.mo_machine.specs.Calls.{are_as_many, entered, entering, call_function}
use Rattle.mo_machine.specs.Configurations.{live_state}
use Rattle.mo_machine.specs.Environments.{Environment, extended, with_group}
use Rattle.mo_machine.specs.Frames as machine
use Rattle.mo_machine.specs.Frames.{Returning}
use Rattle.mo_machine.specs.Jumps.{on_stack}
use Rattle.elaboration.specs.Checks.{around_all, fails}
use Rattle.elaboration.specs.Elaboration.{number_of_parameters, on_parameters}
use Rattle.elaboration.specs.Meeting.{MeetEach}
use Rattle.elaboration.specs.Programs.{outside}
use Rattle.elaboration_values.specs.Belonging.{Known, EachBelongs}
use Rattle.elaboration_steps.specs.Stacks.{WorldBelongs, Here}
use Rattle.elaboration_steps.specs.Follows.{Begins}
use Rattle.elaboration_steps.specs.Running.{least, Runs}
use Rattle.elaboration_steps.proofs.Beginning as beginning
use Rattle.elaboration_steps.proofs.Running.{ways}
use Rattle.elaboration_steps.proofs.StateDepth.{comes_level, deep_within}
use Rattle.elaboration_steps.proofs.Values.{as_many}
use Rattle.elaboration_runs.specs.Entering.{Function, function_in, SameBody, paid, Entered, EntriesFollow}
use Rattle.elaboration_runs.proofs.Waiting.{leads, Ending, ending}

parameters_as : (ps : Pats) (vs : List Value) → length vs ≡ number_of_parameters ps → are_as_many ps vs ≡ true
parameters_as NoPat [] e = refl
parameters_as NoPat (v ∷ vs) e = absurd (let z : suc (length vs) ≡ 0 = e in let y : ⊥ = omega (arith, z) in y)
parameters_as (APat p ps) [] e = absurd (let z : 0 ≡ suc (number_of_parameters ps) = e in let y : ⊥ = omega (arith, z) in y)
parameters_as (APat p ps) (v ∷ vs) e = parameters_as ps vs (let z : suc (length vs) ≡ suc (number_of_parameters ps) = e in omega (arith, z))

abbrev function_or : Function → Option Function → Function
function_or d None = d
function_or d (Some f) = f

-- the function of the place is what is called
call_at : (store : Store) (group : Functions) (env : Environment) (vs : List Value) (fns : Functions) (n : ℕ) (f : Function) → function_in fns n ≡ Some f → are_as_many f.parameters vs ≡ true
    → call_function store group env fns n vs ≡ entered store group env (entering f.nodes f.parameters (shapes_list vs)) f.nodes f.body (matches_all f.parameters (shapes_list vs))
call_at store group env vs NoFunction n f there many = absurd (let z : None ≡ Some f = there in cc)
call_at store group env vs (AFunction how nodes ps body fns) zero f there many =
    let e : record { nodes = nodes; parameters = ps; body = body } ≡ f = ap (function_or f) there in
    subst (λ (g : Function). cond (are_as_many g.parameters vs) (entered store group env (entering g.nodes g.parameters (shapes_list vs)) g.nodes g.body (matches_all g.parameters (shapes_list vs))) Stuck
    ≡ entered store group env (entering f.nodes f.parameters (shapes_list vs)) f.nodes f.body (matches_all f.parameters (shapes_list vs))) (sym e)
    (ap (λ t. cond t (entered store group env (entering f.nodes f.parameters (shapes_list vs)) f.nodes f.body (matches_all f.parameters (shapes_list vs))) Stuck) many)
call_at store group env vs (AFunction how nodes ps body fns) (suc n) f there many = call_at store group env vs fns n f there many

module _ (program : Core) (context : Context) (known : List Known) (store : Store) (world : World) (caller : Bytes) (group : Functions) (which : ℕ) (env : Environment) (f : Function) (b : core.Body) (vs : List Value) (ws : List core_value.Value)
    (worlds : WorldBelongs program.groups known context.globals store world) (r : SameBody program context known group which env f b) (arguments : EachBelongs known vs ws) (many : length ws ≡ number_of_parameters f.parameters) (meets : MeetEach f.parameters ws) where
  abbrev body : core.Body
  body = record { parameters = number_of_parameters f.parameters; nodes = f.nodes; expression = around_all (on_parameters f.parameters (outside r.places)).checks fails r.code }

  abbrev P : ℕ
  P = paid program context known store world caller group which env f vs ws

  abbrev E : core.Body → Found Code → Type 0
  E = Entered program context known store world caller group which env f vs ws

  begun : Begins program context f.nodes world known (weight_of_all f.parameters (shapes_list vs)) ws body.expression f.body (with_group group env) (matches_all f.parameters (shapes_list vs))
  begun = beginning.begins program context f.nodes world known true r.places f.parameters f.body r.code (with_group group env) vs ws r.elaborates r.names arguments many meets

  called_is : call_function store group env group which vs ≡ entered store group env (entering f.nodes f.parameters (shapes_list vs)) f.nodes f.body (matches_all f.parameters (shapes_list vs))
  called_is = call_at store group env vs group which f r.there (parameters_as f.parameters vs (as_many known vs ws arguments ∙ many))

  by_match : (o : Found Code) → call_function store group env group which vs ≡ entered store group env (entering f.nodes f.parameters (shapes_list vs)) f.nodes f.body o
      → Begins program context f.nodes world known (weight_of_all f.parameters (shapes_list vs)) ws body.expression f.body (with_group group env) o → E body o
  by_match None is d =
      let u : Ending program context f.nodes world (weighing (1 + length pattern_failed)) P 0 [] (Eval body.expression ws) [] (d.0) (d.2) world (Traps pattern_failed) =
      ending program context f.nodes world (weighing (1 + length pattern_failed)) P 0 [] (Eval body.expression ws) [] (d.0) (d.1) (d.2) world (Traps pattern_failed) (d.3) (d.4) in (
        ap (λ a. on_stack store a []) is,
        record {
          steps = u.steps;
          weight' = u.weight';
          depth' = u.depth';
          prints' = u.prints';
          by = u.by;
          shown = u.shown;
          light = let z : u.weight' ≤ P + (d.0) + (1 + length pattern_failed) = u.heavy in let y : d.0 ≤ 2 * weight_of_all f.parameters (shapes_list vs) = d.5 in omega (arith, z, y);
          shallow =
              let z : u.depth' ≤ max 0 (max (16 + f.nodes + 0) (16 + f.nodes + depth_of (d.2) + 16 * 0)) = u.within in
              let y : 0 ≡ depth_of (d.2) = comes_level program context f.nodes world (d.0) (Eval body.expression ws) [] (d.1) (d.2) (d.3) in
              let up : f.nodes ≤ div_ceil f.nodes 16 * 16 = (div_ceil_times f.nodes 16 (omega arith)).0 in
              omega (arith, z, y, up);
        },
      )
  by_match (Some us) is d =
      let p = leads program context f.nodes world (d.0) (Eval body.expression ws) [] (d.1) (d.2) (d.3) in
      let u : Runs program context f.nodes (least (p.0)) (d.0) 0 [] P 0 [] world (Eval body.expression ws) [] world (d.1) (d.2) = ways program context f.nodes (p.0) (d.0) 0 [] world (Eval body.expression ws) [] world (d.1) (d.2) (p.1) P 0 [] in (
        ap (λ a. on_stack store a []) is,
        record {
          steps = u.steps;
          weight' = u.weight';
          depth' = u.depth';
          prints' = u.prints';
          f' = d.1;
          k' = d.2;
          by = u.by;
          together = record {
            prints_are = u.shown;
            light = let z : u.weight' ≤ P + (d.0) = u.heavy in let y : d.0 ≤ 2 * weight_of_all f.parameters (shapes_list vs) = d.4 in omega (arith, z, y);
            shallow =
                let z : u.depth' ≤ max 0 (max (16 + f.nodes + 0 + 16 * 0) (16 + f.nodes + depth_of (d.2))) = u.within in
                let y : 16 + f.nodes + depth_of (d.2) ≤ live_state (machine.Eval f.body (extended (values_list us) (with_group group env))) (Returning f.nodes ∷ []) = low in
                omega (arith, z, y);
            within = omega arith;
            deep = let y : 16 + f.nodes + depth_of (d.2) ≤ live_state (machine.Eval f.body (extended (values_list us) (with_group group env))) (Returning f.nodes ∷ []) = low in omega (arith, y);
            stands = Here store (machine.Eval f.body (extended (values_list us) (with_group group env))) (Returning f.nodes ∷ []) (d.1) (d.2) worlds (d.5);
          };
        },
      )
    where
      low : 16 + f.nodes + depth_of (d.2) ≤ live_state (machine.Eval f.body (extended (values_list us) (with_group group env))) (Returning f.nodes ∷ [])
      low = deep_within program context f.nodes world known 0 (machine.Eval f.body (extended (values_list us) (with_group group env))) (Returning f.nodes ∷ []) (d.1) (d.2) (live_state (machine.Eval f.body (extended (values_list us) (with_group group env))) (Returning f.nodes ∷ [])) (d.5) (omega arith) (omega arith)

  enters_alike : (begins program context world (2 + length caller) b ws ≡ Go (weighing P) [] world (at program context f.nodes (Eval b.expression ws) [])) × E b (matches_all f.parameters (shapes_list vs))
  enters_alike =
      subst (λ (b : core.Body). (begins program context world (2 + length caller) b ws ≡ Go (weighing P) [] world (at program context f.nodes (Eval b.expression ws) [])) × E b (matches_all f.parameters (shapes_list vs))) (sym r.is) (
        ap (λ t. cond t (Go (weighing (2 + length caller + (1 + f.nodes))) [] world (at program context f.nodes (Eval body.expression ws) [])) (stuck program context 0 world)) (eq-eqb (length ws) (number_of_parameters f.parameters) many),
        by_match (matches_all f.parameters (shapes_list vs)) called_is begun,
      )

pub entries : EntriesFollow
entries program context known store world caller group which env f b vs ws worlds r arguments many meets = enters_alike program context known store world caller group which env f b vs ws worlds r arguments many meets
