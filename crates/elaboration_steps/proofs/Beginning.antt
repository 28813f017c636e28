-- Where a body outside all functions begins.
use Rattle.std.proofs.Common.{◌≡◌, ℕ, ◌+◌, ◌-◌, ◌*◌, Bool, List, [], ◌∷◌, ◌++◌, length, Some, None, refl, sym, ap, ◌∙◌, subst, arith}
use Rattle.core_ir.specs.Values as core_value
use Rattle.core_ir.specs.Values.{Handle}
use Rattle.core_ir.specs.Worlds.{World, Context}
use Rattle.core_ir.specs.Expressions as core
use Rattle.core_ir.specs.Expressions.{Core}
use Rattle.core_ir.specs.CoreMachine.{Eval}
use Rattle.typed_tree.specs.Patterns.{Pats, Found, matches_all}
use Rattle.typed_tree.specs.PatternWeights.{weight_of_all}
use Rattle.typed_tree.specs.Language.{Exp}
use Rattle.mo_machine.specs.Values.{Value, Code, shapes_list, values_list}
use Rattle.mo_machine.specs.Environments.{Environment, extended}
use Rattle.mo_machine.specs.Frames.{Returning}
use Rattle.elaboration.specs.Scopes.{Place, in_body}
use Rattle.elaboration.specs.Checks.{around_all, behind, fails}
use Rattle.elaboration.specs.Elaboration.{number_of_parameters, on_parameters}
use Rattle.elaboration.specs.Meeting.{MeetEach, Extends, Decides}
use Rattle.elaboration.specs.Programs.{outside}
use Rattle.elaboration.proofs.Coming.{ReadDown}
use Rattle.elaboration.proofs.Checking.{decide_all}
use Rattle.elaboration_forms.specs.Elaborates.{Elaborates}
use Rattle.elaboration_values.specs.Belonging.{Known, EachBelongs, AlikeFound, EnvironmentBelongs}
use Rattle.elaboration_values.proofs.Belong.{names_extend}
use Rattle.elaboration_steps.specs.Stacks.{no_labels, AtCode, Bottom}
use Rattle.elaboration_steps.specs.Follows.{Begins}
use Rattle.elaboration_steps.proofs.Entering.{all_alike, read_arguments}
use Rattle.elaboration_steps.proofs.Matching.{names_more, coded}
use Rattle.elaboration_steps.proofs.Paths.{nothing_more}
use Rattle.elaboration_steps.proofs.Values.{values_belong}

module _ (program : Core) (context : Context) (nodes : ℕ) (world : World) (known : List Known) (b : Bool) (places : List Place) (ps : Pats) (body : Exp) (y : core.Exp) (env : Environment) (vs : List Value) (ws : List core_value.Value)
    (code : Elaborates program.groups b (behind (on_parameters ps (outside places)) (in_body (number_of_parameters ps) (outside places))) body y) (names : EnvironmentBelongs known context.globals places env [])
    (arguments : EachBelongs known vs ws) (many : length ws ≡ number_of_parameters ps) (meets : MeetEach ps ws) where
  same_names : number_of_parameters ps + 0 ≡ length ws
  same_names = omega (arith, many)

  reads : ReadDown ws (number_of_parameters ps + 0 - 1) ws
  reads =
      subst (λ env. ReadDown env (number_of_parameters ps + 0 - 1) ws) (sym (nothing_more ws))
      (read_arguments ws [] (number_of_parameters ps + 0 - 1) (ap (λ n. n - 1) (same_names ∙ ap length (nothing_more ws))))

  from_nothing : Extends [] ws
  from_nothing = λ level w r. absurd (let z : None ≡ Some w = r.1 in cc)

  go : (o : Found Code) (o' : Found Handle) → AlikeFound known o o' → weight_of_all ps (shapes_list vs) ≡ weight_of_all ps ws → Decides program context nodes world o' (2 * weight_of_all ps ws) ws [] (on_parameters ps (outside places))
      → Begins program context nodes world known (weight_of_all ps (shapes_list vs)) ws (around_all (on_parameters ps (outside places)).checks fails y) body env o
  go None None a same d = (2 * weight_of_all ps ws, Eval fails (d.0), (d.1) ++ [], d.2 fails y, refl, (let z : weight_of_all ps (shapes_list vs) ≡ weight_of_all ps ws = same in omega (arith, z)))
  go None (Some xs) a same d = absurd a
  go (Some us) None a same d = absurd a
  go (Some us) (Some xs) a same d = (
    2 * weight_of_all ps ws,
    Eval y (d.0),
    (d.1) ++ [],
    d.2 fails y,
    (let z : weight_of_all ps (shapes_list vs) ≡ weight_of_all ps ws = same in omega (arith, z)),
    AtCode b no_labels body (extended (values_list us) env) (Returning nodes ∷ []) y (d.0) ((d.1) ++ [])
        (coded program context nodes known b (behind (on_parameters ps (outside places)) (in_body (number_of_parameters ps) (outside places))) body (extended (values_list us) env) y (d.0) (d.3) code
        (names_extend known context.globals places env ws (d.0) (on_parameters ps (outside places)).bound (values_list us) xs (names_more known context.globals places env [] ws names from_nothing) (d.5) (d.4) (values_belong known us xs a)))
        (Bottom b 0 (d.1) (d.6)),
  )

  pub begins : Begins program context nodes world known (weight_of_all ps (shapes_list vs)) ws (around_all (on_parameters ps (outside places)).checks fails y) body env (matches_all ps (shapes_list vs))
  begins =
      let alike : AlikeFound known (matches_all ps (shapes_list vs)) (matches_all ps ws) × (weight_of_all ps (shapes_list vs) ≡ weight_of_all ps ws) = all_alike known ps (shapes_list vs) ws arguments in
      go (matches_all ps (shapes_list vs)) (matches_all ps ws) (alike.0) (alike.1) (decide_all program context nodes world ps ws (number_of_parameters ps + 0 - 1) (number_of_parameters ps + 0) ws [] same_names reads meets)
