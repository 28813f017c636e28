-- The functions behind the declarations of a well-typed program: methods, and hooks of upgrades.
use Rattle.std.proofs.Common.{◌≡◌, suc, ◌≤◌, false, List, [], ◌∷◌, ◌++◌, length, map, Some, refl, ap, subst}
use Rattle.mo_types.specs.declared.node.Sort.TheVariants as sort
use Rattle.mo_types.specs.Sub.{Each}
use Rattle.mo_types.specs.Graph.{Slot}
use Rattle.typed_tree.specs.declared.expression.Function.{Function}
use Rattle.typed_tree.specs.declared.program.Method.{Method}
use Rattle.typed_tree.specs.ActionTypes.{Context}
use Rattle.typed_tree.specs.Patterns.{NoPat}
use Rattle.typed_tree.specs.ProgramView.{with_context}
use Rattle.typed_tree.specs.Substitution.{count}
use Rattle.typed_tree.specs.View.{FunctionView, group, function}
use Rattle.typed_tree.specs.Wants.{in_function}
use Rattle.typed_tree.specs.WellTyped.{IsPublic, IsSystem}
use Rattle.elaboration.specs.Checks.{check_all}
use Rattle.elaboration.specs.Scopes.{Place, labelled}
use Rattle.elaboration.specs.Programs.{firsts, outside}
use Rattle.elaboration_forms.specs.Elaborates.{Stands}
use Rattle.elaboration_runs.specs.Entering.{function_in}
use Rattle.elaboration_actors.specs.Starts.{MethodsStand}
use Rattle.elaboration_premises.specs.Scoped.{Seen, Written, WrittenFunctions}
use Rattle.elaboration_premises.proofs.Programs.{methods_stand}
use Rattle.elaboration_premises.proofs.Trees.{bound_seen, not_shared, function_holds}
use Rattle.elaboration_typed.proofs.Steps.{function_facts}

-- ---- functions of a group

pub count_group : (fs : List FunctionView) → count (group fs) ≡ length fs
count_group [] = refl
count_group (f ∷ fs) = ap suc (count_group fs)

pub behind_others : (fs gs : List FunctionView) (f : FunctionView) → function_in (group (fs ++ f ∷ gs)) (length fs) ≡ Some (record { nodes = f.nodes; parameters = f.parameters; body = f.body })
behind_others [] gs f = refl
behind_others (x ∷ fs) gs f = behind_others fs gs f

pub written_behind : (fs gs : List FunctionView) (f : FunctionView) → WrittenFunctions (group (fs ++ f ∷ gs)) → Written f.body
written_behind [] gs f h = h.0
written_behind (x ∷ fs) gs f h = written_behind fs gs f (h.1)

module _ (types : List Slot) (c : Context) (places : List Place) (seen : Seen (map in_function c.names) places) where
  abbrev view : Method → FunctionView
  view m = with_context m.context (function m.function)

  -- the methods stand first
  pub firsts_stand : (ms : List Method) (others : List FunctionView) → Each (IsPublic types c) ms → WrittenFunctions (group (map view ms ++ others)) → MethodsStand places (firsts (length ms) (group (map view ms ++ others)))
  firsts_stand [] others h i = tt
  firsts_stand (m ∷ ms) others h i = (methods_stand types c m (h.0) (i.0) (outside places) seen, firsts_stand ms others (h.1) (i.1))

  -- a hook has no parameters
  pub record HookFacts (f : FunctionView) : Type 0 where
    pub plain : f.parameters ≡ NoPat
    pub node : 1 ≤ f.nodes
    pub stands : Stands false (labelled (outside places)) f.body

  pub hook_facts : (f : Function) → IsSystem types c (Some f) → Written (function f).body → HookFacts (function f)
  hook_facts f h i =
      let r = function_holds types f c _ h.2 false (not_shared sort.Local false refl) i in
      let facts = function_facts types f c _ h.2 in
      let plain : (function f).parameters ≡ NoPat = facts.plain refl in
      record {
        plain = plain;
        node = facts.node;
        stands = r.2 (labelled (outside places)) (bound_seen r.0 (map in_function c.names) [] places (subst (λ ps. length (check_all ps 0 0).bound ≡ length r.0) plain (r.1 0 0)) seen);
      }
