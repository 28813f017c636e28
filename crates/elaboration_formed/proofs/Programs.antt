-- In a well-typed program each action has its operands.
use Rattle.std.proofs.Common.{◌≡◌, ℕ, zero, suc, ◌+◌, List, [], ◌∷◌, ◌++◌, length, map, Option, Some, None, refl, ap}
use Rattle.mo_types.specs.Graph.{Slot}
use Rattle.mo_types.specs.Sub.{Each}
use Rattle.typed_tree.specs.declared.expression.Function.{Function}
use Rattle.typed_tree.specs.declared.expression.Step.{Step}
use Rattle.typed_tree.specs.declared.program.Method.{Method}
use Rattle.typed_tree.specs.declared.program.StableVariable.{StableVariable}
use Rattle.typed_tree.specs.ActionTypes.{Context}
use Rattle.typed_tree.specs.Language.{Exp, Name}
use Rattle.typed_tree.specs.ProgramView.{with_context, optional_function, optional_name, functions_of, names_from}
use Rattle.typed_tree.specs.Typing.{with_names}
use Rattle.typed_tree.specs.View.{FunctionView, exps, group, block, declaration, function}
use Rattle.typed_tree.specs.WellTyped.{AllDeclare, IsPublic, IsSystem, around, behind}
use Rattle.elaboration.specs.Elaboration.{count_of}
use Rattle.elaboration_formed.specs.Arities.{Shaped, ShapedAll, ShapedFunctions}
use Rattle.elaboration_formed.specs.Programs.{TreesAreShaped, FunctionsAreShaped, ProgramsAreShaped}
use Rattle.elaboration_formed.proofs.Trees.{step_holds, function_holds, expression_holds}

pub trees_are_shaped : TreesAreShaped
trees_are_shaped types e c w h = (expression_holds types e c w h).0

pub functions_are_shaped : FunctionsAreShaped
functions_are_shaped types f c g h = function_holds types f c g h

-- ---- programs

abbrev BodyShaped : FunctionView → Type 0
BodyShaped f = Shaped f.body

each_append : (fs gs : List FunctionView) → Each BodyShaped fs → Each BodyShaped gs → Each BodyShaped (fs ++ gs)
each_append [] gs h i = i
each_append (f ∷ fs) gs h i = (h.0, each_append fs gs h.1 i)

group_shaped : (fs : List FunctionView) → Each BodyShaped fs → ShapedFunctions (group fs)
group_shaped [] h = tt
group_shaped (f ∷ fs) h = (h.0, group_shaped fs h.1)

names_shaped : (n k : ℕ) → ShapedAll (exps (names_from n k))
names_shaped n zero = tt
names_shaped n (suc k) = (tt, names_shaped (suc n) k)

optional_shaped : (n : ℕ) (o : Option Function) → Shaped (optional_name n o)
optional_shaped n None = tt
optional_shaped n (Some f) = (refl, tt, (tt, tt))

cells_shaped : (k : ℕ) (vs : List StableVariable) → ShapedAll (exps (map (λ v. Name (k + v.cell)) vs))
cells_shaped k [] = tt
cells_shaped k (v ∷ vs) = (tt, cells_shaped k vs)

cells_counted : (k : ℕ) (vs : List StableVariable) → count_of (exps (map (λ v. Name (k + v.cell)) vs)) ≡ length (map (λ (v : StableVariable). v.name) vs)
cells_counted k [] = refl
cells_counted k (v ∷ vs) = ap suc (cells_counted k vs)

module _ (types : List Slot) where
  declared_shaped : (ss : List Step) (c end : Context) → AllDeclare types c ss end → (b : Exp) → Shaped b → Shaped (block (map declaration ss) b)
  declared_shaped [] c end h b s = s
  declared_shaped (d ∷ ds) c end h b s = (step_holds types d c h.0 h.1 (block (map declaration ds) b)).0 (declared_shaped ds (with_names h.0 c) end h.2 b s)

  publics_shaped : (c : Context) (ms : List Method) → Each (IsPublic types c) ms → Each BodyShaped (map (λ m. with_context m.context (function m.function)) ms)
  publics_shaped c [] h = tt
  publics_shaped c (m ∷ ms) h = (function_holds types m.function c _ h.0.body.4, publics_shaped c ms h.1)

  system_shaped : (c : Context) (o : Option Function) → IsSystem types c o → Each BodyShaped (optional_function o)
  system_shaped c None h = tt
  system_shaped c (Some f) h = (function_holds types f c _ h.2, tt)

pub programs_are_shaped : ProgramsAreShaped
programs_are_shaped p w =
    declared_shaped p.types p.declarations (around p.types w.own w.methods p.stable) w.end w.declarations _ (
      group_shaped (functions_of p)
          (each_append (map (λ m. with_context m.context (function m.function)) p.methods) (optional_function p.before_upgrade ++ optional_function p.after_upgrade) (publics_shaped p.types (behind p w.end) p.methods w.public)
          (each_append (optional_function p.before_upgrade) (optional_function p.after_upgrade) (system_shaped p.types (behind p w.end) p.before_upgrade w.before_upgrade) (system_shaped p.types (behind p w.end) p.after_upgrade w.after_upgrade))),
      (
        tt,
        tt,
        (
          (tt, tt, names_shaped 0 (length p.methods)),
          (
            optional_shaped (length p.methods) p.before_upgrade,
            (
              optional_shaped (length p.methods + length (optional_function p.before_upgrade)) p.after_upgrade,
              ((cells_counted (length (functions_of p)) p.stable, tt, cells_shaped (length (functions_of p)) p.stable), tt),
            ),
          ),
        ),
      ),
    )
