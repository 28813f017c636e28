-- The nodes of the declarations of a program, without the parameters and bodies of functions.
use Rattle.std.proofs.Common.{◌≡◌, ℕ, suc, ◌*◌, true, false, List, [], ◌∷◌, length, map, refl, ap, ◌∙◌, arith}
use Rattle.mo_types.specs.declared.node.TypeId.{TypeId}
use Rattle.typed_tree.specs.declared.expression.Form.TheOpen as F
use Rattle.typed_tree.specs.declared.expression.Function.{Function}
use Rattle.typed_tree.specs.declared.expression.Step.{Step, roll-Step}
use Rattle.typed_tree.specs.declared.expression.TypedExpression.{TypedExpression}
use Rattle.typed_tree.specs.Nodes.{StepNodes, total, in_expression, in_step, in_list}
use Rattle.typing_rules.specs.AbstractSyntax.{Declaration, Declarations}
use Rattle.typing_rules.specs.AbstractSyntax as p
use Rattle.typing_rules.specs.Definitions.{Definitions}
use Rattle.typing_rules.specs.Terms.{Term}
use Rattle.typing_rules.specs.TypedTrees.{Note}
use Rattle.desugaring.specs.Expressions.{bound, object_of_names, public_names, pieces, becomes, tree}
use Rattle.desugaring.specs.Frames.{kept_at}
use Rattle.desugaring.specs.Patterns as made
use Rattle.desugaring.specs.Pieces.{arranged}
use Rattle.desugaring.specs.Programs.{own_nodes, own_nodes_of, around}
use Rattle.node_laws.specs.Laws.{FunctionsAreCovered, ClassesAreCovered, ProgramsAreCovered}
use Rattle.node_laws.proofs.Arranging.{each, sum}
use Rattle.node_laws.proofs.Arranging as arranging
use Rattle.node_laws.proofs.Equations.{let_nodes, var_nodes, stable_nodes, evaluated_nodes, functions_nodes}
use Rattle.node_laws.proofs.PatternNodes.{pattern_covered, patterns_covered}
use Rattle.node_laws.proofs.TreeNodes.{tree_nodes, object_list, pieces_cost, bound_nodes}

abbrev nothing : Function → ℕ
nothing f = 0

own_evaluated : (a : TypedExpression) → (in_step (roll-Step (F.Evaluate a))).own ≡ in_expression a
own_evaluated a = ap (λ (s : StepNodes). s.own) (evaluated_nodes a)

counted : {A : Type 0} (g : Function → A) (fs : List Function) → length (map g fs) ≡ each nothing fs
counted g [] = refl
counted g (f ∷ fs) = omega (arith, counted g fs)

own_functions : (fs : List Function) → (in_step (roll-Step (F.Functions fs))).own ≡ each nothing fs
own_functions fs = ap (λ (s : StepNodes). s.own) (functions_nodes fs) ∙ counted _ fs

module _ (defs : Definitions) (number : Term → TypeId) where
  -- what a declaration may come to
  abbrev own : Declaration Note → ℕ
  own d = 4 * suc (own_nodes d)

  abbrev each_own : Declarations Note → List ℕ
  each_own p.End = []
  each_own (p.Then public n d rest) = own d ∷ each_own rest

  own_few : (ds : Declarations Note) → sum (each_own ds) ≡ 4 * own_nodes_of ds
  own_few p.End = refl
  own_few (p.Then public n d rest) = omega (arith, own_few rest)

  piece_own : (n : Note) (d : Declaration Note) → arranging.Costs (λ s. s.own) nothing own_evaluated own_functions (becomes defs number n d) (own d)
  piece_own n (p.Let q a) = λ f. omega (arith, ap (λ (s : StepNodes). s.own) (let_nodes (made.pattern defs number q) (tree defs number f a)), pattern_covered defs number q, tree_nodes defs number f a)
  piece_own n (p.Var false x u a) = λ f. omega (arith, ap (λ (s : StepNodes). s.own) (var_nodes (tree defs number f a)), tree_nodes defs number f a)
  piece_own n (p.Var true x u a) = λ f. omega (arith, ap (λ (s : StepNodes). s.own) (stable_nodes (kept_at f x.bytes) (tree defs number f a)), tree_nodes defs number f a)
  piece_own n (p.Func x g body) = λ f. omega arith
  piece_own n (p.Method query context x g body) = tt
  piece_own n (p.System x body) = tt
  piece_own n (p.TypeAlias x parameters u) = tt
  piece_own n (p.Class x g fields) = λ f. omega arith
  piece_own n (p.NamedObject x fields) = λ f.
      let e = object_of_names defs number n.type (public_names fields) (arranged false (pieces defs number fields) f) in
      omega (arith, ap (λ (s : StepNodes). s.own) (let_nodes (bound defs number n.type) e), bound_nodes defs number n.type, object_list defs number n.type fields (pieces_cost defs number fields) f)
  piece_own n (p.Evaluate a) = λ f. omega (arith, tree_nodes defs number f a)

  pieces_own : (ds : Declarations Note) → arranging.AllCost (λ s. s.own) nothing own_evaluated own_functions (pieces defs number ds) (each_own ds)
  pieces_own p.End = tt
  pieces_own (p.Then public n d rest) = (piece_own n d, pieces_own rest)

  picked : (steps : List Step) → in_list steps ≡ total (map (λ s. s.own) (map in_step steps))
  picked [] = refl
  picked (s ∷ steps) = omega (arith, picked steps)

pub functions_are_covered : FunctionsAreCovered
functions_are_covered defs number f qs a = omega (arith, patterns_covered defs number qs, tree_nodes defs number f a)

pub classes_are_covered : ClassesAreCovered
classes_are_covered defs number f u qs fields = omega (arith, patterns_covered defs number qs, object_list defs number u fields (pieces_cost defs number fields) f)

pub programs_are_covered : ProgramsAreCovered
programs_are_covered defs number types program =
    let ds = program.fields in
    let a = arranged false (pieces defs number ds) (around program) in
    omega (arith, picked defs number a.steps, arranging.list_cost (λ s. s.own) nothing own_evaluated own_functions false (pieces defs number ds) (each_own defs number ds) (pieces_own defs number ds) (around program), own_few defs number ds)
