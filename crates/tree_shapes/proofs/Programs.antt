-- The declarations, methods and hooks of a program nest less than they have nodes.
use Rattle.std.proofs.Common.{◌≡◌, ◌≤◌, ◌<◌, ℕ, zero, suc, ◌+◌, Bool, true, false, List, [], ◌∷◌, ◌++◌, length, map, Option, Some, None, refl, sym, subst, arith}
use Rattle.std.specs.Prelude.{codes, cond}
use Rattle.std.specs.Str.{bytes_eq}
use Rattle.mo_types.specs.declared.node.Sort.TheVariants as sort
use Rattle.mo_types.specs.declared.node.TypeId.{TypeId}
use Rattle.mo_types.specs.Graph.{Slot}
use Rattle.typed_tree.specs.declared.expression.Function.{Function, roll-Function}
use Rattle.typed_tree.specs.declared.program.Method.{Method}
use Rattle.typed_tree.specs.declared.program.Program.{Program as TypedProgram}
use Rattle.typed_tree.specs.declared.program.StableVariable.{StableVariable}
use Rattle.typed_tree.specs.Language.{Name, Group}
use Rattle.typed_tree.specs.ProgramView.{with_context, optional_function, functions_of, names_from, optional_name, parts}
use Rattle.typed_tree.specs.ProgramView as view
use Rattle.typed_tree.specs.View.{FunctionView, exps, group, expression, function}
use Rattle.typed_tree.proofs.Views.{declaration_views}
use Rattle.typing_rules.specs.AbstractSyntax.{Bytes, Pattern, Declarations, Program}
use Rattle.typing_rules.specs.AbstractSyntax as p
use Rattle.typing_rules.specs.Definitions.{Definitions}
use Rattle.typing_rules.specs.Nodes as counts
use Rattle.typing_rules.specs.Terms.{Term}
use Rattle.typing_rules.specs.TypedTrees.{Note}
use Rattle.desugaring.specs.Expressions.{tree, pieces}
use Rattle.desugaring.specs.FreeNames.{names_in_each}
use Rattle.desugaring.specs.Frames.{Frame, in_function, in_method}
use Rattle.desugaring.specs.Patterns as made
use Rattle.desugaring.specs.Pieces.{arranged}
use Rattle.desugaring.specs.Programs.{around, own_nodes_of, method_sort, context_names, context_pattern, method_function, methods_of, system_of, behind, desugared}
use Rattle.tree_shapes.specs.Laws.{ExpressionsNest, Nests, ProgramsNest}
use Rattle.nesting.specs.Shapes.{tests, nest, pile, pile_all, Shaped, ShapedAll, ShapedFunctions, Fine}
use Rattle.tree_shapes.proofs.Lists.{FunctionFine, ArrangedFine, sum_of, list_fine}
use Rattle.tree_shapes.proofs.Patterns.{tests_few, all_tests_few}
use Rattle.tree_shapes.proofs.Trees.{each_spent, tree_fine, pieces_fine}

-- ---- functions

abbrev ViewsFine : List FunctionView → Type 0
ViewsFine [] = Unit {0}
ViewsFine (v ∷ vs) = FunctionFine v × ViewsFine vs

views_shaped : (vs : List FunctionView) → ViewsFine vs → ShapedFunctions (group vs)
views_shaped [] h = tt
views_shaped (v ∷ vs) h = (h.0.few, h.0.light, h.0.shaped, views_shaped vs h.1)

both_fine : (vs ws : List FunctionView) → ViewsFine vs → ViewsFine ws → ViewsFine (vs ++ ws)
both_fine [] ws h i = i
both_fine (v ∷ vs) ws h i = (h.0, both_fine vs ws h.1 i)

abbrev OptionFine : Option Function → Type 0
OptionFine None = Unit {0}
OptionFine (Some f) = FunctionFine (function f)

option_fine : (o : Option Function) → OptionFine o → ViewsFine (optional_function o)
option_fine None h = tt
option_fine (Some f) h = (h, tt)

-- ---- what declarations end in

names_shaped : (n k : ℕ) → ShapedAll (exps (names_from n k))
names_shaped n zero = tt
names_shaped n (suc k) = (tt, names_shaped (suc n) k)

optional_shaped : (n : ℕ) (o : Option Function) → Shaped (optional_name n o)
optional_shaped n None = tt
optional_shaped n (Some f) = (tt, (tt, tt))

cells_shaped : (n : ℕ) (vs : List StableVariable) → ShapedAll (exps (map (λ v. Name (n + v.cell)) vs))
cells_shaped n [] = tt
cells_shaped n (v ∷ vs) = (tt, cells_shaped n vs)

names_light : (n k : ℕ) → pile_all 1 1 (exps (names_from n k)) ≡ 0
names_light n zero = refl
names_light n (suc k) = omega (arith, names_light (suc n) k)

optional_light : (n : ℕ) (o : Option Function) → pile 1 1 (optional_name n o) ≡ 0
optional_light n None = refl
optional_light n (Some f) = omega arith

cells_light : (n : ℕ) (vs : List StableVariable) → pile_all 1 1 (exps (map (λ v. Name (n + v.cell)) vs)) ≡ 0
cells_light n [] = refl
cells_light n (v ∷ vs) = omega (arith, cells_light n vs)

parts_light : (q : TypedProgram) → pile 1 1 (parts q) ≡ 0
parts_light q =
    omega (
      arith,
      names_light 0 (length q.methods),
      optional_light (length q.methods) q.before_upgrade,
      optional_light (length q.methods + length (optional_function q.before_upgrade)) q.after_upgrade,
      cells_light (length (functions_of q)) q.stable,
    )

parts_shaped : (q : TypedProgram) → Shaped (parts q)
parts_shaped q = (
  tt,
  (
    (tt, names_shaped 0 (length q.methods)),
    (
      optional_shaped (length q.methods) q.before_upgrade,
      (optional_shaped (length q.methods + length (optional_function q.before_upgrade)) q.after_upgrade, ((tt, cells_shaped (length (functions_of q)) q.stable), tt)),
    ),
  ),
)

module _ (defs : Definitions) (number : Term → TypeId) where
  context_few : (o : Option (Pattern Note)) → tests (view.context_pattern (context_pattern defs number o)) ≤ counts.in_context o
  context_few None = omega arith
  context_few (Some q) = tests_few defs number q

  method_fine : (frame : Frame) (query : Bool) (context : Option (Pattern Note)) (g : p.Signature Note) (body : p.Expression Note)
      → FunctionFine (with_context (context_pattern defs number context) (function (method_function defs number frame query context g body)))
  method_fine frame query context g body =
      let nodes = counts.in_context context + counts.in_patterns g.parameters + counts.in_expression body in
      let qs = made.patterns defs number g.parameters in
      let inner = in_method (context_names context) (names_in_each g.parameters) frame in
      let e = tree defs number inner body in
      let h : Fine (counts.in_expression body) (expression e) = tree_fine defs number inner body in
      subst (λ (v : FunctionView). FunctionFine (with_context (context_pattern defs number context) v)) (sym (declaration_views.function_of (method_sort query) [] nodes qs e))
      (record {
        few = let x : nest (expression e) < counts.in_expression body = h.few in omega (arith, context_few context, all_tests_few defs number g.parameters, x);
        light = let x : pile 1 1 (expression e) < counts.in_expression body = h.light in omega (arith, x);
        shaped = h.shaped;
      })

  methods_fine : (frame : Frame) (ds : Declarations Note) → ViewsFine (map (λ (m : Method). with_context m.context (function m.function)) (methods_of defs number frame ds))
  methods_fine frame p.End = tt
  methods_fine frame (p.Then public n (p.Method query context x g body) rest) = (method_fine frame query context g body, methods_fine frame rest)
  methods_fine frame (p.Then public n (p.Let q a) rest) = methods_fine frame rest
  methods_fine frame (p.Then public n (p.Var stable x u a) rest) = methods_fine frame rest
  methods_fine frame (p.Then public n (p.Func x g body) rest) = methods_fine frame rest
  methods_fine frame (p.Then public n (p.System x body) rest) = methods_fine frame rest
  methods_fine frame (p.Then public n (p.TypeAlias x parameters u) rest) = methods_fine frame rest
  methods_fine frame (p.Then public n (p.Class x g fields) rest) = methods_fine frame rest
  methods_fine frame (p.Then public n (p.NamedObject x fields) rest) = methods_fine frame rest
  methods_fine frame (p.Then public n (p.Evaluate a) rest) = methods_fine frame rest

  hook_fine : (frame : Frame) (body : p.Expression Note) (o : Option Function) (b : Bool) (f : Function) → FunctionFine (function f) → OptionFine o → OptionFine (cond b (Some f) o)
  hook_fine frame body o true f h i = h
  hook_fine frame body o false f h i = i

  system_fine : (frame : Frame) (name : Bytes) (ds : Declarations Note) → OptionFine (system_of defs number frame name ds)
  system_fine frame name p.End = tt
  system_fine frame name (p.Then public n (p.System x body) rest) =
      let inner = in_function [] frame in
      let e = tree defs number inner body in
      let h : Fine (counts.in_expression body) (expression e) = tree_fine defs number inner body in
      hook_fine frame body (system_of defs number frame name rest) (bytes_eq x.bytes name) _
      (subst FunctionFine (sym (declaration_views.function_of sort.Local [] (counts.in_expression body) [] e))
      (record { few = let z : nest (expression e) < counts.in_expression body = h.few in omega (arith, z); light = h.light; shaped = h.shaped })) (system_fine frame name rest)
  system_fine frame name (p.Then public n (p.Method query context x g body) rest) = system_fine frame name rest
  system_fine frame name (p.Then public n (p.Let q a) rest) = system_fine frame name rest
  system_fine frame name (p.Then public n (p.Var stable x u a) rest) = system_fine frame name rest
  system_fine frame name (p.Then public n (p.Func x g body) rest) = system_fine frame name rest
  system_fine frame name (p.Then public n (p.TypeAlias x parameters u) rest) = system_fine frame name rest
  system_fine frame name (p.Then public n (p.Class x g fields) rest) = system_fine frame name rest
  system_fine frame name (p.Then public n (p.NamedObject x fields) rest) = system_fine frame name rest
  system_fine frame name (p.Then public n (p.Evaluate a) rest) = system_fine frame name rest

  -- ---- the nodes of the declarations

  abbrev hook_of : Frame → p.Expression Note → Function
  hook_of frame body = roll-Function (record { sort = sort.Local; type_parameters = []; nodes = counts.in_expression body; parameters = []; body = tree defs number (in_function [] frame) body })

  one_or : (b : Bool) (f : Function) (o : Option Function) (s k : ℕ) → length (optional_function o) + s ≤ k → length (optional_function (cond b (Some f) o)) + s ≤ suc k
  one_or true f o s k h = omega (arith, h)
  one_or false f o s k h = omega (arith, h)

  -- a hook is one of them
  hook_paid : (frame : Frame) (name : Bytes) (ds : Declarations Note) → length (optional_function (system_of defs number frame name ds)) + sum_of (each_spent defs number ds) ≤ own_nodes_of ds
  hook_paid frame name p.End = omega arith
  hook_paid frame name (p.Then public n (p.System x body) rest) =
      omega (arith, one_or (bytes_eq x.bytes name) (hook_of frame body) (system_of defs number frame name rest) (sum_of (each_spent defs number rest)) (own_nodes_of rest) (hook_paid frame name rest))
  hook_paid frame name (p.Then public n (p.Method query context x g body) rest) = omega (arith, hook_paid frame name rest)
  hook_paid frame name (p.Then public n (p.Let q a) rest) = omega (arith, hook_paid frame name rest)
  hook_paid frame name (p.Then public n (p.Var false x u a) rest) = omega (arith, hook_paid frame name rest)
  hook_paid frame name (p.Then public n (p.Var true x u a) rest) = omega (arith, hook_paid frame name rest)
  hook_paid frame name (p.Then public n (p.Func x g body) rest) = omega (arith, hook_paid frame name rest)
  hook_paid frame name (p.Then public n (p.TypeAlias x parameters u) rest) = omega (arith, hook_paid frame name rest)
  hook_paid frame name (p.Then public n (p.Class x g fields) rest) = omega (arith, hook_paid frame name rest)
  hook_paid frame name (p.Then public n (p.NamedObject x fields) rest) = omega (arith, hook_paid frame name rest)
  hook_paid frame name (p.Then public n (p.Evaluate a) rest) = omega (arith, hook_paid frame name rest)

  program_nests : (types : List Slot) (source : Program Note) → Nests (desugared defs number types source)
  program_nests types source =
      let ds = source.fields in
      let a = arranged false (pieces defs number ds) (around source) in
      let h : ArrangedFine (sum_of (each_spent defs number ds)) a = list_fine false (pieces defs number ds) (each_spent defs number ds) (pieces_fine defs number ds) (around source) in
      let frame = behind defs number ds a.frame in
      let q = desugared defs number types source in
      record {
        start = λ r. let x : h.around + h.last ≤ sum_of (each_spent defs number ds) = h.sum in omega (arith, x, h.steps.few r, hook_paid frame (codes "postupgrade") ds);
        light =
            let x : h.around + h.last ≤ sum_of (each_spent defs number ds) = h.sum in
            omega (arith, x, h.steps.light (Group (group (functions_of q)) (parts q)), parts_light q, hook_paid frame (codes "postupgrade") ds);
        shaped = h.steps.shaped (Group (group (functions_of q)) (parts q)) (
          views_shaped (functions_of q)
              (both_fine _ _ (methods_fine frame ds) (both_fine _ _ (option_fine q.before_upgrade (system_fine frame (codes "preupgrade") ds)) (option_fine q.after_upgrade (system_fine frame (codes "postupgrade") ds)))),
          parts_shaped q,
        );
      }

pub expressions_nest : ExpressionsNest
expressions_nest defs number f a = tree_fine defs number f a

pub programs_nest : ProgramsNest
programs_nest defs number types source = program_nests defs number types source
