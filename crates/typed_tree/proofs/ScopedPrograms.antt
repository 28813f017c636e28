-- The body of a well-typed program has no names but those of the actor, its methods and what was kept.
use Rattle.std.proofs.Common.{◌≡◌, ℕ, zero, suc, ◌+◌, ◌<◌, ◌≤◌, List, [], ◌∷◌, ◌++◌, length, length-append, map, Option, Some, None, arith, refl, sym, ap, ap₂, ◌∙◌, subst}
use Rattle.mo_types.specs.declared.node.TypeId.{TypeId}
use Rattle.mo_types.specs.Graph.{Slot}
use Rattle.mo_types.specs.Sub.{Each}
use Rattle.mo_types.specs.Values.{copies}
use Rattle.typed_tree.specs.declared.expression.Function.{Function}
use Rattle.typed_tree.specs.declared.expression.Step.{Step}
use Rattle.typed_tree.specs.declared.pattern.TypedPattern.{TypedPattern}
use Rattle.typed_tree.specs.declared.program.Method.{Method}
use Rattle.typed_tree.specs.declared.program.Program.{Program}
use Rattle.typed_tree.specs.declared.program.StableVariable.{StableVariable}
use Rattle.typed_tree.specs.ActionTypes.{Context}
use Rattle.typed_tree.specs.Language.{Exp, Name}
use Rattle.typed_tree.specs.Patterns.{names, names_all}
use Rattle.typed_tree.specs.ProgramView.{context_pattern, with_context, optional_function, functions_of, names_from, optional_name, parts, program}
use Rattle.typed_tree.specs.Scoped.{Scoped, ScopedAll, ScopedFunctions}
use Rattle.typed_tree.specs.Substitution.{count}
use Rattle.typed_tree.specs.Typing.{with_names}
use Rattle.typed_tree.specs.View.{FunctionView, exps, group, block, declaration, function}
use Rattle.typed_tree.specs.Wants.{Want, Anything, KeptOf}
use Rattle.typed_tree.specs.WellTyped.{WellTyped, AllDeclare, AreMethods, ContextNames, IsPublic, IsSystem, IsStable, around, behind}
use Rattle.typed_tree.proofs.PatternNames.{names_counted}
use Rattle.typed_tree.proofs.ScopedTrees.{within, under, at, without, length_map, step_holds, function_holds}

-- ---- lists of functions

length_copies : {A : Type 0} (n : ℕ) (a : A) → length (copies n a) ≡ n
length_copies zero a = refl
length_copies (suc n) a = ap suc (length_copies n a)

count_group : (fs : List FunctionView) → count (group fs) ≡ length fs
count_group [] = refl
count_group (f ∷ fs) = ap suc (count_group fs)

abbrev Fits : ℕ → FunctionView → Type 0
Fits n f = Scoped (names_all f.parameters + n) f.body

each_append : (n : ℕ) (fs gs : List FunctionView) → Each (Fits n) fs → Each (Fits n) gs → Each (Fits n) (fs ++ gs)
each_append n [] gs h i = i
each_append n (f ∷ fs) gs h i = (h.0, each_append n fs gs h.1 i)

group_fits : (n : ℕ) (fs : List FunctionView) → Each (Fits n) fs → ScopedFunctions n (group fs)
group_fits n [] h = tt
group_fits n (f ∷ fs) h = (h.0, group_fits n fs h.1)

names_scoped : (n k m : ℕ) → n + k ≤ m → ScopedAll m (exps (names_from n k))
names_scoped n zero m h = tt
names_scoped n (suc k) m h = (first h, names_scoped (suc n) k m (rest h))
  where
    first : n + suc k ≤ m → n < m
    first i = omega arith

    rest : n + suc k ≤ m → suc n + k ≤ m
    rest i = omega arith

optional_scoped : (n m : ℕ) (o : Option Function) → n + length (optional_function o) ≤ m → Scoped m (optional_name n o)
optional_scoped n m None h = tt
optional_scoped n m (Some f) h = (one h, tt)
  where
    one : n + 1 ≤ m → n < m
    one i = omega arith

module _ (types : List Slot) where
  -- ---- declarations

  declared_scoped : (ss : List Step) (c end : Context) → AllDeclare types c ss end → (b : Exp) → Scoped (length end.names) b → Scoped (length c.names) (block (map declaration ss) b)
  declared_scoped [] c end h b s = subst (λ (d : Context). Scoped (length d.names) b) h s
  declared_scoped (d ∷ ds) c end h b s =
      step_holds types d c h.0 h.1 (block (map declaration ds) b)
      (under (length h.0) h.0 c.names (block (map declaration ds) b) refl (declared_scoped ds (with_names h.0 c) end h.2 b s))

  -- ---- functions

  context_counted : (o : Option TypedPattern) (ns : List (Want TypeId)) → ContextNames types o ns → length ns ≡ names (context_pattern o)
  context_counted None ns h = ap length h
  context_counted (Some p) ns h = names_counted types [] p h.0 ns h.2

  public_fits : (c : Context) (m : Method) → IsPublic types c m → Fits (length c.names) (with_context m.context (function m.function))
  public_fits c m h =
      subst (λ k. Scoped ((k + names_all (function m.function).parameters) + length c.names) (function m.function).body) (context_counted m.context h.body.0 h.body.2)
      (function_holds types m.function c _ h.body.4)

  publics_fit : (c : Context) (ms : List Method) → Each (IsPublic types c) ms → Each (Fits (length c.names)) (map (λ m. with_context m.context (function m.function)) ms)
  publics_fit c [] h = tt
  publics_fit c (m ∷ ms) h = (public_fits c m h.0, publics_fit c ms h.1)

  system_fits : (c : Context) (o : Option Function) → IsSystem types c o → Each (Fits (length c.names)) (optional_function o)
  system_fits c None h = tt
  system_fits c (Some f) h = (without (names_all (function f).parameters) [] (length c.names) (function f).body refl (function_holds types f c _ h.2), tt)

  -- ---- the names around

  methods_counted : (ms : List Method) (ws : List (Want TypeId)) → AreMethods types ms ws → length ws ≡ length ms
  methods_counted [] [] h = refl
  methods_counted [] (w ∷ ws) h = absurd h
  methods_counted (m ∷ ms) [] h = absurd h
  methods_counted (m ∷ ms) (w ∷ ws) h = ap suc (methods_counted ms ws h.1)

  cells_scoped : (c : Context) (k m : ℕ) (vs : List StableVariable) → Each (IsStable types c) vs → k + length c.names ≡ m → ScopedAll m (exps (map (λ v. Name (k + v.cell)) vs))
  cells_scoped c k m [] h e = tt
  cells_scoped c k m (v ∷ vs) h e = (let i : v.cell < length c.names = within c.names v.cell _ h.0.1 in omega arith, cells_scoped c k m vs h.1 e)

-- ---- the program

module _ (p : Program) (w : WellTyped p) where
  abbrev inner : Context
  inner = behind p w.end

  inner_length : length inner.names ≡ length (functions_of p) + length w.end.names
  inner_length = length-append (copies (length (functions_of p)) Anything) w.end.names ∙ ap (λ n. n + length w.end.names) (length_copies (length (functions_of p)) Anything)

  functions_length : length (functions_of p) ≡ length p.methods + (length (optional_function p.before_upgrade) + length (optional_function p.after_upgrade))
  functions_length = length-append (map (λ m. with_context m.context (function m.function)) p.methods) (optional_function p.before_upgrade ++ optional_function p.after_upgrade)
      ∙ ap₂ (λ m n. m + n) (length_map (λ m. with_context m.context (function m.function)) p.methods) (length-append (optional_function p.before_upgrade) (optional_function p.after_upgrade))

  functions_fit : Each (Fits (length inner.names)) (functions_of p)
  functions_fit = each_append (length inner.names) (map (λ m. with_context m.context (function m.function)) p.methods) (optional_function p.before_upgrade ++ optional_function p.after_upgrade)
      (publics_fit p.types inner p.methods w.public)
      (each_append (length inner.names) (optional_function p.before_upgrade) (optional_function p.after_upgrade) (system_fits p.types inner p.before_upgrade w.before_upgrade) (system_fits p.types inner p.after_upgrade w.after_upgrade))

  parts_scoped : Scoped (length (functions_of p) + length w.end.names) (parts p)
  parts_scoped = (
    names_scoped 0 (length p.methods) (length (functions_of p) + length w.end.names) (omega (arith, functions_length)),
    (
      optional_scoped (length p.methods) (length (functions_of p) + length w.end.names) p.before_upgrade (omega (arith, functions_length)),
      (
        optional_scoped (length p.methods + length (optional_function p.before_upgrade)) (length (functions_of p) + length w.end.names) p.after_upgrade (omega (arith, functions_length)),
        (cells_scoped p.types w.end (length (functions_of p)) (length (functions_of p) + length w.end.names) p.stable w.stable refl, tt),
      ),
    ),
  )

  abbrev n : ℕ
  n = length w.end.names

  counted : count (group (functions_of p)) ≡ length (functions_of p)
  counted = count_group (functions_of p)

  around_length : length (around p.types w.own w.methods p.stable).names ≡ 1 + (length p.methods + length p.stable)
  around_length = ap suc (length-append w.methods (map (λ v. KeptOf v.of_type) p.stable) ∙ ap₂ (λ i j. i + j) (methods_counted p.types p.methods w.methods w.methods_are) (length_map (λ v. KeptOf v.of_type) p.stable))
      ∙ one (length p.methods + length p.stable)
    where
      one : (k : ℕ) → suc k ≡ 1 + k
      one k = omega arith

  pub program_scoped : Scoped (1 + (length p.methods + length p.stable)) (program p).body
  program_scoped = at _ _ (program p).body around_length
      (declared_scoped p.types p.declarations (around p.types w.own w.methods p.stable) w.end w.declarations _ (
        subst (λ k. ScopedFunctions k (group (functions_of p))) (inner_length ∙ ap (λ k. k + n) (sym counted)) (group_fits (length inner.names) (functions_of p) functions_fit),
        subst (λ k. Scoped (k + n) (parts p)) (sym counted) parts_scoped,
      ))
