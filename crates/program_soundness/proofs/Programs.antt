-- The declarations of a well-typed program are typed as they run.
use Rattle.std.proofs.Common.{◌≡◌, ◌≢◌, ◌⊎◌, ◌∙◌, ◌≤◌, inl, inr, ℕ, zero, suc, ◌+◌, List, [], ◌∷◌, ◌++◌, length, length-append, map, true, Option, Some, None, refl, sym, ap, ap₂, subst, slice_get, arith}
use Rattle.mo_types.specs.declared.node.Node.{Node}
use Rattle.mo_types.specs.declared.node.Node.TheVariants as node
use Rattle.mo_types.specs.declared.node.Sort.{Sort}
use Rattle.mo_types.specs.declared.node.Sort.TheVariants as sort
use Rattle.mo_types.specs.declared.node.TypeId.{TypeId}
use Rattle.mo_types.specs.Graph.{Slot, head_at}
use Rattle.mo_types.specs.Sub.{Each}
use Rattle.mo_types.specs.Values.{copies}
use Rattle.mo_subtype.specs.Renamed.{on_field}
use Rattle.typed_tree.specs.declared.expression.Function.{Function}
use Rattle.typed_tree.specs.declared.expression.Step.{Step}
use Rattle.typed_tree.specs.declared.pattern.TypedPattern.{TypedPattern}
use Rattle.typed_tree.specs.declared.program.Method.{Method}
use Rattle.typed_tree.specs.declared.program.Program.{Program}
use Rattle.typed_tree.specs.declared.program.StableVariable.{StableVariable}
use Rattle.typed_tree.specs.ActionTypes.{Context}
use Rattle.typed_tree.specs.Language.{Exp, Name, Group}
use Rattle.typed_tree.specs.MemberTypes.{IsUnit}
use Rattle.typed_tree.specs.Patterns.{Pats, NoPat, APat}
use Rattle.typed_tree.specs.ProgramView.{context_pattern, with_context, optional_function, functions_of, parts, program}
use Rattle.typed_tree.specs.Shareable.{HasShareableForm, PartsShareable, Shares, IsShareable}
use Rattle.typed_tree.specs.Types.{AreLawful}
use Rattle.typed_tree.specs.Typing as tree
use Rattle.typed_tree.specs.View.{FunctionView, exps, group, block, declaration, function}
use Rattle.typed_tree.specs.Wants.{Want, Anything, Of, CellOf, KeptOf, in_function}
use Rattle.typed_tree.specs.WellTyped.{WellTyped, sort_of, IsActor, AllDeclare, AreMethods, IsContextType, ContextNames, IsPublic, IsSystem, IsStable, around, behind}
use Rattle.closed_types.specs.Closings.{Closing}
use Rattle.closed_types.specs.Expanded.{expanded}
use Rattle.closed_types.proofs.Constants.{shareable_constant}
use Rattle.closed_types.proofs.Environments.{empty}
use Rattle.closed_types.proofs.Expanded.{closing}
use Rattle.closed_rules.specs.ClosedWants.{close_want, close_wants}
use Rattle.closed_rules.proofs.Constants.{map_stays, all_stay, result_stays}
use Rattle.closed_rules.proofs.Heads.{at}
use Rattle.mo_soundness.specs.Lawful.{IsLawful}
use Rattle.mo_soundness.specs.RunningPatterns.{PatternsTyped}
use Rattle.mo_soundness.specs.Running.{Around, AnswerTypes, still, in_sort, Typed}
use Rattle.closed_trees.proofs.Patterns.{pattern_typed}
use Rattle.closed_trees.specs.Seen.{Sees, SeesAs, SeesAll, around_in, Fine}
use Rattle.closed_trees.proofs.Seen.{sees_append, sees_at, sees_as, sees_self}
use Rattle.closed_trees.proofs.Trees.{fine_names, step_holds, function_holds}
use Rattle.program_soundness.specs.Declared.{hook_role, roles_of, around_declarations, CellsNamed, Declared, Last, Before}
use Rattle.program_soundness.specs.Roles.{Role, AMethod, AHook, calling, unused, IsCallerType, ContextBinds, PlaysRole, RolesTyped}
use Rattle.program_soundness.specs.Worlds.{running, kept_type}
use Rattle.program_soundness.proofs.Carried.{self_most}
use Rattle.program_soundness.proofs.Declared.{roles_length, functions_count}
use Rattle.program_soundness.proofs.Given.{public_parameters, public_results}

-- where calls may be made, a function's sort stays
may_sort : (s : Sort) → in_sort s true ≡ s
may_sort sort.Local = refl
may_sort sort.Shared = refl
may_sort sort.Query = refl

-- ---- names around

past_copies : {A : Type 0} (k n : ℕ) (a : A) (xs : List A) → slice_get (copies k a ++ xs) (k + n) ≡ slice_get xs n
past_copies zero n a xs = ap (slice_get xs) (omega arith)
past_copies (suc k) n a xs = ap (slice_get (a ∷ (copies k a ++ xs))) (next k n) ∙ past_copies k n a xs
  where
    next : (k n : ℕ) → suc k + n ≡ suc (k + n)
    next k n = omega arith

length_mapped : {A B : Type 0} (f : A → B) (xs : List A) → length (map f xs) ≡ length xs
length_mapped f [] = refl
length_mapped f (x ∷ xs) = ap suc (length_mapped f xs)

functions_length : (p : Program) → length (functions_of p) ≡ functions_count p
functions_length p =
    length-append (map (λ m. with_context m.context (function m.function)) p.methods) (optional_function p.before_upgrade ++ optional_function p.after_upgrade)
    ∙ ap₂ (λ m n. m + n) (length_mapped (λ m. with_context m.context (function m.function)) p.methods) (length-append (optional_function p.before_upgrade) (optional_function p.after_upgrade))

module _ (types : List Slot) (graph : AreLawful types) (lawful : IsLawful (running types).head) where
  abbrev first : ℕ
  first = length types

  pub past : length types ≤ length types
  past = self_most (length types)

  abbrev close : TypeId → TypeId
  close t = kept_type types t

  abbrev c0 : Closing (head_at types) (expanded types first)
  c0 = closing types first past []

  abbrev AllSee : List (Want TypeId) → List (Want TypeId) → Type 0
  AllSee ns ms = SeesAll types first [] [] ns ms

  unused_seen : (n : ℕ) → AllSee (copies n Anything) (copies n Anything)
  unused_seen zero = tt
  unused_seen (suc n) = (refl, unused_seen n)

  constant_seen : (t : TypeId) → IsShareable (head_at types) t → SeesAs types first [] [] t (close t)
  constant_seen t s = sees_self types first lawful [] [] t (shareable_constant (head_at types) (λ u. (graph.nodes u).0) t s)

  form_shareable : (t : TypeId) (x : Node TypeId) → head_at types t ≡ x → HasShareableForm x → ((n : ℕ) → PartsShareable (Shares (head_at types) n) x) → IsShareable (head_at types) t
  unfolding Shares
  form_shareable t x e f p = record { by = λ n. by n } where
    by : (n : ℕ) → Shares (head_at types) n t
    by zero = tt
    by (suc n) = subst (λ (y : Node TypeId). HasShareableForm y × PartsShareable (Shares (head_at types) n) y) (sym e) (f, p n)

  type_seen : (t : TypeId) (w : Want TypeId) → IsShareable (head_at types) t → w ≡ Of t → Sees types first [] [] w (close_want close w)
  type_seen t w s e = subst (λ w. Sees types first [] [] w (close_want close w)) (sym e) (close t, refl, constant_seen t s)

  nothing_seen : (w : Want TypeId) → w ≡ Anything → Sees types first [] [] w (close_want close w)
  nothing_seen w e = subst (λ w. Sees types first [] [] w (close_want close w)) (sym e) refl

  actor_seen : (ms : List Method) (w : Want TypeId) → IsActor types ms w → Sees types first [] [] w (close_want close w)
  actor_seen ms w (inl e) = nothing_seen w e
  actor_seen ms w (inr h) = type_seen h.0 w (form_shareable h.0 (node.Actor h.1) h.2 tt (λ n. tt)) h.5

  methods_seen : (ms : List Method) (ws : List (Want TypeId)) → Each (λ (m : Method). sort_of m ≢ sort.Local) ms → AreMethods types ms ws → AllSee ws (close_wants close ws)
  methods_seen [] [] s h = tt
  methods_seen [] (w ∷ ws) s h = absurd h
  methods_seen (m ∷ ms) [] s h = absurd h
  methods_seen (m ∷ ms) (w ∷ ws) s h = (by h.0, methods_seen ms ws s.1 h.1)
    where
      by : (w ≡ Anything) ⊎ ((t : TypeId) × (head_at types t ≡ node.Func (sort_of m) m.parameters m.results) × (w ≡ Of t)) → Sees types first [] [] w (close_want close w)
      by (inl e) = nothing_seen w e
      by (inr k) = type_seen k.0 w (form_shareable k.0 (node.Func (sort_of m) m.parameters m.results) k.1 s.0 (λ n. tt)) k.2

  kept_seen : (vs : List StableVariable) → Each (λ (v : StableVariable). IsShareable (head_at types) v.of_type) vs → AllSee (map (λ v. KeptOf v.of_type) vs) (map (λ v. KeptOf (close v.of_type)) vs)
  kept_seen [] h = tt
  kept_seen (v ∷ vs) h = ((close v.of_type, refl, constant_seen v.of_type h.0), kept_seen vs h.1)

  module _ (answers : AnswerTypes) (kinds : List TypeId) where
    -- outside all functions, with these names
    abbrev pub Top : AnswerTypes → Context → List (Want TypeId) → Type 0
    Top calls c ms = Fine types first calls c [] ms × (c.parameters ≡ [])

    abbrev there : List (Want TypeId) → Context → Around
    there ms c = around_in types first [] ms c

    declared : (p : Program) (ss : List Step) (c end : Context) (ms : List (Want TypeId)) → Top answers c ms → AllDeclare types c ss end → (b : Exp) → ((ls : List (Want TypeId)) → Top answers end ls → Declared types answers kinds p (there ls end) b)
        → Declared types answers kinds p (there ms c) (block (map declaration ss) b)
    declared p [] c end ms q h b d = subst (λ (e : Context). Declared types answers kinds p (there ms e) b) h (d ms (subst (λ (e : Context). Top answers e ms) (sym h) q))
    declared p (s ∷ ss) c end ms q h b d =
        let k = step_holds types first past graph lawful kinds s answers c [] ms h.0 q.0 h.1 in
        Before (k.2 (block (map declaration ss) b)) (declared p ss (tree.with_names h.0 c) end (k.0 ++ ms) (fine_names types first past graph lawful kinds answers c [] ms h.0 k.0 k.1 q.0, q.1) h.2 b d)

    -- ---- functions

    caller_there : (t : TypeId) → IsContextType types t → IsCallerType (running types).head (close t)
    caller_there t h = (on_field close h.0, at (head_at types) (expanded types first) c0 t (node.Object (h.0 ∷ [])) h.1 refl, h.2, h.3, at (head_at types) (expanded types first) c0 h.0.part node.Principal h.4 refl)

    context_binds : (o : Option TypedPattern) (ns : List (Want TypeId)) → ContextNames types o ns → (us : List (Want TypeId)) × AllSee ns us × ContextBinds types (context_pattern o) us
    context_binds None ns h = ([], sees_as types first [] [] ns [] [] h tt, inl (refl, refl))
    context_binds (Some p) ns h = let k = pattern_typed types first past graph lawful [] [] (empty types first past graph) p h.0 ns h.2 in (k.0, k.1, inr (close h.0, caller_there h.0 h.1, k.2))

    public_plays : (c : Context) (ms : List (Want TypeId)) (m : Method) → Top answers c ms → IsPublic types c m
        → PlaysRole types answers kinds (there ms c) (AMethod m.parameters m.results) (APat (context_pattern m.context) (function m.function).parameters) (function m.function).body
    public_plays c ms m q h =
        let b = h.body in
        let k = context_binds m.context b.0 b.2 in
        let sees : SeesAll types first c.parameters [] b.0 k.0 = subst (λ (vs : List ℕ). SeesAll types first vs [] b.0 k.0) (sym q.1) k.1 in
        let r = (function_holds types first past graph lawful kinds m.function c _ q.0.bounds b.4).1 (calling answers) [] ms q.0.place q.0.names [] k.0 q.0.place (λ v i. refl) sees (may_sort (sort_of m)) (inr refl) in
        let same = map_stays close m.parameters (all_stay types first past graph m.parameters (public_parameters types graph c m h)) in
        (k.0, r.1.0, close b.1, k.2, subst (λ (ps : List TypeId). PatternsTyped (running types).head (function m.function).parameters ps r.1.0) same r.1.1, result_stays types first past graph m.results b.1 (public_results types graph c m h) b.3, r.1.2)

    publics_play : (c : Context) (ms : List (Want TypeId)) (ps : List Method) → Top answers c ms → Each (IsPublic types c) ps
        → RolesTyped types answers kinds (there ms c) (map (λ m. AMethod m.parameters m.results) ps) (group (map (λ m. with_context m.context (function m.function)) ps))
    publics_play c ms [] q h = tt
    publics_play c ms (m ∷ ps) q h = (public_plays c ms m q h.0, publics_play c ms ps q h.1)

    hook_plays : (c : Around) (ps : Pats) (ns : List (Want TypeId)) (u : TypeId) (body : Exp) → PatternsTyped (running types).head ps [] ns → IsUnit (running types).head u → Typed (running types) (still answers) kinds (record { names = ([] ++ ns) ++ map in_function c.names; labels = u ∷ [] }) body (Of u)
        → PlaysRole types answers kinds c AHook ps body
    hook_plays c NoPat ns u body h i t = (u, i, subst (λ (ms : List (Want TypeId)). Typed (running types) (still answers) kinds (record { names = ([] ++ ms) ++ map in_function c.names; labels = u ∷ [] }) body (Of u)) h t)
    hook_plays c (APat q ps) ns u body h i t = absurd h

    system_plays : (c : Context) (ms : List (Want TypeId)) (o : Option Function) → Top answers c ms → IsSystem types c o → RolesTyped types answers kinds (there ms c) (hook_role o) (group (optional_function o))
    system_plays c ms None q h = tt
    system_plays c ms (Some f) q h =
        let r = (function_holds types first past graph lawful kinds f c _ q.0.bounds h.2).1 (still answers) [] ms q.0.place q.0.names [] [] q.0.place (λ v i. refl) tt refl (inl refl) in
        (hook_plays (there ms c) (function f).parameters r.1.0 (close h.0) (function f).body r.1.1 (at (head_at types) (expanded types first) c0 h.0 (node.Tuple []) h.1 refl) r.1.2, tt)

    roles_append : (c : Around) (qs rs : List Role) (fs gs : List FunctionView) → RolesTyped types answers kinds c qs (group fs) → RolesTyped types answers kinds c rs (group gs) → RolesTyped types answers kinds c (qs ++ rs) (group (fs ++ gs))
    roles_append c [] rs [] gs h i = i
    roles_append c [] rs (f ∷ fs) gs h i = absurd h
    roles_append c (q ∷ qs) rs [] gs h i = absurd h
    roles_append c (q ∷ qs) rs (f ∷ fs) gs h i = (h.0, roles_append c qs rs fs gs h.1 i)

    -- ---- stable variables

    cells_named : (c : Context) (ms : List (Want TypeId)) (k : ℕ) (ns : List (Want TypeId)) (vs : List StableVariable) → Top answers c ms → ((n : ℕ) → slice_get ns (k + n) ≡ slice_get ms n) → Each (IsStable types c) vs
        → CellsNamed types answers kinds (record { names = ns; labels = (there ms c).labels }) (exps (map (λ v. Name (k + v.cell)) vs)) vs
    cells_named c ms k ns [] q e h = tt
    cells_named c ms k ns (v ∷ vs) q e h =
        let u = sees_at types first c.parameters [] c.names ms v.cell (CellOf v.of_type) q.0.names h.0.1 in
        let r = u.2 in
        ((tt, (CellOf r.0, e v.cell ∙ u.1 ∙ ap Some r.1, (r.2.1.1, r.2.1.0))), cells_named c ms k ns vs q e h.1)

-- ---- the program

module _ (p : Program) (w : WellTyped p) (lawful : IsLawful (running p.types).head) (answers : AnswerTypes) (kinds : List TypeId) where
  abbrev Tops : Context → List (Want TypeId) → Type 0
  Tops c ms = Top p.types w.types lawful answers kinds answers c ms

  shared_each : (c : Context) (ms : List Method) → Each (IsPublic p.types c) ms → Each (λ (m : Method). sort_of m ≢ sort.Local) ms
  shared_each c [] h = tt
  shared_each c (m ∷ ms) h = (h.0.shared, shared_each c ms h.1)

  stable_each : (c : Context) (vs : List StableVariable) → Each (IsStable p.types c) vs → Each (λ (v : StableVariable). IsShareable (head_at p.types) v.of_type) vs
  stable_each c [] h = tt
  stable_each c (v ∷ vs) h = (h.0.0, stable_each c vs h.1)

  around_top : Tops (around p.types w.own w.methods p.stable) (around_declarations p.types w.own w.methods p.stable).names
  around_top = (
    record {
      place = empty p.types (length p.types) (self_most (length p.types)) w.types;
      bounds = λ t b v e i. absurd i;
      names = (
        actor_seen p.types w.types lawful p.methods w.own w.own_is,
        sees_append p.types (length p.types) [] [] w.methods (close_wants (kept_type p.types) w.methods) (map (λ v. KeptOf v.of_type) p.stable) (map (λ v. KeptOf (kept_type p.types v.of_type)) p.stable)
            (methods_seen p.types w.types lawful p.methods w.methods (shared_each (behind p w.end) p.methods w.public) w.methods_are) (kept_seen p.types w.types lawful p.stable (stable_each w.end p.stable w.stable)),
      );
      calls = refl;
      shared = inl refl;
    },
    refl,
  )

  same_unused : copies (length (functions_of p)) Anything ≡ unused (roles_of p)
  same_unused = ap (λ n. copies n Anything) (functions_length p ∙ sym (roles_length p))

  module _ (ms : List (Want TypeId)) (top : Tops w.end ms) where
    abbrev many : ℕ
    many = length (functions_of p)

    inner : Tops (behind p w.end) (copies (length (functions_of p)) Anything ++ ms)
    inner = (
      fine_names p.types (length p.types) (self_most (length p.types)) w.types lawful kinds answers w.end [] ms (copies many Anything) (copies many Anything)
          (subst (λ (vs : List ℕ). SeesAll p.types (length p.types) vs [] (copies many Anything) (copies many Anything)) (sym top.1) (unused_seen p.types w.types lawful many)) top.0,
      top.1,
    )

    abbrev inside : List (Want TypeId) → Around
    inside ns = record { names = ns ++ ms; labels = map (kept_type p.types) w.end.labels }

    functions_play : RolesTyped p.types answers kinds (inside (unused (roles_of p))) (roles_of p) (group (functions_of p))
    functions_play = subst (λ ns. RolesTyped p.types answers kinds (inside ns) (roles_of p) (group (functions_of p))) same_unused
        (roles_append p.types w.types lawful answers kinds (inside (copies many Anything)) (map (λ m. AMethod m.parameters m.results) p.methods) (hook_role p.before_upgrade ++ hook_role p.after_upgrade)
        (map (λ m. with_context m.context (function m.function)) p.methods) (optional_function p.before_upgrade ++ optional_function p.after_upgrade)
        (publics_play p.types w.types lawful answers kinds (behind p w.end) (copies many Anything ++ ms) p.methods inner w.public)
        (roles_append p.types w.types lawful answers kinds (inside (copies many Anything)) (hook_role p.before_upgrade) (hook_role p.after_upgrade) (optional_function p.before_upgrade) (optional_function p.after_upgrade)
        (system_plays p.types w.types lawful answers kinds (behind p w.end) (copies many Anything ++ ms) p.before_upgrade inner w.before_upgrade)
        (system_plays p.types w.types lawful answers kinds (behind p w.end) (copies many Anything ++ ms) p.after_upgrade inner w.after_upgrade)))

    cells_are_named : CellsNamed p.types answers kinds (inside (unused (roles_of p))) (exps (map (λ v. Name (length (functions_of p) + v.cell)) p.stable)) p.stable
    cells_are_named = subst (λ ns. CellsNamed p.types answers kinds (inside ns) (exps (map (λ v. Name (length (functions_of p) + v.cell)) p.stable)) p.stable) same_unused
        (cells_named p.types w.types lawful answers kinds w.end ms many (copies many Anything ++ ms) p.stable top (λ n. past_copies many n Anything ms) w.stable)

    declared_last : Declared p.types answers kinds p (record { names = ms; labels = map (kept_type p.types) w.end.labels }) (Group (group (functions_of p)) (parts p))
    declared_last = Last (group (functions_of p), exps (map (λ v. Name (length (functions_of p) + v.cell)) p.stable), refl, functions_play, cells_are_named)

  pub program_declared : Declared p.types answers kinds p (around_declarations p.types w.own w.methods p.stable) (program p).body
  program_declared = declared p.types w.types lawful answers kinds p p.declarations (around p.types w.own w.methods p.stable) w.end (around_declarations p.types w.own w.methods p.stable).names around_top w.declarations
      (Group (group (functions_of p)) (parts p)) (λ ls top. declared_last ls top)
