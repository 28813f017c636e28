-- A well-typed program is one of declarations, which end in its parts.
use Rattle.std.proofs.Common.{◌≡◌, Bool, false, ◌⊎◌, inl, inr, ℕ, zero, suc, ◌+◌, ◌*◌, ◌≤◌, List, [], ◌∷◌, ◌++◌, length, length-append, map, replicate, Option, Some, None, slice_get, refl, sym, ap, ◌∙◌, subst, arith}
use Rattle.std.specs.List.{AllByRecursion}
use Rattle.mo_types.specs.Graph.{Slot, head_at}
use Rattle.mo_types.specs.declared.node.Node.TheVariants as node
use Rattle.mo_types.specs.Sub.{Each}
use Rattle.mo_types.specs.Values.{copies}
use Rattle.mo_types.specs.declared.node.TypeId.{TypeId}
use Rattle.mo_values.specs.Shapes.{Bytes}
use Rattle.mo_values.specs.declared.operation.Operation.TheVariants as op
use Rattle.typed_tree.specs.declared.expression.Function.{Function}
use Rattle.typed_tree.specs.declared.expression.Step.{Step}
use Rattle.typed_tree.specs.declared.program.Method.{Method}
use Rattle.typed_tree.specs.declared.program.Program.{Program}
use Rattle.typed_tree.specs.declared.program.StableVariable.{StableVariable}
use Rattle.typed_tree.specs.ActionTypes.{Context}
use Rattle.typed_tree.specs.Language.{Exp, Exps, Functions, Name, Group, NoExp, AnExp, let_in}
use Rattle.typed_tree.specs.Nodes.{in_list}
use Rattle.typed_tree.specs.ProgramView as view
use Rattle.typed_tree.specs.ProgramView.{program, functions_of, method, stable_variable, optional_function, optional_name, with_context}
use Rattle.typed_tree.specs.Substitution.{count}
use Rattle.typed_tree.specs.Typing.{with_names}
use Rattle.typed_tree.specs.View.{FunctionView, exps, group, block, declaration, function}
use Rattle.typed_tree.specs.Wants.{Want, Anything, Of, CellOf, KeptOf, in_function}
use Rattle.typed_tree.specs.WellTyped.{WellTyped, AllDeclare, AreMethods, IsActor, IsStable, IsSystem, sort_of, around, behind}
use Rattle.elaboration.specs.Scopes.{Place, Nowhere}
use Rattle.elaboration.specs.Programs.{start_scope, firsts, own_from}
use Rattle.elaboration_forms.specs.Elaborates.{DeclarationsStand}
use Rattle.elaboration_runs.specs.Entering.{function_in}
use Rattle.elaboration_actors.specs.Starts.{MethodsStand}
use Rattle.elaboration_premises.specs.Scoped.{Seen, Written, WrittenFunctions}
use Rattle.elaboration_premises.proofs.Programs.{starts_stand}
use Rattle.elaboration_starts.specs.Declarations as declarations
use Rattle.elaboration_starts.specs.Declarations.{Declares, Opens, Groups, Ends, PartsStand, DeclaresNothing, HookWithin, bound_in, names_from, names_of, hook_name, finish, made, places_known}
use Rattle.elaboration_starts.specs.Starts.{ActorStands, HookStands, CalledBehind}
use Rattle.elaboration_typed.specs.Standing.{unkept, without_kept, KeptApart, names_opened, names_declared, ActorsStand}
use Rattle.elaboration_typed.proofs.Steps as steps
use Rattle.elaboration_typed.proofs.Steps.{step_opens, function_facts, nothing_declared}
use Rattle.elaboration_typed.proofs.Functions.{count_group, behind_others, written_behind, firsts_stand, hook_facts, HookFacts}

length_map : {A B : Type 0} (f : A → B) (xs : List A) → length (map f xs) ≡ length xs
length_map f [] = refl
length_map f (x ∷ xs) = ap suc (length_map f xs)

-- ---- the parts

names_same : (i k : ℕ) → exps (view.names_from i k) ≡ names_from i k
names_same i zero = refl
names_same i (suc k) = ap (λ es. AnExp (Name i) es) (names_same (suc i) k)

cells_same : (k : ℕ) (vs : List StableVariable) → exps (map (λ v. Name (k + v.cell)) vs) ≡ names_of (map (λ v. k + v.cell) vs)
cells_same k [] = refl
cells_same k (v ∷ vs) = ap (λ es. AnExp (Name (k + v.cell)) es) (cells_same k vs)

-- the place of a hook
abbrev place_of : ℕ → Option Function → Option ℕ
place_of n None = None
place_of n (Some f) = Some n

hook_same : (n : ℕ) (o : Option Function) → optional_name n o ≡ hook_name (place_of n o)
hook_same n None = refl
hook_same n (Some f) = refl

module _ (methods : ℕ) (last : Functions) (before later : Option ℕ) (labels : List Bytes) (cells : List ℕ) (total : ℕ) (upgraded : Bool) where
  abbrev whole : Exp
  whole = Group last (declarations.parts methods last before later labels cells)

  -- the same declarations with their names
  record Spread (n : ℕ) (b : Exp) : Type 0 where
    pub named : Exp
    pub declares : Declares methods last before later labels cells total upgraded n b named
    pub written : Written b → WrittenFunctions last

  module _ (types : List Slot) where
    spread : (ds : List Step) (c end : Context) → AllDeclare types c ds end → (n : ℕ) → length end.names + n ≡ total + length c.names → Spread n (block (map declaration ds) whole)
    spread [] c end h n e = record {
      named = finish last upgraded later n;
      declares = Ends n (let z : length end.names ≡ length c.names = ap (λ (c : Context). length c.names) h in omega (arith, e, z));
      written = λ w. w.0;
    }
    spread (d ∷ ds) c end h n e = by (step_opens types d c h.0 h.1) (λ k q. spread ds (with_names h.0 c) end h.2 k q)
      where
        rest : Exp
        rest = block (map declaration ds) whole

        by : steps.Opens types (declaration d) h.0 → ((k : ℕ) → length end.names + k ≡ total + length (h.0 ++ c.names) → Spread k rest) → Spread n (declaration d rest)
        by (inl o) go =
            let many : bound_in o.0 ≡ length h.0 = o.3 in
            let joined : length (h.0 ++ c.names) ≡ length h.0 + length c.names = length-append h.0 c.names in
            let r : Spread (bound_in o.0 + n) rest = go (bound_in o.0 + n) (omega (arith, e, many, joined)) in
            subst (λ b. Spread n b) (sym (o.2 rest)) (record { named = let_in o.0 o.1 r.named; declares = Opens n o.0 o.1 rest r.named r.declares; written = λ w. r.written (w.1.0) })
        by (inr o) go =
            let many : count o.0 ≡ length h.0 = o.3 in
            let joined : length (h.0 ++ c.names) ≡ length h.0 + length c.names = length-append h.0 c.names in
            let r : Spread (count o.0 + n) rest = go (count o.0 + n) (omega (arith, e, many, joined)) in
            subst (λ b. Spread n b) (sym (o.1 rest)) (record { named = Group o.0 r.named; declares = Groups n o.0 rest r.named o.2 r.declares; written = λ w. r.written (w.1) })

-- ---- so many names are declared

module _ (types : List Slot) where
  step_names : (d : Step) (c : Context) (ns : List (Want TypeId)) → steps.Opens types (declaration d) ns → names_opened (declaration d (Name 0)) ≡ length ns
  step_names d c ns (inl o) = ap names_opened (o.2 (Name 0)) ∙ o.3
  step_names d c ns (inr o) = ap names_opened (o.1 (Name 0)) ∙ o.3

  declared_many : (ds : List Step) (c end : Context) → AllDeclare types c ds end → length end.names ≡ names_declared ds + length c.names
  declared_many [] c end h = let z : length end.names ≡ length c.names = ap (λ (c : Context). length c.names) h in omega (arith, z)
  declared_many (d ∷ ds) c end h =
      let opened : names_opened (declaration d (Name 0)) ≡ length h.0 = step_names d c h.0 (step_opens types d c h.0 h.1) in
      let joined : length (h.0 ++ c.names) ≡ length h.0 + length c.names = length-append h.0 c.names in
      let rest : length end.names ≡ names_declared ds + length (h.0 ++ c.names) = declared_many ds (with_names h.0 c) end h.2 in
      omega (arith, opened, joined, rest)

-- ---- cells are declared

abbrev NoCell : Want TypeId → Type 0
NoCell (CellOf t) = ⊥
NoCell w = Unit {0}

not_there : (ws : List (Want TypeId)) (i : ℕ) (t : TypeId) → AllByRecursion NoCell ws → slice_get ws i ≡ Some (CellOf t) → ⊥
not_there [] i t h e = let z : None ≡ Some (CellOf t) = e in cc
not_there (w ∷ ws) zero t h e = let z : w ≡ CellOf t = cc in subst NoCell z (h.0)
not_there (w ∷ ws) (suc i) t h e = not_there ws i t (h.1) e

in_front : (xs ws : List (Want TypeId)) (i : ℕ) (t : TypeId) → AllByRecursion NoCell ws → slice_get (xs ++ ws) i ≡ Some (CellOf t) → suc i ≤ length xs
in_front [] ws i t h e = absurd (not_there ws i t h e)
in_front (x ∷ xs) ws zero t h e = omega arith
in_front (x ∷ xs) ws (suc i) t h e = let z : suc i ≤ length xs = in_front xs ws i t h e in omega (arith, z)

both_none : (xs ws : List (Want TypeId)) → AllByRecursion NoCell xs → AllByRecursion NoCell ws → AllByRecursion NoCell (xs ++ ws)
both_none [] ws h i = i
both_none (x ∷ xs) ws h i = (h.0, both_none xs ws (h.1) i)

kept_none : (vs : List StableVariable) → AllByRecursion NoCell (map (λ v. KeptOf v.of_type) vs)
kept_none [] = tt
kept_none (v ∷ vs) = (tt, kept_none vs)

module _ (types : List Slot) where
  -- further names stand in front
  declared_front : (ds : List Step) (c end : Context) → AllDeclare types c ds end → (xs : List (Want TypeId)) × (end.names ≡ xs ++ c.names)
  declared_front [] c end h = ([], ap (λ (c : Context). c.names) h)
  declared_front (d ∷ ds) c end h = let r = declared_front ds (with_names h.0 c) end h.2 in (r.0 ++ h.0, r.1 ∙ sym (assoc r.0 h.0 c.names))
    where
      assoc : (xs ys zs : List (Want TypeId)) → (xs ++ ys) ++ zs ≡ xs ++ (ys ++ zs)
      assoc [] ys zs = refl
      assoc (x ∷ xs) ys zs = ap (λ r. x ∷ r) (assoc xs ys zs)

  methods_none : (ms : List Method) (ws : List (Want TypeId)) → AreMethods types ms ws → AllByRecursion NoCell ws
  methods_none [] [] h = tt
  methods_none [] (w ∷ ws) h = absurd h
  methods_none (m ∷ ms) [] h = absurd h
  methods_none (m ∷ ms) (w ∷ ws) h = (by h.0, methods_none ms ws h.1)
    where
      by : (w ≡ Anything) ⊎ ((t : TypeId) × (head_at types t ≡ node.Func (sort_of m) m.parameters m.results) × (w ≡ Of t)) → NoCell w
      by (inl e) = subst NoCell (sym e) tt
      by (inr k) = subst NoCell (sym k.2) tt

  methods_counted : (ms : List Method) (ws : List (Want TypeId)) → AreMethods types ms ws → length ws ≡ length ms
  methods_counted [] [] h = refl
  methods_counted [] (w ∷ ws) h = absurd h
  methods_counted (m ∷ ms) [] h = absurd h
  methods_counted (m ∷ ms) (w ∷ ws) h = ap suc (methods_counted ms ws h.1)

  own_none : (ms : List Method) (w : Want TypeId) → IsActor types ms w → NoCell w
  own_none ms w (inl e) = subst NoCell (sym e) tt
  own_none ms w (inr k) = subst NoCell (sym k.5) tt

-- ---- places of names

abbrev kept_out : List (Want TypeId) → List (Want TypeId)
kept_out ws = map in_function (map unkept ws)

nowhere_seen : (n : ℕ) (ws : List (Want TypeId)) (places : List Place) → Seen (kept_out ws) places → Seen (kept_out (copies n Anything ++ ws)) (replicate n Nowhere ++ places)
nowhere_seen zero ws places h = h
nowhere_seen (suc n) ws places h = (λ u. absurd u, nowhere_seen n ws places h)

own_seen : (i : ℕ) (xs ws : List (Want TypeId)) (places : List Place) → Seen (kept_out ws) places → Seen (kept_out (xs ++ ws)) (own_from i (length xs) ++ places)
own_seen i [] ws places h = h
own_seen i (x ∷ xs) ws places h = (λ u. tt, own_seen (suc i) xs ws places h)

kept_seen : (vs : List StableVariable) → Seen (kept_out (map (λ (v : StableVariable). KeptOf v.of_type) vs)) (replicate (length vs) Nowhere)
kept_seen [] = tt
kept_seen (v ∷ vs) = (λ u. absurd u, kept_seen vs)

append_assoc : (xs ys zs : List Place) → (xs ++ ys) ++ zs ≡ xs ++ (ys ++ zs)
append_assoc [] ys zs = refl
append_assoc (x ∷ xs) ys zs = ap (λ r. x ∷ r) (append_assoc xs ys zs)

-- ---- the whole program

module _ (p : Program) (w : WellTyped p) (i : Written (program p).body) (apart : KeptApart p w) (few : names_declared p.declarations ≤ p.nodes) where
  abbrev m : ℕ
  m = length p.methods

  abbrev k : ℕ
  k = length p.stable

  abbrev fs : List FunctionView
  fs = functions_of p

  abbrev last : Functions
  last = group fs

  abbrev labels : List Bytes
  labels = map (λ (v : StableVariable). v.name) p.stable

  abbrev cells : List ℕ
  cells = map (λ (v : StableVariable). length fs + v.cell) p.stable

  abbrev before : Option ℕ
  before = place_of m p.before_upgrade

  abbrev c0 : Context
  c0 = around p.types w.own w.methods p.stable

  around_many : length c0.names ≡ suc m + k
  around_many =
      let a : length w.methods ≡ m = methods_counted p.types p.methods w.methods w.methods_are in
      let b : length (w.methods ++ map (λ (v : StableVariable). KeptOf v.of_type) p.stable) ≡ length w.methods + length (map (λ (v : StableVariable). KeptOf v.of_type) p.stable) = length-append w.methods (map (λ (v : StableVariable). KeptOf v.of_type) p.stable) in
      let d : length (map (λ (v : StableVariable). KeptOf v.of_type) p.stable) ≡ k = length_map (λ (v : StableVariable). KeptOf v.of_type) p.stable in
      omega (arith, a, b, d)

  around_none : AllByRecursion NoCell c0.names
  around_none = (own_none p.types p.methods w.own w.own_is, both_none w.methods (map (λ (v : StableVariable). KeptOf v.of_type) p.stable) (methods_none p.types p.methods w.methods w.methods_are) (kept_none p.stable))

  abbrev front : (xs : List (Want TypeId)) × (w.end.names ≡ xs ++ c0.names)
  front = declared_front p.types p.declarations c0 w.end w.declarations

  -- so many names are declared
  abbrev total : ℕ
  total = length (front.0)

  many : length w.end.names ≡ total + (suc m + k)
  many =
      let a : length w.end.names ≡ length (front.0 ++ c0.names) = ap length (front.1) in
      let b : length (front.0 ++ c0.names) ≡ length (front.0) + length c0.names = length-append (front.0) c0.names in
      let d : length c0.names ≡ suc m + k = around_many in
      omega (arith, a, b, d)

  -- ---- its end

  abbrev four : Exps → Exp → Exp → Exps → Exp
  four ms b a cs = made op.MakeTuple (AnExp (made op.MakeTuple ms) (AnExp b (AnExp a (AnExp (made (op.MakeObject labels) cs) NoExp))))

  abbrev after : ℕ
  after = m + length (optional_function p.before_upgrade)

  abbrev later : Option ℕ
  later = place_of after p.after_upgrade

  abbrev cell_names : Exps
  cell_names = exps (map (λ (v : StableVariable). Name (length fs + v.cell)) p.stable)

  parts_same : view.parts p ≡ declarations.parts m last before later labels cells
  parts_same =
      ap (λ ms. four ms (optional_name m p.before_upgrade) (optional_name after p.after_upgrade) cell_names) (names_same 0 m)
      ∙ (ap (λ b. four (names_from 0 m) b (optional_name after p.after_upgrade) cell_names) (hook_same m p.before_upgrade)
      ∙ (ap (λ a. four (names_from 0 m) (hook_name before) a cell_names) (hook_same after p.after_upgrade) ∙ ap (λ cs. four (names_from 0 m) (hook_name before) (hook_name later) cs) (cells_same (length fs) p.stable)))

  at : (upgraded : Bool) → Spread m last before later labels cells total upgraded 0 (program p).body
  at upgraded =
      subst (λ x. Spread m last before later labels cells total upgraded 0 (block (map declaration p.declarations) (Group last x))) (sym parts_same)
      (spread m last before later labels cells total upgraded p.types p.declarations c0 w.end w.declarations 0 (let z : length c0.names ≡ suc m + k = around_many in omega (arith, many, z)))

  -- ---- its functions

  abbrev methods : List FunctionView
  methods = map (λ (x : Method). with_context x.context (function x.function)) p.methods

  abbrev others : Option Function → List FunctionView
  others o = optional_function o ++ optional_function p.after_upgrade

  functions_many : (o : Option Function) → count (group (methods ++ others o)) ≡ m + length (others o)
  functions_many o = count_group (methods ++ others o) ∙ (length-append methods (others o) ∙ ap (λ n. n + length (others o)) (length_map (λ (x : Method). with_context x.context (function x.function)) p.methods))

  abbrev places : List Place
  places = places_known m k total last

  abbrev inside : Context
  inside = without_kept (behind p w.end)

  -- the names around the functions have their places, where what was kept is not read
  seen : Seen (map in_function inside.names) places
  seen =
      subst (λ n. Seen (map in_function inside.names) (replicate n Nowhere ++ ((own_from (suc (suc m)) total ++ own_from 0 (suc m)) ++ replicate k Nowhere))) (sym (count_group fs))
      (nowhere_seen (length fs) w.end.names ((own_from (suc (suc m)) total ++ own_from 0 (suc m)) ++ replicate k Nowhere)
      (subst (λ ws. Seen (kept_out ws) ((own_from (suc (suc m)) total ++ own_from 0 (suc m)) ++ replicate k Nowhere)) (sym (front.1))
      (subst (λ ps. Seen (kept_out (front.0 ++ c0.names)) ps) (sym (append_assoc (own_from (suc (suc m)) total) (own_from 0 (suc m)) (replicate k Nowhere)))
      (own_seen (suc (suc m)) (front.0) c0.names (own_from 0 (suc m) ++ replicate k Nowhere)
      (subst (λ n. Seen (kept_out c0.names) (own_from 0 (suc n) ++ replicate k Nowhere)) (methods_counted p.types p.methods w.methods w.methods_are)
      (own_seen 0 (w.own ∷ w.methods) (map (λ (v : StableVariable). KeptOf v.of_type) p.stable) (replicate k Nowhere) (kept_seen p.stable)))))))

  hook_within : (o : Option Function) → HookWithin (count (group (methods ++ others o))) (place_of m o)
  hook_within None = tt
  hook_within (Some f) = let z : count (group (methods ++ others (Some f))) ≡ m + length (others (Some f)) = functions_many (Some f) in omega (arith, z)

  hook_stands : (o : Option Function) → IsSystem p.types inside o → WrittenFunctions (group (methods ++ others o)) → HookStands places (group (methods ++ others o)) (place_of m o)
  hook_stands None h j = tt
  hook_stands (Some f) h j =
      let facts : HookFacts p.types inside places seen (function f) = hook_facts p.types inside places seen f h (written_behind methods (optional_function p.after_upgrade) (function f) j) in (
        record { nodes = (function f).nodes; parameters = (function f).parameters; body = (function f).body },
        subst (λ n. function_in (group (methods ++ others (Some f))) n ≡ Some (record { nodes = (function f).nodes; parameters = (function f).parameters; body = (function f).body })) (length_map (λ (x : Method). with_context x.context (function x.function)) p.methods)
            (behind_others methods (optional_function p.after_upgrade) (function f)),
        facts.plain,
        facts.node,
        facts.stands,
      )

  -- the hook behind an upgrade is the last one
  later_within : (o : Option Function) → HookWithin (count (group (methods ++ (optional_function p.before_upgrade ++ optional_function o)))) (place_of after o)
  later_within None = tt
  later_within (Some f) =
      let x : count (group (methods ++ (optional_function p.before_upgrade ++ function f ∷ []))) ≡ length (methods ++ (optional_function p.before_upgrade ++ function f ∷ [])) = count_group (methods ++ (optional_function p.before_upgrade ++ function f ∷ [])) in
      let y : length (methods ++ (optional_function p.before_upgrade ++ function f ∷ [])) ≡ length methods + length (optional_function p.before_upgrade ++ function f ∷ []) = length-append methods (optional_function p.before_upgrade ++ function f ∷ []) in
      let z : length (optional_function p.before_upgrade ++ function f ∷ []) ≡ length (optional_function p.before_upgrade) + 1 = length-append (optional_function p.before_upgrade) (function f ∷ []) in
      let n : length methods ≡ m = length_map (λ (x : Method). with_context x.context (function x.function)) p.methods in
      omega (arith, x, y, z, n)

  called_behind : (o : Option Function) → IsSystem p.types (behind p w.end) o → CalledBehind (group (methods ++ (optional_function p.before_upgrade ++ optional_function o))) (place_of after o)
  called_behind None h = tt
  called_behind (Some f) h = (
    record { nodes = (function f).nodes; parameters = (function f).parameters; body = (function f).body },
    subst (λ fs. function_in (group fs) after ≡ Some (record { nodes = (function f).nodes; parameters = (function f).parameters; body = (function f).body })) (assoc methods (optional_function p.before_upgrade) (function f ∷ []))
        (subst (λ n. function_in (group ((methods ++ optional_function p.before_upgrade) ++ function f ∷ [])) n ≡ Some (record { nodes = (function f).nodes; parameters = (function f).parameters; body = (function f).body }))
        (length-append methods (optional_function p.before_upgrade) ∙ ap (λ n. n + length (optional_function p.before_upgrade)) (length_map (λ (x : Method). with_context x.context (function x.function)) p.methods))
        (behind_others (methods ++ optional_function p.before_upgrade) [] (function f))),
    (function_facts p.types f (behind p w.end) _ h.2).plain refl,
  )
    where
      assoc : (xs ys zs : List FunctionView) → (xs ++ ys) ++ zs ≡ xs ++ (ys ++ zs)
      assoc [] ys zs = refl
      assoc (x ∷ xs) ys zs = ap (λ r. x ∷ r) (assoc xs ys zs)

  -- ---- its cells

  cell_within : (v : StableVariable) → IsStable p.types w.end v → suc v.cell ≤ total
  cell_within v h =
      let z : suc v.cell ≤ length (front.0) = in_front (front.0) c0.names v.cell v.of_type around_none (subst (λ ws. slice_get ws v.cell ≡ Some (CellOf v.of_type)) (front.1) h.1) in
      z

  cells_within : (vs : List StableVariable) → Each (IsStable p.types w.end) vs → AllByRecursion (λ x. suc x ≤ count last + total) (map (λ (v : StableVariable). length fs + v.cell) vs)
  cells_within [] h = tt
  cells_within (v ∷ vs) h = (let z : suc v.cell ≤ total = cell_within v (h.0) in let y : count last ≡ length fs = count_group fs in omega (arith, z, y), cells_within vs (h.1))

  cells_behind : (vs : List StableVariable) → AllByRecursion (λ x. count last ≤ x) (map (λ (v : StableVariable). length fs + v.cell) vs)
  cells_behind [] = tt
  cells_behind (v ∷ vs) = (let y : count last ≡ length fs = count_group fs in omega (arith, y), cells_behind vs)

  parts_stand : PartsStand m last before later labels cells total
  parts_stand = record {
    enough = let z : count last ≡ m + length (others p.before_upgrade) = functions_many p.before_upgrade in omega (arith, z);
    hook = hook_within p.before_upgrade;
    upgraded = later_within p.after_upgrade;
    as_many = length_map (λ (v : StableVariable). length fs + v.cell) p.stable ∙ sym (length_map (λ (v : StableVariable). v.name) p.stable);
    within = cells_within p.stable w.stable;
  }

  methods_is : m ≡ length (map method p.methods)
  methods_is = sym (length_map method p.methods)

  stable_is : k ≡ length (map stable_variable p.stable)
  stable_is = sym (length_map stable_variable p.stable)

  both_lengths : (P : ℕ → ℕ → Type 0) → P m k → P (length (map method p.methods)) (length (map stable_variable p.stable))
  both_lengths P h = subst (λ a. P a (length (map stable_variable p.stable))) methods_is (subst (λ b. P m b) stable_is h)

  has_node : (n : ℕ) → p.nodes ≡ n → (1 ≤ n) ⊎ DeclaresNothing (program p).body
  has_node (suc n) e = inl (omega arith)
  has_node zero e =
      let z : in_list p.declarations ≤ 4 * p.nodes = w.nodes in
      inr (nothing_declared p.declarations (omega (arith, e, z)) (Group last (view.parts p)) tt)

  stands : ActorStands (program p)
  stands = record {
    last = last;
    total = total;
    before = before;
    after = later;
    labels = labels;
    cells = cells;
    named = λ upgraded. (at upgraded).named;
    declares = λ upgraded. subst (λ a. Declares a last before later labels cells total upgraded 0 (program p).body (at upgraded).named) methods_is (at upgraded).declares;
    parts = subst (λ a. PartsStand a last before later labels cells total) methods_is parts_stand;
    stand = both_lengths (λ a b. DeclarationsStand (start_scope a b) (program p).body) (starts_stand p w i);
    methods = both_lengths (λ a b. MethodsStand (places_known a b total last) (firsts a last)) (firsts_stand p.types inside places seen p.methods (others p.before_upgrade) apart.public ((at false).written i));
    hook = both_lengths (λ a b. HookStands (places_known a b total last) last before) (hook_stands p.before_upgrade apart.before_upgrade ((at false).written i));
    upgraded = called_behind p.after_upgrade w.after_upgrade;
    as_many = length_map (λ (v : StableVariable). length fs + v.cell) p.stable ∙ stable_is;
    declared = cells_behind p.stable;
    names =
        let z : length w.end.names ≡ names_declared p.declarations + length c0.names = declared_many p.types p.declarations c0 w.end w.declarations in
        let y : length c0.names ≡ suc m + k = around_many in
        omega (arith, z, y, many, few);
    nodes = has_node p.nodes refl;
  }

pub actors_stand : ActorsStand
actors_stand p w i apart few = stands p w i apart few
