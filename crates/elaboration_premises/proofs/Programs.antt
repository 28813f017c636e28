-- Well-typed programs are as elaboration asks.
use Rattle.std.proofs.Common.{◌≡◌, inl, inr, ℕ, zero, suc, ◌+◌, ◌-◌, true, false, List, [], ◌∷◌, ◌++◌, length, length-append, map, Option, Some, None, arith, refl, sym, ap, ap₂, ◌∙◌, subst}
use Rattle.mo_types.specs.declared.node.Sort.TheVariants as sort
use Rattle.mo_types.specs.declared.node.TypeId.{TypeId}
use Rattle.std.specs.Prelude.{replicate}
use Rattle.mo_types.specs.Graph.{Slot}
use Rattle.mo_types.specs.Values.{copies}
use Rattle.typed_tree.specs.declared.expression.Function.{Function}
use Rattle.typed_tree.specs.declared.expression.Step.{Step}
use Rattle.typed_tree.specs.declared.pattern.TypedPattern.{TypedPattern}
use Rattle.typed_tree.specs.declared.program.Method.{Method}
use Rattle.typed_tree.specs.declared.program.StableVariable.{StableVariable}
use Rattle.typed_tree.specs.ActionTypes.{Context}
use Rattle.typed_tree.specs.Language.{Exp, Functions, Val, Name, Do, If, Switch, Group, Frame, Label, While, Repeat, For, Try, Update}
use Rattle.typed_tree.specs.ProgramView.{context_pattern, with_context, functions_of, optional_function, optional_name, parts}
use Rattle.typed_tree.specs.Substitution.{count}
use Rattle.typed_tree.specs.Typing.{with_names}
use Rattle.typed_tree.specs.View.{FunctionView, group, block, declaration, function}
use Rattle.typed_tree.specs.Wants.{Want, Anything, KeptOf, in_function}
use Rattle.typed_tree.specs.WellTyped as well_typed
use Rattle.typed_tree.specs.WellTyped.{AllDeclare, AreMethods, ContextNames, IsSystem, around}
use Rattle.elaboration.specs.Scopes.{Place, Nowhere, Scope, under, in_body}
use Rattle.elaboration.specs.Checks.{Named, Source, check, check_all, behind}
use Rattle.elaboration.specs.Elaboration.{number_of_parameters, on_nearest, on_parameters}
use Rattle.elaboration.specs.Programs.{Hook, hook_at, hook_of, kept_places, own_from, start_scope}
use Rattle.elaboration_forms.specs.Elaborates.{unseen, StandFunctions, StandsAlone, DeclarationsStand}
use Rattle.elaboration_premises.specs.Scoped.{Seen, Written, WrittenFunctions, TreesStand}
use Rattle.elaboration_premises.specs.Programs.{StartsStand, MethodsStand, HooksStand}
use Rattle.elaboration_premises.proofs.Trees.{Opening, inside_seen, bound_seen, group_seen, not_shared, bound_by, step_holds, function_holds, expression_holds}

pub trees_stand : TreesStand
trees_stand types e c w h b s k i = expression_holds types e c w h b s k i

-- ---- functions behind the declarations

context_bound : (types : List Slot) (o : Option TypedPattern) (ns : List (Want TypeId)) → ContextNames types o ns → (v : Source) (n : ℕ) → length (check (context_pattern o) v n).bound ≡ length ns
context_bound types None ns h v n = sym (ap length h)
context_bound types (Some p) ns h v n = bound_by types p [] h.0 ns h.2 v n

pub methods_stand : MethodsStand
methods_stand types c m h i s k =
    let b = h.body in
    let r = function_holds types m.function c _ b.4 true (λ n. refl) i in
    let p = context_pattern m.context in
    let ps = (function m.function).parameters in
    let level = suc (number_of_parameters ps) + s.names - 1 in
    let n = suc (number_of_parameters ps) + s.names in
    let inner = (check p (Named level) n).names in
    r.2 (behind (on_parameters (with_context m.context (function m.function)).parameters s) (in_body (number_of_parameters (with_context m.context (function m.function)).parameters) s))
    (bound_seen (b.0 ++ r.0) (map in_function c.names) ((check p (Named level) n).bound ++ (check_all ps (level - 1) inner).bound) s.places
    (length-append (check p (Named level) n).bound (check_all ps (level - 1) inner).bound ∙ ap₂ (λ x y. x + y) (context_bound types m.context b.0 b.2 (Named level) n) (r.1 (level - 1) inner) ∙ sym (length-append b.0 r.0)) k)

pub hooks_stand : HooksStand
hooks_stand types c f h i s k =
    let r = function_holds types f c _ h.2 false (not_shared sort.Local false refl) i in
    let ps = (function f).parameters in
    r.2 (behind (on_parameters ps s) (in_body (number_of_parameters ps) s))
    (bound_seen r.0 (map in_function c.names) (on_parameters ps s).bound s.places (r.1 (number_of_parameters ps + s.names - 1) (number_of_parameters ps + s.names)) k)

-- ---- declarations

-- a group of functions is not the last one, where further declarations stand behind it
group_declared : (s : Scope) (fns : Functions) (b : Exp) → StandFunctions (under (count fns) s) fns → DeclarationsStand (under (count fns) s) b → DeclarationsStand s (Group fns b)
group_declared s fns (Switch e cases) h i = (h, i)
group_declared s fns (Group gs b) h i = (h, i)
group_declared s fns (Val v) h i = absurd i
group_declared s fns (Name x) h i = absurd i
group_declared s fns (Do a es) h i = absurd i
group_declared s fns (If c a b) h i = absurd i
group_declared s fns (Frame n e) h i = absurd i
group_declared s fns (Label e) h i = absurd i
group_declared s fns (While c b) h i = absurd i
group_declared s fns (Repeat b c) h i = absurd i
group_declared s fns (For p e b) h i = absurd i
group_declared s fns (Try e p b) h i = absurd i
group_declared s fns (Update o e f) h i = absurd i

module _ (types : List Slot) where
  declared : (ds : List Step) (c end : Context) → AllDeclare types c ds end → c.body ≡ sort.Local → (last : Exp) → ((s : Scope) → Seen end.names s.places → Written last → DeclarationsStand s last) → (s : Scope) → Seen c.names s.places → Written (block (map declaration ds) last)
      → DeclarationsStand s (block (map declaration ds) last)
  declared [] c end h l last e s k i = e s (subst (λ (c : Context). Seen c.names s.places) (sym h) k) i
  declared (d ∷ ds) c end h l last e s k i =
      let r = step_holds types d c h.0 h.1 false s (k, not_shared c.body false l) (block (map declaration ds) last) i in
      by r.0 (λ t q. declared ds (with_names h.0 c) end h.2 l last e t q r.1)
    where
      by : Opening types false s h.0 (declaration d) → ((t : Scope) → Seen (h.0 ++ c.names) t.places → DeclarationsStand t (block (map declaration ds) last)) → DeclarationsStand s (declaration d (block (map declaration ds) last))
      by (inl o) f =
          subst (DeclarationsStand s) (sym (o.2 (block (map declaration ds) last)))
          (o.3, f (behind (on_nearest o.0 s) s) (bound_seen h.0 c.names (on_nearest o.0 s).bound s.places o.4 k))
      by (inr o) f =
          subst (DeclarationsStand s) (sym (o.1 (block (map declaration ds) last)))
          (group_declared s o.0 (block (map declaration ds) last) o.2 (f (under (count o.0) s) (group_seen h.0 c.names s.names (count o.0) s.places o.3 k)))

  methods_counted : (ms : List Method) (ws : List (Want TypeId)) → AreMethods types ms ws → length ms ≡ length ws
  methods_counted [] [] h = refl
  methods_counted [] (w ∷ ws) h = absurd h
  methods_counted (m ∷ ms) [] h = absurd h
  methods_counted (m ∷ ms) (w ∷ ws) h = ap suc (methods_counted ms ws h.1)

own_seen : (ws rest : List (Want TypeId)) (i n : ℕ) (places : List Place) → n ≡ length ws → Seen rest places → Seen (ws ++ rest) (own_from i n ++ places)
own_seen [] rest i zero places e h = h
own_seen [] rest i (suc n) places e h = absurd (let z : suc n ≡ 0 = e in omega (arith, z))
own_seen (w ∷ ws) rest i zero places e h = absurd (let z : 0 ≡ suc (length ws) = e in omega (arith, z))
own_seen (w ∷ ws) rest i (suc n) places e h = (λ u. tt, own_seen ws rest (suc i) n places (let z : suc n ≡ suc (length ws) = e in omega (arith, z)) h)

kept_seen : (vs : List StableVariable) → Seen (map (λ v. KeptOf v.of_type) vs) (kept_places (length vs))
kept_seen [] = tt
kept_seen (v ∷ vs) = (λ u. tt, kept_seen vs)

-- ---- the hook behind an upgrade

assoc : {A : Type 0} (xs ys zs : List A) → (xs ++ ys) ++ zs ≡ xs ++ (ys ++ zs)
assoc [] ys zs = refl
assoc (x ∷ xs) ys zs = ap (λ r. x ∷ r) (assoc xs ys zs)

mapped_many : {A B : Type 0} (f : A → B) (xs : List A) → length (map f xs) ≡ length xs
mapped_many f [] = refl
mapped_many f (x ∷ xs) = ap suc (mapped_many f xs)

group_many : (fs : List FunctionView) → count (group fs) ≡ length fs
group_many [] = refl
group_many (f ∷ fs) = ap suc (group_many fs)

-- functions that nothing uses have no place
copies_seen : (n : ℕ) (ws : List (Want TypeId)) (places : List Place) → Seen (map in_function ws) places → Seen (map in_function (copies n Anything ++ ws)) (replicate n Nowhere ++ places)
copies_seen zero ws places h = h
copies_seen (suc n) ws places h = (λ u. absurd u, copies_seen n ws places h)

last_hook : (fs : List FunctionView) (f : FunctionView) → hook_at (length fs) (group (fs ++ f ∷ [])) ≡ Some (record { nodes = f.nodes; parameters = f.parameters; body = f.body })
last_hook [] f = refl
last_hook (g ∷ fs) f = last_hook fs f

last_written : (fs : List FunctionView) (f : FunctionView) → WrittenFunctions (group (fs ++ f ∷ [])) → Written f.body
last_written [] f h = h.0
last_written (g ∷ fs) f h = last_written fs f (h.1)

hook_alone : (types : List Slot) (c : Context) (fs : List FunctionView) (o : Option Function) → IsSystem types c o → (n : ℕ) → n ≡ length fs → WrittenFunctions (group (fs ++ optional_function o)) → (m : ℕ) (s : Scope) → Seen (map in_function c.names) (replicate m Nowhere ++ s.places)
    → StandsAlone s m (hook_of (optional_name n o) (group (fs ++ optional_function o)))
hook_alone types c fs None h n e w m s k = tt
hook_alone types c fs (Some f) h n e w m s k =
    subst (λ i. StandsAlone s m (hook_at i (group (fs ++ function f ∷ [])))) (sym e)
    (subst (λ (o : Option Hook). StandsAlone s m o) (sym (last_hook fs (function f))) (hooks_stand types c f h (last_written fs (function f) w) (unseen m s) k, tt))

pub starts_stand : StartsStand
starts_stand p w i =
    declared p.types p.declarations (around p.types w.own w.methods p.stable) w.end w.declarations refl (Group (group (functions_of p)) (parts p)) at_end (start_scope (length p.methods) (length p.stable))
    (own_seen (w.own ∷ w.methods) (map (λ v. KeptOf v.of_type) p.stable) 0 (suc (length p.methods)) (kept_places (length p.stable)) (ap suc (methods_counted p.types p.methods w.methods w.methods_are)) (kept_seen p.stable)) i
  where
    methods : List FunctionView
    methods = map (λ m. with_context m.context (function m.function)) p.methods

    before : List FunctionView
    before = optional_function p.before_upgrade

    many : length p.methods + length before ≡ length (methods ++ before)
    many = ap (λ n. n + length before) (sym (mapped_many (λ (m : Method). with_context m.context (function m.function)) p.methods)) ∙ sym (length-append methods before)

    at_end : (s : Scope) → Seen w.end.names s.places → Written (Group (group (functions_of p)) (parts p)) → DeclarationsStand s (Group (group (functions_of p)) (parts p))
    at_end s k i =
        subst (λ fs. WrittenFunctions (group fs) → StandsAlone s (count (group (functions_of p))) (hook_of (optional_name (length p.methods + length before) p.after_upgrade) (group fs))) (assoc methods before (optional_function p.after_upgrade))
        (λ written. hook_alone p.types (well_typed.behind p w.end) (methods ++ before) p.after_upgrade w.after_upgrade (length p.methods + length before) many written (count (group (functions_of p))) s
        (subst (λ n. Seen (map in_function (copies (length (functions_of p)) Anything ++ w.end.names)) (replicate n Nowhere ++ s.places)) (sym (group_many (functions_of p)))
        (copies_seen (length (functions_of p)) w.end.names s.places (inside_seen w.end.names s.places k)))) (i.0)
