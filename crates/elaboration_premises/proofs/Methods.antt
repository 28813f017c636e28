-- Methods are entered as elaboration asks.
use Rattle.std.proofs.Common.{◌≡◌, ◌≤◌, ℕ, zero, suc, inl, inr, List, [], ◌∷◌, length, map, Some, None, refl, sym, ap, ap₂, ◌∙◌, subst, slice_get, append-nil}
use Rattle.std.specs.Prelude.{codes, if◌then◌else◌}
use Rattle.std.proofs.lemmas.Slice.Eq.{bytes_eq-Decides}
use Rattle.mo_types.specs.declared.datum.Datum.TheVariants as part
use Rattle.mo_types.specs.declared.node.Field.{Field}
use Rattle.mo_types.specs.declared.node.Node.TheVariants as node
use Rattle.mo_types.specs.declared.node.TypeId.{TypeId}
use Rattle.mo_types.specs.Calls.{Call}
use Rattle.mo_types.specs.Graph.{head_at}
use Rattle.mo_types.specs.Sub.{find}
use Rattle.mo_values.specs.Shapes.{Bytes, Leaf, Object}
use Rattle.core_ir.specs.Values as core
use Rattle.typed_tree.specs.declared.action.Action.TheVariants as action
use Rattle.typed_tree.specs.Has.{field_want, by_mutability}
use Rattle.typed_tree.specs.Language as language
use Rattle.typed_tree.specs.Language.{Exp, Functions, NoFunction, AFunction, Val, Do, NoExp, AnExp}
use Rattle.typed_tree.specs.Patterns.{Pat, Pats, NoPat, APat, names_all}
use Rattle.typed_tree.specs.Substitution.{Slots, hide, count, put, put_functions}
use Rattle.typed_tree.specs.Wants.{Want, Of}
use Rattle.mo_meaning.specs.Acts as meaning
use Rattle.mo_meaning.specs.Acts.{Given}
use Rattle.mo_meaning.specs.Bodies.{context, called}
use Rattle.mo_meaning.specs.Configurations.{Surroundings}
use Rattle.mo_meaning.specs.Places.{operands}
use Rattle.mo_meaning.specs.Reduce.{reduce}
use Rattle.mo_soundness.specs.Keeps.{HasEach}
use Rattle.mo_soundness.specs.Lawful.{IsLawful}
use Rattle.mo_soundness.specs.Running.{Around, AnswerTypes, HasValue}
use Rattle.mo_soundness.specs.RunningPatterns.{PatternsTyped}
use Rattle.mo_soundness.specs.Worlds.{World}
use Rattle.mo_soundness.proofs.Found.{made_at}
use Rattle.program_soundness.specs.Agreement.{Agrees}
use Rattle.program_soundness.specs.Results.{GivesResults, AreResults}
use Rattle.program_soundness.specs.Roles.{Role, AMethod, in_group, ContextBinds, PlaysRole, RolesTyped, IsCallerType}
use Rattle.program_soundness.specs.Runs.{Begins}
use Rattle.program_soundness.specs.Worlds.{running}
use Rattle.program_soundness.proofs.Entering.{called_begins}
use Rattle.program_soundness.proofs.Given.{lawful_types}
use Rattle.program_soundness.proofs.Typed.{results_kept}
use Rattle.program_soundness.proofs.Turns.{grows_self, agrees_grow}
use Rattle.mo_machine.specs.Agrees.{unload_act}
use Rattle.mo_machine.specs.Unload.{unload, unload_list, unload_state, slots, before}
use Rattle.mo_machine.specs.Values.{Value, Closure, load, load_list}
use Rattle.mo_machine.proofs.Simulation.{agrees}
use Rattle.mo_machine.proofs.Unloaded.{unload_load, unload_load_list, before_operands}
use Rattle.elaboration.specs.Elaboration.{number_of_parameters}
use Rattle.elaboration.specs.Meeting.{Meets, MeetEach}
use Rattle.elaboration_values.specs.Belonging.{Known, Belongs, EachBelongs}
use Rattle.elaboration_runs.specs.Entering.{Function, function_in}
use Rattle.elaboration_premises.specs.Methods.{focus, entry, MethodsMeet, MethodsAreTyped, MethodsServe}
use Rattle.elaboration_steps.specs.Follows.{ParametersMeet}
use Rattle.elaboration_premises.proofs.Calling.{AllHave, meet_all}
use Rattle.elaboration_premises.proofs.Executions.{begun, results_placed}
use Rattle.elaboration_premises.proofs.Meeting.{same, meets}

module _ (s : Surroundings) (lawful : IsLawful (running s.types).head) (answers : AnswerTypes) (kinds : List TypeId) where
  abbrev W : World
  W = running s.types

  -- ---- the context of a call

  found_field : (f : Field TypeId) (l : Bytes) → f.label ≡ l → find l (f ∷ []) ≡ Some f
  found_field f l e = ap (λ b. if b then Some f else None) ((bytes_eq-Decides f.label l).1 e)

  context_has : (t : TypeId) (caller : Bytes) → length caller ≤ 29 → IsCallerType W.head t → HasValue W answers kinds (Of t) (context caller)
  context_has t caller short c =
      made_at W answers kinds t (node.Object (c.0 ∷ [])) (Object (codes "caller" ∷ [])) (language.AValue (language.leaf (part.Principal caller)) language.NoValue) c.1
      ((inl c.2, tt), (subst (λ o. HasValue W answers kinds (field_want o) (language.leaf (part.Principal caller))) (sym (found_field c.0 (codes "caller") c.2)) principal, tt))
    where
      principal : HasValue W answers kinds (by_mutability c.0.mutable c.0.part) (language.leaf (part.Principal caller))
      principal = subst (λ b. HasValue W answers kinds (by_mutability b c.0.part) (language.leaf (part.Principal caller))) (sym c.3)
          (made_at W answers kinds c.0.part node.Principal (Leaf (part.Principal caller)) language.NoValue c.4 ((tt, short), tt))

  loaded_have : (ts : List TypeId) (vs : List language.Value) → HasEach W answers kinds (map (λ t. Of t) ts) vs → AllHave W answers kinds ts (load_list vs)
  loaded_have [] [] h = tt
  loaded_have [] (v ∷ vs) h = absurd h
  loaded_have (t ∷ ts) [] h = absurd h
  loaded_have (t ∷ ts) (v ∷ vs) h = (subst (HasValue W answers kinds (Of t)) (sym (unload_load v)) h.0, loaded_have ts vs h.1)

  module _ (known : List Known) (caller : Bytes) (short : length caller ≤ 29) where
    context_meets : (p : Pat) (ns : List (Want TypeId)) (w : core.Value) → ContextBinds s.types p ns → Belongs known (load (context caller)) w → Meets p w
    context_meets p ns w (inl h) b = subst (λ p. Meets p w) (sym h.0) tt
    context_meets p ns w (inr h) b = meets W answers kinds lawful p h.0 ns (context caller) w h.2 (context_has h.0 caller short h.1) (same known (load (context caller)) w b)

    abbrev Entered : Function → List core.Value → Type 0
    Entered f ws = (length ws ≡ number_of_parameters f.parameters) × MeetEach f.parameters ws

    as_many : (qs : Pats) (ts : List TypeId) (ns : List (Want TypeId)) (vs : List Value) (ws : List core.Value) → PatternsTyped W.head qs ts ns → AllHave W answers kinds ts vs → EachBelongs known vs ws → length ws ≡ number_of_parameters qs
    as_many NoPat [] ns [] [] h i b = refl
    as_many NoPat [] ns [] (w ∷ ws) h i b = absurd b
    as_many NoPat [] ns (v ∷ vs) ws h i b = absurd i
    as_many NoPat (t ∷ ts) ns vs ws h i b = absurd h
    as_many (APat q qs) [] ns vs ws h i b = absurd h
    as_many (APat q qs) (t ∷ ts) ns [] ws h i b = absurd i
    as_many (APat q qs) (t ∷ ts) ns (v ∷ vs) [] h i b = absurd b
    as_many (APat q qs) (t ∷ ts) ns (v ∷ vs) (w ∷ ws) h i b = ap suc (as_many qs ts h.1 vs ws h.4 i.1 b.1)

    played : (c : Around) (ts rs : List TypeId) (qs : Pats) (e : Exp) (vs : List Value) (ws : List core.Value) → PlaysRole s.types answers kinds c (AMethod ts rs) qs e → AllHave W answers kinds ts vs → EachBelongs known (load (context caller) ∷ vs) ws
        → (length ws ≡ number_of_parameters qs) × MeetEach qs ws
    played c ts rs NoPat e vs ws h i b = absurd h
    played c ts rs (APat p qs) e vs [] h i b = absurd b
    played c ts rs (APat p qs) e vs (w ∷ ws) h i b =
        (ap suc (as_many qs ts h.1 vs ws h.4 i b.1), (context_meets p h.0 w h.3 b.0, meet_all W answers kinds lawful known qs ts h.1 vs ws h.4 i b.1))

    method_meets : (c : Around) (ts rs : List TypeId) (vs : List Value) (f : Function) (ws : List core.Value) → AllHave W answers kinds ts vs → EachBelongs known (load (context caller) ∷ vs) ws
        → (o : Slots) (fns : Functions) (roles : List Role) (n : ℕ) → RolesTyped s.types answers kinds c roles (put_functions o fns) → slice_get roles n ≡ Some (AMethod ts rs) → function_in fns n ≡ Some f → Entered f ws
    method_meets c ts rs vs f ws i b o NoFunction roles n h q e = absurd (let z : None ≡ Some f = e in cc)
    method_meets c ts rs vs f ws i b o (AFunction how m qs body fns) [] n h q e = absurd h
    method_meets c ts rs vs f ws i b o (AFunction how m qs body fns) (role ∷ roles) zero h q e =
        let same : role ≡ AMethod ts rs = cc in
        let there : f.parameters ≡ qs = (let z : Some (record { nodes = m; parameters = qs; body = body }) ≡ Some f = e in ap (λ (g : Function). g.parameters) (let y : f ≡ record { nodes = m; parameters = qs; body = body } = cc in y)) in
        subst (λ qs. (length ws ≡ number_of_parameters qs) × MeetEach qs ws) (sym there) (played c ts rs qs (put (hide (names_all qs) o) body) vs ws (subst (λ role. PlaysRole s.types answers kinds c role qs (put (hide (names_all qs) o) body)) same h.0) i b)
    method_meets c ts rs vs f ws i b o (AFunction how m qs body fns) (role ∷ roles) (suc n) h q e = method_meets c ts rs vs f ws i b o fns roles n h.1 q e

pub methods_meet : MethodsMeet
methods_meet s graph basics answers kinds group which env ps rs caller vs call known f ws e b =
    let lawful = lawful_types s.types graph basics in
    let h = call.function in
    method_meets s lawful answers kinds known caller call.principal (in_group h.0) ps rs (load_list vs) f ws (loaded_have s lawful answers kinds ps vs call.arguments) b (hide (count group) (slots env)) group h.0 which h.1 h.2 e

-- the expression of the call
call_is : (f : Value) (caller : Bytes) (vs : List language.Value) → Do action.Call (before (f ∷ load (context caller) ∷ load_list vs) NoExp) ≡ called (unload f) caller vs
call_is f caller vs =
    ap (λ es. Do action.Call (AnExp (Val (unload f)) es))
    (ap₂ (λ v es. AnExp (Val v) es) (unload_load (context caller)) (before_operands (load_list vs) ∙ ap operands (unload_load_list vs)))

pub methods_are_typed : MethodsAreTyped
methods_are_typed s graph basics answers kinds group which env ps rs caller vs call may store st agreed cost later f k q =
    let W = running s.types in
    let here = focus s answers kinds group which env ps rs caller vs in
    let e : reduce (head_at s.types) None (unload_list store) (called (unload (Closure group which env)) caller vs) ≡ meaning.Goes cost (unload_list later) (unload_state f k) =
    ap (λ x. reduce (head_at s.types) None (unload_list store) x) (sym (call_is (Closure group which env) caller vs)) ∙ (agrees (head_at s.types) None store here []).1 ∙ ap unload_act q in
    let b : Begins W (GivesResults W rs) answers kinds (meaning.Goes cost (unload_list later) (unload_state f k)) =
    subst (Begins W (GivesResults W rs) answers kinds) e
    (called_begins s.types (lawful_types s.types graph basics) answers kinds may None (unload_list store) ps rs (unload (Closure group which env)) caller vs st call.function call.principal call.arguments) in (
      answers,
      b.0,
      grows_self answers,
      b.1,
      (
        (
          b.2,
          λ m. subst (λ (cs : List (Call (List TypeId) Given)). Agrees W answers b.0 (record { first = s.table.first; calls = cs })) (sym (append-nil s.table.calls)) (agrees_grow W answers kinds b.0 b.1 s.table agreed),
          λ n. refl,
        ),
        b.3,
      ),
    )

-- ---- its execution

-- what the function of this place asks of its arguments
parameters_of : (fns : Functions) (n : ℕ) (ws : List core.Value) → ((f : Function) → function_in fns n ≡ Some f → MeetEach f.parameters ws) → ParametersMeet fns n ws
parameters_of NoFunction n ws h = tt
parameters_of (AFunction how m ps body fns) zero ws h = h (record { nodes = m; parameters = ps; body = body }) refl
parameters_of (AFunction how m ps body fns) (suc n) ws h = parameters_of fns n ws h

pub methods_serve : MethodsServe
methods_serve s graph basics answers kinds group which env ps rs caller vs call may store st agreed =
    let W = running s.types in
    let e = sym (call_is (Closure group which env) caller vs) in
    begun s graph basics (GivesResults W rs) (AreResults W rs) (results_kept W rs (lawful_types s.types graph basics)) (results_placed s.types rs) answers kinds (entry s answers kinds group which env ps rs caller vs store) refl (
      st,
      (λ m. subst (λ (cs : List (Call (List TypeId) Given)). Agrees W answers kinds (record { first = s.table.first; calls = cs })) (sym (append-nil s.table.calls)) agreed),
      (λ n. refl),
    )
    (subst (λ x. Begins W (GivesResults W rs) answers kinds (reduce (head_at s.types) None (unload_list store) x)) e
    (called_begins s.types (lawful_types s.types graph basics) answers kinds may None (unload_list store) ps rs (unload (Closure group which env)) caller vs st call.function call.principal call.arguments))
    (record {
      suits = λ known ws b. parameters_of group which ws (λ f q. (methods_meet s graph basics answers kinds group which env ps rs caller vs call known f ws q b).1);
      handles = λ known u b. tt;
    })
