-- The actor of an elaborated program keeps to that of the typed program.
use Rattle.std.proofs.Common.{◌≡◌, ℕ, zero, suc, ◌+◌, ◌*◌, ◌≤◌, refl, sym, ap, ap₂, ◌∙◌, subst, List, [], ◌∷◌, ◌++◌, length, map, Option, Some, None, Bool, true, false, arith}
use Rattle.std.specs.Prelude.{cond, codes, nat_eq, slice_set}
use Rattle.std.proofs.Math.Nat.{mul-add}
use Rattle.play_script.specs.declared.event.Event.{Event}
use Rattle.play_script.specs.declared.event.Event.TheVariants as event
use Rattle.mo_types.specs.declared.node.TypeId.{TypeId}
use Rattle.mo_types.specs.Calls.{State, Answered, Lost, Call, CallTable, call_at, call_from, is_open_state, open_count, set_from, set_state, state_of, no_calls}
use Rattle.mo_types.specs.Graph.{head_at}
use Rattle.mo_values.specs.Alike.{AlikeAll}
use Rattle.mo_values.specs.Shapes.{Bytes, Error, shapes}
use Rattle.mo_actor.specs.Completions.{activation_after, committed, open_call}
use Rattle.mo_actor.specs.CallAnswers.{Received, Reply, Reject, reply_value, received_value, reply_reading, received_reading, filled, broken_by, broken, resumed, answering, future_value, value_in_state, no_effects}
use Rattle.mo_actor.specs.Executions.{Completes, Execution, ReadingCost, after_reading, trapping}
use Rattle.mo_actor.specs.IncomingCalls.{arrived, entered_body, entered}
use Rattle.mo_actor.specs.Languages.{Language}
use Rattle.mo_actor.specs.Measures.{Measure}
use Rattle.mo_actor.specs.Passes.{CommittedState, held_calls, committed_state, fresh_state, AlikeResults, AlikeMethods, AlikeEndings, AlikeActors, AlikeEffects, answer_event}
use Rattle.mo_actor.specs.Programs as actor
use Rattle.mo_actor.specs.Programs.{Effects}
use Rattle.mo_actor.specs.Results.{Result, Completed, HasResult}
use Rattle.mo_actor.specs.States.{Activation, IsDead, Actor, activation_at, waiting_on}
use Rattle.mo_actor.specs.Upgrades.{saving}
use Rattle.core_ir.specs.Actor.{MethodEntry, Pending, core_language, context_of}
use Rattle.core_ir.specs.Actor as core_actor
use Rattle.core_ir.specs.CoreMachine as core_machine
use Rattle.core_ir.specs.Contexts.{call_context}
use Rattle.core_ir.specs.Expressions.{Core}
use Rattle.core_ir.specs.Messages.{Messages}
use Rattle.core_ir.specs.Values as core_value
use Rattle.core_ir.specs.Worlds as worlds
use Rattle.core_laws.proofs.ComesOut.{Covers}
use Rattle.core_actors.proofs.KeptCalls.{lengths}
use Rattle.core_actors.proofs.KeptRuns.{out_as}
use Rattle.typed_tree.specs.Language as language
use Rattle.typed_tree.specs.Programs.{Program}
use Rattle.mo_meaning.specs.Acts.{Given}
use Rattle.mo_meaning.specs.Actor.{method_from, surroundings, reject_code, results_given}
use Rattle.mo_meaning.specs.Coding.{Types, Coding}
use Rattle.mo_meaning.specs.Kernel.{Entry, Kept}
use Rattle.mo_meaning.specs.Messages.{packed, read_values, reading_cost}
use Rattle.mo_meaning.specs.Places.{values_of_list}
use Rattle.mo_meaning.specs.Starting.{all_taken, all_kept}
use Rattle.mo_machine.specs.ActorLanguage.{machine, Fields, Waiting}
use Rattle.mo_machine.specs.Environments.{with_group}
use Rattle.mo_machine.specs.States as states
use Rattle.mo_machine.specs.Values.{Value, load, load_all, load_list, shapes_of}
use Rattle.elaboration_values.specs.Belonging.{Known, Names, Belongs, EachBelongs}
use Rattle.elaboration_steps.proofs.Growth.{names_stay}
use Rattle.elaboration_steps.proofs.Paths.{nothing_more}
use Rattle.elaboration_runs.specs.Waiting.{SameState}
use Rattle.elaboration_actors.specs.Bodies.{Follows, GivenBelongs, FieldsBelong, EffectsBelong, SameMethod}
use Rattle.elaboration_actors.specs.Saving.{SavingBelongs}
use Rattle.elaboration_actors.specs.Actors.{SameMessages, ReadBelongs, StatesBelong, CallsBelongTogether, WaitsBelong, HeldBelong, globals, context_with, MethodsBelong, Begun, Related, Weighs, SoundActor, StartsAndSaves, ActorsKeep}
use Rattle.elaboration_actors.specs.Back.{StartsAndSavesEnd}
use Rattle.elaboration_actors.specs.Ends.{EndsToo}
use Rattle.elaboration_actors.specs.Laws.{SameSurroundings}
use Rattle.elaboration_actors.proofs.Calls.{MaybeGiven, values_same, Each, each_of, held_of, as_many, states_same, each_at, each_set, each_arrived, each_owner, each_left, each_grows, calls_alike, endings_alike}
use Rattle.elaboration_actors.proofs.Entries.{methods, methods_end}
use Rattle.elaboration_actors.proofs.Incompatible.{incompatible_follow, incompatible_end}
use Rattle.elaboration_actors.proofs.Results.{comes_out, trapping_ends, trapping_follows, at_once_follows, reading_follows}
use Rattle.elaboration_actors.proofs.Resumptions.{resumptions, resumptions_end}

adds_up : (y w a b c : ℕ) → y ≤ a → w ≤ b → c ≡ a + b → y + w ≤ c
adds_up y w a b c h i e = omega (arith, h, i, e)

one_more : {A : Type 0} (xs : List A) (x : A) → length (xs ++ x ∷ []) ≡ suc (length xs)
one_more [] x = refl
one_more (y ∷ xs) x = ap suc (one_more xs x)

-- ---- messages

reject_same : (n : ℕ) → reject_code n ≡ core_actor.reject_code n
reject_same zero = refl
reject_same (suc zero) = refl
reject_same (suc (suc zero)) = refl
reject_same (suc (suc (suc zero))) = refl
reject_same (suc (suc (suc (suc zero)))) = refl
reject_same (suc (suc (suc (suc (suc zero))))) = refl
reject_same (suc (suc (suc (suc (suc (suc n)))))) = refl

module _ (known : List Known) where
  parts_belong : (vs : List language.Value) (ws : List core_value.Value) → EachBelongs known (load_list vs) ws → AlikeAll (Names known) (shapes_of (load_all (values_of_list vs))) (shapes ws)
  parts_belong [] [] a = tt
  parts_belong [] (w ∷ ws) a = absurd a
  parts_belong (v ∷ vs) [] a = absurd a
  parts_belong (v ∷ vs) (w ∷ ws) a = (a.0, parts_belong vs ws (a.1))

  packed_belongs : (vs : List language.Value) (ws : List core_value.Value) → EachBelongs known (load_list vs) ws → Belongs known (load (packed vs)) (core_actor.packed ws)
  packed_belongs [] [] a = (refl, tt)
  packed_belongs [] (w ∷ ws) a = absurd a
  packed_belongs (v ∷ vs) [] a = absurd a
  packed_belongs (v ∷ []) (w ∷ []) a = a.0
  packed_belongs (v ∷ []) (w ∷ x ∷ ws) a = absurd (a.1)
  packed_belongs (v ∷ u ∷ vs) (w ∷ []) a = absurd (a.1)
  packed_belongs (v ∷ u ∷ vs) (w ∷ x ∷ ws) a = (refl, parts_belong (v ∷ u ∷ vs) (w ∷ x ∷ ws) a)

-- what is done with two methods that are the same
methods_by : {A B : Type 0} (Does Other : A → B → Type 0) (m : Option A) (n : Option B) → AlikeMethods Does m n → ((a : A) (b : B) → m ≡ Some a → Does a b → Other a b) → AlikeMethods Other m n
methods_by Does Other None None h f = tt
methods_by Does Other None (Some b) h f = absurd h
methods_by Does Other (Some a) None h f = absurd h
methods_by Does Other (Some a) (Some b) h f = f a b refl h

module _ (times : ℕ) (one : 1 ≤ times) (coding : Coding) (types : Types) (p : Program) (first : ℕ) (own : Bytes) (Allowed : Event → Type 0) (Safe : CommittedState machine → Type 0) (Fits : Kept → Type 0) (sound : SoundActor times coding types p first own Allowed Safe Fits)
    (core : Core) (messages : Messages Kept) (memory : ℕ) (same : SameMessages coding types p messages) (head_is : core.head ≡ head_at types) (starting : StartsAndSaves times coding types p first own Allowed Safe Fits core messages memory)
    (pays_old pays_new : Measure) (covers : (c d : ℕ) → d ≤ times * c → Covers times pays_old pays_new first c memory d) where
  abbrev L : Language
  L = core_language core_machine.Waiting Kept

  abbrev P : actor.Program machine
  P = states.with_states coding first types p

  abbrev Q : actor.Program L
  Q = core_actor.actor_program (core_machine.core_machine core) messages core memory

  abbrev R : CommittedState machine → CommittedState L → Type 0
  R s t = Related coding types p core messages own Safe s t

  abbrev Alike : Actor machine → Actor L → Type 0
  Alike a b = AlikeActors {S = machine} {T = L} R (Weighs times) a b

  abbrev All : List core_value.Value → List core_value.Value
  All names = globals core own names

  abbrev E : List core_value.Value → List Known → ℕ → List (Call (List TypeId) Given) → List (Call (List TypeId) worlds.Given) → List (Activation machine) → List (Activation L) → Type 0
  E names known n cs ds xs ys = Each core own names known n cs ds xs ys

  abbrev Left : Value → List core_value.Value → List Known → Effects machine → Effects L → Type 0
  Left exports names known x y = EffectsBelong core names (All names) exports known x y

  -- ---- calls so far

  results_same : (names : List core_value.Value) (known : List Known) (o : Option (List language.Value)) (o' : Option (List core_value.Value)) → ReadBelongs o o' → MaybeGiven core own names known (results_given o) (core_actor.results_given (core_machine.core_machine core) messages core o')
  results_same names known None None r = tt
  results_same names known None (Some ws) r = absurd r
  results_same names known (Some vs) None r = absurd r
  results_same names known (Some vs) (Some ws) r = packed_belongs known vs ws (r known)

  table_of : (ta : CallTable (List TypeId) Given) (tb : CallTable (List TypeId) worlds.Given) (names : List core_value.Value) (known : List Known) (xs : List (Activation machine)) (ys : List (Activation L)) → ta.first ≡ tb.first → E names known ta.first ta.calls tb.calls xs ys
      → SameSurroundings messages core own tb names (surroundings coding types own ta)
  table_of ta tb names known xs ys e each = record {
    head = head_is;
    surrounded = λ nodes. record {
      room = (as_many core own names known ta.first ta.calls tb.calls xs ys each).1;
      next = ap₂ (λ m n. m + n) (sym e) ((as_many core own names known ta.first ta.calls tb.calls xs ys each).0);
      bytes = λ known ts vs ws al. same.spell known ts vs ws al;
    };
    accounted = λ nodes. record {
      own = refl;
      states = λ number. subst (λ n. SameState (state_of (call_from ta.first ta.calls number)) (state_of (call_from n tb.calls number))) e (states_same core own names known ta.first number ta.calls tb.calls xs ys each);
    };
  }

  eachs : (a : Actor machine) (b : Actor L) (al : Alike a b) → E b.store.names al.related.known a.table.first a.table.calls b.table.calls a.activations b.activations
  eachs a b al =
      each_of core own b.store.names al.related.known a.table.first a.table.calls b.table.calls a.activations b.activations
      (subst (λ n. HeldBelong core own b.store.names al.related.known (held_calls a.table.first a.table.calls a.activations) (held_calls n b.table.calls b.activations)) (sym al.first) al.related.calls)

  -- ---- methods, where further groups are made and names are the same

  method_as : (names : List core_value.Value) (known more : List Known) (exports : Value) (table : CallTable (List TypeId) worlds.Given) (entry : Entry) (m : MethodEntry) → SameMethod core (context_with coding types p core messages own names) known exports entry m
      → SameMethod core (context_of (core_machine.core_machine core) messages core own table names) (known ++ more) exports entry m
  method_as names known more exports table entry m e = record {
    parameters = e.parameters;
    results = e.results;
    group = e.group;
    which = e.which;
    env = e.env;
    function = e.function;
    is = e.is;
    method = e.method;
    there = e.there;
    same = record {
      there = e.same.there;
      places = e.same.places;
      code = e.same.code;
      elaborates = e.same.elaborates;
      names = names_stay core.groups known more (All names) e.same.places (with_group e.group e.env) [] e.same.names;
      is = e.same.is;
    };
  }

  -- without further groups
  abbrev method_here : (names : List core_value.Value) (known : List Known) (exports : Value) (table : CallTable (List TypeId) worlds.Given) (entry : Entry) (m : MethodEntry) → SameMethod core (context_with coding types p core messages own names) known exports entry m
      → SameMethod core (context_of (core_machine.core_machine core) messages core own table names) known exports entry m
  method_here names known exports table entry m e = record {
    parameters = e.parameters;
    results = e.results;
    group = e.group;
    which = e.which;
    env = e.env;
    function = e.function;
    is = e.is;
    method = e.method;
    there = e.there;
    same = record { there = e.same.there; places = e.same.places; code = e.same.code; elaborates = e.same.elaborates; names = e.same.names; is = e.same.is };
  }

  methods_stay : (names : List core_value.Value) (known more : List Known) (exports : Value) → MethodsBelong coding types p core messages own known exports names → MethodsBelong coding types p core messages own (known ++ more) exports names
  methods_stay names known more exports h query name =
      methods_by (λ e m. SameMethod core (context_with coding types p core messages own names) known exports e m) (λ e m. SameMethod core (context_with coding types p core messages own names) (known ++ more) exports e m)
      (method_from 0 query name p.methods) (core_actor.method_from 0 query name core.methods) (h query name) (λ e m i same. method_as names known more exports (no_calls 0) e m same)

  saving_stays : (known more : List Known) (all : List core_value.Value) (exports : Value) → SavingBelongs p core known all exports → SavingBelongs p core (known ++ more) all exports
  saving_stays known more all exports b = record {
    places = b.places;
    env = b.env;
    cells = b.cells;
    names_belong = names_stay core.groups known more all b.places b.env [] b.names_belong;
    as_many = b.as_many;
    cells_are = b.cells_are;
    code = b.code;
    nodes = b.nodes;
    save = b.save;
    hook = b.hook;
  }

  -- ---- what an execution leaves

  related_left : (a : Actor machine) (b : Actor L) (owner weight other : ℕ) (x : Effects machine) (y : Effects L) (exports : Value) (names : List core_value.Value) (known : List Known) → a.table.first ≡ b.table.first → length b.activations ≡ length a.activations
      → E names known a.table.first a.table.calls b.table.calls a.activations b.activations → MethodsBelong coding types p core messages own known exports names → SavingBelongs p core known (All names) exports → Left exports names known x y
      → Safe (committed_state (committed owner weight x a))
      → R (committed_state (committed owner weight x a)) (committed_state (committed owner other y b))
  related_left a b owner weight other x y exports names known e l each with_methods with_saving left safe =
      let calls = a.table.calls ++ map (open_call owner) x.calls in
      let news = b.table.calls ++ map (open_call owner) y.calls in
      let xs = slice_set a.activations owner (activation_after x.ending (activation_at a.activations owner)) in
      let ys = slice_set b.activations owner (activation_after y.ending (activation_at b.activations owner)) in
      let grown : E names left.known' a.table.first a.table.calls b.table.calls a.activations b.activations =
      subst (λ ks. E names ks a.table.first a.table.calls b.table.calls a.activations b.activations) (sym (left.grows.1)) (each_grows core own names known (left.grows.0) a.table.first a.table.calls b.table.calls a.activations b.activations each) in
      let held : HeldBelong core own names left.known' (held_calls a.table.first calls xs) (held_calls a.table.first news ys) =
      held_of core own names left.known' a.table.first calls news xs ys
      (each_left core own names left.known' owner x.calls y.calls left.calls a.table.first a.table.calls b.table.calls a.activations b.activations x.ending y.ending l left.ending left.quiet grown) in
      record {
        safe = safe;
        known = left.known';
        fields = subst (λ ns. FieldsBelong core ns (All ns) left.known' x.store y.store) (sym left.fields.names_are) left.fields;
        methods = subst (λ ns. MethodsBelong coding types p core messages own left.known' x.store.exports ns) (sym left.fields.names_are)
            (subst (λ v. MethodsBelong coding types p core messages own left.known' v names) (sym left.exports_are)
            (subst (λ ks. MethodsBelong coding types p core messages own ks exports names) (sym (left.grows.1)) (methods_stay names known (left.grows.0) exports with_methods)));
        saving = subst (λ ns. SavingBelongs p core left.known' (All ns) x.store.exports) (sym left.fields.names_are)
            (subst (λ v. SavingBelongs p core left.known' (All names) v) (sym left.exports_are)
            (subst (λ ks. SavingBelongs p core ks (All names) exports) (sym (left.grows.1)) (saving_stays known (left.grows.0) (All names) exports with_saving)));
        calls = subst (λ ns. HeldBelong core own ns left.known' (held_calls a.table.first calls xs) (held_calls b.table.first news ys)) (sym left.fields.names_are)
            (subst (λ n. HeldBelong core own names left.known' (held_calls a.table.first calls xs) (held_calls n news ys)) e held);
      }

  effects_alike : (a : Actor machine) (b : Actor L) (owner weight other : ℕ) (x : Effects machine) (y : Effects L) (exports : Value) (names : List core_value.Value) (known : List Known) → other ≤ times * weight → Left exports names known x y
      → R (committed_state (committed owner weight x a)) (committed_state (committed owner other y b)) → AlikeEffects {S = machine} {T = L} R (Weighs times) a b owner weight other x y
  effects_alike a b owner weight other x y exports names known w left r = record {
    weighs = w;
    calls = calls_alike core own names x.calls y.calls left.calls;
    ending = endings_alike core own names left.known' x.ending y.ending left.ending;
    related = r;
  }

  -- ---- installations, upgrades and saves

  begins : (kept : Option Kept) → Follows times (Begun coding types p core messages own) (P.start own kept) (Q.start own kept) → (r : Result core_actor.Fields) → HasResult pays_new memory 0 (Q.start own kept) r
      → (o : Result Fields) × HasResult pays_old first 0 (P.start own kept) o
      × AlikeResults (λ x y (s : Fields) (t : core_actor.Fields). Weighs times x y × ((made : ℕ) → R (fresh_state {L = machine} s made) (fresh_state {L = L} t made))) o r
  begins kept f r h =
      let c = comes_out times (Begun coding types p core messages own) pays_old pays_new first 0 memory 0 (covers 0 0 (omega arith)) (P.start own kept) (Q.start own kept) f r h in (
        c.0,
        c.1,
        out_as (λ x y s t. (y ≤ times * x) × Begun coding types p core messages own s t) (λ x y s t. Weighs times x y × ((made : ℕ) → R (fresh_state {L = machine} s made) (fresh_state {L = L} t made))) pays_old first 0 (P.start own kept) c.0 r c.1 c.2
            (λ prints weight s other t i z. (z.0, λ made. record { safe = sound.begun kept prints weight s i made; known = z.1.known; fields = z.1.fields; methods = z.1.methods; saving = z.1.saving; calls = tt })),
      )

  saving_follows : (number : ℕ) → Allowed (event.Upgrade number) → (a : Actor machine) (b : Actor L) → Alike a b → Follows times (λ (k : Kept) (l : Kept). l ≡ k) (saving P own a) (saving Q own b)
  saving_follows number allowed a b al =
      subst (λ n. Follows times (λ (k : Kept) (l : Kept). l ≡ k) (saving P own a) (cond (nat_eq n 0) (Q.save own b.store) (trapping (codes "outstanding calls")))) (sym ((as_many core own b.store.names al.related.known a.table.first a.table.calls b.table.calls a.activations b.activations (eachs a b al)).1))
      (by (nat_eq (open_count a.table) 0))
    where
      by : (o : Bool) → Follows times (λ (k : Kept) (l : Kept). l ≡ k) (cond o (P.save own a.store) (trapping (codes "outstanding calls"))) (cond o (Q.save own b.store) (trapping (codes "outstanding calls")))
      by true = starting.saves number allowed a al.related.safe al.related.known b.store al.related.fields al.related.saving
      by false = trapping_follows times one (λ (k : Kept) (l : Kept). l ≡ k) (codes "outstanding calls")

  -- ---- calls

  module _ (a : Actor machine) (b : Actor L) (al : Alike a b) where
    abbrev Own-names : List core_value.Value
    Own-names = b.store.names

    abbrev K0 : List Known
    K0 = al.related.known

    abbrev Leaves-alike : Effects machine → Effects L → Type 0
    Leaves-alike = Left a.store.exports Own-names K0

    around : SameSurroundings messages core own b.table Own-names (surroundings coding types own a.table)
    around = table_of a.table b.table Own-names K0 a.activations b.activations al.first (eachs a b al)

    enters_follow : (query called : Bool) (name caller argument : Bytes) (entry : Entry) (m : MethodEntry) → method_from 0 query name p.methods ≡ Some entry → Allowed (event.Call called name caller argument) → SameMethod core (context_with coding types p core messages own Own-names) K0 a.store.exports entry m
        → Follows times Leaves-alike (entered P own a entry caller argument) (entered Q own b m caller argument)
    enters_follow query called name caller argument entry m is allowed e =
        subst (λ ps. Follows times Leaves-alike (entered P own a entry caller argument) (after_reading (messages.reading_cost ps argument) (entered_body Q own b (core_actor.entered (core_machine.core_machine core) messages core m caller (messages.read ps argument))))) (sym e.parameters)
        (subst (λ (cost : ReadingCost). Follows times Leaves-alike (entered P own a entry caller argument) (after_reading cost (entered_body Q own b (core_actor.entered (core_machine.core_machine core) messages core m caller (messages.read entry.parameters argument))))) (sym (same.costs entry.parameters argument))
        (reading_follows times one Leaves-alike (reading_cost coding types entry.parameters argument) (entered_body P own a (P.enter entry caller argument)) (entered_body Q own b (core_actor.entered (core_machine.core_machine core) messages core m caller (messages.read entry.parameters argument)))
        (by (read_values coding types entry.parameters argument) (messages.read entry.parameters argument) refl (same.read entry.parameters argument))))
      where
        by : (o : Option (List language.Value)) (o' : Option (List core_value.Value)) → read_values coding types entry.parameters argument ≡ o → ReadBelongs o o'
            → Follows times Leaves-alike (entered_body P own a (states.entered entry caller o)) (entered_body Q own b (core_actor.entered (core_machine.core_machine core) messages core m caller o'))
        by None None i r = trapping_follows times one Leaves-alike (codes "bad argument")
        by None (Some ws) i r = absurd r
        by (Some vs) None i r = absurd r
        by (Some vs) (Some ws) i r =
            let s = sound.enters a al.related.safe query called name caller argument entry is allowed vs i in
            methods messages core own b.table Own-names (surroundings coding types own a.table) times one around K0 a.store b.store al.related.fields entry m (method_here Own-names K0 a.store.exports b.table entry m e) caller vs ws (r K0)
            (s.1 e.group e.which e.env e.function e.is e.same.there K0 (call_context caller ∷ ws) ((refl, ((refl, tt), tt)), r K0)) (s.0)

    enters_end : (query called : Bool) (name caller argument : Bytes) (entry : Entry) (m : MethodEntry) → method_from 0 query name p.methods ≡ Some entry → Allowed (event.Call called name caller argument) → SameMethod core (context_with coding types p core messages own Own-names) K0 a.store.exports entry m
        → EndsToo (entered P own a entry caller argument) (entered Q own b m caller argument)
    enters_end query called name caller argument entry m is allowed e =
        subst (λ ps. EndsToo (entered P own a entry caller argument) (after_reading (messages.reading_cost ps argument) (entered_body Q own b (core_actor.entered (core_machine.core_machine core) messages core m caller (messages.read ps argument))))) (sym e.parameters)
        (λ h. by (read_values coding types entry.parameters argument) (messages.read entry.parameters argument) refl (same.read entry.parameters argument) h)
      where
        by : (o : Option (List language.Value)) (o' : Option (List core_value.Value)) → read_values coding types entry.parameters argument ≡ o → ReadBelongs o o'
            → EndsToo (entered_body P own a (states.entered entry caller o)) (entered_body Q own b (core_actor.entered (core_machine.core_machine core) messages core m caller o'))
        by None None i r h = trapping_ends (codes "bad argument")
        by None (Some ws) i r h = absurd r
        by (Some vs) None i r h = absurd r
        by (Some vs) (Some ws) i r h =
            let s = sound.enters a al.related.safe query called name caller argument entry is allowed vs i in
            methods_end messages core own b.table Own-names (surroundings coding types own a.table) times one around K0 a.store b.store al.related.fields entry m (method_here Own-names K0 a.store.exports b.table entry m e) caller vs ws (r K0)
            (s.1 e.group e.which e.env e.function e.is e.same.there K0 (call_context caller ∷ ws) ((refl, ((refl, tt), tt)), r K0)) (s.0) h

    dead_length : length (b.activations ++ IsDead ∷ []) ≡ length (a.activations ++ IsDead ∷ [])
    dead_length = one_more b.activations IsDead ∙ ap suc (lengths a.activations b.activations al.activations) ∙ sym (one_more a.activations IsDead)

    abbrev Arrives : ℕ → ℕ → Effects machine → Effects L → Type 0
    Arrives x y s t = AlikeEffects {S = machine} {T = L} R (Weighs times) (arrived a) (arrived b) (length a.activations) x y s t

    arrived_left : (weight other : ℕ) (x : Effects machine) (y : Effects L) → other ≤ times * weight → Leaves-alike x y → Safe (committed_state (committed (length a.activations) weight x (arrived a))) → Arrives weight other x y
    arrived_left weight other x y w left safe =
        effects_alike (arrived a) (arrived b) (length a.activations) weight other x y a.store.exports Own-names K0 w left
        (related_left (arrived a) (arrived b) (length a.activations) weight other x y a.store.exports Own-names K0 al.first dead_length
        (each_arrived core own Own-names K0 a.table.first a.table.calls b.table.calls a.activations b.activations (eachs a b al)) al.related.methods al.related.saving left safe)

    abbrev Asks : ℕ → ℕ → Effects machine → Effects L → Type 0
    Asks x y s t = AlikeEndings {S = machine} {T = L} s.ending t.ending

    abbrev Comes : (ℕ → ℕ → Effects machine → Effects L → Type 0) → Execution (Effects machine) → Result (Effects L) → Type 0
    Comes Both x r = (o : Result (Effects machine)) × HasResult pays_old first a.charged x o × AlikeResults Both o r

    comes_as : (Both : ℕ → ℕ → Effects machine → Effects L → Type 0) (x : Execution (Effects machine)) (y : Execution (Effects L)) → Follows times Leaves-alike x y → (r : Result (Effects L)) → HasResult pays_new memory b.charged y r
        → ((prints : List Bytes) (weight : ℕ) (s : Effects machine) (other : ℕ) (t : Effects L) → HasResult pays_old first a.charged x (Completed prints weight s) → (other ≤ times * weight) × Leaves-alike s t → Both weight other s t) → Comes Both x r
    comes_as Both x y f r h g =
        let c = comes_out times Leaves-alike pays_old pays_new first a.charged memory b.charged (covers a.charged b.charged al.charged) x y f r h in
        (c.0, c.1, out_as (λ x y s t. (y ≤ times * x) × Leaves-alike s t) Both pays_old first a.charged x c.0 r c.1 c.2 g)

    -- ---- methods

    module _ (name : List ℕ) where
      abbrev Updates : Entry → MethodEntry → Type 0
      Updates e n =
          (caller argument : List ℕ) → Allowed (event.Call false name caller argument) → (r : Result (Effects L)) → HasResult pays_new memory b.charged (entered Q own b n caller argument) r → Comes Arrives (entered P own a e caller argument) r

      abbrev Queries : Entry → MethodEntry → Type 0
      Queries e n =
          (query : Bool) (caller argument : List ℕ) → Allowed (event.Call query name caller argument) → (r : Result (Effects L)) → HasResult pays_new memory b.charged (entered Q own b n caller argument) r → Comes Asks (entered P own a e caller argument) r

      abbrev Is-method : Entry → MethodEntry → Type 0
      Is-method e m = SameMethod core (context_with coding types p core messages own Own-names) K0 a.store.exports e m

      update : (e : Entry) (m : MethodEntry) → method_from 0 false name p.methods ≡ Some e → Is-method e m → Updates e m
      update e m is i caller argument allowed r h =
          comes_as Arrives (entered P own a e caller argument) (entered Q own b m caller argument) (enters_follow false false name caller argument e m is allowed i) r h
          (λ prints weight s other t k z. arrived_left weight other s t z.0 z.1 (sound.called a al.related.safe name caller argument e is allowed prints weight s k))

      query : (e : Entry) (m : MethodEntry) → method_from 0 true name p.methods ≡ Some e → Is-method e m → Queries e m
      query e m is i called caller argument allowed r h =
          comes_as Asks (entered P own a e caller argument) (entered Q own b m caller argument) (enters_follow true called name caller argument e m is allowed i) r h
          (λ prints weight s other t k z. endings_alike core own Own-names z.1.known' s.ending t.ending z.1.ending)

      updates : AlikeMethods Updates (P.update name) (Q.update name)
      updates = methods_by Is-method Updates (method_from 0 false name p.methods) (core_actor.method_from 0 false name core.methods) (al.related.methods false name) update

      queries : AlikeMethods Queries (P.query name) (Q.query name)
      queries = methods_by Is-method Queries (method_from 0 true name p.methods) (core_actor.method_from 0 true name core.methods) (al.related.methods true name) query

      -- ---- where theirs end

      abbrev Updates-end : Entry → MethodEntry → Type 0
      Updates-end e n = (caller argument : List ℕ) → Allowed (event.Call false name caller argument) → EndsToo (entered P own a e caller argument) (entered Q own b n caller argument)

      abbrev Queries-end : Entry → MethodEntry → Type 0
      Queries-end e n = (query : Bool) (caller argument : List ℕ) → Allowed (event.Call query name caller argument) → EndsToo (entered P own a e caller argument) (entered Q own b n caller argument)

      pub updates_end : AlikeMethods Updates-end (P.update name) (Q.update name)
      updates_end =
          methods_by Is-method Updates-end (method_from 0 false name p.methods) (core_actor.method_from 0 false name core.methods) (al.related.methods false name)
          (λ e m is i caller argument allowed. enters_end false false name caller argument e m is allowed i)

      pub queries_end : AlikeMethods Queries-end (P.query name) (Q.query name)
      queries_end =
          methods_by Is-method Queries-end (method_from 0 true name p.methods) (core_actor.method_from 0 true name core.methods) (al.related.methods true name)
          (λ e m is i called caller argument allowed. enters_end true called name caller argument e m is allowed i)

    -- ---- answers

    module _ (number : ℕ) (c : Call (List TypeId) Given) (d : Call (List TypeId) worlds.Given) (there : call_at a.table number ≡ Some c) (here : call_at b.table number ≡ Some d) (is_open : is_open_state c.state ≡ true) where
      here_too : call_from a.table.first b.table.calls number ≡ Some d
      here_too = subst (λ n. call_from n b.table.calls number ≡ Some d) (sym al.first) here

      found : CallsBelongTogether core own Own-names K0 c d × (is_open_state c.state ≡ true → WaitsBelong core own Own-names K0 (waiting_on number (activation_at a.activations c.owner)) (waiting_on number (activation_at b.activations c.owner)))
      found = each_at core own Own-names K0 a.table.first number a.table.calls b.table.calls c d a.activations b.activations (eachs a b al) there here_too

      -- what a future was filled with
      futures : (future : ℕ) → MaybeGiven core own Own-names K0 (future_value a.table future) (future_value b.table future)
      futures future =
          subst (λ n. MaybeGiven core own Own-names K0 (value_in_state (state_of (call_from a.table.first a.table.calls future))) (value_in_state (state_of (call_from n b.table.calls future)))) al.first
          (values_same core own Own-names K0 a.table.first future a.table.calls b.table.calls a.activations b.activations (eachs a b al))

      value_same : (received : Received) → MaybeGiven core own Own-names K0 (received_value P own a c received) (received_value Q own b d received)
      value_same (Reply bytes) = subst (λ o. MaybeGiven core own Own-names K0 (reply_value P own a c c.resumes bytes) (reply_value Q own b d o bytes)) (sym found.0.resumes) (by c.resumes)
        where
          by : (o : Option ℕ) → MaybeGiven core own Own-names K0 (reply_value P own a c o bytes) (reply_value Q own b d o bytes)
          by None = subst (λ ts. MaybeGiven core own Own-names K0 (P.read c.results bytes) (Q.read ts bytes)) (sym found.0.results) (results_same Own-names K0 (read_values coding types c.results bytes) (messages.read c.results bytes) (same.read c.results bytes))
          by (Some future) = futures future
      value_same (Reject code text) = (ap (λ k. Error k text) (reject_same code), tt)

      reading_same : (received : Received) → received_reading Q own b d received ≡ received_reading P own a c received
      reading_same (Reply bytes) = ap (λ o. reply_reading Q own b d o bytes) found.0.resumes ∙ by c.resumes
        where
          by : (o : Option ℕ) → reply_reading Q own b d o bytes ≡ reply_reading P own a c o bytes
          by None = ap (λ ts. messages.reading_cost ts bytes) found.0.results ∙ same.costs c.results bytes
          by (Some future) = refl
      reading_same (Reject code text) = refl

      abbrev Old : Option Waiting
      Old = waiting_on number (activation_at a.activations c.owner)

      abbrev New : Option (Pending core_machine.Waiting)
      New = waiting_on number (activation_at b.activations d.owner)

      waits : WaitsBelong core own Own-names K0 Old New
      waits = subst (λ k. WaitsBelong core own Own-names K0 Old (waiting_on number (activation_at b.activations k))) (sym found.0.owner) (found.1 is_open)

      -- the table behind the answer
      table_filled : (s : State Given) (t : State worlds.Given) → is_open_state s ≡ false → StatesBelong core own Own-names K0 s t → E Own-names K0 a.table.first (set_from a.table.first a.table.calls number s) (set_from a.table.first b.table.calls number t) a.activations b.activations
      table_filled s t o r = each_set core own Own-names K0 a.table.first number s t a.table.calls b.table.calls a.activations b.activations o r (eachs a b al)

      answer_around : (v : Given) (w : worlds.Given) → GivenBelongs K0 v w → SameSurroundings messages core own (set_state b.table number (Answered (Some w))) Own-names (surroundings coding types own (set_state a.table number (Answered (Some v))))
      answer_around v w r =
          table_of (set_state a.table number (Answered (Some v))) (set_state b.table number (Answered (Some w))) Own-names K0 a.activations b.activations al.first
          (subst (λ n. E Own-names K0 a.table.first (set_from a.table.first a.table.calls number (Answered (Some v))) (set_from n b.table.calls number (Answered (Some w))) a.activations b.activations) al.first (table_filled (Answered (Some v)) (Answered (Some w)) refl r))

      resumes_follow : (received : Received) → Allowed (answer_event number received) → (v : Option Given) (w : Option worlds.Given) → received_value P own a c received ≡ v → MaybeGiven core own Own-names K0 v w → (x : Option Waiting) (y : Option (Pending core_machine.Waiting)) → Old ≡ x → WaitsBelong core own Own-names K0 x y
          → Follows times Leaves-alike (resumed P own a number v x) (resumed Q own b number w y)
      resumes_follow received allowed None None i r x y k s = trapping_follows times one Leaves-alike (codes "bad reply")
      resumes_follow received allowed None (Some w) i r x y k s = absurd r
      resumes_follow received allowed (Some v) None i r x y k s = absurd r
      resumes_follow received allowed (Some v) (Some w) i r None None k s =
          at_once_follows times one Leaves-alike (no_effects a) (no_effects b) (record { known' = K0; grows = ([], nothing_more K0); fields = al.related.fields; exports_are = refl; calls = tt; ending = tt; quiet = λ e. refl })
      resumes_follow received allowed (Some v) (Some w) i r None (Some q) k s = absurd s
      resumes_follow received allowed (Some v) (Some w) i r (Some q) None k s = absurd s
      resumes_follow received allowed (Some v) (Some w) i r (Some x) (Some y) k s =
          let z = sound.resumes a al.related.safe number c (there, is_open) received allowed v i x k s.future s.focus in
          resumptions messages core own (set_state b.table number (Answered (Some w))) Own-names (surroundings coding types own (set_state a.table number (Answered (Some v)))) times one (answer_around v w r) K0 a.store b.store al.related.fields x y s (z.1) v w r (z.0)

      resumes_end : (received : Received) → Allowed (answer_event number received) → (v : Option Given) (w : Option worlds.Given) → received_value P own a c received ≡ v → MaybeGiven core own Own-names K0 v w → (x : Option Waiting) (y : Option (Pending core_machine.Waiting)) → Old ≡ x → WaitsBelong core own Own-names K0 x y
          → EndsToo (resumed P own a number v x) (resumed Q own b number w y)
      resumes_end received allowed None None i r x y k s h = trapping_ends (codes "bad reply")
      resumes_end received allowed None (Some w) i r x y k s h = absurd r
      resumes_end received allowed (Some v) None i r x y k s h = absurd r
      resumes_end received allowed (Some v) (Some w) i r None None k s h = (0, Completes (no_effects b), refl)
      resumes_end received allowed (Some v) (Some w) i r None (Some q) k s h = absurd s
      resumes_end received allowed (Some v) (Some w) i r (Some q) None k s h = absurd s
      resumes_end received allowed (Some v) (Some w) i r (Some x) (Some y) k s h =
          let z = sound.resumes a al.related.safe number c (there, is_open) received allowed v i x k s.future s.focus in
          resumptions_end messages core own (set_state b.table number (Answered (Some w))) Own-names (surroundings coding types own (set_state a.table number (Answered (Some v)))) times one (answer_around v w r) K0 a.store b.store al.related.fields x y s (z.1) v w r (z.0) h

      pub answers_end : (received : Received) → Allowed (answer_event number received) → EndsToo (answering P own a number c received) (answering Q own b number d received)
      answers_end received allowed h = resumes_end received allowed (received_value P own a c received) (received_value Q own b d received) refl (value_same received) Old New refl waits h

      module _ (received : Received) (allowed : Allowed (answer_event number received)) where
        abbrev value : Option Given
        value = received_value P own a c received

        abbrev value' : Option worlds.Given
        value' = received_value Q own b d received

        answer_follows : Follows times Leaves-alike (answering P own a number c received) (answering Q own b number d received)
        answer_follows =
            subst (λ (cost : ReadingCost). Follows times Leaves-alike (answering P own a number c received) (after_reading cost (resumed Q own b number value' New))) (sym (reading_same received))
            (reading_follows times one Leaves-alike (received_reading P own a c received) (resumed P own a number value Old) (resumed Q own b number value' New)
            (resumes_follow received allowed value value' refl (value_same received) Old New refl waits))

        abbrev Answers-alike : ℕ → ℕ → Effects machine → Effects L → Type 0
        Answers-alike x y s t = AlikeEffects {S = machine} {T = L} R (Weighs times) (filled number value a) (filled number value' b) c.owner x y s t

        filled_state : StatesBelong core own Own-names K0 (Answered value) (Answered value')
        filled_state = by value value' (value_same received)
          where
            by : (v : Option Given) (w : Option worlds.Given) → MaybeGiven core own Own-names K0 v w → StatesBelong core own Own-names K0 (Answered v) (Answered w)
            by None None r = tt
            by None (Some w) r = absurd r
            by (Some v) None r = absurd r
            by (Some v) (Some w) r = r

        filled_left : (weight other : ℕ) (x : Effects machine) (y : Effects L) → other ≤ times * weight → Leaves-alike x y → Safe (committed_state (committed c.owner weight x (filled number value a))) → Answers-alike weight other x y
        filled_left weight other x y w left safe =
            effects_alike (filled number value a) (filled number value' b) c.owner weight other x y a.store.exports Own-names K0 w left
            (related_left (filled number value a) (filled number value' b) c.owner weight other x y a.store.exports Own-names K0 al.first (lengths a.activations b.activations al.activations)
            (subst (λ n. E Own-names K0 a.table.first (set_from a.table.first a.table.calls number (Answered value)) (set_from n b.table.calls number (Answered value')) a.activations b.activations) al.first (table_filled (Answered value) (Answered value') refl filled_state)) al.related.methods al.related.saving left safe)

        answer : (r : Result (Effects L)) → HasResult pays_new memory b.charged (answering Q own b number d received) r → Comes Answers-alike (answering P own a number c received) r
        answer r h =
            comes_as Answers-alike (answering P own a number c received) (answering Q own b number d received) answer_follows r h
            (λ prints weight s other t i z. filled_left weight other s t z.0 z.1 (sound.answered a al.related.safe number c (there, is_open) received allowed prints weight s i))

      -- ---- traps on answers

      broken_with : (s : State Given) (t : State worlds.Given) → is_open_state s ≡ false → StatesBelong core own Own-names K0 s t → (xs : List (Activation machine)) (ys : List (Activation L))
          → E Own-names K0 a.table.first (set_from a.table.first a.table.calls number s) (set_from a.table.first b.table.calls number t) xs ys
          → HeldBelong core own Own-names K0 (held_calls a.table.first (set_from a.table.first a.table.calls number s) xs) (held_calls b.table.first (set_from b.table.first b.table.calls number t) ys)
      broken_with s t o r xs ys each =
          subst (λ n. HeldBelong core own Own-names K0 (held_calls a.table.first (set_from a.table.first a.table.calls number s) xs) (held_calls n (set_from n b.table.calls number t) ys)) al.first
          (held_of core own Own-names K0 a.table.first (set_from a.table.first a.table.calls number s) (set_from a.table.first b.table.calls number t) xs ys each)

      broken_related : R (committed_state (broken number c.owner a)) (committed_state (broken number d.owner b))
      broken_related =
          subst (λ k. R (committed_state (broken number c.owner a)) (committed_state (broken number k b))) (sym found.0.owner)
          (by Old (waiting_on number (activation_at b.activations c.owner)) (found.1 is_open) (sound.trapped a al.related.safe number c (there, is_open)))
        where
          by : (x : Option Waiting) (y : Option (Pending core_machine.Waiting)) → WaitsBelong core own Own-names K0 x y → Safe (committed_state (broken_by number c.owner a x)) → R (committed_state (broken_by number c.owner a x)) (committed_state (broken_by number c.owner b y))
          by None None w safe = record { safe = safe; known = K0; fields = al.related.fields; methods = al.related.methods; saving = al.related.saving; calls = broken_with Lost Lost refl tt a.activations b.activations (table_filled Lost Lost refl tt) }
          by (Some x) (Some y) w safe = record {
            safe = safe;
            known = K0;
            fields = al.related.fields;
            methods = al.related.methods;
            saving = al.related.saving;
            calls =
                broken_with (Answered None) (Answered None) refl tt (slice_set a.activations c.owner IsDead) (slice_set b.activations c.owner IsDead)
                (each_owner core own Own-names K0 a.table.first (set_from a.table.first a.table.calls number (Answered None)) (set_from a.table.first b.table.calls number (Answered None)) a.activations b.activations c.owner IsDead IsDead (lengths a.activations b.activations al.activations) (λ m. tt) (table_filled (Answered None) (Answered None) refl tt));
          }
          by None (Some y) w safe = absurd w
          by (Some x) None w safe = absurd w

  started_so : (kept : Kept) → Fits kept → (o : Option (List (Option language.Value))) → all_kept (all_taken coding kept.types types kept.variables p.stable) ≡ o
      → Follows times (Begun coding types p core messages own) (P.start own (Some kept)) (Q.start own (Some kept))
  started_so kept fits None is = incompatible_follow times one coding types p core messages first memory own same kept is
  started_so kept fits (Some vs) is = starting.starts kept fits vs is

  pub keeps : ActorsKeep times coding types p first own Allowed Safe Fits core messages memory pays_old pays_new
  keeps = record {
    adds = λ x y z w h i. adds_up y w (times * x) (times * z) (times * (x + z)) h i (mul-add times x z);
    installs = begins None starting.installs;
    starts = λ kept there same. subst (λ (k : Kept). (r : Result core_actor.Fields) → HasResult pays_new memory 0 (Q.start own (Some k)) r
        → (o : Result Fields) × HasResult pays_old first 0 (P.start own (Some kept)) o
        × AlikeResults (λ x y (s : Fields) (t : core_actor.Fields). Weighs times x y × ((made : ℕ) → R (fresh_state {L = machine} s made) (fresh_state {L = L} t made))) o r) (sym (same.0))
        (begins (Some kept) (started_so kept (same.1) (all_kept (all_taken coding kept.types types kept.variables p.stable)) refl));
    saves = λ number allowed a b al r h.
        let c = comes_out times (λ (k : Kept) (l : Kept). l ≡ k) pays_old pays_new first a.charged memory b.charged (covers a.charged b.charged al.charged) (saving P own a) (saving Q own b) (saving_follows number allowed a b al) r h in
        (c.0, c.1, out_as (λ x y (s : Kept) (t : Kept). (y ≤ times * x) × (t ≡ s)) (λ x y (s : Kept) (t : Kept). (t ≡ s) × Fits s) pays_old first a.charged (saving P own a) c.0 r c.1 c.2 (λ prints weight s other t i z. (z.1, sound.saved number allowed a al.related.safe prints weight s i)));
    updates = λ a b al name. updates a b al name;
    queries = λ a b al name. queries a b al name;
    answers = λ a b al number c d there here is_open opened received allowed r h.
        let z = answer a b al number c d there here is_open received allowed r h in (z.0, z.1, z.2, broken_related a b al number c d there here is_open);
  }

  module _ (ending : StartsAndSavesEnd times coding types p first own Allowed Safe Fits core messages memory) where
    pub saving_ends : (number : ℕ) → Allowed (event.Upgrade number) → (a : Actor machine) (b : Actor L) → Alike a b → EndsToo (saving P own a) (saving Q own b)
    saving_ends number allowed a b al =
        subst (λ n. EndsToo (saving P own a) (cond (nat_eq n 0) (Q.save own b.store) (trapping (codes "outstanding calls")))) (sym ((as_many core own b.store.names al.related.known a.table.first a.table.calls b.table.calls a.activations b.activations (eachs a b al)).1))
        (by (nat_eq (open_count a.table) 0))
      where
        by : (o : Bool) → EndsToo (cond o (P.save own a.store) (trapping (codes "outstanding calls"))) (cond o (Q.save own b.store) (trapping (codes "outstanding calls")))
        by true h = ending.saves number allowed a al.related.safe al.related.known b.store al.related.fields al.related.saving h
        by false h = trapping_ends (codes "outstanding calls")

    starts_so : (kept : Kept) → Fits kept → (o : Option (List (Option language.Value))) → all_kept (all_taken coding kept.types types kept.variables p.stable) ≡ o → EndsToo (P.start own (Some kept)) (Q.start own (Some kept))
    starts_so kept fits None is h = incompatible_end coding types p core messages first memory own same kept is
    starts_so kept fits (Some vs) is h = ending.starts kept fits vs is h

    pub starts_end : (kept : Kept) → Fits kept → EndsToo (P.start own (Some kept)) (Q.start own (Some kept))
    starts_end kept fits = starts_so kept fits (all_kept (all_taken coding kept.types types kept.variables p.stable)) refl
