-- Every event keeps the state of an actor typed.
use Rattle.std.proofs.Common.{◌≡◌, ◌⊎◌, inl, inr, ℕ, zero, suc, ◌+◌, ◌<◌, ◌≤◌, ◌^◌, List, [], ◌∷◌, ◌++◌, length, length-append, map, Bool, true, false, cond, not, ◌&&◌, Option, Some, None, refl, sym, ap, ap₂, ◌∙◌, subst, slice_get, codes, nat_eq, arith, eqb-true}
use Rattle.std.specs.Str.{bytes_eq}
use Rattle.play_script.specs.declared.event.Event.{Event}
use Rattle.play_script.specs.declared.item.Item.{Item}
use Rattle.mo_types.specs.declared.node.TypeId.{TypeId}
use Rattle.mo_types.specs.Calls.{State, Open, Answered, Lost, CallTable, is_open_state, call_at, set_state, state_of, next_number}
use Rattle.mo_types.specs.Graph.{Slot, head_at}
use Rattle.mo_types.specs.Sub.{AtSome, Each}
use Rattle.mo_values.specs.Messages.{opened}
use Rattle.mo_values.specs.Shapes.{Bytes}
use Rattle.mo_actor.specs.Executions.{Execution, Completes}
use Rattle.mo_actor.specs.Measures.{Measure}
use Rattle.mo_actor.specs.Programs as actor
use Rattle.mo_actor.specs.Programs.{Effects, Ending, Answers, Awaits, AwaitsNothing, Unchanged}
use Rattle.mo_actor.specs.Results.{Result, Completed, Trapped, Exhausted, HasResult}
use Rattle.mo_actor.specs.States.{IsAnswered, IsDead, WaitsFor, WaitsForNothing, Actor, ActorState, NoActor, Running, activation_at, waiting_on, with_activation, is_starved}
use Rattle.mo_actor.specs.Outcomes.{Outcome, outcome, rejected, close}
use Rattle.mo_actor.specs.Completions.{open_call, activation_after, committed, after_query, update_outcome, query_outcome}
use Rattle.mo_actor.specs.IncomingCalls.{arrived, entered, entered_body}
use Rattle.mo_actor.specs.CallAnswers.{Received, Reply, Reject, value_in_state, broken_by, broken, filled, answer_outcome, received_value, reply_value, answering, resumed, no_effects}
use Rattle.mo_actor.specs.Upgrades.{started, installed, upgraded}
use Rattle.mo_actor.specs.Reached.{LeadsTo, Reaches}
use Rattle.mo_actor.specs.Steps.{Step}
use Rattle.mo_actor.proofs.Events.{Cases, each_event, event_of}
use Rattle.mo_actor.proofs.Trapping.{never_completes}
use Rattle.typed_tree.specs.declared.program.Program.{Program as TypedProgram}
use Rattle.typed_tree.specs.ActionTypes.{ResultOf}
use Rattle.typed_tree.specs.Has.{IsCode}
use Rattle.typed_tree.specs.Language.{Value, Exp, Val}
use Rattle.typed_tree.specs.Programs.{Program, Method}
use Rattle.typed_tree.specs.ProgramView.{program}
use Rattle.typed_tree.specs.WellTyped.{WellTyped}
use Rattle.mo_meaning.specs.Acts.{Given, Gets, Fails}
use Rattle.mo_meaning.specs.Acts as act
use Rattle.mo_meaning.specs.Actor.{meaning, surroundings, entered as reads, method_from, entry_of, resume_entry, entry_if, reject_code, results_given}
use Rattle.mo_meaning.specs.Coding.{Coding, IsFaithful}
use Rattle.mo_meaning.specs.Configurations.{Surroundings}
use Rattle.mo_meaning.specs.Kernel.{kernel, Fields, Waiting, Entry, Enters, Resumes, Kept, Outgoing}
use Rattle.mo_meaning.specs.Messages.{read_values, packed}
use Rattle.mo_meaning.specs.Reduce.{reduce}
use Rattle.mo_meaning.specs.Turns.{error, resume_name}
use Rattle.mo_soundness.specs.Keeps.{IsLonger, IsNoValue, KnowsMore}
use Rattle.mo_soundness.specs.Lawful.{IsLawful}
use Rattle.mo_soundness.specs.Running.{AnswerTypes}
use Rattle.mo_soundness.proofs.More.{append_nil, longer_self}
use Rattle.program_soundness.specs.Agreement.{WaitsOn, GivenFits, StateFits, Agrees, awaited_by, IsWaiting}
use Rattle.program_soundness.specs.Actors.{IsProper, WaitFits, ActorTyped, IsTypedProgram, AreTyped, StateTyped}
use Rattle.program_soundness.specs.Bodies.{IsEntry, FieldsTyped, WaitingTyped, BodyFits, EndingFits, EffectsFit, with_calls}
use Rattle.program_soundness.specs.Results.{GivesResults}
use Rattle.program_soundness.specs.Roles.{calling}
use Rattle.program_soundness.specs.Runs.{KeepsFit}
use Rattle.program_soundness.specs.Starts.{quiet}
use Rattle.program_soundness.proofs.Bodies.{at_method, body_left}
use Rattle.program_soundness.proofs.Calls.{Standing, each_set, each_pushed, found_front, reowned, set_length, set_found, set_open}
use Rattle.program_soundness.proofs.Given.{lawful_types, program_shares, variables_share}
use Rattle.program_soundness.proofs.Installs.{start_left}
use Rattle.program_soundness.proofs.Messages.{results_packed}
use Rattle.program_soundness.proofs.Read.{read_typed}
use Rattle.program_soundness.proofs.Tables.{Entry as Row, in_range}
use Rattle.program_soundness.proofs.Turns.{grows_self}
use Rattle.program_soundness.proofs.Typed.{results_kept}
use Rattle.program_soundness.specs.Worlds.{running, IsCarried}
use Rattle.mo_soundness.specs.Worlds.{World}

-- ---- methods by name

pub method_is : (p : Program) (query : Bool) (name : Bytes) (ms : List Method) (n : ℕ) (entry : Entry) → ((j : ℕ) (m : Method) → slice_get ms j ≡ Some m → slice_get p.methods (n + j) ≡ Some m) → method_from n query name ms ≡ Some entry → IsEntry p entry
method_is p query name [] n entry at q = by (not query && bytes_eq resume_name name) q
  where
    by : (b : Bool) → entry_if b ≡ Some entry → IsEntry p entry
    by true k = let same : resume_entry ≡ entry = cc in subst (IsEntry p) same (inr (refl, refl, refl))
    by false k = absurd (let z : None ≡ Some entry = k in cc)
method_is p query name (m ∷ ms) n entry at q =
    by (bytes_eq m.name name && cond query m.query (not m.query)) q (λ k. method_is p query name ms (suc n) entry (λ j m r. ap (slice_get p.methods) (omega arith) ∙ at (suc j) m r) k)
  where
    by : (b : Bool) → cond b (Some (entry_of n m)) (method_from (suc n) query name ms) ≡ Some entry → (method_from (suc n) query name ms ≡ Some entry → IsEntry p entry) → IsEntry p entry
    by true k later = let same : entry_of n m ≡ entry = cc in subst (IsEntry p) same (inl (n, m, refl, ap (slice_get p.methods) (omega arith) ∙ at 0 m refl, refl, refl))
    by false k later = later k

small_code : (n : ℕ) → n < 2 ^ 32 → IsCode (reject_code n)
small_code zero h = h
small_code (suc zero) h = tt
small_code (suc (suc zero)) h = tt
small_code (suc (suc (suc zero))) h = tt
small_code (suc (suc (suc (suc zero)))) h = tt
small_code (suc (suc (suc (suc (suc zero))))) h = tt
small_code (suc (suc (suc (suc (suc (suc n)))))) h = h

-- ---- what waits

module _ (types : List Slot) (p : Program) where
  abbrev Fine : AnswerTypes → List TypeId → CallTable (List TypeId) Given → Standing → Type 0
  Fine answers kinds table x = (number : ℕ) (w : Waiting) → x ≡ WaitsFor number w → WaitFits types p answers kinds table number w

  answered_fine : (answers : AnswerTypes) (kinds : List TypeId) (table : CallTable (List TypeId) Given) → Fine answers kinds table IsAnswered
  answered_fine answers kinds table number w q = absurd (let z : IsAnswered ≡ WaitsFor number w = q in cc)

  dead_fine : (answers : AnswerTypes) (kinds : List TypeId) (table : CallTable (List TypeId) Given) → Fine answers kinds table IsDead
  dead_fine answers kinds table number w q = absurd (let z : IsDead ≡ WaitsFor number w = q in cc)

  nothing_fine : (answers : AnswerTypes) (kinds : List TypeId) (table : CallTable (List TypeId) Given) → Fine answers kinds table WaitsForNothing
  nothing_fine answers kinds table number w q = absurd (let z : WaitsForNothing ≡ WaitsFor number w = q in cc)

  module _ (lawful : IsLawful (running types).head) where
    waiting_grows : (answers more : AnswerTypes) (kinds longer : List TypeId) → KnowsMore answers more → IsLonger kinds longer → (w : Waiting) → WaitingTyped types p answers kinds w → WaitingTyped types p more longer w
    waiting_grows answers more kinds longer k l w h = (h.0, (results_kept (running types) w.results lawful).grows answers more kinds longer w.at k l h.1)

    -- with more calls, answers and cells
    fine_later : (answers more : AnswerTypes) (kinds longer : List TypeId) → KnowsMore answers more → IsLonger kinds longer → (table : CallTable (List TypeId) Given) (rows : List Row) (x : Standing)
        → Fine answers kinds table x → Fine more longer (record table { calls = table.calls ++ rows }) x
    fine_later answers more kinds longer k l table rows x h number w q =
        let f = h number w q in
        record {
          made = omega (arith, f.made, length-append table.calls rows);
          typed = λ call r o. let t = f.typed call (found_front table.first table.calls rows number call f.made r) o in (waiting_grows answers more kinds longer k l w t.0, t.1);
        }

    -- where a call is answered
    fine_set : (answers : AnswerTypes) (kinds : List TypeId) (table : CallTable (List TypeId) Given) (n : ℕ) (st : State Given) (x : Standing) → is_open_state st ≡ false → Fine answers kinds table x → Fine answers kinds (set_state table n st) x
    fine_set answers kinds table n st x shut h number w q =
        let f = h number w q in
        record {
          made = omega (arith, f.made, set_length table.first table.calls n st);
          typed = λ call r o. f.typed call (set_open table.first table.calls n number st call shut r o) o;
        }

-- ---- what agrees

module _ (world : World) (answers : AnswerTypes) (kinds : List TypeId) where
  -- whoever made the calls
  agrees_owner : (table : CallTable (List TypeId) Given) (calls : List Outgoing) (owner : ℕ) → Agrees world answers kinds (with_calls table calls) → Agrees world answers kinds (record table { calls = table.calls ++ map (open_call {L = kernel} owner) calls })
  agrees_owner table calls owner h n t q =
      let g = h n t q in
      let r = reowned table.first table.calls calls 0 owner n g.call g.is in
      record {
        call = r.0;
        is = r.1;
        result = subst (λ rs. ResultOf world.head rs t) r.2.results g.result;
        shareable = subst (world.IsMessage []) r.2.results g.shareable;
        own = sym r.2.resumes ∙ g.own;
        state = subst (StateFits world answers kinds t) r.2.state g.state;
      }

  -- where a call is answered with what fits
  agrees_set : (table : CallTable (List TypeId) Given) (number : ℕ) (st : State Given) → ((t : TypeId) → answers.types number ≡ Some t → StateFits world answers kinds t st) → Agrees world answers kinds table → Agrees world answers kinds (set_state table number st)
  agrees_set table number st fits h n t q =
      let g = h n t q in
      let r = set_found table.first table.calls number n st g.call g.is in
      record {
        call = r.0;
        is = r.1;
        result = subst (λ rs. ResultOf world.head rs t) r.2 g.result;
        shareable = subst (world.IsMessage []) r.2 g.shareable;
        own = sym r.3 ∙ g.own;
        state = by g.call r.0 g.state r.4;
      }
    where
      by : (c d : Row) → StateFits world answers kinds t c.state → (c.state ≡ d.state) ⊎ ((n ≡ number) × (st ≡ d.state)) → StateFits world answers kinds t d.state
      by c d k (inl e) = subst (StateFits world answers kinds t) e k
      by c d k (inr e) = subst (StateFits world answers kinds t) e.1 (fits t (subst (λ m. answers.types m ≡ Some t) e.0 q))

-- ---- an actor whose program is typed

module _ (coding : Coding) (faithful : IsFaithful coding) (p : TypedProgram) (w : WellTyped p) (own : Bytes) (short : length own ≤ 29) where
  abbrev P : Program
  P = program p

  lawful : IsLawful (running p.types).head
  lawful = lawful_types p.types w.types w.basics

  -- what is known while its activations are set
  pub record Known (answers : AnswerTypes) (kinds : List TypeId) (a : Actor kernel) : Type 0 where
    pub may : answers.may_call ≡ true
    pub fields : FieldsTyped p.types P answers kinds a.store
    pub calls : Agrees (running p.types) answers kinds a.table
    pub waits : (owner : ℕ) → Fine p.types P answers kinds a.table (activation_at a.activations owner)

  pub known_typed : (answers : AnswerTypes) (kinds : List TypeId) (a : Actor kernel) → Known answers kinds a → ActorTyped p.types P a
  known_typed answers kinds a k = record { answers = answers; kinds = kinds; may_call = k.may; fields = k.fields; calls = k.calls; waits = λ owner number w q. k.waits owner number w q }

  pub typed_known : (a : Actor kernel) (h : ActorTyped p.types P a) → Known h.answers h.kinds a
  typed_known a h = record { may = h.may_call; fields = h.fields; calls = h.calls; waits = λ owner number w q. h.waits owner number w q }

  set_known : (answers : AnswerTypes) (kinds : List TypeId) (a : Actor kernel) (owner : ℕ) (x : Standing) → Known answers kinds a → Fine p.types P answers kinds a.table x → Known answers kinds (with_activation owner x a)
  set_known answers kinds a owner x k f =
      record { may = k.may; fields = k.fields; calls = k.calls; waits = each_set a.activations owner x (Fine p.types P answers kinds a.table) k.waits f (answered_fine p.types P answers kinds a.table) }

  arrived_known : (answers : AnswerTypes) (kinds : List TypeId) (a : Actor kernel) → Known answers kinds a → Known answers kinds (arrived a)
  arrived_known answers kinds a k =
      record { may = k.may; fields = k.fields; calls = k.calls; waits = each_pushed a.activations IsDead (Fine p.types P answers kinds a.table) k.waits (dead_fine p.types P answers kinds a.table) }

  closed_typed : (owner : ℕ) (items : List Item) (answers : AnswerTypes) (kinds : List TypeId) (a : Actor kernel) → Known answers kinds a → ActorTyped p.types P (close owner items a).next
  closed_typed owner items answers kinds a k = by (is_starved owner a)
    where
      by : (b : Bool) → ActorTyped p.types P (cond b (rejected owner 5 (codes "no answer") items a) (outcome items a)).next
      by true = known_typed answers kinds (with_activation owner IsAnswered a) (set_known answers kinds a owner IsAnswered k (answered_fine p.types P answers kinds a.table))
      by false = known_typed answers kinds a k

  -- the table with the calls of an execution of this incoming call
  abbrev owned : ℕ → Effects kernel → Actor kernel → CallTable (List TypeId) Given
  owned owner effects a = record a.table { calls = a.table.calls ++ map (open_call {L = kernel} owner) effects.calls }

  length_opened : (owner : ℕ) (calls : List Outgoing) → length (map (open_call {L = kernel} owner) calls) ≡ length calls
  length_opened owner [] = refl
  length_opened owner (c ∷ calls) = ap suc (length_opened owner calls)

  -- what waits now fits
  waits_now : (owner : ℕ) (effects : Effects kernel) (a : Actor kernel) (answers : AnswerTypes) (kinds : List TypeId) (number : ℕ) (v : Waiting) → WaitingTyped p.types P answers kinds v
      → IsWaiting (running p.types) (with_calls a.table effects.calls) number v.at → WaitFits p.types P answers kinds (owned owner effects a) number v
  waits_now owner effects a answers kinds number v t h =
      let r = in_range a.table.first (a.table.calls ++ map (open_call {L = kernel} 0) effects.calls) number h.0 h.1 in
      record {
        made = omega (arith, r.1, length-append a.table.calls (map (open_call {L = kernel} 0) effects.calls), length-append a.table.calls (map (open_call {L = kernel} owner) effects.calls), length_opened 0 effects.calls, length_opened owner effects.calls);
        typed = λ call q o.
            let d = reowned a.table.first a.table.calls effects.calls owner 0 number call q in
            let same : d.0 ≡ h.0 = (let z : Some d.0 ≡ Some h.0 = sym d.1 ∙ h.1 in cc) in
            (t, subst (λ (x : Option ℕ). WaitsOn (running p.types) (awaited_by number x) v.at) (sym (d.2.resumes ∙ ap (λ (x : Row). x.resumes) same)) h.2);
      }

  ended_fine : (owner : ℕ) (effects : Effects kernel) (a : Actor kernel) (answers : AnswerTypes) (kinds : List TypeId) (ending : Ending kernel) → EndingFits p.types P answers kinds (with_calls a.table effects.calls) ending
      → Fine p.types P answers kinds (owned owner effects a) (activation_at a.activations owner) → Fine p.types P answers kinds (owned owner effects a) (activation_after ending (activation_at a.activations owner))
  ended_fine owner effects a answers kinds (Answers answer) h was = answered_fine p.types P answers kinds (owned owner effects a)
  ended_fine owner effects a answers kinds AwaitsNothing h was = nothing_fine p.types P answers kinds (owned owner effects a)
  ended_fine owner effects a answers kinds Unchanged h was = was
  ended_fine owner effects a answers kinds (Awaits number v) h was = λ n u q.
      let same : number ≡ n = cc in
      let alike : v ≡ u = cc in
      subst (λ m. WaitFits p.types P answers kinds (owned owner effects a) m u) same (subst (WaitFits p.types P answers kinds (owned owner effects a) number) alike (waits_now owner effects a answers kinds number v h.0 h.1))

  committed_typed : (owner weight : ℕ) (items : List Item) (effects : Effects kernel) (answers : AnswerTypes) (kinds : List TypeId) (a : Actor kernel) → Known answers kinds a → EffectsFit p.types P answers kinds a.table effects
      → ActorTyped p.types P (close owner items (committed owner weight effects a)).next
  committed_typed owner weight items effects answers kinds a k e =
      let others : (other : ℕ) → Fine p.types P e.0 e.1 (owned owner effects a) (activation_at a.activations other) = λ other.
      fine_later p.types P lawful answers e.0 kinds e.1 e.2.0 e.3 a.table (map (open_call {L = kernel} owner) effects.calls) (activation_at a.activations other) (k.waits other) in
      closed_typed owner items e.0 e.1 (committed owner weight effects a) (record {
        may = e.2.0.1 k.may;
        fields = e.4.0;
        calls = agrees_owner (running p.types) e.0 e.1 a.table effects.calls owner e.4.1;
        waits = each_set a.activations owner (activation_after effects.ending (activation_at a.activations owner)) (Fine p.types P e.0 e.1 (owned owner effects a)) others
            (ended_fine owner effects a e.0 e.1 effects.ending e.4.2 (others owner)) (answered_fine p.types P e.0 e.1 (owned owner effects a));
      })

  -- ---- calls that come in

  update_typed : (answers : AnswerTypes) (kinds : List TypeId) (a : Actor kernel) → Known answers kinds a → (r : Result (Effects kernel)) → ((prints : List (List ℕ)) (weight : ℕ) (effects : Effects kernel) → r ≡ Completed prints weight effects → EffectsFit p.types P answers kinds a.table effects)
      → ActorTyped p.types P (update_outcome (length a.activations) (arrived a) r).next
  update_typed answers kinds a k (Completed prints weight effects) h = committed_typed (length a.activations) weight _ effects answers kinds (arrived a) (arrived_known answers kinds a k) (h prints weight effects refl)
  update_typed answers kinds a k (Trapped prints text) h = closed_typed (length a.activations) _ answers kinds (arrived a) (arrived_known answers kinds a k)
  update_typed answers kinds a k (Exhausted prints cause) h = closed_typed (length a.activations) _ answers kinds (arrived a) (arrived_known answers kinds a k)

  queried_known : (answers : AnswerTypes) (kinds : List TypeId) (owner : ℕ) (ending : Ending kernel) (a : Actor kernel) → Known answers kinds a → Known answers kinds (after_query owner ending a)
  queried_known answers kinds owner (Answers answer) a k = set_known answers kinds a owner IsAnswered k (answered_fine p.types P answers kinds a.table)
  queried_known answers kinds owner (Awaits number v) a k = k
  queried_known answers kinds owner AwaitsNothing a k = k
  queried_known answers kinds owner Unchanged a k = k

  query_typed : (answers : AnswerTypes) (kinds : List TypeId) (a : Actor kernel) → Known answers kinds a → (r : Result (Effects kernel)) → ActorTyped p.types P (query_outcome (length a.activations) (arrived a) r).next
  query_typed answers kinds a k (Completed prints weight effects) =
      closed_typed (length a.activations) _ answers kinds (after_query (length a.activations) effects.ending (arrived a)) (queried_known answers kinds (length a.activations) effects.ending (arrived a) (arrived_known answers kinds a k))
  query_typed answers kinds a k (Trapped prints text) = closed_typed (length a.activations) _ answers kinds (arrived a) (arrived_known answers kinds a k)
  query_typed answers kinds a k (Exhausted prints cause) = closed_typed (length a.activations) _ answers kinds (arrived a) (arrived_known answers kinds a k)

  pub parameters_of : (entry : Entry) → IsEntry P entry → Each (IsCarried p.types) entry.parameters
  parameters_of entry (inl i) = subst (Each (IsCarried p.types)) (sym i.4) (at_method (λ (m : Method). Each (IsCarried p.types) m.parameters) P.methods i.0 i.1 (program_shares p w).parameters i.3)
  parameters_of entry (inr i) = subst (Each (IsCarried p.types)) (sym i.1) tt

  abbrev around : CallTable (List TypeId) Given → Surroundings
  around table = surroundings coding p.types own table

  -- the body of a method that completes
  call_left : (first : ℕ) (answers : AnswerTypes) (kinds : List TypeId) (a : Actor kernel) (entry : Entry) (caller bytes : Bytes) → Known answers kinds a → IsEntry P entry → length caller ≤ 29 → (n : ℕ) (effects : Effects kernel)
      → (entered (meaning coding first p.types P) own a entry caller bytes n).completion ≡ Some (Completes effects) → EffectsFit p.types P answers kinds a.table effects
  call_left first answers kinds a entry caller bytes k is few n effects q = by (read_values coding p.types entry.parameters bytes) refl q
    where
      by : (o : Option (List Value)) → read_values coding p.types entry.parameters bytes ≡ o → (entered_body (meaning coding first p.types P) own a (reads entry caller o) n).completion ≡ Some (Completes effects) → EffectsFit p.types P answers kinds a.table effects
      by None e z = absurd (never_completes (codes "bad argument") n effects z)
      by (Some vs) e z =
          body_left (around a.table) lawful w.types P (program_shares p w) answers kinds a.store (Enters entry caller vs) n effects k.may k.fields k.calls
          (is, few, read_typed p.types w.types answers kinds coding faithful entry.parameters bytes vs (parameters_of entry is) e) z

  -- ---- answers that come in

  module _ (first : ℕ) (a : Actor kernel) (answers : AnswerTypes) (kinds : List TypeId) (k : Known answers kinds a) (number : ℕ) (call : Row) (found : call_at a.table number ≡ Some call) (opened : is_open_state call.state ≡ true) (received : Received)
      (proper : IsProper (event_of number received)) where
    abbrev value : Option Given
    value = received_value (meaning coding first p.types P) own a call received

    read_fits : (t : TypeId) (bytes : Bytes) (g : Given) → ResultOf (running p.types).head call.results t → Each (IsCarried p.types) call.results → results_given (read_values coding p.types call.results bytes) ≡ Some g → GivenFits (running p.types) answers kinds t g
    read_fits t bytes g is sh q = by (read_values coding p.types call.results bytes) refl q
      where
        by : (o : Option (List Value)) → read_values coding p.types call.results bytes ≡ o → results_given o ≡ Some g → GivenFits (running p.types) answers kinds t g
        by None e z = absurd (let y : None ≡ Some g = z in cc)
        by (Some vs) e z =
            subst (GivenFits (running p.types) answers kinds t) (let same : Gets (packed vs) ≡ g = cc in same)
            (results_packed (running p.types) answers kinds call.results t vs is (read_typed p.types w.types answers kinds coding faithful call.results bytes vs sh e))

    -- an answer to a call of the program's own has the type of its future
    own_fits : (received : Received) → IsProper (event_of number received) → (t : TypeId) (g : Given) → ResultOf (running p.types).head call.results t → Each (IsCarried p.types) call.results → call.resumes ≡ None
        → received_value (meaning coding first p.types P) own a call received ≡ Some g → GivenFits (running p.types) answers kinds t g
    own_fits (Reply bytes) proper t g is sh none q = read_fits t bytes g is sh (ap (λ (o : Option ℕ). reply_value (meaning coding first p.types P) own a call o bytes) (sym none) ∙ q)
    own_fits (Reject c text) proper t g is sh none q = subst (GivenFits (running p.types) answers kinds t) (let same : Fails (error (reject_code c) text) ≡ g = cc in same) (small_code c proper.0, proper.1)

    state_fits : (o : Option Given) → value ≡ o → (t : TypeId) → answers.types number ≡ Some t → StateFits (running p.types) answers kinds t (Answered o)
    state_fits None e t q = tt
    state_fits (Some g) e t q =
        let i = k.calls number t q in
        let same : i.call ≡ call = (let z : Some i.call ≡ Some call = sym i.is ∙ found in cc) in
        own_fits received proper t g (subst (λ (c : Row). ResultOf (running p.types).head c.results t) same i.result) (subst (λ (c : Row). Each (IsCarried p.types) c.results) same i.shareable)
        (ap (λ (c : Row). c.resumes) (sym same) ∙ i.own) e

    pub answered_agrees : (o : Option Given) → value ≡ o → Agrees (running p.types) answers kinds (set_state a.table number (Answered o))
    answered_agrees o e = agrees_set (running p.types) answers kinds a.table number (Answered o) (state_fits o e) k.calls

    filled_known : (o : Option Given) → value ≡ o → Known answers kinds (filled number o a)
    filled_known o e = record {
      may = k.may;
      fields = k.fields;
      calls = answered_agrees o e;
      waits = λ owner. fine_set p.types P lawful answers kinds a.table number (Answered o) (activation_at a.activations owner) refl (k.waits owner);
    }

    abbrev waiting : ℕ → Waiting → Standing
    waiting n v = WaitsFor n v

    pub waiting_is : (x : Standing) (v : Waiting) → waiting_on number x ≡ Some v → x ≡ WaitsFor number v
    waiting_is IsAnswered v q = absurd (let z : None ≡ Some v = q in cc)
    waiting_is IsDead v q = absurd (let z : None ≡ Some v = q in cc)
    waiting_is WaitsForNothing v q = absurd (let z : None ≡ Some v = q in cc)
    waiting_is (WaitsFor other u) v q = by (nat_eq other number) refl q
      where
        by : (b : Bool) → nat_eq other number ≡ b → cond b (Some u) None ≡ Some v → waiting other u ≡ waiting number v
        by true e z = let same : u ≡ v = cc in ap₂ (λ n x. waiting n x) (eqb-true other number e) same
        by false e z = absurd (let y : None ≡ Some v = z in cc)

    state_given : (st : State Given) (t : TypeId) (g : Given) → StateFits (running p.types) answers kinds t st → value_in_state (Some st) ≡ Some g → GivenFits (running p.types) answers kinds t g
    state_given Open t g h q = absurd (let z : None ≡ Some g = q in cc)
    state_given Lost t g h q = absurd (let z : None ≡ Some g = q in cc)
    state_given (Answered None) t g h q = absurd (let z : None ≡ Some g = q in cc)
    state_given (Answered (Some x)) t g h q = subst (GivenFits (running p.types) answers kinds t) (let same : x ≡ g = cc in same) h

    -- what it waits for fits
    given_fits : (resumes : Option ℕ) → call.resumes ≡ resumes → (t : TypeId) (g : Given) → answers.types (awaited_by number resumes) ≡ Some t → value ≡ Some g → GivenFits (running p.types) answers kinds t g
    given_fits None e t g q v = state_fits (Some g) v t q
    given_fits (Some f) e t g q v = by received proper v
      where
        by : (r : Received) → IsProper (event_of number r) → received_value (meaning coding first p.types P) own a call r ≡ Some g → GivenFits (running p.types) answers kinds t g
        by (Reply bytes) h z =
            let i = k.calls f t q in
            state_given i.call.state t g i.state
            (ap (λ (o : Option Row). value_in_state (state_of o)) (sym i.is) ∙ ap (λ (o : Option ℕ). reply_value (meaning coding first p.types P) own a call o bytes) (sym e) ∙ z)
        by (Reject c text) h z = subst (GivenFits (running p.types) answers kinds t) (let same : Fails (error (reject_code c) text) ≡ g = cc in same) (small_code c h.0, h.1)

    some_type : (o : Option TypeId) → AtSome o (λ t. Unit {0}) → (t : TypeId) × (o ≡ Some t)
    some_type None h = absurd h
    some_type (Some t) h = (t, refl)

    -- the body that waits, with what it is given
    pub resumes_fit : (v : Waiting) (g : Given) → activation_at a.activations call.owner ≡ WaitsFor number v → value ≡ Some g → BodyFits p.types P answers kinds (Resumes v g)
    resumes_fit v g q e =
        let f = (k.waits call.owner number v q).typed call found opened in
        let t = some_type (answers.types (awaited_by number call.resumes)) (waits_kept v f.0.1 f.1) in
        (f.0, (awaited_by number call.resumes, t.0, t.1, f.1, given_fits call.resumes refl t.0 g t.1 e))
      where
        no_value : (e : Exp) (nodes n : ℕ) → reduce (head_at p.types) None [] e ≡ act.Awaits nodes n → IsNoValue e
        no_value (Val u) nodes n z = absurd (let y : act.Stuck ≡ act.Awaits nodes n = z in cc)
        no_value e nodes n z = tt

        waits_kept : (v : Waiting) → GivesResults (running p.types) v.results answers kinds v.at → WaitsOn (running p.types) (awaited_by number call.resumes) v.at → AtSome (answers.types (awaited_by number call.resumes)) (λ t. Unit {0})
        waits_kept v h i =
            (subst (KeepsFit (running p.types) (GivesResults (running p.types) v.results) answers kinds) (i.1 a.store.cells)
            ((results_kept (running p.types) v.results lawful).keeps answers kinds None a.store.cells v.at (no_value v.at i.0 (awaited_by number call.resumes) (i.1 [])) k.fields.cells h tt)).0

    nothing_left : (table : CallTable (List TypeId) Given) → Agrees (running p.types) answers kinds table → EffectsFit p.types P answers kinds table (no_effects a)
    nothing_left table h = (
      answers,
      kinds,
      grows_self answers,
      longer_self kinds,
      (k.fields, subst (λ (cs : List Row). Agrees (running p.types) answers kinds (record { first = table.first; calls = cs })) (sym (append_nil table.calls)) h, tt),
    )

    -- what an execution on an answer leaves
    answer_left : (n : ℕ) (effects : Effects kernel) → (answering (meaning coding first p.types P) own a number call received n).completion ≡ Some (Completes effects) → EffectsFit p.types P answers kinds (set_state a.table number (Answered value)) effects
    answer_left n effects q = by value refl (waiting_on number (activation_at a.activations call.owner)) refl q
      where
        by : (o : Option Given) → value ≡ o → (x : Option Waiting) → waiting_on number (activation_at a.activations call.owner) ≡ x → (resumed (meaning coding first p.types P) own a number o x n).completion ≡ Some (Completes effects)
            → EffectsFit p.types P answers kinds (set_state a.table number (Answered o)) effects
        by None e x i z = absurd (never_completes (codes "bad reply") n effects z)
        by (Some g) e None i z = subst (EffectsFit p.types P answers kinds (set_state a.table number (Answered (Some g)))) (let same : no_effects a ≡ effects = cc in same) (nothing_left (set_state a.table number (Answered (Some g))) (answered_agrees (Some g) e))
        by (Some g) e (Some v) i z =
            body_left (around (set_state a.table number (Answered (Some g)))) lawful w.types P (program_shares p w) answers kinds a.store (Resumes v g) n effects k.may k.fields (answered_agrees (Some g) e)
            (resumes_fit v g (waiting_is (activation_at a.activations call.owner) v i) e) z

    broken_known : Known answers kinds (broken number call.owner a)
    broken_known = by (waiting_on number (activation_at a.activations call.owner))
      where
        set_with : (st : State Given) → is_open_state st ≡ false → ((t : TypeId) → StateFits (running p.types) answers kinds t st) → Known answers kinds (record a { table = set_state a.table number st })
        set_with st shut fits = record {
          may = k.may;
          fields = k.fields;
          calls = agrees_set (running p.types) answers kinds a.table number st (λ t q. fits t) k.calls;
          waits = λ owner. fine_set p.types P lawful answers kinds a.table number st (activation_at a.activations owner) shut (k.waits owner);
        }

        by : (x : Option Waiting) → Known answers kinds (broken_by number call.owner a x)
        by None = set_with Lost refl (λ t. tt)
        by (Some v) = set_known answers kinds (record a { table = set_state a.table number (Answered None) }) call.owner IsDead (set_with (Answered None) refl (λ t. tt)) (dead_fine p.types P answers kinds (set_state a.table number (Answered None)))

    answer_typed : (r : Result (Effects kernel)) → ((prints : List (List ℕ)) (weight : ℕ) (effects : Effects kernel) → r ≡ Completed prints weight effects → EffectsFit p.types P answers kinds (set_state a.table number (Answered value)) effects)
        → ActorTyped p.types P (answer_outcome number call.owner value a r).next
    answer_typed (Completed prints weight effects) h = committed_typed call.owner weight _ effects answers kinds (filled number value a) (filled_known value refl) (h prints weight effects refl)
    answer_typed (Trapped prints text) h = closed_typed call.owner _ answers kinds (broken number call.owner a) broken_known
    answer_typed (Exhausted prints cause) h = closed_typed call.owner _ answers kinds (broken number call.owner a) broken_known

  -- ---- starts

  started_typed : (made : ℕ) (activations : List Standing) (fields : Fields) (weight : ℕ) → ((kinds : List TypeId) × FieldsTyped p.types P (calling quiet) kinds fields) → ((owner number : ℕ) (v : Waiting) → activation_at activations owner ≡ WaitsFor number v → number < made)
      → ActorTyped p.types P (started made activations fields weight)
  started_typed made activations fields weight h early = record {
    answers = calling quiet;
    kinds = h.0;
    may_call = refl;
    fields = h.1;
    calls = λ n t q. absurd (let z : None ≡ Some t = q in cc);
    waits = λ owner number v q. record { made = omega (arith, early owner number v q); typed = λ call r o. absurd (let z : None ≡ Some call = r in cc) };
  }

-- ---- events

module _ (coding : Coding) (faithful : IsFaithful coding) (pays : Measure) (programs : List (actor.Program kernel)) (typed : AreTyped coding programs) (own : Bytes) (short : length own ≤ 29) where
  abbrev KeepsTyped : Event → ActorState kernel → Outcome (ActorState kernel) → Type 0
  KeepsTyped e state o = IsProper e → StateTyped coding state → StateTyped coding o.next

  -- a completed result, as the execution has it
  completes : {A : Type 0} (first charged : ℕ) (x : Execution A) (r : Result A) → HasResult pays first charged x r → (prints : List (List ℕ)) (weight : ℕ) (end : A) → r ≡ Completed prints weight end → (n : ℕ) × ((x n).completion ≡ Some (Completes end))
  completes first charged x (Completed prints weight end) h ps v e q = let same : end ≡ e = cc in (h.0, ap (λ p. p.completion) h.2 ∙ ap (λ a. Some (Completes a)) same)
  completes first charged x (Trapped prints text) h ps v e q = absurd (let z : Trapped prints text ≡ Completed ps v e = q in cc)
  completes first charged x (Exhausted prints cause) h ps v e q = absurd (let z : Exhausted prints cause ≡ Completed ps v e = q in cc)

  -- a program that is the meaning of a typed one
  abbrev meant : (q : actor.Program kernel) → IsTypedProgram coding q → actor.Program kernel
  meant q t = meaning coding t.first t.program_of.types (program t.program_of)

  updates : (name caller bytes : List ℕ) (q : actor.Program kernel) (a : Actor kernel) (entry : Entry) → q.update name ≡ Some entry → (r : Result (Effects kernel)) → HasResult pays q.first_memory a.charged (entered q own a entry caller bytes) r → length caller ≤ 29
      → StateTyped coding (Running q a) → StateTyped coding (Running q (update_outcome (length a.activations) (arrived a) r).next)
  updates name caller bytes q a entry found r has few st =
      let t = st.0 in
      let p = t.program_of in
      let k = typed_known coding faithful p t.well_typed own short a st.1 in
      let is = method_is (program p) false name (program p).methods 0 entry (λ j m e. ap (slice_get (program p).methods) (omega arith) ∙ e) (subst (λ (x : actor.Program kernel). x.update name ≡ Some entry) t.is found) in
      let has' = subst (λ (x : actor.Program kernel). HasResult pays x.first_memory a.charged (entered x own a entry caller bytes) r) t.is has in (
        t,
        update_typed coding faithful p t.well_typed own short st.1.answers st.1.kinds a k r
            (λ ps v e z. let c = completes (meant q t).first_memory a.charged (entered (meant q t) own a entry caller bytes) r has' ps v e z in
            call_left coding faithful p t.well_typed own short t.first st.1.answers st.1.kinds a entry caller bytes k is few c.0 e c.1),
      )

  answers_come : (number : ℕ) (received : Received) (q : actor.Program kernel) (a : Actor kernel) (call : Row) → call_at a.table number ≡ Some call → is_open_state call.state ≡ true → (r : Result (Effects kernel))
      → HasResult pays q.first_memory a.charged (answering q own a number call received) r → IsProper (event_of number received) → StateTyped coding (Running q a) → StateTyped coding (Running q (answer_outcome number call.owner (received_value q own a call received) a r).next)
  answers_come number received q a call found opened r has proper st =
      let t = st.0 in
      let p = t.program_of in
      let k = typed_known coding faithful p t.well_typed own short a st.1 in
      let has' = subst (λ (x : actor.Program kernel). HasResult pays x.first_memory a.charged (answering x own a number call received) r) t.is has in (
        t,
        subst (λ (x : actor.Program kernel). ActorTyped p.types (program p) (answer_outcome number call.owner (received_value x own a call received) a r).next) (sym t.is)
            (answer_typed coding faithful p t.well_typed own short t.first a st.1.answers st.1.kinds k number call found opened received proper r
            (λ ps v e z. let c = completes (meant q t).first_memory a.charged (answering (meant q t) own a number call received) r has' ps v e z in
            answer_left coding faithful p t.well_typed own short t.first a st.1.answers st.1.kinds k number call found opened received proper c.0 e c.1)),
      )

  -- a start that completes
  begins : (q : actor.Program kernel) (t : IsTypedProgram coding q) (o : Option Kept) (first charged : ℕ) (prints : List (List ℕ)) (weight : ℕ) (fields : Fields) → HasResult pays first charged (q.start own o) (Completed prints weight fields)
      → (kinds : List TypeId) × FieldsTyped t.program_of.types (program t.program_of) (calling quiet) kinds fields
  begins q t o first charged prints weight fields has =
      let p = t.program_of in
      let has' = subst (λ (x : actor.Program kernel). HasResult pays first charged (x.start own o) (Completed prints weight fields)) t.is has in
      start_left p t.well_typed (lawful_types p.types t.well_typed.types t.well_typed.basics) own short coding faithful (variables_share p.types t.well_typed.end p.stable t.well_typed.stable)
      t.well_typed.types o has'.0 fields (ap (λ x. x.completion) has'.2)

  install_typed : (number made : ℕ) (acts : List Standing) (q : actor.Program kernel) → slice_get programs number ≡ Some q → (r : Result Fields) → HasResult pays q.first_memory 0 (q.start own None) r → StateTyped coding (NoActor made acts)
      → StateTyped coding (installed q made acts r).next
  install_typed number made acts q found (Completed prints weight fields) has early =
      let t = typed number q found in
      (t, started_typed coding faithful t.program_of t.well_typed own short made acts fields weight (begins q t None q.first_memory 0 prints weight fields has) early)
  install_typed number made acts q found (Trapped prints text) has early = early
  install_typed number made acts q found (Exhausted prints cause) has early = early

  upgrade_typed : (number : ℕ) (old : actor.Program kernel) (a : Actor kernel) (q : actor.Program kernel) → slice_get programs number ≡ Some q → (before : List (List ℕ)) (kept : Kept) (r : Result Fields) → HasResult pays q.first_memory 0 (q.start own (Some kept)) r
      → StateTyped coding (Running old a) → StateTyped coding (upgraded old a q before r).next
  upgrade_typed number old a q found before kept (Completed prints weight fields) has st =
      let t = typed number q found in (
        t,
        started_typed coding faithful t.program_of t.well_typed own short (next_number a.table) a.activations fields weight (begins q t (Some kept) q.first_memory 0 prints weight fields has)
            (λ owner n v e. (st.1.waits owner n v e).made),
      )
  upgrade_typed number old a q found before kept (Trapped prints text) has st = st
  upgrade_typed number old a q found before kept (Exhausted prints cause) has st = st

  rejected_typed : (q : actor.Program kernel) (a : Actor kernel) → StateTyped coding (Running q a) → StateTyped coding (Running q (with_activation (length a.activations) IsAnswered (arrived a)))
  rejected_typed q a st =
      let t = st.0 in
      let p = t.program_of in
      let k = arrived_known coding faithful p t.well_typed own short st.1.answers st.1.kinds a (typed_known coding faithful p t.well_typed own short a st.1) in (
        t,
        known_typed coding faithful p t.well_typed own short st.1.answers st.1.kinds (with_activation (length a.activations) IsAnswered (arrived a))
            (set_known coding faithful p t.well_typed own short st.1.answers st.1.kinds (arrived a) (length a.activations) IsAnswered k (answered_fine p.types (program p) st.1.answers st.1.kinds a.table)),
      )

  queries : (q : actor.Program kernel) (a : Actor kernel) (r : Result (Effects kernel)) → StateTyped coding (Running q a) → StateTyped coding (Running q (query_outcome (length a.activations) (arrived a) r).next)
  queries q a r st =
      let t = st.0 in
      let p = t.program_of in
      (t, query_typed coding faithful p t.well_typed own short st.1.answers st.1.kinds a (typed_known coding faithful p t.well_typed own short a st.1) r)

  no_canister_typed : (made : ℕ) (acts : List Standing) → StateTyped coding (NoActor made acts) → StateTyped coding (NoActor made (acts ++ IsAnswered ∷ []))
  no_canister_typed made acts early owner number v q = each_pushed acts IsAnswered (λ x. (n : ℕ) (u : Waiting) → x ≡ WaitsFor n u → n < made) (λ other n u e. early other n u e) (λ n u e. absurd (let z : IsAnswered ≡ WaitsFor n u = e in cc)) owner number v q

  typed_cases : Cases pays programs own KeepsTyped
  typed_cases = record {
    ignored = λ e state proper st. st;
    installs = λ number made acts q found r has proper st. install_typed number made acts q found r has st;
    no_canister = λ query name caller bytes made acts proper st. no_canister_typed made acts st;
    no_method = λ query name caller bytes q a proper st. rejected_typed q a st;
    update = λ name caller bytes q a method found r has proper st. updates name caller bytes q a method found r has proper st;
    query = λ query name caller bytes q a method r has proper st. queries q a r st;
    answer = λ number received q a call found opened r has proper st. answers_come number received q a call found opened r has proper st;
    save_traps = λ number old a prints text has proper st. st;
    save_exhausted = λ number old a prints cause has proper st. st;
    upgrades = λ number old a q found before weight kept saves r has proper st. upgrade_typed number old a q found before kept r has st;
  }

  leads_typed : (events : List Event) (state last : ActorState kernel) → Each IsProper events → StateTyped coding state → LeadsTo pays programs own state events last → StateTyped coding last
  leads_typed [] state last proper st h = subst (StateTyped coding) (sym h) st
  leads_typed (e ∷ events) state last proper st h =
      leads_typed events (h.0).next last proper.1 (each_event pays programs own KeepsTyped typed_cases e state h.0 h.1 proper.0 st) h.2

  pub event_keeps : (e : Event) (state : ActorState kernel) (reached : Outcome (ActorState kernel)) → IsProper e → StateTyped coding state → Step pays programs own e state reached → StateTyped coding reached.next
  event_keeps e state reached proper st h = each_event pays programs own KeepsTyped typed_cases e state reached h proper st

  pub reached_typed : (events : List Event) (last : ActorState kernel) → Each IsProper events → Reaches pays programs own events last → StateTyped coding last
  reached_typed events last proper h = leads_typed events (NoActor 0 []) last proper (λ owner number v q. absurd (let z : IsAnswered ≡ WaitsFor number v = q in cc)) h
