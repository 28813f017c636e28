-- Answers to outgoing calls.
use Rattle.std.proofs.Common.{◌≡◌, ℕ, zero, suc, List, [], ◌∷◌, Bool, true, false, cond, nat_eq, Option, Some, None, refl, sym, ap, ap₂, ◌∙◌, subst}
use Rattle.std.specs.Prelude.{slice_get, slice_set}
use Rattle.mo_types.specs.Calls.{Answered, Call, CallTable, State, call_from, set_state}
use Rattle.mo_types.specs.Calls as calls
use Rattle.mo_types.specs.Heads.{map_option}
use Rattle.mo_types.specs.declared.node.TypeId.{TypeId}
use Rattle.mo_types.specs.Graph.{Slot}
use Rattle.mo_values.specs.Shapes.{Bytes}
use Rattle.mo_actor.specs.CallAnswers as answers
use Rattle.mo_actor.specs.CallAnswers.{received_value, resumed, value_in_state}
use Rattle.mo_actor.specs.Executions.{Completes, Execution}
use Rattle.mo_actor.specs.Programs.{Effects}
use Rattle.mo_actor.specs.Programs as actor_programs
use Rattle.mo_actor.specs.States as actor
use Rattle.mo_actor.specs.States.{activation_at, waiting_on}
use Rattle.typed_tree.specs.Language.{Functions}
use Rattle.typed_tree.specs.Programs.{Program}
use Rattle.mo_meaning.specs.Acts as meaning
use Rattle.mo_meaning.specs.Actor.{surroundings}
use Rattle.mo_meaning.specs.Coding.{Coding, Types}
use Rattle.mo_machine.specs.ActorLanguage.{machine, Fields, Resumes, Waiting}
use Rattle.mo_machine.specs.Bodies.{execution_of}
use Rattle.mo_machine.specs.States.{with_states}
use Rattle.value_arena.specs.declared.node.Node.{Node}
use Rattle.arena_executions.specs.declared.giving.Given.{Given}
use Rattle.arena_actors.specs.declared.actor.Activation.{Activation}
use Rattle.arena_actors.specs.declared.actor.Activation.TheVariants as activation
use Rattle.arena_actors.specs.declared.actor.Actor.{Actor}
use Rattle.arena_actors.specs.declared.actor.Body.{Body}
use Rattle.arena_actors.specs.declared.actor.Filled.{Filled}
use Rattle.arena_actors.specs.declared.actor.Filled.TheVariants as filled_as
use Rattle.arena_actors.specs.declared.actor.Made.{Made}
use Rattle.arena_actors.specs.States.{activation_of, actor_of, answer_of, call_of, came_of, fields_of, state_of, table_of, waiting_of, IsResting, IsSound, Rests}
use Rattle.arena_actors.proofs.Resting.{rest_at, waiting_rests}
use Rattle.arena_events.specs.declared.filling.Received.{Received}
use Rattle.arena_events.specs.declared.filling.Received.TheVariants as receives
use Rattle.arena_outcomes.specs.declared.ran.Ran.{Ran}
use Rattle.arena_outcomes.specs.declared.ran.Ran.TheVariants as ran
use Rattle.arena_events.specs.Answering.{broken_by, came_by, no_effects, received_of, waiting_in, IsGoingWith, IsGoneOnKept}
use Rattle.arena_events.specs.Answering as answering_specs
use Rattle.arena_outcomes.specs.Books.{state_set}
use Rattle.arena_outcomes.specs.Ends.{Ends, IsKept}
use Rattle.arena_events.specs.Filling.{as_answer, call_in, filled_in, place_of, received_as, reply_as}
use Rattle.arena_outcomes.specs.Running.{IsResumed}
use Rattle.arena_outcomes.proofs.Closes.{came_set}
use Rattle.arena_events.proofs.Tables.{call_is, put_is}

-- ---- what waits on a call

module _ (groups : ℕ → Functions) (ns : List Node) (number : ℕ) where
  waiting_one : (x : Activation) → waiting_on number (activation_of groups ns x) ≡ map_option (waiting_of groups ns) (waiting_in number (Some x))
  waiting_one activation.Answered = refl
  waiting_one activation.Dead = refl
  waiting_one (activation.WaitsFor other b) = by (nat_eq other number)
    where
      by : (c : Bool) → cond c (Some (waiting_of groups ns b)) None ≡ map_option (waiting_of groups ns) (cond c (Some b) None)
      by true = refl
      by false = refl
  waiting_one activation.WaitsForNothing = refl

  pub waiting_is : (xs : List Activation) (owner : ℕ) → waiting_on number (activation_at (came_of groups ns xs) owner) ≡ map_option (waiting_of groups ns) (waiting_in number (slice_get xs owner))
  waiting_is [] owner = refl
  waiting_is (x ∷ xs) zero = waiting_one x
  waiting_is (x ∷ xs) (suc owner) = waiting_is xs owner

module _ (coding : Coding) (types : Types) where
  -- ---- what comes in

  answer_in : (o : Option Made) → value_in_state (calls.state_of (map_option (call_of coding types) o)) ≡ answer_of coding types (filled_in o)
  answer_in None = refl
  answer_in (Some m) = by m.state
    where
      by : (f : Filled) → value_in_state (Some (state_of coding types f)) ≡ answer_of coding types (as_answer f)
      by filled_as.Open = refl
      by (filled_as.Replied ts bytes) = refl
      by (filled_as.Rejected code text) = refl
      by filled_as.Neither = refl
      by filled_as.Lost = refl

  module _ (first : ℕ) (p : Program) (own : Bytes) (a : actor.Actor machine) (start : ℕ) (ms : List Made) (table_is : a.table ≡ table_of coding types start ms) (m : Made) where
    abbrev meant : actor_programs.Program machine
    meant = with_states coding first types p

    reply_by : (o : Option ℕ) (bytes : Bytes) → answers.reply_value meant own a (call_of coding types m) o bytes ≡ answer_of coding types (reply_as start ms m o bytes)
    reply_by None bytes = refl
    reply_by (Some future) bytes =
        ap (λ (table : CallTable (List TypeId) meaning.Given). value_in_state (calls.state_of (call_from table.first table.calls future))) table_is
        ∙ ap (λ (o : Option (Call (List TypeId) meaning.Given)). value_in_state (calls.state_of o)) (call_is coding types start ms future)
        ∙ answer_in (call_in ms (place_of start future))

    -- what the future is filled with
    pub received_is : (r : Received) → received_value meant own a (call_of coding types m) (received_of r) ≡ answer_of coding types (received_as start ms m r)
    received_is (receives.Reply bytes) = reply_by m.resumes bytes.now
    received_is (receives.Reject code text) = refl

  -- an answer is answered
  answer_state : (f : Filled) → Answered (answer_of coding types (as_answer f)) ≡ state_of coding types (as_answer f)
  answer_state filled_as.Open = refl
  answer_state (filled_as.Replied ts bytes) = refl
  answer_state (filled_as.Rejected code text) = refl
  answer_state filled_as.Neither = refl
  answer_state filled_as.Lost = refl

  filled_state : (o : Option Made) → Answered (answer_of coding types (filled_in o)) ≡ state_of coding types (filled_in o)
  filled_state None = refl
  filled_state (Some m) = answer_state m.state

  reply_state : (start : ℕ) (ms : List Made) (m : Made) (o : Option ℕ) (bytes : Bytes) → Answered (answer_of coding types (reply_as start ms m o bytes)) ≡ state_of coding types (reply_as start ms m o bytes)
  reply_state start ms m None bytes = refl
  reply_state start ms m (Some future) bytes = filled_state (call_in ms (place_of start future))

  received_state : (start : ℕ) (ms : List Made) (m : Made) (r : Received) → Answered (answer_of coding types (received_as start ms m r)) ≡ state_of coding types (received_as start ms m r)
  received_state start ms m (receives.Reply bytes) = reply_state start ms m m.resumes bytes.now
  received_state start ms m (receives.Reject code text) = refl

  -- the table with the future filled
  pub table_filled : (start : ℕ) (ms : List Made) (m : Made) (r : Received) (number place : ℕ) → place_of start number ≡ Some place
      → set_state (table_of coding types start ms) number (Answered (answer_of coding types (received_as start ms m r))) ≡ table_of coding types start (state_set ms place (received_as start ms m r))
  table_filled start ms m r number place is =
      ap (λ (s : State meaning.Given). set_state (table_of coding types start ms) number s) (received_state start ms m r)
      ∙ ap (λ (cs : List (Call (List TypeId) meaning.Given)). record { first = start; calls = cs }) (put_is coding types start ms number place (received_as start ms m r) is)

  table_put : (start : ℕ) (ms : List Made) (number place : ℕ) (f : Filled) → place_of start number ≡ Some place
      → set_state (table_of coding types start ms) number (state_of coding types f) ≡ table_of coding types start (state_set ms place f)
  table_put start ms number place f is = ap (λ (cs : List (Call (List TypeId) meaning.Given)). record { first = start; calls = cs }) (put_is coding types start ms number place f is)

  -- ---- what a trap leaves

  abbrev with_table : actor.Actor machine → CallTable (List TypeId) meaning.Given → actor.Actor machine
  with_table a table = record a { table = table }

  abbrev with_both : actor.Actor machine → CallTable (List TypeId) meaning.Given → List (actor.Activation machine) → actor.Actor machine
  with_both a table l = record a { table = table; activations = l }

  -- by what waits
  broken_at : (groups : ℕ → Functions) (x : Actor) (number place owner charged : ℕ) → place_of x.first number ≡ Some place → (o : Option Body)
      → answers.broken_by number owner (actor_of coding types groups x charged) (map_option (waiting_of groups x.arena) o) ≡ actor_of coding types groups (broken_by place owner x o) charged
  broken_at groups x number place owner charged is None =
      ap (λ (table : CallTable (List TypeId) meaning.Given). with_table (actor_of coding types groups x charged) table) (table_put x.first x.made number place filled_as.Lost is)
  broken_at groups x number place owner charged is (Some b) =
      ap₂ (λ (table : CallTable (List TypeId) meaning.Given) (l : List (actor.Activation machine)). with_both (actor_of coding types groups x charged) table l)
      (table_put x.first x.made number place filled_as.Neither is)
      (sym (came_set groups x.arena x.came owner activation.Dead))

  pub broken_is : (groups : ℕ → Functions) (x : Actor) (number place owner charged : ℕ) → place_of x.first number ≡ Some place
      → answers.broken number owner (actor_of coding types groups x charged) ≡ actor_of coding types groups (answering_specs.broken number place owner x) charged
  broken_is groups x number place owner charged is =
      ap (λ (o : Option Waiting). answers.broken_by number owner (actor_of coding types groups x charged) o) (waiting_is groups x.arena number x.came owner)
      ∙ broken_at groups x number place owner charged is (waiting_in number (slice_get x.came owner))

-- ---- what waits goes on

module _ (types : List Slot) (own : Bytes) (number owner : ℕ) (given : Given) (n : ℕ) (x : Actor) where
  abbrev waits : Option Body
  waits = waiting_in number (slice_get x.came owner)

  -- nothing waits
  nobody : waits ≡ None → (groups : ℕ → Functions) → waiting_on number (activation_at (came_of groups x.arena x.came) owner) ≡ None
  nobody none groups = waiting_is groups x.arena number x.came owner ∙ ap (map_option (waiting_of groups x.arena)) none

  idle_kept : waits ≡ None → IsSound x → IsGoneOnKept owner number x (ran.Completes (no_effects x))
  idle_kept none sound = record {
    sound = sound;
    first = refl;
    made = refl;
    came = λ groups. ap (λ (o : Option Waiting). came_by owner (came_of groups x.arena x.came) o) (sym (nobody none groups));
    within = tt;
    idle = λ groups h. refl;
    changes = λ groups w h. absurd (let e : None ≡ Some w = sym (nobody none groups) ∙ h in cc);
  }

  pub idle_so : waits ≡ None → IsSound x → IsGoingWith types own number owner given n x (ran.Completes (no_effects x))
  idle_so none sound = record {
    tables = λ groups has. has;
    kept = idle_kept none sound;
    rests = λ groups has rests. tt;
    means = λ coding faithful groups has rests g gives first charged p a store_is table_is waiting_same.
        let none_there : waiting_on number (activation_at a.activations owner) ≡ None = waiting_same ∙ nobody none groups in
        let Of : Option Waiting → Type 0 = λ o. Ends groups n (ran.Completes (no_effects x)) (resumed (with_states coding first types p) own a number (Some g) o) in
        subst Of (sym none_there) (refl, ap (λ (s : Fields). Some (Completes (record { store = s; calls = []; ending = actor_programs.Unchanged }))) store_is);
  }

  module _ (b : Body) (some : waits ≡ Some b) where
    abbrev behind : Actor
    behind = record x { came = slice_set x.came owner activation.Dead }

    somebody : (groups : ℕ → Functions) → waiting_on number (activation_at (came_of groups x.arena x.came) owner) ≡ Some (waiting_of groups x.arena b)
    somebody groups = waiting_is groups x.arena number x.came owner ∙ ap (map_option (waiting_of groups x.arena)) some

    going_kept : (r : Ran) → IsKept behind r → IsGoneOnKept owner number x r
    going_kept (ran.Still table) h = tt
    going_kept (ran.Traps table prints text) h = tt
    going_kept (ran.Completes d) h = record {
      sound = h.sound;
      first = h.first;
      made = h.made;
      came = λ groups.
          h.came groups
          ∙ came_set groups x.arena x.came owner activation.Dead
          ∙ ap (λ (o : Option Waiting). came_by owner (came_of groups x.arena x.came) o) (sym (somebody groups));
      within = h.within;
      idle = λ groups none. absurd (let e : None ≡ Some (waiting_of groups x.arena b) = sym none ∙ somebody groups in cc);
      changes = λ groups w is. h.changes;
    }

    body_rests : (groups : ℕ → Functions) → Rests groups x → IsResting (waiting_of groups x.arena b)
    body_rests groups rests =
        waiting_rests number (activation_at (came_of groups x.arena x.came) owner) (waiting_of groups x.arena b) (rest_at (came_of groups x.arena x.came) owner rests) (somebody groups)

    pub waiting_so : (r : Ran) → IsResumed types own given b n behind r → IsGoingWith types own number owner given n x r
    waiting_so r h = record {
      tables = h.tables;
      kept = going_kept r h.kept;
      rests = λ groups has rests. h.rests groups has (body_rests groups rests);
      means = λ coding faithful groups has rests g gives first charged p a store_is table_is waiting_same.
          let w : Waiting = waiting_of groups x.arena b in
          let there_waits : waiting_on number (activation_at a.activations owner) ≡ Some w = waiting_same ∙ somebody groups in
          let runs : CallTable (List TypeId) meaning.Given → Fields → Execution (Effects machine) = λ table these. execution_of (surroundings coding types own table) these (Resumes w g) in
          let there : Ends groups n r (runs (table_of coding types x.first x.made) (fields_of groups x.arena x.store.items x.exports)) = h.means coding faithful groups has g (body_rests groups rests) gives in
          let At : Fields → Type 0 = λ these. Ends groups n r (runs (table_of coding types x.first x.made) these) in
          let To : CallTable (List TypeId) meaning.Given → Type 0 = λ table. Ends groups n r (runs table a.store) in
          let Of : Option Waiting → Type 0 = λ o. Ends groups n r (resumed (with_states coding first types p) own a number (Some g) o) in
          subst Of (sym there_waits) (subst To (sym table_is) (subst At (sym store_is) there));
    }
