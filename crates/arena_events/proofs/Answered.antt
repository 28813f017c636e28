-- What comes of answers to outgoing calls.
use Rattle.std.proofs.Common.{◌≡◌, ℕ, zero, suc, ◌+◌, List, [], ◌∷◌, ◌++◌, map, Bool, true, false, cond, Option, Some, None, Vec, Global, refl, sym, ap, ap₂, ◌∙◌, subst}
use Rattle.std.specs.Prelude.{codes, slice_get, slice_set}
use Rattle.play_script.specs.declared.item.Item.{Item}
use Rattle.play_script.specs.declared.item.Item.TheVariants as item
use Rattle.play_script.specs.declared.item.Word.TheVariants as word
use Rattle.mo_types.specs.Calls.{Answered, Call, set_state}
use Rattle.mo_types.specs.Heads.{map_option}
use Rattle.mo_types.specs.declared.node.TypeId.{TypeId}
use Rattle.mo_types.specs.Graph.{Slot}
use Rattle.mo_values.specs.Shapes.{Bytes}
use Rattle.mo_actor.specs.CallAnswers as answers
use Rattle.mo_actor.specs.CallAnswers.{answer_course, answer_outcome, answering, filled, open_course, received_reading, received_value, resumed}
use Rattle.mo_actor.specs.Completions.{activation_after}
use Rattle.mo_actor.specs.Computed.{Followed, ToItsEnd, followed, followed_to}
use Rattle.mo_actor.specs.Executions.{Execution, ReadingCost, after_reading}
use Rattle.mo_actor.specs.Outcomes.{Outcome, close, outcome, trap_items}
use Rattle.mo_actor.specs.Programs.{Effects}
use Rattle.mo_actor.specs.Programs as actor_programs
use Rattle.mo_actor.specs.Results.{Completed, Result, Trapped}
use Rattle.mo_actor.specs.States as actor
use Rattle.mo_actor.specs.States.{IsDead, activation_at, waiting_on}
use Rattle.typed_tree.specs.declared.program.Program.{Program as Written}
use Rattle.typed_tree.specs.Language.{Functions}
use Rattle.typed_tree.specs.ProgramView.{program}
use Rattle.mo_meaning.specs.Acts as meaning
use Rattle.mo_meaning.specs.Coding.{Coding, IsFaithful}
use Rattle.mo_machine.specs.ActorLanguage.{machine, Waiting}
use Rattle.mo_machine.specs.States.{with_states}
use Rattle.value_arena.specs.declared.node.Node.{Node}
use Rattle.arena_states.specs.declared.group.GroupOf.{GroupOf}
use Rattle.arena_states.specs.Groups.{HasGroups}
use Rattle.arena_executions.specs.declared.giving.Given.{Given}
use Rattle.arena_executions.specs.Giving.{IsThis}
use Rattle.arena_actors.specs.declared.actor.Activation.TheVariants as activation
use Rattle.arena_actors.specs.declared.actor.Actor.{Actor}
use Rattle.arena_actors.specs.declared.actor.Body.{Body}
use Rattle.arena_actors.specs.declared.actor.Filled.{Filled}
use Rattle.arena_actors.specs.declared.actor.Made.{Made}
use Rattle.arena_actors.specs.States.{actor_of, answer_of, call_of, came_of, fields_of, table_of, AreAtRest, IsSound, Rests}
use Rattle.arena_actors.proofs.Resting.{rest_set}
use Rattle.arena_events.specs.declared.filling.Received.{Received}
use Rattle.arena_outcomes.specs.declared.ran.Done.{Done}
use Rattle.arena_outcomes.specs.declared.ran.Ending.{Ending}
use Rattle.arena_outcomes.specs.declared.ran.Ending.TheVariants as ending
use Rattle.arena_outcomes.specs.declared.ran.Lived.{Lived}
use Rattle.arena_outcomes.specs.declared.ran.Lived.TheVariants as lived
use Rattle.arena_outcomes.specs.declared.ran.Over.{Over}
use Rattle.arena_outcomes.specs.declared.ran.Ran.{Ran}
use Rattle.arena_outcomes.specs.declared.ran.Ran.TheVariants as ran
use Rattle.arena_events.specs.Answering.{broken, broken_by, call_of_place, came_by, came_taken, if_open, open_at, placed, received_of, waiting_in, IsAnswered, IsAnsweredAt, IsBroken, IsGoingOn, IsGoingWith, IsGoneOn, IsGoneOnKept, Placed}
use Rattle.arena_outcomes.specs.Books as books
use Rattle.arena_outcomes.specs.Books.{came_after, closed, completed, effects_of, ending_of, is_open, state_set}
use Rattle.arena_events.specs.Calling.{trapping}
use Rattle.arena_outcomes.specs.Ends.{table_in, Ends, IsChange, RestingIn}
use Rattle.arena_events.specs.Filling.{call_in, place_of, received_as, AreGiven, IsGivenAs}
use Rattle.arena_events.specs.Lives.{CourseOf, Lives}
use Rattle.arena_events.proofs.Calls.{traps_at_once, trapping_table}
use Rattle.arena_outcomes.proofs.Closes.{came_set, came_within_set, close_is, closed_rests, closed_sound, closed_table, open_is}
use Rattle.arena_outcomes.proofs.Commits.{came_after_is, came_after_rests, came_after_within, complete_is}
use Rattle.arena_events.proofs.Follows.{followed_completes, followed_still, followed_traps}
use Rattle.arena_outcomes.proofs.Placing.{set_twice}
use Rattle.arena_events.proofs.Receives.{lives_alike}
use Rattle.arena_events.proofs.Replies.{broken_is, received_is, table_filled}
use Rattle.arena_events.proofs.Tables.{call_is}

-- the cost of reading shows in nothing else
after_cost : (groups : ℕ → Functions) (n : ℕ) (cost : ReadingCost) (r : Ran) (e : Execution (Effects machine)) → Ends groups n r e → Ends groups n r (after_reading cost e)
after_cost groups n cost (ran.Still table) e h = h
after_cost groups n cost (ran.Traps table prints text) e h = h
after_cost groups n cost (ran.Completes d) e h = h

-- ---- what the future is given

given_none : (groups : ℕ → Functions) (ns : List Node) (o : Option meaning.Given) → IsGivenAs groups ns o None → o ≡ None
given_none groups ns None h = refl
given_none groups ns (Some g) h = absurd h

pub record IsGivenThis (groups : ℕ → Functions) (ns : List Node) (o : Option meaning.Given) (v : Given) : Type 0 where
  pub this : meaning.Given
  pub is : o ≡ Some this
  pub gives : IsThis groups ns v this

given_some : (groups : ℕ → Functions) (ns : List Node) (o : Option meaning.Given) (v : Given) → IsGivenAs groups ns o (Some v) → IsGivenThis groups ns o v
given_some groups ns (Some g) v h = record { this = g; is = refl; gives = h }
given_some groups ns None v h = absurd h

module _ (types : List Slot) (own : Bytes) (number place : ℕ) (m : Made) (f : Filled) (n : ℕ) (x : Actor) where
  abbrev x_filled : Actor
  x_filled = record x { made = state_set x.made place f }

  pub unread_going : (table : Vec GroupOf Global) (old new : List Node) → table.items ≡ x.table.items → AreGiven types f old None new → IsGoingOn types own number place m f n x (trapping table (codes "bad reply") n)
  unread_going table old new is given = record {
    tables = λ groups has. let Of : List GroupOf → Type 0 = λ l. HasGroups groups l in subst Of (trapping_table table (codes "bad reply") n ∙ is) has;
    kept = kept_so n;
    rests = λ groups has rests. rests_so groups n;
    means = λ coding faithful groups has rests first charged p same.
        let a : actor.Actor machine = actor_of coding types groups x charged in
        let Of : Option meaning.Given → Type 0 = λ o. Ends groups n (trapping table (codes "bad reply") n) (resumed (with_states coding first types p) own a number o (waiting_on number (activation_at a.activations m.owner))) in
        subst Of (sym (given_none groups new (answer_of coding types f) (given.means coding faithful groups))) (traps_at_once groups table (codes "bad reply") n);
  }
    where
      kept_so : (k : ℕ) → IsGoneOnKept m.owner number x_filled (trapping table (codes "bad reply") k)
      kept_so zero = tt
      kept_so (suc k) = tt

      rests_so : (groups : ℕ → Functions) (k : ℕ) → RestingIn groups (trapping table (codes "bad reply") k)
      rests_so groups zero = tt
      rests_so groups (suc k) = tt

  module _ (z : Actor) (tabled : z.table.items ≡ x.table.items) (first_is : z.first ≡ x.first) (made_is : z.made ≡ state_set x.made place f)
      (fields_are : (groups : ℕ → Functions) → fields_of groups z.arena z.store.items z.exports ≡ fields_of groups x.arena x.store.items x.exports)
      (came_is : (groups : ℕ → Functions) → came_of groups z.arena z.came ≡ came_of groups x.arena x.came) where
    kept_on : (r : Ran) → IsGoneOnKept m.owner number z r → IsGoneOnKept m.owner number x_filled r
    kept_on (ran.Still table) h = tt
    kept_on (ran.Traps table prints text) h = tt
    kept_on (ran.Completes d) h = record {
      sound = h.sound;
      first = h.first ∙ first_is;
      made = h.made ∙ made_is;
      came = λ groups. h.came groups ∙ ap (λ (l : List (actor.Activation machine)). came_taken m.owner number l) (came_is groups);
      within = h.within;
      idle = λ groups none. h.idle groups (ap (λ (l : List (actor.Activation machine)). waiting_on number (activation_at l m.owner)) (came_is groups) ∙ none);
      changes = λ groups w some. h.changes groups w (ap (λ (l : List (actor.Activation machine)). waiting_on number (activation_at l m.owner)) (came_is groups) ∙ some);
    }

    rests_on : (groups : ℕ → Functions) → Rests groups x → Rests groups z
    rests_on groups h = let Of : List (actor.Activation machine) → Type 0 = λ l. AreAtRest l in subst Of (sym (came_is groups)) h

    pub read_going : (given : Given) (old : List Node) (r : Ran) → AreGiven types f old (Some given) z.arena → IsGoingWith types own number m.owner given n z r → IsGoingOn types own number place m f n x r
    read_going given old r read h = record {
      tables = λ groups has. let Of : List GroupOf → Type 0 = λ l. HasGroups groups l in subst Of tabled (h.tables groups has);
      kept = kept_on r h.kept;
      rests = λ groups has rests. h.rests groups has (rests_on groups rests);
      means = λ coding faithful groups has rests first charged p same.
          let a : actor.Actor machine = actor_of coding types groups x charged in
          let k : IsGivenThis groups z.arena (answer_of coding types f) given = given_some groups z.arena (answer_of coding types f) given (read.means coding faithful groups) in
          let table_is : set_state a.table number (Answered (Some k.this)) ≡ table_of coding types z.first z.made =
          ap (λ (o : Option meaning.Given). set_state a.table number (Answered o)) (sym k.is) ∙ same ∙ sym (ap₂ (λ (i : ℕ) (ms : List Made). table_of coding types i ms) first_is made_is) in
          let Of : Option meaning.Given → Type 0 = λ o. Ends groups n r (resumed (with_states coding first types p) own a number o (waiting_on number (activation_at a.activations m.owner))) in
          subst Of (sym k.is)
          (h.means coding faithful groups has (rests_on groups rests) k.this k.gives first charged p a (sym (fields_are groups)) table_is
          (ap (λ (l : List (actor.Activation machine)). waiting_on number (activation_at l m.owner)) (sym (came_is groups))));
    }

-- ---- what an execution on an answer leaves

-- an activation that changes does not show what it was
change_is : (groups : ℕ → Functions) (ns : List Node) (e : Ending) (x y : actor.Activation machine) → IsChange e → activation_after (ending_of groups ns e) x ≡ activation_after (ending_of groups ns e) y
change_is groups ns (ending.Replies bytes) x y h = refl
change_is groups ns (ending.Rejects text) x y h = refl
change_is groups ns (ending.Waits number b) x y h = refl
change_is groups ns ending.Sleeps x y h = refl
change_is groups ns ending.Unchanged x y h = absurd h

module _ (owner number : ℕ) (x : Actor) (d : Done) (k : IsGoneOn owner number x d) (groups : ℕ → Functions) where
  abbrev acts : List (actor.Activation machine)
  acts = came_of groups x.arena x.came

  abbrev after : List (actor.Activation machine) → actor.Activation machine → List (actor.Activation machine)
  after l y = slice_set l owner (activation_after (ending_of groups d.actor.arena d.ending) y)

  came_by_is : (o : Option Waiting) → waiting_on number (activation_at acts owner) ≡ o → after acts (activation_at acts owner) ≡ after (came_by owner acts o) (activation_at (came_by owner acts o) owner)
  came_by_is None is = refl
  came_by_is (Some w) is =
      let other : List (actor.Activation machine) = slice_set acts owner IsDead in
      sym (set_twice acts owner IsDead (activation_after (ending_of groups d.actor.arena d.ending) (activation_at acts owner)))
      ∙ ap (λ (y : actor.Activation machine). slice_set other owner y) (change_is groups d.actor.arena d.ending (activation_at acts owner) (activation_at other owner) (k.changes groups w is))

  -- the activations behind it
  came_gone : after acts (activation_at acts owner) ≡ came_of groups d.actor.arena (came_after owner d.ending d.actor.came)
  came_gone =
      came_by_is (waiting_on number (activation_at acts owner)) refl
      ∙ ap (λ (l : List (actor.Activation machine)). after l (activation_at l owner)) (sym (k.came groups))
      ∙ came_after_is groups d.actor.arena owner d.ending d.actor.came

  rests_by : (o : Option Waiting) → AreAtRest acts → AreAtRest (came_by owner acts o)
  rests_by None h = h
  rests_by (Some w) h = rest_set acts owner IsDead h tt

  rests_gone : AreAtRest acts → AreAtRest (came_of groups d.actor.arena d.actor.came)
  rests_gone h =
      let Of : List (actor.Activation machine) → Type 0 = λ l. AreAtRest l in
      subst Of (sym (k.came groups)) (rests_by (waiting_on number (activation_at acts owner)) h)

-- ---- an open call

module _ (p : Written) (own : Bytes) (number place : ℕ) (m : Made) (received : Received) (n : ℕ) (x : Actor) (placed : place_of x.first number ≡ Some place) where
  abbrev types : List Slot
  types = p.types

  abbrev f : Filled
  f = received_as x.first x.made m received

  abbrev meant : Coding → ℕ → actor_programs.Program machine
  meant coding first = with_states coding first types (program p)

  abbrev course : CourseOf
  course coding first a = open_course (meant coding first) own a true number (call_of coding types m) (received_of received)

  abbrev was : Coding → (ℕ → Functions) → ℕ → actor.Actor machine
  was coding groups charged = actor_of coding types groups x charged

  abbrev value : Coding → (groups : ℕ → Functions) → (first charged : ℕ) → Option meaning.Given
  value coding groups first charged = received_value (meant coding first) own (was coding groups charged) (call_of coding types m) (received_of received)

  value_is : (coding : Coding) (groups : ℕ → Functions) (first charged : ℕ) → value coding groups first charged ≡ answer_of coding types f
  value_is coding groups first charged = received_is coding types first (program p) own (was coding groups charged) x.first x.made refl m received

  abbrev runs : Coding → (groups : ℕ → Functions) → (first charged : ℕ) → Execution (Effects machine)
  runs coding groups first charged = answering (meant coding first) own (was coding groups charged) number (call_of coding types m) (received_of received)

  abbrev told : Coding → (groups : ℕ → Functions) → (first charged : ℕ) → Result (Effects machine) → Outcome (actor.Actor machine)
  told coding groups first charged r = answer_outcome number m.owner (value coding groups first charged) (was coding groups charged) r

  table_is : (coding : Coding) (groups : ℕ → Functions) (charged : ℕ) → set_state (was coding groups charged).table number (Answered (answer_of coding types f)) ≡ table_of coding types x.first (state_set x.made place f)
  table_is coding groups charged = table_filled coding types x.first x.made m received number place placed

  ends_here : (r : Ran) → IsGoingOn types own number place m f n x r → (coding : Coding) → IsFaithful coding → (groups : ℕ → Functions) → HasGroups groups (table_in r) → Rests groups x → (first charged : ℕ)
      → Ends groups n r (runs coding groups first charged)
  ends_here r h coding faithful groups has rests first charged =
      let a : actor.Actor machine = was coding groups charged in
      let Of : Option meaning.Given → Type 0 = λ o. Ends groups n r (resumed (meant coding first) own a number o (waiting_on number (activation_at a.activations m.owner))) in
      after_cost groups n (received_reading (meant coding first) own a (call_of coding types m) (received_of received)) r _
      (subst Of (sym (value_is coding groups first charged)) (h.means coding faithful groups has rests first charged (program p) (table_is coding groups charged)))

  abbrev Lived_so : Lived → Type 0
  Lived_so l = Lives types course n x l

  pub answered_still : (table : Vec GroupOf Global) → IsGoingOn types own number place m f n x (ran.Still table) → Lived_so (lived.Still table)
  answered_still table h = record {
    sound = tt;
    tables = h.tables;
    rests = λ groups has rests. tt;
    means = λ coding faithful groups has rests first charged.
        followed_still first charged n (runs coding groups first charged) (told coding groups first charged) (ends_here (ran.Still table) h coding faithful groups has rests first charged);
  }

  -- ---- a trap

  module _ (table : Vec GroupOf Global) (prints : List Bytes) (text : Bytes) (o : Over) (b : IsBroken x table.items number place m.owner prints text o) where
    abbrev items : List Item
    items = map item.Print prints ++ item.Trapped (word.Text text) ∷ []

    abbrev before : Over
    before = record { items = items; actor = broken number place m.owner b.known }

    known_is : (coding : Coding) (groups : ℕ → Functions) (charged : ℕ) → actor_of coding types groups b.known charged ≡ was coding groups charged
    known_is coding groups charged = ap (λ (y : Actor). actor_of coding types groups y charged) b.grown ∙ b.copied.means coding types groups charged

    known_first : b.known.first ≡ x.first
    known_first = ap (λ (y : Actor). y.first) b.grown ∙ b.copied.first

    known_sound : IsSound b.known
    known_sound =
        let Of : Actor → Type 0 = λ y. IsSound y in
        let there : Of (record b.copy { table = b.known.table }) = record { stores = b.copied.sound.stores; exports = b.copied.sound.exports; came = b.copied.sound.came } in
        subst Of (sym b.grown) there

    broken_sound : (w : Option Body) → IsSound (broken_by place m.owner b.known w)
    broken_sound None = record { stores = known_sound.stores; exports = known_sound.exports; came = known_sound.came }
    broken_sound (Some c) = record { stores = known_sound.stores; exports = known_sound.exports; came = came_within_set b.known.arena b.known.came m.owner activation.Dead known_sound.came tt }

    broken_table : (w : Option Body) → (broken_by place m.owner b.known w).table.items ≡ b.known.table.items
    broken_table None = refl
    broken_table (Some c) = refl

    broken_rests : (groups : ℕ → Functions) (w : Option Body) → Rests groups b.known → Rests groups (broken_by place m.owner b.known w)
    broken_rests groups None h = h
    broken_rests groups (Some c) h =
        let Of : List (actor.Activation machine) → Type 0 = λ l. AreAtRest l in
        subst Of (sym (came_set groups b.known.arena b.known.came m.owner activation.Dead)) (rest_set (came_of groups b.known.arena b.known.came) m.owner IsDead h tt)

    known_rests : (groups : ℕ → Functions) → Rests groups x → Rests groups b.known
    known_rests groups h =
        let Of : List (actor.Activation machine) → Type 0 = λ l. AreAtRest l in
        subst Of (sym (ap (λ (y : Actor). came_of groups y.arena y.came) b.grown ∙ b.copied.came groups)) h

    abbrev who : Option Body
    who = waiting_in number (slice_get b.known.came m.owner)

    tabled : (closed m.owner before).actor.table.items ≡ table.items
    tabled = closed_table m.owner before ∙ broken_table who ∙ b.tabled

    traps_closed : IsGoingOn types own number place m f n x (ran.Traps table prints text) → Lived_so (lived.Over (closed m.owner before))
    traps_closed h = record {
      sound = closed_sound m.owner before (broken_sound who);
      tables = λ groups has. h.tables groups (there groups has);
      rests = λ groups has rests. closed_rests groups m.owner before (broken_rests groups who (known_rests groups rests));
      means = λ coding faithful groups has rests first charged.
          let e = ends_here (ran.Traps table prints text) h coding faithful groups (there groups has) rests first charged in
          let here = runs coding groups first charged n in (
            followed_to (told coding groups first charged (Trapped here.prints text)) [] [],
            followed_traps first charged n (runs coding groups first charged) (told coding groups first charged) text e.1,
            charged,
            ap (λ (ps : List Bytes). close m.owner (trap_items ps (word.Text text)) (answers.broken number m.owner (was coding groups charged))) e.0
                ∙ ap (λ (a : actor.Actor machine). close m.owner items (answers.broken number m.owner a)) (sym (known_is coding groups charged))
                ∙ ap (λ (a : actor.Actor machine). close m.owner items a) (broken_is coding types groups b.known number place m.owner charged (ap (λ (i : ℕ). place_of i number) known_first ∙ placed))
                ∙ close_is coding types groups m.owner charged before,
          );
    }
      where
        there : (groups : ℕ → Functions) → HasGroups groups (closed m.owner before).actor.table.items → HasGroups groups table.items
        there groups has = let Of : List GroupOf → Type 0 = λ l. HasGroups groups l in subst Of tabled has

    pub answered_traps : IsGoingOn types own number place m f n x (ran.Traps table prints text) → Lived_so (lived.Over o)
    answered_traps h = let Of : Over → Type 0 = λ z. Lived_so (lived.Over z) in subst Of (sym b.over) (traps_closed h)

  -- ---- an end

  module _ (d : Done) (h : IsGoingOn types own number place m f n x (ran.Completes d)) where
    abbrev left : Over
    left = record { items = books.completed_items m.owner d; actor = books.committed m.owner d }

    abbrev kept : IsGoneOn m.owner number (record x { made = state_set x.made place f }) d
    kept = h.kept

    left_sound : IsSound left.actor
    left_sound = record { stores = kept.sound.stores; exports = kept.sound.exports; came = came_after_within d.actor.arena m.owner d.ending d.actor.came kept.sound.came kept.within }

    completes_closed : Lived_so (lived.Over (completed m.owner d))
    completes_closed = record {
      sound = closed_sound m.owner left left_sound;
      tables = λ groups has. h.tables groups (there groups has);
      rests = λ groups has rests.
          closed_rests groups m.owner left
          (came_after_rests groups d.actor.arena m.owner d.ending d.actor.came
          (rests_gone m.owner number (record x { made = state_set x.made place f }) d kept groups rests) (h.rests groups (there groups has) rests));
      means = λ coding faithful groups has rests first charged.
          let e = ends_here (ran.Completes d) h coding faithful groups (there groups has) rests first charged in
          let here = runs coding groups first charged n in
          let a : actor.Actor machine = filled number (value coding groups first charged) (was coding groups charged) in
          let tables_so : a.table ≡ table_of coding types d.actor.first d.actor.made =
          ap (λ (o : Option meaning.Given). set_state (was coding groups charged).table number (Answered o)) (value_is coding groups first charged)
          ∙ table_is coding groups charged
          ∙ sym (ap₂ (λ (i : ℕ) (ms : List Made). table_of coding types i ms) kept.first kept.made) in (
            followed_to (told coding groups first charged (Completed here.prints here.weight (effects_of groups d))) [] [],
            followed_completes first charged n (runs coding groups first charged) (told coding groups first charged) (effects_of groups d) e.1,
            charged + here.weight,
            complete_is coding types groups d m.owner here.weight a tables_so (came_gone m.owner number (record x { made = state_set x.made place f }) d kept groups) here.prints e.0,
          );
    }
      where
        there : (groups : ℕ → Functions) → HasGroups groups (completed m.owner d).actor.table.items → HasGroups groups d.actor.table.items
        there groups has = let Of : List GroupOf → Type 0 = λ l. HasGroups groups l in subst Of (closed_table m.owner left) has

    pub answered_completes : (o : Over) → o ≡ completed m.owner d → Lived_so (lived.Over o)
    answered_completes o is = let Of : Over → Type 0 = λ z. Lived_so (lived.Over z) in subst Of (sym is) completes_closed

-- ---- the event

-- what is known of an open call
pub record IsOpenCall (place : ℕ) (m : Made) (at : ℕ) (o : Option Made) : Type 0 where
  pub here : at ≡ place
  pub there : o ≡ Some m
  pub stands : is_open m.state ≡ true

if_open_some : (at place : ℕ) (o : Option Made) (m : Made) → if_open at o ≡ Some (placed place m) → IsOpenCall place m at o
if_open_some at place None m is = absurd (let e : None ≡ Some (placed place m) = is in cc)
if_open_some at place (Some k) m is = by (is_open k.state) refl is
  where
    by : (b : Bool) → is_open k.state ≡ b → cond b (Some (placed at k)) None ≡ Some (placed place m) → IsOpenCall place m at (Some k)
    by true e h =
        let same : placed at k ≡ placed place m = cc in
        record {
          here = ap (λ (q : Placed). q.place) same;
          there = ap (λ (q : Placed). Some q.call) same;
          stands = ap (λ (q : Placed). is_open q.call.state) (sym same) ∙ e;
        }
    by false e h = absurd (let none : None ≡ Some (placed place m) = h in cc)

pub record IsPlacedCall (ms : List Made) (o : Option ℕ) (place : ℕ) (m : Made) : Type 0 where
  pub here : o ≡ Some place
  pub there : call_in ms o ≡ Some m
  pub stands : is_open m.state ≡ true

pub placed_some : (ms : List Made) (o : Option ℕ) (place : ℕ) (m : Made) → call_of_place ms o ≡ Some (placed place m) → IsPlacedCall ms o place m
placed_some ms None place m is = absurd (let e : None ≡ Some (placed place m) = is in cc)
placed_some ms (Some at) place m is =
    let h : IsOpenCall place m at (slice_get ms at) = if_open_some at place (slice_get ms at) m is in
    record { here = ap (λ (i : ℕ). Some i) h.here; there = h.there; stands = h.stands }

module _ (p : Written) (own : Bytes) (number : ℕ) (received : Received) (n : ℕ) (x : Actor) where
  abbrev answer_by : Coding → (groups : ℕ → Functions) → (first charged : ℕ) → Option (Call (List TypeId) meaning.Given) → Option (Followed (actor.Actor machine))
  answer_by coding groups first charged o =
      followed (answer_course (with_states coding first p.types (program p)) own (actor_of coding p.types groups x charged) number (received_of received) o) (ToItsEnd n ∷ [])

  abbrev open_by : Coding → (groups : ℕ → Functions) → (first charged : ℕ) → Made → Bool → Option (Followed (actor.Actor machine))
  open_by coding groups first charged m b =
      followed (open_course (with_states coding first p.types (program p)) own (actor_of coding p.types groups x charged) b number (call_of coding p.types m) (received_of received)) (ToItsEnd n ∷ [])

  pub event_open : (place : ℕ) (m : Made) (l : Lived) → Some (placed place m) ≡ open_at x.first x.made number → IsAnsweredAt p own number place m received n x l → IsAnswered p own number received n x l
  event_open place m l is h =
      let k : IsPlacedCall x.made (place_of x.first number) place m = placed_some x.made (place_of x.first number) place m (sym is) in
      lives_alike p.types _ _ n x l
      (λ coding groups first charged.
      ap (answer_by coding groups first charged) (call_is coding p.types x.first x.made number ∙ ap (map_option (call_of coding p.types)) k.there)
      ∙ ap (open_by coding groups first charged m) (open_is coding p.types m.state ∙ k.stands))
      (h (sym is))

  -- the event means nothing
  abbrev passed : Coding → (groups : ℕ → Functions) → (charged : ℕ) → Option (Followed (actor.Actor machine))
  passed coding groups charged = Some (followed_to (outcome (item.Ignored ∷ []) (actor_of coding p.types groups x charged)) [] (ToItsEnd n ∷ []))

  ignored_by : (at : ℕ) (m : Made) (b : Bool) → is_open m.state ≡ b → None ≡ cond b (Some (placed at m)) None → (coding : Coding) (groups : ℕ → Functions) (first charged : ℕ)
      → open_by coding groups first charged m (is_open m.state) ≡ passed coding groups charged
  ignored_by at m true e k coding groups first charged = absurd (let none : None ≡ Some (placed at m) = k in cc)
  ignored_by at m false e k coding groups first charged = ap (open_by coding groups first charged m) e

  ignored_at : (at : ℕ) (o : Option Made) → None ≡ if_open at o → (coding : Coding) (groups : ℕ → Functions) (first charged : ℕ)
      → answer_by coding groups first charged (map_option (call_of coding p.types) o) ≡ passed coding groups charged
  ignored_at at None h coding groups first charged = refl
  ignored_at at (Some m) h coding groups first charged =
      ap (open_by coding groups first charged m) (open_is coding p.types m.state) ∙ ignored_by at m (is_open m.state) refl h coding groups first charged

  ignored : (o : Option ℕ) → None ≡ call_of_place x.made o → (coding : Coding) (groups : ℕ → Functions) (first charged : ℕ)
      → answer_by coding groups first charged (map_option (call_of coding p.types) (call_in x.made o)) ≡ passed coding groups charged
  ignored None is coding groups first charged = refl
  ignored (Some at) is coding groups first charged = ignored_at at (slice_get x.made at) is coding groups first charged

  pub event_ignored : None ≡ open_at x.first x.made number → IsAnswered p own number received n x lived.Ignored
  event_ignored is = record {
    sound = tt;
    tables = λ groups has. has;
    rests = λ groups has rests. tt;
    means = λ coding faithful groups has rests first charged. (
      followed_to (outcome (item.Ignored ∷ []) (actor_of coding p.types groups x charged)) [] (ToItsEnd n ∷ []),
      ap (answer_by coding groups first charged) (call_is coding p.types x.first x.made number) ∙ ignored (place_of x.first number) is coding groups first charged,
      refl,
    );
  }
