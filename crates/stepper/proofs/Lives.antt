-- Events in the life of one program, as steps.
use Rattle.std.proofs.Common.{◌≡◌, ℕ, List, [], ◌∷◌, map, Bool, Option, Some, None, refl, sym, ap, ap₂, ◌∙◌, subst}
use Rattle.play_script.specs.declared.event.Event.{Event}
use Rattle.play_script.specs.declared.event.Event.TheVariants as event
use Rattle.play_script.specs.declared.item.Item.TheVariants as item
use Rattle.mo_types.specs.Calls.{call_at}
use Rattle.mo_values.specs.Shapes.{Bytes}
use Rattle.mo_actor.specs.CallAnswers as answers
use Rattle.mo_actor.specs.Computed.{Extent, Followed, ToItsEnd, followed, followed_to}
use Rattle.mo_actor.specs.Courses.{Course, over_states}
use Rattle.mo_actor.specs.Outcomes.{Outcome, outcome}
use Rattle.mo_actor.specs.Programs as Programs
use Rattle.mo_actor.specs.States as actor
use Rattle.mo_actor.specs.States.{ActorState}
use Rattle.mo_actor.specs.Steps.{event_course, life_course}
use Rattle.typed_tree.specs.declared.program.Program.{Program as Written}
use Rattle.typed_tree.specs.Language.{Functions}
use Rattle.typed_tree.specs.ProgramView.{program}
use Rattle.mo_meaning.specs.Coding.{Coding, IsFaithful}
use Rattle.mo_machine.specs.ActorLanguage.{machine}
use Rattle.mo_machine.specs.States.{with_states}
use Rattle.arena_states.specs.declared.group.GroupOf.{GroupOf}
use Rattle.arena_states.specs.Groups.{HasGroups}
use Rattle.arena_equality.specs.Own.{AreOwnLabels}
use Rattle.arena_actors.specs.declared.actor.Actor.{Actor}
use Rattle.arena_actors.specs.States.{actor_of, IsSound, Rests}
use Rattle.arena_events.specs.Answering.{IsAnswered}
use Rattle.arena_events.specs.Calling.{IsReceived}
use Rattle.arena_events.specs.declared.filling.Received.{Received}
use Rattle.arena_events.specs.declared.filling.Received.TheVariants as receives
use Rattle.arena_outcomes.specs.declared.ran.Lived.{Lived}
use Rattle.arena_outcomes.specs.declared.ran.Lived.TheVariants as lived
use Rattle.arena_outcomes.specs.declared.ran.Over.{Over}
use Rattle.arena_events.specs.Lives.{Lives}
use Rattle.stepper.specs.declared.state.Next.{Next}
use Rattle.stepper.specs.declared.state.Next.TheVariants as next
use Rattle.stepper.specs.declared.state.Running.{Running}
use Rattle.stepper.specs.declared.state.State.TheVariants as state
use Rattle.stepper.specs.Living.{answer_event, IsNextOf}
use Rattle.stepper.specs.Standing.{meant, state_of, IsActorStanding}
use Rattle.stepper.specs.Stepping.{extents, Comes, HasCourse, IsNext, Reaches}
use Rattle.stepper.proofs.Follows.{answer_has, call_has, followed_over, has_over, over_followed}

-- an actor with its program, as it was given
module _ (p : Written) (x : Actor) (r : Running) (is : r.program.now ≡ p) (are : r.actor ≡ x) where
  pub standing_so : AreOwnLabels p.types → IsSound x → ((groups : ℕ → Functions) → HasGroups groups x.table.items → Rests groups x) → IsActorStanding r
  standing_so labels sound rests =
      let Own : Written → Type 0 = λ q. AreOwnLabels q.types in
      let Sound : Actor → Type 0 = λ y. IsSound y in
      let Resting : Actor → Type 0 = λ y. (groups : ℕ → Functions) → HasGroups groups y.table.items → Rests groups y in
      record { labels = subst Own (sym is) labels; sound = subst Sound (sym are) sound; rests = subst Resting (sym are) rests }

  pub state_so : (coding : Coding) (firsts : Written → ℕ) (groups : ℕ → Functions) (charged : ℕ)
      → actor.Running (meant coding firsts p) (actor_of coding p.types groups x charged) ≡ state_of coding firsts groups (state.Running r) charged
  state_so coding firsts groups charged =
      sym (ap₂ (λ (q : Written) (y : Actor). actor.Running (meant coding firsts q) (actor_of coding q.types groups y charged)) is are)

-- the course of an event in the life of a program, and the turns for it
abbrev IsLifeEvent : Bytes → Event → ℕ → Type 1
IsLifeEvent own e n =
    (ps : List (Programs.Program machine)) (q : Programs.Program machine) (a : actor.Actor machine) (P : List Extent → Course (ActorState machine) → Type 0)
    → P (ToItsEnd n ∷ []) (over_states (actor.Running q) (life_course q own e a)) → P (extents n e) (event_course ps own e (actor.Running q a))

module _ (ps : List Written) (own : Bytes) (e : Event) (n : ℕ) (r : Running) (standing : IsActorStanding r) (life : IsLifeEvent own e n)
    (has : (q : Programs.Program machine) (a : actor.Actor machine) → HasCourse (life_course q own e a)) where
  abbrev p : Written
  p = r.program.now

  abbrev course : Coding → ℕ → actor.Actor machine → Course (actor.Actor machine)
  course coding first a = life_course (with_states coding first p.types (program p)) own e a

  abbrev Nexts : Next → Type 0
  Nexts after = IsNext ps own e n (state.Running r) after

  still_next : (table : List GroupOf) → ((groups : ℕ → Functions) → HasGroups groups table → HasGroups groups r.actor.table.items)
      → ((coding : Coding) → IsFaithful coding → (groups : ℕ → Functions) → HasGroups groups table → (first charged : ℕ)
      → followed (course coding first (actor_of coding p.types groups r.actor charged)) (ToItsEnd n ∷ []) ≡ None)
      → Nexts next.Still
  still_next table longer none = record {
    standing = tt;
    known = table;
    tables = longer;
    kept = tt;
    means = λ coding faithful groups known firsts charged.
        let q : Programs.Program machine = meant coding firsts p in
        let a : actor.Actor machine = actor_of coding p.types groups r.actor charged in
        life (map (λ w. meant coding firsts w) ps) q a (λ es c. Comes coding firsts groups (state.Running r) charged es c next.Still) (
          has_over (actor.Running q) (life_course q own e a) (has q a),
          followed_over (actor.Running q) (life_course q own e a) (ToItsEnd n ∷ [])
              ∙ ap (λ (o : Option (Followed (actor.Actor machine))). over_followed (actor.Running q) o) (none coding faithful groups known (firsts p) charged),
        );
  }

  ignored_next : ((coding : Coding) → IsFaithful coding → (groups : ℕ → Functions) → HasGroups groups r.actor.table.items → (first charged : ℕ)
      → (g : Followed (actor.Actor machine)) × (followed (course coding first (actor_of coding p.types groups r.actor charged)) (ToItsEnd n ∷ []) ≡ Some g)
      × (g.reached ≡ outcome (item.Ignored ∷ []) (actor_of coding p.types groups r.actor charged)))
      → Nexts next.Ignored
  ignored_next passes = record {
    standing = tt;
    known = r.actor.table.items;
    tables = λ groups known. known;
    kept = refl;
    means = λ coding faithful groups known firsts charged.
        let q : Programs.Program machine = meant coding firsts p in
        let a : actor.Actor machine = actor_of coding p.types groups r.actor charged in
        let so = passes coding faithful groups known (firsts p) charged in
        life (map (λ w. meant coding firsts w) ps) q a (λ es c. Comes coding firsts groups (state.Running r) charged es c next.Ignored) (
          followed_to (outcome (so.0).reached.items (actor.Running q (so.0).reached.next)) (so.0).exhaustions (so.0).extents,
          followed_over (actor.Running q) (life_course q own e a) (ToItsEnd n ∷ [])
              ∙ ap (λ (o : Option (Followed (actor.Actor machine))). over_followed (actor.Running q) o) so.1,
          ap (λ (z : Outcome (actor.Actor machine)). outcome z.items (actor.Running q z.next)) so.2,
        );
  }

  behind_next : (o : Over) (s : Running) → s.program.now ≡ p → s.actor ≡ o.actor → IsSound o.actor
      → ((groups : ℕ → Functions) → HasGroups groups o.actor.table.items → HasGroups groups r.actor.table.items)
      → ((groups : ℕ → Functions) → HasGroups groups o.actor.table.items → Rests groups o.actor)
      → ((coding : Coding) → IsFaithful coding → (groups : ℕ → Functions) → HasGroups groups o.actor.table.items → (first charged : ℕ)
      → (g : Followed (actor.Actor machine)) × (followed (course coding first (actor_of coding p.types groups r.actor charged)) (ToItsEnd n ∷ []) ≡ Some g)
      × (after : ℕ) × (g.reached ≡ outcome o.items (actor_of coding p.types groups o.actor after)))
      → Nexts (next.Behind (record { items = o.items; state = state.Running s }))
  behind_next o s is are sound longer rests reaches = record {
    standing = standing_so p o.actor s is are standing.labels sound rests;
    known = o.actor.table.items;
    tables = longer;
    kept = ap (λ (y : Actor). y.table.items) (sym are);
    means = λ coding faithful groups known firsts charged.
        let q : Programs.Program machine = meant coding firsts p in
        let a : actor.Actor machine = actor_of coding p.types groups r.actor charged in
        let so = reaches coding faithful groups known (firsts p) charged in
        life (map (λ w. meant coding firsts w) ps) q a (λ es c. Reaches coding firsts groups (followed c es) o.items (state.Running s)) (
          followed_to (outcome (so.0).reached.items (actor.Running q (so.0).reached.next)) (so.0).exhaustions (so.0).extents,
          followed_over (actor.Running q) (life_course q own e a) (ToItsEnd n ∷ [])
              ∙ ap (λ (f : Option (Followed (actor.Actor machine))). over_followed (actor.Running q) f) so.1,
          so.2,
          ap (λ (z : Outcome (actor.Actor machine)). outcome z.items (actor.Running q z.next)) so.3
              ∙ ap (λ (z : ActorState machine). outcome o.items z) (state_so p o.actor s is are coding firsts groups so.2),
        );
  }

  lived_next : (l : Lived) (after : Next) → Lives p.types course n r.actor l → IsNextOf p l after → Nexts after
  lived_next (lived.Still table) after lives is =
      let Of : Next → Type 0 = λ z. Nexts z in
      subst Of (sym is) (still_next table.items lives.tables
      (λ coding faithful groups known first charged. lives.means coding faithful groups known (standing.rests groups (lives.tables groups known)) first charged))
  lived_next lived.Ignored after lives is =
      let Of : Next → Type 0 = λ z. Nexts z in
      subst Of (sym is) (ignored_next
      (λ coding faithful groups known first charged. lives.means coding faithful groups known (standing.rests groups known) first charged))
  lived_next (lived.Over o) after lives is =
      let Of : Next → Type 0 = λ z. Nexts z in
      subst Of (sym is.1) (behind_next o is.0 is.2 is.3 lives.sound lives.tables
      (λ groups known. lives.rests groups known (standing.rests groups (lives.tables groups known)))
      (λ coding faithful groups known first charged. lives.means coding faithful groups known (standing.rests groups (lives.tables groups known)) first charged))

-- a call that comes in
pub called_next : (own : Bytes) (query : Bool) (name caller argument : Bytes) (n : ℕ) (r : Running) (l : Lived) (after : Next) → IsActorStanding r
    → IsReceived r.program.now own query name caller argument n r.actor l → IsNextOf r.program.now l after
    → (ps : List Written) → IsNext ps own (event.Call query name caller argument) n (state.Running r) after
called_next own query name caller argument n r l after standing lives is ps =
    lived_next ps own (event.Call query name caller argument) n r standing (λ ms q a P h. h) (λ q a. call_has q own a query name caller argument) l after lives is

-- an answer that comes in
pub answered_next : (own : Bytes) (number : ℕ) (received : Received) (n : ℕ) (r : Running) (l : Lived) (after : Next) → IsActorStanding r
    → IsAnswered r.program.now own number received n r.actor l → IsNextOf r.program.now l after
    → (ps : List Written) → IsNext ps own (answer_event number received) n (state.Running r) after
answered_next own number (receives.Reply bytes) n r l after standing lives is ps =
    lived_next ps own (event.Reply number bytes.now) n r standing (λ ms q a P h. h) (λ q a. answer_has q own a number (answers.Reply bytes.now) (call_at a.table number)) l after lives is
answered_next own number (receives.Reject code text) n r l after standing lives is ps =
    lived_next ps own (event.Reject number code text.now) n r standing (λ ms q a P h. h) (λ q a. answer_has q own a number (answers.Reject code text.now) (call_at a.table number)) l after lives is
