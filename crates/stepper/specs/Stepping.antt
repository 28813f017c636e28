-- What an event comes to: exactly what the meaning says of it, within so many turns for each of its executions.
use Rattle.std.specs.Prelude.{◌≡◌, ℕ, List, [], ◌∷◌, map, Option, Some, None}
use Rattle.play_script.specs.declared.event.Event.{Event}
use Rattle.play_script.specs.declared.event.Event.TheVariants as event
use Rattle.play_script.specs.declared.item.Item.{Item}
use Rattle.play_script.specs.declared.item.Item.TheVariants as item
use Rattle.mo_values.specs.Shapes.{Bytes}
use Rattle.mo_actor.specs.Computed.{Extent, Followed, ToItsEnd, followed}
use Rattle.mo_actor.specs.Courses.{Course, Over, Runs, NoCourse}
use Rattle.mo_actor.specs.Outcomes.{outcome}
use Rattle.mo_actor.specs.States.{ActorState}
use Rattle.mo_actor.specs.Steps.{event_course}
use Rattle.typed_tree.specs.declared.program.Program.{Program as Written}
use Rattle.typed_tree.specs.Language.{Functions}
use Rattle.mo_meaning.specs.Coding.{Coding, IsFaithful}
use Rattle.mo_machine.specs.ActorLanguage.{machine}
use Rattle.arena_states.specs.declared.group.GroupOf.{GroupOf}
use Rattle.arena_states.specs.Groups.{HasGroups}
use Rattle.arena_reductions.specs.Reduced.{Longer}
use Rattle.stepper.specs.declared.state.Next.{Next}
use Rattle.stepper.specs.declared.state.Next.TheVariants as next
use Rattle.stepper.specs.declared.state.State.{State}
use Rattle.stepper.specs.declared.state.State.TheVariants as state
use Rattle.stepper.specs.declared.state.Stepped.{Stepped}
use Rattle.stepper.specs.declared.state.Stepped.TheVariants as stepped
use Rattle.stepper.specs.declared.state.Stepper.{Stepper}
use Rattle.stepper.specs.Standing.{meant, state_of, table_in, IsSound, IsStanding}

abbrev pub IsNoCourse : {S : Type 0} → Course S → Type 0
IsNoCourse (Over o) = ⊥
IsNoCourse (Runs A first_memory charged x behind) = ⊥
IsNoCourse NoCourse = Unit {0}

abbrev pub HasCourse : {S : Type 0} → Course S → Type 0
HasCourse (Over o) = Unit {0}
HasCourse (Runs A first_memory charged x behind) = Unit {0}
HasCourse NoCourse = ⊥

-- an upgrade is two executions, all others are one at most
abbrev pub extents : (turns : ℕ) → Event → List Extent
extents n (event.Upgrade number) = ToItsEnd n ∷ ToItsEnd n ∷ []
extents n (event.Install number) = ToItsEnd n ∷ []
extents n (event.Call query name caller bytes) = ToItsEnd n ∷ []
extents n (event.Reply number bytes) = ToItsEnd n ∷ []
extents n (event.Reject number code text) = ToItsEnd n ∷ []

-- ---- the course of an event, followed for so many turns

module _ (coding : Coding) (firsts : Written → ℕ) (groups : ℕ → Functions) where
  -- it comes to these items and this state
  abbrev pub Reaches : Option (Followed (ActorState machine)) → List Item → State → Type 0
  Reaches f items s = (g : Followed (ActorState machine)) × (f ≡ Some g) × (after : ℕ) × (g.reached ≡ outcome items (state_of coding firsts groups s after))

  -- the event leaves all as it was, its weight too
  abbrev pub Passes : State → (charged : ℕ) → Option (Followed (ActorState machine)) → Type 0
  Passes old charged f = (g : Followed (ActorState machine)) × (f ≡ Some g) × (g.reached ≡ outcome (item.Ignored ∷ []) (state_of coding firsts groups old charged))

  abbrev pub Comes : State → (charged : ℕ) → List Extent → Course (ActorState machine) → Next → Type 0
  Comes old charged es c next.Still = HasCourse c × (followed c es ≡ None)
  Comes old charged es c next.NoCourse = IsNoCourse c
  Comes old charged es c next.Ignored = Passes old charged (followed c es)
  Comes old charged es c (next.Behind b) = Reaches (followed c es) b.items b.state

  abbrev pub StepComes : (new : State) → List Extent → Course (ActorState machine) → Stepped → Type 0
  StepComes new es c stepped.Still = HasCourse c × (followed c es ≡ None)
  StepComes new es c stepped.NoCourse = IsNoCourse c
  StepComes new es c (stepped.Items items) = Reaches (followed c es) items new

  abbrev pub course_of : List Written → (own : Bytes) → Event → State → (charged : ℕ) → Course (ActorState machine)
  course_of ps own e s charged = event_course (map (λ p. meant coding firsts p) ps) own e (state_of coding firsts groups s charged)

-- ---- the groups of functions that are known then

-- behind an event that leaves an actor they are those of the actor
abbrev pub IsKnownIn : List GroupOf → State → Type 0
IsKnownIn known (state.NoActor came) = Unit {0}
IsKnownIn known (state.Running r) = known ≡ r.actor.table.items

abbrev pub IsKnown : State → List GroupOf → Next → Type 0
IsKnown old known next.Still = Unit {0}
IsKnown old known next.NoCourse = Unit {0}
IsKnown old known next.Ignored = known ≡ table_in old
IsKnown old known (next.Behind b) = IsKnownIn known b.state

abbrev pub IsStandingNext : Next → Type 0
IsStandingNext next.Still = Unit {0}
IsStandingNext next.NoCourse = Unit {0}
IsStandingNext next.Ignored = Unit {0}
IsStandingNext (next.Behind b) = IsStanding b.state

-- ---- what an event comes to

pub record IsNext (ps : List Written) (own : Bytes) (e : Event) (n : ℕ) (old : State) (after : Next) : Type 0 where
  pub standing : IsStandingNext after
  pub known : List GroupOf
  pub tables : Longer (table_in old) known
  pub kept : IsKnown old known after
  pub means : (coding : Coding) → IsFaithful coding → (groups : ℕ → Functions) → HasGroups groups known → (firsts : Written → ℕ) (charged : ℕ)
      → Comes coding firsts groups old charged (extents n e) (course_of coding firsts groups ps own e old charged) after

-- without items all is as it was
abbrev pub IsKept : Stepper → Stepper → Stepped → Type 0
IsKept old new stepped.Still = new ≡ old
IsKept old new stepped.NoCourse = new ≡ old
IsKept old new (stepped.Items items) = (new.programs.now ≡ old.programs.now) × (new.own.now ≡ old.own.now)

abbrev pub IsKnownBehind : List GroupOf → State → Stepped → Type 0
IsKnownBehind known s stepped.Still = Unit {0}
IsKnownBehind known s stepped.NoCourse = Unit {0}
IsKnownBehind known s (stepped.Items items) = IsKnownIn known s

pub record IsStep (e : Event) (n : ℕ) (old new : Stepper) (s : Stepped) : Type 0 where
  pub sound : IsSound new
  pub same : IsKept old new s
  pub known : List GroupOf
  pub tables : Longer (table_in old.state) known
  pub kept : IsKnownBehind known new.state s
  pub means : (coding : Coding) → IsFaithful coding → (groups : ℕ → Functions) → HasGroups groups known → (firsts : Written → ℕ) (charged : ℕ)
      → StepComes coding firsts groups new.state (extents n e) (course_of coding firsts groups old.programs.now old.own.now e old.state charged) s
