-- The state of an actor that a stepper stands for: IC interface specification, section "Abstract behavior".
use Rattle.std.specs.Prelude.{ℕ, zero, suc, List, [], ◌∷◌}
use Rattle.mo_actor.specs.Programs as Programs
use Rattle.mo_actor.specs.States as actor
use Rattle.mo_actor.specs.States.{ActorState, IsAnswered, NoActor}
use Rattle.typed_tree.specs.declared.program.Program.{Program as Written}
use Rattle.typed_tree.specs.Language.{Functions}
use Rattle.typed_tree.specs.ProgramView.{program}
use Rattle.mo_meaning.specs.Coding.{Coding}
use Rattle.mo_machine.specs.ActorLanguage.{machine}
use Rattle.mo_machine.specs.States.{with_states}
use Rattle.arena_states.specs.declared.group.GroupOf.{GroupOf}
use Rattle.arena_states.specs.Groups.{HasGroups}
use Rattle.arena_equality.specs.Own.{AreOwnLabels}
use Rattle.arena_actors.specs.States.{actor_of, Rests}
use Rattle.arena_actors.specs.States as actors
use Rattle.stepper.specs.declared.state.Running.{Running}
use Rattle.stepper.specs.declared.state.State.{State}
use Rattle.stepper.specs.declared.state.State.TheVariants as state
use Rattle.stepper.specs.declared.state.Stepper.{Stepper}

abbrev pub repeat : {A : Type 0} → ℕ → A → List A
repeat zero a = []
repeat (suc n) a = a ∷ repeat n a

-- A program is given the bytes of its first memory beside what it says itself.
module _ (coding : Coding) (firsts : Written → ℕ) where
  abbrev pub meant : Written → Programs.Program machine
  meant p = with_states coding (firsts p) p.types (program p)

  -- its weight is free, since no item shows it
  abbrev pub state_of : (ℕ → Functions) → State → (charged : ℕ) → ActorState machine
  state_of groups (state.NoActor came) charged = NoActor 0 (repeat came IsAnswered)
  state_of groups (state.Running r) charged = actor.Running (meant r.program.now) (actor_of coding r.program.now.types groups r.actor charged)

-- the groups of functions that are known
abbrev pub table_in : State → List GroupOf
table_in (state.NoActor came) = []
table_in (state.Running r) = r.actor.table.items

-- ---- what always holds

abbrev pub AreOwned : List Written → Type 0
AreOwned [] = Unit {0}
AreOwned (p ∷ ps) = AreOwnLabels p.types × AreOwned ps

pub record IsActorStanding (r : Running) : Type 0 where
  pub labels : AreOwnLabels r.program.now.types
  pub sound : actors.IsSound r.actor
  pub rests : (groups : ℕ → Functions) → HasGroups groups r.actor.table.items → Rests groups r.actor

abbrev pub IsStanding : State → Type 0
IsStanding (state.NoActor came) = Unit {0}
IsStanding (state.Running r) = IsActorStanding r

pub record IsSound (x : Stepper) : Type 0 where
  pub owned : AreOwned x.programs.now
  pub standing : IsStanding x.state
