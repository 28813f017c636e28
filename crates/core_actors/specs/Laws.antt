-- What the passes between the core languages keep of whole actors.
use Rattle.std.specs.Prelude.{◌≡◌, ℕ, ◌*◌, ◌≤◌, Bool, true, List, [], ◌∷◌, map}
use Rattle.std.specs.List.{AllByRecursion}
use Rattle.play_script.specs.declared.event.Event.{Event}
use Rattle.play_script.specs.declared.item.Item.{Item}
use Rattle.mo_values.specs.Shapes.{Bytes}
use Rattle.mo_actor.specs.Measures.{Measure, Spent, Unmeasured}
use Rattle.mo_actor.specs.Passes.{CommittedState, Keeps}
use Rattle.mo_actor.specs.Programs as actor
use Rattle.mo_actor.specs.Steps.{ActorRun}
use Rattle.core_ir.specs.Programs.{Program}
use Rattle.core_ir.specs.Worlds.{World}
use Rattle.core_ir.specs.Executions.{Machine}
use Rattle.core_ir.specs.Expressions.{Core}
use Rattle.core_ir.specs.CoreMachine.{core_machine}
use Rattle.core_ir.specs.Code.{CodeProgram}
use Rattle.core_ir.specs.CodeMachine.{code_machine}
use Rattle.core_ir.specs.Messages.{Messages}
use Rattle.core_ir.specs.Actor.{core_language, actor_program}
use Rattle.core_laws.specs.Conversion.{convert_program}
use Rattle.core_laws.specs.Converted.{world_as, Ordered}
use Rattle.core_laws.specs.Laws.{flattened, needed}
use Rattle.core_laws.specs.Makes.{MakesEarlier}
use Rattle.core_ir.specs.Nested.{Nested}
use Rattle.core_laws.specs.Split.{split_program}
use Rattle.core_laws.specs.Uses.{needs_of}
use Rattle.core_actors.specs.KeptActors.{Related, SameKept, Weighs}
use Rattle.core_actors.specs.Unbroken.{Unbroken}

-- The actor of q keeps to that of p, whose first memories have so many bytes, under each invariant by which p does not break. An invariant
-- is here what tests say; the lemma of `proofs/` has it for any.
module _ {S T V W K B C : Type 0} (times : ℕ) (moved : World → World) (old : Machine S V) (new : Machine T W) (messages : Messages K) (p : Program B) (q : Program C) (own : Bytes) (first memory : ℕ)
    (allowed : Event → Bool) (safe : CommittedState (core_language V K) → Bool) (fits : K → Bool) where
  -- in each single execution, by these measures of exhaustions
  abbrev pub KeepsBy : Measure → Measure → Type 0
  KeepsBy pays_old pays_new =
      Keeps {S = core_language V K} {T = core_language W K}
      (Related times moved old new messages p q own (λ s. safe s ≡ true) (λ k. fits k ≡ true)) (SameKept times moved old new messages p q own (λ s. safe s ≡ true) (λ k. fits k ≡ true))
      (Weighs times moved old new messages p q own (λ s. safe s ≡ true) (λ k. fits k ≡ true)) (λ e. allowed e ≡ true) pays_old pays_new own (actor_program old messages p first) (actor_program new messages q memory)

  -- an exhaustion of the new program that is deserved by so many steps and pages is deserved in the old one by those that times many of
  -- are no more
  pub record KeptActor : Type 0 where
    pub keeps : KeepsBy Unmeasured Unmeasured
    pub measured : (steps stack pages more_steps more_pages : ℕ) → times * steps ≤ more_steps → times * pages ≤ more_pages → KeepsBy (Spent steps stack pages) (Spent more_steps stack more_pages)

module _ {S T V W K B C : Type 0} (times : ℕ) (moved : World → World) (old : Machine S V) (new : Machine T W) (messages : Messages K) (p : Program B) (q : Program C) (own : Bytes) where
  abbrev pub KeptUnbroken : Type 0
  KeptUnbroken =
      (first memory : ℕ) → memory ≤ times * first → (allowed : Event → Bool) (safe : CommittedState (core_language V K) → Bool) (fits : K → Bool)
      → Unbroken old messages p first own (λ e. allowed e ≡ true) (λ s. safe s ≡ true) (λ k. fits k ≡ true) → KeptActor times moved old new messages p q own first memory allowed safe fits

-- Of a split program, of a converted one, and of one that went through both passes; Kept is what an upgrade hands on.
abbrev pub SplittingKeeps : Type 0 → Type 0
SplittingKeeps Kept = (p : Core) → Nested p → (messages : Messages Kept) (own : Bytes) → KeptUnbroken 2 (λ world. world) (core_machine p) (code_machine (split_program p)) messages p (split_program p) own

abbrev pub ConversionKeeps : Type 0 → Type 0
ConversionKeeps Kept =
    (p : CodeProgram) → Ordered p → (messages : Messages Kept) (own : Bytes)
    → KeptUnbroken 1 (world_as (needs_of [] p.groups)) (code_machine p) (code_machine (convert_program p)) messages p (convert_program p) own

abbrev pub PassesKeep : Type 0 → Type 0
PassesKeep Kept =
    (p : Core) → Nested p → MakesEarlier p → (messages : Messages Kept) (own : Bytes)
    → KeptUnbroken 2 (world_as (needed p)) (core_machine p) (code_machine (flattened p)) messages p (flattened p) own

-- ---- over lists of events

-- one of the programs between which upgrades go: what its actor is told of messages, how many bytes its first memories have before a pass
-- and behind it, and a test of the states in which it may be
pub record Version (B V K : Type 0) : Type 0 where
  pub program : Program B
  pub messages : Messages K
  pub first : ℕ
  pub memory : ℕ
  pub safe : CommittedState (core_language V K) → Bool

-- A pass makes programs from those of which this is asked.
module _ {S T V W B C : Type 0} (K : Type 0) (times : ℕ) (old : Program B → Machine S V) (new : Program C → Machine T W) (made : Program B → Program C) (Asked : Program B → Type 0) where
  abbrev pub old_actor : Version B V K → actor.Program (core_language V K)
  old_actor v = actor_program (old v.program) v.messages v.program v.first

  abbrev pub new_actor : Version B V K → actor.Program (core_language W K)
  new_actor v = actor_program (new (made v.program)) v.messages (made v.program) v.memory

  -- upgrades from each of the programs to each among the events
  abbrev pub RunsBy : Measure → Measure → List ℕ → (Event → Bool) → List (Version B V K) → Type 0
  RunsBy pays_old pays_new own allowed versions =
      (events : List Event) → AllByRecursion (λ e. allowed e ≡ true) events → (items : List Item)
      → ActorRun pays_new (map new_actor versions) own events items → ActorRun pays_old (map old_actor versions) own events items

  abbrev pub Qualifies : List ℕ → (Event → Bool) → (K → Bool) → Version B V K → Type 0
  Qualifies own allowed fits v =
      Asked v.program × (v.memory ≤ times * v.first) × Unbroken (old v.program) v.messages v.program v.first own (λ e. allowed e ≡ true) (λ s. v.safe s ≡ true) (λ k. fits k ≡ true)

  pub record KeptRuns : Type 0 where
    pub runs : (own : List ℕ) (allowed : Event → Bool) (fits : K → Bool) (versions : List (Version B V K)) → AllByRecursion (Qualifies own allowed fits) versions → RunsBy Unmeasured Unmeasured own allowed versions
    pub measured : (own : List ℕ) (allowed : Event → Bool) (fits : K → Bool) (versions : List (Version B V K)) → AllByRecursion (Qualifies own allowed fits) versions
        → (steps stack pages more_steps more_pages : ℕ) → times * steps ≤ more_steps → times * pages ≤ more_pages → RunsBy (Spent steps stack pages) (Spent more_steps stack more_pages) own allowed versions

abbrev pub SplittingKeepsRuns : Type 0 → Type 0
SplittingKeepsRuns Kept = KeptRuns Kept 2 core_machine code_machine split_program Nested

abbrev pub ConversionKeepsRuns : Type 0 → Type 0
ConversionKeepsRuns Kept = KeptRuns Kept 1 code_machine code_machine convert_program Ordered

abbrev pub PassesKeepRuns : Type 0 → Type 0
PassesKeepRuns Kept = KeptRuns Kept 2 core_machine code_machine flattened (λ p. Nested p × MakesEarlier p)
