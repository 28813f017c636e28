-- The new program starts over what was kept.
use Rattle.std.specs.Prelude.{◌≡◌, ℕ, ◌+◌, List, [], ◌∷◌, ◌++◌, length, map, Option, Some, None}
use Rattle.std.proofs.Common.{Vec, Global}
use Rattle.play_script.specs.declared.item.Item.{Item}
use Rattle.play_script.specs.declared.item.Item.TheVariants as item
use Rattle.play_script.specs.declared.item.Word.TheVariants as word
use Rattle.mo_types.specs.declared.node.TypeId.{TypeId}
use Rattle.mo_types.specs.Code.{Variable}
use Rattle.mo_values.specs.Shapes.{Bytes}
use Rattle.mo_actor.specs.Computed.{ToItsEnd, followed}
use Rattle.mo_actor.specs.Courses.{Course, Over as Ends, Runs}
use Rattle.mo_actor.specs.Outcomes.{print_items, trap_items}
use Rattle.mo_actor.specs.States.{ActorState}
use Rattle.mo_actor.specs.Upgrades.{upgraded}
use Rattle.typed_tree.specs.declared.program.Program.{Program as Written}
use Rattle.typed_tree.specs.Language.{Functions}
use Rattle.typed_tree.specs.ProgramView.{program}
use Rattle.mo_meaning.specs.Coding.{Coding, IsFaithful}
use Rattle.mo_machine.specs.ActorLanguage.{machine, Fields}
use Rattle.mo_machine.specs.Starting.{start_of}
use Rattle.mo_machine.specs.States.{with_states}
use Rattle.value_arena.specs.declared.node.ValueId.{ValueId}
use Rattle.arena_states.specs.declared.group.GroupOf.{GroupOf}
use Rattle.arena_states.specs.Groups.{HasGroups}
use Rattle.arena_reductions.specs.Reduced.{Longer}
use Rattle.arena_actors.specs.declared.actor.Activation.{Activation}
use Rattle.arena_actors.specs.declared.actor.Actor.{Actor}
use Rattle.arena_actors.specs.States.{actor_of, came_of, AreCameWithin, Rests}
use Rattle.arena_outcomes.specs.declared.ran.Over.{Over}
use Rattle.arena_saving.specs.declared.saved.Keeping.{Keeping}
use Rattle.arena_saving.specs.Saving.{AreVariables}
use Rattle.arena_starts.specs.declared.starting.Beginning.{Beginning}
use Rattle.arena_starts.specs.declared.starting.Started.{Started}
use Rattle.arena_starts.specs.declared.starting.Started.TheVariants as started
use Rattle.arena_starts.specs.Restarts.{IsRestart}
use Rattle.arena_upgrades.specs.declared.restarting.Base.{Base}
use Rattle.arena_upgrades.specs.declared.upgraded.Upgrade.{Upgrade}
use Rattle.arena_upgrades.specs.declared.upgraded.Upgrade.TheVariants as upgrade
use Rattle.arena_upgrades.specs.Staying.{IsIncompatible, IsStayingWith}
use Rattle.arena_upgrades.specs.Upgrades.{table_in, Comes, IsSoundAfter, RestsAfter}

-- ---- what stays of the actor

pub record IsBaseOf (x : Actor) (next : ℕ) (g : Base) : Type 0 where
  pub arena : g.arena ≡ x.arena
  pub first : g.first ≡ next
  pub came : g.came ≡ x.came

pub record IsBase (x : Actor) (g : Base) : Type 0 where
  pub first : g.first ≡ x.first + length x.made
  pub within : AreCameWithin g.arena g.came
  pub came : (groups : ℕ → Functions) → came_of groups g.arena g.came ≡ came_of groups x.arena x.came

-- ---- what the start comes to

abbrev pub begun_actor : Beginning → ℕ → List Activation → Actor
begun_actor b first came = record { arena = b.arena; table = b.table; store = b.store; exports = b.exports; first = first; made = []; came = came }

pub record IsBegunAs (before : List Item) (b : Beginning) (first : ℕ) (came : List Activation) (u : Upgrade) : Type 0 where
  pub over : Over
  pub is : u ≡ upgrade.Upgrades over
  pub items : over.items ≡ before ++ (print_items b.prints ++ item.Upgraded ∷ [])
  pub actor : over.actor ≡ begun_actor b first came

abbrev pub IsRestartedAs : Actor → List Item → Started → ℕ → List Activation → Upgrade → Type 0
IsRestartedAs x before (started.Still table) first came u = u ≡ upgrade.Still table
IsRestartedAs x before (started.Traps table prints text) first came u = IsStayingWith x table (before ++ trap_items prints (word.Text text)) u
IsRestartedAs x before (started.Starts b) first came u = IsBegunAs before b first came u

module _ (new : Written) (own : Bytes) (n : ℕ) (x : Actor) (table : Vec GroupOf Global) (before : List Item) (g : Base) where
  pub record IsStartedOver (kept : List (Option ValueId)) (u : Upgrade) : Type 0 where
    pub started : Started
    pub restart : IsRestart new own n g.arena table.items kept started
    pub comes : IsRestartedAs x before started g.first g.came u

  abbrev pub IsKeptOver : Option (List (Option ValueId)) → Upgrade → Type 0
  IsKeptOver None u = IsIncompatible n x table before u
  IsKeptOver (Some kept) u = IsStartedOver kept u

-- ---- exactly what the meaning says

-- the course behind what was saved
module _ (coding : Coding) (groups : ℕ → Functions) (old new : Written) (own : Bytes) (x : Actor) (prints : List Bytes) (first again charged : ℕ) where
  abbrev pub course_behind : List (Variable TypeId) → Course (ActorState machine)
  course_behind variables =
      Runs Fields again 0 (start_of coding new.types (program new) own (Some (record { types = old.types; variables = variables })))
      (λ r. Ends (upgraded (with_states coding first old.types (program old)) (actor_of coding old.types groups x charged) (with_states coding again new.types (program new)) prints r))

pub record IsOverKept (old new : Written) (own : Bytes) (n : ℕ) (x : Actor) (k : Keeping) (u : Upgrade) : Type 0 where
  pub sound : IsSoundAfter u
  pub tables : Longer k.table.items (table_in u)
  pub rests : (groups : ℕ → Functions) → Rests groups x → RestsAfter groups u
  pub means : (coding : Coding) → IsFaithful coding → (groups : ℕ → Functions) → HasGroups groups (table_in u) → (variables : List (Variable TypeId)) → AreVariables old.types (program old).stable (map (λ p. p.items) k.parts.items) variables
      → (first again charged : ℕ) → Comes coding groups old new first again (followed (course_behind coding groups old new own x k.prints first again charged variables) (ToItsEnd n ∷ [])) u
