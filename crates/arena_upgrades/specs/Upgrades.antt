-- What an upgrade comes to: exactly what the meaning says of it, within so many turns for each of its two executions. IC interface
-- specification, section "Canister installation and upgrade"; Motoko language manual, section "Stable variables".
use Rattle.std.specs.Prelude.{◌≡◌, ℕ, List, [], ◌∷◌, Option, Some, None}
use Rattle.mo_values.specs.Shapes.{Bytes}
use Rattle.mo_actor.specs.Computed.{Followed, ToItsEnd, followed}
use Rattle.mo_actor.specs.Outcomes.{outcome}
use Rattle.mo_actor.specs.States as actor
use Rattle.mo_actor.specs.States.{ActorState}
use Rattle.mo_actor.specs.Upgrades.{upgrade_course}
use Rattle.typed_tree.specs.declared.program.Program.{Program as Written}
use Rattle.typed_tree.specs.Language.{Functions}
use Rattle.typed_tree.specs.ProgramView.{program}
use Rattle.mo_meaning.specs.Coding.{Coding, IsFaithful}
use Rattle.mo_machine.specs.ActorLanguage.{machine}
use Rattle.mo_machine.specs.States.{with_states}
use Rattle.arena_states.specs.declared.group.GroupOf.{GroupOf}
use Rattle.arena_states.specs.Groups.{HasGroups}
use Rattle.arena_reductions.specs.Reduced.{Longer}
use Rattle.arena_actors.specs.declared.actor.Actor.{Actor}
use Rattle.arena_actors.specs.States.{actor_of, IsSound, Rests}
use Rattle.arena_outcomes.specs.declared.ran.Over.{Over}
use Rattle.arena_upgrades.specs.declared.upgraded.Upgrade.{Upgrade}
use Rattle.arena_upgrades.specs.declared.upgraded.Upgrade.TheVariants as upgrade

-- the groups of functions that are known then: those of the old program, and then further ones
abbrev pub table_in : Upgrade → List GroupOf
table_in (upgrade.Still table) = table.items
table_in (upgrade.Stays o) = o.actor.table.items
table_in (upgrade.Upgrades o) = o.actor.table.items

abbrev pub IsSoundAfter : Upgrade → Type 0
IsSoundAfter (upgrade.Still table) = Unit {0}
IsSoundAfter (upgrade.Stays o) = IsSound o.actor
IsSoundAfter (upgrade.Upgrades o) = IsSound o.actor

abbrev pub RestsAfter : (ℕ → Functions) → Upgrade → Type 0
RestsAfter groups (upgrade.Still table) = Unit {0}
RestsAfter groups (upgrade.Stays o) = Rests groups o.actor
RestsAfter groups (upgrade.Upgrades o) = Rests groups o.actor

module _ (coding : Coding) (groups : ℕ → Functions) where
  -- these items, and the actor under this program
  abbrev pub Reaches : (p : Written) → (first : ℕ) → Over → Option (Followed (ActorState machine)) → Type 0
  Reaches p first o f = (g : Followed (ActorState machine)) × (f ≡ Some g) × (after : ℕ)
      × (g.reached ≡ outcome o.items (actor.Running (with_states coding first p.types (program p)) (actor_of coding p.types groups o.actor after)))

  abbrev pub Comes : (old new : Written) → (first again : ℕ) → Option (Followed (ActorState machine)) → Upgrade → Type 0
  Comes old new first again f (upgrade.Still table) = f ≡ None
  Comes old new first again f (upgrade.Stays o) = Reaches old first o f
  Comes old new first again f (upgrade.Upgrades o) = Reaches new again o f

pub record IsUpgrade (old new : Written) (own : Bytes) (n : ℕ) (x : Actor) (u : Upgrade) : Type 0 where
  pub sound : IsSoundAfter u
  pub tables : Longer x.table.items (table_in u)
  pub rests : (groups : ℕ → Functions) → HasGroups groups (table_in u) → Rests groups x → RestsAfter groups u
  pub means : (coding : Coding) → IsFaithful coding → (groups : ℕ → Functions) → HasGroups groups (table_in u) → Rests groups x → (first again charged : ℕ)
      → Comes coding groups old new first again (followed
      (upgrade_course own (with_states coding first old.types (program old)) (actor_of coding old.types groups x charged) (Some (with_states coding again new.types (program new))))
      (ToItsEnd n ∷ ToItsEnd n ∷ [])) u
