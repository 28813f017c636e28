-- What an event comes to in the life of an actor over an arena: exactly what the meaning says of it, within so many turns.
use Rattle.std.specs.Prelude.{◌≡◌, ℕ, List, [], ◌∷◌, Option, Some, None}
use Rattle.play_script.specs.declared.item.Item.TheVariants as item
use Rattle.mo_actor.specs.Computed.{Followed, ToItsEnd, followed}
use Rattle.mo_actor.specs.Courses.{Course}
use Rattle.mo_actor.specs.Outcomes.{outcome}
use Rattle.mo_actor.specs.States as actor
use Rattle.typed_tree.specs.Language.{Functions}
use Rattle.mo_meaning.specs.Coding.{Coding, IsFaithful, Types}
use Rattle.mo_machine.specs.ActorLanguage.{machine}
use Rattle.arena_states.specs.declared.group.GroupOf.{GroupOf}
use Rattle.arena_states.specs.Groups.{HasGroups}
use Rattle.arena_reductions.specs.Reduced.{Longer}
use Rattle.arena_actors.specs.declared.actor.Actor.{Actor}
use Rattle.arena_actors.specs.States.{actor_of, IsSound, Rests}
use Rattle.arena_outcomes.specs.declared.ran.Lived.{Lived}
use Rattle.arena_outcomes.specs.declared.ran.Lived.TheVariants as lived

-- the groups of functions that are known then
abbrev pub table_after : Actor → Lived → List GroupOf
table_after x (lived.Still table) = table.items
table_after x lived.Ignored = x.table.items
table_after x (lived.Over o) = o.actor.table.items

abbrev pub IsSoundAfter : Lived → Type 0
IsSoundAfter (lived.Over o) = IsSound o.actor
IsSoundAfter _ = Unit {0}

abbrev pub RestsAfter : (ℕ → Functions) → Lived → Type 0
RestsAfter groups (lived.Over o) = Rests groups o.actor
RestsAfter groups _ = Unit {0}

-- a course, followed for so many turns, comes to this: nothing yet, or the items and the actor behind them
abbrev pub Comes : Coding → Types → (ℕ → Functions) → Actor → (charged : ℕ) → Option (Followed (actor.Actor machine)) → Lived → Type 0
Comes coding types groups x charged f (lived.Still table) = f ≡ None
Comes coding types groups x charged f lived.Ignored = (g : Followed (actor.Actor machine)) × (f ≡ Some g) × (g.reached ≡ outcome (item.Ignored ∷ []) (actor_of coding types groups x charged))
Comes coding types groups x charged f (lived.Over o) = (g : Followed (actor.Actor machine)) × (f ≡ Some g) × (after : ℕ) × (g.reached ≡ outcome o.items (actor_of coding types groups o.actor after))

-- the course of an event, by the coding, the bytes of the program's first memory, and the actor
abbrev pub CourseOf : Type 1
CourseOf = Coding → ℕ → actor.Actor machine → Course (actor.Actor machine)

pub record Lives (types : Types) (course : CourseOf) (n : ℕ) (x : Actor) (l : Lived) : Type 0 where
  pub sound : IsSoundAfter l
  pub tables : Longer x.table.items (table_after x l)
  pub rests : (groups : ℕ → Functions) → HasGroups groups (table_after x l) → Rests groups x → RestsAfter groups l
  pub means : (coding : Coding) → IsFaithful coding → (groups : ℕ → Functions) → HasGroups groups (table_after x l) → Rests groups x → (first charged : ℕ)
      → Comes coding types groups x charged (followed (course coding first (actor_of coding types groups x charged)) (ToItsEnd n ∷ [])) l
