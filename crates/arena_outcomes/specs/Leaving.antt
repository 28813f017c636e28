-- An actor that is as it was, but for calls.
use Rattle.std.specs.Prelude.{◌≡◌, List, ◌∷◌, ◌++◌, [], length}
use Rattle.play_script.specs.declared.item.Item.{Item}
use Rattle.arena_states.specs.declared.group.GroupOf.{GroupOf}
use Rattle.arena_actors.specs.declared.actor.Activation.{Activation}
use Rattle.arena_actors.specs.declared.actor.Actor.{Actor}
use Rattle.arena_actors.specs.Copied.{IsActorCopy}
use Rattle.arena_outcomes.specs.declared.ran.Over.{Over}
use Rattle.arena_outcomes.specs.Books.{closed}

-- with one more incoming call, and these groups of functions
pub record IsLeftWith (x : Actor) (table : List GroupOf) (a : Activation) (items : List Item) (o : Over) : Type 0 where
  pub copy : Actor
  pub copied : IsActorCopy x copy
  pub arrived : Actor
  pub tabled : arrived.table.items ≡ table
  pub grown : arrived ≡ record copy { table = arrived.table; came = copy.came ++ a ∷ [] }
  pub over : o ≡ closed (length x.came) (record { items = items; actor = arrived })
