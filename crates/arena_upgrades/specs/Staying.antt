-- The old program stays where an execution of the upgrade traps.
use Rattle.std.specs.Prelude.{◌≡◌, ℕ, zero, suc, List, [], ◌++◌}
use Rattle.std.proofs.Common.{Vec, Global}
use Rattle.play_script.specs.declared.item.Item.{Item}
use Rattle.play_script.specs.declared.item.Word.TheVariants as word
use Rattle.mo_actor.specs.Outcomes.{trap_items}
use Rattle.mo_meaning.specs.Starting as starting
use Rattle.arena_states.specs.declared.group.GroupOf.{GroupOf}
use Rattle.arena_actors.specs.declared.actor.Actor.{Actor}
use Rattle.arena_actors.specs.Copied.{IsActorCopy}
use Rattle.arena_outcomes.specs.declared.ran.Over.{Over}
use Rattle.arena_upgrades.specs.declared.upgraded.Upgrade.{Upgrade}
use Rattle.arena_upgrades.specs.declared.upgraded.Upgrade.TheVariants as upgrade

-- the same actor, with further groups of functions, behind these items
pub record IsLeft (x : Actor) (table : Vec GroupOf Global) (behind : List Item) (o : Over) : Type 0 where
  pub copy : Actor
  pub copied : IsActorCopy x copy
  pub items : o.items ≡ behind
  pub actor : o.actor ≡ record copy { table = table }

pub record IsStayingWith (x : Actor) (table : Vec GroupOf Global) (items : List Item) (u : Upgrade) : Type 0 where
  pub over : Over
  pub is : u ≡ upgrade.Stays over
  pub left : IsLeft x table items over

-- a kept value is none of its new type, which is told at the first turn
abbrev pub IsIncompatible : ℕ → Actor → Vec GroupOf Global → List Item → Upgrade → Type 0
IsIncompatible zero x table before u = u ≡ upgrade.Still table
IsIncompatible (suc m) x table before u = IsStayingWith x table (before ++ trap_items [] (word.Text starting.incompatible)) u
