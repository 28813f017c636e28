-- Upgrades while calls are open.
use Rattle.std.specs.Prelude.{◌≡◌, List, [], ◌∷◌, Bool, true, false, cond, nat_eq, codes}
use Rattle.play_script.specs.declared.item.Item.{Item}
use Rattle.play_script.specs.declared.item.Item.TheVariants as item
use Rattle.play_script.specs.declared.item.Word.TheVariants as word
use Rattle.mo_types.specs.Calls.{open_count}
use Rattle.mo_meaning.specs.Coding.{Coding, Types}
use Rattle.arena_actors.specs.declared.actor.Actor.{Actor}
use Rattle.arena_actors.specs.declared.actor.Made.{Made}
use Rattle.arena_actors.specs.Copied.{IsActorCopy}
use Rattle.arena_actors.specs.States.{table_of}
use Rattle.arena_outcomes.specs.declared.ran.Over.{Over}
use Rattle.arena_outcomes.specs.Books.{is_open}
use Rattle.arena_upgrades.specs.declared.upgraded.Upgrade.{Upgrade}
use Rattle.arena_upgrades.specs.declared.upgraded.Upgrade.TheVariants as upgrade

abbrev pub trap_item : Item
trap_item = item.Trapped (word.Text (codes "outstanding calls"))

abbrev pub any_open : List Made → Bool
any_open [] = false
any_open (m ∷ ms) = cond (is_open m.state) true (any_open ms)

abbrev pub HasOpen : Actor → Type 0
HasOpen x = (coding : Coding) (types : Types) → nat_eq (open_count (table_of coding types x.first x.made)) 0 ≡ false

abbrev pub HasNoOpen : Actor → Type 0
HasNoOpen x = (coding : Coding) (types : Types) → nat_eq (open_count (table_of coding types x.first x.made)) 0 ≡ true

-- the old program stays with its actor, behind these items
abbrev pub IsStaying : Actor → List Item → Upgrade → Type 0
IsStaying x items u = (o : Over) × (u ≡ upgrade.Stays o) × (o.items ≡ items) × IsActorCopy x o.actor
