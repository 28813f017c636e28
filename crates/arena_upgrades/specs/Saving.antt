-- What comes of what saving came to.
use Rattle.std.specs.Prelude.{◌≡◌, ℕ, [], ◌++◌}
use Rattle.play_script.specs.declared.item.Word.TheVariants as word
use Rattle.mo_values.specs.Shapes.{Bytes}
use Rattle.mo_actor.specs.Outcomes.{trap_items}
use Rattle.typed_tree.specs.declared.program.Program.{Program as Written}
use Rattle.arena_actors.specs.declared.actor.Actor.{Actor}
use Rattle.arena_saving.specs.declared.saved.Saved.{Saved}
use Rattle.arena_saving.specs.declared.saved.Saved.TheVariants as saved
use Rattle.arena_upgrades.specs.declared.upgraded.Upgrade.{Upgrade}
use Rattle.arena_upgrades.specs.declared.upgraded.Upgrade.TheVariants as upgrade
use Rattle.arena_upgrades.specs.Restarting.{IsOverKept}
use Rattle.arena_upgrades.specs.Staying.{IsStayingWith}

abbrev pub IsBehindSaving : (old new : Written) → Bytes → ℕ → Actor → Saved → Upgrade → Type 0
IsBehindSaving old new own n x (saved.Still table) u = u ≡ upgrade.Still table
IsBehindSaving old new own n x (saved.Traps table prints text) u = IsStayingWith x table ([] ++ trap_items prints (word.Text text)) u
IsBehindSaving old new own n x (saved.Keeps k) u = IsOverKept old new own n x k u
