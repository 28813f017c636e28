-- What an upgrade comes to.
use Rattle.std.specs.Prelude.{◌≡◌}
use Rattle.typed_tree.specs.declared.program.Program.{Program as Written}
use Rattle.arena_upgrades.specs.declared.upgraded.Upgrade.{Upgrade}
use Rattle.arena_upgrades.specs.declared.upgraded.Upgrade.TheVariants as upgrade
use Rattle.stepper.specs.declared.state.Next.{Next}
use Rattle.stepper.specs.declared.state.Next.TheVariants as next
use Rattle.stepper.specs.Living.{IsBehind}

abbrev pub IsNextOf : (old new : Written) → Upgrade → Next → Type 0
IsNextOf old new (upgrade.Still table) n = n ≡ next.Still
IsNextOf old new (upgrade.Stays o) n = IsBehind old o n
IsNextOf old new (upgrade.Upgrades o) n = IsBehind new o n
