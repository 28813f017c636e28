use Rattle.std.proofs.Common.{◌≡◌, ◌-◌, ◌≤◌}
use Rattle.elaboration.specs.Members.{levels_from}
use Rattle.core_members.proofs.calls.levels_from.Given as goal

abbrev pub invariant-loop-next : goal.invariant-loop-next
invariant-loop-next l = (l.level ≤ l.next) × (l.levels.items ≡ levels_from l.level (l.next - l.level))
