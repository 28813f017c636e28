use Rattle.std.proofs.Common.{◌≡◌, ◌++◌, drop}
use Rattle.desugaring.specs.Programs as programs
use Rattle.judged_parts.specs.Parts.{See}
use Rattle.kernel_roles.specs.Roles.{list_seen}
use Rattle.kernel_outside.proofs.names.stable_names.Given as goal

abbrev pub invariant-loop-one : goal.invariant-loop-one
invariant-loop-one l = (see : See) → l.names ++ programs.stable_names (list_seen see (drop l.one-index l.fields)) ≡ programs.stable_names (list_seen see l.fields)
