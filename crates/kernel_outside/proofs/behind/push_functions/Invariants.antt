use Rattle.std.proofs.Common.{◌≡◌, drop}
use Rattle.judged_parts.specs.Parts.{See}
use Rattle.kernel_roles.specs.Roles.{list_seen}
use Rattle.kernel_outside.specs.Parts.{with_functions}
use Rattle.kernel_outside.proofs.behind.push_functions.Given as goal

abbrev pub invariant-loop-one : goal.invariant-loop-one
invariant-loop-one l = (see : See) → with_functions (list_seen see (drop l.one-index l.fields)) l.frames ≡ with_functions (list_seen see l.fields) l.initial.frames
