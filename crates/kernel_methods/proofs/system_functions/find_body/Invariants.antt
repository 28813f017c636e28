use Rattle.std.proofs.Common.{◌≡◌, drop}
use Rattle.judged_parts.specs.Parts.{See}
use Rattle.kernel_roles.specs.Roles.{list_seen}
use Rattle.kernel_methods.specs.Methods.{first_body}
use Rattle.kernel_methods.proofs.system_functions.find_body.Given as goal

abbrev pub invariant-loop-one : goal.invariant-loop-one
invariant-loop-one l = (see : See) → first_body l.name (list_seen see (drop l.one-index l.fields)) ≡ first_body l.name (list_seen see l.fields)
