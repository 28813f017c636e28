use Rattle.std.proofs.Common.{◌≡◌, drop}
use Rattle.std.specs.List.{find}
use Rattle.std.specs.Str.{bytes_eq}
use Rattle.module_entries.specs.Kinds.{kind_found}
use Rattle.module_entries.proofs.entries.find_export.Given as goal

abbrev pub invariant-loop-export : goal.invariant-loop-export
invariant-loop-export l = kind_found (find (λ e. bytes_eq e.name l.name) (drop l.export-index l.exports)) ≡ kind_found (find (λ e. bytes_eq e.name l.name) l.exports)
