use Rattle.std.proofs.Common.{◌≡◌, drop}
use Rattle.std.specs.List.{list_any}
use Rattle.std.specs.Str.{bytes_eq}
use Rattle.kernel_outside.proofs.hiding.is_among.Given as goal

abbrev pub invariant-loop-other : goal.invariant-loop-other
invariant-loop-other l = list_any (λ y. bytes_eq l.name y) (drop l.other-index l.names) ≡ list_any (λ y. bytes_eq l.name y) l.names
