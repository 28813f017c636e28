use Rattle.std.proofs.Common.{◌≡◌, take}
use Rattle.body_rules.proofs.declarations.copied_names.Given as goal

abbrev pub invariant-loop-one : goal.invariant-loop-one
invariant-loop-one l = l.made ≡ take l.one-index l.names
