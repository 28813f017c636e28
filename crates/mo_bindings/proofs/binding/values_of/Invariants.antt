use Rattle.std.proofs.Common.{◌≡◌, ◌++◌, drop, map}
use Rattle.mo_bindings.specs.ExpressionNames.{in_declaration, values_of}
use Rattle.mo_bindings.proofs.binding.values_of.Given as goal

abbrev pub invariant-loop-one : goal.invariant-loop-one
invariant-loop-one l =
    l.initial.values ++ values_of (map in_declaration l.declarations) ≡ l.values ++ values_of (map in_declaration (drop l.one-index l.declarations))
