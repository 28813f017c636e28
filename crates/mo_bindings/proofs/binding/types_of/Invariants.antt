use Rattle.std.proofs.Common.{◌≡◌, ◌++◌, drop, map}
use Rattle.mo_bindings.specs.ExpressionNames.{in_declaration, types_of}
use Rattle.mo_bindings.proofs.binding.types_of.Given as goal

abbrev pub invariant-loop-one : goal.invariant-loop-one
invariant-loop-one l =
    l.initial.types ++ types_of (map in_declaration l.declarations) ≡ l.types ++ types_of (map in_declaration (drop l.one-index l.declarations))
