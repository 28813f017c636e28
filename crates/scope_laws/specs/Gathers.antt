-- The definitions and type parameters of a program, in which those of each of its parts are found.
use Rattle.std.specs.Prelude.{◌≡◌, true, false, [], Some}
use Rattle.mo_types.specs.Sub.{Each}
use Rattle.typing_rules.specs.AbstractSyntax.{Declaration, Declarations}
use Rattle.typing_rules.specs.AbstractSyntax as p
use Rattle.typing_rules.specs.Definitions.{Definitions, definition_at, bound_at}

-- under its number each of these stands
pub record Gathers (defs part : Definitions) : Type 0 where
  pub types : Each (λ d. definition_at defs.types d.at ≡ Some d) part.types
  pub parameters : Each (λ b. bound_at defs.parameters b.at ≡ b.bound) part.parameters

-- a public function or class of these has no type parameters
abbrev pub IsPlainField : {N : Type 0} → Declaration N → Type 0
IsPlainField (p.Func x g body) = g.generics ≡ []
IsPlainField (p.Class x g fields) = g.generics ≡ []
IsPlainField _ = Unit {0}

abbrev pub ArePlainFields : {N : Type 0} → Declarations N → Type 0
ArePlainFields p.End = Unit {0}
ArePlainFields (p.Then true n d rest) = IsPlainField d × ArePlainFields rest
ArePlainFields (p.Then false n d rest) = ArePlainFields rest
