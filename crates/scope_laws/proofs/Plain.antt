-- Public fields have no type parameters.
use Rattle.std.proofs.Common.{◌≡◌, ℕ, true, false, List, [], ◌∷◌, refl}
use Rattle.typing_rules.specs.AbstractSyntax.{TypeParameter, Declaration}
use Rattle.typing_rules.specs.AbstractSyntax as p
use Rattle.typing_rules.specs.Definitions.{Definitions}
use Rattle.typing_rules.specs.Judgements.{Fine}
use Rattle.typing_rules.specs.Patterns.{is_empty}
use Rattle.typing_rules.specs.PublicFields.{PublicField, PublicFields, EachAnnotated}
use Rattle.typing_rules.specs.Terms.{Term}
use Rattle.desugaring_laws.specs.Yields.{Yields}
use Rattle.desugaring_laws.proofs.Yielding.{anything, more, tests, part as after}
use Rattle.scope_laws.specs.Gathers.{IsPlainField, ArePlainFields}
use Rattle.scope_laws.specs.Laws.{PublicFieldsArePlain}

none_there : (gs : List TypeParameter) → is_empty gs ≡ true → gs ≡ []
none_there [] e = refl
none_there (g ∷ gs) e = cc

module _ (defs : Definitions) (terms : List Term) where
  plain : (d : Declaration ℕ) → Yields defs terms (PublicField d) (λ u. IsPlainField d)
  plain (p.Let q a) = more defs terms (EachAnnotated q) (λ u. Unit {0}) (λ u. Unit {0}) (anything defs terms (EachAnnotated q)) (λ u z. z)
  plain (p.Var stable x u a) = anything defs terms (PublicField (p.Var stable x u a))
  plain (p.Func x g body) = tests defs terms _ x.at (is_empty g.generics) Fine (λ u. g.generics ≡ []) (λ e. none_there g.generics e)
  plain (p.Method query context x g body) = tt
  plain (p.System x body) = tt
  plain (p.TypeAlias x ps a) = tt
  plain (p.Class x g fields) = tests defs terms _ x.at (is_empty g.generics) Fine (λ u. g.generics ≡ []) (λ e. none_there g.generics e)
  plain (p.NamedObject x fields) = tt
  plain (p.Evaluate a) = tt

pub public_fields_are_plain : PublicFieldsArePlain
public_fields_are_plain defs terms p.End = tt
public_fields_are_plain defs terms (p.Then true n d rest) =
    after defs terms (PublicField d) _ (λ u. IsPlainField d) (λ u. ArePlainFields (p.Then true n d rest)) (plain defs terms d) (λ u h.
    more defs terms (PublicFields rest) (λ v. ArePlainFields rest) (λ v. ArePlainFields (p.Then true n d rest)) (public_fields_are_plain defs terms rest) (λ v k. (h, k)))
public_fields_are_plain defs terms (p.Then false n d rest) = public_fields_are_plain defs terms rest
