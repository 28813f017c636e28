use Rattle.std.proofs.Common.{inl, inr, refl, sym, subst}
use Rattle.mo_types.specs.Sub.{IsSubtype}
use Rattle.subtype_laws.specs.Inversion.{IsAbove}
use Rattle.subtype_laws.proofs.Inversion.{from_above, from_below}
use Rattle.subtype_laws.proofs.rules.some_types_are_below_others.Goals as goal

pub returns-clause-any : goal.returns-clause-any
returns-clause-any g c = λ head t u e. from_above head t u (inl e)

pub returns-clause-none : goal.returns-clause-none
returns-clause-none g c = λ head t u e. from_below head t u (inl e)

pub returns-clause-null : goal.returns-clause-null
returns-clause-null g c = λ head t u a e f. from_above head t u (subst (λ x. IsAbove (IsSubtype head) u x (head u)) (sym e) (inr (inr (a, f))))

pub returns-clause-nat : goal.returns-clause-nat
returns-clause-nat g c = λ head t u e f. from_above head t u (subst (λ x. IsAbove (IsSubtype head) u x (head u)) (sym e) (inr (_, f, inr (refl, refl))))
