-- Names that a part uses, and those that are bound around it.
use Rattle.std.proofs.Common.{◌≡◌, ◌⊎◌, inl, inr, Bool, true, false, not, List, [], ◌∷◌, refl, sym, subst}
use Rattle.std.specs.Prelude.{cond, ◌||◌}
use Rattle.std.specs.List.{list_any}
use Rattle.std.specs.Str.{bytes_eq}
use Rattle.subtype_laws.specs.Reached.{Among}
use Rattle.typing_rules.specs.AbstractSyntax.{Bytes}
use Rattle.desugaring.specs.FreeNames.{without}
use Rattle.expression_laws.proofs.Naming.{same_bytes}

among_any : (bound : List Bytes) (x : Bytes) → list_any (λ y. bytes_eq x y) bound ≡ true → Among x bound
among_any [] x h = cc
among_any (y ∷ ys) x h = by (bytes_eq x y) refl h (λ g. among_any ys x g) where
  by : (b : Bool) → bytes_eq x y ≡ b → (b || list_any (λ y. bytes_eq x y) ys) ≡ true → (list_any (λ y. bytes_eq x y) ys ≡ true → Among x ys) → Among x (y ∷ ys)
  by true e h rest = inl (sym (same_bytes x y e))
  by false e h rest = inr (rest h)

kept_among : (b : Bool) (x y : Bytes) (ys : List Bytes) → Among x ys → Among x (cond (not b) (y ∷ ys) ys)
kept_among true x y ys m = m
kept_among false x y ys m = inr m

-- a name that is used is bound there or stays
pub outside : (bound used : List Bytes) (x : Bytes) → Among x used → Among x bound ⊎ Among x (without bound used)
outside bound [] x m = absurd m
outside bound (y ∷ used) x (inl e) = subst (λ z. Among z bound ⊎ Among z (without bound (y ∷ used))) e (by (list_any (λ z. bytes_eq y z) bound) refl) where
  by : (b : Bool) → list_any (λ z. bytes_eq y z) bound ≡ b → Among y bound ⊎ Among y (without bound (y ∷ used))
  by true h = inl (among_any bound y h)
  by false h = inr (subst (λ b. Among y (cond (not b) (y ∷ without bound used) (without bound used))) (sym h) (inl refl))
outside bound (y ∷ used) x (inr m) = on (outside bound used x m) where
  on : Among x bound ⊎ Among x (without bound used) → Among x bound ⊎ Among x (without bound (y ∷ used))
  on (inl n) = inl n
  on (inr n) = inr (kept_among (list_any (λ z. bytes_eq y z) bound) x y (without bound used) n)
