-- Definitions and type parameters under their numbers.
use Rattle.std.proofs.Common.{◌≡◌, ◌≢◌, inl, inr, ℕ, Bool, true, false, List, [], ◌∷◌, map, Some, refl, sym, ap, ◌∙◌, subst}
use Rattle.std.proofs.lemmas.Bool.{eqb-true}
use Rattle.std.specs.Prelude.{cond, nat_eq}
use Rattle.mo_types.specs.Sub.{Each}
use Rattle.subtype_laws.specs.Reached.{Among}
use Rattle.typed_tree.specs.OperationTypes.{Distinct}
use Rattle.typing_rules.specs.Definitions.{Definition, Bounded, definition_at, bound_at}
use Rattle.function_laws.proofs.Instances.{eqb-self}
use Rattle.source_laws.specs.Numbers.{DefinitionsAreGathered}

each_among : {A : Type 0} (P : A → Type 0) (xs : List A) → ((x : A) → Among x xs → P x) → Each P xs
each_among P [] f = tt
each_among P (x ∷ xs) f = (f x (inl refl), each_among P xs (λ y m. f y (inr m)))

module _ {A : Type 0} (number : A → ℕ) where
  apart : (x y : A) (xs : List A) → Each (λ n. number x ≢ n) (map number xs) → Among y xs → nat_eq (number x) (number y) ≡ false
  apart x y [] h m = absurd m
  apart x y (z ∷ xs) h (inl e) = by (nat_eq (number x) (number y)) refl where
    by : (b : Bool) → nat_eq (number x) (number y) ≡ b → nat_eq (number x) (number y) ≡ false
    by true i = absurd (h.0 (eqb-true (number x) (number y) i ∙ ap number (sym e)))
    by false i = i
  apart x y (z ∷ xs) h (inr m) = apart x y xs h.1 m

definition_stands : (ds : List Definition) → Distinct (map (λ d. d.at) ds) → (d : Definition) → Among d ds → definition_at ds d.at ≡ Some d
definition_stands [] h d m = absurd m
definition_stands (x ∷ ds) h d (inl e) = subst (λ z. cond (nat_eq x.at z.at) (Some x) (definition_at ds z.at) ≡ Some z) e (ap (λ b. cond b (Some x) (definition_at ds x.at)) (eqb-self x.at))
definition_stands (x ∷ ds) h d (inr m) = ap (λ b. cond b (Some x) (definition_at ds d.at)) (apart (λ z. z.at) x d ds h.0 m) ∙ definition_stands ds h.1 d m

bound_stands : (bs : List Bounded) → Distinct (map (λ b. b.at) bs) → (b : Bounded) → Among b bs → bound_at bs b.at ≡ b.bound
bound_stands [] h b m = absurd m
bound_stands (x ∷ bs) h b (inl e) = subst (λ z. cond (nat_eq x.at z.at) x.bound (bound_at bs z.at) ≡ z.bound) e (ap (λ c. cond c x.bound (bound_at bs x.at)) (eqb-self x.at))
bound_stands (x ∷ bs) h b (inr m) = ap (λ c. cond c x.bound (bound_at bs b.at)) (apart (λ z. z.at) x b bs h.0 m) ∙ bound_stands bs h.1 b m

pub definitions_are_gathered : DefinitionsAreGathered
definitions_are_gathered defs h = record {
  types = each_among _ defs.types (λ d m. definition_stands defs.types h.types d m);
  parameters = each_among _ defs.parameters (λ b m. bound_stands defs.parameters h.parameters b m);
}
