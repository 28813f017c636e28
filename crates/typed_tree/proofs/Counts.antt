-- A pattern that matches gives a value for each of its names.
use Rattle.std.proofs.Common.{◌≡◌, ℕ, ◌+◌, Bool, true, false, List, [], ◌∷◌, Option, Some, None, length, length-append, refl, ap₂, ◌∙◌, subst}
use Rattle.mo_values.specs.Shapes.{Bytes, Shape}
use Rattle.mo_values.specs.Views.{leaf_of, tuple_of, field_of}
use Rattle.typed_tree.specs.Patterns.{Pat, Pats, Wildcard, Bind, Constant, Present?, Tagged, Parts, Fields, Either, NoPat, APat, names, names_all, Found, all_of, first_of_both, where_true, where_there, is_literal, present_of, tagged_of, matches, matches_all, matches_fields}

abbrev Counted : {F : Type 0} → ℕ → Found F → Type 0
Counted n None = Unit {0}
Counted n (Some vs) = length vs ≡ n

true_counted : (F : Type 0) (b : Bool) → Counted {F = F} 0 (where_true b)
true_counted F true = refl
true_counted F false = tt

module _ {F : Type 0} where
  all_counted : (m n : ℕ) (a b : Found F) → Counted m a → Counted n b → Counted (m + n) (all_of a b)
  all_counted m n None b h i = tt
  all_counted m n (Some vs) None h i = tt
  all_counted m n (Some vs) (Some ws) h i = length-append vs ws ∙ ap₂ (λ x y. x + y) h i

  there_counted : {V : Type 0} (n : ℕ) (f : V → Found F) → ((v : V) → Counted n (f v)) → (o : Option V) → Counted n (where_there f o)
  there_counted n f h None = tt
  there_counted n f h (Some v) = h v

  both_counted : (a b : Found F) → Counted 0 (first_of_both a b)
  both_counted None None = tt
  both_counted None (Some ws) = refl
  both_counted (Some vs) b = refl

  mutual
    counted : (p : Pat) (v : Shape F) → Counted (names p) (matches p v)
    counted Wildcard v = refl
    counted Bind v = refl
    counted (Constant c) v = true_counted F (is_literal c (leaf_of v))
    counted (Present? p) v = there_counted (names p) (λ w. matches p w) (λ w. counted p w) (present_of v)
    counted (Tagged l p) v = there_counted (names p) (λ w. matches p w) (λ w. counted p w) (tagged_of l v)
    counted (Parts ps) v = there_counted (names_all ps) (λ vs. matches_all ps vs) (λ vs. all_of_them ps vs) (tuple_of v)
    counted (Fields ls ps) v = fields_counted ls ps v
    counted (Either p q) v = both_counted (matches p v) (matches q v)

    all_of_them : (ps : Pats) (vs : List (Shape F)) → Counted (names_all ps) (matches_all ps vs)
    all_of_them NoPat [] = refl
    all_of_them NoPat (v ∷ vs) = tt
    all_of_them (APat p ps) [] = tt
    all_of_them (APat p ps) (v ∷ vs) = all_counted (names p) (names_all ps) (matches p v) (matches_all ps vs) (counted p v) (all_of_them ps vs)

    fields_counted : (ls : List Bytes) (ps : Pats) (v : Shape F) → Counted (names_all ps) (matches_fields ls ps v)
    fields_counted [] NoPat v = refl
    fields_counted [] (APat p ps) v = tt
    fields_counted (l ∷ ls) NoPat v = tt
    fields_counted (l ∷ ls) (APat p ps) v =
        all_counted (names p) (names_all ps) (where_there (λ w. matches p w) (field_of l v)) (matches_fields ls ps v)
        (there_counted (names p) (λ w. matches p w) (λ w. counted p w) (field_of l v)) (fields_counted ls ps v)

  pub as_many_as_names : (p : Pat) (v : Shape F) (vs : List (Shape F)) → matches p v ≡ Some vs → length vs ≡ names p
  as_many_as_names p v vs e = subst (Counted (names p)) e (counted p v)

  pub as_many_as_all_names : (ps : Pats) (us vs : List (Shape F)) → matches_all ps us ≡ Some vs → length vs ≡ names_all ps
  as_many_as_all_names ps us vs e = subst (Counted (names_all ps)) e (all_of_them ps us)
