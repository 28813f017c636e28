-- A pattern that matches gives a value for each name that it has in Core, and it weighs as much as it has names.
use Rattle.std.proofs.Common.{◌≡◌, ℕ, ◌+◌, ◌≤◌, Bool, true, false, List, [], ◌∷◌, Option, Some, None, length, length-append, refl, ap₂, ◌∙◌, subst, arith}
use Rattle.mo_values.specs.Shapes.{Bytes, Shape}
use Rattle.mo_values.specs.Views.{leaf_of, tuple_of, field_of}
use Rattle.typed_tree.specs.Patterns.{Pat, Pats, Wildcard, Bind, Constant, Present?, Tagged, Parts, Fields, Either, NoPat, APat, pattern_nodes, nodes_of_all, Found, all_of, first_of_both, where_true, where_there, is_literal, present_of, tagged_of, matches, matches_all, matches_fields}
use Rattle.typed_tree.specs.PatternWeights.{pattern_weight, weight_of_all, weight_of_fields}
use Rattle.typed_tree.specs.PatternWeights as weights
use Rattle.elaboration_starts.specs.Declarations.{bound_in, bound_in_all, bound_in_fields}

abbrev Counted : {F : Type 0} → ℕ → Found F → Type 0
Counted n None = Unit {0}
Counted n (Some vs) = length vs ≡ n

true_counted : (F : Type 0) (b : Bool) → Counted {F = F} 0 (where_true b)
true_counted F true = refl
true_counted F false = tt

module _ {F : Type 0} where
  all_counted : (m n : ℕ) (a b : Found F) → Counted m a → Counted n b → Counted (m + n) (all_of a b)
  all_counted m n None b h i = tt
  all_counted m n (Some vs) None h i = tt
  all_counted m n (Some vs) (Some ws) h i = length-append vs ws ∙ ap₂ (λ x y. x + y) h i

  there_counted : {V : Type 0} (n : ℕ) (f : V → Found F) → ((v : V) → Counted n (f v)) → (o : Option V) → Counted n (where_there f o)
  there_counted n f h None = tt
  there_counted n f h (Some v) = h v

  both_counted : (a b : Found F) → Counted 0 (first_of_both a b)
  both_counted None None = tt
  both_counted None (Some ws) = refl
  both_counted (Some vs) b = refl

  mutual
    counted : (p : Pat) (v : Shape F) → Counted (bound_in p) (matches p v)
    counted Wildcard v = refl
    counted Bind v = refl
    counted (Constant c) v = true_counted F (is_literal c (leaf_of v))
    counted (Present? p) v = there_counted (bound_in p) (λ w. matches p w) (λ w. counted p w) (present_of v)
    counted (Tagged l p) v = there_counted (bound_in p) (λ w. matches p w) (λ w. counted p w) (tagged_of l v)
    counted (Parts ps) v = there_counted (bound_in_all ps) (λ vs. matches_all ps vs) (λ vs. all_of_them ps vs) (tuple_of v)
    counted (Fields ls ps) v = fields_counted ls ps v
    counted (Either p q) v = both_counted (matches p v) (matches q v)

    all_of_them : (ps : Pats) (vs : List (Shape F)) → Counted (bound_in_all ps) (matches_all ps vs)
    all_of_them NoPat [] = refl
    all_of_them NoPat (v ∷ vs) = tt
    all_of_them (APat p ps) [] = tt
    all_of_them (APat p ps) (v ∷ vs) = all_counted (bound_in p) (bound_in_all ps) (matches p v) (matches_all ps vs) (counted p v) (all_of_them ps vs)

    fields_counted : (ls : List Bytes) (ps : Pats) (v : Shape F) → Counted (bound_in_fields ls ps) (matches_fields ls ps v)
    fields_counted [] NoPat v = refl
    fields_counted [] (APat p ps) v = tt
    fields_counted (l ∷ ls) NoPat v = tt
    fields_counted (l ∷ ls) (APat p ps) v =
        all_counted (bound_in p) (bound_in_fields ls ps) (where_there (λ w. matches p w) (field_of l v)) (matches_fields ls ps v)
        (there_counted (bound_in p) (λ w. matches p w) (λ w. counted p w) (field_of l v)) (fields_counted ls ps v)

  pub as_many_as_bound : (p : Pat) (v : Shape F) (vs : List (Shape F)) → matches p v ≡ Some vs → length vs ≡ bound_in p
  as_many_as_bound p v vs e = subst (Counted (bound_in p)) e (counted p v)

-- ---- weights

mutual
  bound_nodes : (p : Pat) → bound_in p ≤ pattern_nodes p
  bound_nodes Wildcard = omega arith
  bound_nodes Bind = omega arith
  bound_nodes (Constant c) = omega arith
  bound_nodes (Present? p) = let z : bound_in p ≤ pattern_nodes p = bound_nodes p in omega (arith, z)
  bound_nodes (Tagged l p) = let z : bound_in p ≤ pattern_nodes p = bound_nodes p in omega (arith, z)
  bound_nodes (Parts ps) = let z : bound_in_all ps ≤ nodes_of_all ps = all_nodes ps in omega (arith, z)
  bound_nodes (Fields ls ps) = let z : bound_in_fields ls ps ≤ nodes_of_all ps = field_nodes ls ps in omega (arith, z)
  bound_nodes (Either p q) = omega arith

  all_nodes : (ps : Pats) → bound_in_all ps ≤ nodes_of_all ps
  all_nodes NoPat = omega arith
  all_nodes (APat p ps) = let z : bound_in p ≤ pattern_nodes p = bound_nodes p in let y : bound_in_all ps ≤ nodes_of_all ps = all_nodes ps in omega (arith, z, y)

  field_nodes : (ls : List Bytes) (ps : Pats) → bound_in_fields ls ps ≤ nodes_of_all ps
  field_nodes ls NoPat = omega arith
  field_nodes [] (APat p ps) = omega arith
  field_nodes (l ∷ ls) (APat p ps) = let z : bound_in p ≤ pattern_nodes p = bound_nodes p in let y : bound_in_fields ls ps ≤ nodes_of_all ps = field_nodes ls ps in omega (arith, z, y)

there_weighs : {V : Type 0} (n m : ℕ) (f : V → ℕ) → n ≤ m → ((v : V) → n ≤ f v) → (o : Option V) → n ≤ weights.where_there f m o
there_weighs n m f h i None = h
there_weighs n m f h i (Some v) = i v

module _ {F : Type 0} where
  mutual
    pub bound_weighs : (p : Pat) (v : Shape F) → bound_in p ≤ pattern_weight p v
    bound_weighs Wildcard v = omega arith
    bound_weighs Bind v = omega arith
    bound_weighs (Constant c) v = omega arith
    bound_weighs (Present? p) v = let z : bound_in p ≤ weights.where_there (λ w. pattern_weight p w) (pattern_nodes p) (present_of v) = there_weighs (bound_in p) (pattern_nodes p) (λ w. pattern_weight p w) (bound_nodes p) (λ w. bound_weighs p w) (present_of v) in omega (arith, z)
    bound_weighs (Tagged l p) v = let z : bound_in p ≤ weights.where_there (λ w. pattern_weight p w) (pattern_nodes p) (tagged_of l v) = there_weighs (bound_in p) (pattern_nodes p) (λ w. pattern_weight p w) (bound_nodes p) (λ w. bound_weighs p w) (tagged_of l v) in omega (arith, z)
    bound_weighs (Parts ps) v = let z : bound_in_all ps ≤ weights.where_there (λ vs. weight_of_all ps vs) (nodes_of_all ps) (tuple_of v) = there_weighs (bound_in_all ps) (nodes_of_all ps) (λ vs. weight_of_all ps vs) (all_nodes ps) (λ vs. all_weigh ps vs) (tuple_of v) in omega (arith, z)
    bound_weighs (Fields ls ps) v = let z : bound_in_fields ls ps ≤ weight_of_fields ls ps v = fields_weigh ls ps v in omega (arith, z)
    bound_weighs (Either p q) v = omega arith

    all_weigh : (ps : Pats) (vs : List (Shape F)) → bound_in_all ps ≤ weight_of_all ps vs
    all_weigh NoPat vs = omega arith
    all_weigh (APat p ps) [] = let z : bound_in p ≤ pattern_nodes p = bound_nodes p in let y : bound_in_all ps ≤ nodes_of_all ps = all_nodes ps in omega (arith, z, y)
    all_weigh (APat p ps) (v ∷ vs) = let z : bound_in p ≤ pattern_weight p v = bound_weighs p v in let y : bound_in_all ps ≤ weight_of_all ps vs = all_weigh ps vs in omega (arith, z, y)

    fields_weigh : (ls : List Bytes) (ps : Pats) (v : Shape F) → bound_in_fields ls ps ≤ weight_of_fields ls ps v
    fields_weigh ls NoPat v = omega arith
    fields_weigh [] (APat p ps) v = omega arith
    fields_weigh (l ∷ ls) (APat p ps) v =
        let z : bound_in p ≤ weights.where_there (λ w. pattern_weight p w) (pattern_nodes p) (field_of l v) = there_weighs (bound_in p) (pattern_nodes p) (λ w. pattern_weight p w) (bound_nodes p) (λ w. bound_weighs p w) (field_of l v) in
        let y : bound_in_fields ls ps ≤ weight_of_fields ls ps v = fields_weigh ls ps v in
        omega (arith, z, y)
