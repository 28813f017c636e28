-- Patterns see no function: with other functions in the value the same names have the same values, with these functions.
use Rattle.std.proofs.Common.{◌≡◌, Bool, true, false, List, [], ◌∷◌, ◌++◌, Option, Some, None, refl, ap, ap₂, ◌∙◌}
use Rattle.mo_types.specs.Heads.{map_option}
use Rattle.mo_values.specs.Recoding.{recode, recodes}
use Rattle.mo_values.specs.Shapes.{Bytes, Shape}
use Rattle.mo_values.specs.Views.{leaf_of, tuple_of, field_of}
use Rattle.typed_tree.specs.Patterns.{Pat, Pats, Wildcard, Bind, Constant, Present?, Tagged, Parts, Fields, Either, NoPat, APat, Found, all_of, first_of_both, where_true, where_there, is_literal, present_of, tagged_of, matches, matches_all, matches_fields}
use Rattle.typed_tree.proofs.Seen.{leaf_seen, present_seen, tagged_seen, tuple_seen, field_seen}

module _ {F G : Type 0} (code : F → G) where
  abbrev recoded : Found F → Found G
  recoded o = map_option (recodes code) o

  true_same : (b : Bool) → where_true b ≡ recoded (where_true b)
  true_same true = refl
  true_same false = refl

  append_same : (vs ws : List (Shape F)) → recodes code vs ++ recodes code ws ≡ recodes code (vs ++ ws)
  append_same [] ws = refl
  append_same (v ∷ vs) ws = ap (λ us. recode code v ∷ us) (append_same vs ws)

  all_same : (a b : Found F) → all_of (recoded a) (recoded b) ≡ recoded (all_of a b)
  all_same None b = refl
  all_same (Some vs) None = refl
  all_same (Some vs) (Some ws) = ap (λ us. Some us) (append_same vs ws)

  both_same : (a b : Found F) → first_of_both (recoded a) (recoded b) ≡ recoded (first_of_both a b)
  both_same None None = refl
  both_same None (Some ws) = refl
  both_same (Some vs) None = refl
  both_same (Some vs) (Some ws) = refl

  there_same : {V W : Type 0} (c : V → W) (f : V → Found F) (g : W → Found G) → ((v : V) → g (c v) ≡ recoded (f v)) → (o : Option V) → where_there g (map_option c o) ≡ recoded (where_there f o)
  there_same c f g h None = refl
  there_same c f g h (Some v) = h v

  mutual
    pub matches_same : (p : Pat) (v : Shape F) → matches p (recode code v) ≡ recoded (matches p v)
    matches_same Wildcard v = refl
    matches_same Bind v = refl
    matches_same (Constant c) v = ap (λ o. where_true (is_literal c o)) (leaf_seen code v) ∙ true_same (is_literal c (leaf_of v))
    matches_same (Present? p) v =
        ap (λ o. where_there (λ w. matches p w) o) (present_seen code v) ∙ there_same (recode code) (λ w. matches p w) (λ w. matches p w) (λ w. matches_same p w) (present_of v)
    matches_same (Tagged l p) v =
        ap (λ o. where_there (λ w. matches p w) o) (tagged_seen code l v) ∙ there_same (recode code) (λ w. matches p w) (λ w. matches p w) (λ w. matches_same p w) (tagged_of l v)
    matches_same (Parts ps) v =
        ap (λ o. where_there (λ vs. matches_all ps vs) o) (tuple_seen code v)
        ∙ there_same (recodes code) (λ vs. matches_all ps vs) (λ vs. matches_all ps vs) (λ vs. matches_all_same ps vs) (tuple_of v)
    matches_same (Fields ls ps) v = matches_fields_same ls ps v
    matches_same (Either p q) v = ap₂ first_of_both (matches_same p v) (matches_same q v) ∙ both_same (matches p v) (matches q v)

    pub matches_all_same : (ps : Pats) (vs : List (Shape F)) → matches_all ps (recodes code vs) ≡ recoded (matches_all ps vs)
    matches_all_same NoPat [] = refl
    matches_all_same NoPat (v ∷ vs) = refl
    matches_all_same (APat p ps) [] = refl
    matches_all_same (APat p ps) (v ∷ vs) = ap₂ all_of (matches_same p v) (matches_all_same ps vs) ∙ all_same (matches p v) (matches_all ps vs)

    matches_fields_same : (ls : List Bytes) (ps : Pats) (v : Shape F) → matches_fields ls ps (recode code v) ≡ recoded (matches_fields ls ps v)
    matches_fields_same [] NoPat v = refl
    matches_fields_same [] (APat p ps) v = refl
    matches_fields_same (l ∷ ls) NoPat v = refl
    matches_fields_same (l ∷ ls) (APat p ps) v =
        ap₂ all_of
        (ap (λ o. where_there (λ w. matches p w) o) (field_seen code l v) ∙ there_same (recode code) (λ w. matches p w) (λ w. matches p w) (λ w. matches_same p w) (field_of l v))
        (matches_fields_same ls ps v)
        ∙ all_same (where_there (λ w. matches p w) (field_of l v)) (matches_fields ls ps v)
