-- What it costs to try a pattern sees no function.
use Rattle.std.proofs.Common.{◌≡◌, ℕ, ◌+◌, List, [], ◌∷◌, Option, Some, None, length, refl, ap, ap₂, ◌∙◌}
use Rattle.mo_types.specs.declared.datum.Datum.{Datum}
use Rattle.mo_types.specs.declared.datum.Datum.TheVariants as part
use Rattle.mo_types.specs.Heads.{map_option}
use Rattle.mo_values.specs.Recoding.{recode, recode_all, recodes}
use Rattle.mo_values.specs.Shapes.{Bytes, Shape, Shapes, Made, Function, NoShape, AShape, head_bytes, size, size_all}
use Rattle.mo_values.specs.Views.{tuple_of, field_of}
use Rattle.typed_tree.specs.Patterns.{Pat, Pats, Wildcard, Bind, Constant, Present?, Tagged, Parts, Fields, Either, NoPat, APat, pattern_nodes, nodes_of_all, present_of, tagged_of}
use Rattle.typed_tree.specs.PatternWeights.{compared, where_there, pattern_weight, weight_of_all, weight_of_fields}
use Rattle.typed_tree.proofs.Seen.{present_seen, tagged_seen, tuple_seen, field_seen}

module _ {F G : Type 0} (code : F → G) where
  mutual
    size_same : (v : Shape F) → size (recode code v) ≡ size v
    size_same (Made head inside) = ap (λ n. 1 + head_bytes head + n) (size_all_same inside)
    size_same (Function f) = refl

    size_all_same : (vs : Shapes F) → size_all (recode_all code vs) ≡ size_all vs
    size_all_same NoShape = refl
    size_all_same (AShape v vs) = ap₂ (λ m n. m + n) (size_same v) (size_all_same vs)

  compared_same : (c : Datum) (v : Shape F) → compared c (recode code v) ≡ compared c v
  compared_same (part.Text t) v = ap (λ n. 1 + length t + n) (size_same v)
  compared_same (part.Blob t) v = ap (λ n. 1 + length t + n) (size_same v)
  compared_same _ v = refl

  there_same : {V W : Type 0} (c : V → W) (n : ℕ) (f : V → ℕ) (g : W → ℕ) → ((v : V) → g (c v) ≡ f v) → (o : Option V) → where_there g n (map_option c o) ≡ where_there f n o
  there_same c n f g h None = refl
  there_same c n f g h (Some v) = h v

  mutual
    pub weight_same : (p : Pat) (v : Shape F) → pattern_weight p (recode code v) ≡ pattern_weight p v
    weight_same Wildcard v = refl
    weight_same Bind v = refl
    weight_same (Constant c) v = ap (λ n. 1 + n) (compared_same c v)
    weight_same (Present? p) v =
        ap (λ o. 1 + where_there (λ w. pattern_weight p w) (pattern_nodes p) o) (present_seen code v)
        ∙ ap (λ n. 1 + n) (there_same (recode code) (pattern_nodes p) (λ w. pattern_weight p w) (λ w. pattern_weight p w) (λ w. weight_same p w) (present_of v))
    weight_same (Tagged l p) v =
        ap (λ o. 1 + where_there (λ w. pattern_weight p w) (pattern_nodes p) o) (tagged_seen code l v)
        ∙ ap (λ n. 1 + n) (there_same (recode code) (pattern_nodes p) (λ w. pattern_weight p w) (λ w. pattern_weight p w) (λ w. weight_same p w) (tagged_of l v))
    weight_same (Parts ps) v =
        ap (λ o. 1 + where_there (λ vs. weight_of_all ps vs) (nodes_of_all ps) o) (tuple_seen code v)
        ∙ ap (λ n. 1 + n) (there_same (recodes code) (nodes_of_all ps) (λ vs. weight_of_all ps vs) (λ vs. weight_of_all ps vs) (λ vs. all_same ps vs) (tuple_of v))
    weight_same (Fields ls ps) v = ap (λ n. 1 + length ls + n) (fields_same ls ps v)
    weight_same (Either p q) v = ap₂ (λ m n. 1 + m + n) (weight_same p v) (weight_same q v)

    all_same : (ps : Pats) (vs : List (Shape F)) → weight_of_all ps (recodes code vs) ≡ weight_of_all ps vs
    all_same NoPat vs = refl
    all_same (APat p ps) [] = refl
    all_same (APat p ps) (v ∷ vs) = ap₂ (λ m n. m + n) (weight_same p v) (all_same ps vs)

    fields_same : (ls : List Bytes) (ps : Pats) (v : Shape F) → weight_of_fields ls ps (recode code v) ≡ weight_of_fields ls ps v
    fields_same ls NoPat v = refl
    fields_same [] (APat p ps) v = refl
    fields_same (l ∷ ls) (APat p ps) v =
        ap₂ (λ m n. m + n)
        (ap (λ o. where_there (λ w. pattern_weight p w) (pattern_nodes p) o) (field_seen code l v)
        ∙ there_same (recode code) (pattern_nodes p) (λ w. pattern_weight p w) (λ w. pattern_weight p w) (λ w. weight_same p w) (field_of l v))
        (fields_same ls ps v)
