-- One column, cut at a place.
use Rattle.std.proofs.Common.{◌≡◌, ℕ, zero, suc, List, [], ◌∷◌, Bool, true, false, Some, None, refl, sym, ap, ◌∙◌}
use Rattle.std.specs.Prelude.{slice_get, slice_set}
use Rattle.pattern_coverage.specs.Cutting.{Piece}
use Rattle.pattern_coverage.specs.Known.{Known, Unknown}
use Rattle.mo_coverage.specs.Columns.{column, spread, cut_place, cut_one}
use Rattle.mo_coverage.proofs.Lists.{spread_set}

nothing_set : (ks : List Known) (i : ℕ) (j : Known) → slice_get ks i ≡ None → slice_set ks i j ≡ ks
nothing_set [] i j e = refl
nothing_set (k ∷ ks) zero j e = cc
nothing_set (k ∷ ks) (suc i) j e = ap (λ z. k ∷ z) (nothing_set ks i j e)

pub at_some : (f : Known → List Piece) (strict : Bool) (i : ℕ) (ks left : List Known) (k : Known) (cs : List Piece) → Some k ≡ slice_get ks i → left ≡ slice_set ks i Unknown → cs ≡ f k → spread i left cs ≡ cut_one f strict i (column true ks)
at_some f strict i ks left k cs g l e =
    ap (λ z. spread i z cs) l ∙ spread_set i ks Unknown cs ∙ ap (λ z. spread i ks z) e ∙ ap (λ o. cut_place f strict i ks o) g

pub at_none : (f : Known → List Piece) (i : ℕ) (ks left : List Known) (cs : List Piece) → None ≡ slice_get ks i → left ≡ slice_set ks i Unknown → cs ≡ f Unknown → spread i left cs ≡ cut_one f false i (column true ks)
at_none f i ks left cs g l e =
    ap (λ z. spread i z cs) l ∙ spread_set i ks Unknown cs ∙ ap (λ z. spread i ks z) e ∙ ap (λ o. cut_place f false i ks o) g

pub at_none_strict : (f : Known → List Piece) (i : ℕ) (ks left : List Known) → None ≡ slice_get ks i → left ≡ slice_set ks i Unknown → column false left ∷ [] ≡ cut_one f true i (column true ks)
at_none_strict f i ks left g l =
    ap (λ z. column false z ∷ []) (l ∙ nothing_set ks i Unknown (sym g)) ∙ ap (λ o. cut_place f true i ks o) g
