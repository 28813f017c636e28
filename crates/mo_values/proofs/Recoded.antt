-- To recode twice is to recode once.
use Rattle.std.proofs.Common.{◌≡◌, refl, ap, ◌∙◌}
use Rattle.mo_values.specs.Recoding.{recode, recode_all}
use Rattle.mo_values.specs.Shapes.{Shape, Shapes, Made, Function, NoShape, AShape}

module _ {F : Type 0} where
  mutual
    pub kept : (v : Shape F) → recode (λ f. f) v ≡ v
    kept (Made head inside) = ap (λ vs. Made head vs) (all_kept inside)
    kept (Function f) = refl

    all_kept : (vs : Shapes F) → recode_all (λ f. f) vs ≡ vs
    all_kept NoShape = refl
    all_kept (AShape v vs) = ap (λ w. AShape w (recode_all (λ f. f) vs)) (kept v) ∙ ap (λ ws. AShape v ws) (all_kept vs)

module _ {F G H : Type 0} (first : F → G) (second : G → H) where
  mutual
    pub twice : (v : Shape F) → recode second (recode first v) ≡ recode (λ f. second (first f)) v
    twice (Made head inside) = ap (λ vs. Made head vs) (all_twice inside)
    twice (Function f) = refl

    all_twice : (vs : Shapes F) → recode_all second (recode_all first vs) ≡ recode_all (λ f. second (first f)) vs
    all_twice NoShape = refl
    all_twice (AShape v vs) =
        ap (λ w. AShape w (recode_all second (recode_all first vs))) (twice v) ∙ ap (λ ws. AShape (recode (λ f. second (first f)) v) ws) (all_twice vs)
