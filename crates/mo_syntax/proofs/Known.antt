-- Trees with what is known of them.
use Rattle.std.proofs.Common.{List, [], ◌∷◌, map}
use Rattle.mo_syntax.specs.Parts.{Each}

abbrev pub Known : {A : Type 0} → (A → Type 0) → Type 0
Known {A} P = (x : A) × P x

pub each_known : {A : Type 0} (P : A → Type 0) (xs : List (Known P)) → Each P (map (λ x. x.0) xs)
each_known P [] = tt
each_known P (x ∷ xs) = (x.1, each_known P xs)
