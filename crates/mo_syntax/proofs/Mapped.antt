-- What holds of the parts of a tree, where these are mapped.
use Rattle.std.proofs.Common.{◌≡◌, Bool, true, false, List, [], ◌∷◌, Option, Some, None, refl, ap, map, option_map}
use Rattle.mo_syntax.specs.declared.token.TokenKind.{TokenKind}
use Rattle.mo_syntax.specs.Parts.{Each, Within, EachWithin, Listed, NotEmpty, MayEnd}

pub Each-map : {A B : Type 0} (P : B → Type 0) (f : A → B) (xs : List A) → Each (λ x. P (f x)) xs ≡ Each P (map f xs)
Each-map P f [] = refl
Each-map P f (x ∷ xs) = ap (λ z. P (f x) × z) (Each-map P f xs)

pub Within-map : {A B : Type 0} (P : B → Type 0) (f : A → B) (x : Option A) → Within (λ y. P (f y)) x ≡ Within P (option_map f x)
Within-map P f None = refl
Within-map P f (Some x) = refl

pub EachWithin-map : {A B : Type 0} (P : B → Type 0) (f : A → B) (x : Option (List A)) → EachWithin (λ y. P (f y)) x ≡ EachWithin P (option_map (map f) x)
EachWithin-map P f None = refl
EachWithin-map P f (Some xs) = Each-map P f xs

pub Listed-map : {A B : Type 0} (P : B → TokenKind → Type 0) (f : A → B) (between last : TokenKind) (xs : List A) → Listed (λ x. P (f x)) between last xs ≡ Listed P between last (map f xs)
Listed-map P f between last [] = refl
Listed-map P f between last (x ∷ []) = refl
Listed-map P f between last (x ∷ y ∷ xs) = ap (λ z. P (f x) between × z) (Listed-map P f between last (y ∷ xs))

pub NotEmpty-map : {A B : Type 0} (f : A → B) (xs : List A) → NotEmpty xs ≡ NotEmpty (map f xs)
NotEmpty-map f [] = refl
NotEmpty-map f (x ∷ xs) = refl

pub MayEnd-map : {A B : Type 0} (f : A → B) (xs : List A) (last : Bool) → MayEnd xs last ≡ MayEnd (map f xs) last
MayEnd-map f xs false = refl
MayEnd-map f xs true = NotEmpty-map f xs
