-- What holds of each token of a writing, or of each finding, holds of those of its parts.
use Rattle.std.proofs.Common.{List, [], ◌∷◌, ◌++◌, map}
use Rattle.std.specs.List.{flat_map}
use Rattle.mo_syntax.specs.declared.token.TokenKind.{TokenKind}
use Rattle.mo_syntax.specs.Parts.{Each}
use Rattle.mo_syntax.specs.Writing.{Writing, separated}

module _ {A : Type 0} (P : A → Type 0) where
  pub each_first : (xs ys : List A) → Each P (xs ++ ys) → Each P xs
  each_first [] ys h = tt
  each_first (x ∷ xs) ys h = (h.0, each_first xs ys h.1)

  pub each_last : (xs ys : List A) → Each P (xs ++ ys) → Each P ys
  each_last [] ys h = h
  each_last (x ∷ xs) ys h = each_last xs ys h.1

  -- of what parts give, one after the other
  pub each_flat : {X : Type 0} (f : X → List A) (xs : List X) → Each P (flat_map f xs) → Each (λ x. Each P (f x)) xs
  each_flat f [] h = tt
  each_flat f (x ∷ xs) h = (each_first (f x) (flat_map f xs) h, each_flat f xs (each_last (f x) (flat_map f xs) h))

module _ (P : TokenKind → Type 0) {X : Type 0} (f : X → Writing) (token : TokenKind) where
  behind_token : (xs : List X) → Each P (flat_map (λ y. token ∷ y) (map f xs)) → Each (λ x. Each P (f x)) xs
  behind_token [] h = tt
  behind_token (x ∷ xs) h =
      (each_first P (f x) (flat_map (λ y. token ∷ y) (map f xs)) h.1, behind_token xs (each_last P (f x) (flat_map (λ y. token ∷ y) (map f xs)) h.1))

  -- of parts with separators
  pub each_separated : (xs : List X) → Each P (separated token (map f xs)) → Each (λ x. Each P (f x)) xs
  each_separated [] h = tt
  each_separated (x ∷ xs) h =
      (each_first P (f x) (flat_map (λ y. token ∷ y) (map f xs)) h, behind_token xs (each_last P (f x) (flat_map (λ y. token ∷ y) (map f xs)) h))
