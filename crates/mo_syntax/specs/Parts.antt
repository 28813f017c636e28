-- What holds of the parts of a tree.
use Rattle.std.specs.Prelude.{Bool, true, false, List, [], ◌∷◌, Option, Some, None}
use Rattle.mo_syntax.specs.declared.token.TokenKind.{TokenKind}

-- of each item
abbrev pub Each : {A : Type 0} → (A → Type 0) → List A → Type 0
Each P [] = Unit {0}
Each P (x ∷ xs) = P x × Each P xs

-- of what is there
abbrev pub Within : {A : Type 0} → (A → Type 0) → Option A → Type 0
Within P None = Unit {0}
Within P (Some x) = P x

-- of each item that is there
abbrev pub EachWithin : {A : Type 0} → (A → Type 0) → Option (List A) → Type 0
EachWithin P None = Unit {0}
EachWithin P (Some xs) = Each P xs

-- of each item before the separator that follows it, and of the last before the token behind the list
abbrev pub Listed : {A : Type 0} → (A → TokenKind → Type 0) → TokenKind → TokenKind → List A → Type 0
Listed P between last [] = Unit {0}
Listed P between last (x ∷ []) = P x last
Listed P between last (x ∷ y ∷ xs) = P x between × Listed P between last (y ∷ xs)

abbrev pub NotEmpty : {A : Type 0} → List A → Type 0
NotEmpty [] = ⊥
NotEmpty (x ∷ xs) = Unit {0}

-- A separator ends a list only where there is an item.
abbrev pub MayEnd : {A : Type 0} → List A → Bool → Type 0
MayEnd xs false = Unit {0}
MayEnd xs true = NotEmpty xs
