-- Loops that write one thing after another.
use Rattle.std.proofs.Common.{◌≡◌, ℕ, ◌+◌, ◌-◌, ◌<◌, ◌≤◌, List, [], ◌∷◌, ◌++◌, length, get_or, take, drop, map, ap, sym, ◌∙◌, append_assoc, append-nil}
use Rattle.std.specs.List.{flat_map}
use Rattle.std.proofs.lemmas.List.{drop_more, at_drop_all, take_rest}
use Rattle.mo_syntax.specs.declared.token.TokenKind.{TokenKind}
use Rattle.mo_syntax.specs.Writing.{Writing, separated}

-- what follows the first item: each of these behind a token
abbrev pub others : {B : Type 0} → TokenKind → (B → Writing) → List B → Writing
others token f xs = flat_map (λ y. token ∷ y) (map f xs)

-- all but the first, as the code takes them
abbrev pub rest_of : {B : Type 0} → List B → List B
rest_of items = take (length items - 1) (drop 1 items)

-- one turn: the token and the item at i
pub one_more : {B : Type 0} (token : TokenKind) (f : B → Writing) (xs : List B) (i : ℕ) (x : B) (whole old mid new : Writing)
    → i < length xs → x ≡ get_or xs i x → mid ≡ old ++ token ∷ [] → new ≡ mid ++ f x
    → whole ≡ old ++ others token f (drop i xs) → whole ≡ new ++ others token f (drop (i + 1) xs)
one_more token f xs i x whole old mid new h e m n p =
    let rest = others token f (drop (i + 1) xs) in
    p ∙ ap (λ r. old ++ others token f r) (drop_more xs i x h ∙ ap (λ y. y ∷ drop (i + 1) xs) (sym e))
    ∙ sym (ap (λ w. w ++ rest) (n ∙ ap (λ w. w ++ f x) m) ∙ append_assoc (old ++ token ∷ []) (f x) rest ∙ append_assoc old (token ∷ []) (f x ++ rest))

-- the end: the first item and each of the others
pub all_written : {B : Type 0} (token : TokenKind) (f : B → Writing) (items : List B) (x : B) (i : ℕ) (old first new : Writing)
    → 1 ≤ length items → x ≡ get_or items 0 x → length (rest_of items) ≤ i → first ≡ old ++ f x
    → first ++ others token f (rest_of items) ≡ new ++ others token f (drop i (rest_of items)) → new ≡ old ++ separated token (map f items)
all_written token f items x i old first new long e h a p =
    let rest = others token f (rest_of items) in
    let whole = drop_more items 0 x long ∙ ap (λ y. y ∷ drop 1 items) (sym e) ∙ ap (λ xs. x ∷ xs) (sym (take_rest items 1)) in
    sym (ap (λ ys. old ++ separated token (map f ys)) whole ∙ sym (append_assoc old (f x) rest) ∙ ap (λ w. w ++ rest) (sym a) ∙ p
    ∙ ap (λ w. new ++ w) (at_drop_all (others token f) (rest_of items) i h) ∙ append-nil new)
