-- Lists whose nearest item is the last.
use Rattle.std.proofs.Common.{◌≡◌, ◌∙◌, ℕ, List, [], ◌∷◌, ◌++◌, length, map, reverse, take, refl, sym, ap}
use Rattle.std.proofs.lemmas.List.{reverse-append, reverse-reverse, length-reverse, take_at}
use Rattle.elaboration.specs.Scopes as scopes
use Rattle.elaboration.specs.Scopes.{Scope}

pub one_more : {A : Type 0} (xs : List A) (x : A) → reverse (xs ++ x ∷ []) ≡ x ∷ reverse xs
one_more xs x = reverse-append xs (x ∷ [])

pub cut : {A : Type 0} (xs more before : List A) (n : ℕ) → reverse xs ≡ more ++ before → n ≡ length before → reverse (take n xs) ≡ before
cut xs more before n h e =
    let whole : xs ≡ reverse before ++ reverse more = sym (reverse-reverse xs) ∙ (ap reverse h ∙ reverse-append more before) in
    ap (λ ys. reverse (take n ys)) whole ∙ (ap reverse (take_at (reverse before) (reverse more) n (length-reverse before ∙ sym e)) ∙ reverse-reverse before)

-- a list that is seen as two behind each other is two lists
pub split_map : {A B : Type 0} (f : A → B) (xs : List A) (a b : List B) → map f xs ≡ a ++ b → (x : List A) × (y : List A) × (xs ≡ x ++ y) × (map f y ≡ b)
split_map f xs [] b e = ([], xs, refl, e)
split_map f [] (c ∷ a) b e = absurd (let z : [] ≡ c ∷ (a ++ b) = e in cc)
split_map f (x ∷ xs) (c ∷ a) b e =
    let z : f x ∷ map f xs ≡ c ∷ (a ++ b) = e in
    let rest : map f xs ≡ a ++ b = cc in
    let r = split_map f xs a b rest in
    (x ∷ r.0, r.1, ap (λ l. x ∷ l) r.2, r.3)

pub same_scope : (s : Scope) (places : List scopes.Place) (names : ℕ) (exits : List ℕ) (labels : ℕ) → places ≡ s.places → names ≡ s.names → exits ≡ s.exits → labels ≡ s.labels
    → record { places = places; names = names; exits = exits; labels = labels } ≡ s
same_scope s places names exits labels p n e l =
    ap (λ x. record { places = x; names = names; exits = exits; labels = labels }) p
    ∙ (ap (λ x. record { places = s.places; names = x; exits = exits; labels = labels }) n
    ∙ (ap (λ x. record { places = s.places; names = s.names; exits = x; labels = labels }) e
    ∙ ap (λ x. record { places = s.places; names = s.names; exits = s.exits; labels = x }) l))
