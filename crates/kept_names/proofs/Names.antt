-- Names that are kept, part by part.
use Rattle.std.proofs.Common.{◌≡◌, ◌⊎◌, inl, inr, Bool, true, false, List, [], ◌∷◌, ◌++◌, Some, None, refl, sym, ap, subst}
use Rattle.std.specs.Prelude.{cond, not, ◌||◌}
use Rattle.std.specs.List.{list_any}
use Rattle.std.specs.Str.{bytes_eq}
use Rattle.std.proofs.lemmas.Slice.Eq.{bytes_eq-Decides}
use Rattle.mo_scopes.specs.Scopes.{named}
use Rattle.subtype_laws.specs.Reached.{Among}
use Rattle.typing_rules.specs.AbstractSyntax.{Bytes}
use Rattle.typing_rules.specs.Contexts.{Bound, Scope}
use Rattle.desugaring.specs.FreeNames.{without}
use Rattle.kept_names.specs.Keeping.{IsBound, Keeps}

-- ---- names that are bound

pub bound_here : (x : Bytes) (b : Bound) (s : Scope) → IsBound ((x, b) ∷ s) x
bound_here x b s = (b, ap (λ t. cond t (Some b) (named s x)) ((bytes_eq-Decides x x).1 refl))

bound_behind : (z : Bytes × Bound) (s : Scope) (y : Bytes) → IsBound s y → IsBound (z ∷ s) y
bound_behind z s y h = by (bytes_eq y z.0) refl where
  by : (t : Bool) → bytes_eq y z.0 ≡ t → IsBound (z ∷ s) y
  by true e = (z.1, ap (λ t. cond t (Some z.1) (named s y)) e)
  by false e = (h.0, subst (λ t. cond t (Some z.1) (named s y) ≡ Some h.0) (sym e) h.1)

pub bound_right : (s t : Scope) (y : Bytes) → IsBound t y → IsBound (s ++ t) y
bound_right [] t y h = h
bound_right (z ∷ s) t y h = bound_behind z (s ++ t) y (bound_right s t y h)

pub bound_left : (s t : Scope) (y : Bytes) → IsBound s y → IsBound (s ++ t) y
bound_left [] t y h = let none : None ≡ Some h.0 = h.1 in cc
bound_left (z ∷ s) t y h = by (bytes_eq y z.0) refl (λ k. bound_left s t y k) where
  by : (b : Bool) → bytes_eq y z.0 ≡ b → (IsBound s y → IsBound (s ++ t) y) → IsBound (z ∷ (s ++ t)) y
  by true e rest = (z.1, ap (λ b. cond b (Some z.1) (named (s ++ t) y)) e)
  by false e rest = bound_behind z (s ++ t) y (rest (h.0, subst (λ b. cond b (Some z.1) (named s y) ≡ Some h.0) e h.1))

pub none_bound : (y : Bytes) → IsBound [] y → ⊥
none_bound y h = let none : None ≡ Some h.0 = h.1 in cc

-- ---- lists of names

pub among_left : (xs ys : List Bytes) (y : Bytes) → Among y xs → Among y (xs ++ ys)
among_left [] ys y m = absurd m
among_left (x ∷ xs) ys y (inl e) = inl e
among_left (x ∷ xs) ys y (inr m) = inr (among_left xs ys y m)

pub among_right : (xs ys : List Bytes) (y : Bytes) → Among y ys → Among y (xs ++ ys)
among_right [] ys y m = m
among_right (x ∷ xs) ys y m = inr (among_right xs ys y m)

pub among_either : (xs ys : List Bytes) (y : Bytes) → Among y (xs ++ ys) → Among y xs ⊎ Among y ys
among_either [] ys y m = inr m
among_either (x ∷ xs) ys y (inl e) = inl (inl e)
among_either (x ∷ xs) ys y (inr m) = further (among_either xs ys y m) where
  further : Among y xs ⊎ Among y ys → Among y (x ∷ xs) ⊎ Among y ys
  further (inl n) = inl (inr n)
  further (inr n) = inr n

clash : (b : Bool) → b ≡ false → b ≡ true → ⊥
clash b h i = cc

pub any_among : (bound : List Bytes) (x : Bytes) → list_any (λ y. bytes_eq x y) bound ≡ true → Among x bound
any_among [] x h = cc
any_among (y ∷ ys) x h = by (bytes_eq x y) refl h (λ g. any_among ys x g) where
  by : (b : Bool) → bytes_eq x y ≡ b → (b || list_any (λ y. bytes_eq x y) ys) ≡ true → (list_any (λ y. bytes_eq x y) ys ≡ true → Among x ys) → Among x (y ∷ ys)
  by true e h rest = inl (sym ((bytes_eq-Decides x y).0 e))
  by false e h rest = inr (rest h)

pub among_any : (bound : List Bytes) (x : Bytes) → Among x bound → list_any (λ y. bytes_eq x y) bound ≡ true
among_any [] x m = absurd m
among_any (y ∷ ys) x (inl e) = ap (λ b. b || list_any (λ z. bytes_eq x z) ys) ((bytes_eq-Decides x y).1 (sym e))
among_any (y ∷ ys) x (inr m) = by (bytes_eq x y) (among_any ys x m) where
  by : (b : Bool) → list_any (λ z. bytes_eq x z) ys ≡ true → (b || list_any (λ z. bytes_eq x z) ys) ≡ true
  by true h = refl
  by false h = h

-- what is left of names without these is one of them, and none of these
pub left_of : (bound used : List Bytes) (y : Bytes) → Among y (without bound used) → Among y used × (Among y bound → ⊥)
left_of bound [] y m = absurd m
left_of bound (x ∷ xs) y m = by (list_any (λ z. bytes_eq x z) bound) refl m (λ n. left_of bound xs y n) where
  more : Among y xs × (Among y bound → ⊥) → Among y (x ∷ xs) × (Among y bound → ⊥)
  more w = (inr w.0, w.1)

  by : (b : Bool) → list_any (λ z. bytes_eq x z) bound ≡ b → Among y (cond (not b) (x ∷ without bound xs) (without bound xs)) → (Among y (without bound xs) → Among y xs × (Among y bound → ⊥))
      → Among y (x ∷ xs) × (Among y bound → ⊥)
  by true h n next = more (next n)
  by false h (inl e) next = (inl e, λ n. clash (list_any (λ z. bytes_eq x z) bound) h (among_any bound x (subst (λ z. Among z bound) (sym e) n)))
  by false h (inr n) next = more (next n)

kept_among : (b : Bool) (x y : Bytes) (ys : List Bytes) → Among x ys → Among x (cond (not b) (y ∷ ys) ys)
kept_among true x y ys m = m
kept_among false x y ys m = inr m

pub stays_of : (bound used : List Bytes) (y : Bytes) → Among y used → (Among y bound → ⊥) → Among y (without bound used)
stays_of bound [] y m n = absurd m
stays_of bound (x ∷ xs) y (inl e) n = by (list_any (λ z. bytes_eq x z) bound) refl where
  by : (b : Bool) → list_any (λ z. bytes_eq x z) bound ≡ b → Among y (without bound (x ∷ xs))
  by true h = absurd (n (subst (λ z. Among z bound) e (any_among bound x h)))
  by false h = subst (λ b. Among y (cond (not b) (x ∷ without bound xs) (without bound xs))) (sym h) (inl e)
stays_of bound (x ∷ xs) y (inr m) n = kept_among (list_any (λ z. bytes_eq x z) bound) y x (without bound xs) (stays_of bound xs y m n)

-- ---- names that are kept

pub same : (s : Scope) (xs : List Bytes) → Keeps s (Unit {0}) xs xs
same s xs = record { plain = tt; fewer = λ y m. m; kept = λ y m b. m }

pub two : (s : Scope) (P Q : Type 0) (xs ys zs ws : List Bytes) → Keeps s P xs ys → Keeps s Q zs ws → Keeps s (P × Q) (xs ++ zs) (ys ++ ws)
two s P Q xs ys zs ws k l = record { plain = (k.plain, l.plain); fewer = λ y m. fewer y (among_either ys ws y m); kept = λ y m b. kept y b (among_either xs zs y m) } where
  fewer : (y : Bytes) → Among y ys ⊎ Among y ws → Among y (xs ++ zs)
  fewer y (inl m) = among_left xs zs y (k.fewer y m)
  fewer y (inr m) = among_right xs zs y (l.fewer y m)

  kept : (y : Bytes) → IsBound s y → Among y xs ⊎ Among y zs → Among y (ys ++ ws)
  kept y b (inl m) = among_left ys ws y (k.kept y m b)
  kept y b (inr m) = among_right ys ws y (l.kept y m b)

-- where more is bound
pub weaker : (s t : Scope) (P : Type 0) (xs ys : List Bytes) → ((y : Bytes) → IsBound s y → IsBound t y) → Keeps t P xs ys → Keeps s P xs ys
weaker s t P xs ys h k = record { plain = k.plain; fewer = k.fewer; kept = λ y m b. k.kept y m (h y b) }

-- in the scope of names
pub hidden : (s t : Scope) (P Q : Type 0) (bound bound_too xs ys : List Bytes) → P → bound_too ≡ bound → ((y : Bytes) → IsBound s y → IsBound t y) → Keeps t Q xs ys
    → Keeps s (P × Q) (without bound xs) (without bound_too ys)
hidden s t P Q bound bound_too xs ys plain e h k = record {
  plain = (plain, k.plain);
  fewer = λ y m. let l = left_of bound_too ys y m in stays_of bound xs y (k.fewer y l.0) (λ n. l.1 (subst (λ z. Among y z) (sym e) n));
  kept = λ y m b. let l = left_of bound xs y m in stays_of bound_too ys y (k.kept y l.0 (h y b)) (λ n. l.1 (subst (λ z. Among y z) e n));
}
