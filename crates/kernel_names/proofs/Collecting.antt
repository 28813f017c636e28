-- Names that are collected from left to right, where some are bound.
use Rattle.std.proofs.Common.{◌≡◌, ℕ, ◌+◌, ◌<◌, ◌≤◌, Bool, true, false, not, ◌||◌, cond, List, [], ◌∷◌, ◌++◌, Result, Ok, Err, OnOk, length, get_or, take, drop, refl, sym, ap, subst, ◌∙◌, append_assoc, append-nil}
use Rattle.std.specs.List.{filter, list_any}
use Rattle.std.specs.Str.{bytes_eq}
use Rattle.std.proofs.lemmas.List.{drop_more, at_drop_all}
use Rattle.std.proofs.lemmas.List.Elements.{filter-append}
use Rattle.std.proofs.lemmas.List.Folds.{list_any-append}
use Rattle.std.proofs.Math.Seq.{take-append_seam}
use Rattle.typing_rules.specs.AbstractSyntax.{Bytes}
use Rattle.typed_tree.specs.Placing.{is_among}
use Rattle.desugaring.specs.FreeNames.{without}
use Rattle.kernel_names.specs.Occurring.{Found, HasSame}

-- ---- a list of parts

module _ {X : Type 0} (collect : List X → List Bytes) where
  pub record Left (xs : List X) (a : List Bytes) (rest : List X) (c : List Bytes) : Type 0 where
    pub is : c ++ collect rest ≡ a ++ collect xs

  pub all_left : (xs : List X) (a : List Bytes) → Left xs a xs a
  all_left xs a = record { is = refl }

  -- one turn
  pub one_less : (xs : List X) (a : List Bytes) (i : ℕ) (x : X) (b c n : List Bytes) → i < length xs → x ≡ get_or xs i x → c ≡ b ++ n → collect (x ∷ drop (i + 1) xs) ≡ n ++ collect (drop (i + 1) xs)
      → Left xs a (drop i xs) b → Left xs a (drop (i + 1) xs) c
  one_less xs a i x b c n h e k m l =
      let d : drop i xs ≡ x ∷ drop (i + 1) xs = drop_more xs i x h ∙ ap (λ z. z ∷ drop (i + 1) xs) (sym e) in
      record {
        is = ap (λ z. z ++ collect (drop (i + 1) xs)) k ∙ append_assoc b n (collect (drop (i + 1) xs)) ∙ ap (λ z. b ++ z) (sym m) ∙ ap (λ ys. b ++ collect ys) (sym d) ∙ l.is;
      }

  pub none_left : (xs : List X) (a : List Bytes) (i : ℕ) (c : List Bytes) → length xs ≤ i → collect [] ≡ [] → Left xs a (drop i xs) c → c ≡ a ++ collect xs
  none_left xs a i c h z l =
      let q : collect (drop i xs) ≡ collect [] = at_drop_all collect xs i h in
      sym (append-nil c) ∙ ap (λ w. c ++ w) (sym (q ∙ z)) ∙ l.is

on_ok : {A E : Type 0} (r : Result A E) (P Q : Type 0) → OnOk r P → (P → Q) → OnOk r Q
on_ok (Ok a) P Q h k = k h
on_ok (Err e) P Q h k = tt

pub none_more : (whole a : List Bytes) → whole ≡ [] → a ≡ a ++ whole
none_more whole a e = sym (ap (λ z. a ++ z) e ∙ append-nil a)

pub same_more : {A E : Type 0} (r : Result A E) (whole n a c : List Bytes) → OnOk r (c ≡ a ++ n) → whole ≡ n → OnOk r (c ≡ a ++ whole)
same_more r whole n a c h e = on_ok r (c ≡ a ++ n) (c ≡ a ++ whole) h (λ k. k ∙ ap (λ z. a ++ z) (sym e))

-- ---- names that are bound

without_both : (f g : Bool) (x : Bytes) (rest : List Bytes) (p : Bytes → Bool) → p x ≡ not f → cond (not (f || g)) (x ∷ filter p rest) (filter p rest) ≡ filter p (cond (not g) (x ∷ rest) rest)
without_both true true x rest p h = refl
without_both false true x rest p h = refl
without_both true false x rest p h = ap (λ (b : Bool). cond b (x ∷ filter p rest) (filter p rest)) (sym h)
without_both false false x rest p h = ap (λ (b : Bool). cond b (x ∷ filter p rest) (filter p rest)) (sym h)

pub without_more : (bound more xs : List Bytes) → without (bound ++ more) xs ≡ without bound (without more xs)
without_more bound more [] = refl
without_more bound more (x ∷ xs) =
    ap (λ (b : Bool). cond (not b) (x ∷ without (bound ++ more) xs) (without (bound ++ more) xs)) (list_any-append (λ y. bytes_eq x y) bound more)
    ∙ ap (λ (r : List Bytes). cond (not (list_any (λ y. bytes_eq x y) bound || list_any (λ y. bytes_eq x y) more)) (x ∷ r) r) (without_more bound more xs)
    ∙ without_both (list_any (λ y. bytes_eq x y) bound) (list_any (λ y. bytes_eq x y) more) x (without more xs) (λ z. not (list_any (λ y. bytes_eq z y) bound)) refl

pub without_none : (xs : List Bytes) → without [] xs ≡ xs
without_none [] = refl
without_none (x ∷ xs) = ap (λ r. x ∷ r) (without_none xs)

-- a name that is bound, and one that is not
pub is_bound : (bound : List Bytes) (x : Bytes) (a : List Bytes) → list_any (λ y. bytes_eq x y) bound ≡ true → a ≡ a ++ without bound (x ∷ [])
is_bound bound x a h = none_more (without bound (x ∷ [])) a (ap (λ (b : Bool). cond (not b) (x ∷ []) []) h)

pub is_free : (bound : List Bytes) (x : Bytes) → list_any (λ y. bytes_eq x y) bound ≡ false → without bound (x ∷ []) ≡ x ∷ []
is_free bound x h = ap (λ (b : Bool). cond (not b) (x ∷ []) []) h

-- ---- what was found

pub found_none : (whole bound a : List Bytes) → whole ≡ [] → Found whole bound a bound a
found_none whole bound a e = record { bound = refl; names = none_more (without bound whole) a (ap (λ z. without bound z) e) }

pub found_then : (xs ys b a b1 c b2 d : List Bytes) → Found xs b a b1 c → Found ys b1 c b2 d → Found (xs ++ ys) b a b2 d
found_then xs ys b a b1 c b2 d h k = record {
  bound = k.bound ∙ h.bound;
  names = k.names ∙ ap (λ z. c ++ without z ys) h.bound ∙ ap (λ z. z ++ without b ys) h.names ∙ append_assoc a (without b xs) (without b ys)
      ∙ ap (λ z. a ++ z) (sym (filter-append (λ x. not (list_any (λ y. bytes_eq x y) b)) xs ys));
}

pub found_so : (whole xs b a b1 c : List Bytes) → Found xs b a b1 c → whole ≡ xs → Found whole b a b1 c
found_so whole xs b a b1 c h e = subst (λ (z : List Bytes). Found z b a b1 c) (sym e) h

-- where more names are bound
pub found_within : (more xs b a b1 b2 c b3 : List Bytes) (n : ℕ) → n ≡ length b → b1 ≡ b ++ more → Found xs b1 a b2 c → b3 ≡ take n b2 → Found (without more xs) b a b3 c
found_within more xs b a b1 b2 c b3 n l e h k = record {
  bound = k ∙ ap (λ (z : ℕ). take z b2) l ∙ ap (λ z. take (length b) z) (h.bound ∙ e) ∙ take-append_seam b more;
  names = h.names ∙ ap (λ z. a ++ without z xs) e ∙ ap (λ z. a ++ z) (without_more b more xs);
}

module _ {A E : Type 0} (r : Result A E) where
  pub same_found : (whole xs b a b1 c : List Bytes) → OnOk r (Found xs b a b1 c) → whole ≡ xs → OnOk r (Found whole b a b1 c)
  same_found whole xs b a b1 c h e = on_ok r (Found xs b a b1 c) (Found whole b a b1 c) h (λ k. found_so whole xs b a b1 c k e)

  pub two_found : (whole xs ys b a b1 c b2 d : List Bytes) → Found xs b a b1 c → OnOk r (Found ys b1 c b2 d) → whole ≡ xs ++ ys → OnOk r (Found whole b a b2 d)
  two_found whole xs ys b a b1 c b2 d h k e = on_ok r (Found ys b1 c b2 d) (Found whole b a b2 d) k (λ l. found_so whole (xs ++ ys) b a b2 d (found_then xs ys b a b1 c b2 d h l) e)

  pub three_found : (whole xs ys zs b a b1 c b2 d b3 g : List Bytes) → Found xs b a b1 c → Found ys b1 c b2 d → OnOk r (Found zs b2 d b3 g) → whole ≡ (xs ++ ys) ++ zs → OnOk r (Found whole b a b3 g)
  three_found whole xs ys zs b a b1 c b2 d b3 g h k l e =
      on_ok r (Found zs b2 d b3 g) (Found whole b a b3 g) l (λ m. found_so whole ((xs ++ ys) ++ zs) b a b3 g (found_then (xs ++ ys) zs b a b2 d b3 g (found_then xs ys b a b1 c b2 d h k) m) e)

  -- a name
  pub name_found : (whole b a c : List Bytes) (x : Bytes) → OnOk r (c ≡ a ++ without b (x ∷ [])) → whole ≡ x ∷ [] → OnOk r (Found whole b a b c)
  name_found whole b a c x h e = on_ok r (c ≡ a ++ without b (x ∷ [])) (Found whole b a b c) h (λ k. found_so whole (x ∷ []) b a b c (record { bound = refl; names = k }) e)

-- a list of parts
module _ {X : Type 0} (collect : List X → List Bytes) where
  pub record LeftIn (xs : List X) (b a : List Bytes) (rest : List X) (b1 c : List Bytes) : Type 0 where
    pub bound : b1 ≡ b
    pub names : Left (λ (ys : List X). without b (collect ys)) xs a rest c

  pub all_left_in : (xs : List X) (b a : List Bytes) → LeftIn xs b a xs b a
  all_left_in xs b a = record { bound = refl; names = all_left (λ (ys : List X). without b (collect ys)) xs a }

  pub one_less_in : (xs : List X) (b a : List Bytes) (i : ℕ) (x : X) (b1 c b2 d n : List Bytes) → i < length xs → x ≡ get_or xs i x → Found n b1 c b2 d → collect (x ∷ drop (i + 1) xs) ≡ n ++ collect (drop (i + 1) xs)
      → LeftIn xs b a (drop i xs) b1 c → LeftIn xs b a (drop (i + 1) xs) b2 d
  one_less_in xs b a i x b1 c b2 d n h e k m l = record {
    bound = k.bound ∙ l.bound;
    names = one_less (λ (ys : List X). without b (collect ys)) xs a i x c d (without b n) h e (k.names ∙ ap (λ z. c ++ without z n) l.bound)
        (ap (λ z. without b z) m ∙ filter-append (λ z. not (list_any (λ y. bytes_eq z y) b)) n (collect (drop (i + 1) xs))) l.names;
  }

  pub none_left_in : (xs : List X) (b a : List Bytes) (i : ℕ) (b1 c : List Bytes) → length xs ≤ i → collect [] ≡ [] → LeftIn xs b a (drop i xs) b1 c → Found (collect xs) b a b1 c
  none_left_in xs b a i b1 c h z l = record {
    bound = l.bound;
    names = none_left (λ (ys : List X). without b (collect ys)) xs a i c h (ap (λ z. without b z) z) l.names;
  }

-- of a declaration alone
pub found_alone : (xs b a b1 c : List Bytes) → b ≡ [] → a ≡ [] → Found xs b a b1 c → HasSame c xs
found_alone xs b a b1 c e k h = λ (x : Bytes). ap (λ z. is_among x z) (h.names ∙ ap (λ z. z ++ without b xs) k ∙ ap (λ z. without z xs) e ∙ without_none xs)
