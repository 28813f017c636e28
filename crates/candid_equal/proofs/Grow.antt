-- Lists of pairs as they grow.
use Rattle.std.proofs.Common.{◌≡◌, ℕ, zero, suc, ◌+◌, ◌<◌, ◌≢◌, Bool, true, false, List, [], ◌∷◌, ◌++◌, length, Option, Some, None, refl, sym, ap, ◌∙◌, subst, arith, append_assoc, drop, get_or, drop-cons, add-one}
use Rattle.candid_equal.specs.declared.pair.Pair.{Pair}
use Rattle.candid_equal.specs.Asks.{join, each_asks, Adds}

drop_more : {X : Type 0} (xs : List X) (i : ℕ) (d : X) → i < length xs → drop i xs ≡ get_or xs i d ∷ drop (i + 1) xs
drop_more xs i d h = drop-cons xs i d h ∙ ap (λ (j : ℕ). get_or xs i d ∷ drop j xs) (sym (add-one i))

drop_past : {X : Type 0} (xs : List X) (i : ℕ) → length xs ≡ i → drop i xs ≡ []
drop_past [] zero h = refl
drop_past [] (suc i) h = refl
drop_past (x ∷ xs) zero h = absurd (omega arith)
drop_past (x ∷ xs) (suc i) h = let e : length xs ≡ i = omega arith in drop_past xs i e

-- of all pairs those that are left, and the others stand at the end of the list
pub record Sofar (all rest : Option (List Pair)) (old now : List Pair) : Type 0 where
  pub said : List Pair
  pub is : now ≡ old ++ said
  pub left : all ≡ join (Some said) rest

append_nil : (xs : List Pair) → xs ++ [] ≡ xs
append_nil [] = refl
append_nil (x ∷ xs) = ap (λ l. x ∷ l) (append_nil xs)

join_nil : (o : Option (List Pair)) → o ≡ join (Some []) o
join_nil None = refl
join_nil (Some qs) = refl

pub sofar_start : (o : Option (List Pair)) (now : List Pair) → Sofar o o now now
sofar_start o now = record { said = []; is = sym (append_nil now); left = join_nil o }

join_more : (a b : List Pair) (o : Option (List Pair)) → join (Some a) (join (Some b) o) ≡ join (Some (a ++ b)) o
join_more a b None = refl
join_more a b (Some c) = ap (λ l. Some l) (sym (append_assoc a b c))

pub sofar_more : (all rest q later : Option (List Pair)) (old now new : List Pair) → Sofar all rest old now → rest ≡ join q later → Adds q true now new → Sofar all later old new
sofar_more all rest None later old now new s e h = absurd h
sofar_more all rest (Some qs) later old now new s e h = record {
  said = s.said ++ qs;
  is = h ∙ ap (λ l. l ++ qs) s.is ∙ append_assoc old s.said qs;
  left = s.left ∙ ap (join (Some s.said)) e ∙ join_more s.said qs later;
}

pub sofar_stop : (all rest q later : Option (List Pair)) (old now new end : List Pair) → Sofar all rest old now → rest ≡ join q later → Adds q false now new → Adds all false old end
sofar_stop all rest (Some qs) later old now new end s e h = absurd h
sofar_stop all rest None later old now new end s e h = subst (λ o. Adds o false old end) (sym (s.left ∙ ap (join (Some s.said)) e)) tt

pub sofar_end : (all : Option (List Pair)) (old now : List Pair) → Sofar all (Some []) old now → Adds all true old now
sofar_end all old now s = subst (λ o. Adds o true old now) (sym (s.left ∙ ap (λ l. Some l) (append_nil s.said))) s.is

pub adds_both : (p q : Option (List Pair)) (old now new : List Pair) (b : Bool) → Adds p true old now → Adds q b now new → Adds (join p q) b old new
adds_both None q old now new b h k = absurd h
adds_both (Some ps) None old now new true h k = absurd k
adds_both (Some ps) None old now new false h k = tt
adds_both (Some ps) (Some qs) old now new false h k = absurd k
adds_both (Some ps) (Some qs) old now new true h k = k ∙ ap (λ l. l ++ qs) h ∙ append_assoc old ps qs

pub adds_first : (p q : Option (List Pair)) (old now new end : List Pair) → Adds p false old now → Adds (join p q) false old end
adds_first None q old now new end h = tt
adds_first (Some ps) q old now new end h = absurd h

join_none : (o : Option (List Pair)) → join o None ≡ None
join_none None = refl
join_none (Some a) = refl

module _ {X Y : Type 0} (q : X → Y → Option (List Pair)) where
  unequal_none : (xs : List X) (ys : List Y) → length xs ≢ length ys → each_asks q xs ys ≡ None
  unequal_none [] [] h = absurd (h refl)
  unequal_none [] (y ∷ ys) h = refl
  unequal_none (x ∷ xs) [] h = refl
  unequal_none (x ∷ xs) (y ∷ ys) h = ap (join (q x y)) (unequal_none xs ys (λ e. h (ap suc e))) ∙ join_none (q x y)

  pub each_unequal : (xs : List X) (ys : List Y) (old new : List Pair) → length xs ≢ length ys → Adds (each_asks q xs ys) false old new
  each_unequal xs ys old new h = subst (λ o. Adds o false old new) (sym (unequal_none xs ys h)) tt

  each_step : (xs : List X) (ys : List Y) (i : ℕ) (x : X) (y : Y) → i < length xs → i < length ys → each_asks q (drop i xs) (drop i ys) ≡ join (q (get_or xs i x) (get_or ys i y)) (each_asks q (drop (i + 1) xs) (drop (i + 1) ys))
  each_step xs ys i x y h k = ap (λ l. each_asks q l (drop i ys)) (drop_more xs i x h) ∙ ap (each_asks q (get_or xs i x ∷ drop (i + 1) xs)) (drop_more ys i y k)

  step_at : (xs : List X) (ys : List Y) (i : ℕ) (x : X) (y : Y) → i < length xs → i < length ys → x ≡ get_or xs i x → y ≡ get_or ys i y → each_asks q (drop i xs) (drop i ys) ≡ join (q x y) (each_asks q (drop (i + 1) xs) (drop (i + 1) ys))
  step_at xs ys i x y h k e f = each_step xs ys i x y h k ∙ ap (λ z. join (q z (get_or ys i y)) (each_asks q (drop (i + 1) xs) (drop (i + 1) ys))) (sym e) ∙ ap (λ z. join (q x z) (each_asks q (drop (i + 1) xs) (drop (i + 1) ys))) (sym f)

  pub each_more : (xs : List X) (ys : List Y) (i : ℕ) (x : X) (y : Y) (old now new : List Pair) (b : Bool) → i < length xs → i < length ys → x ≡ get_or xs i x → y ≡ get_or ys i y
      → Sofar (each_asks q xs ys) (each_asks q (drop i xs) (drop i ys)) old now → Adds (q x y) b now new → b ≡ true → Sofar (each_asks q xs ys) (each_asks q (drop (i + 1) xs) (drop (i + 1) ys)) old new
  each_more xs ys i x y old now new b h k e f s a t =
      sofar_more (each_asks q xs ys) (each_asks q (drop i xs) (drop i ys)) (q x y) (each_asks q (drop (i + 1) xs) (drop (i + 1) ys)) old now new s (step_at xs ys i x y h k e f) (subst (λ c. Adds (q x y) c now new) t a)

  pub each_stop : (xs : List X) (ys : List Y) (i : ℕ) (x : X) (y : Y) (old now new : List Pair) (b : Bool) → i < length xs → i < length ys → x ≡ get_or xs i x → y ≡ get_or ys i y
      → Sofar (each_asks q xs ys) (each_asks q (drop i xs) (drop i ys)) old now → Adds (q x y) b now new → b ≡ false → Adds (each_asks q xs ys) false old new
  each_stop xs ys i x y old now new b h k e f s a t =
      sofar_stop (each_asks q xs ys) (each_asks q (drop i xs) (drop i ys)) (q x y) (each_asks q (drop (i + 1) xs) (drop (i + 1) ys)) old now new new s (step_at xs ys i x y h k e f) (subst (λ c. Adds (q x y) c now new) t a)

  pub each_end : (xs : List X) (ys : List Y) (i : ℕ) (old now : List Pair) → length xs ≡ i → length ys ≡ i → Sofar (each_asks q xs ys) (each_asks q (drop i xs) (drop i ys)) old now → Adds (each_asks q xs ys) true old now
  each_end xs ys i old now h k s =
      sofar_end (each_asks q xs ys) old now (subst (λ o. Sofar (each_asks q xs ys) o old now) (ap (λ l. each_asks q l (drop i ys)) (drop_past xs i h) ∙ ap (each_asks q []) (drop_past ys i k)) s)

  pub each_more_at : (xs : List X) (ys : List Y) (i : ℕ) (x : X) (y : Y) (old now new : List Pair) (b : Bool) → i < length xs → i < length ys
      → Sofar (each_asks q xs ys) (each_asks q (drop i xs) (drop i ys)) old now → Adds (q (get_or xs i x) (get_or ys i y)) b now new → b ≡ true → Sofar (each_asks q xs ys) (each_asks q (drop (i + 1) xs) (drop (i + 1) ys)) old new
  each_more_at xs ys i x y old now new b h k s a t =
      sofar_more (each_asks q xs ys) (each_asks q (drop i xs) (drop i ys)) (q (get_or xs i x) (get_or ys i y)) (each_asks q (drop (i + 1) xs) (drop (i + 1) ys)) old now new s (each_step xs ys i x y h k) (subst (λ c. Adds (q (get_or xs i x) (get_or ys i y)) c now new) t a)
