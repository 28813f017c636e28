-- Places of lists among others.
use Rattle.std.proofs.Common.{◌≡◌, ℕ, zero, suc, ◌+◌, ◌<◌, ◌≤◌, ◌||◌, Bool, true, false, cond, not, List, [], ◌∷◌, ◌++◌, length, get_or, nat_eq, Some, slice_get, refl, sym, ap, ◌∙◌, subst, arith, length-append, ◌⊎◌, inl, inr}
use Rattle.std.specs.Global.{Vec}
use Rattle.std.specs.Cmp.{unsigned_Decides}
use Rattle.std.specs.Cmp.Lexicographic.{pointwise}
use Rattle.std.proofs.lemmas.Bool.{cases_lt}
use Rattle.std.specs.List.{position_or_len, list_any}
use Rattle.mo_types.specs.Same.{pointwise_decides}
use Rattle.mo_types.specs.declared.wire.Wire.{Wire}
use Rattle.candid_types.specs.Shapes.{shape_at}
use Rattle.candid_write.specs.Signature.{signature}
use Rattle.candid_write.specs.Rounds.{lists, is_same, place, has, with_list, PutsAt, Refines}

pub get_or-append_front : (xs ys : List ℕ) (i d : ℕ) → i < length xs → get_or (xs ++ ys) i d ≡ get_or xs i d
get_or-append_front [] ys i d h = absurd (omega arith)
get_or-append_front (x ∷ xs) ys zero d h = refl
get_or-append_front (x ∷ xs) ys (suc i) d h = get_or-append_front xs ys i d (omega arith)

pub get_or_pushed : (xs : List ℕ) (y d : ℕ) → get_or (xs ++ y ∷ []) (length xs) d ≡ y
get_or_pushed [] y d = refl
get_or_pushed (x ∷ xs) y d = get_or_pushed xs y d

same_is : (s t : List ℕ) → is_same s t ≡ true → s ≡ t
same_is s t h = (pointwise_decides unsigned_Decides s t).0 h

is_same_refl : (s : List ℕ) → is_same s s ≡ true
is_same_refl s = (pointwise_decides unsigned_Decides s s).1 refl

-- what the set says of its keys
pub place_is : (v : Vec ℕ) (ks : List (Vec ℕ)) → position_or_len (λ k. pointwise nat_eq v.items k.items) ks ≡ place (lists ks) v.items
place_is v [] = refl
place_is v (k ∷ ks) = by (is_same v.items k.items) (place_is v ks) where
  by : (b : Bool) → position_or_len (λ k. pointwise nat_eq v.items k.items) ks ≡ place (lists ks) v.items → cond (not b) (1 + position_or_len (λ k. pointwise nat_eq v.items k.items) ks) 0 ≡ cond b 0 (suc (place (lists ks) v.items))
  by true h = refl
  by false h = omega arith

pub has_is : (v : Vec ℕ) (ks : List (Vec ℕ)) → list_any (λ k. pointwise nat_eq v.items k.items) ks ≡ has (lists ks) v.items
has_is v [] = refl
has_is v (k ∷ ks) = ap (λ b. is_same v.items k.items || b) (has_is v ks)

lists_push : (ks : List (Vec ℕ)) (v : Vec ℕ) → lists (ks ++ v ∷ []) ≡ lists ks ++ v.items ∷ []
lists_push [] v = refl
lists_push (k ∷ ks) v = ap (λ l. k.items ∷ l) (lists_push ks v)

pub with_is : (v : Vec ℕ) (ks : List (Vec ℕ)) → lists (cond (list_any (λ k. pointwise nat_eq v.items k.items) ks) ks (ks ++ v ∷ [])) ≡ with_list (lists ks) v.items
with_is v ks = by (list_any (λ k. pointwise nat_eq v.items k.items) ks) ∙ ap (λ b. cond b (lists ks) (lists ks ++ v.items ∷ [])) (has_is v ks) where
  by : (b : Bool) → lists (cond b ks (ks ++ v ∷ [])) ≡ cond b (lists ks) (lists ks ++ v.items ∷ [])
  by true = refl
  by false = lists_push ks v

-- a list is at its place among them
pub record IsPlace (ts : List (List ℕ)) (s : List ℕ) (at : ℕ) : Type 0 where
  pub is : place ts s ≡ at
  pub within : at < length ts

at_place : (ts : List (List ℕ)) (s : List ℕ) → place ts s < length ts → slice_get ts (place ts s) ≡ Some s
at_place [] s h = absurd (omega arith)
at_place (t ∷ ts) s h = by (is_same s t) refl h (at_place ts s) where
  by : (b : Bool) → is_same s t ≡ b → cond b 0 (suc (place ts s)) < suc (length ts) → (place ts s < length ts → slice_get ts (place ts s) ≡ Some s) → slice_get (t ∷ ts) (cond b 0 (suc (place ts s))) ≡ Some s
  by true e l k = ap (λ z. Some z) (sym (same_is s t e))
  by false e l k = k (omega arith)

place_push : (ts : List (List ℕ)) (s t : List ℕ) → place ts s < length ts → place (ts ++ t ∷ []) s ≡ place ts s
place_push [] s t h = absurd (omega arith)
place_push (u ∷ ts) s t h = by (is_same s u) h (place_push ts s t) where
  by : (b : Bool) → cond b 0 (suc (place ts s)) < suc (length ts) → (place ts s < length ts → place (ts ++ t ∷ []) s ≡ place ts s) → cond b 0 (suc (place (ts ++ t ∷ []) s)) ≡ cond b 0 (suc (place ts s))
  by true l k = refl
  by false l k = ap suc (k (omega arith))

place_has : (ts : List (List ℕ)) (s : List ℕ) → has ts s ≡ true → place ts s < length ts
place_has [] s h = cc
place_has (t ∷ ts) s h = by (is_same s t) h (place_has ts s) where
  by : (b : Bool) → (b || has ts s) ≡ true → (has ts s ≡ true → place ts s < length ts) → cond b 0 (suc (place ts s)) < suc (length ts)
  by true l k = omega arith
  by false l k = let m : place ts s < length ts = k l in omega arith

pub place_new : (ts : List (List ℕ)) (s : List ℕ) → has ts s ≡ false → (place (ts ++ s ∷ []) s ≡ length ts) × (place ts s ≡ length ts)
place_new [] s h = (ap (λ b. cond b 0 1) (is_same_refl s), refl)
place_new (t ∷ ts) s h = by (is_same s t) h (place_new ts s) where
  by : (b : Bool) → (b || has ts s) ≡ false → (has ts s ≡ false → (place (ts ++ s ∷ []) s ≡ length ts) × (place ts s ≡ length ts)) → (cond b 0 (suc (place (ts ++ s ∷ []) s)) ≡ suc (length ts)) × (cond b 0 (suc (place ts s)) ≡ suc (length ts))
  by true l k = cc
  by false l k = let m = k l in (ap suc m.0, ap suc m.1)

pub keeps_place : (ts : List (List ℕ)) (s t : List ℕ) (at : ℕ) → IsPlace ts t at → IsPlace (with_list ts s) t at
keeps_place ts s t at p = by (has ts s) where
  by : (b : Bool) → IsPlace (cond b ts (ts ++ s ∷ [])) t at
  by true = p
  by false =
      let l : length (ts ++ s ∷ []) ≡ length ts + 1 = length-append ts (s ∷ []) in
      let w : at < length ts = p.within in
      let e : place ts t ≡ at = p.is in
      record { is = place_push ts t s (omega arith) ∙ p.is; within = omega arith }

pub new_place : (ts : List (List ℕ)) (s : List ℕ) → IsPlace (with_list ts s) s (place ts s)
new_place ts s = by (has ts s) refl where
  by : (b : Bool) → has ts s ≡ b → IsPlace (cond b ts (ts ++ s ∷ [])) s (place ts s)
  by true e = record { is = refl; within = place_has ts s e }
  by false e =
      let m = place_new ts s e in
      let f : place ts s ≡ length ts = m.1 in
      let l : length (ts ++ s ∷ []) ≡ length ts + 1 = length-append ts (s ∷ []) in
      record { is = m.0 ∙ sym m.1; within = omega arith }

-- lists at one place are equal
pub one_place : (ts : List (List ℕ)) (s t : List ℕ) (at : ℕ) → IsPlace ts s at → IsPlace ts t at → s ≡ t
one_place ts s t at p q =
    let e : place ts s ≡ at = p.is in
    let f : place ts t ≡ at = q.is in
    let l : at < length ts = p.within in
    let g : Some s ≡ Some t = sym (at_place ts s (omega arith)) ∙ ap (slice_get ts) (p.is ∙ sym q.is) ∙ at_place ts t (omega arith) in
    cc

pub puts : (keys keys' : List (Vec ℕ)) (v : Vec ℕ) (s : List ℕ) (at : ℕ) → at ≡ position_or_len (λ k. pointwise nat_eq v.items k.items) keys → keys' ≡ cond (list_any (λ k. pointwise nat_eq v.items k.items) keys) keys (keys ++ v ∷ []) → v.items ≡ s →
    PutsAt (lists keys) s at (lists keys')
puts keys keys' v s at e f g = record { place = e ∙ place_is v keys ∙ ap (place (lists keys)) g; lists = ap lists f ∙ with_is v keys ∙ ap (with_list (lists keys)) g }

-- one more list is put
pub places_more : (f : ℕ → List ℕ) (old new : List (List ℕ)) (next : List ℕ) (n at : ℕ) → length next ≡ n → ((i : ℕ) → i < n → IsPlace old (f i) (get_or next i 0)) → PutsAt old (f n) at new →
    (i : ℕ) → i < n + 1 → IsPlace new (f i) (get_or (next ++ at ∷ []) i 0)
places_more f old new next n at l h p i m = by (cases_lt i n) where
  by : (i < n) ⊎ (n ≤ i) → IsPlace new (f i) (get_or (next ++ at ∷ []) i 0)
  by (inl k) =
      let g : get_or (next ++ at ∷ []) i 0 ≡ get_or next i 0 = get_or-append_front next (at ∷ []) i 0 (omega arith) in
      subst (λ z. IsPlace new (f i) z) (sym g) (subst (λ ts. IsPlace ts (f i) (get_or next i 0)) (sym p.lists) (keeps_place old (f n) (f i) (get_or next i 0) (h i k)))
  by (inr k) =
      let e : n ≡ i = omega arith in
      let g : get_or (next ++ at ∷ []) n 0 ≡ at = ap (λ z. get_or (next ++ at ∷ []) z 0) (sym l) ∙ get_or_pushed next at 0 in
      subst (λ z. IsPlace new (f z) (get_or (next ++ at ∷ []) z 0)) e (subst (λ z. IsPlace new (f n) z) (sym (g ∙ p.place)) (subst (λ ts. IsPlace ts (f n) (place old (f n))) (sym p.lists) (new_place old (f n))))

pub refines : (shapes : List (Wire ℕ)) (classes next : List ℕ) (seen : List (List ℕ)) (n : ℕ) → length next ≡ n → n ≡ length shapes → ((i : ℕ) → i < n → IsPlace seen (signature classes (shape_at shapes i)) (get_or next i 0)) → Refines shapes classes next
refines shapes classes next seen n l m h = record {
  count = l ∙ m;
  same = λ a b i j e. one_place seen (signature classes (shape_at shapes a)) (signature classes (shape_at shapes b)) (get_or next a 0) (h a (omega arith)) (subst (λ z. IsPlace seen (signature classes (shape_at shapes b)) z) (sym e) (h b (omega arith)));
  one = λ a b i j e. sym (h a (omega arith)).is ∙ ap (place seen) e ∙ (h b (omega arith)).is;
}
