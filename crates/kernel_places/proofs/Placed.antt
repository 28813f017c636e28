-- What the places of functions are, and that they depend on the names alone that lists have.
use Rattle.std.proofs.Common.{◌≡◌, ℕ, zero, suc, ◌+◌, ◌<◌, ◌≤◌, Bool, true, false, List, [], ◌∷◌, ◌++◌, Option, Some, None, ◌⊎◌, inl, inr, length, cond, map, refl, sym, ap, ◌∙◌, arith}
use Rattle.std.specs.List.{list_any}
use Rattle.std.specs.Str.{bytes_eq}
use Rattle.std.proofs.Math.Logic.{⊎_elim}
use Rattle.typing_rules.specs.AbstractSyntax.{Bytes}
use Rattle.typed_tree.specs.Placing.{Declared, behind, is_among, is_function, place, reached}
use Rattle.kernel_names.specs.Occurring.{HasSame}
use Rattle.kernel_places.specs.Reaching.{at, Hits, HasPlace, Reaches, function_place}
use Rattle.kernel_places.specs.Similar.{Alike, AllAlike}
use Rattle.kernel_places.proofs.Having.{false_true, itself, or_cases, or_left, or_right, same}
use Rattle.kernel_places.proofs.Reached.{reached_all, reached_has}

-- ---- the last declaration that is hit

abbrev hit : List Bytes → List Bytes → Bool
hit names defines = list_any (λ x. is_among x names) defines

hit_has : (names defines : List Bytes) → hit names defines ≡ true → (y : Bytes) × (is_among y defines ≡ true) × (is_among y names ≡ true)
hit_has names [] h = false_true h
hit_has names (x ∷ xs) h =
    ⊎_elim (λ q. (x, or_left (bytes_eq x x) (is_among x xs) (itself x), q)) (λ q. let w = hit_has names xs q in (w.0, or_right (bytes_eq w.0 x) (is_among w.0 xs) w.1, w.2))
    (or_cases (is_among x names) (hit names xs) h)

hit_all : (names defines : List Bytes) (y : Bytes) → is_among y defines ≡ true → is_among y names ≡ true → hit names defines ≡ true
hit_all names [] y d h = false_true d
hit_all names (x ∷ xs) y d h =
    ⊎_elim (λ q. or_left (is_among x names) (hit names xs) (ap (λ z. is_among z names) (sym (same y x q)) ∙ h)) (λ q. or_right (is_among x names) (hit names xs) (hit_all names xs y q h))
    (or_cases (bytes_eq y x) (is_among y xs) d)

low : (b : Bool) (last n : ℕ) → last ≤ n → cond b (suc n) last ≤ suc n
low true last n h = omega arith
low false last n h = omega arith

lower : (b : Bool) (last n : ℕ) → last ≤ n → last ≤ cond b (suc n) last
lower true last n h = omega arith
lower false last n h = omega arith

behind_from : (last n : ℕ) (ds : List Declared) (names : List Bytes) → last ≤ n → last ≤ behind last n ds names
behind_from last n [] names h = omega arith
behind_from last n (d ∷ ds) names h =
    let next : ℕ = cond (hit names d.defines) (suc n) last in
    let x : next ≤ behind next (suc n) ds names = behind_from next (suc n) ds names (low (hit names d.defines) last n h) in
    let y : last ≤ next = lower (hit names d.defines) last n h in
    omega arith

behind_last : (last n : ℕ) (ds : List Declared) (names : List Bytes) (m : ℕ) → last ≤ n → hit names (at ds m).defines ≡ true → n + m < behind last n ds names
behind_last last n [] names m h k = false_true k
behind_last last n (d ∷ ds) names zero h k =
    let next : ℕ = cond (hit names d.defines) (suc n) last in
    let x : next ≤ behind next (suc n) ds names = behind_from next (suc n) ds names (low (hit names d.defines) last n h) in
    let y : next ≡ suc n = ap (λ (b : Bool). cond b (suc n) last) k in
    omega arith
behind_last last n (d ∷ ds) names (suc m) h k =
    let next : ℕ = cond (hit names d.defines) (suc n) last in
    let x : suc n + m < behind next (suc n) ds names = behind_last next (suc n) ds names m (low (hit names d.defines) last n h) k in
    omega arith

abbrev First : ℕ → ℕ → List Declared → List Bytes → ℕ → Type 0
First last n ds names r = (r ≡ last) ⊎ ((m : ℕ) × (r ≡ suc (n + m)) × (hit names (at ds m).defines ≡ true))

behind_first : (last n : ℕ) (ds : List Declared) (names : List Bytes) → First last n ds names (behind last n ds names)
behind_first last n [] names = inl refl
behind_first last n (d ∷ ds) names = by (hit names d.defines) refl (behind_first (cond (hit names d.defines) (suc n) last) (suc n) ds names) where
  further : (r : ℕ) → ((m : ℕ) × (r ≡ suc (suc n + m)) × (hit names (at ds m).defines ≡ true)) → First last n (d ∷ ds) names r
  further r w = let e : r ≡ suc (suc n + w.0) = w.1 in let z : r ≡ suc (n + suc w.0) = omega arith in inr (suc w.0, z, w.2)

  by : (b : Bool) → hit names d.defines ≡ b → First (cond (hit names d.defines) (suc n) last) (suc n) ds names (behind last n (d ∷ ds) names) → First last n (d ∷ ds) names (behind last n (d ∷ ds) names)
  by true e f =
      ⊎_elim (λ q. let y : cond (hit names d.defines) (suc n) last ≡ suc n = ap (λ (b : Bool). cond b (suc n) last) e in let z : suc n ≡ suc (n + 0) = omega arith in inr (0, q ∙ y ∙ z, e))
      (further (behind last n (d ∷ ds) names)) f
  by false e f = ⊎_elim (λ q. let y : cond (hit names d.defines) (suc n) last ≡ last = ap (λ (b : Bool). cond b (suc n) last) e in inl (q ∙ y)) (further (behind last n (d ∷ ds) names)) f

-- ---- places

pub place_has : (ds : List Declared) (f : Declared) → HasPlace ds f.occurs (place ds f)
place_has ds f = record {
  last = λ m h.
      let x : 0 + m < place ds f = behind_last 0 0 ds (reached (length ds) ds f.occurs) m (omega arith) (hit_all (reached (length ds) ds f.occurs) (at ds m).defines h.name h.defined (reached_all ds f.occurs h.name h.reached)) in
      omega arith;
  first =
      ⊎_elim (λ q. inl q)
      (λ w. let e : place ds f ≡ suc (0 + w.0) = w.1 in
      let z : place ds f ≡ suc w.0 = omega arith in
      let v = hit_has (reached (length ds) ds f.occurs) (at ds w.0).defines w.2 in
      inr (w.0, z, record { name = v.0; defined = v.1; reached = reached_has (length ds) ds f.occurs f.occurs (λ x k. Reaches.Occurring x k) v.0 v.2 }))
      (behind_first 0 0 ds (reached (length ds) ds f.occurs));
}

at_most : (ds : List Declared) (names : List Bytes) (r s : ℕ) → HasPlace ds names r → HasPlace ds names s → r ≤ s
at_most ds names r s h k =
    ⊎_elim (λ q. omega arith) (λ w. let e : r ≡ suc w.0 = w.1 in let l : w.0 < s = k.last w.0 w.2 in omega arith) h.first

pub one_place : (ds : List Declared) (names : List Bytes) (r s : ℕ) → HasPlace ds names r → HasPlace ds names s → r ≡ s
one_place ds names r s h k = let x : r ≤ s = at_most ds names r s h k in let y : s ≤ r = at_most ds names s r k h in omega arith

-- ---- the same names

alike_back : (a b : Declared) → Alike a b → Alike b a
alike_back a b h = record { defines = sym h.defines; function = sym h.function; occurs = λ f e. λ x. sym (h.occurs f (sym h.function ∙ e) x) }

alike_at : (xs ys : List Declared) → AllAlike xs ys → (k : ℕ) → Alike (at xs k) (at ys k)
alike_at [] [] h k = record { defines = refl; function = refl; occurs = λ f e x. refl }
alike_at [] (b ∷ ys) h k = absurd h
alike_at (a ∷ xs) [] h k = absurd h
alike_at (a ∷ xs) (b ∷ ys) h zero = h.0
alike_at (a ∷ xs) (b ∷ ys) h (suc k) = alike_at xs ys h.1 k

reaches_alike : (xs ys : List Declared) → ((k : ℕ) → Alike (at xs k) (at ys k)) → (names more : List Bytes) → ((x : Bytes) → is_among x names ≡ true → is_among x more ≡ true)
    → (x : Bytes) → Reaches xs names x → Reaches ys more x
reaches_alike xs ys h names more m x (Reaches.Occurring y k) = Reaches.Occurring y (m y k)
reaches_alike xs ys h names more m x (Reaches.Through k f y r e o) =
    let g : (at ys k).function ≡ Some f = sym (h k).function ∙ e in
    Reaches.Through k f y (reaches_alike xs ys h names more m f r) g (sym ((h k).occurs f g y) ∙ o)

hits_alike : (xs ys : List Declared) → ((k : ℕ) → Alike (at xs k) (at ys k)) → (names more : List Bytes) → ((x : Bytes) → is_among x names ≡ true → is_among x more ≡ true)
    → (m : ℕ) → Hits xs names m → Hits ys more m
hits_alike xs ys h names more s m w = record {
  name = w.name;
  defined = ap (λ z. is_among w.name z) (sym (h m).defines) ∙ w.defined;
  reached = reaches_alike xs ys h names more s w.name w.reached;
}

place_alike : (xs ys : List Declared) → AllAlike xs ys → (names more : List Bytes) → HasSame names more → (r : ℕ) → HasPlace xs names r → HasPlace ys more r
place_alike xs ys h names more s r p = record {
  last = λ m w. p.last m (hits_alike ys xs (λ k. alike_back (at xs k) (at ys k) (alike_at xs ys h k)) more names (λ x k. s x ∙ k) m w);
  first = ⊎_elim (λ q. inl q) (λ w. inr (w.0, w.1, hits_alike xs ys (alike_at xs ys h) names more (λ x k. sym (s x) ∙ k) w.0 w.2)) p.first;
}

one_alike : (xs ys : List Declared) → AllAlike xs ys → (a b : Declared) → Alike a b → function_place xs a ≡ function_place ys b
one_alike xs ys h a b l = by b.function refl where
  by : (o : Option Bytes) → b.function ≡ o → function_place xs a ≡ function_place ys b
  by None e =
      let x : is_function a ≡ false = rw (l.function ∙ e) refl in
      let y : is_function b ≡ false = rw e refl in
      ap (λ (z : Bool). cond z (place xs a) 0) x ∙ sym (ap (λ (z : Bool). cond z (place ys b) 0) y)
  by (Some f) e =
      let x : is_function a ≡ true = rw (l.function ∙ e) refl in
      let y : is_function b ≡ true = rw e refl in
      let p : place xs a ≡ place ys b = one_place ys b.occurs (place xs a) (place ys b) (place_alike xs ys h a.occurs b.occurs (l.occurs f e) (place xs a) (place_has xs a)) (place_has ys b) in
      ap (λ (z : Bool). cond z (place xs a) 0) x ∙ p ∙ sym (ap (λ (z : Bool). cond z (place ys b) 0) y)

each_alike : (xs ys : List Declared) → AllAlike xs ys → (cs ds : List Declared) → AllAlike cs ds → map (function_place xs) cs ≡ map (function_place ys) ds
each_alike xs ys h [] [] k = refl
each_alike xs ys h [] (d ∷ ds) k = absurd k
each_alike xs ys h (c ∷ cs) [] k = absurd k
each_alike xs ys h (c ∷ cs) (d ∷ ds) k = ap (λ z. z ∷ map (function_place xs) cs) (one_alike xs ys h c d k.0) ∙ ap (λ z. function_place ys d ∷ z) (each_alike xs ys h cs ds k.1)

pub all_alike : (xs ys : List Declared) → AllAlike xs ys → map (function_place xs) xs ≡ map (function_place ys) ys
all_alike xs ys h = each_alike xs ys h xs ys h

-- one more declaration
pub alike_more : (xs ys : List Declared) (a b : Declared) → AllAlike xs ys → Alike a b → AllAlike (xs ++ a ∷ []) (ys ++ b ∷ [])
alike_more [] [] a b h k = (k, tt)
alike_more [] (d ∷ ys) a b h k = absurd h
alike_more (c ∷ xs) [] a b h k = absurd h
alike_more (c ∷ xs) (d ∷ ys) a b h k = (h.0, alike_more xs ys a b h.1 k)
