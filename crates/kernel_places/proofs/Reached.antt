-- That as many steps as the list has declarations find all that is reached: each step but the last calls a function that was not called before.
use Rattle.std.proofs.Common.{◌≡◌, ℕ, zero, suc, ◌<◌, ◌≤◌, Bool, true, false, List, [], ◌∷◌, ◌++◌, Option, Some, None, ◌⊎◌, inl, inr, length, cond, refl, sym, ap, ◌∙◌, arith}
use Rattle.std.specs.List.{filter, flat_map}
use Rattle.std.proofs.Math.Logic.{⊎_elim}
use Rattle.typing_rules.specs.AbstractSyntax.{Bytes}
use Rattle.typed_tree.specs.Placing.{Declared, is_among, is_one_of, reached}
use Rattle.kernel_places.specs.Reaching.{at, Reaches}
use Rattle.kernel_places.proofs.Having.{false_true, has_cases, has_left, has_right}

-- the names that occur in the functions of these names
abbrev called : List Declared → List Bytes → List Bytes
called ds names = flat_map (λ d. d.occurs) (filter (λ d. is_one_of names d.function) ds)

record Called (ds : List Declared) (names : List Bytes) (x : Bytes) : Type 0 where
  k : ℕ
  f : Bytes
  function : (at ds k).function ≡ Some f
  named : is_among f names ≡ true
  occurs : is_among x (at ds k).occurs ≡ true

one_of : (names : List Bytes) (o : Option Bytes) → is_one_of names o ≡ true → (f : Bytes) × (o ≡ Some f) × (is_among f names ≡ true)
one_of names None h = false_true h
one_of names (Some f) h = (f, refl, h)

called_behind : (d : Declared) (ds : List Declared) (names : List Bytes) (x : Bytes) → Called ds names x → Called (d ∷ ds) names x
called_behind d ds names x w = record { k = suc w.k; f = w.f; function = w.function; named = w.named; occurs = w.occurs }

called_has : (ds : List Declared) (names : List Bytes) (x : Bytes) → is_among x (called ds names) ≡ true → Called ds names x
called_has [] names x h = false_true h
called_has (d ∷ ds) names x h = by (is_one_of names d.function) refl (λ k. called_behind d ds names x (called_has ds names x k)) h where
  by : (b : Bool) → is_one_of names d.function ≡ b → (is_among x (called ds names) ≡ true → Called (d ∷ ds) names x)
      → is_among x (flat_map (λ e. e.occurs) (cond b (d ∷ filter (λ e. is_one_of names e.function) ds) (filter (λ e. is_one_of names e.function) ds))) ≡ true → Called (d ∷ ds) names x
  by true e r h =
      ⊎_elim (λ q. let w = one_of names d.function e in record { k = 0; f = w.0; function = w.1; named = w.2; occurs = q }) r (has_cases d.occurs (called ds names) x h)
  by false e r h = r h

called_all : (ds : List Declared) (names : List Bytes) (k : ℕ) (f x : Bytes) → (at ds k).function ≡ Some f → is_among f names ≡ true → is_among x (at ds k).occurs ≡ true
    → is_among x (called ds names) ≡ true
called_all [] names k f x e h o = false_true o
called_all (d ∷ ds) names zero f x e h o =
    let z : is_one_of names d.function ≡ true = ap (is_one_of names) e ∙ h in
    ap (λ (b : Bool). is_among x (flat_map (λ e. e.occurs) (cond b (d ∷ filter (λ e. is_one_of names e.function) ds) (filter (λ e. is_one_of names e.function) ds)))) z
    ∙ has_left d.occurs (called ds names) x o
called_all (d ∷ ds) names (suc k) f x e h o = by (is_one_of names d.function) (called_all ds names k f x e h o) where
  by : (b : Bool) → is_among x (called ds names) ≡ true
      → is_among x (flat_map (λ e. e.occurs) (cond b (d ∷ filter (λ e. is_one_of names e.function) ds) (filter (λ e. is_one_of names e.function) ds))) ≡ true
  by true r = has_right d.occurs (called ds names) x r
  by false r = r

-- ---- what is found is reached

pub reached_has : (n : ℕ) (ds : List Declared) (names from : List Bytes) → ((x : Bytes) → is_among x names ≡ true → Reaches ds from x)
    → (x : Bytes) → is_among x (reached n ds names) ≡ true → Reaches ds from x
reached_has zero ds names from h x k = h x k
reached_has (suc n) ds names from h x k =
    reached_has n ds (names ++ called ds names) from
    (λ y l. ⊎_elim (λ q. h y q) (λ q. let w = called_has ds names y q in Reaches.Through w.k w.f y (h w.f w.named) w.function w.occurs) (has_cases names (called ds names) y l)) x k

-- ---- what is reached is found

reached_grows : (n : ℕ) (ds : List Declared) (names : List Bytes) (x : Bytes) → is_among x names ≡ true → is_among x (reached n ds names) ≡ true
reached_grows zero ds names x h = h
reached_grows (suc n) ds names x h = reached_grows n ds (names ++ called ds names) x (has_left names (called ds names) x h)

-- No function leads to more names.
record Closed (ds : List Declared) (names : List Bytes) : Type 0 where
  is : (k : ℕ) (f x : Bytes) → (at ds k).function ≡ Some f → is_among f names ≡ true → is_among x (at ds k).occurs ≡ true → is_among x names ≡ true

closed_back : (ds : List Declared) (names : List Bytes) → Closed ds names → (x : Bytes) → is_among x (names ++ called ds names) ≡ true → is_among x names ≡ true
closed_back ds names c x h = ⊎_elim (λ q. q) (λ q. let w = called_has ds names x q in c.is w.k w.f x w.function w.named w.occurs) (has_cases names (called ds names) x h)

closed_stays : (n : ℕ) (ds : List Declared) (names : List Bytes) → Closed ds names → (x : Bytes) → is_among x (reached n ds names) ≡ true → is_among x names ≡ true
closed_stays zero ds names c x h = h
closed_stays (suc n) ds names c x h =
    let more : Closed ds (names ++ called ds names) = record { is = λ k f y e l o. has_left names (called ds names) y (c.is k f y e (closed_back ds names c f l) o) } in
    closed_back ds names c x (closed_stays n ds (names ++ called ds names) more x h)

closed_reached : (n : ℕ) (ds : List Declared) (names : List Bytes) → Closed ds names → Closed ds (reached n ds names)
closed_reached n ds names c = record { is = λ k f x e h o. reached_grows n ds names x (c.is k f x e (closed_stays n ds names c f h) o) }

-- how many declarations are not called
abbrev idle : List Declared → List Bytes → ℕ
idle [] names = 0
idle (d ∷ ds) names = cond (is_one_of names d.function) (idle ds names) (suc (idle ds names))

-- No more are called.
abbrev Same : List Declared → List Bytes → List Bytes → Type 0
Same ds names more = (k : ℕ) → is_one_of more (at ds k).function ≡ true → is_one_of names (at ds k).function ≡ true

same_before : (d : Declared) (ds : List Declared) (names more : List Bytes) → (is_one_of more d.function ≡ true → is_one_of names d.function ≡ true) → Same ds names more
    → (k : ℕ) → is_one_of more (at (d ∷ ds) k).function ≡ true → is_one_of names (at (d ∷ ds) k).function ≡ true
same_before d ds names more h s zero = h
same_before d ds names more h s (suc k) = s k

one_of_more : (names more : List Bytes) (o : Option Bytes) → ((x : Bytes) → is_among x names ≡ true → is_among x more ≡ true) → is_one_of names o ≡ true → is_one_of more o ≡ true
one_of_more names more None m h = h
one_of_more names more (Some f) m h = m f h

record Grown (ds : List Declared) (names more : List Bytes) : Type 0 where
  least : idle ds more ≤ idle ds names
  either : (idle ds more < idle ds names) ⊎ Same ds names more

grown : (ds : List Declared) (names more : List Bytes) → ((x : Bytes) → is_among x names ≡ true → is_among x more ≡ true) → Grown ds names more
grown [] names more m = record { least = omega arith; either = inr (λ k h. h) }
grown (d ∷ ds) names more m = by (is_one_of names d.function) (is_one_of more d.function) refl refl (grown ds names more m) where
  by : (b c : Bool) → is_one_of names d.function ≡ b → is_one_of more d.function ≡ c → Grown ds names more → Grown (d ∷ ds) names more
  by true true e k g =
      let x : idle (d ∷ ds) names ≡ idle ds names = ap (λ (z : Bool). cond z (idle ds names) (suc (idle ds names))) e in
      let y : idle (d ∷ ds) more ≡ idle ds more = ap (λ (z : Bool). cond z (idle ds more) (suc (idle ds more))) k in
      let l : idle ds more ≤ idle ds names = g.least in
      record { least = omega arith; either = ⊎_elim (λ lt. inl (omega arith)) (λ s. inr (same_before d ds names more (λ h. e) s)) g.either }
  by true false e k g =
      let z : is_one_of more d.function ≡ true = one_of_more names more d.function m e in
      false_true (sym k ∙ z)
  by false true e k g =
      let x : idle (d ∷ ds) names ≡ suc (idle ds names) = ap (λ (z : Bool). cond z (idle ds names) (suc (idle ds names))) e in
      let y : idle (d ∷ ds) more ≡ idle ds more = ap (λ (z : Bool). cond z (idle ds more) (suc (idle ds more))) k in
      let l : idle ds more ≤ idle ds names = g.least in
      record { least = omega arith; either = inl (omega arith) }
  by false false e k g =
      let x : idle (d ∷ ds) names ≡ suc (idle ds names) = ap (λ (z : Bool). cond z (idle ds names) (suc (idle ds names))) e in
      let y : idle (d ∷ ds) more ≡ suc (idle ds more) = ap (λ (z : Bool). cond z (idle ds more) (suc (idle ds more))) k in
      let l : idle ds more ≤ idle ds names = g.least in
      record { least = omega arith; either = ⊎_elim (λ lt. inl (omega arith)) (λ s. inr (same_before d ds names more (λ h. false_true (sym k ∙ h)) s)) g.either }

record Unless (ds : List Declared) (names : List Bytes) : Type 0 where
  most : idle ds names ≤ length ds
  either : (idle ds names < length ds) ⊎ ((k : ℕ) → is_one_of names (at ds k).function ≡ true → ⊥)

none_before : (d : Declared) (ds : List Declared) (names : List Bytes) → is_one_of names d.function ≡ false → ((k : ℕ) → is_one_of names (at ds k).function ≡ true → ⊥)
    → (k : ℕ) → is_one_of names (at (d ∷ ds) k).function ≡ true → ⊥
none_before d ds names e n zero h = false_true (sym e ∙ h)
none_before d ds names e n (suc k) h = n k h

unless : (ds : List Declared) (names : List Bytes) → Unless ds names
unless [] names = record { most = omega arith; either = inr (λ k h. false_true h) }
unless (d ∷ ds) names = by (is_one_of names d.function) refl (unless ds names) where
  by : (b : Bool) → is_one_of names d.function ≡ b → Unless ds names → Unless (d ∷ ds) names
  by true e u =
      let x : idle (d ∷ ds) names ≡ idle ds names = ap (λ (z : Bool). cond z (idle ds names) (suc (idle ds names))) e in
      let l : idle ds names ≤ length ds = u.most in
      record { most = omega arith; either = inl (omega arith) }
  by false e u =
      let x : idle (d ∷ ds) names ≡ suc (idle ds names) = ap (λ (z : Bool). cond z (idle ds names) (suc (idle ds names))) e in
      let l : idle ds names ≤ length ds = u.most in
      record { most = omega arith; either = ⊎_elim (λ lt. inl (omega arith)) (λ n. inr (none_before d ds names e n)) u.either }

closed_once : (ds : List Declared) (names : List Bytes) → Same ds names (names ++ called ds names) → Closed ds (names ++ called ds names)
closed_once ds names s = record {
  is = λ k f x e h o.
      let z : is_one_of names (at ds k).function ≡ true = s k (ap (is_one_of (names ++ called ds names)) e ∙ h) in
      has_right names (called ds names) x (called_all ds names k f x e (sym (ap (is_one_of names) e) ∙ z) o);
}

closes : (n : ℕ) (ds : List Declared) (names : List Bytes) → idle ds names ≤ n → Closed ds (reached (suc n) ds names)
closes zero ds names h =
    let g = grown ds names (names ++ called ds names) (λ x. has_left names (called ds names) x) in
    ⊎_elim (λ lt. absurd (omega arith)) (λ s. closed_reached zero ds (names ++ called ds names) (closed_once ds names s)) g.either
closes (suc n) ds names h =
    let g = grown ds names (names ++ called ds names) (λ x. has_left names (called ds names) x) in
    ⊎_elim (λ lt. closes n ds (names ++ called ds names) (omega arith)) (λ s. closed_reached (suc n) ds (names ++ called ds names) (closed_once ds names s)) g.either

all_closed : (ds : List Declared) (names : List Bytes) → Closed ds (reached (length ds) ds names)
all_closed [] names = record { is = λ k f x e h o. false_true o }
all_closed (d ∷ ds) names =
    let u = unless (d ∷ ds) names in
    ⊎_elim (λ lt. closes (length ds) (d ∷ ds) names (omega arith))
    (λ n. closed_reached (suc (length ds)) (d ∷ ds) names (record { is = λ k f x e h o. absurd (n k (ap (is_one_of names) e ∙ h)) })) u.either

pub reached_all : (ds : List Declared) (names : List Bytes) (x : Bytes) → Reaches ds names x → is_among x (reached (length ds) ds names) ≡ true
reached_all ds names x (Reaches.Occurring y h) = reached_grows (length ds) ds names y h
reached_all ds names x (Reaches.Through k f y r e o) = let c = all_closed ds names in c.is k f y e (reached_all ds names f r) o
