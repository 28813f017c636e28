-- Where names are found, as the list and the places change.
use Rattle.std.proofs.Common.{◌≡◌, ℕ, suc, ◌+◌, ◌<◌, Bool, true, false, ◌||◌, List, [], ◌∷◌, ◌++◌, length, get_or, Option, Some, None, IsSome, IfSome, is_some, unwrap_or, cond, if◌then◌else◌, refl, sym, ap, ◌∙◌, subst, arith, length-append, append_assoc, append-nil, option_to_list, ◌↔◌}
use Rattle.std.specs.List.{list_any}
use Rattle.std.specs.Str.{bytes_eq}
use Rattle.std.specs.Map.{lookup, set_value}
use Rattle.std.proofs.lemmas.Slice.Eq.{bytes_eq-Decides}
use Rattle.indexmap.specs.IndexMap.{insert_entry}
use Rattle.mo_syntax.specs.declared.name.Name.{Name}
use Rattle.mo_name_table.specs.Places.{texts, later, last_place, places_before, Kept}

same : (x y : List ℕ) → bytes_eq x y ≡ true → x ≡ y
same x y h = (bytes_eq-Decides x y).0 h

itself : (x y : List ℕ) → x ≡ y → bytes_eq x y ≡ true
itself x y h = (bytes_eq-Decides x y).1 h

-- tests that hold together are equal
together : (a b : Bool) → (a ≡ true → b ≡ true) → (b ≡ true → a ≡ true) → a ≡ b
together true b f g = sym (f refl)
together false true f g = g refl
together false false f g = refl

turned : (x y : List ℕ) → bytes_eq x y ≡ bytes_eq y x
turned x y = together (bytes_eq x y) (bytes_eq y x) (λ h. itself y x (sym (same x y h))) (λ h. itself x y (sym (same y x h)))

-- ---- the places of a map

twice : {A : Type 0} (c : Bool) (a b l : A) → cond c a l ≡ cond c a (cond c b l)
twice true a b l = refl
twice false a b l = refl

swap : {A : Type 0} (c d : Bool) (a b l : A) → (c ≡ true → d ≡ true → ⊥) → cond c a (cond d b l) ≡ cond d b (cond c a l)
swap true true a b l h = absurd (h refl refl)
swap true false a b l h = refl
swap false true a b l h = refl
swap false false a b l h = refl

-- what is found after an insertion, by the bytes of the keys
inserted : {K V : Type 0} (f : K → List ℕ) (es : List (K × V)) (k : K) (v : V) (x : List ℕ)
    → lookup (λ a. bytes_eq x (f a)) (insert_entry (λ a b. bytes_eq (f a) (f b)) es k v) ≡ cond (bytes_eq (f k) x) (Some v) (lookup (λ a. bytes_eq x (f a)) es)
inserted f [] k v x = ap (λ b. cond b (Some v) None) (turned x (f k))
inserted {K} {V} f (e ∷ es) k v x = by (bytes_eq (f k) (f e.0)) refl (inserted f es k v x) where
  by : (b : Bool) → bytes_eq (f k) (f e.0) ≡ b
      → lookup (λ a. bytes_eq x (f a)) (insert_entry (λ a b. bytes_eq (f a) (f b)) es k v) ≡ cond (bytes_eq (f k) x) (Some v) (lookup (λ a. bytes_eq x (f a)) es)
      → lookup (λ a. bytes_eq x (f a)) (if b then (e.0, v) ∷ es else e ∷ insert_entry (λ a b. bytes_eq (f a) (f b)) es k v) ≡ cond (bytes_eq (f k) x) (Some v) (cond (bytes_eq x (f e.0)) (Some e.1) (lookup (λ a. bytes_eq x (f a)) es))
  by true q r =
      let L : Option V = lookup (λ a. bytes_eq x (f a)) es in
      let c : bytes_eq (f k) x ≡ bytes_eq x (f e.0) = ap (λ z. bytes_eq z x) (same (f k) (f e.0) q) ∙ turned (f e.0) x in
      twice (bytes_eq x (f e.0)) (Some v) (Some e.1) L ∙ ap (λ b. cond b (Some v) (cond (bytes_eq x (f e.0)) (Some e.1) L)) (sym c)
  by false q r =
      let L : Option V = lookup (λ a. bytes_eq x (f a)) es in
      ap (λ z. cond (bytes_eq x (f e.0)) (Some e.1) z) r
      ∙ swap (bytes_eq x (f e.0)) (bytes_eq (f k) x) (Some e.1) (Some v) L
      (λ c d. let g : bytes_eq (f k) (f e.0) ≡ true = itself (f k) (f e.0) (same (f k) x d ∙ same x (f e.0) c) in cc)

absent : (r : Option (Option ℕ)) → is_some r ≡ false → None ≡ unwrap_or r None
absent None h = refl
absent (Some x) h = cc

-- where a name is given no place, and had none
pub room : {K : Type 0} (f : K → List ℕ) (es : List (K × Option ℕ)) (k : K) (name x : List ℕ) → f k ≡ name → is_some (lookup (λ a. bytes_eq name (f a)) es) ≡ false
    → unwrap_or (lookup (λ a. bytes_eq x (f a)) (insert_entry (λ a b. bytes_eq (f a) (f b)) es k None)) None ≡ unwrap_or (lookup (λ a. bytes_eq x (f a)) es) None
room {K} f es k name x e h = ap (λ z. unwrap_or z None) (inserted f es k None x ∙ ap (λ z. cond (bytes_eq z x) (Some None) (lookup (λ a. bytes_eq x (f a)) es)) e) ∙ by (bytes_eq name x) refl where
  by : (b : Bool) → bytes_eq name x ≡ b → unwrap_or (cond b (Some None) (lookup (λ a. bytes_eq x (f a)) es)) None ≡ unwrap_or (lookup (λ a. bytes_eq x (f a)) es) None
  by true q = absent (lookup (λ a. bytes_eq x (f a)) es) (ap (λ z. is_some (lookup (λ a. bytes_eq z (f a)) es)) (sym (same name x q)) ∙ h)
  by false q = refl

not_true : (b : Bool) → (b ≡ true → ⊥) → b ≡ false
not_true true h = absurd (h refl)
not_true false h = refl

-- where a name that is there is given a place
pub written : {K : Type 0} (f : K → List ℕ) (es : List (K × Option ℕ)) (name : List ℕ) (w : Option ℕ) (x : List ℕ) → IsSome (lookup (λ a. bytes_eq name (f a)) es)
    → unwrap_or (lookup (λ a. bytes_eq x (f a)) (set_value (λ a. bytes_eq name (f a)) es w)) None ≡ cond (bytes_eq name x) w (unwrap_or (lookup (λ a. bytes_eq x (f a)) es) None)
written f [] name w x h = cc
written {K} f (e ∷ es) name w x h = by (bytes_eq name (f e.0)) refl h (written f es name w x) where
  here : (c : Bool) → bytes_eq name (f e.0) ≡ true → bytes_eq x (f e.0) ≡ c
      → unwrap_or (cond c (Some w) (lookup (λ a. bytes_eq x (f a)) es)) None ≡ cond (bytes_eq name x) w (unwrap_or (cond c (Some e.1) (lookup (λ a. bytes_eq x (f a)) es)) None)
  here true p q = ap (λ b. cond b w e.1) (sym (itself name x (same name (f e.0) p ∙ sym (same x (f e.0) q))))
  here false p q =
      let apart : bytes_eq name x ≡ false = not_true (bytes_eq name x) (λ g. let t : bytes_eq x (f e.0) ≡ true = itself x (f e.0) (sym (same name x g) ∙ same name (f e.0) p) in cc) in
      ap (λ b. cond b w (unwrap_or (lookup (λ a. bytes_eq x (f a)) es) None)) (sym apart)

  behind : (c : Bool) → bytes_eq name (f e.0) ≡ false → bytes_eq x (f e.0) ≡ c
      → unwrap_or (lookup (λ a. bytes_eq x (f a)) (set_value (λ a. bytes_eq name (f a)) es w)) None ≡ cond (bytes_eq name x) w (unwrap_or (lookup (λ a. bytes_eq x (f a)) es) None)
      → unwrap_or (cond c (Some e.1) (lookup (λ a. bytes_eq x (f a)) (set_value (λ a. bytes_eq name (f a)) es w))) None ≡ cond (bytes_eq name x) w (unwrap_or (cond c (Some e.1) (lookup (λ a. bytes_eq x (f a)) es)) None)
  behind true p q r =
      let apart : bytes_eq name x ≡ false = not_true (bytes_eq name x) (λ g. let t : bytes_eq name (f e.0) ≡ true = itself name (f e.0) (same name x g ∙ same x (f e.0) q) in cc) in
      ap (λ b. cond b w e.1) (sym apart)
  behind false p q r = r

  by : (b : Bool) → bytes_eq name (f e.0) ≡ b
      → IsSome (cond b (Some e.1) (lookup (λ a. bytes_eq name (f a)) es))
      → (IsSome (lookup (λ a. bytes_eq name (f a)) es)
      → unwrap_or (lookup (λ a. bytes_eq x (f a)) (set_value (λ a. bytes_eq name (f a)) es w)) None ≡ cond (bytes_eq name x) w (unwrap_or (lookup (λ a. bytes_eq x (f a)) es) None))
      → unwrap_or (lookup (λ a. bytes_eq x (f a)) (cond b ((e.0, w) ∷ es) (e ∷ set_value (λ a. bytes_eq name (f a)) es w))) None ≡ cond (bytes_eq name x) w (unwrap_or (cond (bytes_eq x (f e.0)) (Some e.1) (lookup (λ a. bytes_eq x (f a)) es)) None)
  by true p h r = here (bytes_eq x (f e.0)) p refl
  by false p h r = behind (bytes_eq x (f e.0)) p refl (r h)

-- the same, where the key is of this name
pub written_name : {K : Type 0} (f : K → List ℕ) (es : List (K × Option ℕ)) (key name : List ℕ) (w : Option ℕ) (x : List ℕ) → key ≡ name → IsSome (lookup (λ a. bytes_eq name (f a)) es)
    → unwrap_or (lookup (λ a. bytes_eq x (f a)) (set_value (λ a. bytes_eq key (f a)) es w)) None ≡ cond (bytes_eq name x) w (unwrap_or (lookup (λ a. bytes_eq x (f a)) es) None)
written_name f es key name w x e h = rw e (written f es name w x h)

-- ---- last places

later_next : (b h : Bool) (n : ℕ) (l : Option ℕ) → later (cond b (Some n) l) h ≡ cond b (Some (suc n)) (later l h)
later_next true h n l = refl
later_next false h n l = refl

-- the last place once a name is added
pub next : (names : List (List ℕ)) (y x : List ℕ) → last_place (names ++ y ∷ []) x ≡ cond (bytes_eq y x) (Some (length names)) (last_place names x)
next [] y x = ap (λ b. cond b (Some 0) None) (turned x y)
next (z ∷ zs) y x = ap (λ l. later l (bytes_eq x z)) (next zs y x) ∙ later_next (bytes_eq y x) (bytes_eq x z) (length zs) (last_place zs x)

pub within : (names : List (List ℕ)) (x : List ℕ) → IfSome (last_place names x) (λ place. place < length names)
within [] x = tt
within (y ∷ ys) x = by (last_place ys x) (bytes_eq x y) (within ys x) where
  by : (l : Option ℕ) (b : Bool) → IfSome l (λ place. place < length ys) → IfSome (later l b) (λ place. place < length (y ∷ ys))
  by (Some p) b h = omega arith
  by None true h = omega arith
  by None false h = tt

later_any : (l : Option ℕ) (b c : Bool) → is_some l ≡ c → is_some (later l b) ≡ (b || c)
later_any (Some p) true c h = refl
later_any (Some p) false c h = h
later_any None true c h = refl
later_any None false c h = h

-- A name has a last place exactly where it stands in the list.
pub among : (names : List (List ℕ)) (x : List ℕ) → is_some (last_place names x) ≡ list_any (λ y. bytes_eq x y) names
among [] x = refl
among (y ∷ ys) x = later_any (last_place ys x) (bytes_eq x y) (list_any (λ y. bytes_eq x y) ys) (among ys x)

-- the hidden places once a name is added
pub one_more : (front names : List (List ℕ)) (x : List ℕ) → places_before front (names ++ x ∷ []) ≡ places_before front names ++ last_place (front ++ names) x ∷ []
one_more front [] x = ap (λ z. last_place z x ∷ []) (sym (append-nil front))
one_more front (y ∷ ys) x =
    ap (λ z. last_place front y ∷ z) (one_more (front ++ y ∷ []) ys x ∙ ap (λ z. places_before (front ++ y ∷ []) ys ++ last_place z x ∷ []) (append_assoc front (y ∷ []) ys))

-- ---- what is kept

-- a name is added
pub pushed : (old new : List ℕ → Option ℕ) (hidden : List (Option ℕ)) (names : List (List ℕ)) (x : List ℕ) (before : Option ℕ) → Kept old hidden names → before ≡ old x
    → ((y : List ℕ) → new y ≡ cond (bytes_eq x y) (Some (length names)) (old y)) → Kept new (hidden ++ before ∷ []) (names ++ x ∷ [])
pushed old new hidden names x before kept e says = (
  λ y. says y ∙ (ap (λ l. cond (bytes_eq x y) (Some (length names)) l) (kept.0 y) ∙ sym (next names x y)),
  ap (λ h. h ++ before ∷ []) kept.1 ∙ (ap (λ b. places_before [] names ++ b ∷ []) (e ∙ kept.0 x) ∙ sym (one_more [] names x)),
)

cut : (b : Bool) (before k l : Option ℕ) → (b ≡ true → before ≡ l) → cond b before (cond b k l) ≡ l
cut true before k l h = h refl
cut false before k l h = refl

-- the last name is taken away
pub popped : (old new : List ℕ → Option ℕ) (hidden left : List (Option ℕ)) (names : List (List ℕ)) (x : List ℕ) (before : Option ℕ) → Kept old hidden (names ++ x ∷ [])
    → hidden ≡ left ++ before ∷ [] → ((y : List ℕ) → new y ≡ cond (bytes_eq x y) before (old y)) → Kept new left names
popped old new hidden left names x before kept e says =
    let both = last_of left (places_before [] names) before (last_place names x) (sym e ∙ (kept.1 ∙ one_more [] names x)) in (
      λ y. says y ∙ (ap (λ l. cond (bytes_eq x y) before l) (kept.0 y ∙ next names x y)
          ∙ cut (bytes_eq x y) before (Some (length names)) (last_place names y) (λ q. both.1 ∙ ap (λ z. last_place names z) (same x y q))),
      both.0,
    )
  where
    last_of : (xs ys : List (Option ℕ)) (x y : Option ℕ) → xs ++ x ∷ [] ≡ ys ++ y ∷ [] → (xs ≡ ys) × (x ≡ y)
    last_of [] [] x y h = let e : x ≡ y = cc in (refl, e)
    last_of [] (z ∷ []) x y h = absurd (cc)
    last_of [] (z ∷ w ∷ zs) x y h = absurd (cc)
    last_of (z ∷ []) [] x y h = absurd (cc)
    last_of (z ∷ w ∷ zs) [] x y h = absurd (cc)
    last_of (v ∷ vs) (w ∷ ws) x y h =
        let a : v ≡ w = cc in
        let b : vs ++ x ∷ [] ≡ ws ++ y ∷ [] = cc in
        let r = last_of vs ws x y b in
        let c : v ∷ vs ≡ w ∷ ws = cc in
        (c, r.1)

-- What the last name hid is popped with it.
pub hid : (old : List ℕ → Option ℕ) (hidden left : List (Option ℕ)) (names : List (List ℕ)) (x : List ℕ) (r : Option (Option ℕ)) (uncovered : Option ℕ) (n : ℕ) → Kept old hidden (names ++ x ∷ [])
    → hidden ≡ left ++ option_to_list r → IsSome r ↔ (0 < n) → n ≡ length hidden → uncovered ≡ unwrap_or r None → hidden ≡ left ++ uncovered ∷ []
hid old hidden left names x (Some l) uncovered n kept e v m u = e ∙ ap (λ z. left ++ z ∷ []) (sym u)
hid old hidden left names x None uncovered n kept e v m u =
    let more : length hidden ≡ length (places_before [] names) + 1 = ap (λ z. length z) (kept.1 ∙ one_more [] names x) ∙ length-append (places_before [] names) (last_place names x ∷ []) in
    let some : 0 < n = omega arith in
    let no : false ≡ true = v.1 some in
    cc

pub at_end : {A : Type 0} (names longer : List A) (x z : A) (n : ℕ) → longer ≡ names ++ x ∷ [] → n ≡ length names → z ≡ get_or longer n z → z ≡ x
at_end {A} names longer x z n e m g = g ∙ (ap (λ l. get_or l n z) e ∙ (ap (λ k. get_or (names ++ x ∷ []) k z) m ∙ here names)) where
  here : (ys : List A) → get_or (ys ++ x ∷ []) (length ys) z ≡ x
  here [] = refl
  here (y ∷ ys) = here ys

pub found : (place : Option ℕ) (names seen : List (List ℕ)) (x : List ℕ) → place ≡ last_place names x → names ≡ seen → IfSome place (λ p. p < length seen)
found place names seen x e f = subst (λ (o : Option ℕ). IfSome o (λ p. p < length seen)) (sym e) (subst (λ (z : List (List ℕ)). IfSome (last_place names x) (λ p. p < length z)) f (within names x))

-- the texts of names, of which one is added
pub texts_more : (names : List Name) (x : Name) → texts (names ++ x ∷ []) ≡ texts names ++ x.bytes ∷ []
texts_more [] x = refl
texts_more (y ∷ ys) x = ap (λ z. y.bytes ∷ z) (texts_more ys x)

-- there is room for the place of a name that stands last
pub roomy : (r : Option (Option ℕ)) (names front : List (List ℕ)) (x : List ℕ) → unwrap_or r None ≡ last_place names x → names ≡ front ++ x ∷ [] → IsSome r
roomy (Some l) names front x h e = refl
roomy None names front x h e =
    let l : last_place names x ≡ Some (length front) = ap (λ z. last_place z x) e ∙ (next front x x ∙ ap (λ b. cond b (Some (length front)) (last_place front x)) (itself x x refl)) in
    cc
