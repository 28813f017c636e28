-- Headers go along functions that keep heads.
use Rattle.std.proofs.Common.{◌≡◌, ℕ, suc, List, [], ◌∷◌, ◌++◌, length, map, Option, Some, None, slice_get, refl, sym, ap, ◌∙◌, subst}
use Rattle.std.specs.Option.{option_map}
use Rattle.std.proofs.lemmas.Option.{slice_get-map}
use Rattle.std.proofs.lemmas.List.{map_push}
use Rattle.mo_types.specs.declared.wire.Entry.{Entry}
use Rattle.mo_types.specs.declared.wire.Method.{Method}
use Rattle.mo_types.specs.declared.wire.Wire.{Wire}
use Rattle.mo_types.specs.declared.wire.Wire.TheVariants.{Simple, Opt, Vec, Record, Variant, Func, Service}
use Rattle.mo_types.specs.Wire.{map_entry, map_method, map_wire, SameWire}
use Rattle.mo_types.specs.Spelling.{Numbers, Then}
use Rattle.mo_types.specs.Header.{IsEach, IsList, IsField, IsMethod, IsEntry, IsHeader, IsSimple, parts_of, IsAt, Visits, Done, Skip, Old, New, RefBy, IsRef, IsCanonical}
use Rattle.candid_types.proofs.Natural.{same_wire_to, same_wire_from}

length_map : {X Y : Type 0} (f : X → Y) (xs : List X) → length (map f xs) ≡ length xs
length_map f [] = refl
length_map f (x ∷ xs) = ap suc (length_map f xs)

map_append : {X Y : Type 0} (f : X → Y) (xs ys : List X) → map f (xs ++ ys) ≡ map f xs ++ map f ys
map_append f [] ys = refl
map_append f (x ∷ xs) ys = ap (λ l. f x ∷ l) (map_append f xs ys)

map_twice : {X Y Z : Type 0} (f : X → Y) (g : Y → Z) (h : X → Z) → ((x : X) → g (f x) ≡ h x) → (xs : List X) → map g (map f xs) ≡ map h xs
map_twice f g h e [] = refl
map_twice f g h e (x ∷ xs) = ap (λ y. y ∷ map g (map f xs)) (e x) ∙ ap (λ l. h x ∷ l) (map_twice f g h e xs)

then_map : {P Q P' Q' : List ℕ → Type 0} → ((b : List ℕ) → P b → P' b) → ((b : List ℕ) → Q b → Q' b) → (b : List ℕ) → Then P Q b → Then P' Q' b
then_map f g b h = record { front = h.front; back = h.back; whole = h.whole; first = f h.front h.first; second = g h.back h.second }

each_map : {X Y : Type 0} (g : X → Y) (Item : X → List ℕ → Type 0) (Other : Y → List ℕ → Type 0) → ((x : X) (b : List ℕ) → Item x b → Other (g x) b) → (xs : List X) (b : List ℕ) → IsEach Item xs b → IsEach Other (map g xs) b
each_map g Item Other f [] b h = h
each_map g Item Other f (x ∷ xs) b h = then_map (f x) (each_map g Item Other f xs) b h

module _ (N : Numbers) where
  list_map : {X Y : Type 0} (g : X → Y) (Item : X → List ℕ → Type 0) (Other : Y → List ℕ → Type 0) → ((x : X) (b : List ℕ) → Item x b → Other (g x) b) → (xs : List X) (b : List ℕ) → IsList N Item xs b → IsList N Other (map g xs) b
  list_map g Item Other f xs b h = then_map (λ c k. subst (λ n. N.unsigned 32 c n) (sym (length_map g xs)) k) (each_map g Item Other f xs) b h

  module _ {A B : Type 0} (f : A → B) (Part : A → List ℕ → Type 0) (Image : B → List ℕ → Type 0) (keep : (a : A) (b : List ℕ) → Part a b → Image (f a) b) where
    entry_map : (w : Wire A) (b : List ℕ) → IsEntry N Part w b → IsEntry N Image (map_wire f w) b
    entry_map (Simple p) b h = h
    entry_map (Opt a) b h = then_map (λ c k. k) (keep a) b h
    entry_map (Vec a) b h = then_map (λ c k. k) (keep a) b h
    entry_map (Record es) b h = then_map (λ c k. k) (list_map (map_entry f) (λ e c. IsField N Part e c) (λ e c. IsField N Image e c) (λ e c k. then_map (λ d l. l) (keep e.part) c k) es) b h
    entry_map (Variant es) b h = then_map (λ c k. k) (list_map (map_entry f) (λ e c. IsField N Part e c) (λ e c. IsField N Image e c) (λ e c k. then_map (λ d l. l) (keep e.part) c k) es) b h
    entry_map (Func ps rs ns) b h = then_map (λ c k. k) (then_map (list_map f Part Image keep ps) (then_map (list_map f Part Image keep rs) (λ c k. k))) b h
    entry_map (Service ms) b h = then_map (λ c k. k) (list_map (map_method f) (λ m c. IsMethod N Part m c) (λ m c. IsMethod N Image m c) (λ m c k. then_map (λ d l. l) (keep m.part) c k) ms) b h

module _ {A B : Type 0} (f : A → B) (h : A → Wire A) (k : B → Wire B) (keeps : (a : A) → k (f a) ≡ map_wire f (h a)) where
  at_to : (order : List A) (a : A) (i : ℕ) → IsAt h order a i → IsAt k (map f order) (f a) i
  at_to order a i p = record { other = f p.other; there = slice_get-map f order i ∙ ap (option_map f) p.there; same = same_wire_from f f h h k k keeps keeps p.other a p.same }

  at_from : (order : List A) (a : A) (i : ℕ) → IsAt k (map f order) (f a) i → IsAt h order a i
  at_from order a i p = by (slice_get order i) refl where
    by : (o : Option A) → slice_get order i ≡ o → IsAt h order a i
    by None e = let g : None ≡ Some p.other = sym (ap (option_map f) e) ∙ sym (slice_get-map f order i) ∙ p.there in cc
    by (Some m) e =
        let g : Some (f m) ≡ Some p.other = sym (ap (option_map f) e) ∙ sym (slice_get-map f order i) ∙ p.there in
        let q : f m ≡ p.other = cc in
        record { other = m; there = e; same = same_wire_to f f h h k k keeps keeps m a (subst (λ z. SameWire k k z (f a)) (sym q) p.same) }

  simple_to : (w : Wire A) → IsSimple w → IsSimple (map_wire f w)
  simple_to (Simple p) s = tt
  simple_to (Opt a) s = s
  simple_to (Vec a) s = s
  simple_to (Record es) s = s
  simple_to (Variant es) s = s
  simple_to (Func ps rs ns) s = s
  simple_to (Service ms) s = s

  simple_from : (w : Wire A) → IsSimple (map_wire f w) → IsSimple w
  simple_from (Simple p) s = tt
  simple_from (Opt a) s = s
  simple_from (Vec a) s = s
  simple_from (Record es) s = s
  simple_from (Variant es) s = s
  simple_from (Func ps rs ns) s = s
  simple_from (Service ms) s = s

  entries_parts : (es : List (Entry A)) → map (λ e. e.part) (map (map_entry f) es) ≡ map f (map (λ e. e.part) es)
  entries_parts [] = refl
  entries_parts (e ∷ es) = ap (λ l. f e.part ∷ l) (entries_parts es)

  methods_parts : (ms : List (Method A)) → map (λ m. m.part) (map (map_method f) ms) ≡ map f (map (λ m. m.part) ms)
  methods_parts [] = refl
  methods_parts (m ∷ ms) = ap (λ l. f m.part ∷ l) (methods_parts ms)

  pub parts_along : (w : Wire A) → parts_of (map_wire f w) ≡ map f (parts_of w)
  parts_along (Simple p) = refl
  parts_along (Opt a) = refl
  parts_along (Vec a) = refl
  parts_along (Record es) = entries_parts es
  parts_along (Variant es) = entries_parts es
  parts_along (Func ps rs ns) = sym (map_append f ps rs)
  parts_along (Service ms) = methods_parts ms

  visits_along : {order todo out : List A} → Visits h order todo out → Visits k (map f order) (map f todo) (map f out)
  visits_along Done = Done
  visits_along (Skip t s v) = Skip (f t) (subst IsSimple (sym (keeps t)) (simple_to (h t) s)) (visits_along v)
  visits_along (Old {order = order} t p v) = Old (f t) (p.0, at_to order t p.0 p.1) (visits_along v)
  visits_along (New {order = order} {ts = ts} {out = out} t s n v) =
      New (f t) (λ u. s (simple_from (h t) (subst IsSimple (keeps t) u))) (λ p. n (p.0, at_from order t p.0 p.1))
      (subst (λ l. Visits k l (parts_of (k (f t)) ++ map f ts) (map f out)) (map_push f order t)
      (subst (λ l. Visits k (map f (order ++ t ∷ [])) l (map f out)) (map_append f (parts_of (h t)) ts ∙ ap (λ l. l ++ map f ts) (sym (parts_along (h t)) ∙ ap parts_of (sym (keeps t)))) (visits_along v)))

  module _ (N : Numbers) (order : List A) where
    ref_by_along : (a : A) (w : Wire A) (b : List ℕ) → RefBy h N order a w b → RefBy k N (map f order) (f a) (map_wire f w) b
    ref_by_along a (Simple p) b r = r
    ref_by_along a (Opt x) b r = (r.0, at_to order a r.0 r.1, r.2)
    ref_by_along a (Vec x) b r = (r.0, at_to order a r.0 r.1, r.2)
    ref_by_along a (Record es) b r = (r.0, at_to order a r.0 r.1, r.2)
    ref_by_along a (Variant es) b r = (r.0, at_to order a r.0 r.1, r.2)
    ref_by_along a (Func ps rs ns) b r = (r.0, at_to order a r.0 r.1, r.2)
    ref_by_along a (Service ms) b r = (r.0, at_to order a r.0 r.1, r.2)

    ref_along : (a : A) (b : List ℕ) → IsRef h N order a b → IsRef k N (map f order) (f a) b
    ref_along a b r = subst (λ w. RefBy k N (map f order) (f a) w b) (sym (keeps a)) (ref_by_along a (h a) b r)

    pub header_along : (args : List A) (b : List ℕ) → IsHeader N (IsRef h N order) (map h order) args b → IsHeader N (IsRef k N (map f order)) (map k (map f order)) (map f args) b
    header_along args b r =
        subst (λ ws. IsHeader N (IsRef k N (map f order)) ws (map f args) b) (map_twice h (map_wire f) (λ a. k (f a)) (λ a. sym (keeps a)) order ∙ sym (map_twice f k (λ a. k (f a)) (λ a. refl) order))
        (then_map (λ c q. q) (then_map (list_map N (map_wire f) (λ w c. IsEntry N (IsRef h N order) w c) (λ w c. IsEntry N (IsRef k N (map f order)) w c) (entry_map N f (λ a c. IsRef h N order a c) (λ a c. IsRef k N (map f order) a c) ref_along) (map h order)) (list_map N f (λ a c. IsRef h N order a c) (λ a c. IsRef k N (map f order) a c) ref_along args)) b r)

  -- a canonical header goes along
  pub canonical_along : (N : Numbers) (args order : List A) (b : List ℕ) → Visits h [] args order → IsHeader N (IsRef h N order) (map h order) args b → IsCanonical k N (map f args) b
  canonical_along N args order b v r = record { order = map f order; visits = visits_along v; header = header_along N order args b r }
