-- The ids and names of sound types rise.
use Rattle.std.proofs.Common.{◌≡◌, ◌≢◌, ℕ, ◌+◌, ◌<◌, ◌≤◌, Bool, true, false, cond, List, [], ◌∷◌, map, refl, sym, ap, ◌∙◌, arith}
use Rattle.std.specs.Prelude.{nat_lt, nat_eq}
use Rattle.std.proofs.lemmas.Bool.{ltb-true, ltb-false, lt-ltb, le-ltb, eqb-true, eq-eqb}
use Rattle.mo_types.specs.declared.node.Node.{Node}
use Rattle.mo_types.specs.declared.node.Node.TheVariants as node
use Rattle.mo_types.specs.declared.node.Field.{Field}
use Rattle.mo_types.specs.declared.node.Sort.TheVariants as sort
use Rattle.mo_types.specs.declared.wire.Entry.{Entry}
use Rattle.mo_types.specs.declared.wire.Method.{Method}
use Rattle.mo_types.specs.declared.wire.Wire.{Wire}
use Rattle.mo_types.specs.declared.wire.Wire.TheVariants.{Record, Variant, Service}
use Rattle.mo_types.specs.declared.wire.Ref.{Ref}
use Rattle.mo_types.specs.declared.wire.Ref.TheVariants.{Of, Just}
use Rattle.mo_types.specs.Sub.{Each}
use Rattle.mo_types.specs.Label.{label_id}
use Rattle.mo_types.specs.Wire.{name_before, insert_method, by_name, numbered, method_of, payload, wire, wire_of_node}
use Rattle.mo_types.specs.Values.{insert_field, by_label}
use Rattle.mo_types.specs.Header.{RisingIds, RisingNames, IsFunction}
use Rattle.candid_laws.specs.Sound.{Distinct, IsShared, IsWellLabelled}

each_map : {X Y : Type 0} (P : Y → Type 0) (f : X → Y) (xs : List X) → Each P (map f xs) → Each (λ x. P (f x)) xs
each_map P f [] h = tt
each_map P f (x ∷ xs) h = (h.0, each_map P f xs h.1)

map_each : {X Y : Type 0} (P : Y → Type 0) (f : X → Y) (xs : List X) → Each (λ x. P (f x)) xs → Each P (map f xs)
map_each P f [] h = tt
map_each P f (x ∷ xs) h = (h.0, map_each P f xs h.1)

-- ---- fields by the numbers of their labels

module _ {A : Type 0} where
  each_insert : (P : Field A → Type 0) (f : Field A) (gs : List (Field A)) → P f → Each P gs → Each P (insert_field f gs)
  each_insert P f [] h k = (h, tt)
  each_insert P f (g ∷ gs) h k = by (nat_lt (label_id f.label) (label_id g.label)) (each_insert P f gs h k.1) where
    by : (b : Bool) → Each P (insert_field f gs) → Each P (cond b (f ∷ g ∷ gs) (g ∷ insert_field f gs))
    by true i = (h, k)
    by false i = (k.0, i)

  each_by_label : (P : Field A → Type 0) (fs : List (Field A)) → Each P fs → Each P (by_label fs)
  each_by_label P [] h = tt
  each_by_label P (f ∷ fs) h = each_insert P f (by_label fs) h.0 (each_by_label P fs h.1)

  -- rising from above a number
  abbrev Above : ℕ → List (Field A) → Type 0
  Above k [] = Unit {0}
  Above k (f ∷ fs) = (k < label_id f.label) × Above (label_id f.label) fs

  abbrev Rises : List (Field A) → Type 0
  Rises [] = Unit {0}
  Rises (f ∷ fs) = Above (label_id f.label) fs

  abbrev IsOther : Field A → Field A → Type 0
  IsOther f g = label_id f.label ≢ label_id g.label

  above_insert : (k : ℕ) (f : Field A) (gs : List (Field A)) → k < label_id f.label → Each (IsOther f) gs → Above k gs → Above k (insert_field f gs)
  above_insert k f [] h d a = (h, tt)
  above_insert k f (g ∷ gs) h d a = by (nat_lt (label_id f.label) (label_id g.label)) refl (λ l. above_insert (label_id g.label) f gs l d.1 a.1) where
    by : (b : Bool) → nat_lt (label_id f.label) (label_id g.label) ≡ b → (label_id g.label < label_id f.label → Above (label_id g.label) (insert_field f gs)) → Above k (cond b (f ∷ g ∷ gs) (g ∷ insert_field f gs))
    by true e i = (h, (ltb-true _ _ e, a.1))
    by false e i =
        let le : label_id g.label ≤ label_id f.label = ltb-false (label_id f.label) (label_id g.label) e in
        let ne : label_id f.label ≢ label_id g.label = d.0 in
        let lt : label_id g.label < label_id f.label = omega arith in
        (a.0, i lt)

  rises_insert : (f : Field A) (gs : List (Field A)) → Each (IsOther f) gs → Rises gs → Rises (insert_field f gs)
  rises_insert f [] d a = tt
  rises_insert f (g ∷ gs) d a = by (nat_lt (label_id f.label) (label_id g.label)) refl where
    by : (b : Bool) → nat_lt (label_id f.label) (label_id g.label) ≡ b → Rises (cond b (f ∷ g ∷ gs) (g ∷ insert_field f gs))
    by true e = (ltb-true _ _ e, a)
    by false e =
        let le : label_id g.label ≤ label_id f.label = ltb-false (label_id f.label) (label_id g.label) e in
        let ne : label_id f.label ≢ label_id g.label = d.0 in
        let lt : label_id g.label < label_id f.label = omega arith in
        above_insert (label_id g.label) f gs lt d.1 a

  by_label_rises : (fs : List (Field A)) → Distinct (map (λ (f : Field A). label_id f.label) fs) → Rises (by_label fs)
  by_label_rises [] d = tt
  by_label_rises (f ∷ fs) d = rises_insert f (by_label fs) (each_by_label (IsOther f) fs (each_map (λ (y : ℕ). label_id f.label ≢ y) (λ (g : Field A). label_id g.label) fs d.0)) (by_label_rises fs d.1)

  module _ (part : Field A → Ref A) where
    abbrev entry : Field A → Entry (Ref A)
    entry f = record { id = label_id f.label; part = part f }

    above_ids : (f : Field A) (fs : List (Field A)) → Above (label_id f.label) fs → RisingIds (map entry (f ∷ fs))
    above_ids f [] a = tt
    above_ids f (g ∷ gs) a = (a.0, above_ids g gs a.1)

    rising_ids : (fs : List (Field A)) → Rises fs → RisingIds (map entry fs)
    rising_ids [] a = tt
    rising_ids (f ∷ fs) a = above_ids f fs a

  rising_numbers : (n : ℕ) (ts : List A) → RisingIds (numbered n ts)
  rising_numbers n [] = tt
  rising_numbers n (t ∷ []) = tt
  rising_numbers n (t ∷ u ∷ ts) = (omega arith, rising_numbers (n + 1) (u ∷ ts))

-- ---- methods by name

before_or_after : (m n : List ℕ) → m ≢ n → name_before m n ≡ false → name_before n m ≡ true
before_or_after [] [] d e = absurd (d refl)
before_or_after [] (c ∷ cs) d e = let f : true ≡ false = e in cc
before_or_after (b ∷ bs) [] d e = refl
before_or_after (b ∷ bs) (c ∷ cs) d e = by (nat_lt b c) (nat_eq b c) refl refl e (λ o r. before_or_after bs cs o r) where
  by : (x y : Bool) → nat_lt b c ≡ x → nat_eq b c ≡ y → cond x true (cond y (name_before bs cs) false) ≡ false → (bs ≢ cs → name_before bs cs ≡ false → name_before cs bs ≡ true) → name_before (c ∷ cs) (b ∷ bs) ≡ true
  by true y p q r i = let f : true ≡ false = r in cc
  by false true p q r i =
      let same : b ≡ c = eqb-true b c q in
      let other : bs ≢ cs = λ z. d (ap (λ (k : ℕ). k ∷ bs) same ∙ ap (λ (l : List ℕ). c ∷ l) z) in
      let lt : nat_lt c b ≡ false = le-ltb c b (omega arith) in
      let eq : nat_eq c b ≡ true = eq-eqb c b (sym same) in
      ap (λ (x : Bool). cond x true (cond (nat_eq c b) (name_before cs bs) false)) lt ∙ ap (λ (x : Bool). cond x (name_before cs bs) false) eq ∙ i other r
  by false false p q r i =
      let le : c ≤ b = ltb-false b c p in
      let ne : b ≢ c = λ z. let f : nat_eq b c ≡ true = eq-eqb b c z in let g = q in cc in
      let lt : nat_lt c b ≡ true = lt-ltb c b (omega arith) in
      ap (λ (x : Bool). cond x true (cond (nat_eq c b) (name_before cs bs) false)) lt

module _ {B : Type 0} where
  each_name : (P : Method B → Type 0) (m : Method B) (ns : List (Method B)) → P m → Each P ns → Each P (insert_method m ns)
  each_name P m [] h k = (h, tt)
  each_name P m (n ∷ ns) h k = by (name_before m.name n.name) (each_name P m ns h k.1) where
    by : (b : Bool) → Each P (insert_method m ns) → Each P (cond b (m ∷ n ∷ ns) (n ∷ insert_method m ns))
    by true i = (h, k)
    by false i = (k.0, i)

  each_by_name : (P : Method B → Type 0) (ms : List (Method B)) → Each P ms → Each P (by_name ms)
  each_by_name P [] h = tt
  each_by_name P (m ∷ ms) h = each_name P m (by_name ms) h.0 (each_by_name P ms h.1)

  abbrev After : List ℕ → List (Method B) → Type 0
  After k [] = Unit {0}
  After k (m ∷ ms) = (name_before k m.name ≡ true) × After m.name ms

  abbrev InOrder : List (Method B) → Type 0
  InOrder [] = Unit {0}
  InOrder (m ∷ ms) = After m.name ms

  abbrev IsAnother : Method B → Method B → Type 0
  IsAnother m n = m.name ≢ n.name

  after_insert : (k : List ℕ) (m : Method B) (ns : List (Method B)) → name_before k m.name ≡ true → Each (IsAnother m) ns → After k ns → After k (insert_method m ns)
  after_insert k m [] h d a = (h, tt)
  after_insert k m (n ∷ ns) h d a = by (name_before m.name n.name) refl (λ l. after_insert n.name m ns l d.1 a.1) where
    by : (b : Bool) → name_before m.name n.name ≡ b → (name_before n.name m.name ≡ true → After n.name (insert_method m ns)) → After k (cond b (m ∷ n ∷ ns) (n ∷ insert_method m ns))
    by true e i = (h, (e, a.1))
    by false e i = (a.0, i (before_or_after m.name n.name d.0 e))

  order_insert : (m : Method B) (ns : List (Method B)) → Each (IsAnother m) ns → InOrder ns → InOrder (insert_method m ns)
  order_insert m [] d a = tt
  order_insert m (n ∷ ns) d a = by (name_before m.name n.name) refl where
    by : (b : Bool) → name_before m.name n.name ≡ b → InOrder (cond b (m ∷ n ∷ ns) (n ∷ insert_method m ns))
    by true e = (e, a)
    by false e = after_insert n.name m ns (before_or_after m.name n.name d.0 e) d.1 a

  by_name_order : (ms : List (Method B)) → Distinct (map (λ (m : Method B). m.name) ms) → InOrder (by_name ms)
  by_name_order [] d = tt
  by_name_order (m ∷ ms) d = order_insert m (by_name ms) (each_by_name (IsAnother m) ms (each_map (λ (y : List ℕ). m.name ≢ y) (λ (n : Method B). n.name) ms d.0)) (by_name_order ms d.1)

  after_names : (m : Method B) (ms : List (Method B)) → After m.name ms → RisingNames (m ∷ ms)
  after_names m [] a = tt
  after_names m (n ∷ ns) a = (a.0, after_names n ns a.1)

  rising_names : (ms : List (Method B)) → InOrder ms → RisingNames ms
  rising_names [] a = tt
  rising_names (m ∷ ms) a = after_names m ms a

method_labels : {A : Type 0} (fs : List (Field A)) → Distinct (map (λ (f : Field A). f.label) fs) → Distinct (map (λ (m : Method (Ref A)). m.name) (map method_of fs))
method_labels [] d = tt
method_labels (f ∷ fs) d = (each_labels f.label fs d.0, method_labels fs d.1) where
  each_labels : {A : Type 0} (l : List ℕ) (fs : List (Field A)) → Each (λ y. l ≢ y) (map (λ (f : Field A). f.label) fs) → Each (λ y. l ≢ y) (map (λ (m : Method (Ref A)). m.name) (map method_of fs))
  each_labels l [] d = tt
  each_labels l (f ∷ fs) d = (d.0, each_labels l fs d.1)

-- ---- heads

-- what a table wants of a head
abbrev pub IsSoundWire : {B : Type 0} → (B → Wire B) → Wire B → Type 0
IsSoundWire head (Record es) = RisingIds es
IsSoundWire head (Variant es) = RisingIds es
IsSoundWire head (Service ms) = RisingNames ms × Each (λ m. IsFunction (head m.part)) ms
IsSoundWire head _ = Unit {0}

module _ {A : Type 0} (head : A → Node A) where
  shared_function : (n : Node A) → IsShared n → IsFunction (wire_of_node head n)
  shared_function (node.Func sort.Shared ps rs) h = tt
  shared_function (node.Func sort.Query ps rs) h = tt
  shared_function n h = absurd h

  node_sound : (n : Node A) → IsWellLabelled head n → IsSoundWire (wire head) (wire_of_node head n)
  node_sound (node.Tuple ts) h = rising_numbers 0 ts
  node_sound (node.Object fs) h = rising_ids (λ f. Of f.part) (by_label fs) (by_label_rises fs h)
  node_sound (node.Variant fs) h = rising_ids (λ f. payload head f.part) (by_label fs) (by_label_rises fs h)
  node_sound (node.Actor fs) h = (
    rising_names (by_name (map method_of fs)) (by_name_order (map method_of fs) (method_labels fs h.0)),
    each_by_name (λ m. IsFunction (wire head m.part)) (map method_of fs) (map_each (λ m. IsFunction (wire head m.part)) method_of fs (shared_each fs h.1)),
  )
    where
      shared_each : (fs : List (Field A)) → Each (λ f. IsShared (head f.part)) fs → Each (λ f. IsFunction (wire_of_node head (head f.part))) fs
      shared_each [] k = tt
      shared_each (f ∷ fs) k = (shared_function (head f.part) k.0, shared_each fs k.1)
  node_sound (node.Func sort.Local ps rs) h = tt
  node_sound (node.Func sort.Shared ps rs) h = tt
  node_sound (node.Func sort.Query ps rs) h = tt
  node_sound n h = tt

  pub ref_sound : (r : Ref A) → ((t : A) → r ≡ Of t → IsWellLabelled head (head t)) → IsSoundWire (wire head) (wire head r)
  ref_sound (Of t) h = node_sound (head t) (h t refl)
  ref_sound (Just p) h = tt
