-- Fields, entries and methods in order, as one insertion in order.
use Rattle.std.proofs.Common.{◌≡◌, ℕ, Bool, true, false, cond, nat_eq, nat_lt, List, [], ◌∷◌, map, reverse, refl, sym, ap, ◌∙◌, subst, ◌≤◌, length, take, Result, Ok, Err, IfOk, zero, suc, arith}
use Rattle.std.specs.Cmp.{IsStrictWeakOrder}
use Rattle.std.specs.Cmp.Lexicographic.{slice_cmp, nat_list_cmp_total}
use Rattle.std.specs.Ordering.{is_lt, nat_cmp, ordering_then}
use Rattle.std.specs.declared.cmp.Ordering.TheVariants.{Less, Equal, Greater}
use Rattle.std.proofs.lemmas.Cmp.{nat_cmp_total}
use Rattle.std.specs.List.Sorted.{IsSortedBy, IsStableBy}
use Rattle.std.proofs.lemmas.List.Sorted.{ranks_by}
use Rattle.mo_types.specs.declared.node.Field.{Field}
use Rattle.mo_types.specs.declared.wire.Entry.{Entry}
use Rattle.mo_types.specs.declared.wire.Method.{Method}
use Rattle.mo_types.specs.Label.{label_id}
use Rattle.mo_types.specs.Values.{insert_field, by_label}
use Rattle.mo_types.specs.Wire.{name_before, insert_method, by_name}
use Rattle.mo_num.specs.declared.memory.Memory.{Memory}
use Rattle.mo_types.specs.declared.node.TypeId.{TypeId}
use Rattle.mo_types.specs.declared.wire.Ref.{Ref}
use Rattle.mo_types.specs.Wire.{map_entry, map_method, method_of}
use Rattle.candid_types.specs.Shapes.{insert_entry, by_id, ref_of}
use Rattle.candid_types.proofs.Sorting.{inserted, in_order, sorted_is, map_in_order}

module _ {A : Type 0} where
  abbrev pub label_before : Field A → Field A → Bool
  label_before f g = nat_lt (label_id f.label) (label_id g.label)

  abbrev pub id_before : Entry A → Entry A → Bool
  id_before e f = nat_lt e.id f.id

  abbrev pub method_before : Method A → Method A → Bool
  method_before m n = name_before m.name n.name

  insert_field_is : (f : Field A) (fs : List (Field A)) → insert_field f fs ≡ inserted label_before f fs
  insert_field_is f [] = refl
  insert_field_is f (g ∷ gs) = ap (λ l. cond (label_before f g) (f ∷ g ∷ gs) (g ∷ l)) (insert_field_is f gs)

  pub by_label_is : (fs : List (Field A)) → by_label fs ≡ in_order label_before fs
  by_label_is [] = refl
  by_label_is (f ∷ fs) = insert_field_is f (by_label fs) ∙ ap (inserted label_before f) (by_label_is fs)

  insert_method_is : (m : Method A) (ms : List (Method A)) → insert_method m ms ≡ inserted method_before m ms
  insert_method_is m [] = refl
  insert_method_is m (n ∷ ns) = ap (λ l. cond (method_before m n) (m ∷ n ∷ ns) (n ∷ l)) (insert_method_is m ns)

  pub by_name_is : (ms : List (Method A)) → by_name ms ≡ in_order method_before ms
  by_name_is [] = refl
  by_name_is (m ∷ ms) = insert_method_is m (by_name ms) ∙ ap (inserted method_before m) (by_name_is ms)

insert_entry_is : (e : Entry ℕ) (es : List (Entry ℕ)) → insert_entry e es ≡ inserted id_before e es
insert_entry_is e [] = refl
insert_entry_is e (f ∷ fs) = ap (λ l. cond (id_before e f) (e ∷ f ∷ fs) (f ∷ l)) (insert_entry_is e fs)

pub by_id_is : (es : List (Entry ℕ)) → by_id es ≡ in_order id_before es
by_id_is [] = refl
by_id_is (e ∷ es) = insert_entry_is e (by_id es) ∙ ap (inserted id_before e) (by_id_is es)

-- the orders that the sorts are told
cmp_lt : (b c : Bool) → is_lt (cond b Less (cond c Equal Greater)) ≡ b
cmp_lt true c = refl
cmp_lt false true = refl
cmp_lt false false = refl

pub nat_cmp_lt : (x y : ℕ) → is_lt (nat_cmp x y) ≡ nat_lt x y
nat_cmp_lt x y = cmp_lt (nat_lt x y) (nat_eq x y)

pub names_lt : (m n : List ℕ) → is_lt (slice_cmp nat_cmp m n) ≡ name_before m n
names_lt [] [] = refl
names_lt [] (c ∷ cs) = refl
names_lt (b ∷ bs) [] = refl
names_lt (b ∷ bs) (c ∷ cs) = by (nat_lt b c) (nat_eq b c) (names_lt bs cs) where
  by : (l e : Bool) → is_lt (slice_cmp nat_cmp bs cs) ≡ name_before bs cs → is_lt (ordering_then (cond l Less (cond e Equal Greater)) (slice_cmp nat_cmp bs cs)) ≡ cond l true (cond e (name_before bs cs) false)
  by true e k = refl
  by false true k = k
  by false false k = refl

abbrev id_lt : Entry ℕ → Entry ℕ → Bool
id_lt e f = is_lt (nat_cmp e.id f.id)

pub sorted_entries : (es rs fs : List (Entry ℕ)) → rs ≡ reverse es → IsSortedBy id_lt fs → IsStableBy id_lt rs fs → fs ≡ by_id es
sorted_entries es rs fs e s t = sorted_is id_lt rank es fs s (subst (λ l. IsStableBy id_lt l fs) e t) ∙ same es ∙ sym (by_id_is es) where
  rank : IsStrictWeakOrder id_lt
  rank = ranks_by nat_cmp_total (λ (e : Entry ℕ). e.id)

  one : (e : Entry ℕ) (gs : List (Entry ℕ)) → inserted id_lt e gs ≡ inserted id_before e gs
  one e [] = refl
  one e (g ∷ gs) = ap (λ b. cond b (e ∷ g ∷ gs) (g ∷ inserted id_lt e gs)) (nat_cmp_lt e.id g.id) ∙ ap (λ l. cond (id_before e g) (e ∷ g ∷ gs) (g ∷ l)) (one e gs)

  same : (gs : List (Entry ℕ)) → in_order id_lt gs ≡ in_order id_before gs
  same [] = refl
  same (g ∷ gs) = one g (in_order id_lt gs) ∙ ap (inserted id_before g) (same gs)

abbrev name_lt : Method ℕ → Method ℕ → Bool
name_lt m n = is_lt (slice_cmp nat_cmp m.name n.name)

pub names_rank : IsStrictWeakOrder name_lt
names_rank = ranks_by nat_list_cmp_total (λ (m : Method ℕ). m.name)

pub sorted_methods : (ms rs ns : List (Method ℕ)) → rs ≡ reverse ms → IsSortedBy name_lt ns → IsStableBy name_lt rs ns → ns ≡ by_name ms
sorted_methods ms rs ns e s t = sorted_is name_lt names_rank ms ns s (subst (λ l. IsStableBy name_lt l ns) e t) ∙ same ms ∙ sym (by_name_is ms) where
  one : (m : Method ℕ) (gs : List (Method ℕ)) → inserted name_lt m gs ≡ inserted method_before m gs
  one m [] = refl
  one m (g ∷ gs) = ap (λ b. cond b (m ∷ g ∷ gs) (g ∷ inserted name_lt m gs)) (names_lt m.name g.name) ∙ ap (λ l. cond (method_before m g) (m ∷ g ∷ gs) (g ∷ l)) (one m gs)

  same : (gs : List (Method ℕ)) → in_order name_lt gs ≡ in_order method_before gs
  same [] = refl
  same (g ∷ gs) = one g (in_order name_lt gs) ∙ ap (inserted method_before g) (same gs)

pub take_whole : {X : Type 0} (xs : List X) (n : ℕ) → length xs ≤ n → take n xs ≡ xs
take_whole [] zero h = refl
take_whole [] (suc n) h = refl
take_whole (x ∷ xs) zero h = absurd (omega arith)
take_whole (x ∷ xs) (suc n) h = ap (λ l. x ∷ l) (take_whole xs n (omega arith))

-- the parts of the fields, once those are in order
pub entries_in_order : (part : Field TypeId → Entry (Ref TypeId)) → ((f g : Field TypeId) → id_before (part f) (part g) ≡ label_before f g) → (es : List (Entry ℕ)) (fs : List (Field TypeId)) (n : ℕ) →
    map (map_entry ref_of) es ≡ map part (take n fs) → length fs ≤ n → (r : Result (List (Entry ℕ)) Memory) → IfOk r (λ made. made ≡ by_id es) → IfOk r (λ made. map (map_entry ref_of) made ≡ map part (by_label fs))
entries_in_order part keeps es fs n h l (Err e) g = tt
entries_in_order part keeps es fs n h l (Ok made) g =
    ap (map (map_entry ref_of)) (g ∙ by_id_is es) ∙ map_in_order id_before id_before (map_entry ref_of) (λ x y. refl) es ∙ ap (in_order id_before) (h ∙ ap (map part) (take_whole fs n l)) ∙ sym (map_in_order label_before id_before part keeps fs)
    ∙ sym (ap (map part) (by_label_is fs))

pub methods_in_order : (ms : List (Method ℕ)) (fs : List (Field TypeId)) (n : ℕ) →
    map (map_method ref_of) ms ≡ map method_of (take n fs) → length fs ≤ n → (r : Result (List (Method ℕ)) Memory) → IfOk r (λ made. made ≡ by_name ms) → IfOk r (λ made. map (map_method ref_of) made ≡ by_name (map method_of fs))
methods_in_order ms fs n h l (Err e) g = tt
methods_in_order ms fs n h l (Ok made) g =
    ap (map (map_method ref_of)) (g ∙ by_name_is ms) ∙ map_in_order method_before method_before (map_method ref_of) (λ x y. refl) ms ∙ ap (in_order method_before) (h ∙ ap (map method_of) (take_whole fs n l)) ∙ sym (by_name_is (map method_of fs))
