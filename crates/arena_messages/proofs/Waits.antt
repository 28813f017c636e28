-- Values by their numbers stand for values: those inside a value, at the types that are asked for.
use Rattle.std.proofs.Common.{◌≡◌, ℕ, zero, suc, ◌<◌, ◌≤◌, List, [], ◌∷◌, ◌++◌, length, get_or, drop, map, Bool, true, false, cond, Option, Some, None, refl, sym, ap, ap₂, ◌∙◌, append_assoc}
use Rattle.std.specs.Prelude.{slice_get}
use Rattle.std.proofs.lemmas.List.{append-nil}
use Rattle.std.proofs.Math.ListN.{drop_of_length-le}
use Rattle.std.proofs.Math.Seq.{drop-cons}
use Rattle.std.specs.Str.{bytes_eq}
use Rattle.mo_types.specs.declared.node.Field.{Field}
use Rattle.mo_types.specs.declared.node.TypeId.{TypeId}
use Rattle.mo_types.specs.Heads.{map_option}
use Rattle.mo_types.specs.Values.{copies}
use Rattle.mo_values.specs.Messages.{under, labels, types, count}
use Rattle.mo_values.specs.Shapes.{Bytes, Shape, listed}
use Rattle.mo_machine.specs.Values.{Value, Code, shape_of, shapes_of}
use Rattle.value_arena.specs.declared.node.ValueId.{ValueId}
use Rattle.value_arena.specs.Growth as growth
use Rattle.value_arena.specs.Meaning.{value_at, values_at}
use Rattle.arena_messages.specs.declared.waiting.AtType.{AtType}
use Rattle.arena_messages.specs.Inside.{At, asked, both_there, in_fields}
use Rattle.arena_messages.specs.Waiting.{asked_ids, both_ids, field_ids, AreBelow, item, items}

pub counted : (vs : List Value) (ids : List ValueId) → count (shapes_of (values_at vs ids)) ≡ length ids
counted vs [] = refl
counted vs (id ∷ ids) = ap (λ n. suc n) (counted vs ids)

pub items_append : (vs : List Value) (xs ys : List AtType) → items vs (xs ++ ys) ≡ items vs xs ++ items vs ys
items_append vs [] ys = refl
items_append vs (x ∷ xs) ys = ap (λ l. item vs x ∷ l) (items_append vs xs ys)

pub below_append : (n : ℕ) (xs ys : List AtType) → AreBelow n xs → AreBelow n ys → AreBelow n (xs ++ ys)
below_append n [] ys h k = k
below_append n (x ∷ xs) ys h k = (h.0, below_append n xs ys h.1 k)

pub below_front : (n : ℕ) (xs ys : List AtType) → AreBelow n (xs ++ ys) → AreBelow n xs
below_front n [] ys h = tt
below_front n (x ∷ xs) ys h = (h.0, below_front n xs ys h.1)

pub below_back : (n : ℕ) (xs ys : List AtType) → AreBelow n (xs ++ ys) → AreBelow n ys
below_back n [] ys h = h
below_back n (x ∷ xs) ys h = below_back n xs ys h.1

-- ---- the values inside

pub items_asked : (vs : List Value) (ts : List (Option TypeId)) (ids : List ValueId) → items vs (asked_ids ts ids) ≡ asked ts (shapes_of (values_at vs ids))
items_asked vs [] ids = refl
items_asked vs (t ∷ ts) [] = refl
items_asked vs (None ∷ ts) (id ∷ ids) = items_asked vs ts ids
items_asked vs (Some t ∷ ts) (id ∷ ids) = ap (λ l. item vs (record { of_type = t; value = id }) ∷ l) (items_asked vs ts ids)

pub asked_below : (n : ℕ) (ts : List (Option TypeId)) (ids : List ValueId) → growth.AreBelow n ids → AreBelow n (asked_ids ts ids)
asked_below n [] ids h = tt
asked_below n (t ∷ ts) [] h = tt
asked_below n (None ∷ ts) (id ∷ ids) h = asked_below n ts ids h.1
asked_below n (Some t ∷ ts) (id ∷ ids) h = (h.0, asked_below n ts ids h.1)

-- ---- fields

under_values : (vs : List Value) (l : Bytes) (ls : List Bytes) (ids : List ValueId)
    → map_option (λ id. shape_of (value_at vs id)) (under l ls ids) ≡ under l ls (listed (shapes_of (values_at vs ids)))
under_values vs l [] ids = refl
under_values vs l (m ∷ ls) [] = refl
under_values vs l (m ∷ ls) (id ∷ ids) = by (bytes_eq l m) (under_values vs l ls ids)
  where
    by : (b : Bool) → map_option (λ id. shape_of (value_at vs id)) (under l ls ids) ≡ under l ls (listed (shapes_of (values_at vs ids)))
        → map_option (λ id. shape_of (value_at vs id)) (cond b (Some id) (under l ls ids)) ≡ cond b (Some (shape_of (value_at vs id))) (under l ls (listed (shapes_of (values_at vs ids))))
    by true e = refl
    by false e = e

items_both : (vs : List Value) (t : Option TypeId) (id : Option ValueId) → items vs (both_ids t id) ≡ both_there t (map_option (λ id. shape_of (value_at vs id)) id)
items_both vs None id = refl
items_both vs (Some t) None = refl
items_both vs (Some t) (Some id) = refl

pub items_fields : (vs : List Value) (all : List (Field TypeId)) (ls : List Bytes) (ids : List ValueId) (fs : List (Field TypeId))
    → items vs (field_ids all ls ids fs) ≡ in_fields all ls (listed (shapes_of (values_at vs ids))) fs
items_fields vs all ls ids [] = refl
items_fields vs all ls ids (f ∷ fs) =
    items_append vs (both_ids (under f.label (labels all) (types all)) (under f.label ls ids)) (field_ids all ls ids fs)
    ∙ ap₂ (λ (a b : List (At TypeId Code)). a ++ b)
    (items_both vs (under f.label (labels all) (types all)) (under f.label ls ids) ∙ ap (λ (o : Option (Shape Code)). both_there (under f.label (labels all) (types all)) o) (under_values vs f.label ls ids))
    (items_fields vs all ls ids fs)

below_under : (n : ℕ) (l : Bytes) (ls : List Bytes) (ids : List ValueId) (t : Option TypeId) → growth.AreBelow n ids → AreBelow n (both_ids t (under l ls ids))
below_under n l ls ids None h = tt
below_under n l [] ids (Some t) h = tt
below_under n l (m ∷ ls) [] (Some t) h = tt
below_under n l (m ∷ ls) (id ∷ ids) (Some t) h = by (bytes_eq l m) (below_under n l ls ids (Some t) h.1)
  where
    by : (b : Bool) → AreBelow n (both_ids (Some t) (under l ls ids)) → AreBelow n (both_ids (Some t) (cond b (Some id) (under l ls ids)))
    by true k = (h.0, tt)
    by false k = k

pub fields_below : (n : ℕ) (all : List (Field TypeId)) (ls : List Bytes) (ids : List ValueId) (fs : List (Field TypeId)) → growth.AreBelow n ids → AreBelow n (field_ids all ls ids fs)
fields_below n all ls ids [] h = tt
fields_below n all ls ids (f ∷ fs) h =
    below_append n (both_ids (under f.label (labels all) (types all)) (under f.label ls ids)) (field_ids all ls ids fs)
    (below_under n f.label ls ids (under f.label (labels all) (types all)) h) (fields_below n all ls ids fs h)

-- ---- one value more that waits

pub more : {X : Type 0} (w new both rest all : List X) → w ++ (both ++ rest) ≡ all → new ≡ w ++ both → new ++ rest ≡ all
more w new both rest all e is = ap (λ l. l ++ rest) is ∙ append_assoc w both rest ∙ e

pub no_more : {X : Type 0} (w rest all : List X) → w ++ rest ≡ all → rest ≡ [] → w ≡ all
no_more w rest all e none = sym (append-nil w) ∙ sym (ap (λ l. w ++ l) none) ∙ e

asked_none : (ts : List (Option TypeId)) → asked_ids ts [] ≡ []
asked_none [] = refl
asked_none (None ∷ ts) = refl
asked_none (Some t ∷ ts) = refl

both_none : (t : Option TypeId) → both_ids t None ≡ []
both_none None = refl
both_none (Some t) = refl

asked_one : (t : Option TypeId) (ts : List (Option TypeId)) (ids : List ValueId) → asked_ids (t ∷ ts) ids ≡ both_ids t (slice_get ids 0) ++ asked_ids ts (drop 1 ids)
asked_one t ts [] = sym (ap₂ (λ (a b : List AtType). a ++ b) (both_none t) (asked_none ts))
asked_one None ts (id ∷ ids) = refl
asked_one (Some t) ts (id ∷ ids) = refl

get_dropped : (ids : List ValueId) (i : ℕ) → slice_get (drop i ids) 0 ≡ slice_get ids i
get_dropped [] zero = refl
get_dropped [] (suc i) = refl
get_dropped (id ∷ ids) zero = refl
get_dropped (id ∷ ids) (suc i) = get_dropped ids i

dropped_one : (ids : List ValueId) (i : ℕ) → drop 1 (drop i ids) ≡ drop (suc i) ids
dropped_one [] zero = refl
dropped_one [] (suc i) = refl
dropped_one (id ∷ ids) zero = refl
dropped_one (id ∷ ids) (suc i) = dropped_one ids i

-- the value at a place, and those behind it
pub asked_step : {X : Type 0} (f : X → Option TypeId) (xs : List X) (ids : List ValueId) (i : ℕ) (d : X) → i < length xs
    → asked_ids (map f (drop i xs)) (drop i ids) ≡ both_ids (f (get_or xs i d)) (slice_get ids i) ++ asked_ids (map f (drop (suc i) xs)) (drop (suc i) ids)
asked_step f xs ids i d h =
    ap (λ l. asked_ids (map f l) (drop i ids)) (drop-cons xs i d h)
    ∙ asked_one (f (get_or xs i d)) (map f (drop (suc i) xs)) (drop i ids)
    ∙ ap₂ (λ (o : Option ValueId) (l : List ValueId). both_ids (f (get_or xs i d)) o ++ asked_ids (map f (drop (suc i) xs)) l) (get_dropped ids i) (dropped_one ids i)

pub asked_end : {X : Type 0} (f : X → Option TypeId) (xs : List X) (ids : List ValueId) (i : ℕ) → length xs ≤ i → asked_ids (map f (drop i xs)) (drop i ids) ≡ []
asked_end f xs ids i h = ap (λ l. asked_ids (map f l) (drop i ids)) (drop_of_length-le xs h)

pub each_step : (t : TypeId) (ids : List ValueId) (i : ℕ) (d : ValueId) → i < length ids
    → asked_ids (copies (length (drop i ids)) (Some t)) (drop i ids) ≡ both_ids (Some t) (Some (get_or ids i d)) ++ asked_ids (copies (length (drop (suc i) ids)) (Some t)) (drop (suc i) ids)
each_step t ids i d h = ap (λ l. asked_ids (copies (length l) (Some t)) l) (drop-cons ids i d h)

pub each_end : (t : TypeId) (ids : List ValueId) (i : ℕ) → length ids ≤ i → asked_ids (copies (length (drop i ids)) (Some t)) (drop i ids) ≡ []
each_end t ids i h = ap (λ l. asked_ids (copies (length l) (Some t)) l) (drop_of_length-le ids h)

pub first_asked : (t : Option TypeId) (ids : List ValueId) → both_ids t (slice_get ids 0) ≡ asked_ids (t ∷ []) ids
first_asked t ids = sym (asked_one t [] ids ∙ append-nil (both_ids t (slice_get ids 0)))
