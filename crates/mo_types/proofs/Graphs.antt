-- Entries of a graph, as they are read, added and defined.
use Rattle.std.proofs.Common.{◌≡◌, ℕ, zero, suc, ◌+◌, ◌-◌, ◌<◌, ◌≤◌, Bool, true, false, List, [], ◌∷◌, ◌++◌, length, slice_get, slice_set, Option, Some, None, nat_eq, nat_lt, cond, refl, sym, ap, ◌∙◌, subst, arith, length-append, get_or}
use Rattle.std.specs.Cmp.{unsigned_Decides}
use Rattle.std.specs.List.{position}
use Rattle.std.proofs.lemmas.List.Quantifiers.{position-Some}
use Rattle.std.proofs.lemmas.Option.{slice_get-get_or}
use Rattle.std.proofs.lemmas.Bool.Decides.{Decides-ltb}
use Rattle.std.proofs.lemmas.Bool.{ltb-false}
use Rattle.std.specs.Map.{keys_of, lookup}
use Rattle.std.specs.Prelude.{Result, Ok, Err, OnErr}
use Rattle.indexmap.specs.IndexMap.{set_value_at}
use Rattle.mo_types.specs.declared.key.Key.{Key}
use Rattle.mo_types.specs.declared.key.Key.TheVariants as key
use Rattle.mo_types.specs.declared.node.Node.{Node}
use Rattle.mo_types.specs.declared.node.TypeId.{TypeId}
use Rattle.mo_types.specs.Keys.{same_key, key_decides}
use Rattle.mo_types.specs.Layout.{entries}
use Rattle.mo_types.specs.Graph.{Slot, Open, Defined, Interned, node_of, node_of_slot, node_entries, total, IsInterned, IsNewNode, IsAdded, slot_of, slots_of, KeyBelow, KeysBelow, Kept}

abbrev pub Entry : Type 0
Entry = Key × Option (Node TypeId)

pub slot_there : (es : List Entry) (i : ℕ) (e : Entry) → slice_get es i ≡ Some e → slice_get (slots_of es) i ≡ Some (slot_of e)
slot_there [] i e h = cc
slot_there (x ∷ es) zero e h = let g : Some x ≡ Some e = h in let f : x ≡ e = cc in ap (λ z. Some (slot_of z)) f
slot_there (x ∷ es) (suc i) e h = slot_there es i e h

pub slot_missing : (es : List Entry) (i : ℕ) → slice_get es i ≡ None → slice_get (slots_of es) i ≡ None
slot_missing [] i h = refl
slot_missing (x ∷ es) zero h = cc
slot_missing (x ∷ es) (suc i) h = slot_missing es i h

-- what stands under a number came from an entry
pub slot_from : (es : List Entry) (i : ℕ) (s : Slot) → slice_get (slots_of es) i ≡ Some s → (e : Entry) × (slice_get es i ≡ Some e) × (s ≡ slot_of e)
slot_from [] i s h = cc
slot_from (x ∷ es) zero s h = let g : Some (slot_of x) ≡ Some s = h in let f : s ≡ slot_of x = cc in (x, refl, f)
slot_from (x ∷ es) (suc i) s h = slot_from es i s h

pub slots_append : (es : List Entry) (e : Entry) → slots_of (es ++ e ∷ []) ≡ slots_of es ++ slot_of e ∷ []
slots_append [] e = refl
slots_append (x ∷ es) e = ap (λ l. slot_of x ∷ l) (slots_append es e)

pub slots_length : (es : List Entry) → length (slots_of es) ≡ length es
slots_length [] = refl
slots_length (x ∷ es) = ap suc (slots_length es)

pub total_append : (ss : List Slot) (s : Slot) → total (ss ++ s ∷ []) ≡ total ss + node_entries (node_of s)
total_append [] s = let e : node_entries (node_of s) + 0 ≡ 0 + node_entries (node_of s) = omega arith in e
total_append (x ∷ ss) s = let e : total (ss ++ s ∷ []) ≡ total ss + node_entries (node_of s) = total_append ss s in omega arith

key_more : (m n : ℕ) (k : Key) → m ≤ n → KeyBelow m k → KeyBelow n k
key_more m n (key.Fresh i) l h = omega arith
key_more m n (key.Interned x) l h = tt

keys_more : (m n : ℕ) (es : List Entry) → m ≤ n → KeysBelow m es → KeysBelow n es
keys_more m n [] l h = tt
keys_more m n (e ∷ es) l h = (key_more m n e.0 l h.0, keys_more m n es l h.1)

keys_append : (n : ℕ) (es : List Entry) (e : Entry) → KeysBelow n es → KeyBelow n e.0 → KeysBelow n (es ++ e ∷ [])
keys_append n [] e h k = (k, tt)
keys_append n (x ∷ es) e h k = (h.0, keys_append n es e h.1 k)

-- a new entry
pub kept_append : (es : List Entry) (count : ℕ) (k : Key) (o : Option (Node TypeId)) → Kept es count → KeyBelow (length es + 1) k → length es < 4096 → count + node_entries (node_of (slot_of (k, o))) ≤ 65536 →
    Kept (es ++ (k, o) ∷ []) (count + node_entries (node_of (slot_of (k, o))))
kept_append es count k o h b l m =
    let a : length (es ++ (k, o) ∷ []) ≡ length es + 1 = length-append es ((k, o) ∷ []) in
    let t : total (slots_of (es ++ (k, o) ∷ [])) ≡ total (slots_of es) + node_entries (node_of (slot_of (k, o))) = ap total (slots_append es (k, o)) ∙ total_append (slots_of es) (slot_of (k, o)) in
    let c : count ≡ total (slots_of es) = h.counted in
    let s : length (slots_of (es ++ (k, o) ∷ [])) ≡ length (es ++ (k, o) ∷ []) = slots_length (es ++ (k, o) ∷ []) in
    record {
      counted = omega arith;
      below = subst (λ n. KeysBelow n (es ++ (k, o) ∷ [])) (sym a) (keys_append (length es + 1) es (k, o) (keys_more (length es) (length es + 1) es (omega arith) h.below) b);
      fits = (omega arith, omega arith);
    }

pub added : (es : List Entry) (e : Entry) (id : TypeId) → id.index ≡ length es → length es < 4096 → total (slots_of es) + node_entries (node_of (slot_of e)) ≤ 65536 → IsAdded (slots_of es) (slot_of e) id (slots_of (es ++ e ∷ []))
added es e id n l m =
    let a : length (es ++ e ∷ []) ≡ length es + 1 = length-append es (e ∷ []) in
    let t : total (slots_of (es ++ e ∷ [])) ≡ total (slots_of es) + node_entries (node_of (slot_of e)) = ap total (slots_append es e) ∙ total_append (slots_of es) (slot_of e) in
    let s : length (slots_of (es ++ e ∷ [])) ≡ length (es ++ e ∷ []) = slots_length (es ++ e ∷ []) in
    record {
      number = n ∙ sym (slots_length es);
      slots = slots_append es e;
      fits = (omega arith, omega arith);
    }

-- a fresh key above all others is new
pub fresh_absent : (es : List Entry) (n : ℕ) → KeysBelow n es → lookup (same_key (key.Fresh n)) es ≡ None
fresh_absent [] n h = refl
fresh_absent ((key.Interned x, o) ∷ es) n h = fresh_absent es n h.1
fresh_absent ((key.Fresh i, o) ∷ es) n h = by (nat_eq n i) refl (fresh_absent es n h.1) where
  by : (b : Bool) → nat_eq n i ≡ b → lookup (same_key (key.Fresh n)) es ≡ None → cond (nat_eq n i) (Some o) (lookup (same_key (key.Fresh n)) es) ≡ None
  by true e r = let f : n ≡ i = (unsigned_Decides n i).0 e in let g : i < n = h.0 in absurd (omega arith)
  by false e r = ap (λ b. cond b (Some o) (lookup (same_key (key.Fresh n)) es)) e ∙ r

-- defining what is open
pub put_slot : (es : List Entry) (i : ℕ) (n : Node TypeId) → slice_get (slots_of es) i ≡ Some Open → slots_of (set_value_at es i (Some n)) ≡ slice_set (slots_of es) i (Defined n)
put_slot [] i n h = cc
put_slot ((key.Fresh k, o) ∷ es) zero n h = refl
put_slot ((key.Interned x, o) ∷ es) zero n h = cc
put_slot (e ∷ es) (suc i) n h = ap (λ l. slot_of e ∷ l) (put_slot es i n h)

put_length : (es : List Entry) (i : ℕ) (o : Option (Node TypeId)) → length (set_value_at es i o) ≡ length es
put_length [] i o = refl
put_length (e ∷ es) zero o = refl
put_length (e ∷ es) (suc i) o = ap suc (put_length es i o)

put_below : (m : ℕ) (es : List Entry) (i : ℕ) (o : Option (Node TypeId)) → KeysBelow m es → KeysBelow m (set_value_at es i o)
put_below m [] i o h = h
put_below m (e ∷ es) zero o h = h
put_below m (e ∷ es) (suc i) o h = (h.0, put_below m es i o h.1)

put_total : (ss : List Slot) (i : ℕ) (n : Node TypeId) → slice_get ss i ≡ Some Open → total (slice_set ss i (Defined n)) ≡ total ss + entries n
put_total [] i n h = cc
put_total (s ∷ ss) zero n h = let g : Some s ≡ Some Open = h in let f : s ≡ Open = cc in let e : node_entries (node_of s) ≡ 0 = ap (λ z. node_entries (node_of z)) f in omega arith
put_total (s ∷ ss) (suc i) n h = let e : total (slice_set ss i (Defined n)) ≡ total ss + entries n = put_total ss i n h in omega arith

set_length : (ss : List Slot) (i : ℕ) (s : Slot) → length (slice_set ss i s) ≡ length ss
set_length [] i s = refl
set_length (x ∷ ss) zero s = refl
set_length (x ∷ ss) (suc i) s = ap suc (set_length ss i s)

pub kept_put : (es : List Entry) (count i : ℕ) (n : Node TypeId) → Kept es count → slice_get (slots_of es) i ≡ Some Open → count + entries n ≤ 65536 → Kept (set_value_at es i (Some n)) (count + entries n)
kept_put es count i n h o m =
    let p : slots_of (set_value_at es i (Some n)) ≡ slice_set (slots_of es) i (Defined n) = put_slot es i n o in
    let t : total (slots_of (set_value_at es i (Some n))) ≡ total (slots_of es) + entries n = ap total p ∙ put_total (slots_of es) i n o in
    let l : length (slots_of (set_value_at es i (Some n))) ≡ length (slots_of es) = ap length p ∙ set_length (slots_of es) i (Defined n) in
    let c : count ≡ total (slots_of es) = h.counted in
    let f : length (slots_of es) ≤ 4096 = h.fits.0 in
    record {
      counted = omega arith;
      below = subst (λ k. KeysBelow k (set_value_at es i (Some n))) (sym (put_length es i (Some n))) (put_below (length es) es i (Some n) h.below);
      fits = (omega arith, omega arith);
    }

pub open_below : (es : List Entry) (i : ℕ) → slice_get (slots_of es) i ≡ Some Open → i < length es
open_below [] i h = cc
open_below (e ∷ es) zero h = omega arith
open_below (e ∷ es) (suc i) h = let l : i < length es = open_below es i h in omega arith

interned_slot : (e : Entry) (n : Node TypeId) → slot_of e ≡ Interned n → e.0 ≡ key.Interned n
interned_slot (key.Interned m, o) n h = let f : m ≡ n = cc in ap (λ (x : Node TypeId). key.Interned x) f
interned_slot (key.Fresh i, None) n h = cc
interned_slot (key.Fresh i, Some m) n h = cc

slot_interned : (e : Entry) (n : Node TypeId) → e.0 ≡ key.Interned n → slot_of e ≡ Interned n
slot_interned (key.Interned m, o) n h = let f : m ≡ n = cc in ap Interned f
slot_interned (key.Fresh i, o) n h = cc

keys_length : (es : List Entry) → length (keys_of es) ≡ length es
keys_length [] = refl
keys_length (x ∷ es) = ap suc (keys_length es)

key_at : (es : List Entry) (i : ℕ) (e : Entry) → slice_get es i ≡ Some e → get_or (keys_of es) i (key.Fresh 0) ≡ e.0
key_at [] i e h = cc
key_at (x ∷ es) zero e h = let g : Some x ≡ Some e = h in let f : x ≡ e = cc in ap (λ z. z.0) f
key_at (x ∷ es) (suc i) e h = key_at es i e h

-- the place of an interned node
pub interned : (es : List Entry) (n : Node TypeId) (i : ℕ) → position (same_key (key.Interned n)) (keys_of es) ≡ Some i → IsInterned (slots_of es) n i
interned es n i h = record {
  there = slot_there es i e (slice_get-get_or es i (key.Fresh 0, None) l) ∙ ap (λ s. Some s) (slot_interned e n (sym k));
  first = λ j g. ordered j (nat_lt j i) refl g;
} where
  test : Key → Bool
  test = same_key (key.Interned n)

  p : (i < length (keys_of es)) × (test (get_or (keys_of es) i (key.Fresh 0)) ≡ true) × ((k : ℕ) → k < i → test (get_or (keys_of es) k (key.Fresh 0)) ≡ false)
  p = position-Some test (keys_of es) i (key.Fresh 0) h

  l : i < length es
  l = let a : i < length (keys_of es) = p.0 in let b : length (keys_of es) ≡ length es = keys_length es in omega arith

  e : Entry
  e = get_or es i (key.Fresh 0, None)

  k : key.Interned n ≡ e.0
  k = (key_decides (key.Interned n) (get_or (keys_of es) i (key.Fresh 0))).0 p.1 ∙ key_at es i e (slice_get-get_or es i (key.Fresh 0, None) l)

  clash : (j : ℕ) → j < i → slice_get (slots_of es) j ≡ Some (Interned n) → ⊥
  clash j b g =
      let f = slot_from es j (Interned n) g in
      let q : get_or (keys_of es) j (key.Fresh 0) ≡ key.Interned n = key_at es j f.0 f.1 ∙ interned_slot f.0 n (sym f.2) in
      let r : test (get_or (keys_of es) j (key.Fresh 0)) ≡ true = ap test q ∙ (key_decides (key.Interned n) (key.Interned n)).1 refl in
      let s : test (get_or (keys_of es) j (key.Fresh 0)) ≡ false = p.2 j b in
      cc

  ordered : (j : ℕ) (b : Bool) → nat_lt j i ≡ b → slice_get (slots_of es) j ≡ Some (Interned n) → i ≤ j
  ordered j true c g = absurd (clash j ((Decides-ltb j i).0 c) g)
  ordered j false c g = ltb-false j i c

-- where no key is the node's, it is new
pub new_node : (es : List Entry) (n : Node TypeId) → lookup (same_key (key.Interned n)) es ≡ None → IsNewNode (slots_of es) n
new_node [] n h i g = cc
new_node (e ∷ es) n h i g = by (same_key (key.Interned n) e.0) refl (new_node es n) i g where
  by : (b : Bool) → same_key (key.Interned n) e.0 ≡ b → (lookup (same_key (key.Interned n)) es ≡ None → IsNewNode (slots_of es) n) → (i : ℕ) → slice_get (slots_of (e ∷ es)) i ≡ Some (Interned n) → ⊥
  by true c f i g = let z : cond true (Some e.1) (lookup (same_key (key.Interned n)) es) ≡ None = subst (λ b. cond b (Some e.1) (lookup (same_key (key.Interned n)) es) ≡ None) c h in cc
  by false c f zero g =
      let y : Some (slot_of e) ≡ Some (Interned n) = g in
      let q : slot_of e ≡ Interned n = cc in
      let r : same_key (key.Interned n) e.0 ≡ true = (key_decides (key.Interned n) e.0).1 (sym (interned_slot e n q)) in
      cc
  by false c f (suc i) g = f (subst (λ b. cond b (Some e.1) (lookup (same_key (key.Interned n)) es) ≡ None) c h) i g

-- The steps of the calls, with what they are told.
module _ (es new : List Entry) (now : List Slot) (count : ℕ) (view : slots_of es ≡ now) (kept : Kept es count) where
  module _ (n : ℕ) (len : n ≡ length es) (few : n < 4096) where
    new_number : KeysBelow n es
    new_number = subst (λ m. KeysBelow m es) (sym len) kept.below

    pub fresh_new : lookup (same_key (key.Fresh n)) es ≡ None
    fresh_new = fresh_absent es n new_number

    abbrev IsAppended : Key → Type 0
    IsAppended k = new ≡ es ++ (k, None) ∷ []

    pub fresh_kept : IsAppended (key.Fresh n) → Kept new count
    fresh_kept a =
        let l : length es < 4096 = omega arith in
        let f : total (slots_of es) ≤ 65536 = kept.fits.1 in
        let c : count ≡ total (slots_of es) = kept.counted in
        let m : count + 0 ≤ 65536 = omega arith in
        let b : n < length es + 1 = omega arith in
        let e : count + 0 ≡ count = omega arith in
        subst (λ l. Kept l count) (sym a) (subst (λ m. Kept (es ++ (key.Fresh n, None) ∷ []) m) e (kept_append es count (key.Fresh n) None kept b l m))

    pub fresh_added : IsAppended (key.Fresh n) → IsAdded now Open (record { index = n }) (slots_of new)
    fresh_added a =
        let l : length es < 4096 = omega arith in
        let f : total (slots_of es) ≤ 65536 = kept.fits.1 in
        let m : total (slots_of es) + 0 ≤ 65536 = omega arith in
        subst (λ s. IsAdded s Open (record { index = n }) (slots_of new)) view
        (subst (λ l. IsAdded (slots_of es) Open (record { index = n }) (slots_of l)) (sym a) (added es (key.Fresh n, None) (record { index = n }) len l m))

    module _ (x : Node TypeId) (more : ℕ) (room : count + more ≤ 65536) (has : more ≡ entries x) where
      pub intern_kept : IsAppended (key.Interned x) → Kept new (count + more)
      intern_kept a =
          let l : length es < 4096 = omega arith in
          let m : count + entries x ≤ 65536 = subst (λ z. count + z ≤ 65536) has room in
          subst (λ l. Kept l (count + more)) (sym a) (subst (λ z. Kept (es ++ (key.Interned x, None) ∷ []) (count + z)) (sym has) (kept_append es count (key.Interned x) None kept tt l m))

      pub intern_added : IsAppended (key.Interned x) → IsAdded now (Interned x) (record { index = n }) (slots_of new)
      intern_added a =
          let l : length es < 4096 = omega arith in
          let c : count ≡ total (slots_of es) = kept.counted in
          let m : total (slots_of es) + entries x ≤ 65536 = subst (λ z. z + entries x ≤ 65536) c (subst (λ z. count + z ≤ 65536) has room) in
          subst (λ s. IsAdded s (Interned x) (record { index = n }) (slots_of new)) view
          (subst (λ l. IsAdded (slots_of es) (Interned x) (record { index = n }) (slots_of l)) (sym a) (added es (key.Interned x, None) (record { index = n }) len l m))

  pub room_left : (more : ℕ) → more ≤ 65536 - count → count + more ≤ 65536
  room_left more l =
      let f : total (slots_of es) ≤ 65536 = kept.fits.1 in
      let c : count ≡ total (slots_of es) = kept.counted in
      omega arith

  pub is_new : (x : Node TypeId) → lookup (same_key (key.Interned x)) es ≡ None → IsNewNode now x
  is_new x h = subst (λ s. IsNewNode s x) view (new_node es x h)

  pub is_interned : (x : Node TypeId) (i : ℕ) → position (same_key (key.Interned x)) (keys_of es) ≡ Some i → IsInterned now x i
  is_interned x i h = subst (λ s. IsInterned s x i) view (interned es x i h)

  module _ (i : ℕ) (x : Node TypeId) (open_at : slice_get now i ≡ Some Open) where
    is_open : slice_get (slots_of es) i ≡ Some Open
    is_open = subst (λ s. slice_get s i ≡ Some Open) (sym view) open_at

    pub put_within : i < length es
    put_within = open_below es i is_open

    pub put_kept : (more : ℕ) → more ≡ entries x → count + more ≤ 65536 → new ≡ set_value_at es i (Some x) → Kept new (count + more)
    put_kept more has room a = subst (λ l. Kept l (count + more)) (sym a) (subst (λ z. Kept (set_value_at es i (Some x)) (count + z)) (sym has) (kept_put es count i x kept is_open (subst (λ z. count + z ≤ 65536) has room)))

    pub put_view : new ≡ set_value_at es i (Some x) → slots_of new ≡ slice_set now i (Defined x)
    put_view a = ap slots_of a ∙ put_slot es i x is_open ∙ ap (λ s. slice_set s i (Defined x)) view

-- What a number has.
pub node_there : (es : List Entry) (now : List Slot) (id : TypeId) (k : Key) (o : Option (Node TypeId)) → slots_of es ≡ now → slice_get es id.index ≡ Some (k, o) → node_of_slot (slice_get now id.index) ≡ node_of (slot_of (k, o))
node_there es now id k o view h = ap (λ s. node_of_slot (slice_get s id.index)) (sym view) ∙ ap node_of_slot (slot_there es id.index (k, o) h)

pub node_missing : (es : List Entry) (now : List Slot) (id : TypeId) → slots_of es ≡ now → slice_get es id.index ≡ None → node_of_slot (slice_get now id.index) ≡ None
node_missing es now id view h = ap (λ s. node_of_slot (slice_get s id.index)) (sym view) ∙ ap node_of_slot (slot_missing es id.index h)

pub on_err : {A E P : Type 0} → (r : Result A E) → P → OnErr r P
on_err (Ok a) p = tt
on_err (Err e) p = p
