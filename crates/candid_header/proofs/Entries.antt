-- The table is read exactly.
use Rattle.std.proofs.Common.{◌≡◌, ℕ, ◌≤◌, Bool, true, false, cond, List, [], ◌∷◌, ◌++◌, length, Option, Some, None, Result, Ok, Err, refl, sym, ap, ◌∙◌, subst, append_assoc}
use Rattle.std.specs.Prelude.{nat_lt, ◌&&◌, slice_get}
use Rattle.std.specs.List.{list_all}
use Rattle.std.proofs.lemmas.Bool.{le-ltb, ltb-false}
use Rattle.mo_types.specs.Sub.{Each}
use Rattle.mo_types.specs.declared.wire.Method.{Method}
use Rattle.mo_types.specs.declared.wire.Wire.{Wire}
use Rattle.mo_types.specs.declared.wire.Wire.TheVariants.{Simple, Opt, Vec, Record, Variant, Func, Service}
use Rattle.mo_types.specs.declared.wire.TableRef.{TableRef}
use Rattle.mo_types.specs.declared.wire.TableRef.TheVariants.{Plainly, At}
use Rattle.mo_types.specs.Spelling.{padded, Then}
use Rattle.mo_types.specs.Header.{IsByte, IsList, IsField, IsMethod, IsEntry, IsTableRef, IsWithin, RisingIds, RisingNames, IsFunction, or_empty, table_head, IsSound}
use Rattle.candid_header.specs.declared.fault.Fault.{Fault}
use Rattle.candid_header.specs.declared.fault.Fault.TheVariants.{BadTable}
use Rattle.exact_reading.specs.Reading.{◌>>=◌, both}
use Rattle.candid_header.specs.Reading.{many, list_at, u32_at}
use Rattle.candid_header.specs.Table.{ref_at, refs_at, bytes_at, no_state, field_at, id_of, method_at, name_of, func, func_at, entry_by, entry_at, entry_item, entries_at, is_func, is_some_func, is_func_at, have_functions, are_functions, table_at}
use Rattle.exact_reading.proofs.Exact.{Front, Exact, bind_ok, if_ok, not_ok, kept_exact, eq_is, announced}
use Rattle.candid_header.proofs.Exact.{both_exact, coded, chosen_by}
use Rattle.candid_header.proofs.Numbers.{IsU32, u32_exact}
use Rattle.candid_header.proofs.Refs.{IsRefIn, ref_exact}
use Rattle.candid_header.proofs.Lists.{Linked, many_sound, many_complete, AreRefs, refs_exact, AreFields, fields_exact, AreMethods, methods_exact, bytes_exact}

-- What an entry shows by itself, in a table of so many.
abbrev pub IsLocal : ℕ → Wire TableRef → Type 0
IsLocal n (Simple p) = ⊥
IsLocal n (Opt b) = IsWithin n b
IsLocal n (Vec b) = IsWithin n b
IsLocal n (Record es) = RisingIds es × Each (λ e. IsWithin n e.part) es
IsLocal n (Variant es) = RisingIds es × Each (λ e. IsWithin n e.part) es
IsLocal n (Func ps rs ns) = Each (IsWithin n) ps × Each (IsWithin n) rs
IsLocal n (Service ms) = RisingNames ms × Each (λ m. IsWithin n m.part) ms

abbrev pub IsAnEntry : Wire TableRef → List ℕ → Type 0
IsAnEntry w b = IsEntry padded (IsTableRef padded) w b

abbrev IsGood : ℕ → Wire TableRef → List ℕ → Type 0
IsGood n w b = IsAnEntry w b × IsLocal n w

with_more : (A B C : List ℕ → Type 0) (l : List ℕ) → Then A B l → ((b : List ℕ) → B b → C b) → Then A C l
with_more A B C l h f = record { front = h.front; back = h.back; whole = h.whole; first = h.first; second = f h.back h.second }

abbrev Parts : Type 0
Parts = List TableRef × (List TableRef × List ℕ)

abbrev IsFunc : ℕ → Parts → List ℕ → Type 0
IsFunc n x = Then (AreRefs n x.0) (λ b. Then (AreRefs n x.1.0) (IsList padded IsByte x.1.1) b)

func_parts : (n : ℕ) → Exact (IsFunc n) (both (refs_at n) (both (refs_at n) bytes_at))
func_parts n = both_exact (AreRefs n) (λ z. Then (AreRefs n z.0) (IsList padded IsByte z.1)) (refs_at n) (both (refs_at n) bytes_at) (refs_exact n) (both_exact (AreRefs n) (IsList padded IsByte) (refs_at n) bytes_at (refs_exact n) bytes_exact)

func_good : (n : ℕ) (x : Parts) (front : List ℕ) → IsFunc n x front → IsGood n (func x) (0x6a ∷ front)
func_good n x front h = (
  record { front = 0x6a ∷ []; back = front; whole = refl; first = refl; second = record { front = h.front; back = h.back; whole = h.whole; first = h.first.0; second = record { front = h.second.front; back = h.second.back; whole = h.second.whole; first = h.second.first.0; second = h.second.second } } },
  (h.first.1, h.second.first.1),
)

good_func : (n : ℕ) (ps rs : List TableRef) (ns : List ℕ) (front : List ℕ) → IsGood n (Func ps rs ns) front → Then (IsByte 0x6a) (IsFunc n (ps, (rs, ns))) front
good_func n ps rs ns front h =
    let a = h.0 in
    let b = a.second in
    let c = b.second in
    record { front = a.front; back = a.back; whole = a.whole; first = a.first; second = record { front = b.front; back = b.back; whole = b.whole; first = (b.first, h.1.0); second = record { front = c.front; back = c.back; whole = c.whole; first = (c.first, h.1.1); second = c.second } } }

pub entry_exact : (n : ℕ) → Exact (IsGood n) (entry_at n)
unfolding entry_at func_at
entry_exact n = record { sound = sound; complete = complete }
  where
    sound : (bytes : List ℕ) (r : Wire TableRef × List ℕ) → entry_at n bytes ≡ Ok r → Front (IsGood n) bytes r.0 r.1
    sound [] r e = absurd (not_ok e)
    sound (b ∷ bs) r e =
        if_ok e (λ t h. announced (IsRefIn n) (IsGood n) Opt (ref_at n) (ref_exact n) 0x6e b bs r (eq_is b 0x6e t) (λ x front k. (coded 0x6e (IsTableRef padded x) front k.0, k.1)) h) (λ _ e.
        if_ok e (λ t h. announced (IsRefIn n) (IsGood n) Vec (ref_at n) (ref_exact n) 0x6d b bs r (eq_is b 0x6d t) (λ x front k. (coded 0x6d (IsTableRef padded x) front k.0, k.1)) h) (λ _ e.
        if_ok e (λ t h. announced (AreFields n) (IsGood n) Record (list_at (field_at n) id_of) (fields_exact n) 0x6c b bs r (eq_is b 0x6c t) (λ x front k. (coded 0x6c (IsList padded (IsField padded (IsTableRef padded)) x) front k.0, (k.1, k.2))) h) (λ _ e.
        if_ok e (λ t h. announced (AreFields n) (IsGood n) Variant (list_at (field_at n) id_of) (fields_exact n) 0x6b b bs r (eq_is b 0x6b t) (λ x front k. (coded 0x6b (IsList padded (IsField padded (IsTableRef padded)) x) front k.0, (k.1, k.2))) h) (λ _ e.
        if_ok e (λ t h. announced (IsFunc n) (IsGood n) func (both (refs_at n) (both (refs_at n) bytes_at)) (func_parts n) 0x6a b bs r (eq_is b 0x6a t) (func_good n) h) (λ _ e.
        if_ok e (λ t h. announced (AreMethods n) (IsGood n) Service (list_at (method_at n) name_of) (methods_exact n) 0x69 b bs r (eq_is b 0x69 t) (λ x front k. (coded 0x69 (IsList padded (IsMethod padded (IsTableRef padded)) x) front k.0, (k.1, k.2))) h) (λ _ e.
        absurd (not_ok e)))))))

    complete : (x : Wire TableRef) (front rest : List ℕ) → IsGood n x front → entry_at n (front ++ rest) ≡ Ok (x, rest)
    complete (Simple p) front rest h = absurd h.0
    complete (Opt b) front rest h = chosen_by (IsRefIn n) Opt (ref_at n) (ref_exact n) (entry_by n) 0x6e (λ _. refl) b front rest (with_more (IsByte 0x6e) (IsTableRef padded b) (IsRefIn n b) front h.0 (λ l k. (k, h.1)))
    complete (Vec b) front rest h = chosen_by (IsRefIn n) Vec (ref_at n) (ref_exact n) (entry_by n) 0x6d (λ _. refl) b front rest (with_more (IsByte 0x6d) (IsTableRef padded b) (IsRefIn n b) front h.0 (λ l k. (k, h.1)))
    complete (Record es) front rest h = chosen_by (AreFields n) Record (list_at (field_at n) id_of) (fields_exact n) (entry_by n) 0x6c (λ _. refl) es front rest (with_more (IsByte 0x6c) (IsList padded (IsField padded (IsTableRef padded)) es) (AreFields n es) front h.0 (λ l k. (k, h.1.0, h.1.1)))
    complete (Variant es) front rest h = chosen_by (AreFields n) Variant (list_at (field_at n) id_of) (fields_exact n) (entry_by n) 0x6b (λ _. refl) es front rest (with_more (IsByte 0x6b) (IsList padded (IsField padded (IsTableRef padded)) es) (AreFields n es) front h.0 (λ l k. (k, h.1.0, h.1.1)))
    complete (Func ps rs ns) front rest h = chosen_by (IsFunc n) func (both (refs_at n) (both (refs_at n) bytes_at)) (func_parts n) (entry_by n) 0x6a (λ _. refl) (ps, (rs, ns)) front rest (good_func n ps rs ns front h)
    complete (Service ms) front rest h = chosen_by (AreMethods n) Service (list_at (method_at n) name_of) (methods_exact n) (entry_by n) 0x69 (λ _. refl) ms front rest (with_more (IsByte 0x69) (IsList padded (IsMethod padded (IsTableRef padded)) ms) (AreMethods n ms) front h.0 (λ l k. (k, h.1.0, h.1.1)))

-- Entries one after the other.
abbrev IsEntryIn : ℕ → Option ℕ → Wire TableRef → Type 0
IsEntryIn n s w = IsLocal n w

linked_local : (n : ℕ) (s : Option ℕ) (ws : List (Wire TableRef)) → Linked (IsEntryIn n) no_state s ws → Each (IsLocal n) ws
linked_local n s [] h = tt
linked_local n s (w ∷ ws) h = (h.0, linked_local n None ws h.1)

local_linked : (n : ℕ) (s : Option ℕ) (ws : List (Wire TableRef)) → Each (IsLocal n) ws → Linked (IsEntryIn n) no_state s ws
local_linked n s [] h = tt
local_linked n s (w ∷ ws) h = (h.0, local_linked n None ws h.1)

abbrev pub AreEntries : List (Wire TableRef) → List ℕ → Type 0
AreEntries t b = IsList padded (IsEntry padded (IsTableRef padded)) t b × (length t ≤ 4096) × Each (IsLocal (length t)) t

pub entries_exact : Exact AreEntries entries_at
unfolding entries_at
entries_exact = record {
  sound = λ bytes r e.
      let s = bind_ok (u32_at BadTable bytes) _ r e in
      let n = s.0.0 in
      let a = (u32_exact BadTable).sound bytes s.0 s.1 in
      if_ok s.2 (λ _ h. absurd (not_ok h)) (λ t h.
      let b = many_sound (entry_item n) no_state IsAnEntry (IsEntryIn n) (λ _. entry_exact n) n None s.0.1 r h in
      let local : Each (IsLocal n) r.0 = linked_local n None r.0 b.spells.1 in
      record {
        front = a.front ++ b.front;
        split = a.split ∙ ap (λ l. a.front ++ l) b.split ∙ sym (append_assoc a.front b.front r.1);
        spells = (record { front = a.front; back = b.front; whole = refl; first = subst (λ n. IsU32 n a.front) (sym b.spells.2) a.spells; second = b.spells.0 }, subst (λ k. k ≤ 4096) (sym b.spells.2) (ltb-false 4096 n t), subst (λ k. Each (IsLocal k) r.0) (sym b.spells.2) local);
      });
  complete = λ x front rest k.
      let h = k.0 in
      let e : front ++ rest ≡ h.front ++ (h.back ++ rest) = ap (λ l. l ++ rest) h.whole ∙ append_assoc h.front h.back rest in
      let a : u32_at BadTable (front ++ rest) ≡ Ok (length x, h.back ++ rest) = ap (u32_at BadTable) e ∙ (u32_exact BadTable).complete (length x) h.front (h.back ++ rest) h.first in
      ap (λ (s : Result (ℕ × List ℕ) Fault). s >>= λ n. cond {A = Result (List (Wire TableRef) × List ℕ) Fault} (nat_lt 4096 n.0) (Err BadTable) (many (entry_item n.0) no_state n.0 None n.1)) a
      ∙ ap (λ t. cond {A = Result (List (Wire TableRef) × List ℕ) Fault} t (Err BadTable) (many (entry_item (length x)) no_state (length x) None (h.back ++ rest))) (le-ltb 4096 (length x) k.1)
      ∙ many_complete (entry_item (length x)) no_state IsAnEntry (IsEntryIn (length x)) (λ _. entry_exact (length x)) x None h.back rest h.second (local_linked (length x) None x k.2);
}

-- Methods are functions.
both_true : (a b : Bool) → (a && b) ≡ true → (a ≡ true) × (b ≡ true)
both_true true true e = (refl, refl)
both_true true false e = cc
both_true false b e = cc

true_both : (a b : Bool) → a ≡ true → b ≡ true → (a && b) ≡ true
true_both true b e f = f
true_both false b e f = cc

function_of : (w : Wire TableRef) → is_func w ≡ true → IsFunction w
function_of (Func ps rs ns) e = tt
function_of (Simple p) e = cc
function_of (Opt b) e = cc
function_of (Vec b) e = cc
function_of (Record es) e = cc
function_of (Variant es) e = cc
function_of (Service ms) e = cc

of_function : (w : Wire TableRef) → IsFunction w → is_func w ≡ true
of_function (Func ps rs ns) h = refl
of_function (Simple p) h = absurd h
of_function (Opt b) h = absurd h
of_function (Vec b) h = absurd h
of_function (Record es) h = absurd h
of_function (Variant es) h = absurd h
of_function (Service ms) h = absurd h

some_function : (o : Option (Wire TableRef)) → is_some_func o ≡ true → IsFunction (or_empty o)
some_function None e = cc
some_function (Some w) e = function_of w e

function_some : (o : Option (Wire TableRef)) → IsFunction (or_empty o) → is_some_func o ≡ true
function_some None h = absurd h
function_some (Some w) h = of_function w h

function_at : (table : List (Wire TableRef)) (r : TableRef) → is_func_at table r ≡ true → IsFunction (table_head table r)
function_at table (Plainly p) e = cc
function_at table (At i) e = some_function (slice_get table i) e

at_function : (table : List (Wire TableRef)) (r : TableRef) → IsFunction (table_head table r) → is_func_at table r ≡ true
at_function table (Plainly p) h = absurd h
at_function table (At i) h = function_some (slice_get table i) h

methods_sound : (table : List (Wire TableRef)) (n : ℕ) (ms : List (Method TableRef)) → Each (λ m. IsWithin n m.part) ms → list_all (λ m. is_func_at table m.part) ms ≡ true → Each (λ m. IsWithin n m.part × IsFunction (table_head table m.part)) ms
methods_sound table n [] w e = tt
methods_sound table n (m ∷ ms) w e =
    let p = both_true (is_func_at table m.part) (list_all (λ m. is_func_at table m.part) ms) e in
    ((w.0, function_at table m.part p.0), methods_sound table n ms w.1 p.1)

sound_methods : (table : List (Wire TableRef)) (n : ℕ) (ms : List (Method TableRef)) → Each (λ m. IsWithin n m.part × IsFunction (table_head table m.part)) ms → Each (λ m. IsWithin n m.part) ms × (list_all (λ m. is_func_at table m.part) ms ≡ true)
sound_methods table n [] h = (tt, refl)
sound_methods table n (m ∷ ms) h =
    let i = sound_methods table n ms h.1 in
    ((h.0.0, i.0), true_both (is_func_at table m.part) (list_all (λ m. is_func_at table m.part) ms) (at_function table m.part h.0.1) i.1)

to_sound : (table : List (Wire TableRef)) (w : Wire TableRef) → IsLocal (length table) w → have_functions table w ≡ true → IsSound table w
to_sound table (Simple p) l e = l
to_sound table (Opt b) l e = l
to_sound table (Vec b) l e = l
to_sound table (Record es) l e = l
to_sound table (Variant es) l e = l
to_sound table (Func ps rs ns) l e = l
to_sound table (Service ms) l e = (l.0, methods_sound table (length table) ms l.1 e)

from_sound : (table : List (Wire TableRef)) (w : Wire TableRef) → IsSound table w → IsLocal (length table) w × (have_functions table w ≡ true)
from_sound table (Simple p) h = absurd h
from_sound table (Opt b) h = (h, refl)
from_sound table (Vec b) h = (h, refl)
from_sound table (Record es) h = (h, refl)
from_sound table (Variant es) h = (h, refl)
from_sound table (Func ps rs ns) h = (h, refl)
from_sound table (Service ms) h = let i = sound_methods table (length table) ms h.1 in ((h.0, i.0), i.1)

all_sound : (table ws : List (Wire TableRef)) → Each (IsLocal (length table)) ws → list_all (λ w. have_functions table w) ws ≡ true → Each (IsSound table) ws
all_sound table [] l e = tt
all_sound table (w ∷ ws) l e =
    let p = both_true (have_functions table w) (list_all (λ w. have_functions table w) ws) e in
    (to_sound table w l.0 p.0, all_sound table ws l.1 p.1)

sound_all : (table ws : List (Wire TableRef)) → Each (IsSound table) ws → Each (IsLocal (length table)) ws × (list_all (λ w. have_functions table w) ws ≡ true)
sound_all table [] h = (tt, refl)
sound_all table (w ∷ ws) h =
    let a = from_sound table w h.0 in
    let i = sound_all table ws h.1 in
    ((a.0, i.0), true_both (have_functions table w) (list_all (λ w. have_functions table w) ws) a.1 i.1)

abbrev pub IsATable : List (Wire TableRef) → List ℕ → Type 0
IsATable t b = IsList padded (IsEntry padded (IsTableRef padded)) t b × (length t ≤ 4096) × Each (IsSound t) t

pub table_exact : Exact IsATable table_at
unfolding table_at
table_exact =
    kept_exact AreEntries IsATable BadTable are_functions entries_at entries_exact
    (λ x front h t. (h.0, h.1, all_sound x x h.2 t))
    (λ x front h. let i = sound_all x x h.2 in ((h.0, h.1, i.0), i.1))

-- What is read has few entries.
pub few_entries : (bytes : List ℕ) (r : List (Wire TableRef) × List ℕ) → table_at bytes ≡ Ok r → length r.0 ≤ 4096
few_entries bytes r e = let a = table_exact.sound bytes r e in a.spells.1
