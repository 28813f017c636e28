-- Lists of a header are read exactly.
use Rattle.std.proofs.Common.{◌≡◌, ℕ, true, List, [], ◌∷◌, ◌++◌, length, Option, Some, None, Ok, refl, ap, ◌∙◌}
use Rattle.std.proofs.lemmas.Bool.{lt-ltb, ltb-true}
use Rattle.mo_types.specs.Sub.{Each}
use Rattle.mo_types.specs.declared.wire.Entry.{Entry}
use Rattle.mo_types.specs.declared.wire.Method.{Method}
use Rattle.mo_types.specs.declared.wire.TableRef.{TableRef}
use Rattle.mo_types.specs.Spelling.{padded, Then, IsString}
use Rattle.mo_types.specs.Header.{IsByte, IsEach, IsList, IsField, IsMethod, IsTableRef, IsWithin, RisingIds, RisingNames}
use Rattle.candid_header.specs.declared.fault.Fault.{Fault}
use Rattle.candid_header.specs.declared.fault.Fault.TheVariants.{BadTable, Short}
use Rattle.candid_header.specs.Reading.{Reading, many, list_at, u32_at, string_at}
use Rattle.candid_header.specs.Table.{ref_item, no_state, rises, id_at, field, field_at, id_of, name_rises, method_name_at, method, method_at, name_of, ref_at, refs_at, bytes_at}
use Rattle.exact_reading.proofs.Exact.{Front, Exact, renamed, made_exact, kept_exact}
use Rattle.candid_header.proofs.Exact.{okay, joins, both_exact}
use Rattle.exact_reading.proofs.Lists as exact
use Rattle.candid_header.proofs.Numbers.{IsU32, u32_exact}
use Rattle.candid_header.proofs.Refs.{IsRefIn, ref_exact}

-- Strings of bytes.
pub string_exact : (wide : Fault) → Exact (IsString padded) (string_at wide)
string_exact wide = exact.string_exact Short wide (IsString padded) (λ x. joins (IsU32 (length x)) (λ b. b ≡ x))

-- Bytes one by one are the bytes.
each_byte : (xs l : List ℕ) → IsEach IsByte xs l → l ≡ xs
each_byte [] l h = h
each_byte (x ∷ xs) l h = h.whole ∙ ap (λ f. f ++ h.back) h.first ∙ ap (λ b. x ∷ b) (each_byte xs h.back h.second)

byte_each : (xs l : List ℕ) → l ≡ xs → IsEach IsByte xs l
byte_each [] l e = e
byte_each (x ∷ xs) l e = record { front = x ∷ []; back = xs; whole = e; first = refl; second = byte_each xs xs refl }

pub bytes_exact : Exact (IsList padded IsByte) bytes_at
bytes_exact =
    renamed (IsString padded) (IsList padded IsByte) bytes_at
    (λ x front h. record { front = h.front; back = h.back; whole = h.whole; first = h.first; second = byte_each x h.back h.second })
    (λ x front h. record { front = h.front; back = h.back; whole = h.whole; first = h.first; second = each_byte x h.back h.second })
    (string_exact BadTable)

-- Each item in the light of the one before it.
abbrev pub Linked : {S A : Type 0} → (Option S → A → Type 0) → (A → Option S) → Option S → List A → Type 0
Linked R after s xs = exact.Linked R (λ _ a. after a) s xs

each : {A : Type 0} (P : A → List ℕ → Type 0) → exact.Each P (IsEach P)
each P = record { none = refl; nothing = λ l h. h; some = λ x xs. joins (P x) (IsEach P xs) }

module _ {S A : Type 0} (item : Option S → Reading A) (after : A → Option S) (P : A → List ℕ → Type 0) (R : Option S → A → Type 0) (ep : (s : Option S) → Exact (λ x b. P x b × R s x) (item s)) where
  pub many_sound : (n : ℕ) (s : Option S) (bytes : List ℕ) (r : List A × List ℕ) → many item after n s bytes ≡ okay r → Front (λ xs l. IsEach P xs l × Linked R after s xs × (length xs ≡ n)) bytes r.0 r.1
  many_sound n s bytes r e = exact.many_sound Short BadTable item (λ _ a. after a) P (IsEach P) R (each P) ep n s bytes r e

  pub many_complete : (xs : List A) (s : Option S) (front rest : List ℕ) → IsEach P xs front → Linked R after s xs → many item after (length xs) s (front ++ rest) ≡ Ok (xs, rest)
  many_complete xs s front rest h k = exact.many_complete Short BadTable item (λ _ a. after a) P (IsEach P) R (each P) ep xs s front rest h k

  pub list_exact : Exact (λ xs b. IsList padded P xs b × Linked R after None xs) (list_at item after)
  list_exact = exact.list_exact Short BadTable item (λ _ a. after a) P (IsEach P) R (each P) ep (IsList padded P) None (λ xs. joins (IsU32 (length xs)) (IsEach P xs))

-- Types.
abbrev IsIn : ℕ → Option ℕ → TableRef → Type 0
IsIn n s r = IsWithin n r

abbrev pub AreRefs : ℕ → List TableRef → List ℕ → Type 0
AreRefs n rs b = IsList padded (IsTableRef padded) rs b × Each (IsWithin n) rs

linked_refs : (n : ℕ) (s : Option ℕ) (rs : List TableRef) → Linked (IsIn n) no_state s rs → Each (IsWithin n) rs
linked_refs n s [] h = tt
linked_refs n s (r ∷ rs) h = (h.0, linked_refs n None rs h.1)

refs_linked : (n : ℕ) (s : Option ℕ) (rs : List TableRef) → Each (IsWithin n) rs → Linked (IsIn n) no_state s rs
refs_linked n s [] h = tt
refs_linked n s (r ∷ rs) h = (h.0, refs_linked n None rs h.1)

pub refs_exact : (n : ℕ) → Exact (AreRefs n) (refs_at n)
refs_exact n =
    renamed (λ rs b. IsList padded (IsTableRef padded) rs b × Linked (IsIn n) no_state None rs) (AreRefs n) (refs_at n)
    (λ x front h. (h.0, linked_refs n None x h.1))
    (λ x front h. (h.0, refs_linked n None x h.1))
    (list_exact (ref_item n) no_state (IsTableRef padded) (IsIn n) (λ s. ref_exact n))

-- Fields.
abbrev pub AreFields : ℕ → List (Entry TableRef) → List ℕ → Type 0
AreFields n es b = IsList padded (IsField padded (IsTableRef padded)) es b × RisingIds es × Each (λ e. IsWithin n e.part) es

abbrev IsNext : ℕ → Option ℕ → Entry TableRef → Type 0
IsNext n s e = (rises s e.id ≡ true) × IsWithin n e.part

field_exact : (n : ℕ) (s : Option ℕ) → Exact (λ e b. IsField padded (IsTableRef padded) e b × IsNext n s e) (field_at n s)
unfolding field_at
field_exact n s =
    made_exact (λ z. Then (λ b. IsU32 z.0 b × (rises s z.0 ≡ true)) (IsRefIn n z.1)) (λ e b. IsField padded (IsTableRef padded) e b × IsNext n s e) field (λ e. (e.id, e.part)) _
    (λ _. refl)
    (λ x front h. (record { front = h.front; back = h.back; whole = h.whole; first = h.first.0; second = h.second.0 }, (h.first.1, h.second.1)))
    (λ y front h. record { front = h.0.front; back = h.0.back; whole = h.0.whole; first = (h.0.first, h.1.0); second = (h.0.second, h.1.1) })
    (both_exact (λ id b. IsU32 id b × (rises s id ≡ true)) (IsRefIn n) (id_at s) (ref_at n)
    (kept_exact IsU32 (λ id b. IsU32 id b × (rises s id ≡ true)) BadTable (rises s) (u32_at BadTable) (u32_exact BadTable) (λ x front h t. (h, t)) (λ x front h. h))
    (ref_exact n))

linked_rising : (n : ℕ) (s : Option ℕ) (es : List (Entry TableRef)) → Linked (IsNext n) id_of s es → RisingIds es × Each (λ e. IsWithin n e.part) es
linked_rising n s [] h = (tt, tt)
linked_rising n s (e ∷ []) h = (tt, (h.0.1, tt))
linked_rising n s (e ∷ f ∷ es) h =
    let i = linked_rising n (Some e.id) (f ∷ es) h.1 in
    ((ltb-true e.id f.id h.1.0.0, i.0), (h.0.1, i.1))

rising_linked : (n : ℕ) (s : Option ℕ) (es : List (Entry TableRef)) → (e : Entry TableRef) → RisingIds (e ∷ es) → Each (λ e. IsWithin n e.part) es → Linked (IsNext n) id_of (Some e.id) es
rising_linked n s [] e h w = tt
rising_linked n s (f ∷ es) e h w = ((lt-ltb e.id f.id h.0, w.0), rising_linked n s es f h.1 w.1)

rising_all : (n : ℕ) (es : List (Entry TableRef)) → RisingIds es → Each (λ e. IsWithin n e.part) es → Linked (IsNext n) id_of None es
rising_all n [] h w = tt
rising_all n (e ∷ es) h w = ((refl, w.0), rising_linked n None es e h w.1)

pub fields_exact : (n : ℕ) → Exact (AreFields n) (list_at (field_at n) id_of)
fields_exact n =
    renamed (λ es b. IsList padded (IsField padded (IsTableRef padded)) es b × Linked (IsNext n) id_of None es) (AreFields n) (list_at (field_at n) id_of)
    (λ x front h. let i = linked_rising n None x h.1 in (h.0, i.0, i.1))
    (λ x front h. (h.0, rising_all n x h.1 h.2))
    (list_exact (field_at n) id_of (IsField padded (IsTableRef padded)) (IsNext n) (field_exact n))

-- Methods.
abbrev pub AreMethods : ℕ → List (Method TableRef) → List ℕ → Type 0
AreMethods n ms b = IsList padded (IsMethod padded (IsTableRef padded)) ms b × RisingNames ms × Each (λ m. IsWithin n m.part) ms

abbrev IsNextName : ℕ → Option (List ℕ) → Method TableRef → Type 0
IsNextName n s m = (name_rises s m.name ≡ true) × IsWithin n m.part

method_exact : (n : ℕ) (s : Option (List ℕ)) → Exact (λ m b. IsMethod padded (IsTableRef padded) m b × IsNextName n s m) (method_at n s)
unfolding method_at
method_exact n s =
    made_exact (λ z. Then (λ b. IsString padded z.0 b × (name_rises s z.0 ≡ true)) (IsRefIn n z.1)) (λ m b. IsMethod padded (IsTableRef padded) m b × IsNextName n s m) method (λ m. (m.name, m.part)) _
    (λ _. refl)
    (λ x front h. (record { front = h.front; back = h.back; whole = h.whole; first = h.first.0; second = h.second.0 }, (h.first.1, h.second.1)))
    (λ y front h. record { front = h.0.front; back = h.0.back; whole = h.0.whole; first = (h.0.first, h.1.0); second = (h.0.second, h.1.1) })
    (both_exact (λ m b. IsString padded m b × (name_rises s m ≡ true)) (IsRefIn n) (method_name_at s) (ref_at n)
    (kept_exact (IsString padded) (λ m b. IsString padded m b × (name_rises s m ≡ true)) BadTable (name_rises s) (string_at BadTable) (string_exact BadTable) (λ x front h t. (h, t)) (λ x front h. h))
    (ref_exact n))

linked_names : (n : ℕ) (s : Option (List ℕ)) (ms : List (Method TableRef)) → Linked (IsNextName n) name_of s ms → RisingNames ms × Each (λ m. IsWithin n m.part) ms
linked_names n s [] h = (tt, tt)
linked_names n s (e ∷ []) h = (tt, (h.0.1, tt))
linked_names n s (e ∷ f ∷ es) h =
    let i = linked_names n (Some e.name) (f ∷ es) h.1 in
    ((h.1.0.0, i.0), (h.0.1, i.1))

names_linked : (n : ℕ) (ms : List (Method TableRef)) → (m : Method TableRef) → RisingNames (m ∷ ms) → Each (λ m. IsWithin n m.part) ms → Linked (IsNextName n) name_of (Some m.name) ms
names_linked n [] m h w = tt
names_linked n (f ∷ ms) m h w = ((h.0, w.0), names_linked n ms f h.1 w.1)

names_all : (n : ℕ) (ms : List (Method TableRef)) → RisingNames ms → Each (λ m. IsWithin n m.part) ms → Linked (IsNextName n) name_of None ms
names_all n [] h w = tt
names_all n (m ∷ ms) h w = ((refl, w.0), names_linked n ms m h w.1)

pub methods_exact : (n : ℕ) → Exact (AreMethods n) (list_at (method_at n) name_of)
methods_exact n =
    renamed (λ ms b. IsList padded (IsMethod padded (IsTableRef padded)) ms b × Linked (IsNextName n) name_of None ms) (AreMethods n) (list_at (method_at n) name_of)
    (λ x front h. let i = linked_names n None x h.1 in (h.0, i.0, i.1))
    (λ x front h. (h.0, names_all n x h.1 h.2))
    (list_exact (method_at n) name_of (IsMethod padded (IsTableRef padded)) (IsNextName n) (method_exact n))
