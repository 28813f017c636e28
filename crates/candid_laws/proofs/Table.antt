-- The table of a header that was written: its entries, with the types' numbers in the place of the types.
use Rattle.std.proofs.Common.{◌≡◌, ℕ, List, [], ◌∷◌, length, refl, sym, subst, arith}
use Rattle.mo_types.specs.declared.wire.Entry.{Entry}
use Rattle.mo_types.specs.declared.wire.Method.{Method}
use Rattle.mo_types.specs.declared.wire.Wire.{Wire}
use Rattle.mo_types.specs.declared.wire.Wire.TheVariants.{Simple, Opt, Vec, Record, Variant, Func, Service}
use Rattle.mo_types.specs.Wire.{SameParts, SameEntries, SameMethods, SameHead}
use Rattle.mo_types.specs.Spelling.{shortest, padded}
use Rattle.mo_types.specs.Header.{IsEach, IsList, IsField, IsMethod, IsEntry, IsHeader}
use Rattle.candid_laws.proofs.Counts.{part_counts, entry_counts, method_counts}
use Rattle.candid_laws.proofs.Padded.{short_unsigned, short_string}

module _ {B C : Type 0} (P : B → List ℕ → Type 0) (Q : C → List ℕ → Type 0) (R : C → B → Type 0) where
  -- what stands for it, with the same bytes
  abbrev Converted : B → List ℕ → Type 0
  Converted b bytes = (c : C) × Q c bytes × R c b

  abbrev Made : {X Y : Type 0} → (Y → List ℕ → Type 0) → (Y → X → Type 0) → X → List ℕ → Type 0
  Made {X} {Y} Is For x bytes = (y : Y) × Is y bytes × For y x

  module _ (convert : (b : B) (bytes : List ℕ) → P b bytes → Converted b bytes) where
    each_made : (bs : List B) (bytes : List ℕ) → IsEach P bs bytes → (cs : List C) × IsEach Q cs bytes × SameParts R cs bs
    each_made [] bytes h = ([], h, tt)
    each_made (b ∷ bs) bytes h =
        let x = convert b h.front h.first in
        let y = each_made bs h.back h.second in
        (x.0 ∷ y.0, record { front = h.front; back = h.back; whole = h.whole; first = x.1; second = y.1 }, (x.2, y.2))

    fields_made : (bs : List (Entry B)) (bytes : List ℕ) → IsEach (IsField shortest P) bs bytes → (cs : List (Entry C)) × IsEach (IsField padded Q) cs bytes × SameEntries R cs bs
    fields_made [] bytes h = ([], h, tt)
    fields_made (b ∷ bs) bytes h =
        let f = h.first in
        let x = convert b.part f.back f.second in
        let y = fields_made bs h.back h.second in
        let c : Entry C = record { id = b.id; part = x.0 } in (
          c ∷ y.0,
          record { front = h.front; back = h.back; whole = h.whole; first = record { front = f.front; back = f.back; whole = f.whole; first = short_unsigned 32 f.front b.id (omega arith) f.first; second = x.1 }; second = y.1 },
          (refl, x.2, y.2),
        )

    methods_made : (bs : List (Method B)) (bytes : List ℕ) → IsEach (IsMethod shortest P) bs bytes → (cs : List (Method C)) × IsEach (IsMethod padded Q) cs bytes × SameMethods R cs bs
    methods_made [] bytes h = ([], h, tt)
    methods_made (b ∷ bs) bytes h =
        let f = h.first in
        let x = convert b.part f.back f.second in
        let y = methods_made bs h.back h.second in
        let c : Method C = record { name = b.name; part = x.0 } in (
          c ∷ y.0,
          record { front = h.front; back = h.back; whole = h.whole; first = record { front = f.front; back = f.back; whole = f.whole; first = short_string b.name f.front f.first; second = x.1 }; second = y.1 },
          (refl, x.2, y.2),
        )

    count_made : (bytes : List ℕ) (m n : ℕ) → m ≡ n → shortest.unsigned 32 bytes m → padded.unsigned 32 bytes n
    count_made bytes m n e h = subst (λ (k : ℕ). padded.unsigned 32 bytes k) e (short_unsigned 32 bytes m (omega arith) h)

    list_made : (bs : List B) (bytes : List ℕ) → IsList shortest P bs bytes → (cs : List C) × IsList padded Q cs bytes × SameParts R cs bs
    list_made bs bytes h =
        let x = each_made bs h.back h.second in
        (x.0, record { front = h.front; back = h.back; whole = h.whole; first = count_made h.front (length bs) (length x.0) (sym (part_counts R x.0 bs x.2)) h.first; second = x.1 }, x.2)

    field_list : (bs : List (Entry B)) (bytes : List ℕ) → IsList shortest (IsField shortest P) bs bytes → (cs : List (Entry C)) × IsList padded (IsField padded Q) cs bytes × SameEntries R cs bs
    field_list bs bytes h =
        let x = fields_made bs h.back h.second in
        (x.0, record { front = h.front; back = h.back; whole = h.whole; first = count_made h.front (length bs) (length x.0) (sym (entry_counts R x.0 bs x.2)) h.first; second = x.1 }, x.2)

    method_list : (bs : List (Method B)) (bytes : List ℕ) → IsList shortest (IsMethod shortest P) bs bytes → (cs : List (Method C)) × IsList padded (IsMethod padded Q) cs bytes × SameMethods R cs bs
    method_list bs bytes h =
        let x = methods_made bs h.back h.second in
        (x.0, record { front = h.front; back = h.back; whole = h.whole; first = count_made h.front (length bs) (length x.0) (sym (method_counts R x.0 bs x.2)) h.first; second = x.1 }, x.2)

    abbrev EntryMade : Wire B → List ℕ → Type 0
    EntryMade w bytes = (v : Wire C) × IsEntry padded Q v bytes × SameHead R v w

    entry_made : (w : Wire B) (bytes : List ℕ) → IsEntry shortest P w bytes → EntryMade w bytes
    entry_made (Simple p) bytes h = absurd h
    entry_made (Opt b) bytes h = let x = convert b h.back h.second in (Opt x.0, record { front = h.front; back = h.back; whole = h.whole; first = h.first; second = x.1 }, x.2)
    entry_made (Vec b) bytes h = let x = convert b h.back h.second in (Vec x.0, record { front = h.front; back = h.back; whole = h.whole; first = h.first; second = x.1 }, x.2)
    entry_made (Record bs) bytes h = let x = field_list bs h.back h.second in (Record x.0, record { front = h.front; back = h.back; whole = h.whole; first = h.first; second = x.1 }, x.2)
    entry_made (Variant bs) bytes h = let x = field_list bs h.back h.second in (Variant x.0, record { front = h.front; back = h.back; whole = h.whole; first = h.first; second = x.1 }, x.2)
    entry_made (Func ps rs ns) bytes h =
        let k = h.second in
        let l = k.second in
        let n = l.second in
        let x = list_made ps k.front k.first in
        let y = list_made rs l.front l.first in (
          Func x.0 y.0 ns,
          record {
            front = h.front;
            back = h.back;
            whole = h.whole;
            first = h.first;
            second = record {
              front = k.front;
              back = k.back;
              whole = k.whole;
              first = x.1;
              second = record { front = l.front; back = l.back; whole = l.whole; first = y.1; second = record { front = n.front; back = n.back; whole = n.whole; first = short_unsigned 32 n.front (length ns) (omega arith) n.first; second = n.second } };
            };
          },
          (x.2, y.2, refl),
        )
    entry_made (Service bs) bytes h = let x = method_list bs h.back h.second in (Service x.0, record { front = h.front; back = h.back; whole = h.whole; first = h.first; second = x.1 }, x.2)

    entries_made : (ws : List (Wire B)) (bytes : List ℕ) → IsEach (IsEntry shortest P) ws bytes → (vs : List (Wire C)) × IsEach (IsEntry padded Q) vs bytes × SameParts (SameHead R) vs ws
    entries_made [] bytes h = ([], h, tt)
    entries_made (w ∷ ws) bytes h =
        let x = entry_made w h.front h.first in
        let y = entries_made ws h.back h.second in
        (x.0 ∷ y.0, record { front = h.front; back = h.back; whole = h.whole; first = x.1; second = y.1 }, (x.2, y.2))

    pub header_made : (table : List (Wire B)) (args : List B) (bytes : List ℕ) → IsHeader shortest P table args bytes
        → (entries : List (Wire C)) × (refs : List C) × IsHeader padded Q entries refs bytes × SameParts (SameHead R) entries table × SameParts R refs args
    header_made table args bytes h =
        let k = h.second in
        let t = k.first in
        let x = entries_made table t.back t.second in
        let y = list_made args k.back k.second in (
          x.0,
          y.0,
          record {
            front = h.front;
            back = h.back;
            whole = h.whole;
            first = h.first;
            second = record {
              front = k.front;
              back = k.back;
              whole = k.whole;
              first = record { front = t.front; back = t.back; whole = t.whole; first = count_made t.front (length table) (length x.0) (sym (part_counts (SameHead R) x.0 table x.2)) t.first; second = x.1 };
              second = y.1;
            };
          },
          x.2,
          y.2,
        )
