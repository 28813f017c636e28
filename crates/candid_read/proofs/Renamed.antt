-- Candid types by number, and the types that the numbers stand for.
use Rattle.std.proofs.Common.{ℕ, zero, suc, ◌<◌, List, [], ◌∷◌, Bool, map, sym, ◌∙◌, subst}
use Rattle.std.proofs.lemmas.List.{length-map}
use Rattle.mo_types.specs.Sub.{Each}
use Rattle.mo_types.specs.declared.datum.Datum.{Datum}
use Rattle.mo_types.specs.declared.datum.Datum.TheVariants as part
use Rattle.mo_types.specs.declared.node.TypeId.{TypeId}
use Rattle.mo_types.specs.declared.wire.Plain.TheVariants as plain
use Rattle.mo_types.specs.declared.wire.Entry.{Entry}
use Rattle.mo_types.specs.declared.wire.Wire.{Wire}
use Rattle.mo_types.specs.declared.wire.Wire.TheVariants.{Simple, Opt, Vec, Record, Variant, Func, Service}
use Rattle.mo_types.specs.declared.wire.Ref.{Ref}
use Rattle.mo_types.specs.Graph.{Slot, head_at}
use Rattle.mo_types.specs.Wire.{map_entry, map_wire, wire}
use Rattle.mo_types.specs.Spelling.{padded, IsWirePart, EmptyHead, EmptyBy, FewEmpty}
use Rattle.exact_reading.proofs.Exact.{Exact, renamed}
use Rattle.candid_types.specs.Shapes.{ref_of, shape_at, IsTableOf}
use Rattle.candid_read.specs.Parts.{part_by}
use Rattle.candid_read.specs.Empty.{AreEmpty}
use Rattle.candid_read.specs.Whole.{IsAllowed}
use Rattle.candid_read.proofs.Heads.{Part, shape_exact}

module _ {A B : Type 0} (f : A → B) where
  module _ (P : ℕ → A → Type 0) (Q : ℕ → B → Type 0) where
    part_to : ((n : ℕ) (a : A) → P n a → Q n (f a)) → (w : Wire A) (p : Datum) (bytes : List ℕ) → IsWirePart padded P w p bytes → IsWirePart padded Q (map_wire f w) p bytes
    part_to to (Simple s) p bytes h = h
    part_to to (Opt a) part.Null bytes h = h
    part_to to (Opt a) part.Present bytes h = h
    part_to to (Opt a) p bytes h = absurd h
    part_to to (Vec a) (part.Many n) bytes h = (to n a h.0, h.1)
    part_to to (Vec a) p bytes h = absurd h
    part_to to (Record es) (part.Record n) bytes h = (h.0 ∙ sym (length-map es (map_entry f)), h.1)
    part_to to (Record es) p bytes h = absurd h
    part_to to (Variant es) (part.Tag i) bytes h = (subst (λ (k : ℕ). i < k) (sym (length-map es (map_entry f))) h.0, h.1)
    part_to to (Variant es) p bytes h = absurd h
    part_to to (Func ps rs m) (part.Method p name) bytes h = h
    part_to to (Func ps rs m) p bytes h = absurd h
    part_to to (Service ms) (part.Actor p) bytes h = h
    part_to to (Service ms) p bytes h = absurd h

    part_from : ((n : ℕ) (a : A) → Q n (f a) → P n a) → (w : Wire A) (p : Datum) (bytes : List ℕ) → IsWirePart padded Q (map_wire f w) p bytes → IsWirePart padded P w p bytes
    part_from from (Simple s) p bytes h = h
    part_from from (Opt a) part.Null bytes h = h
    part_from from (Opt a) part.Present bytes h = h
    part_from from (Opt a) p bytes h = absurd h
    part_from from (Vec a) (part.Many n) bytes h = (from n a h.0, h.1)
    part_from from (Vec a) p bytes h = absurd h
    part_from from (Record es) (part.Record n) bytes h = (h.0 ∙ length-map es (map_entry f), h.1)
    part_from from (Record es) p bytes h = absurd h
    part_from from (Variant es) (part.Tag i) bytes h = (subst (λ (k : ℕ). i < k) (length-map es (map_entry f)) h.0, h.1)
    part_from from (Variant es) p bytes h = absurd h
    part_from from (Func ps rs m) (part.Method p name) bytes h = h
    part_from from (Func ps rs m) p bytes h = absurd h
    part_from from (Service ms) (part.Actor p) bytes h = h
    part_from from (Service ms) p bytes h = absurd h

  module _ (E : A → Type 0) (D : B → Type 0) where
    each_to : ((a : A) → E a → D (f a)) → (es : List (Entry A)) → Each (λ e. E e.part) es → Each (λ e. D e.part) (map (map_entry f) es)
    each_to to [] h = tt
    each_to to (e ∷ es) h = (to e.part h.0, each_to to es h.1)

    head_to : ((a : A) → E a → D (f a)) → (w : Wire A) → EmptyHead E w → EmptyHead D (map_wire f w)
    head_to to (Simple plain.Null) h = tt
    head_to to (Simple plain.Reserved) h = tt
    head_to to (Record es) h = each_to to es h
    head_to to w h = absurd h

    each_from : ((a : A) → D (f a) → E a) → (es : List (Entry A)) → Each (λ e. D e.part) (map (map_entry f) es) → Each (λ e. E e.part) es
    each_from from [] h = tt
    each_from from (e ∷ es) h = (from e.part h.0, each_from from es h.1)

    head_from : ((a : A) → D (f a) → E a) → (w : Wire A) → EmptyHead D (map_wire f w) → EmptyHead E w
    head_from from (Simple plain.Null) h = tt
    head_from from (Simple plain.Reserved) h = tt
    head_from from (Record es) h = each_from from es h
    head_from from w h = absurd h

module _ (slots : List Slot) (shapes : List (Wire ℕ)) (table : IsTableOf slots shapes) where
  abbrev Head : Ref TypeId → Wire (Ref TypeId)
  Head r = wire (head_at slots) r

  empty_to : (levels t : ℕ) → EmptyBy (shape_at shapes) levels t → EmptyBy Head levels (ref_of t)
  unfolding EmptyBy
  empty_to zero t h = h
  empty_to (suc n) t h = subst (EmptyHead (EmptyBy Head n)) (sym (table.heads t)) (head_to ref_of (EmptyBy (shape_at shapes) n) (EmptyBy Head n) (λ s e. empty_to n s e) (shape_at shapes t) h)

  empty_from : (levels t : ℕ) → EmptyBy Head levels (ref_of t) → EmptyBy (shape_at shapes) levels t
  unfolding EmptyBy
  empty_from zero t h = h
  empty_from (suc n) t h = head_from ref_of (EmptyBy (shape_at shapes) n) (EmptyBy Head n) (λ s e. empty_from n s e) (shape_at shapes t) (subst (EmptyHead (EmptyBy Head n)) (table.heads t) h)

  module _ (marks : List Bool) (a : AreEmpty shapes marks) where
    few_of : (n t : ℕ) → IsAllowed marks n t → FewEmpty Head n (ref_of t)
    few_of n t h = λ levels e. h (a.complete t levels (empty_from levels t e))

    of_few : (n t : ℕ) → FewEmpty Head n (ref_of t) → IsAllowed marks n t
    of_few n t h = λ e. let s = a.sound t e in h s.0 (empty_to s.0 t s.1)

    -- the part of a Candid value of the type of a number is read exactly
    pub wire_exact : (t : ℕ) → Exact (IsWirePart padded (FewEmpty Head) (Head (ref_of t))) (part_by marks (shape_at shapes t))
    wire_exact t =
        renamed (Part marks (shape_at shapes t)) (IsWirePart padded (FewEmpty Head) (Head (ref_of t))) (part_by marks (shape_at shapes t))
        (λ p bytes h. subst (λ (w : Wire (Ref TypeId)). IsWirePart padded (FewEmpty Head) w p bytes) (sym (table.heads t)) (part_to ref_of (IsAllowed marks) (FewEmpty Head) few_of (shape_at shapes t) p bytes h))
        (λ p bytes h. part_from ref_of (IsAllowed marks) (FewEmpty Head) of_few (shape_at shapes t) p bytes (subst (λ (w : Wire (Ref TypeId)). IsWirePart padded (FewEmpty Head) w p bytes) (table.heads t) h))
        (shape_exact marks (shape_at shapes t))
