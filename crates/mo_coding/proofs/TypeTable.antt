-- The header is the canonical one.
use Rattle.std.proofs.Common.{◌≡◌, ℕ, List, [], ◌∷◌, map, Option, Some, None, refl, subst, pos}
use Rattle.mo_types.specs.declared.wire.Entry.{Entry}
use Rattle.mo_types.specs.declared.wire.Method.{Method}
use Rattle.mo_types.specs.declared.wire.Wire.{Wire}
use Rattle.mo_types.specs.declared.wire.Wire.TheVariants.{Simple, Opt, Vec, Record, Variant, Func, Service}
use Rattle.mo_types.specs.Wire.{plain_code}
use Rattle.mo_types.specs.Spelling.{shortest}
use Rattle.mo_types.specs.Header.{magic, IsByte, IsField, IsMethod, IsEntry, IsHeader, IsAt, RefBy, IsRef, IsCanonical}
use Rattle.candid_laws.proofs.Same.{same_sym, same_trans}
use Rattle.candid_laws.proofs.Unique.{one_order, IsApart, visit_apart}
use Rattle.mo_coding.specs.Heads.{Heads}
use Rattle.mo_coding.specs.Order.{place, order_of}
use Rattle.mo_coding.specs.Pieces.{Piece}
use Rattle.mo_coding.specs.TypeTable.{field, method, entry, header, place_piece, ref_by, ref, canonical}
use Rattle.mo_coding.proofs.Heads.{AreFinite}
use Rattle.mo_coding.proofs.Order.{placed_at, not_placed, order_visits}
use Rattle.mo_coding.proofs.Pieces.{Makes, makes_bytes, makes_none, makes_join, makes_unsigned, makes_signed, makes_string, makes_list}

module _ {B : Type 0} (P : B → List ℕ → Type 0) (part : B → Piece) (m : (b : B) → Makes (P b) (part b)) where
  makes_field : (e : Entry B) → Makes (IsField shortest P e) (field part e)
  makes_field e = makes_join (makes_unsigned 32 e.id) (m e.part)

  makes_method : (d : Method B) → Makes (IsMethod shortest P d) (method part d)
  makes_method d = makes_join (makes_string d.name) (m d.part)

  makes_byte : (n : ℕ) → Makes (IsByte n) (Some (n ∷ []))
  makes_byte n = makes_bytes (n ∷ [])

  makes_entry : (w : Wire B) → Makes (IsEntry shortest P w) (entry part w)
  makes_entry (Simple p) = makes_none _ (λ b h. h)
  makes_entry (Opt b) = makes_join (makes_bytes (0x6e ∷ [])) (m b)
  makes_entry (Vec b) = makes_join (makes_bytes (0x6d ∷ [])) (m b)
  makes_entry (Record es) = makes_join (makes_bytes (0x6c ∷ [])) (makes_list (IsField shortest P) (field part) makes_field es)
  makes_entry (Variant es) = makes_join (makes_bytes (0x6b ∷ [])) (makes_list (IsField shortest P) (field part) makes_field es)
  makes_entry (Func ps rs ns) = makes_join (makes_bytes (0x6a ∷ [])) (makes_join (makes_list P part m ps) (makes_join (makes_list P part m rs) (makes_list IsByte (λ n. Some (n ∷ [])) makes_byte ns)))
  makes_entry (Service ms) = makes_join (makes_bytes (0x69 ∷ [])) (makes_list (IsMethod shortest P) (method part) makes_method ms)

  makes_header : (table : List (Wire B)) (args : List B) → Makes (IsHeader shortest P table args) (header part table args)
  makes_header table args = makes_join (makes_bytes magic) (makes_join (makes_list (IsEntry shortest P) (entry part) makes_entry table) (makes_list P part m args))

module _ {B : Type 0} (g : Heads B) (f : AreFinite g) where
  module _ (order : List B) (apart : IsApart g.head order) where
    -- the place of the one that is equal
    abbrev IsPlace : B → List ℕ → Type 0
    IsPlace b bytes = (i : ℕ) × IsAt g.head order b i × shortest.signed 33 bytes (pos i)

    makes_place : (b : B) → Makes (IsPlace b) (place_piece (place g order b))
    makes_place b = by (place g order b) refl where
      by : (o : Option ℕ) → place g order b ≡ o → Makes (IsPlace b) (place_piece o)
      by None e = makes_none (IsPlace b) (λ bytes h. not_placed g f order b e (h.0, h.1))
      by (Some i) e = let m = makes_signed 33 (pos i) in let a = placed_at g f order b i e in record {
        sound = λ bytes h. (i, a, m.sound bytes h);
        only = λ bytes h.
            let s = same_trans g.head g.head g.head h.1.other b a.other h.1.same (same_sym g.head g.head a.other b a.same) in
            let k : h.0 ≡ i = apart h.0 i h.1.other a.other h.1.there a.there s in
            m.only bytes (subst (λ n. shortest.signed 33 bytes (pos n)) k h.2);
      }

    makes_ref_by : (b : B) (w : Wire B) → Makes (RefBy g.head shortest order b w) (ref_by g order b w)
    makes_ref_by b (Simple p) = makes_bytes (plain_code p ∷ [])
    makes_ref_by b (Opt a) = makes_place b
    makes_ref_by b (Vec a) = makes_place b
    makes_ref_by b (Record es) = makes_place b
    makes_ref_by b (Variant es) = makes_place b
    makes_ref_by b (Func ps rs ns) = makes_place b
    makes_ref_by b (Service ms) = makes_place b

    makes_ref : (b : B) → Makes (IsRef g.head shortest order b) (ref g order b)
    makes_ref b = makes_ref_by b (g.head b)

  pub makes_canonical : (args : List B) → Makes (IsCanonical g.head shortest args) (canonical g args)
  makes_canonical args =
      let order = order_of g args in
      let v = order_visits g f args in
      let m = makes_header (IsRef g.head shortest order) (ref g order) (makes_ref order (visit_apart g.head args order v)) (map g.head order) args in
      record {
        sound = λ b e. record { order = order; visits = v; header = m.sound b e };
        only = λ b c. m.only b (subst (λ o. IsHeader shortest (IsRef g.head shortest o) (map g.head o) args b) (one_order g.head args c.order order c.visits v) c.header);
      }
