-- The header of the types of a graph.
use Rattle.std.proofs.Common.{◌≡◌, ℕ, ◌+◌, List, [], ◌∷◌, ◌++◌, length, map, Some, slice_get, sym, ap, ◌∙◌, subst, arith}
use Rattle.mo_types.specs.declared.node.TypeId.{TypeId}
use Rattle.mo_types.specs.declared.wire.Plain.{Plain}
use Rattle.mo_types.specs.declared.wire.Plain.TheVariants as plain
use Rattle.mo_types.specs.declared.wire.Wire.{Wire}
use Rattle.mo_types.specs.declared.wire.Wire.TheVariants.{Simple, Opt, Vec, Record, Variant, Func, Service}
use Rattle.mo_types.specs.Graph.{Slot, head_at}
use Rattle.mo_types.specs.Wire.{map_wire, refs, wire}
use Rattle.mo_types.specs.Spelling.{shortest}
use Rattle.mo_types.specs.Header.{IsHeader, IsRef, IsCanonical}
use Rattle.candid_types.specs.Shapes.{ref_of, shape_at, IsTableOf}
use Rattle.candid_types.proofs.NumberLemmas.{ref_of_plain}
use Rattle.candid_write.specs.declared.places.Table.{Table}
use Rattle.candid_write.specs.Order.{Visited}
use Rattle.candid_write.specs.Appends.{Appends, IsHeaderOf}
use Rattle.candid_write.proofs.Along.{canonical_along}

simple_back : (w : Wire ℕ) (p : Plain) → map_wire ref_of w ≡ Simple p → w ≡ Simple p
simple_back (Simple q) p e = let f : q ≡ p = cc in ap (λ r. Simple r) f
simple_back (Opt a) p e = cc
simple_back (Vec a) p e = cc
simple_back (Record es) p e = cc
simple_back (Variant es) p e = cc
simple_back (Func ps rs ns) p e = cc
simple_back (Service ms) p e = cc

pub first_is : (slots : List Slot) (shapes : List (Wire ℕ)) → IsTableOf slots shapes → slice_get shapes 0 ≡ Some (Simple plain.Empty)
first_is slots [] t = let e : 0 ≡ 18 + length slots = t.count in absurd (omega arith)
first_is slots (w ∷ ws) t = ap (λ v. Some v) (simple_back w plain.Empty (sym (t.heads 0) ∙ ap (wire (head_at slots)) (ref_of_plain plain.Empty)))

-- the header of a table is that of the arguments by number
pub by_number : (shapes : List (Wire ℕ)) (t : Table) (args old new : List ℕ) → Visited shapes args t → Appends (λ b. IsHeaderOf t args b) old new → Appends (λ b. IsCanonical (shape_at shapes) shortest args b) old new
by_number shapes t args old new v a = record {
  bytes = a.bytes;
  whole = a.whole;
  fits = record { order = t.order.items; visits = v.visits; header = subst (λ l. IsHeader shortest (IsRef (shape_at l) shortest t.order.items) (map (shape_at l) t.order.items) args a.bytes) v.shapes a.fits };
}

-- and that of the types of these numbers
pub canonical : (slots : List Slot) (shapes : List (Wire ℕ)) (ids : List TypeId) (args b : List ℕ) → IsTableOf slots shapes → map ref_of args ≡ refs ids → IsCanonical (shape_at shapes) shortest args b → IsCanonical (wire (head_at slots)) shortest (refs ids) b
canonical slots shapes ids args b is e c = subst (λ rs. IsCanonical (wire (head_at slots)) shortest rs b) e (canonical_along ref_of (shape_at shapes) (wire (head_at slots)) is.heads shortest args c.order b c.visits c.header)

pub whole_header : (slots : List Slot) (shapes : List (Wire ℕ)) (ids : List TypeId) (args others old new : List ℕ) → IsTableOf slots shapes → map ref_of args ≡ refs ids → others ≡ args → old ≡ [] → Appends (λ b. IsCanonical (shape_at shapes) shortest others b) old new → IsCanonical (wire (head_at slots)) shortest (refs ids) new
whole_header slots shapes ids args others old new is e f o a =
    subst (λ b. IsCanonical (wire (head_at slots)) shortest (refs ids) b) (sym (a.whole ∙ ap (λ l. l ++ a.bytes) o)) (canonical slots shapes ids args a.bytes is e (subst (λ l. IsCanonical (shape_at shapes) shortest l a.bytes) f a.fits))
