-- Which types the numbers stand for, where Motoko values differ from Candid values.
use Rattle.std.proofs.Common.{◌≡◌, ◌≢◌, ℕ, zero, suc, ◌-◌, ◌<◌, ◌≤◌, List, Option, Ok, Err, slice_get, refl, ap, arith}
use Rattle.mo_types.specs.declared.datum.Datum.{Datum}
use Rattle.mo_types.specs.declared.datum.Datum.TheVariants as part
use Rattle.mo_types.specs.declared.node.Node.{Node}
use Rattle.mo_types.specs.declared.node.TypeId.{TypeId}
use Rattle.mo_types.specs.Graph.{Slot, node_of_slot, node_or_bottom}
use Rattle.candid_header.specs.declared.fault.Fault.TheVariants.{BadValue}
use Rattle.candid_header.specs.Reading.{Reading}
use Rattle.candid_types.specs.Shapes.{ref_of}
use Rattle.candid_types.proofs.NumberLemmas.{ref_of_past}
use Rattle.candid_read.specs.Parts.{node_part, ref_part}

pub node_of_number : (slots : List Slot) (of : ℕ) (o : Option (Node TypeId)) (other : Reading Datum) (bytes : List ℕ) → 18 ≤ of → o ≡ node_of_slot (slice_get slots (of - 18)) →
    ref_part slots (ref_of of) other bytes ≡ node_part (node_or_bottom o) other bytes
node_of_number slots of o other bytes h e = rw (ref_of_past of h, e) refl

pub null_is_unit : (slots : List Slot) (of : ℕ) (other : Reading Datum) (bytes : List ℕ) → of ≡ 1 → ref_part slots (ref_of of) other bytes ≡ Ok (part.Record 0, bytes)
unfolding ref_of
null_is_unit slots of other bytes e = ap (λ t. ref_part slots (ref_of t) other bytes) e

pub others_are_none : (slots : List Slot) (of : ℕ) (other : Reading Datum) (bytes : List ℕ) → of < 18 → of ≢ 1 → ref_part slots (ref_of of) other bytes ≡ Err BadValue
unfolding ref_of
others_are_none slots zero other bytes h k = refl
others_are_none slots (suc zero) other bytes h k = absurd (k refl)
others_are_none slots (suc (suc zero)) other bytes h k = refl
others_are_none slots (suc (suc (suc zero))) other bytes h k = refl
others_are_none slots (suc (suc (suc (suc zero)))) other bytes h k = refl
others_are_none slots (suc (suc (suc (suc (suc zero))))) other bytes h k = refl
others_are_none slots (suc (suc (suc (suc (suc (suc zero)))))) other bytes h k = refl
others_are_none slots (suc (suc (suc (suc (suc (suc (suc zero))))))) other bytes h k = refl
others_are_none slots (suc (suc (suc (suc (suc (suc (suc (suc zero)))))))) other bytes h k = refl
others_are_none slots (suc (suc (suc (suc (suc (suc (suc (suc (suc zero))))))))) other bytes h k = refl
others_are_none slots (suc (suc (suc (suc (suc (suc (suc (suc (suc (suc zero)))))))))) other bytes h k = refl
others_are_none slots (suc (suc (suc (suc (suc (suc (suc (suc (suc (suc (suc zero))))))))))) other bytes h k = refl
others_are_none slots (suc (suc (suc (suc (suc (suc (suc (suc (suc (suc (suc (suc zero)))))))))))) other bytes h k = refl
others_are_none slots (suc (suc (suc (suc (suc (suc (suc (suc (suc (suc (suc (suc (suc zero))))))))))))) other bytes h k = refl
others_are_none slots (suc (suc (suc (suc (suc (suc (suc (suc (suc (suc (suc (suc (suc (suc zero)))))))))))))) other bytes h k = refl
others_are_none slots (suc (suc (suc (suc (suc (suc (suc (suc (suc (suc (suc (suc (suc (suc (suc zero))))))))))))))) other bytes h k = refl
others_are_none slots (suc (suc (suc (suc (suc (suc (suc (suc (suc (suc (suc (suc (suc (suc (suc (suc zero)))))))))))))))) other bytes h k = refl
others_are_none slots (suc (suc (suc (suc (suc (suc (suc (suc (suc (suc (suc (suc (suc (suc (suc (suc (suc zero))))))))))))))))) other bytes h k = refl
others_are_none slots (suc (suc (suc (suc (suc (suc (suc (suc (suc (suc (suc (suc (suc (suc (suc (suc (suc (suc n)))))))))))))))))) other bytes h k = absurd (omega arith)
