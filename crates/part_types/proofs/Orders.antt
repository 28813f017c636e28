-- References to fields, in the order of the fields.
use denote.Bor.{Bor}
use Rattle.std.proofs.Common.{◌≡◌, List, map, reverse, Bool, sym, ap, ◌∙◌, subst}
use Rattle.std.specs.Cmp.{IsStrictWeakOrder}
use Rattle.std.specs.List.Sorted.{IsSortedBy, IsStableBy}
use Rattle.std.specs.Ordering.{is_lt, nat_cmp}
use Rattle.std.proofs.lemmas.Cmp.{nat_cmp_total}
use Rattle.std.proofs.lemmas.List.Sorted.{ranks_by}
use Rattle.mo_types.specs.declared.node.Field.{Field}
use Rattle.mo_types.specs.declared.node.TypeId.{TypeId}
use Rattle.mo_types.specs.Label.{label_id}
use Rattle.mo_types.specs.Values.{by_label}
use Rattle.candid_types.proofs.Orders.{label_before, by_label_is, nat_cmp_lt}
use Rattle.candid_types.proofs.Sorting.{sorted_is, map_in_order}

abbrev pub id_lt : Bor (Field TypeId) → Bor (Field TypeId) → Bool
id_lt f g = is_lt (nat_cmp (label_id f.now.label) (label_id g.now.label))

rank : IsStrictWeakOrder id_lt
rank = ranks_by nat_cmp_total (λ (f : Bor (Field TypeId)). label_id f.now.label)

pub sorted_fields : (fs rs gs : List (Bor (Field TypeId))) → rs ≡ reverse fs → IsSortedBy id_lt gs → IsStableBy id_lt rs gs → map (λ f. f.now) gs ≡ by_label (map (λ f. f.now) fs)
sorted_fields fs rs gs e s t =
    ap (map (λ (f : Bor (Field TypeId)). f.now)) (sorted_is id_lt rank fs gs s (subst (λ l. IsStableBy id_lt l gs) e t))
    ∙ map_in_order id_lt label_before (λ (f : Bor (Field TypeId)). f.now) (λ f g. sym (nat_cmp_lt (label_id f.now.label) (label_id g.now.label))) fs
    ∙ sym (by_label_is (map (λ (f : Bor (Field TypeId)). f.now) fs))
