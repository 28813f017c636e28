-- References to fields, in the order of the fields.
use denote.Bor.{Bor}
use Rattle.std.proofs.Common.{◌≡◌, ℕ, zero, suc, ◌<◌, List, [], ◌∷◌, ◌++◌, length, get_or, drop, map, refl, sym, ap, arith}
use Rattle.mo_types.specs.declared.node.Field.{Field}
use Rattle.mo_types.specs.declared.node.TypeId.{TypeId}
use Rattle.mo_values.specs.Messages.{labels, types, under}
use Rattle.mo_values.specs.Shapes.{Bytes}
use Rattle.value_arena.specs.declared.node.ValueId.{ValueId}
use Rattle.arena_messages.specs.Waiting.{both_ids, field_ids}

pub label_at : (order : List (Bor (Field TypeId))) (i : ℕ) (f : Bor (Field TypeId)) (d : Bytes) → i < length order → f ≡ get_or order i f → get_or (labels (map (λ g. g.now) order)) i d ≡ f.now.label
label_at [] i f d h e = absurd (omega arith)
label_at (g ∷ gs) zero f d h e = ap (λ (x : Bor (Field TypeId)). x.now.label) (sym e)
label_at (g ∷ gs) (suc i) f d h e = label_at gs i f d (omega arith) e

pub labels_length : (order : List (Bor (Field TypeId))) → length (labels (map (λ g. g.now) order)) ≡ length order
labels_length [] = refl
labels_length (g ∷ gs) = ap (λ n. suc n) (labels_length gs)

-- the values of a field, and those of the fields behind it
pub field_step : (all : List (Field TypeId)) (ls : List Bytes) (ids : List ValueId) (order : List (Bor (Field TypeId))) (i : ℕ) (f : Bor (Field TypeId)) → i < length order → f ≡ get_or order i f
    → field_ids all ls ids (drop i (map (λ g. g.now) order))
    ≡ both_ids (under f.now.label (labels all) (types all)) (under f.now.label ls ids) ++ field_ids all ls ids (drop (suc i) (map (λ g. g.now) order))
field_step all ls ids [] i f h e = absurd (omega arith)
field_step all ls ids (g ∷ gs) zero f h e =
    ap (λ (x : Bor (Field TypeId)). both_ids (under x.now.label (labels all) (types all)) (under x.now.label ls ids) ++ field_ids all ls ids (map (λ g. g.now) gs)) (sym e)
field_step all ls ids (g ∷ gs) (suc i) f h e = field_step all ls ids gs i f (omega arith) e
