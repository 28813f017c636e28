-- The types of a header in the order of first visit.
use Rattle.std.specs.Prelude.{◌≡◌, ℕ, ◌+◌, ◌⊎◌, List, [], ◌∷◌, length, map, reverse}
use Rattle.mo_types.specs.declared.wire.Wire.{Wire}
use Rattle.mo_types.specs.Sub.{Each}
use Rattle.mo_types.specs.Header.{IsSimple, IsKnown, Visits, parts_of}
use Rattle.candid_types.specs.Shapes.{shape_at}
use Rattle.candid_write.specs.declared.places.Table.{Table}
use Rattle.candid_write.specs.Classes.{class_at, AreClasses}

-- the classes are those of the shapes, and those that were seen are those of the order
pub record IsReady (t : Table) : Type 0 where
  pub classes : AreClasses t.shapes t.classes.items
  pub seen : t.seen.keys ≡ map (class_at t.classes.items) t.order.items

-- a type that a header can name: one without parts, or one of its order
abbrev pub IsPlaced : Table → ℕ → Type 0
IsPlaced t n = IsSimple (shape_at t.shapes n) ⊎ IsKnown (shape_at t.shapes) t.order.items n

-- a type with parts, which a header can name
abbrev pub IsClosed : Table → Wire ℕ → Type 0
IsClosed t w = (IsSimple w → ⊥) × Each (IsPlaced t) (parts_of w)

-- the types of the order have parts, which the header can name
pub record IsComplete (t : Table) : Type 0 where
  pub ready : IsReady t
  pub closed : Each (λ n. IsClosed t (shape_at t.shapes n)) t.order.items

-- Visiting a number: what is left on the stack leads to an order that the number and the old stack lead to.
pub record Steps (number : ℕ) (old new : Table) (todo left : List ℕ) : Type 0 where
  pub shapes : new.shapes ≡ old.shapes
  pub ready : IsReady new
  pub visits : (out : List ℕ) → Visits (shape_at old.shapes) new.order.items (reverse left) out → Visits (shape_at old.shapes) old.order.items (number ∷ reverse todo) out
  pub less : ((new.order.items ≡ old.order.items) × (left ≡ todo)) ⊎ (length new.order.items ≡ length old.order.items + 1)

-- a table whose order is that of the first visits
pub record Visited (heads : List (Wire ℕ)) (roots : List ℕ) (t : Table) : Type 0 where
  pub shapes : t.shapes ≡ heads
  pub ready : IsReady t
  pub visits : Visits (shape_at heads) [] roots t.order.items
