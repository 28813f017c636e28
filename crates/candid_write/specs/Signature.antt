-- The head of a Candid type, with a number for each part's class, as a list of numbers. Two heads have one list exactly
-- where they are equal up to the classes of their parts.
use Rattle.std.specs.Prelude.{ℕ, List, [], ◌∷◌, ◌++◌, length, map}
use Rattle.std.specs.List.{flat_map}
use Rattle.mo_types.specs.declared.wire.Entry.{Entry}
use Rattle.mo_types.specs.declared.wire.Method.{Method}
use Rattle.mo_types.specs.declared.wire.Wire.{Wire}
use Rattle.mo_types.specs.declared.wire.Wire.TheVariants.{Simple, Opt, Vec, Record, Variant, Func, Service}
use Rattle.mo_types.specs.Wire.{plain_code}
use Rattle.candid_write.specs.Classes.{class_at}

module _ (classes : List ℕ) where
  abbrev pub class_list : List ℕ → List ℕ
  class_list parts = map (class_at classes) parts

  abbrev pub entry_numbers : Entry ℕ → List ℕ
  entry_numbers e = e.id ∷ class_at classes e.part ∷ []

  abbrev pub method_numbers : Method ℕ → List ℕ
  method_numbers m = (length m.name ∷ m.name) ++ class_at classes m.part ∷ []

  abbrev pub signature : Wire ℕ → List ℕ
  signature (Simple p) = 0 ∷ plain_code p ∷ []
  signature (Opt a) = 1 ∷ class_at classes a ∷ []
  signature (Vec a) = 2 ∷ class_at classes a ∷ []
  signature (Record es) = 3 ∷ flat_map entry_numbers es
  signature (Variant es) = 4 ∷ flat_map entry_numbers es
  signature (Func ps rs ns) = ((5 ∷ length ps ∷ length rs ∷ []) ++ class_list ps) ++ class_list rs ++ ns
  signature (Service ms) = 6 ∷ flat_map method_numbers ms
