-- What holds of types by their parts, level by level.
use Rattle.std.specs.Prelude.{ℕ, zero, suc, Bool, true, false, List, [], map, length}
use Rattle.std.specs.List.{list_all}
use Rattle.mo_types.specs.declared.wire.Plain.TheVariants as plain
use Rattle.mo_types.specs.declared.wire.Wire.{Wire}
use Rattle.mo_types.specs.declared.wire.Wire.TheVariants.{Simple, Record}
use Rattle.mo_coding.specs.Heads.{Heads}

-- by so many levels, where a head goes by a test of its parts
abbrev pub by_level : {B : Type 0} → ((B → Bool) → Wire B → Bool) → (B → Wire B) → ℕ → B → Bool
by_level test head zero b = false
by_level test head (suc n) b = test (by_level test head n) (head b)

-- as many levels as there can be
abbrev pub all_levels : {B : Type 0} → Heads B → ℕ
all_levels g = suc (length g.parts)

-- values without bytes: null, reserved, and records of such types alone (Candid specification, section "Memory")
abbrev pub is_empty_head : {B : Type 0} → (B → Bool) → Wire B → Bool
is_empty_head test (Simple plain.Null) = true
is_empty_head test (Simple plain.Reserved) = true
is_empty_head test (Record es) = list_all (λ e. test e.part) es
is_empty_head test _ = false

abbrev pub is_empty : {B : Type 0} → Heads B → B → Bool
is_empty g b = by_level is_empty_head g.head (all_levels g) b

abbrev pub record_parts : {B : Type 0} → Wire B → List B
record_parts (Record es) = map (λ e. e.part) es
record_parts _ = []

-- records of records end
abbrev pub is_ending : {B : Type 0} → (B → Bool) → Wire B → Bool
is_ending test w = list_all test (record_parts w)
