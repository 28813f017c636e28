-- The pairs of parts that have to be equal where two types are: none at all where their heads differ.
use Rattle.std.specs.Prelude.{◌≡◌, ℕ, Bool, true, false, List, [], ◌∷◌, ◌++◌, Option, Some, None, nat_eq, if◌then◌else◌}
use Rattle.std.specs.Cmp.Lexicographic.{pointwise}
use Rattle.mo_types.specs.Sub.{Each}
use Rattle.mo_types.specs.declared.wire.Entry.{Entry}
use Rattle.mo_types.specs.declared.wire.Method.{Method}
use Rattle.mo_types.specs.declared.wire.Wire.{Wire}
use Rattle.mo_types.specs.declared.wire.Wire.TheVariants.{Simple, Opt, Vec, Record, Variant, Func, Service}
use Rattle.mo_types.specs.declared.wire.TableRef.{TableRef}
use Rattle.mo_types.specs.Wire.{plain_code, SameWire}
use Rattle.mo_types.specs.Header.{table_head}
use Rattle.candid_types.specs.Shapes.{shape_at}
use Rattle.candid_equal.specs.declared.pair.Pair.{Pair}
use Rattle.candid_equal.specs.Pairs.{pair}

abbrev pub join : Option (List Pair) → Option (List Pair) → Option (List Pair)
join None b = None
join (Some a) None = None
join (Some a) (Some b) = Some (a ++ b)

abbrev pub when : Bool → Option (List Pair)
when true = Some []
when false = None

abbrev pub one : TableRef → ℕ → Option (List Pair)
one r n = Some (pair r n ∷ [])

-- place by place, of as many
abbrev pub each_asks : {X Y : Type 0} → (X → Y → Option (List Pair)) → List X → List Y → Option (List Pair)
each_asks q [] [] = Some []
each_asks q (x ∷ xs) (y ∷ ys) = join (q x y) (each_asks q xs ys)
each_asks q [] (y ∷ ys) = None
each_asks q (x ∷ xs) [] = None

abbrev pub entry_asks : Entry TableRef → Entry ℕ → Option (List Pair)
entry_asks e f = if nat_eq e.id f.id then one e.part f.part else None

abbrev pub method_asks : Method TableRef → Method ℕ → Option (List Pair)
method_asks e f = if pointwise nat_eq e.name f.name then one e.part f.part else None

abbrev pub func_asks : List TableRef → List TableRef → List ℕ → List ℕ → List ℕ → List ℕ → Option (List Pair)
func_asks ps rs ns qs ss ms = join (when (pointwise nat_eq ns ms)) (join (each_asks one ps qs) (each_asks one rs ss))

abbrev pub asks : Wire TableRef → Wire ℕ → Option (List Pair)
asks (Simple p) (Simple q) = when (nat_eq (plain_code p) (plain_code q))
asks (Opt a) (Opt b) = one a b
asks (Vec a) (Vec b) = one a b
asks (Record es) (Record fs) = each_asks entry_asks es fs
asks (Variant es) (Variant fs) = each_asks entry_asks es fs
asks (Func ps rs ns) (Func qs ss ms) = func_asks ps rs ns qs ss ms
asks (Service es) (Service fs) = each_asks method_asks es fs
asks w v = None

-- whether there are pairs, and then they stand at the end of the list
abbrev pub Adds : Option (List Pair) → Bool → List Pair → List Pair → Type 0
Adds None false old new = Unit {0}
Adds (Some qs) true old new = new ≡ old ++ qs
Adds _ _ old new = ⊥

-- the pairs that a pair asks
abbrev pub asked : List (Wire TableRef) → List (Wire ℕ) → Pair → Option (List Pair)
asked table shapes p = asks (table_head table p.wire) (shape_at shapes p.declared)

-- of equal types
abbrev pub IsEqual : List (Wire TableRef) → List (Wire ℕ) → Pair → Type 0
IsEqual table shapes p = SameWire (table_head table) (shape_at shapes) p.wire p.declared

abbrev pub AllEqual : List (Wire TableRef) → List (Wire ℕ) → List Pair → Type 0
AllEqual table shapes ps = Each (IsEqual table shapes) ps
