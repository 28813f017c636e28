-- Reading the table of types (Candid specification, section "Type definition table").
use Rattle.std.specs.Prelude.{ℕ, ◌-◌, List, [], ◌∷◌, Bool, true, false, length, Option, Some, None, Result, Ok, Err, nat_eq, nat_lt, if◌then◌else◌, slice_get, ℤ, pos, negsuc}
use Rattle.std.specs.List.{list_all}
use Rattle.mo_types.specs.declared.wire.Plain.{Plain}
use Rattle.mo_types.specs.declared.wire.Entry.{Entry}
use Rattle.mo_types.specs.declared.wire.Method.{Method}
use Rattle.mo_types.specs.declared.wire.Wire.{Wire}
use Rattle.mo_types.specs.declared.wire.Wire.TheVariants.{Opt, Vec, Record, Variant, Func, Service}
use Rattle.mo_types.specs.declared.wire.TableRef.{TableRef}
use Rattle.mo_types.specs.declared.wire.TableRef.TheVariants.{Plainly, At}
use Rattle.mo_types.specs.Wire.{plain_of_code, name_before}
use Rattle.mo_types.specs.Heads.{map_option}
use Rattle.candid_header.specs.declared.fault.Fault.{Fault}
use Rattle.candid_header.specs.declared.fault.Fault.TheVariants.{Short, BadTable}
use Rattle.exact_reading.specs.Reading.{◌>>=◌, made, both, kept}
use Rattle.candid_header.specs.Reading.{Reading, first, many, list_at, u32_at, s33_at, string_at}

-- the number of an entry, of so many
abbrev pub number_of : ℕ → ℤ → Result ℕ Fault
number_of n (pos i) = if nat_lt i n then Ok i else Err BadTable
number_of n (negsuc i) = Err BadTable

unfoldable pub number_at : ℕ → Reading TableRef
number_at n bytes = s33_at bytes >>= λ z. number_of n z.0 >>= λ i. Ok (At i, z.1)

abbrev pub ref_by : ℕ → ℕ → List ℕ → Option Plain → Result (TableRef × List ℕ) Fault
ref_by n b rest (Some p) = Ok (Plainly p, rest)
ref_by n b rest None = number_at n (b ∷ rest)

-- a type by its code, or by its number in a table of so many entries
unfoldable pub ref_at : ℕ → Reading TableRef
ref_at n [] = Err Short
ref_at n (b ∷ rest) = ref_by n b rest (plain_of_code b)

-- types, each alone
abbrev pub no_state : {A : Type 0} → A → Option ℕ
no_state a = None

abbrev pub ref_item : ℕ → Option ℕ → Reading TableRef
ref_item n s bytes = ref_at n bytes

-- fields, in the rising order of their ids
abbrev pub rises : Option ℕ → ℕ → Bool
rises None id = true
rises (Some least) id = nat_lt least id

abbrev pub id_at : Option ℕ → Reading ℕ
id_at previous = kept BadTable (rises previous) (u32_at BadTable)

abbrev pub field : ℕ × TableRef → Entry TableRef
field x = record { id = x.0; part = x.1 }

unfoldable pub field_at : ℕ → Option ℕ → Reading (Entry TableRef)
field_at n previous = made field (both (id_at previous) (ref_at n))

abbrev pub id_of : Entry TableRef → Option ℕ
id_of e = Some e.id

-- methods, in the rising order of their names
abbrev pub name_rises : Option (List ℕ) → List ℕ → Bool
name_rises None name = true
name_rises (Some least) name = name_before least name

abbrev pub method_name_at : Option (List ℕ) → Reading (List ℕ)
method_name_at previous = kept BadTable (name_rises previous) (string_at BadTable)

abbrev pub method : List ℕ × TableRef → Method TableRef
method x = record { name = x.0; part = x.1 }

unfoldable pub method_at : ℕ → Option (List ℕ) → Reading (Method TableRef)
method_at n previous = made method (both (method_name_at previous) (ref_at n))

abbrev pub name_of : Method TableRef → Option (List ℕ)
name_of m = Some m.name

-- the name of the last one
abbrev pub last_name : List (Method TableRef) → Option (List ℕ)
last_name ms = map_option (λ m. m.name) (slice_get ms (length ms - 1))

-- the annotations of a function
abbrev pub bytes_at : Reading (List ℕ)
bytes_at = string_at BadTable

abbrev pub func : List TableRef × (List TableRef × List ℕ) → Wire TableRef
func x = Func x.0 x.1.0 x.1.1

abbrev pub refs_at : ℕ → Reading (List TableRef)
refs_at n = list_at (ref_item n) no_state

unfoldable pub func_at : ℕ → Reading (Wire TableRef)
func_at n = made func (both (refs_at n) (both (refs_at n) bytes_at))

-- what stands behind the code of an entry
abbrev pub entry_by : ℕ → ℕ → Reading (Wire TableRef)
entry_by n b rest =
    if nat_eq b 0x6e then made Opt (ref_at n) rest else (if nat_eq b 0x6d then made Vec (ref_at n) rest else (if nat_eq b 0x6c then made Record (list_at (field_at n) id_of) rest else (if nat_eq b 0x6b then made Variant (list_at (field_at n) id_of) rest else (if nat_eq b 0x6a then func_at n rest else (if nat_eq b 0x69 then made Service (list_at (method_at n) name_of) rest else Err BadTable)))))

unfoldable pub entry_at : ℕ → Reading (Wire TableRef)
entry_at n = first (entry_by n)

abbrev pub entry_item : ℕ → Option ℕ → Reading (Wire TableRef)
entry_item n s bytes = entry_at n bytes

-- at most 4,096 entries
unfoldable pub entries_at : Reading (List (Wire TableRef))
entries_at bytes = u32_at BadTable bytes >>= λ n. if nat_lt 4096 n.0 then Err BadTable else many (entry_item n.0) no_state n.0 None n.1

-- methods are functions
abbrev pub is_func : Wire TableRef → Bool
is_func (Func ps rs ns) = true
is_func _ = false

abbrev pub is_some_func : Option (Wire TableRef) → Bool
is_some_func None = false
is_some_func (Some w) = is_func w

abbrev pub is_func_at : List (Wire TableRef) → TableRef → Bool
is_func_at table (Plainly p) = false
is_func_at table (At i) = is_some_func (slice_get table i)

abbrev pub methods_of : Wire TableRef → List (Method TableRef)
methods_of (Service ms) = ms
methods_of _ = []

abbrev pub have_functions : List (Wire TableRef) → Wire TableRef → Bool
have_functions table w = list_all (λ m. is_func_at table m.part) (methods_of w)

abbrev pub are_functions : List (Wire TableRef) → Bool
are_functions table = list_all (λ w. have_functions table w) table

unfoldable pub table_at : Reading (List (Wire TableRef))
table_at = kept BadTable are_functions entries_at
