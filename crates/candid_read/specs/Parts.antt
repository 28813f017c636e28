-- Reading the outermost parts of values from left to right (Candid specification, section "Memory"; Motoko language
-- manual, section "Candid serialization"), with the first fault that is met.
use Rattle.std.specs.Prelude.{ℕ, zero, suc, ◌+◌, ◌-◌, ◌*◌, ◌^◌, List, [], ◌∷◌, Bool, true, false, length, Option, Some, None, Result, Ok, Err, nat_lt, if◌then◌else◌, slice_get, ℤ, pos, negsuc, ◌-ℤ◌}
use Rattle.std.specs.List.{list_all}
use Rattle.std.specs.Str.{is_utf8}
use Rattle.mo_types.specs.declared.datum.Datum.{Datum}
use Rattle.mo_types.specs.declared.datum.Datum.TheVariants as part
use Rattle.mo_types.specs.declared.wire.Plain.{Plain}
use Rattle.mo_types.specs.declared.wire.Plain.TheVariants as plain
use Rattle.mo_types.specs.declared.wire.Wire.{Wire}
use Rattle.mo_types.specs.declared.wire.Wire.TheVariants.{Simple, Opt, Vec, Record, Variant, Func, Service}
use Rattle.mo_types.specs.declared.wire.Ref.{Ref}
use Rattle.mo_types.specs.declared.wire.Ref.TheVariants.{Of, Just}
use Rattle.mo_types.specs.declared.node.Node.{Node}
use Rattle.mo_types.specs.declared.node.TypeId.{TypeId}
use Rattle.mo_types.specs.Graph.{Slot, head_at}
use Rattle.mo_types.specs.Heads.{is_char, is_blob, is_any}
use Rattle.mo_types.specs.Values.{is_method_name}
use Rattle.candid_header.specs.declared.fault.Fault.{Fault}
use Rattle.candid_header.specs.declared.fault.Fault.TheVariants.{Short, BadValue, NumberLimit, TooManyEmpty}
use Rattle.exact_reading.specs.Reading as exact
use Rattle.exact_reading.specs.Reading.{◌>>=◌, made, both, kept, is_between}
use Rattle.candid_header.specs.Reading.{Reading, first, u32_at, split_at, string_at}
use Rattle.candid_types.specs.Shapes.{shape_at, ref_of}

-- ---- numbers

-- a number of 70 bits, which ten bytes hold
abbrev pub u70_at : Reading ℕ
u70_at = exact.unsigned_at Short NumberLimit 70

abbrev pub s70_at : Reading ℤ
s70_at = exact.signed_at Short NumberLimit 70

abbrev pub natural : ℕ → Datum
natural n = part.Number (pos n)

abbrev pub integer : ℤ → Datum
integer z = part.Number z

unfoldable pub nat_at : Reading Datum
nat_at = made natural (kept NumberLimit (λ n. nat_lt n (2 ^ 63)) u70_at)

unfoldable pub int_at : Reading Datum
int_at = made integer (kept NumberLimit (is_between (negsuc (2 ^ 63 - 1)) (pos (2 ^ 63 - 1))) s70_at)

-- so many bytes, the lowest first
abbrev pub low_at : ℕ → Reading ℕ
low_at zero bytes = Ok (0, bytes)
low_at (suc w) [] = Err Short
low_at (suc w) (b ∷ bs) = if nat_lt b 256 then made (λ high. high * 256 + b) (low_at w) bs else Err BadValue

-- the number that so many bits stand for, of which the highest is the sign
abbrev pub signed : ℕ → ℕ → ℤ
signed bits n = if nat_lt n (2 ^ (bits - 1)) then pos n else pos n -ℤ pos (2 ^ bits)

unfoldable pub unsigned_at : ℕ → Reading Datum
unsigned_at w = made natural (low_at w)

unfoldable pub signed_at : ℕ → Reading Datum
signed_at w = made (λ n. part.Number (signed (8 * w) n)) (low_at w)

-- ---- flags, texts and references

abbrev pub flag_by : ℕ → List ℕ → Result (Datum × List ℕ) Fault
flag_by zero rest = Ok (part.Flag false, rest)
flag_by (suc zero) rest = Ok (part.Flag true, rest)
flag_by (suc (suc b)) rest = Err BadValue

abbrev pub option_by : ℕ → List ℕ → Result (Datum × List ℕ) Fault
option_by zero rest = Ok (part.Null, rest)
option_by (suc zero) rest = Ok (part.Present, rest)
option_by (suc (suc b)) rest = Err BadValue

-- the flag of a reference, which is 1 where it can be seen
abbrev pub one_by : ℕ → List ℕ → Result (ℕ × List ℕ) Fault
one_by zero rest = Err BadValue
one_by (suc zero) rest = Ok (1, rest)
one_by (suc (suc b)) rest = Err BadValue

abbrev pub one_at : Reading ℕ
one_at = first one_by

unfoldable pub text_at : Reading Datum
text_at = made (λ t. part.Text t) (kept BadValue is_utf8 (string_at BadValue))

-- the bytes of a principal, whose length is tested before they are read
unfoldable pub few_bytes_at : Reading (List ℕ)
few_bytes_at bytes = kept BadValue (λ n. nat_lt n 30) (u32_at BadValue) bytes >>= λ n. split_at n.0 n.1

unfoldable pub principal_at : Reading (List ℕ)
principal_at = made (λ x. x.1) (both one_at few_bytes_at)

unfoldable pub method_name_at : Reading (List ℕ)
method_name_at = kept BadValue is_method_name (string_at BadValue)

unfoldable pub method_at : Reading Datum
method_at = made (λ x. part.Method x.1.0 x.1.1) (both one_at (both principal_at method_name_at))

-- a type without parts
abbrev pub plain_at : Plain → Reading Datum
plain_at plain.Null bytes = Ok (part.Null, bytes)
plain_at plain.Bool bytes = first flag_by bytes
plain_at plain.Nat bytes = nat_at bytes
plain_at plain.Int bytes = int_at bytes
plain_at plain.Nat8 bytes = unsigned_at 1 bytes
plain_at plain.Nat16 bytes = unsigned_at 2 bytes
plain_at plain.Nat32 bytes = unsigned_at 4 bytes
plain_at plain.Nat64 bytes = unsigned_at 8 bytes
plain_at plain.Int8 bytes = signed_at 1 bytes
plain_at plain.Int16 bytes = signed_at 2 bytes
plain_at plain.Int32 bytes = signed_at 4 bytes
plain_at plain.Int64 bytes = signed_at 8 bytes
plain_at plain.Float32 bytes = Err BadValue
plain_at plain.Float64 bytes = Err BadValue
plain_at plain.Text bytes = text_at bytes
plain_at plain.Reserved bytes = Ok (part.Null, bytes)
plain_at plain.Empty bytes = Err BadValue
plain_at plain.Principal bytes = made (λ p. part.Principal p) principal_at bytes

-- ---- types with parts

abbrev pub or_false : Option Bool → Bool
or_false None = false
or_false (Some b) = b

-- whether the type of a number is marked as one whose values have no bytes
abbrev pub is_marked : List Bool → ℕ → Bool
is_marked marks t = or_false (slice_get marks t)

-- at most 10,000 items of a type that is marked
abbrev pub is_allowed : Bool → ℕ → Bool
is_allowed true n = nat_lt n 10001
is_allowed false n = true

unfoldable pub vector_at : Bool → Reading Datum
vector_at mark = made (λ n. part.Many n) (kept TooManyEmpty (is_allowed mark) (u32_at BadValue))

unfoldable pub tag_at : ℕ → Reading Datum
tag_at tags = made (λ n. part.Tag n) (kept BadValue (λ n. nat_lt n tags) (u32_at BadValue))

abbrev pub part_by : List Bool → Wire ℕ → Reading Datum
part_by marks (Simple p) bytes = plain_at p bytes
part_by marks (Opt t) bytes = first option_by bytes
part_by marks (Vec t) bytes = vector_at (is_marked marks t) bytes
part_by marks (Record es) bytes = Ok (part.Record (length es), bytes)
part_by marks (Variant es) bytes = tag_at (length es) bytes
part_by marks (Func ps rs ns) bytes = method_at bytes
part_by marks (Service ms) bytes = made (λ p. part.Actor p) principal_at bytes

-- ---- Motoko types

-- whether a number is a Unicode scalar value
abbrev pub is_scalar : ℕ → Bool
is_scalar c = if nat_lt c 55296 then true else (if nat_lt c 57344 then false else nat_lt c 1114112)

-- a character: four bytes, and then the test of the number
unfoldable pub char_at : Reading Datum
char_at = made (λ c. part.Char c) (kept BadValue is_scalar (low_at 4))

abbrev pub are_bytes : List ℕ → Bool
are_bytes bytes = list_all (λ b. nat_lt b 256) bytes

unfoldable pub blob_at : Reading Datum
blob_at = made (λ b. part.Blob b) (kept BadValue are_bytes (string_at BadValue))

-- nothing
abbrev pub unit_at : Reading Datum
unit_at bytes = Ok (part.Record 0, bytes)

-- where Motoko values differ from their Candid values, by the type's head
abbrev pub node_part : {A : Type 0} → Node A → Reading Datum → Reading Datum
node_part n other bytes = if is_char n then char_at bytes else (if is_blob n then blob_at bytes else (if is_any n then unit_at bytes else other bytes))

-- () under a tag stands at null; the other types without parts stand nowhere in a Motoko value
abbrev pub ref_part : List Slot → Ref TypeId → Reading Datum → Reading Datum
ref_part slots (Of t) other bytes = node_part (head_at slots t) other bytes
ref_part slots (Just plain.Null) other bytes = unit_at bytes
ref_part slots (Just p) other bytes = Err BadValue

-- The outermost part of a Motoko value of the type of a number. A record that contains itself through records alone has
-- no values.
unfoldable pub part_at : List Slot → List (Wire ℕ) → List Bool → List Bool → ℕ → Reading Datum
part_at slots shapes empty endless t bytes = if is_marked endless t then Err BadValue else ref_part slots (ref_of t) (part_by empty (shape_at shapes t)) bytes
