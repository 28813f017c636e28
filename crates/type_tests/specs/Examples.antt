-- Small types, values and calls, on which the definitions are computed.
use Rattle.std.specs.Prelude.{ℕ, zero, suc, true, false, List, [], ◌∷◌, ◌++◌, Some, None, pos}
use Rattle.mo_num.specs.declared.kind.Kind.TheVariants as kind
use Rattle.mo_types.specs.declared.datum.Datum.TheVariants as part
use Rattle.mo_types.specs.declared.node.Node.{Node}
use Rattle.mo_types.specs.declared.node.Node.TheVariants as node
use Rattle.mo_types.specs.declared.node.Field.{Field}
use Rattle.mo_types.specs.declared.node.Sort.TheVariants as sort
use Rattle.mo_types.specs.declared.wire.Entry.{Entry}
use Rattle.mo_types.specs.declared.wire.Ref.{Ref}
use Rattle.mo_types.specs.Values.{Values, Nil, Value}
use Rattle.mo_types.specs.Code.{Variable}
use Rattle.mo_types.specs.Calls.{CallTable, Answered, no_calls, opened, set_state}

-- types that show their heads
pub data Small : Type 0 where
  -- `type A = ?A`
  Loop : Small
  -- `type B = ?(?B)`, and its inner option
  Twice : Small
  Inner : Small
  ANat : Small
  AnInt : Small
  AText : Small
  AnAny : Small
  ABlob : Small
  AUnit : Small
  -- `{var x : Nat}`, `{var x : Int}`
  NatCell : Small
  IntCell : Small
  -- `{x : Nat; y : Text}`, `{x : Int}`
  Pair : Small
  Single : Small
  -- `{#err : Text; #ok}`, `{#ok}`
  Outcome : Small
  Success : Small
  -- `Int -> Nat`, `Nat -> Int`, and `shared query () -> Nat`
  Narrow : Small
  Wide : Small
  Asked : Small
  ABool : Small
  ANat8 : Small
  ANat32 : Small
  AChar : Small
  -- `[Nat8]`
  ByteArray : Small
  -- two type parameters with the bound Nat
  ParameterT : Small
  ParameterU : Small

abbrev pub field_x : Small → Field Small
field_x t = record { label = 120 ∷ []; mutable = false; part = t }

abbrev pub var_x : Small → Field Small
var_x t = record { label = 120 ∷ []; mutable = true; part = t }

abbrev pub field_y : Small → Field Small
field_y t = record { label = 121 ∷ []; mutable = false; part = t }

abbrev pub tag_err : Small → Field Small
tag_err t = record { label = 101 ∷ 114 ∷ 114 ∷ []; mutable = false; part = t }

abbrev pub tag_ok : Small → Field Small
tag_ok t = record { label = 111 ∷ 107 ∷ []; mutable = false; part = t }

abbrev pub small_head : Small → Node Small
small_head Loop = node.Opt Loop
small_head Twice = node.Opt Inner
small_head Inner = node.Opt Twice
small_head ANat = node.Number kind.Nat
small_head AnInt = node.Number kind.Int
small_head AText = node.Text
small_head AnAny = node.Any
small_head ABlob = node.Blob
small_head AUnit = node.Tuple []
small_head NatCell = node.Object (var_x ANat ∷ [])
small_head IntCell = node.Object (var_x AnInt ∷ [])
small_head Pair = node.Object (field_x ANat ∷ field_y AText ∷ [])
small_head Single = node.Object (field_x AnInt ∷ [])
small_head Outcome = node.Variant (tag_err AText ∷ tag_ok AUnit ∷ [])
small_head Success = node.Variant (tag_ok AUnit ∷ [])
small_head Narrow = node.Func sort.Local (AnInt ∷ []) (ANat ∷ [])
small_head Wide = node.Func sort.Local (ANat ∷ []) (AnInt ∷ [])
small_head Asked = node.Func sort.Query [] (ANat ∷ [])
small_head ABool = node.Bool
small_head ANat8 = node.Number kind.Nat8
small_head ANat32 = node.Number kind.Nat32
small_head AChar = node.Char
small_head ByteArray = node.Array ANat8
small_head ParameterT = node.Variable 0 ANat
small_head ParameterU = node.Variable 1 ANat

-- a part of a Candid type, under a number
abbrev pub entry : ℕ → Ref Small → Entry (Ref Small)
entry id r = record { id = id; part = r }

-- a blob of the bytes 0 and 255, the tag `ok`, and () as an Any
abbrev pub values : Values
values = Value (part.Blob (0 ∷ 255 ∷ [])) Nil (Value (part.Tag 0) (Value (part.Record 0) Nil Nil) (Value (part.Record 0) Nil Nil))

-- their Candid values
abbrev pub forms : Values
forms = Value (part.Many 2) (Value (part.Number (pos 0)) Nil (Value (part.Number (pos 255)) Nil Nil)) (Value (part.Tag 0) (Value part.Null Nil Nil) (Value part.Null Nil Nil))

-- the bytes 0 and 255, as an array and as a blob
abbrev pub byte_array : Values
byte_array = Value (part.Many 2) (Value (part.Number (pos 0)) Nil (Value (part.Number (pos 255)) Nil Nil)) Nil

abbrev pub byte_blob : Values
byte_blob = Value (part.Blob (0 ∷ 255 ∷ [])) Nil Nil

-- 55296, which is the number of no character
abbrev pub surrogate : Values
surrogate = Value (part.Number (pos 55296)) Nil Nil

abbrev pub surrogate_char : Values
surrogate_char = Value (part.Char 55296) Nil Nil

abbrev pub seven : Values
seven = Value (part.Number (pos 7)) Nil Nil

-- `DIDL`, no entry, one argument of type nat, and 7 in two bytes
abbrev pub message_of_seven : List ℕ
message_of_seven = 0x44 ∷ 0x49 ∷ 0x44 ∷ 0x4c ∷ 0x00 ∷ 0x01 ∷ 0x7d ∷ 0x87 ∷ 0x00 ∷ []

-- `stable var ok : Bool`, which is true, and `stable var x : Nat`, which is 42. The number of `ok` is 24860, that of `x` is 120.
abbrev pub variable_ok : Variable Small
variable_ok = record { name = 111 ∷ 107 ∷ []; type = ABool; value = Value (part.Flag true) Nil Nil }

abbrev pub variable_x : Variable Small
variable_x = record { name = 120 ∷ []; type = ANat; value = Value (part.Number (pos 42)) Nil Nil }

-- a record of a number under 120 and of a boolean under 24860, in 17 bytes
abbrev pub saved_message : List ℕ
saved_message = 0x44 ∷ 0x49 ∷ 0x44 ∷ 0x4c ∷ 0x01 ∷ 0x6c ∷ 0x02 ∷ 120 ∷ 0x7d ∷ 0x9c ∷ 0xc2 ∷ 0x01 ∷ 0x7e ∷ 0x01 ∷ 0x00 ∷ 42 ∷ 1 ∷ []

-- the form 1, the length 17, the message, and two free bytes
abbrev pub saved_memory : List ℕ
saved_memory = 1 ∷ 0 ∷ 0 ∷ 0 ∷ 17 ∷ 0 ∷ 0 ∷ 0 ∷ 0 ∷ 0 ∷ 0 ∷ 0 ∷ (saved_message ++ 9 ∷ 9 ∷ [])

-- two open calls, of the incoming calls 3 and 4, in a table that begins at 7
abbrev pub two_calls : CallTable ℕ ℕ
two_calls = opened (opened (no_calls 7) 3 0 None) 4 0 None

-- the first of them is answered, and a call of its owner resumes its future
abbrev pub resuming_calls : CallTable ℕ ℕ
resuming_calls = opened (set_state two_calls 7 (Answered (Some 9))) 3 0 (Some 7)

-- so many open calls of the incoming call 3
abbrev pub open_calls : ℕ → CallTable ℕ ℕ
open_calls zero = no_calls 7
open_calls (suc n) = opened (open_calls n) 3 0 None
