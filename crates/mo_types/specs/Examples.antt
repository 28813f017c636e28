-- Small types and messages.
use Rattle.std.specs.Prelude.{ℕ, zero, suc, false, List, [], ◌∷◌, pos}
use Rattle.mo_num.specs.declared.kind.Kind.TheVariants as kind
use Rattle.mo_types.specs.declared.datum.Datum.TheVariants as part
use Rattle.mo_types.specs.declared.node.Node.{Node}
use Rattle.mo_types.specs.declared.node.Node.TheVariants as node
use Rattle.mo_types.specs.declared.node.Field.{Field}
use Rattle.mo_types.specs.Values.{Values, Nil, Value}
use Rattle.mo_types.specs.Code.{Variable}

-- 0 is `type L = ?(Nat, L)`, 1 is (Nat, L), and all others are Nat
abbrev pub list_head : ℕ → Node ℕ
list_head zero = node.Opt 1
list_head (suc zero) = node.Tuple (2 ∷ 0 ∷ [])
list_head (suc (suc n)) = node.Number kind.Nat

-- one Nat, 42
abbrev pub forty_two : Values
forty_two = Value (part.Number (pos 42)) Nil Nil

-- `DIDL`, no entry, one argument of type nat, and 42
abbrev pub message_of_42 : List ℕ
message_of_42 = 0x44 ∷ 0x49 ∷ 0x44 ∷ 0x4c ∷ 0x00 ∷ 0x01 ∷ 0x7d ∷ 0x2a ∷ []

-- a field of the label `err`, and one of the label `ok`
abbrev pub err_field : Field ℕ
err_field = record { label = 101 ∷ 114 ∷ 114 ∷ []; mutable = false; part = 2 }

abbrev pub ok_field : Field ℕ
ok_field = record { label = 111 ∷ 107 ∷ []; mutable = false; part = 3 }

-- the list with 1 alone, and its message: an option of entry 1, a record of a number and of entry 0, one argument of
-- entry 0; and then a value that is there, 1, and none
abbrev pub list_of_one : Values
list_of_one = Value part.Present (Value (part.Record 2) (Value (part.Number (pos 1)) Nil (Value part.Null Nil Nil)) Nil) Nil

abbrev pub message_of_a_list : List ℕ
message_of_a_list = 0x44 ∷ 0x49 ∷ 0x44 ∷ 0x4c ∷ 0x02 ∷ 0x6e ∷ 0x01 ∷ 0x6c ∷ 0x02 ∷ 0x00 ∷ 0x7d ∷ 0x01 ∷ 0x00 ∷ 0x01 ∷ 0x00 ∷ 0x01 ∷ 0x01 ∷ 0x00 ∷ []

-- all types of one program are characters, and all of the next one are Nat32
abbrev pub letter_head : ℕ → Node ℕ
letter_head n = node.Char

abbrev pub number_head : ℕ → Node ℕ
number_head n = node.Number kind.Nat32

abbrev pub letter_a : Values
letter_a = Value (part.Char 97) Nil Nil

abbrev pub ninety_seven : Values
ninety_seven = Value (part.Number (pos 97)) Nil Nil

-- `stable var n : Nat`, which is 42
abbrev pub variable_n : Variable ℕ
variable_n = record { name = 110 ∷ []; type = 2; value = forty_two }

-- the form 1, the length 12, and a record of a number under 110
abbrev pub stable_memory : List ℕ
stable_memory = 1 ∷ 0 ∷ 0 ∷ 0 ∷ 12 ∷ 0 ∷ 0 ∷ 0 ∷ 0 ∷ 0 ∷ 0 ∷ 0 ∷ 0x44 ∷ 0x49 ∷ 0x44 ∷ 0x4c ∷ 0x01 ∷ 0x6c ∷ 0x01 ∷ 110 ∷ 0x7d ∷ 0x01 ∷ 0x00 ∷ 42 ∷ []
