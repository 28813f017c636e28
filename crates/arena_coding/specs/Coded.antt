-- What the message of values of an arena comes to: Motoko language manual, section "Candid serialization"; IC interface
-- specification, section "Resource limits".
use Rattle.std.specs.Prelude.{◌≡◌, ◌<◌, ◌≤◌, List, [], length, Option, Some, None}
use Rattle.mo_values.specs.Shapes.{Bytes, Tuple}
use Rattle.mo_meaning.specs.Turns.{most_bytes}
use Rattle.mo_machine.specs.Values.{Value, Made, listed}
use Rattle.arena_coding.specs.declared.writing.Message.{Message}
use Rattle.arena_coding.specs.declared.writing.Message.TheVariants as message

abbrev pub IsMessage : Option Bytes → Message → Type 0
IsMessage o (message.Written bytes) = (o ≡ Some bytes) × (length bytes ≤ most_bytes)
IsMessage o message.TooLong = (bytes : Bytes) × (o ≡ Some bytes) × (most_bytes < length bytes)
IsMessage o message.Missing = o ≡ None

-- the parts of a tuple
abbrev pub tuple_values : Value → List Value
tuple_values (Made Tuple inside) = listed inside
tuple_values _ = []
