-- Messages, and the message of stable variables, as functions (Candid specification, section "Binary Format").
use Rattle.std.specs.Prelude.{ℕ, zero, suc, List, [], ◌∷◌, Some, None}
use Rattle.mo_types.specs.declared.node.TypeId.{TypeId}
use Rattle.mo_types.specs.Graph.{head_at}
use Rattle.mo_types.specs.Wire.{refs}
use Rattle.mo_types.specs.Form.{form}
use Rattle.mo_types.specs.Values.{Values}
use Rattle.mo_types.specs.Code.{Variable, Whole, saved_values}
use Rattle.mo_values.specs.Shapes.{Bytes}
use Rattle.mo_meaning.specs.Coding.{Types}
use Rattle.mo_coding.specs.Heads.{Heads, of_graph, of_saved}
use Rattle.mo_coding.specs.Pieces.{Piece, join}
use Rattle.mo_coding.specs.TypeTable.{canonical}
use Rattle.mo_coding.specs.Values.{values_piece}

-- the header of these types, and then these Candid values
abbrev pub message : {B : Type 0} → Heads B → List B → Values → Piece
message g types values = join (canonical g types) (values_piece g.head types values)

-- so many bytes; it does not unfold, since the number is great
unfoldable pub zeros : ℕ → Bytes
zeros zero = []
zeros (suc n) = 0 ∷ zeros n

-- more bytes than a message may have
abbrev pub too_many : Bytes
too_many = zeros 2097153

abbrev pub or_too_many : Piece → Bytes
or_too_many None = too_many
or_too_many (Some bytes) = bytes

abbrev pub code : Types → List TypeId → Values → Bytes
code slots types values = or_too_many (message (of_graph slots) (refs types) (form (head_at slots) types values))

abbrev pub save : Types → List (Variable TypeId) → Bytes
save slots variables = or_too_many (message (of_saved slots variables) (Whole ∷ []) (saved_values (head_at slots) variables))
