-- Types of parameters and results that are numbers, truth values and (), and their values.
use Rattle.std.specs.Prelude.{◌≡◌, ℕ, ◌+◌, List, [], ◌∷◌, take, drop, Some, ℤ, Bool}
use Rattle.mo_types.specs.declared.datum.Datum.{Datum}
use Rattle.mo_types.specs.declared.datum.Datum.TheVariants as part
use Rattle.mo_types.specs.declared.node.Node.{Node}
use Rattle.mo_types.specs.declared.node.Node.TheVariants as node
use Rattle.mo_types.specs.declared.node.TypeId.{TypeId}
use Rattle.mo_types.specs.declared.wire.Plain.TheVariants as plain
use Rattle.mo_types.specs.Graph.{head_at}
use Rattle.mo_types.specs.Values.{Values, Nil, Value}
use Rattle.mo_types.specs.Wire.{plain_number}
use Rattle.mo_meaning.specs.Coding.{Types}
use Rattle.mo_coding.specs.Pieces.{Piece, join}
use Rattle.mo_coding.specs.Values.{plain_part}
use Rattle.wasm_tree.specs.Exec.{number_of}
use Rattle.wire_numbers.specs.Readers.{word_of}
use Rattle.wire_messages.specs.declared.column.Wired.{Wired}
use Rattle.wire_messages.specs.declared.column.Wired.TheVariants.{Number, Truth, Unit as Nothing}

abbrev pub node_of : Wired → Node TypeId
node_of (Number k) = node.Number k
node_of Truth = node.Bool
node_of Nothing = node.Tuple []

-- the types of a program are these
abbrev pub AreOf : Types → List TypeId → List Wired → Type 0
AreOf slots [] [] = Unit {0}
AreOf slots (t ∷ ts) (w ∷ ws) = (head_at slots t ≡ node_of w) × AreOf slots ts ws
AreOf slots _ _ = ⊥

abbrev pub IsOf : Wired → Datum → Type 0
IsOf (Number k) p = (z : ℤ) × (p ≡ part.Number z)
IsOf Truth p = (b : Bool) × (p ≡ part.Flag b)
IsOf Nothing p = p ≡ part.Record 0

-- values of these types, of whatever size the numbers are
abbrev pub AreValues : List Wired → Values → Type 0
AreValues [] Nil = Unit {0}
AreValues (w ∷ ws) (Value p inner others) = IsOf w p × (inner ≡ Nil) × AreValues ws others
AreValues _ _ = ⊥

-- the words of values, one after the other
abbrev pub WordsAre : List ℕ → ℕ → Values → Type 0
WordsAre memory from Nil = Unit {0}
WordsAre memory from (Value p inner others) = (number_of (take 8 (drop from memory)) ≡ word_of p) × WordsAre memory (from + 8) others

-- the bytes of a value, and of values
abbrev pub wired_piece : Wired → Datum → Piece
wired_piece (Number k) p = plain_part (plain_number k) p
wired_piece Truth p = plain_part plain.Bool p
wired_piece Nothing p = Some []

abbrev pub column_piece : List Wired → Values → Piece
column_piece (w ∷ ws) (Value p inner others) = join (wired_piece w p) (column_piece ws others)
column_piece _ _ = Some []
