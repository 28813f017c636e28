-- The bytes of Candid values (Candid specification, section "Memory"), in the shortest numbers.
use Rattle.std.specs.Prelude.{ℕ, ◌^◌, List, [], ◌∷◌, length, Some, None, nat_eq, nat_lt, ℤ, pos, negsuc}
use Rattle.std.specs.Str.{is_utf8}
use Rattle.mo_num.specs.declared.kind.Kind.{Kind}
use Rattle.mo_num.specs.declared.kind.Kind.TheVariants as kind
use Rattle.mo_num.specs.Kinds.{least, greatest}
use Rattle.exact_reading.specs.Reading.{is_between}
use Rattle.mo_types.specs.declared.datum.Datum.{Datum}
use Rattle.mo_types.specs.declared.datum.Datum.TheVariants as part
use Rattle.mo_types.specs.declared.wire.Plain.{Plain}
use Rattle.mo_types.specs.declared.wire.Plain.TheVariants as plain
use Rattle.mo_types.specs.declared.wire.Wire.{Wire}
use Rattle.mo_types.specs.declared.wire.Wire.TheVariants.{Simple, Opt, Vec, Record, Variant, Func, Service}
use Rattle.mo_types.specs.Spelling.{bit, as_bytes, wire_inside}
use Rattle.mo_types.specs.Values.{Values, Nil, Value, is_method_name}
use Rattle.mo_coding.specs.Pieces.{Piece, join, given, unsigned, signed, string}

abbrev pub natural : ℤ → Piece
natural (pos n) = given (nat_lt n (2 ^ 63)) (unsigned 70 n)
natural (negsuc n) = None

-- a number of a kind, in so many bytes
abbrev pub fixed : Kind → ℕ → ℤ → Piece
fixed k w n = given (is_between (least k) (greatest k) n) (Some (as_bytes w n))

abbrev pub principal : List ℕ → Piece
principal p = given (nat_lt (length p) 30) (join (Some (1 ∷ [])) (string p))

abbrev pub plain_part : Plain → Datum → Piece
plain_part plain.Null part.Null = Some []
plain_part plain.Reserved part.Null = Some []
plain_part plain.Bool (part.Flag b) = Some (bit b ∷ [])
plain_part plain.Nat (part.Number n) = natural n
plain_part plain.Int (part.Number n) = given (is_between (least kind.Int) (greatest kind.Int) n) (signed 70 n)
plain_part plain.Nat8 (part.Number n) = fixed kind.Nat8 1 n
plain_part plain.Nat16 (part.Number n) = fixed kind.Nat16 2 n
plain_part plain.Nat32 (part.Number n) = fixed kind.Nat32 4 n
plain_part plain.Nat64 (part.Number n) = fixed kind.Nat64 8 n
plain_part plain.Int8 (part.Number n) = fixed kind.Int8 1 n
plain_part plain.Int16 (part.Number n) = fixed kind.Int16 2 n
plain_part plain.Int32 (part.Number n) = fixed kind.Int32 4 n
plain_part plain.Int64 (part.Number n) = fixed kind.Int64 8 n
plain_part plain.Text (part.Text t) = given (is_utf8 t) (string t)
plain_part plain.Principal (part.Principal p) = principal p
plain_part _ _ = None

-- the outermost part of a value
abbrev pub wire_part : {B : Type 0} → Wire B → Datum → Piece
wire_part (Simple s) p = plain_part s p
wire_part (Opt b) part.Null = Some (0 ∷ [])
wire_part (Opt b) part.Present = Some (1 ∷ [])
wire_part (Vec b) (part.Many n) = unsigned 32 n
wire_part (Record es) (part.Record n) = given (nat_eq n (length es)) (Some [])
wire_part (Variant es) (part.Tag i) = given (nat_lt i (length es)) (unsigned 32 i)
wire_part (Func ps rs m) (part.Method p name) = given (is_method_name name) (join (Some (1 ∷ [])) (join (principal p) (string name)))
wire_part (Service ms) (part.Actor p) = principal p
wire_part _ _ = None

-- values of these types, in order
abbrev pub values_piece : {B : Type 0} → (B → Wire B) → List B → Values → Piece
values_piece head [] Nil = Some []
values_piece head (t ∷ ts) (Value p inner others) = join (wire_part (head t) p) (join (values_piece head (wire_inside (head t) p) inner) (values_piece head ts others))
values_piece head _ _ = None
