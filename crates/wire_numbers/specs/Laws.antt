-- The laws, as statements: calls of the routines in a module that has them, with a depth and stack words for their frames.
use Rattle.std.specs.Prelude.{◌≡◌, ◌≤◌, Bool, ℕ, List, [], ◌∷◌, Some, ℤ, slice_get}
use Rattle.mo_num.specs.declared.kind.Kind.{Kind}
use Rattle.mo_types.specs.declared.datum.Datum.TheVariants as part
use Rattle.mo_types.specs.declared.wire.Plain.TheVariants as plain
use Rattle.mo_types.specs.Wire.{plain_number}
use Rattle.candid_read.specs.Parts.{plain_at}
use Rattle.mo_coding.specs.Values.{plain_part}
use Rattle.wasm_tree.specs.declared.types.ValueType.TheVariants.{I32, I64}
use Rattle.wasm_tree.specs.Numeric.{flag}
use Rattle.wasm_tree.specs.Exec.{Store, Host, bits64}
use Rattle.low_ir.specs.Tree.{Module}
use Rattle.low_ir.specs.Numbering.{all_types}
use Rattle.low_ir.specs.Formed.{FunctionIsFormed}
use Rattle.low_ir.specs.Frames.{enter}
use Rattle.low_rules.specs.Rule.{ComesTo}
use Rattle.memory_routines.specs.Laws.{word_of, IsThere}
use Rattle.wire_numbers.specs.Readers.{reader, read_kind, read_flag, bytes_between, MayRead, IsRead}
use Rattle.wire_numbers.specs.Writers.{writer, write_kind, write_flag, MayWrite, IsWritten}

abbrev pub NumbersAreRead : Type 0 → Type 0
NumbersAreRead World =
    (pages : ℕ) (m : Module) (host : Host World) (f signature : ℕ) (k : Kind) → IsThere m f (I32 ∷ I32 ∷ I32 ∷ []) (reader (read_kind k) signature)
    → (deep room : ℕ) → 1 ≤ deep → 24 ≤ room
    → (store : Store World) (at end to : ℕ) → MayRead store.memory at end to
    → ComesTo (enter deep pages m host room) f store (at ∷ end ∷ to ∷ []) (IsRead store end to (plain_at (plain_number k) (bytes_between store.memory at end)))

abbrev pub FlagsAreRead : Type 0 → Type 0
FlagsAreRead World =
    (pages : ℕ) (m : Module) (host : Host World) (f signature : ℕ) → IsThere m f (I32 ∷ I32 ∷ I32 ∷ []) (reader read_flag signature)
    → (deep room : ℕ) → 1 ≤ deep → 24 ≤ room
    → (store : Store World) (at end to : ℕ) → MayRead store.memory at end to
    → ComesTo (enter deep pages m host room) f store (at ∷ end ∷ to ∷ []) (IsRead store end to (plain_at plain.Bool (bytes_between store.memory at end)))

-- Where the definition has bytes for a number, those.
abbrev pub NumbersAreWritten : Type 0 → Type 0
NumbersAreWritten World =
    (pages : ℕ) (m : Module) (host : Host World) (f signature : ℕ) (k : Kind) → IsThere m f (I32 ∷ I64 ∷ []) (writer (write_kind k) signature)
    → (deep room : ℕ) → 1 ≤ deep → 20 ≤ room
    → (store : Store World) (at : ℕ) (z : ℤ) (text : List ℕ) → plain_part (plain_number k) (part.Number z) ≡ Some text → MayWrite store.memory at
    → ComesTo (enter deep pages m host room) f store (at ∷ bits64 z ∷ []) (IsWritten store at text)

abbrev pub FlagsAreWritten : Type 0 → Type 0
FlagsAreWritten World =
    (pages : ℕ) (m : Module) (host : Host World) (f signature : ℕ) → IsThere m f (I32 ∷ I64 ∷ []) (writer write_flag signature)
    → (deep room : ℕ) → 1 ≤ deep → 20 ≤ room
    → (store : Store World) (at : ℕ) (b : Bool) (text : List ℕ) → plain_part plain.Bool (part.Flag b) ≡ Some text → MayWrite store.memory at
    → ComesTo (enter deep pages m host room) f store (at ∷ flag b ∷ []) (IsWritten store at text)

-- In a module that has their types.
abbrev pub RoutinesAreFormed : Type 0
RoutinesAreFormed =
    (m : Module) (signature : ℕ)
    → (slice_get (all_types m) signature ≡ Some (word_of (I32 ∷ I32 ∷ I32 ∷ [])) → (k : Kind) → FunctionIsFormed m (reader (read_kind k) signature))
    × (slice_get (all_types m) signature ≡ Some (word_of (I32 ∷ I32 ∷ I32 ∷ [])) → FunctionIsFormed m (reader read_flag signature))
    × (slice_get (all_types m) signature ≡ Some (word_of (I32 ∷ I64 ∷ [])) → (k : Kind) → FunctionIsFormed m (writer (write_kind k) signature))
    × (slice_get (all_types m) signature ≡ Some (word_of (I32 ∷ I64 ∷ [])) → FunctionIsFormed m (writer write_flag signature))
