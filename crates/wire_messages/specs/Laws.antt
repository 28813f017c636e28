-- The laws, as statements: calls of functions in a module that has them, with a depth and stack words for their frames.
use Rattle.std.specs.Prelude.{◌≡◌, ◌<◌, ◌≤◌, ℕ, suc, ◌+◌, List, [], ◌∷◌, length, Some, slice_get}
use Rattle.std.specs.List.{AllByRecursion}
use Rattle.mo_num.specs.declared.kind.Kind.{Kind}
use Rattle.mo_types.specs.declared.node.TypeId.{TypeId}
use Rattle.mo_types.specs.Form.{form}
use Rattle.mo_types.specs.Graph.{head_at}
use Rattle.mo_types.specs.Values.{Values}
use Rattle.mo_types.specs.Wire.{refs}
use Rattle.mo_meaning.specs.Coding.{Types}
use Rattle.mo_coding.specs.Heads.{of_graph}
use Rattle.mo_coding.specs.Messages.{message}
use Rattle.mo_coding.specs.Reading.{read}
use Rattle.mo_coding.specs.TypeTable.{canonical}
use Rattle.wasm_tree.specs.declared.types.ValueType.TheVariants.{I32, I64}
use Rattle.wasm_tree.specs.declared.types.FunctionType.{FunctionType}
use Rattle.wasm_tree.specs.Exec.{Store, Host}
use Rattle.low_ir.specs.Tree.{Module}
use Rattle.low_ir.specs.Numbering.{all_types, type_of}
use Rattle.low_ir.specs.Formed.{FunctionIsFormed}
use Rattle.low_ir.specs.Frames.{words, enter}
use Rattle.low_rules.specs.Rule.{ComesTo}
use Rattle.memory_routines.specs.Laws.{word_of, IsThere}
use Rattle.wire_numbers.specs.Readers.{reader, read_kind, read_flag, bytes_between}
use Rattle.wire_numbers.specs.Writers.{writer, write_kind, write_flag}
use Rattle.wire_tables.specs.Tables.{table_read, MayReadTable, TableIsRead}
use Rattle.wire_messages.specs.declared.column.Wired.{Wired}
use Rattle.wire_messages.specs.Column.{AreOf, AreValues, WordsAre}
use Rattle.wire_messages.specs.Arguments.{reads_kind, reads_truth, arguments, MayReadAll, AreRead}
use Rattle.wire_messages.specs.Replies.{writes_kind, writes_truth, reply, MayReply, IsReplied}

-- The routines that write stand in the module from a function on.
pub record WritersAreThere (m : Module) (first signature : ℕ) : Type 0 where
  pub kinds : (k : Kind) → IsThere m (writes_kind first k) (I32 ∷ I64 ∷ []) (writer (write_kind k) signature)
  pub truths : IsThere m (writes_truth first) (I32 ∷ I64 ∷ []) (writer write_flag signature)

-- Where the words stand for values that have a message, that message.
abbrev pub RepliesAreWritten : Type 0 → Type 0
RepliesAreWritten World =
    (pages : ℕ) (m : Module) (host : Host World) (f signature first writes : ℕ) (header : List ℕ) (ws : List Wired)
    → IsThere m f (I32 ∷ I32 ∷ []) (reply first header ws signature) → WritersAreThere m first writes → AllByRecursion (λ b. b < 256) header
    → (slots : Types) (types : List TypeId) (values : Values) (text : List ℕ) → AreOf slots types ws → AreValues ws values → canonical (of_graph slots) (refs types) ≡ Some header → message (of_graph slots) (refs types) (form (head_at slots) types values) ≡ Some text
    → (deep room : ℕ) → 2 ≤ deep → 33 ≤ room
    → (store : Store World) (at from : ℕ) → MayReply store.memory at from (length header) (length ws) → WordsAre store.memory from values
    → ComesTo (enter deep pages m host room) f store (at ∷ from ∷ []) (IsReplied store at (length header) (length ws) text)

-- The routines that read stand in the module from a function on.
pub record ReadersAreThere (m : Module) (first signature : ℕ) : Type 0 where
  pub kinds : (k : Kind) → IsThere m (reads_kind first k) (I32 ∷ I32 ∷ I32 ∷ []) (reader (read_kind k) signature)
  pub truths : IsThere m (reads_truth first) (I32 ∷ I32 ∷ I32 ∷ []) (reader read_flag signature)

-- A function of the module reads tables, with this depth and these stack words.
abbrev pub TablesAreRead : {World : Type 0} → ℕ → Module → Host World → (table deep room : ℕ) → Type 0
TablesAreRead {World = World} pages m host table deep room =
    (store : Store World) (at end marks : ℕ) → MayReadTable store.memory at end marks → ComesTo (enter deep pages m host room) table store (at ∷ end ∷ marks ∷ []) (TableIsRead store at end marks (table_read (bytes_between store.memory at end)))

abbrev pub arguments_type : FunctionType
arguments_type = word_of (I32 ∷ I32 ∷ I32 ∷ [])

-- In a module with a function that reads tables, and with room for the function's own frame, of 27 words at most: what the definition of
-- messages reads the bytes as, at the types.
abbrev pub ArgumentsAreRead : Type 0 → Type 0
ArgumentsAreRead World =
    (pages : ℕ) (m : Module) (host : Host World) (f signature table first reads : ℕ) (ws : List Wired)
    → IsThere m f (I32 ∷ I32 ∷ I32 ∷ []) (arguments table first ws signature) → ReadersAreThere m first reads → (words arguments_type (arguments table first ws signature) ≤ 27)
    × ((slots : Types) (types : List TypeId) → AreOf slots types ws
    → (deep room : ℕ) → 1 ≤ deep → 24 ≤ room → TablesAreRead pages m host table deep room
    → (store : Store World) (at end to : ℕ) → MayReadAll store.memory at end to (length ws)
    → ComesTo (enter (suc deep) pages m host (words arguments_type (arguments table first ws signature) + room)) f store (at ∷ end ∷ to ∷ []) (AreRead store at end to ws (read slots types (bytes_between store.memory at end))))

-- In a module that has their types, and those of the functions that they call.
abbrev pub MessagesAreFormed : Type 0
MessagesAreFormed =
    (m : Module) (signature : ℕ)
    → (slice_get (all_types m) signature ≡ Some (word_of (I32 ∷ I32 ∷ [])) → (first : ℕ) (header : List ℕ) (ws : List Wired) → length header ≤ 65536 → AllByRecursion (λ b. b < 256) header
    → ((k : Kind) → type_of m (writes_kind first k) ≡ Some (word_of (I32 ∷ I64 ∷ []))) → type_of m (writes_truth first) ≡ Some (word_of (I32 ∷ I64 ∷ [])) → FunctionIsFormed m (reply first header ws signature))
    × (slice_get (all_types m) signature ≡ Some arguments_type → (table first : ℕ) (ws : List Wired) → length ws ≤ 65536 → type_of m table ≡ Some arguments_type
    → ((k : Kind) → type_of m (reads_kind first k) ≡ Some arguments_type) → type_of m (reads_truth first) ≡ Some arguments_type → FunctionIsFormed m (arguments table first ws signature))
