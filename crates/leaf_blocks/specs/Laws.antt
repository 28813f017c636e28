-- The laws, as statements: blocks that are added to a heap, and those of values without parts inside them.
use Rattle.std.specs.Prelude.{◌≡◌, ℕ, ◌+◌, ◌*◌, ◌<◌, ◌≤◌, ◌^◌, max, List, [], ◌∷◌, length}
use Rattle.mo_types.specs.declared.datum.Datum.{Datum}
use Rattle.mo_types.specs.declared.datum.Datum.TheVariants as part
use Rattle.mo_values.specs.declared.error_code.ErrorCode.{ErrorCode}
use Rattle.mo_values.specs.Shapes.{Bytes, Leaf, Error, Made, NoShape}
use Rattle.core_ir.specs.Values.{Value}
use Rattle.core_ir.specs.Worlds.{World}
use Rattle.memory_routines.specs.Heaps.{heap_end, pages_for}
use Rattle.memory_routines.specs.Laws.{IsHeapStill}
use Rattle.heap_layout.specs.Words.{word_at}
use Rattle.heap_layout.specs.Ghosts.{Ghost, with_block}
use Rattle.heap_layout.specs.Blocks.{text_words, code_tag, code_detail}
use Rattle.heap_layout.specs.Fills.{with_words}
use Rattle.heap_layout.specs.Means.{Rep}
use Rattle.heap_layout.specs.Heaps.{Plan, Holds}
use Rattle.heap_layout.specs.Later.{Later}
use Rattle.heap_layout.specs.Table.{StandsAt}

-- A block of so many words at the end of a heap that has grown, whatever it holds.
pub record IsAdded (plan : Plan) (g : Ghost) (world : World) (memory after : List ℕ) (count top words : ℕ) : Type 0 where
  pub holds : Holds plan (with_block g top words) world after (max count (pages_for (8 * top + 8 * words))) (top + words)
  pub later : Later g (with_block g top words) memory after

abbrev pub BlocksAreAdded : Type 0
BlocksAreAdded =
    (plan : Plan) (g : Ghost) (world : World) (memory : List ℕ) (count top : ℕ) → Holds plan g world memory count top → (after : List ℕ) (words : ℕ) → IsHeapStill memory after count (8 * top) (8 * words)
    → IsAdded plan g world memory after count top words

-- Words that are stored one by one add a block.
abbrev pub WordsAreAdded : Type 0
WordsAreAdded =
    (plan : Plan) (g : Ghost) (world : World) (memory : List ℕ) (count top : ℕ) → Holds plan g world memory count top → (ws : List ℕ) → 8 * top + 8 * length ws ≤ heap_end → IsHeapStill memory (with_words memory count top ws) count (8 * top) (8 * length ws)

-- Texts, Blobs and principals are in bytes, and an actor is its principal.
abbrev pub IsOfBytes : Datum → Bytes → Type 0
IsOfBytes (part.Text t) bytes = t ≡ bytes
IsOfBytes (part.Blob t) bytes = t ≡ bytes
IsOfBytes (part.Principal p) bytes = p ≡ bytes
IsOfBytes (part.Actor p) bytes = p ≡ bytes
IsOfBytes _ bytes = ⊥

-- The size and the bytes, from word i on.
pub record IsWritten (memory : List ℕ) (i : ℕ) (bytes : Bytes) : Type 0 where
  pub size : word_at memory i ≡ length bytes
  pub stands : StandsAt memory (8 * i + 8) bytes

-- A block that was added stands for the bytes that were written in it.
abbrev pub BytesAreMade : Type 0
BytesAreMade =
    (plan : Plan) (g : Ghost) (world : World) (memory : List ℕ) (count top : ℕ) → Holds plan g world memory count top → (after : List ℕ) (bytes : Bytes) → IsHeapStill memory after count (8 * top) (8 * text_words bytes) → IsWritten after top bytes
    → (p : Datum) → IsOfBytes p bytes → Rep (with_block g top (text_words bytes)) after (8 * top) (Made (Leaf p) NoShape)

-- So does one that stands at the beginning of the module's memory,
abbrev pub BytesAreReady : Type 0
BytesAreReady =
    (plan : Plan) (g : Ghost) (world : World) (memory : List ℕ) (count top : ℕ) → Holds plan g world memory count top → (i : ℕ) (bytes : Bytes) → 0 < i → i + text_words bytes ≤ plan.base → IsWritten plan.texts i bytes
    → (p : Datum) → IsOfBytes p bytes → Rep g memory (8 * i) (Made (Leaf p) NoShape)

-- and where a word stands for a value in bytes, it is the address of their size, with the bytes behind it.
pub record AreThere (memory : List ℕ) (top w : ℕ) (bytes : Bytes) : Type 0 where
  pub word : ℕ
  pub is : w ≡ 8 * word
  pub below : word + text_words bytes ≤ top
  pub written : IsWritten memory word bytes

abbrev pub BytesAreThere : Type 0
BytesAreThere =
    (plan : Plan) (g : Ghost) (world : World) (memory : List ℕ) (count top : ℕ) → Holds plan g world memory count top → (w : ℕ) (p : Datum) (bytes : Bytes) → IsOfBytes p bytes → Rep g memory w (Made (Leaf p) NoShape) → AreThere memory top w bytes

-- A shared function is a block of the words of its actor and of its method's name.
abbrev pub MethodsAreMade : Type 0
MethodsAreMade =
    (plan : Plan) (g : Ghost) (world : World) (memory : List ℕ) (count top : ℕ) → Holds plan g world memory count top → (a n : ℕ) (principal name : Bytes) → Rep g memory a (Made (Leaf (part.Actor principal)) NoShape) → Rep g memory n (Made (Leaf (part.Text name)) NoShape)
    → 8 * top + 16 ≤ heap_end → Rep (with_block g top 2) (with_words memory count top (a ∷ n ∷ [])) (8 * top) (Made (Leaf (part.Method principal name)) NoShape)

-- An error is a block of its code's two words and of the word of its message.
abbrev pub ErrorsAreMade : Type 0
ErrorsAreMade =
    (plan : Plan) (g : Ghost) (world : World) (memory : List ℕ) (count top : ℕ) → Holds plan g world memory count top → (code : ErrorCode) → code_detail code < 2 ^ 64 → (n : ℕ) (message : Bytes) → Rep g memory n (Made (Leaf (part.Text message)) NoShape)
    → 8 * top + 24 ≤ heap_end → Rep (with_block g top 3) (with_words memory count top (code_tag code ∷ code_detail code ∷ n ∷ [])) (8 * top) (Made (Error code message) NoShape)
