-- Forms of blocks, computed. The numbers of labels are those of the Candid specification, words those of 64 bits in two's complement.
use Rattle.std.specs.Prelude.{ℕ, ◌+◌, ◌*◌, List, [], ◌∷◌, ◌++◌, map, replicate, codes, pos, negsuc}
use Rattle.mo_types.specs.declared.datum.Datum.TheVariants as part
use Rattle.mo_values.specs.Shapes.{Head, Leaf, Present, Tuple, Array, Object, Tag}
use Rattle.mo_values.specs.declared.error_code.ErrorCode.TheVariants as code
use Rattle.wasm_tree.specs.Exec.{bits64}
use Rattle.heap_layout.specs.Words.{word_at, byte_at}
use Rattle.heap_layout.specs.Blocks.{Constant, places, constants, error_constants, block_words}
use Rattle.heap_layout.specs.Fills.{filled, group_block}
use Rattle.heap_layout.specs.Heaps.{Plan}

-- ---- words of numbers

abbrev pub numbers : List ℕ
numbers = map bits64 (pos 0 ∷ pos 255 ∷ negsuc 0 ∷ negsuc 127 ∷ pos 9223372036854775807 ∷ negsuc 9223372036854775807 ∷ pos 18446744073709551615 ∷ [])

abbrev pub wanted_numbers : List ℕ
wanted_numbers = 0 ∷ 255 ∷ 18446744073709551615 ∷ 18446744073709551488 ∷ 9223372036854775807 ∷ 9223372036854775808 ∷ 18446744073709551615 ∷ []

-- ---- blocks of values

-- where parts stand, which numbers stand where, and how many words there are
pub record Form : Type 0 where
  pub parts : List ℕ
  pub known : List (List ℕ)
  pub words : ℕ

abbrev pub pair_of : Constant → List ℕ
pair_of c = c.place ∷ c.number ∷ []

abbrev pub form_of : Head → ℕ → Form
form_of head n = record { parts = places head n; known = map pair_of (constants head n); words = block_words head n }

-- of an option, a pair, an array of three, none, a variant, and an object whose fields are written in both orders
abbrev pub forms : List Form
forms =
    form_of Present 1
    ∷ form_of Tuple 2
    ∷ form_of Array 3
    ∷ form_of Array 0
    ∷ form_of (Tag (codes "ok")) 1
    ∷ form_of (Object (codes "ok" ∷ codes "err" ∷ [])) 2
    ∷ form_of (Object (codes "err" ∷ codes "ok" ∷ [])) 2
    ∷ form_of (Leaf (part.Text (codes "eight by"))) 0
    ∷ form_of (Leaf (part.Text (codes "nine byte"))) 0
    ∷ form_of (Leaf (part.Text [])) 0
    ∷ form_of (Leaf (part.Number (negsuc 0))) 0
    ∷ []

abbrev pub form : List ℕ → List (List ℕ) → ℕ → Form
form parts known words = record { parts = parts; known = known; words = words }

abbrev pub wanted_forms : List Form
wanted_forms =
    form (0 ∷ []) [] 1
    ∷ form (1 ∷ 2 ∷ []) ((0 ∷ 2 ∷ []) ∷ []) 3
    ∷ form (1 ∷ 2 ∷ 3 ∷ []) ((0 ∷ 3 ∷ []) ∷ []) 4
    ∷ form [] ((0 ∷ 0 ∷ []) ∷ []) 1
    ∷ form (1 ∷ []) ((0 ∷ 24860 ∷ []) ∷ []) 2
    ∷ form (2 ∷ 4 ∷ []) ((0 ∷ 2 ∷ []) ∷ (1 ∷ 24860 ∷ []) ∷ (3 ∷ 5048165 ∷ []) ∷ []) 5
    ∷ form (4 ∷ 2 ∷ []) ((0 ∷ 2 ∷ []) ∷ (3 ∷ 5048165 ∷ []) ∷ (1 ∷ 24860 ∷ []) ∷ []) 5
    ∷ form [] [] 2
    ∷ form [] [] 3
    ∷ form [] [] 1
    ∷ form [] [] 0
    ∷ []

-- the codes of errors: a reject code of 4, one beyond those that have names, and a refused call
abbrev pub error_forms : List (List (List ℕ))
error_forms = map (λ c. map pair_of (error_constants c)) (code.CanisterReject ∷ code.Future 7 ∷ code.CallError 2 ∷ [])

abbrev pub wanted_errors : List (List (List ℕ))
wanted_errors = ((0 ∷ 4 ∷ []) ∷ (1 ∷ 0 ∷ []) ∷ []) ∷ ((0 ∷ 0 ∷ []) ∷ (1 ∷ 7 ∷ []) ∷ []) ∷ ((0 ∷ 6 ∷ []) ∷ (1 ∷ 2 ∷ []) ∷ []) ∷ []

-- ---- a closure and a cell in a memory

-- group 3 has two functions
abbrev pub example_plan : Plan
example_plan = record { sizes = λ code. 2; entry_of = λ code k. 10 * code + k; base = 1; texts = replicate 8 0 }

-- From word 1 on the block of group 3, which sees the word 7, and behind it a cell that holds -1.
abbrev pub example_memory : List ℕ
example_memory = filled (filled (replicate 72 0) 1 (group_block example_plan 3 1 (7 ∷ []))) 6 (bits64 (negsuc 0) ∷ 0 ∷ [])

abbrev pub example_words : List ℕ
example_words = map (word_at example_memory) (0 ∷ 1 ∷ 2 ∷ 3 ∷ 4 ∷ 5 ∷ 6 ∷ 7 ∷ 8 ∷ [])

-- Places 30 and 31 of the table, the address of the block twice, what is seen, the cell's two words.
abbrev pub wanted_words : List ℕ
wanted_words = 0 ∷ 30 ∷ 8 ∷ 31 ∷ 8 ∷ 7 ∷ 18446744073709551615 ∷ 0 ∷ 0 ∷ []

abbrev pub example_bytes : List ℕ
example_bytes = map (byte_at example_memory 5) (0 ∷ 1 ∷ 7 ∷ 8 ∷ 15 ∷ 16 ∷ [])

abbrev pub wanted_bytes : List ℕ
wanted_bytes = 7 ∷ 0 ∷ 0 ∷ 255 ∷ 255 ∷ 0 ∷ []

abbrev pub wanted_memory : List ℕ
wanted_memory = replicate 8 0 ++ (30 ∷ replicate 7 0) ++ (8 ∷ replicate 7 0) ++ (31 ∷ replicate 7 0) ++ (8 ∷ replicate 7 0) ++ (7 ∷ replicate 7 0) ++ replicate 8 255 ++ replicate 16 0
