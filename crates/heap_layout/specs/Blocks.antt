-- The forms of blocks. A value that is no single word lies in the heap as words one behind the other, which never change; a cell is a
-- block of its own, of what it holds and a spare word.
use Rattle.std.specs.Prelude.{ℕ, ◌+◌, ◌*◌, List, [], ◌∷◌, length, map, nat_lt, cond}
use Rattle.mo_types.specs.declared.datum.Datum.{Datum}
use Rattle.mo_types.specs.declared.datum.Datum.TheVariants as part
use Rattle.mo_types.specs.Label.{label_id}
use Rattle.mo_values.specs.declared.error_code.ErrorCode.{ErrorCode}
use Rattle.mo_values.specs.declared.error_code.ErrorCode.TheVariants as code
use Rattle.mo_values.specs.Shapes.{Bytes, Head, Leaf, Present, Tuple, Array, Object, Tag, Error, Shapes, NoShape, AShape}
use Rattle.low_ir.specs.Numbering.{upto}
use Rattle.heap_layout.specs.Words.{words_for}

-- How many of the labels have smaller numbers on the wire. Fields lie in the rising order of those.
abbrev pub rank : Bytes → List Bytes → ℕ
rank l [] = 0
rank l (k ∷ ks) = cond (nat_lt (label_id k) (label_id l)) 1 0 + rank l ks

-- Where in the block of a value with so many parts its parts stand, in their order.
abbrev pub places : Head → ℕ → List ℕ
places Present n = upto 0 n
places Tuple n = upto 1 n
places Array n = upto 1 n
places (Tag l) n = upto 1 n
places (Object ls) n = map (λ l. 2 * (1 + rank l ls)) ls
places head n = []

-- A word whose number the head tells.
pub record Constant : Type 0 where
  pub place : ℕ
  pub number : ℕ

abbrev pub constant : ℕ → ℕ → Constant
constant place number = record { place = place; number = number }

-- A tuple and an array begin with the number of their parts, a variant with the number of its tag, an object with the number of its
-- fields, each of which follows the number of its label.
abbrev pub constants : Head → ℕ → List Constant
constants Tuple n = constant 0 n ∷ []
constants Array n = constant 0 n ∷ []
constants (Tag l) n = constant 0 (label_id l) ∷ []
constants (Object ls) n = constant 0 n ∷ map (λ l. constant (1 + 2 * rank l ls) (label_id l)) ls
constants head n = []

-- An error's code as two words.
abbrev pub code_tag : ErrorCode → ℕ
code_tag (code.Future n) = 0
code_tag code.SystemFatal = 1
code_tag code.SystemTransient = 2
code_tag code.DestinationInvalid = 3
code_tag code.CanisterReject = 4
code_tag code.CanisterError = 5
code_tag (code.CallError n) = 6

abbrev pub code_detail : ErrorCode → ℕ
code_detail (code.Future n) = n
code_detail (code.CallError n) = n
code_detail _ = 0

-- The first words of an error; the third is its message.
abbrev pub error_constants : ErrorCode → List Constant
error_constants c = constant 0 (code_tag c) ∷ constant 1 (code_detail c) ∷ []

-- How many words a block of a text has: its size in bytes, and the bytes.
abbrev pub text_words : Bytes → ℕ
text_words t = 1 + words_for (length t)

-- How many words are made for a part without parts inside it: texts, Blobs and principals are blocks of bytes, an actor is its
-- principal, and a shared function has the words of its actor and of its method's name, which stand ready.
abbrev pub leaf_words : Datum → ℕ
leaf_words (part.Text t) = text_words t
leaf_words (part.Blob t) = text_words t
leaf_words (part.Principal p) = text_words p
leaf_words (part.Actor p) = text_words p
leaf_words (part.Method p name) = 2
leaf_words _ = 0

-- How many words are made for a value with so many parts that stand ready. An error's message does, too.
abbrev pub block_words : Head → ℕ → ℕ
block_words (Leaf p) n = leaf_words p
block_words Present n = n
block_words Tuple n = 1 + n
block_words Array n = 1 + n
block_words (Tag l) n = 1 + n
block_words (Object ls) n = 1 + 2 * n
block_words (Error code message) n = 3
block_words head n = 0

-- Of a cell: what it holds, and a word for the mark that saving leaves.
abbrev pub cell_words : ℕ
cell_words = 2

-- Of a group of so many functions that see so many values: for each function its place in the module's table and the block itself,
-- and then what they see. A function as a value is the address of the first of its two words.
abbrev pub group_words : ℕ → ℕ → ℕ
group_words functions seen = 2 * functions + seen

abbrev pub shape_count : {F : Type 0} → Shapes F → ℕ
shape_count NoShape = 0
shape_count (AShape v vs) = 1 + shape_count vs
