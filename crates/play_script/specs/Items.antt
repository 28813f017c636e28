-- The lines of a transcript.
use Rattle.std.specs.Prelude.{◌≡◌, ℕ, List, [], ◌∷◌, ◌++◌, codes}
use Rattle.play_script.specs.Numbers.{IsDecimal, bytes_text}
use Rattle.play_script.specs.declared.item.Item.{Item}
use Rattle.play_script.specs.declared.item.Item.TheVariants.{Installed, Upgraded, Print, Call, Replied, Rejected, Trapped, Ignored}
use Rattle.play_script.specs.declared.item.Word.{Word}
use Rattle.play_script.specs.declared.item.Word.TheVariants.{Steps, Stack, Heap, Unreachable, Bounds, Divide, Overflow, Indirect, Text}

-- words behind the first word of a line: a space before each, and a newline behind the last
abbrev pub line_end : List (List ℕ) → List ℕ
line_end [] = 10 ∷ []
line_end (word ∷ words) = 32 ∷ (word ++ line_end words)

-- a line of words that single spaces part
abbrev pub line_of : List ℕ → List (List ℕ) → List ℕ
line_of first others = first ++ line_end others

-- the words that say why an execution broke off
abbrev pub trap_words : Word → List (List ℕ)
trap_words Steps = codes "steps" ∷ []
trap_words Stack = codes "stack" ∷ []
trap_words Heap = codes "heap" ∷ []
trap_words Unreachable = codes "unreachable" ∷ []
trap_words Bounds = codes "bounds" ∷ []
trap_words Divide = codes "divide" ∷ []
trap_words Overflow = codes "overflow" ∷ []
trap_words Indirect = codes "indirect" ∷ []
trap_words (Text bytes) = codes "text" ∷ bytes_text bytes ∷ []

-- the item's line
abbrev pub ItemText : Item → List ℕ → Type 0
ItemText Installed line = line ≡ line_of (codes "installed") []
ItemText Upgraded line = line ≡ line_of (codes "upgraded") []
ItemText (Print bytes) line = line ≡ line_of (codes "print") (bytes_text bytes ∷ [])
ItemText (Call number callee method bytes) line =
    (digits : List ℕ) × IsDecimal digits number
    × (line ≡ line_of (codes "call") (digits ∷ bytes_text callee ∷ method ∷ bytes_text bytes ∷ []))
ItemText (Replied number bytes) line =
    (digits : List ℕ) × IsDecimal digits number × (line ≡ line_of (codes "replied") (digits ∷ bytes_text bytes ∷ []))
ItemText (Rejected number code text) line =
    (digits : List ℕ) × IsDecimal digits number × (code_digits : List ℕ) × IsDecimal code_digits code
    × (line ≡ line_of (codes "rejected") (digits ∷ code_digits ∷ bytes_text text ∷ []))
ItemText (Trapped word) line = line ≡ line_of (codes "trapped") (trap_words word)
ItemText Ignored line = line ≡ line_of (codes "ignored") []

-- the lines of the items, in order
abbrev pub ItemsText : List Item → List ℕ → Type 0
ItemsText [] text = text ≡ []
ItemsText (item ∷ items) text =
    (line : List ℕ) × (others : List ℕ) × ItemText item line × ItemsText items others × (text ≡ line ++ others)
