-- The reserved words by their first byte.
use Rattle.std.specs.Prelude.{ℕ, List, [], ◌∷◌, Bool, false, nat_eq}
use Rattle.std.specs.List.{filter}
use Rattle.mo_syntax.specs.declared.word.Word.{Word}
use Rattle.mo_syntax.specs.Words.{word_text, reserved_words}

abbrev pub begins_with : ℕ → List ℕ → Bool
begins_with first [] = false
begins_with first (byte ∷ bytes) = nat_eq byte first

-- the reserved words that begin with the byte, in their order
unfoldable pub words_from : ℕ → List Word
words_from first = filter (λ word. begins_with first (word_text word)) reserved_words
