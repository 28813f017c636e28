-- A word is found among those that begin with its first byte.
use Rattle.std.proofs.Common.{◌≡◌, ℕ, Bool, true, false, cond, List, [], ◌∷◌, Option, Some, refl, ap, ◌∙◌, sym, arith}
use Rattle.std.specs.Prelude.{◌≤◌, ◌<◌, length, None, ◌&&◌}
use Rattle.std.proofs.Math.ListN.{get_or}
use Rattle.std.specs.List.{find, filter}
use Rattle.std.specs.Str.{bytes_eq}
use Rattle.mo_syntax.specs.declared.word.Word.{Word}
use Rattle.mo_syntax.specs.Words.{word_text, word_of, reserved_words}
use Rattle.mo_lexer.specs.Names.{begins_with, words_from}

-- a text that begins otherwise is another one
other : (word bytes : List ℕ) (first : ℕ) → begins_with first word ≡ false → bytes_eq word (first ∷ bytes) ≡ false
other [] bytes first h = refl
other (byte ∷ word) bytes first h = ap (λ b. b && bytes_eq word bytes) h

step : (found kept : Bool) (word : Word) (rest all : Option Word) → (kept ≡ false → found ≡ false) → rest ≡ all
    → (b : Bool) → kept ≡ b → cond b (cond found (Some word) rest) rest ≡ cond found (Some word) all
step found kept word rest all out same true is = ap (cond found (Some word)) same
step found kept word rest all out same false is = same ∙ sym (ap (λ b. cond b (Some word) all) (out is))

kept_or : (test : Word → Bool) (word : Word) (words : List Word) (b : Bool) → find test (cond b (word ∷ words) words) ≡ cond b (cond (test word) (Some word) (find test words)) (find test words)
kept_or test word words true = refl
kept_or test word words false = refl

among : (first : ℕ) (bytes : List ℕ) (words : List Word)
    → find (λ word. bytes_eq (word_text word) (first ∷ bytes)) (filter (λ word. begins_with first (word_text word)) words)
    ≡ find (λ word. bytes_eq (word_text word) (first ∷ bytes)) words
among first bytes [] = refl
among first bytes (word ∷ words) =
    kept_or (λ word. bytes_eq (word_text word) (first ∷ bytes)) word (filter (λ word. begins_with first (word_text word)) words) (begins_with first (word_text word))
    ∙ step (bytes_eq (word_text word) (first ∷ bytes)) (begins_with first (word_text word)) word _ _ (other (word_text word) bytes first) (among first bytes words) (begins_with first (word_text word)) refl

pub found_among : (text : List ℕ) → 1 ≤ length text → find (λ word. bytes_eq (word_text word) text) (words_from (get_or text 0 0)) ≡ word_of text
unfolding words_from word_of reserved_words
found_among [] h = absurd (omega arith)
found_among (first ∷ bytes) h = among first bytes reserved_words

pub none_empty : (text : List ℕ) → length text < 1 → None ≡ word_of text
unfolding word_of reserved_words
none_empty [] h = refl
none_empty (first ∷ bytes) h = absurd (omega arith)
