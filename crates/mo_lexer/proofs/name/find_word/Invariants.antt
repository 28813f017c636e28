use Rattle.std.proofs.Common.{◌≡◌, drop}
use Rattle.std.specs.List.{find}
use Rattle.std.specs.Str.{bytes_eq}
use Rattle.mo_syntax.specs.Words.{word_text}
use Rattle.mo_lexer.proofs.name.find_word.Given as goal

abbrev pub invariant-loop-word : goal.invariant-loop-word
invariant-loop-word l = find (λ word. bytes_eq (word_text word) l.text) (drop l.word-index l.words) ≡ find (λ word. bytes_eq (word_text word) l.text) l.words
