use Rattle.std.proofs.Common.{◌∙◌, ap}
use Rattle.std.specs.List.{find}
use Rattle.std.specs.Str.{bytes_eq}
use Rattle.mo_syntax.specs.Words.{word_text}
use Rattle.mo_lexer.proofs.Groups.{found_among, none_empty}
use Rattle.mo_lexer.proofs.name.reserved_word.Goals as goal

pub returns-in-empty : goal.returns-in-empty
returns-in-empty c = none_empty c.args.text.now c.in-empty.len_below

pub returns-in-len1-up : goal.returns-in-len1-up
returns-in-len1-up c =
    c.find_word.ensures ∙ (ap (find (λ word. bytes_eq (word_text word) c.args.text.now)) c.words_from.ensures ∙ found_among c.args.text.now c.in-len1-up.len_at_least)
