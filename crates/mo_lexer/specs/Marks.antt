-- The longest mark at the front of a text. Each front of a mark is a mark, so it is found byte by byte.
use Rattle.std.specs.Prelude.{ℕ, ◌==◌, if◌then◌else◌, List, [], ◌∷◌, Option, Some, None}
use Rattle.mo_syntax.specs.declared.mark.Mark.{Mark}
use Rattle.mo_syntax.specs.declared.mark.Mark.TheVariants as m
use Rattle.mo_syntax.specs.declared.before.Before.{Before}
use Rattle.mo_syntax.specs.Lexed.{is_between_blanks, is_tag}

abbrev pub first_mark : ℕ → Option Mark
first_mark b =
    if b == 43 then Some m.Plus
    else (if b == 45 then Some m.Minus
    else (if b == 42 then Some m.Star
    else (if b == 47 then Some m.Slash
    else (if b == 37 then Some m.Percent
    else (if b == 35 then Some m.Concat
    else (if b == 60 then Some m.Less
    else (if b == 62 then Some m.Greater
    else (if b == 61 then Some m.EqualSign
    else (if b == 58 then Some m.Colon
    else (if b == 59 then Some m.Semicolon
    else (if b == 44 then Some m.Comma
    else (if b == 46 then Some m.Dot
    else (if b == 63 then Some m.Question
    else (if b == 33 then Some m.Bang
    else (if b == 40 then Some m.ParenOpen
    else (if b == 41 then Some m.ParenClose
    else (if b == 91 then Some m.BracketOpen
    else (if b == 93 then Some m.BracketClose
    else (if b == 123 then Some m.BraceOpen
    else (if b == 125 then Some m.BraceClose
    else None))))))))))))))))))))

abbrev pub with_equal : Mark → Option Mark
with_equal m.EqualSign = Some m.Equal
with_equal m.Bang = Some m.NotEqual
with_equal m.Less = Some m.LessEqual
with_equal m.Greater = Some m.GreaterEqual
with_equal m.Colon = Some m.Assign
with_equal m.Plus = Some m.PlusAssign
with_equal m.Minus = Some m.MinusAssign
with_equal m.Star = Some m.StarAssign
with_equal m.Slash = Some m.SlashAssign
with_equal m.Percent = Some m.PercentAssign
with_equal m.Power = Some m.PowerAssign
with_equal m.Concat = Some m.ConcatAssign
with_equal m.PlusWrap = Some m.PlusWrapAssign
with_equal m.MinusWrap = Some m.MinusWrapAssign
with_equal m.StarWrap = Some m.StarWrapAssign
with_equal _ = None

abbrev pub with_percent : Mark → Option Mark
with_percent m.Plus = Some m.PlusWrap
with_percent m.Minus = Some m.MinusWrap
with_percent m.Star = Some m.StarWrap
with_percent _ = None

abbrev pub with_star : Mark → Option Mark
with_star m.Star = Some m.Power
with_star _ = None

abbrev pub with_greater : Mark → Option Mark
with_greater m.Minus = Some m.Arrow
with_greater _ = None

abbrev pub with_colon : Mark → Option Mark
with_colon m.Less = Some m.Subtype
with_colon _ = None

-- the mark that is the mark and one more byte
abbrev pub longer_mark : Mark → ℕ → Option Mark
longer_mark mark b =
    if b == 61 then with_equal mark
    else (if b == 37 then with_percent mark
    else (if b == 42 then with_star mark
    else (if b == 62 then with_greater mark
    else (if b == 58 then with_colon mark
    else None))))

-- a longer mark goes on, and else this one is the longest
abbrev pub longest_of : Mark → (Mark → Mark) → Option Mark → Mark
longest_of mark further None = mark
longest_of mark further (Some longer) = further longer

-- the longest mark that the mark and the text behind it make
abbrev pub longest_mark : Mark → List ℕ → Mark
longest_mark mark [] = mark
longest_mark mark (b ∷ text) = longest_of mark (λ longer. longest_mark longer text) (longer_mark mark b)

abbrev pub mark_from : Option Mark → List ℕ → Option Mark
mark_from None text = None
mark_from (Some mark) text = Some (longest_mark mark text)

abbrev pub mark_at : List ℕ → Option Mark
mark_at [] = None
mark_at (b ∷ text) = mark_from (first_mark b) text

-- which mark it is, by what stands before and behind it
abbrev pub in_context : Before → Mark → List ℕ → Mark
in_context before m.Less rest = if is_between_blanks before rest then m.Less else m.AngleOpen
in_context before m.Greater rest = if is_between_blanks before rest then m.Greater else m.AngleClose
in_context before m.Concat rest = if is_tag before rest then m.Tag else m.Concat
in_context before mark rest = mark
