-- Where a fault is, in bytes, and on which line and column.
use Rattle.std.specs.Prelude.{◌≡◌, ◌≤◌, ◌⊎◌, ◌<◌, ℕ, List, length, Option, Some, None, slice_get}
use Rattle.byte_lanes.specs.Lines.{line_start_places}
use Rattle.mo_syntax.specs.declared.token.Token.{Token}
use Rattle.mo_lexer.specs.declared.fault.LexFault.{LexFault}
use Rattle.mo_lexer.specs.declared.fault.LexFault.TheVariants as lex
use Rattle.mo_lexer.specs.Places.{IsLineColumn}
use Rattle.mo_parser.specs.declared.fault.ParseFault.{ParseFault}
use Rattle.mo_parser.specs.declared.fault.ParseFault.TheVariants as parse
use Rattle.mo_names.specs.declared.fault.NameFault.{NameFault}
use Rattle.mo_names.specs.declared.fault.NameFault.TheVariants as name
use Rattle.mo_front.specs.declared.fault.FrontFault.{FrontFault}
use Rattle.mo_front.specs.declared.fault.FrontFault.TheVariants as fault

-- where a token starts, or 0 where there is none
abbrev pub start_of : Option Token → ℕ
start_of (Some token) = token.start
start_of None = 0

-- where the token of this number starts
abbrev pub token_start : List Token → ℕ → ℕ
token_start tokens number = start_of (slice_get tokens number)

abbrev pub lex_place : LexFault → ℕ
lex_place (lex.BadByte place) = place
lex_place (lex.OpenComment place) = place
lex_place (lex.OpenText place) = place
lex_place (lex.BadEscape place) = place
lex_place (lex.WideNumber place) = place
lex_place lex.SourceTooLong = 0
lex_place lex.Memory = 0

abbrev pub parse_place : ParseFault → ℕ
parse_place (parse.TooDeep place) = place
parse_place (parse.Syntax place) = place
parse_place parse.Memory = 0

abbrev pub name_place : NameFault → ℕ
name_place (name.Unknown place) = place.start
name_place (name.Twice place) = place.start
name_place (name.UsedBeforeDefined place) = place.start
name_place (name.LabelClash place) = place.start
name_place (name.Reserved place) = place.start
name_place name.Memory = 0

abbrev pub place_of : FrontFault → ℕ
place_of (fault.Lex f) = lex_place f
place_of (fault.Parse f) = parse_place f
place_of (fault.Name f) = name_place f
place_of (fault.Type c place) = place
place_of fault.Memory = 0

-- The line and the column of a place in a source. Those of a source that is too long, and of a place behind its limit, are 1 and 1.
abbrev pub IsAt : List ℕ → ℕ → ℕ × ℕ → Type 0
IsAt source place answer =
    ((length source ≤ 1048576) × (place ≤ 1048576) × IsLineColumn (line_start_places source) place answer)
    ⊎ (((1048576 < length source) ⊎ (1048576 < place)) × (answer ≡ (1, 1)))
