-- Why a source has no tokens, by the Motoko language manual (lexical structure).
use Rattle.std.specs.Prelude.{◌≡◌, ◌≢◌, ℕ, ◌+◌, ◌<◌, ◌≤◌, ◌^◌, true, false, List, [], ◌∷◌, ◌++◌, length, take, Option, Some, None, codes, ◌⊎◌}
use Rattle.std.specs.List.{flat_map}
use Rattle.std.specs.Char.{encode_utf8, IsScalar}
use Rattle.std.specs.Str.{IsUtf8}
use Rattle.mo_syntax.specs.Characters.{is_blank, is_name_start, is_digit}
use Rattle.mo_syntax.specs.Words.{mark_text}
use Rattle.mo_syntax.specs.Lexed.{Item, item_text, AreItems, IsEscape, character, closes, Piece, text_of, AllStand, before_next, Lexed}
use Rattle.mo_syntax.specs.declared.mark.Mark.{Mark}
use Rattle.mo_syntax.specs.declared.before.Before.{Before}
use Rattle.mo_syntax.specs.declared.before.Before.TheVariants as beside
use Rattle.mo_syntax.specs.declared.token.Token.{Token}
use Rattle.mo_lexer.specs.declared.fault.LexFault.{LexFault}
use Rattle.mo_lexer.specs.declared.fault.LexFault.TheVariants.{BadByte, OpenComment, OpenText, BadEscape, WideNumber, SourceTooLong, Memory}
use Rattle.mo_lexer.specs.declared.escape.Escape.TheVariants as escape
use Rattle.mo_lexer.specs.Reading.{escape_at}
use Rattle.mo_lexer.specs.Numbers.{IsNumber}

abbrev pub place_of : LexFault → Option ℕ
place_of (BadByte place) = Some place
place_of (OpenComment place) = Some place
place_of (OpenText place) = Some place
place_of (BadEscape place) = Some place
place_of (WideNumber place) = Some place
place_of SourceTooLong = Some 0
place_of Memory = None

-- no blank, name, number, character or text begins with the byte
pub record BeginsNoOther (b : ℕ) : Type 0 where
  pub no_blank : is_blank b ≡ false
  pub no_name : is_name_start b ≡ false
  pub no_number : is_digit 10 b ≡ false
  pub no_character : b ≢ 39
  pub no_text : b ≢ 34

-- no mark either; a comment begins as a mark does
pub record BeginsNothing (b : ℕ) : Type 0 where
  pub no_other : BeginsNoOther b
  pub no_mark : (mark : Mark) (more : List ℕ) → mark_text mark ≢ b ∷ more

-- what stands between the `'` of a character: one scalar value or escape, as bytes
abbrev pub IsOne : List ℕ → ℕ → Type 0
IsOne inner c =
    ((inner ≡ encode_utf8 c) × IsScalar c × (c ≢ 39) × (c ≢ 92) × (c ≢ 10))
    ⊎ ((text : List ℕ) × (inner ≡ 92 ∷ text) × IsEscape text (character c))

-- a text that is opened, and its items up to here
abbrev pub OpensText : List ℕ → List Item → List ℕ → Type 0
OpensText text items rest = (text ≡ 34 ∷ flat_map item_text items ++ rest) × AreItems items

-- The fault is met at the front of what stands at the place, whatever comes behind it.
abbrev pub MeetsAt : ℕ → List ℕ → LexFault → Type 0
MeetsAt place text (BadByte at) = (at ≡ place) × (b : ℕ) × (rest : List ℕ) × (text ≡ b ∷ rest) × BeginsNothing b
MeetsAt place text (OpenComment at) = ⊥
MeetsAt place text (OpenText at) = (at ≡ place) × (
    -- a newline stops the text
    ((items : List Item) × (rest : List ℕ) × OpensText text items (10 ∷ rest))
    -- there is no scalar value between the marks of a character, or a second one
    ⊎ ((rest : List ℕ) × ((text ≡ 39 ∷ 39 ∷ rest) ⊎ (text ≡ 39 ∷ 10 ∷ rest)))
    ⊎ ((inner : List ℕ) × (c : ℕ) × (b : ℕ) × (rest : List ℕ) × (text ≡ 39 ∷ inner ++ b ∷ rest) × IsOne inner c × (b ≢ 39)))
MeetsAt place text (BadEscape at) =
    ((items : List Item) × (rest : List ℕ) × OpensText text items (92 ∷ rest) × (at ≡ place + 1 + length (flat_map item_text items)) × (escape_at true rest ≡ escape.Bad))
    ⊎ ((rest : List ℕ) × (text ≡ 39 ∷ 92 ∷ rest) × (at ≡ place + 1) × (escape_at false rest ≡ escape.Bad))
MeetsAt place text (WideNumber at) = (at ≡ place) × (digits : List ℕ) × (n : ℕ) × (rest : List ℕ) × (text ≡ digits ++ rest) × IsNumber digits n rest × (2 ^ 64 ≤ n)
MeetsAt place text SourceTooLong = ⊥
MeetsAt place text Memory = ⊥

-- The text ends within what stands at the place.
abbrev pub EndsAt : ℕ → List ℕ → LexFault → Type 0
EndsAt place text (OpenComment at) = (at ≡ place) × (body : List ℕ) × (text ≡ codes "/*" ++ body) × ((front rest : List ℕ) → body ≡ front ++ rest → closes 1 front ≡ false)
EndsAt place text (OpenText at) = (at ≡ place) × (
    ((items : List Item) × OpensText text items [])
    ⊎ (text ≡ 39 ∷ [])
    ⊎ ((inner : List ℕ) × (c : ℕ) × (text ≡ 39 ∷ inner) × IsOne inner c))
EndsAt place text (BadEscape at) =
    ((items : List Item) × (rest : List ℕ) × OpensText text items (92 ∷ rest) × (at ≡ place + 1 + length (flat_map item_text items)) × (escape_at true rest ≡ escape.Ends))
    ⊎ ((rest : List ℕ) × (text ≡ 39 ∷ 92 ∷ rest) × (at ≡ place + 1) × (escape_at false rest ≡ escape.Ends))
EndsAt place text (BadByte at) = ⊥
EndsAt place text (WideNumber at) = ⊥
EndsAt place text SourceTooLong = ⊥
EndsAt place text Memory = ⊥

-- what a list of pieces leaves directly before what follows it
abbrev pub before_after : Before → List Piece → Before
before_after before [] = before
before_after before (piece ∷ pieces) = before_after (before_next piece) pieces

-- a front of the text is pieces, and a fault stands behind them
pub record Halts (Fault : ℕ → List ℕ → LexFault → Type 0) (text : List ℕ) (fault : LexFault) : Type 0 where
  pub pieces : List Piece
  pub rest : List ℕ
  pub whole : text ≡ text_of pieces ++ rest
  pub stand : AllStand beside.Other pieces rest
  pub met : Fault (length (text_of pieces)) rest fault

abbrev pub Meets : List ℕ → LexFault → Type 0
Meets = Halts MeetsAt

abbrev pub Ends : List ℕ → LexFault → Type 0
Ends = Halts EndsAt

-- the longest front of the source that is UTF-8
pub record IsUtf8Front (source front : List ℕ) : Type 0 where
  pub begins : front ≡ take (length front) source
  pub utf8 : IsUtf8 front
  pub longest : (n : ℕ) → length front < n → n ≤ length source → IsUtf8 (take n source) → ⊥

-- The first fault from left to right. At a byte that is not UTF-8, and at the end, others yield to BadByte.
abbrev pub FirstFault : List ℕ → List ℕ → LexFault → Type 0
FirstFault source front fault =
    Meets front fault
    ⊎ ((front ≡ source) × Ends front fault)
    ⊎ ((length front < length source) × (fault ≡ BadByte (length front)) × (((tokens : List Token) × Lexed front tokens) ⊎ ((inner : LexFault) × Ends front inner)))

abbrev pub Faults : List ℕ → LexFault → Type 0
Faults source fault =
    ((1048576 < length source) × (fault ≡ SourceTooLong))
    ⊎ ((length source ≤ 1048576) × (front : List ℕ) × IsUtf8Front source front × FirstFault source front fault)
