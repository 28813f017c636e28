-- What is found at the front of a text.
use Rattle.std.specs.Prelude.{◌≡◌, ◌≢◌, ℕ, ◌<◌, ◌≤◌, true, List, [], ◌∷◌, ◌++◌, length, take, drop, Option, Some, None}
use Rattle.mo_syntax.specs.Lexed.{Escaped, IsEscape, escaped_bytes, IsText, IsCharacter, Piece, blank, comment, token, piece_text, Stands, before_next}
use Rattle.mo_syntax.specs.Tokens.{placed}
use Rattle.mo_syntax.specs.declared.token.TokenKind.{TokenKind}
use Rattle.mo_syntax.specs.declared.token.Token.{Token}
use Rattle.mo_syntax.specs.declared.before.Before.{Before}
use Rattle.mo_lexer.specs.declared.fault.LexFault.TheVariants.{OpenText, BadEscape}
use Rattle.mo_lexer.specs.declared.stop.Stop.{Stop}
use Rattle.mo_lexer.specs.declared.stop.Stop.TheVariants as stop
use Rattle.mo_lexer.specs.declared.escape.Escape.TheVariants as escape
use Rattle.mo_lexer.specs.declared.literal.TextFound.{TextFound}
use Rattle.mo_lexer.specs.declared.literal.CharacterFound.{CharacterFound}
use Rattle.mo_lexer.specs.declared.piece.Found.{Found}
use Rattle.mo_lexer.specs.Reading.{escape_at}
use Rattle.mo_lexer.specs.Faults.{MeetsAt, EndsAt}

-- the stop is right for what stands at the place; nothing is said of want of memory
abbrev pub StopsAt : ℕ → List ℕ → Stop → Type 0
StopsAt place text (stop.Met fault) = MeetsAt place text fault
StopsAt place text (stop.AtEnd fault) = EndsAt place text fault
StopsAt place text stop.Memory = Unit {0}

pub record TextIs (text : List ℕ) (found : TextFound) : Type 0 where
  pub within : found.len ≤ length text
  pub is_text : IsText (take found.len text) found.bytes

pub record CharacterIs (text : List ℕ) (found : CharacterFound) : Type 0 where
  pub within : found.len ≤ length text
  pub is_character : IsCharacter (take found.len text) found.value

-- the bytes of an escape at the front of the text were added
pub record AppendsEscape (text old new : List ℕ) (len : ℕ) : Type 0 where
  pub escaped : Escaped
  pub within : len ≤ length text
  pub is_escape : IsEscape (take len text) escaped
  pub added : new ≡ old ++ escaped_bytes escaped

abbrev pub EscapeStops : ℕ → List ℕ → Stop → Type 0
EscapeStops place text (stop.Met fault) = (fault ≡ BadEscape place) × (escape_at true text ≡ escape.Bad)
EscapeStops place text (stop.AtEnd fault) = (fault ≡ BadEscape place) × (escape_at true text ≡ escape.Ends)
EscapeStops place text stop.Memory = Unit {0}

abbrev pub IsClosed : List ℕ → Type 0
IsClosed text = (rest : List ℕ) × (text ≡ 39 ∷ rest)

abbrev pub ClosedStops : ℕ → List ℕ → Stop → Type 0
ClosedStops place text (stop.Met fault) = (fault ≡ OpenText place) × (b : ℕ) × (rest : List ℕ) × (text ≡ b ∷ rest) × (b ≢ 39)
ClosedStops place text (stop.AtEnd fault) = (fault ≡ OpenText place) × (text ≡ [])
ClosedStops place text stop.Memory = Unit {0}

abbrev pub kind_of : Piece → Option TokenKind
kind_of (blank b) = None
kind_of (comment text) = None
kind_of (token kind text) = Some kind

-- the token of this kind that stands there, where there is one
abbrev pub token_list : Option TokenKind → ℕ → ℕ → List Token
token_list None start stop_ = []
token_list (Some kind) start stop_ = record { kind = placed (record { start = start; «end» = stop_ }) kind; start = start; «end» = stop_ } ∷ []

-- a piece stands at the front of the text
pub record PieceIs (before : Before) (text : List ℕ) (found : Found) : Type 0 where
  pub piece : Piece
  pub within : found.len ≤ length text
  pub some : 0 < found.len
  pub text_is : piece_text piece ≡ take found.len text
  pub stands : Stands before piece (drop found.len text)
  pub before_is : found.before ≡ before_next piece
  pub kind_is : found.kind ≡ kind_of piece
