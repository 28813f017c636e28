-- Where faults of typing are.
use Rattle.std.specs.Prelude.{◌≡◌, ◌<◌, ℕ, List, length, Some, Err, slice_get}
use Rattle.mo_syntax.specs.declared.program.Tree.{Tree}
use Rattle.mo_syntax.specs.declared.token.Token.{Token}
use Rattle.mo_syntax.specs.declared.token.TokenKind.{TokenKind}
use Rattle.mo_syntax.specs.ProgramGrammar.{Spells}
use Rattle.mo_syntax.specs.Tokens.{AreInOrder}
use Rattle.mo_parser_base.specs.Input.{kinds}
use Rattle.typing_rules.specs.AbstractPrograms.{abstract}
use Rattle.typing_rules.specs.AbstractSyntax.{Program}
use Rattle.typing_rules.specs.Answers.{Fault}
use Rattle.typing_rules.specs.Programs.{Checks, Refused}
use Rattle.fault_places.specs.Numbers.{ProgramBelow}

-- A program that is refused is so at a number that stands in it, or at 0.
abbrev pub FaultsAreInPrograms : Type 0
FaultsAreInPrograms = (n : ℕ) (program : Program ℕ) (f : Fault) → 0 < n → ProgramBelow n program → Checks program (Err f) → f.place < n

-- The numbers in a tree's abstract syntax are those of its tokens.
abbrev pub NumbersAreTokens : Type 0
NumbersAreTokens = (tree : Tree) (tokens : List TokenKind) → Spells tree tokens → (0 < length tokens) × ProgramBelow (length tokens) (abstract tree)

-- A tree that is refused is so at a token of it.
abbrev pub FaultsAreAtTokens : Type 0
FaultsAreAtTokens = (tree : Tree) (tokens : List TokenKind) (f : Fault) → Spells tree tokens → Refused tree f → f.place < length tokens

-- the token of this number starts before the end
pub record StartsBefore (size : ℕ) (tokens : List Token) (number : ℕ) : Type 0 where
  pub token : Token
  pub there : slice_get tokens number ≡ Some token
  pub within : token.start < size

-- Where the tokens are those of a text of this size, one after another, the fault's token starts in the text.
abbrev pub FaultsStartInTexts : Type 0
FaultsStartInTexts = (size : ℕ) (tokens : List Token) (tree : Tree) (f : Fault) → AreInOrder 0 size tokens → Spells tree (kinds tokens) → Refused tree f → StartsBefore size tokens f.place
