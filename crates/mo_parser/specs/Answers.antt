-- What the parser answers.
use Rattle.std.specs.Prelude.{◌≡◌, ◌⊎◌, ℕ, ◌-◌, List, [], ◌∷◌, length, Some, Result, Ok, Err, slice_get}
use Rattle.mo_syntax.specs.declared.token.Token.{Token}
use Rattle.mo_syntax.specs.declared.token.TokenKind.{TokenKind}
use Rattle.mo_syntax.specs.declared.program.Tree.{Tree}
use Rattle.mo_syntax.specs.ProgramGrammar.{Spells}
use Rattle.mo_parser_base.specs.Input.{kinds}
use Rattle.mo_depth.specs.Depth.{AreShallow, IsDeepAt}
use Rattle.mo_depth.specs.Stack.{AreHeld}
use Rattle.mo_parser.specs.declared.fault.ParseFault.{ParseFault}
use Rattle.mo_parser.specs.declared.fault.ParseFault.TheVariants as faults

-- no tree spells the tokens
abbrev pub SpellNone : List TokenKind → Type 0
SpellNone tokens = (tree : Tree) → Spells tree tokens → ⊥

-- a token starts there
pub record IsStart (place : ℕ) (tokens : List Token) : Type 0 where
  pub number : ℕ
  pub token : Token
  pub there : slice_get tokens number ≡ Some token
  pub starts : token.start ≡ place

-- the last token ends there
pub record IsEnd (place : ℕ) (tokens : List Token) : Type 0 where
  pub token : Token
  pub there : slice_get tokens (length tokens - 1) ≡ Some token
  pub ends : token.end ≡ place

-- where reading may stop
abbrev pub IsPlace : ℕ → List Token → Type 0
IsPlace place [] = place ≡ 0
IsPlace place (x ∷ tokens) = IsStart place (x ∷ tokens) ⊎ IsEnd place (x ∷ tokens)

-- A tree that spells the tokens, or that none does. Want of memory has no cause.
abbrev pub IsRead : List Token → Result Tree ParseFault → Type 0
IsRead tokens (Ok tree) = Spells tree (kinds tokens)
IsRead tokens (Err (faults.TooDeep place)) = ⊥
IsRead tokens (Err (faults.Syntax place)) = SpellNone (kinds tokens) × IsPlace place tokens
IsRead tokens (Err faults.Memory) = Unit {0}

-- the same, where no token is too deep, or the first one that is
abbrev pub Answers : List Token → Result Tree ParseFault → Type 0
Answers tokens (Ok tree) = AreShallow (length tokens) tokens × Spells tree (kinds tokens)
Answers tokens (Err (faults.TooDeep place)) = IsDeepAt place tokens
Answers tokens (Err (faults.Syntax place)) = AreShallow (length tokens) tokens × (SpellNone (kinds tokens) × IsPlace place tokens)
Answers tokens (Err faults.Memory) = Unit {0}

-- A tree, or that there is none, is only answered of tokens that leave room on the native stack.
abbrev pub IsHeld : List Token → Result Tree ParseFault → Type 0
IsHeld tokens (Ok tree) = AreHeld (length tokens) tokens
IsHeld tokens (Err (faults.TooDeep place)) = Unit {0}
IsHeld tokens (Err (faults.Syntax place)) = AreHeld (length tokens) tokens
IsHeld tokens (Err faults.Memory) = Unit {0}

-- this tree is the answer, unless there is no memory
abbrev pub Finds : Tree → Result Tree ParseFault → Type 0
Finds tree (Ok x) = x ≡ tree
Finds tree (Err fault) = fault ≡ faults.Memory

-- no two trees spell the same tokens
abbrev pub OneTree : Type 0
OneTree = (tokens : List TokenKind) (x y : Tree) → Spells x tokens → Spells y tokens → x ≡ y
