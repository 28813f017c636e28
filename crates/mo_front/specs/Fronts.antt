-- When a source is accepted, and when it is refused.
use Rattle.std.specs.Prelude.{◌≡◌, ◌≤◌, ◌<◌, ℕ, List, length, Result, Ok, Err}
use Rattle.mo_syntax.specs.declared.token.Token.{Token}
use Rattle.mo_syntax.specs.declared.program.Tree.{Tree}
use Rattle.mo_syntax.specs.Lexed.{Lexed}
use Rattle.mo_syntax.specs.ProgramGrammar.{Spells}
use Rattle.mo_lexer.specs.Faults.{Faults}
use Rattle.mo_parser_base.specs.Input.{kinds}
use Rattle.mo_depth.specs.Depth.{AreShallow, IsDeepAt}
use Rattle.mo_parser.specs.declared.fault.ParseFault.{ParseFault}
use Rattle.mo_parser.specs.declared.fault.ParseFault.TheVariants as parse
use Rattle.mo_parser.specs.Answers.{IsPlace, IsStart, SpellNone}
use Rattle.mo_scopes.specs.declared.rule.Breach.{Breach}
use Rattle.mo_names.specs.declared.fault.NameFault.{NameFault}
use Rattle.mo_names.specs.Bound.{Bound, Breaks, First, fault_of}
use Rattle.typing_rules.specs.declared.condition.Condition.{Condition}
use Rattle.typed_tree.specs.declared.program.Program.{Program}
use Rattle.typed_tree.specs.WellTyped.{WellTyped}
use Rattle.typing_rules.specs.Answers.{fault as false_at}
use Rattle.typing_rules.specs.Programs.{Refused}
use Rattle.tree_programs.specs.Programs.{IsProgramOf}
use Rattle.mo_front.specs.declared.fault.FrontFault.{FrontFault}
use Rattle.mo_front.specs.declared.fault.FrontFault.TheVariants as fault
use Rattle.mo_front.specs.FaultNames.{name_name}
use Rattle.mo_front.specs.Places.{name_place, token_start}

-- The source has these tokens, within its limit.
pub record HasTokens (source : List ℕ) (tokens : List Token) : Type 0 where
  pub short : length source ≤ 1048576
  pub lexed : Lexed source tokens

-- The tokens have this tree, within the limit of depth.
pub record HasTree (tokens : List Token) (tree : Tree) : Type 0 where
  pub shallow : AreShallow (length tokens) tokens
  pub spelled : Spells tree (kinds tokens)

-- The source has tokens, they have a tree, its names are bound, and it is typed: this is the program that it is written out to.
pub record Accepted (source : List ℕ) (made : Program) : Type 0 where
  pub tokens : List Token
  pub tree : Tree
  pub lexed : HasTokens source tokens
  pub parsed : HasTree tokens tree
  pub bound : Bound tree
  pub typed : IsProgramOf tree made

-- ---- why it is not

-- Why tokens have no tree. Of the places at which reading may stop each may be named.
abbrev pub NoTree : List Token → ParseFault → Type 0
NoTree tokens (parse.TooDeep place) = IsDeepAt place tokens
NoTree tokens (parse.Syntax place) = AreShallow (length tokens) tokens × SpellNone (kinds tokens) × IsPlace place tokens
NoTree tokens parse.Memory = ⊥

-- the first rule of names that is broken
abbrev pub IsUnbound : Tree → NameFault → Type 0
IsUnbound tree f = (b : Breach) × (f ≡ fault_of b) × First (Breaks tree) b

-- the first condition of typing that is false, at the token of this number
pub record IsUntyped (tokens : List Token) (tree : Tree) (c : Condition) (place : ℕ) : Type 0 where
  pub number : ℕ
  pub refused : Refused tree (false_at c number)
  pub place_is : place ≡ token_start tokens number

pub record Unparsed (source : List ℕ) (f : ParseFault) : Type 0 where
  pub tokens : List Token
  pub lexed : HasTokens source tokens
  pub none : NoTree tokens f

pub record Unbound (source : List ℕ) (f : NameFault) : Type 0 where
  pub tokens : List Token
  pub tree : Tree
  pub lexed : HasTokens source tokens
  pub parsed : HasTree tokens tree
  pub unbound : IsUnbound tree f

pub record Untyped (source : List ℕ) (c : Condition) (place : ℕ) : Type 0 where
  pub tokens : List Token
  pub tree : Tree
  pub lexed : HasTokens source tokens
  pub parsed : HasTree tokens tree
  pub bound : Bound tree
  pub untyped : IsUntyped tokens tree c place

-- Each layer is asked where those before it accept. Want of memory has no cause.
abbrev pub RefusedBy : List ℕ → FrontFault → Type 0
RefusedBy source (fault.Lex f) = Faults source f
RefusedBy source (fault.Parse f) = Unparsed source f
RefusedBy source (fault.Name f) = Unbound source f
RefusedBy source (fault.Type c place) = Untyped source c place
RefusedBy source fault.Memory = Unit {0}

-- what is answered to a source
abbrev pub Answers : List ℕ → Result Program FrontFault → Type 0
Answers source (Ok made) = Accepted source made
Answers source (Err f) = RefusedBy source f

-- ---- that what is given is well typed

abbrev pub AcceptedAreWellTyped : Type 0
AcceptedAreWellTyped = (source : List ℕ) (made : Program) → Accepted source made → WellTyped made

-- ---- that a fault of typing is at a token

-- One of the source's tokens starts there.
pub record StartsToken (source : List ℕ) (place : ℕ) : Type 0 where
  pub tokens : List Token
  pub lexed : HasTokens source tokens
  pub start : IsStart place tokens
  pub within : place < length source

abbrev pub FaultsOfTypingStartTokens : Type 0
FaultsOfTypingStartTokens = (source : List ℕ) (c : Condition) (place : ℕ) → RefusedBy source (fault.Type c place) → StartsToken source place

-- ---- that a source has one answer

-- where each may stop at a place of its own in tokens that have no tree
abbrev pub AlikeParse : ParseFault → ParseFault → Type 0
AlikeParse (parse.Syntax p) (parse.Syntax q) = Unit {0}
AlikeParse f g = f ≡ g

-- They are of one layer and one name and, but for where reading stops, at one place.
abbrev pub Alike : FrontFault → FrontFault → Type 0
Alike (fault.Lex f) (fault.Lex g) = f ≡ g
Alike (fault.Parse f) (fault.Parse g) = AlikeParse f g
Alike (fault.Name f) (fault.Name g) = (name_name f ≡ name_name g) × (name_place f ≡ name_place g)
Alike (fault.Type c p) (fault.Type e q) = (c ≡ e) × (p ≡ q)
Alike f g = ⊥
