-- What each layer answers, and those from one on.
use Rattle.std.specs.Prelude.{ℕ, List, Result, Ok, Err}
use Rattle.mo_syntax.specs.declared.token.Token.{Token}
use Rattle.mo_syntax.specs.declared.program.Tree.{Tree}
use Rattle.mo_lexer.specs.Faults.{Faults}
use Rattle.mo_names.specs.Bound.{Bound}
use Rattle.typed_tree.specs.declared.program.Program.{Program}
use Rattle.tree_programs.specs.Programs.{IsProgramOf}
use Rattle.mo_front.specs.declared.fault.FrontFault.{FrontFault}
use Rattle.mo_front.specs.declared.fault.FrontFault.TheVariants as fault
use Rattle.mo_front.specs.Fronts.{HasTokens, HasTree, IsUnbound, IsUntyped, NoTree}

abbrev pub FindsTokens : List ℕ → Result (List Token) FrontFault → Type 0
FindsTokens source (Ok tokens) = HasTokens source tokens
FindsTokens source (Err (fault.Lex f)) = Faults source f
FindsTokens source (Err (fault.Parse f)) = ⊥
FindsTokens source (Err (fault.Name f)) = ⊥
FindsTokens source (Err (fault.Type c place)) = ⊥
FindsTokens source (Err fault.Memory) = Unit {0}

abbrev pub FindsTree : List Token → Result Tree FrontFault → Type 0
FindsTree tokens (Ok tree) = HasTree tokens tree
FindsTree tokens (Err (fault.Lex f)) = ⊥
FindsTree tokens (Err (fault.Parse f)) = NoTree tokens f
FindsTree tokens (Err (fault.Name f)) = ⊥
FindsTree tokens (Err (fault.Type c place)) = ⊥
FindsTree tokens (Err fault.Memory) = Unit {0}

abbrev pub BindsNames : Tree → Result (Unit {0}) FrontFault → Type 0
BindsNames tree (Ok done) = Bound tree
BindsNames tree (Err (fault.Lex f)) = ⊥
BindsNames tree (Err (fault.Parse f)) = ⊥
BindsNames tree (Err (fault.Name f)) = IsUnbound tree f
BindsNames tree (Err (fault.Type c place)) = ⊥
BindsNames tree (Err fault.Memory) = Unit {0}

module _ (tokens : List Token) where
  abbrev pub FindsTypes : Tree → Result Program FrontFault → Type 0
  FindsTypes tree (Ok made) = IsProgramOf tree made
  FindsTypes tree (Err (fault.Lex f)) = ⊥
  FindsTypes tree (Err (fault.Parse f)) = ⊥
  FindsTypes tree (Err (fault.Name f)) = ⊥
  FindsTypes tree (Err (fault.Type c place)) = IsUntyped tokens tree c place
  FindsTypes tree (Err fault.Memory) = Unit {0}

  -- ---- from here on

  abbrev pub OfTree : Tree → Result Program FrontFault → Type 0
  OfTree tree (Ok made) = Bound tree × IsProgramOf tree made
  OfTree tree (Err (fault.Lex f)) = ⊥
  OfTree tree (Err (fault.Parse f)) = ⊥
  OfTree tree (Err (fault.Name f)) = IsUnbound tree f
  OfTree tree (Err (fault.Type c place)) = Bound tree × IsUntyped tokens tree c place
  OfTree tree (Err fault.Memory) = Unit {0}

  abbrev pub OfTokens : Result Program FrontFault → Type 0
  OfTokens (Ok made) = (tree : Tree) × HasTree tokens tree × Bound tree × IsProgramOf tree made
  OfTokens (Err (fault.Lex f)) = ⊥
  OfTokens (Err (fault.Parse f)) = NoTree tokens f
  OfTokens (Err (fault.Name f)) = (tree : Tree) × HasTree tokens tree × IsUnbound tree f
  OfTokens (Err (fault.Type c place)) = (tree : Tree) × HasTree tokens tree × Bound tree × IsUntyped tokens tree c place
  OfTokens (Err fault.Memory) = Unit {0}
