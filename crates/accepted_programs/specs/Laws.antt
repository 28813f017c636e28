-- The program that an accepted source is written out to is well typed. Whatever the laws of types, of order and of what is written out ask, the front end has shown.
use Rattle.std.specs.Prelude.{ℕ, List}
use Rattle.mo_names.specs.Bound.{Bound}
use Rattle.mo_parser_base.specs.Input.{kinds}
use Rattle.mo_syntax.specs.declared.program.Tree.{Tree}
use Rattle.mo_syntax.specs.declared.token.Token.{Token}
use Rattle.mo_syntax.specs.Lexed.{Lexed}
use Rattle.mo_syntax.specs.ProgramGrammar.{Spells, tree_tokens}
use Rattle.subtype_laws.specs.Reached.{Among}
use Rattle.typed_tree.specs.declared.program.Program.{Program}
use Rattle.typed_tree.specs.WellTyped.{WellTyped}
use Rattle.typing_rules.specs.AbstractPrograms.{abstract}
use Rattle.typing_rules.specs.Gathered.{gathered}
use Rattle.typing_rules.specs.Terms.{Term}
use Rattle.desugaring_laws.specs.GraphOf.{IsGraphOf}
use Rattle.source_facts.specs.Shown.{AreWritten}
use Rattle.tree_programs.specs.Programs.{IsProgramOf}

-- Where the names of a tree are bound, and its tokens are such that they can be written, its graph is lawful, and has each type that is met.
abbrev pub GraphsOfTreesAreLawful : Type 0
GraphsOfTreesAreLawful =
    (tree : Tree) (p : Program) (h : IsProgramOf tree p) → Bound tree → AreWritten (tree_tokens tree)
    → IsGraphOf (gathered (abstract tree)) p.types h.terms h.number × ((u : Term) → Among u h.met → Among u h.terms)

-- Its program is well typed.
abbrev pub ProgramsOfTreesAreWellTyped : Type 0
ProgramsOfTreesAreWellTyped = (tree : Tree) (p : Program) → IsProgramOf tree p → Bound tree → AreWritten (tree_tokens tree) → WellTyped p

-- That its tokens are such is so of each source that is lexed and parsed.
abbrev pub ProgramsOfSourcesAreWellTyped : Type 0
ProgramsOfSourcesAreWellTyped = (source : List ℕ) (tokens : List Token) (tree : Tree) (p : Program) → Lexed source tokens → Spells tree (kinds tokens) → Bound tree → IsProgramOf tree p → WellTyped p
