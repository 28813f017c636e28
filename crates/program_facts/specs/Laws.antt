-- What the front end shows of a program is what is asked of its source.
use Rattle.std.specs.Prelude.{ℕ, List}
use Rattle.mo_parser_base.specs.Input.{kinds}
use Rattle.mo_names.specs.Bound.{Bound}
use Rattle.mo_syntax.specs.declared.program.Tree.{Tree}
use Rattle.mo_syntax.specs.declared.token.Token.{Token}
use Rattle.mo_syntax.specs.Lexed.{Lexed}
use Rattle.mo_syntax.specs.ProgramGrammar.{Spells, tree_tokens}
use Rattle.mo_types.specs.declared.node.TypeId.{TypeId}
use Rattle.mo_types.specs.Graph.{Slot}
use Rattle.typing_rules.specs.AbstractPrograms.{abstract}
use Rattle.typing_rules.specs.DeclaredTypes.{with_list}
use Rattle.typing_rules.specs.Gathered.{gathered}
use Rattle.typing_rules.specs.Programs.{JudgeFieldsOf}
use Rattle.typing_rules.specs.Terms.{Term}
use Rattle.typing_rules.specs.TypeScopes.{no_types}
use Rattle.desugaring_laws.specs.Yields.{Yields}
use Rattle.actor_laws.specs.Order.{IsActorInOrder}
use Rattle.program_laws.specs.Around.{own_names}
use Rattle.program_laws.specs.Programs.{IsProgramSource}
use Rattle.source_facts.specs.Shown.{AreWritten}
use Rattle.well_typed_laws.specs.Source.{IsActorSource, IsWholeSource}

-- A program whose names are bound and whose characters are Unicode scalar values is a source.
abbrev pub ProgramsAreSources : Type 0
ProgramsAreSources = (tree : Tree) → Bound tree → AreWritten (tree_tokens tree) → (slots : List Slot) (terms : List Term) (number : Term → TypeId) → IsProgramSource slots terms number (abstract tree)

-- The functions and stable variables of such a program have names as it is asked.
abbrev pub ProgramsAreNamed : Type 0
ProgramsAreNamed = (tree : Tree) → Bound tree → AreWritten (tree_tokens tree) → IsActorSource (abstract tree).fields

-- The declarations of a program whose names are bound are in order, in what they are judged to be.
abbrev pub ProgramsAreInOrder : Type 0
ProgramsAreInOrder =
    (tree : Tree) → Bound tree → (slots : List Slot) (terms : List Term) (number : Term → TypeId)
    → Yields (gathered (abstract tree)) terms (JudgeFieldsOf (abstract tree))
    (λ made. IsActorInOrder (gathered (abstract tree)) slots number (with_list no_types (abstract tree).fields) (own_names (abstract tree).name) (abstract tree).fields made.fields)

-- It is all that is asked of the source of a whole program.
abbrev pub ProgramsAreWholeSources : Type 0
ProgramsAreWholeSources =
    (tree : Tree) → Bound tree → AreWritten (tree_tokens tree) → (slots : List Slot) (terms : List Term) (number : Term → TypeId) → IsWholeSource slots terms number (abstract tree)

-- Of a source that is lexed and parsed, the tokens of the tree have Unicode scalar values for characters.
abbrev pub TokensAreWritten : Type 0
TokensAreWritten = (source : List ℕ) (tokens : List Token) (tree : Tree) → Lexed source tokens → Spells tree (kinds tokens) → AreWritten (tree_tokens tree)
