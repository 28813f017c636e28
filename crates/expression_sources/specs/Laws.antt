-- What the front end shows of a source is what the laws of its types ask.
use Rattle.mo_names.specs.ProgramNames.{findings}
use Rattle.mo_syntax.specs.declared.program.Tree.{Tree}
use Rattle.mo_syntax.specs.ProgramGrammar.{tree_tokens}
use Rattle.typing_rules.specs.AbstractPrograms.{abstract}
use Rattle.typing_rules.specs.AbstractSyntax.{Program}
use Rattle.typing_rules.specs.Gathered.{gathered}
use Rattle.typing_rules.specs.Programs.{TypedAs}
use Rattle.typing_rules.specs.TypedTrees.{Note}
use Rattle.proper_laws.specs.Lawful.{AreTypesLawful}
use Rattle.meeting_laws.specs.Source.{IsProgramSource}
use Rattle.type_sources.specs.Shown.{NothingBroken, AreNameTokens}

-- where no rule on names is broken, and identifiers are visible
abbrev pub ProgramsAreSources : Type 0
ProgramsAreSources = (tree : Tree) → NothingBroken (findings tree) → AreNameTokens (tree_tokens tree) → IsProgramSource (abstract tree)

-- So the types of a tree that is typed are lawful.
abbrev pub TypesOfTreesAreLawful : Type 0
TypesOfTreesAreLawful = (tree : Tree) → NothingBroken (findings tree) → AreNameTokens (tree_tokens tree) → (made : Program Note) (c : TypedAs tree made) → AreTypesLawful (gathered (abstract tree)) c.met
