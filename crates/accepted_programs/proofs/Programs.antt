-- What the front end shows of a tree, put together.
use Rattle.std.proofs.Common.{ℕ, List, [], ◌∷◌, sym, subst}
use Rattle.mo_names.specs.Bound.{Bound}
use Rattle.mo_names.specs.ProgramNames.{findings}
use Rattle.mo_scopes.specs.declared.finding.Finding.{Finding}
use Rattle.mo_scopes.specs.declared.finding.Finding.TheVariants as finding
use Rattle.mo_syntax.specs.declared.program.Tree.{Tree}
use Rattle.mo_syntax.specs.declared.token.TokenKind.{TokenKind}
use Rattle.mo_syntax.specs.declared.token.TokenKind.TheVariants as token
use Rattle.mo_syntax.specs.ProgramGrammar.{tree_tokens}
use Rattle.mo_syntax.specs.Writing.{Writing}
use Rattle.subtype_laws.specs.Reached.{Among}
use Rattle.typed_tree.specs.declared.program.Program.{Program as TypedProgram}
use Rattle.typed_tree.specs.WellTyped.{WellTyped}
use Rattle.typing_rules.specs.AbstractPrograms.{abstract}
use Rattle.typing_rules.specs.AbstractSyntax.{Program}
use Rattle.typing_rules.specs.Gathered.{gathered}
use Rattle.typing_rules.specs.Programs.{TypedAs}
use Rattle.typing_rules.specs.Terms.{Term}
use Rattle.desugaring_laws.specs.GraphOf.{IsGraphOf}
use Rattle.proper_laws.specs.Lawful.{AreTypesLawful}
use Rattle.type_sources.specs.Shown.{NothingBroken, IsNameToken, AreNameTokens}
use Rattle.expression_sources.proofs.Programs.{trees_lawful}
use Rattle.graph_laws.proofs.Lawful.{graphs_are_lawful}
use Rattle.source_facts.specs.Laws.{AreMeanings}
use Rattle.source_facts.specs.Shown.{IsTokenWritten, AreWritten}
use Rattle.program_facts.proofs.Programs.{programs_are_whole_sources}
use Rattle.program_facts.proofs.Shown.{meanings}
use Rattle.program_facts.proofs.Tokens.{tokens_are_written}
use Rattle.well_typed_laws.proofs.Programs.{programs_are_well_typed}
use Rattle.tree_programs.specs.Programs.{IsProgramOf}
use Rattle.accepted_programs.specs.Laws.{GraphsOfTreesAreLawful, ProgramsOfSourcesAreWellTyped, ProgramsOfTreesAreWellTyped}

nothing_broken : (fs : List Finding) → AreMeanings fs → NothingBroken fs
nothing_broken [] h = tt
nothing_broken (finding.Meaning m ∷ fs) h = (tt, nothing_broken fs h.1)
nothing_broken (finding.Breach b ∷ fs) h = absurd h.0

name_token : (k : TokenKind) → IsTokenWritten k → IsNameToken k
name_token (token.Identifier x) h = h
name_token (token.Reserved x) h = tt
name_token (token.Number n) h = tt
name_token (token.Character c) h = tt
name_token (token.Text x) h = tt
name_token (token.Mark x) h = tt

name_tokens : (ks : Writing) → AreWritten ks → AreNameTokens ks
name_tokens [] h = tt
name_tokens (k ∷ ks) h = (name_token k h.0, name_tokens ks h.1)

module _ (tree : Tree) (p : TypedProgram) (h : IsProgramOf tree p) (bound : Bound tree) (written : AreWritten (tree_tokens tree)) where
  abbrev program : Program ℕ
  program = abstract tree

  abbrev typed : TypedAs tree h.judged
  typed = record { met = h.met; by = h.comes }

  lawful : AreTypesLawful (gathered program) h.met
  lawful = trees_lawful tree (nothing_broken (findings tree) (meanings tree bound)) (name_tokens (tree_tokens tree) written) h.judged typed

  lawful_graph : IsGraphOf (gathered program) p.types h.terms h.number × ((u : Term) → Among u h.met → Among u h.terms)
  lawful_graph = graphs_are_lawful (gathered program) h.met p.types h.terms h.number h.graph lawful

  well_typed : WellTyped p
  well_typed =
      subst (λ (z : TypedProgram). WellTyped z) (sym h.written)
      (programs_are_well_typed tree h.judged typed p.types h.terms h.number lawful_graph.0 lawful_graph.1 (programs_are_whole_sources tree bound written p.types h.terms h.number))

pub graphs_of_trees_are_lawful : GraphsOfTreesAreLawful
graphs_of_trees_are_lawful tree p h bound written = lawful_graph tree p h bound written

pub programs_of_trees_are_well_typed : ProgramsOfTreesAreWellTyped
programs_of_trees_are_well_typed tree p h bound written = well_typed tree p h bound written

pub programs_of_sources_are_well_typed : ProgramsOfSourcesAreWellTyped
programs_of_sources_are_well_typed source tokens tree p lexed spelled bound h = well_typed tree p h bound (tokens_are_written source tokens tree lexed spelled)
