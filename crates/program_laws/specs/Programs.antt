-- Whole programs: what is asked of the source, and what its declarations and functions become.
use Rattle.std.specs.Prelude.{ℕ, true, List}
use Rattle.mo_types.specs.declared.node.TypeId.{TypeId}
use Rattle.mo_types.specs.Graph.{Slot}
use Rattle.typing_rules.specs.AbstractSyntax.{Declaration, Declarations, Program}
use Rattle.typing_rules.specs.AbstractSyntax as p
use Rattle.typing_rules.specs.DeclaredTypes.{with_list}
use Rattle.typing_rules.specs.Definitions.{Definitions}
use Rattle.typing_rules.specs.Gathered.{gathered}
use Rattle.typing_rules.specs.Programs.{first_context, JudgeFieldsOf}
use Rattle.typing_rules.specs.Terms.{Term}
use Rattle.typing_rules.specs.TypeScopes.{TypeScope, no_types}
use Rattle.desugaring_laws.specs.GraphOf.{IsGraphOf}
use Rattle.desugaring_laws.specs.Yields.{Yields}
use Rattle.source_laws.specs.Numbers.{AreNumbered}
use Rattle.source_laws.specs.Source.{IsSource, DeclarationIsSource}
use Rattle.method_laws.specs.Methods.{IsMethodFine}
use Rattle.actor_laws.specs.Actors.{ActorMade}

module _ (defs : Definitions) (slots : List Slot) (terms : List Term) (number : Term → TypeId) where
  -- what is asked of the source of an actor's declaration
  abbrev pub FieldIsSource : TypeScope → Declaration ℕ → Type 0
  FieldIsSource s (p.Var true x u a) = IsSource defs slots terms number s a
  FieldIsSource s (p.Method query context x g body) = IsMethodFine context g × IsSource defs slots terms number s body
  FieldIsSource s (p.System x body) = IsSource defs slots terms number s body
  FieldIsSource s d = DeclarationIsSource defs slots terms number s d

  abbrev pub FieldsAreSource : TypeScope → Declarations ℕ → Type 0
  FieldsAreSource s p.End = Unit {0}
  FieldsAreSource s (p.Then public n d rest) = FieldIsSource s d × FieldsAreSource s rest

-- what is asked of the source of a program
pub record IsProgramSource (slots : List Slot) (terms : List Term) (number : Term → TypeId) (program : Program ℕ) : Type 0 where
  pub numbered : AreNumbered (gathered program)
  pub fields : FieldsAreSource (gathered program) slots terms number (with_list no_types program.fields) program.fields

-- Of a program that is judged, over a graph of the types that are met, each declaration becomes a typed one where it stands, and each public and system function
-- a typed one behind them.
abbrev pub ProgramsAreMade : Type 0
ProgramsAreMade =
    (program : Program ℕ) (slots : List Slot) (terms : List Term) (number : Term → TypeId) → IsGraphOf (gathered program) slots terms number → IsProgramSource slots terms number program
    → Yields (gathered program) terms (JudgeFieldsOf program) (λ made. (u : Term) × ActorMade (gathered program) slots terms number (first_context program) program.fields (u, made.fields))
