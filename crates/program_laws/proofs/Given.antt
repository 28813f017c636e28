-- What is given of whole programs: what is so of the list of an actor's fields is so of the program that is made of it, over types that have those that every program meets.
use Rattle.std.proofs.Common.{ℕ, false, List, [], ◌∷◌, None}
use Rattle.mo_types.specs.Sub.{Each}
use Rattle.subtype_laws.specs.Reached.{Among}
use Rattle.typing_rules.specs.AbstractSyntax.{Declarations, Program}
use Rattle.typing_rules.specs.Definitions.{Definitions}
use Rattle.typing_rules.specs.Expressions.{JudgeOrder, JudgeBodies}
use Rattle.typing_rules.specs.Gathered.{gathered}
use Rattle.typing_rules.specs.Judgements.{Judgement, Gives, MeetsEach}
use Rattle.typing_rules.specs.Lists.{Listed}
use Rattle.typing_rules.specs.Programs.{JudgeFieldsOf, basics, first_context, made_program, own_types}
use Rattle.typing_rules.specs.Terms.{Term}
use Rattle.typing_rules.specs.TypedTrees.{Note}
use Rattle.desugaring_laws.specs.Yields.{Yields}
use Rattle.desugaring_laws.proofs.Yielding.{part}

-- what the fields are judged to be
abbrev pub list_of_fields : Program ℕ → Judgement (Term × Declarations Note)
list_of_fields program =
    Listed (gathered program) (first_context program) program.fields
    (λ known. JudgeOrder (gathered program) known 0 false program.fields None None) (λ known made. JudgeBodies (gathered program) known program.fields made)

module _ (terms : List Term) where
  abbrev pub AreThere : List Term → Type 0
  AreThere us = Each (λ u. Among u terms) us

  meets_each : {A : Type 0} (defs : Definitions) (us : List Term) (j : Judgement A) (P : A → Type 0) → (AreThere us → Yields defs terms j P) → Yields defs terms (MeetsEach us j) P
  meets_each defs [] j P f = f tt
  meets_each defs (u ∷ us) j P f = λ m. meets_each defs us j P (λ h. f (m, h))

  pub of_fields : (program : Program ℕ) (Q : Term × Declarations Note → Type 0) (P : Program Note → Type 0) → (AreThere basics → Yields (gathered program) terms (list_of_fields program) Q)
      → ((q : Term × Declarations Note) → Q q → AreThere basics → AreThere (own_types program) → P (made_program program q.1)) → Yields (gathered program) terms (JudgeFieldsOf program) P
  of_fields program Q P f g =
      let defs = gathered program in
      let behind : (Term × Declarations Note → Judgement (Program Note)) = λ q. MeetsEach (own_types program) (Gives (made_program program q.1)) in
      λ units flags naturals.
      let there : AreThere basics = (units, (flags, (naturals, tt))) in
      part defs terms (list_of_fields program) behind Q P (f there) (λ q y. meets_each defs (own_types program) (Gives (made_program program q.1)) P (λ own. g q y there own))
