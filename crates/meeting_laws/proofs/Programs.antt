-- Whole programs: their definitions are proper, and so are the types that are met.
use Rattle.std.proofs.Common.{ℕ, false, List, [], ◌∷◌, Option, Some, None, refl}
use Rattle.std.specs.Prelude.{map, nat_le}
use Rattle.mo_types.specs.Sub.{Each}
use Rattle.typing_rules.specs.declared.condition.Condition.TheVariants as condition
use Rattle.typing_rules.specs.AbstractSyntax.{Bytes, Program}
use Rattle.typing_rules.specs.Contexts.{with_values, with_types}
use Rattle.typing_rules.specs.DeclaredTypes.{with_list}
use Rattle.typing_rules.specs.Definitions.{Definitions}
use Rattle.typing_rules.specs.Expressions.{JudgeOrder, JudgeBodies}
use Rattle.typing_rules.specs.Gathered.{gathered}
use Rattle.typing_rules.specs.Judgements.{Gives}
use Rattle.typing_rules.specs.Lists.{Listed}
use Rattle.typing_rules.specs.Nodes.{nodes}
use Rattle.typing_rules.specs.Programs.{actor_type, own_name, own_types, basics, first_context, made_program, JudgeFieldsOf, JudgeProgram}
use Rattle.typing_rules.specs.Terms.{Term, nat, unit}
use Rattle.typing_rules.specs.Terms as t
use Rattle.typing_rules.specs.TypeScopes.{no_types}
use Rattle.proper_laws.specs.Proper.{IsMet}
use Rattle.proper_laws.proofs.Meeting.{meets_each, tests, comes_of}
use Rattle.proper_laws.proofs.Reached.{lawful_reached}
use Rattle.meeting_laws.specs.Laws.{TypesOfProgramsAreLawful}
use Rattle.meeting_laws.specs.Source.{IsProgramSource}
use Rattle.meeting_laws.proofs.Basics.{Whole, Known, Plain, Meeting, IsScopeFine, after, known}
use Rattle.meeting_laws.proofs.Judging.{bound_around, order, bodies}
use Rattle.meeting_laws.proofs.Listing.{HasListed, actor_proper, listed}
use Rattle.meeting_laws.proofs.Signing.{AreSigned}
use Rattle.meeting_laws.proofs.Wanting.{unit_plain}

module _ (defs : Definitions) where
  own_fine : (o : Option Bytes) (u : Term) → Plain defs u → IsScopeFine defs (own_name o u)
  own_fine None u h = tt
  own_fine (Some x) u h = ((known defs u h, λ e. cc), tt)

  own_known : (o : Option Bytes) (u : Term) → Plain defs u → Each (Known defs) (map (λ z. z.1.type) (own_name o u))
  own_known None u h = tt
  own_known (Some x) u h = (known defs u h, tt)

  flag_plain : Plain defs t.Boolean
  flag_plain w = tt

  number_plain : Plain defs nat
  number_plain w = tt

  each_met : (met : List Term) → Each (Known defs) met → Whole defs → Each (IsMet defs) met
  each_met [] h w = tt
  each_met (u ∷ us) h w = (h.0 w, each_met us h.1 w)

module _ (program : Program ℕ) (s : IsProgramSource program) where
  fields_judged : Meeting (gathered program) (JudgeFieldsOf program) (λ made. Whole (gathered program))
  fields_judged =
      let defs = gathered program in
      let proper : (AreSigned defs (with_list no_types program.fields) program.fields → Plain defs (actor_type program)) =
      λ signed. λ w. actor_proper defs (with_list no_types program.fields) program.fields s.labels s.names signed in
      meets_each defs (Known defs) basics _ (λ made. Whole defs) (known defs unit (unit_plain defs), (known defs t.Boolean (flag_plain defs), (known defs nat (number_plain defs), tt)))
      (after defs
      (Listed defs (first_context program) program.fields (λ known. JudgeOrder defs known 0 false program.fields None None) (λ known made. JudgeBodies defs known program.fields made))
      _ (HasListed defs (with_list no_types program.fields) program.fields) (λ made. Whole defs)
      (listed defs (first_context program) program.fields s.fields
      (λ signed. (own_fine defs program.name (actor_type program) (proper signed), tt, tt))
      (λ known. JudgeOrder defs known 0 false program.fields None None) (λ known made. JudgeBodies defs known program.fields made)
      (λ names n c.
      order defs (with_values names (with_types (with_list no_types program.fields) (first_context program))) (bound_around defs names (with_types (with_list no_types program.fields) (first_context program)) n c) refl 0 false
      program.fields s.fields None None tt tt)
      (λ known made g i. bodies defs known g program.fields s.fields i made))
      (λ q m.
      meets_each defs (Known defs) (own_types program) (Gives (made_program program q.1)) (λ made. Whole defs) (own_known defs program.name (actor_type program) (proper m.3)) m.1))

  program_judged : Meeting (gathered program) (JudgeProgram program) (λ made. Whole (gathered program))
  program_judged = tests (gathered program) (Known (gathered program)) condition.TooManyNodes 0 (nat_le (nodes program) 50000) (JudgeFieldsOf program) (λ made. Whole (gathered program)) (λ e. fields_judged)

pub program_lawful : TypesOfProgramsAreLawful
program_lawful program s made c =
    let defs = gathered program in
    let r = comes_of defs (Known defs) (JudgeProgram program) (λ z. Whole defs) made [] c.met c.by tt (program_judged program s) in
    lawful_reached defs r.0 c.met (each_met defs c.met r.1 r.0)
