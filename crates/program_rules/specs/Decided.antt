-- What the judging of a program comes to.
use Rattle.std.specs.Prelude.{◌≡◌, ℕ, true, false, List, [], Result, Ok, Err, nat_le}
use Rattle.typing_rules.specs.declared.condition.Condition.TheVariants as condition
use Rattle.typing_rules.specs.AbstractSyntax.{Program}
use Rattle.typing_rules.specs.Answers.{answer, fault, Comes}
use Rattle.typing_rules.specs.Gathered.{gathered}
use Rattle.typing_rules.specs.Nodes.{nodes}
use Rattle.typing_rules.specs.Programs.{Checks, JudgeProgram}
use Rattle.typing_rules.specs.Terms.{Term}
use Rattle.typing_rules.specs.TypedTrees.{Note}
use Rattle.type_definitions.specs.Definitions.{rules_in}
use Rattle.met_types.specs.States.{State, Stands}
use Rattle.type_judgements.specs.declared.refusal.Refusal.{Refusal}
use Rattle.type_judgements.specs.declared.refusal.Refusal.TheVariants as refusal
use Rattle.abstract_tree.specs.declared.program.Program as value
use Rattle.abstract_tree.specs.TreeView.{plain_program, program}
use Rattle.value_scopes.specs.Values.{noted}
use Rattle.program_fields.specs.Fields.{in_program}
use Rattle.program_rules.specs.declared.programs.TypedFields.{TypedFields}
use Rattle.program_rules.specs.declared.programs.TypedProgram.{TypedProgram}

-- whether the nodes are few
abbrev pub FewNodes : value.Program ℕ → Result (Unit {0}) Refusal → Type 0
FewNodes x (Ok one) = nat_le (nodes (plain_program x)) 50000 ≡ true
FewNodes x (Err (refusal.False place c)) = (nat_le (nodes (plain_program x)) 50000 ≡ false) × (place ≡ 0) × (c ≡ condition.TooManyNodes)
FewNodes x (Err refusal.Memory) = Unit {0}

-- ---- the program

-- the program with the types at its nodes, as it is seen in its table of types
abbrev pub program_in : TypedProgram → Program Note
program_in made = program (noted made.types.forms) made.program

abbrev pub fields_in : value.Program ℕ → TypedFields → Program Note
fields_in x made = in_program x made.fields made.types.forms

-- The program is typed so by the definitions of these types, whose graph has those that were met.
pub record TypedIn (p : Program ℕ) (s : State) (made : Program Note) : Type 0 where
  pub met : List Term
  pub comes : Comes (gathered p) (JudgeProgram p) [] (answer (Ok made) met)
  pub stands : Stands met s
  pub definitions : rules_in s.forms s.listed ≡ gathered p

module _ {M : Type 0} (x : value.Program ℕ) (seen : M → Program Note) where
  -- It is typed so, or this is the first condition that is false.
  abbrev pub Answered : Result M Refusal → Type 0
  Answered (Ok made) = Checks (plain_program x) (Ok (seen made))
  Answered (Err (refusal.False place c)) = Checks (plain_program x) (Err (fault c place))
  Answered (Err refusal.Memory) = Unit {0}

abbrev pub FieldsDecided : value.Program ℕ → Result TypedFields Refusal → Type 0
FieldsDecided x = Answered x (fields_in x)

abbrev pub Decided : value.Program ℕ → Result TypedProgram Refusal → Type 0
Decided x = Answered x program_in
