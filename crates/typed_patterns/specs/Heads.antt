-- What patterns ask of the head of a type, by the definitions as a table has them.
use Rattle.std.specs.Prelude.{◌≡◌, ℕ, Bool, List, [], Option, Some, None, is_some, not, map}
use Rattle.mo_syntax.specs.declared.literal.Literal as syntax
use Rattle.mo_types.specs.declared.node.Node.{Node}
use Rattle.mo_types.specs.declared.node.TypeId.{TypeId}
use Rattle.mo_types.specs.declared.node.Field.{Field}
use Rattle.mo_types.specs.Heads.{opt_of, tuple_of, object_of, variant_of}
use Rattle.mo_types.specs.Sub.{Each, find}
use Rattle.type_terms.specs.declared.form.Form.{Form}
use Rattle.type_terms.specs.declared.form.TermId.{TermId}
use Rattle.typing_rules.specs.declared.condition.Condition.TheVariants as condition
use Rattle.typing_rules.specs.AbstractSyntax.{Bytes, Named}
use Rattle.typing_rules.specs.Graphs.{term_of}
use Rattle.typing_rules.specs.Terms.{Term}
use Rattle.typing_rules.specs.Heads.{head}
use Rattle.typing_rules.specs.Judgements.{Judgement, Gives, Given, Tests, Fine}
use Rattle.typing_rules.specs.Patterns.{LiteralStands, is_empty}
use Rattle.typing_rules.specs.Spans.{literal_of}
use Rattle.type_definitions.specs.Definitions.{Listed, rules_in}
use Rattle.type_definitions.specs.Meanings.{term}
use Rattle.met_types.specs.Closing.{terms_in}
use Rattle.met_types.specs.States.{State, IsReached}
use Rattle.proper_types.specs.Rules.{Rule}

-- the head of a type
abbrev pub head_in : TermId → Listed → List Form → Node Term
head_in id l later = head (rules_in later l) (term later id)

abbrev pub OptionPart : ℕ → Node Term → Judgement Term
OptionPart at y = Given condition.PatternType at (opt_of y) (λ u. Gives u)

abbrev pub TagPart : ℕ → Bytes → Node Term → Judgement Term
TagPart at x y = Given condition.PatternType at (variant_of y) (λ tags. Given condition.PatternType at (find x tags) (λ f. Gives f.part))

abbrev pub UnitOn : ℕ → Node Term → Judgement (Unit {0})
UnitOn at y = Given condition.PatternType at (tuple_of y) (λ parts. Tests condition.PatternType at (is_empty parts) Fine)

abbrev pub TupleParts : ℕ → Node Term → Judgement (List Term)
TupleParts at y = Given condition.PatternType at (tuple_of y) (λ us. Gives us)

abbrev pub or_no_fields : {A : Type 0} → Option (List (Field A)) → List (Field A)
or_no_fields None = []
or_no_fields (Some fs) = fs

-- the fields of an object type
abbrev pub fields_of : {A : Type 0} → Node A → List (Field A)
fields_of y = or_no_fields (object_of y)

abbrev pub FieldPart : Named → Node Term → Judgement Term
FieldPart x y = Given condition.PatternType x.at (find x.bytes (fields_of y)) (λ f. Tests condition.PatternType x.at (not f.mutable) (Gives f.part))

-- these terms are types of the graph, those of these numbers
pub record AreIn (s : State) (ts : List TypeId) (made : List TermId) : Type 0 where
  pub reached : Each (IsReached s) made
  pub terms : (later : List Form) → map (term later) made ≡ map (term_of (terms_in later s.reached)) ts

-- ---- of a type of the table

abbrev pub option_part : ℕ → TermId → Rule Term
option_part at id l later = OptionPart at (head_in id l later)

abbrev pub tag_part : ℕ → TermId → Bytes → Rule Term
tag_part at id x l later = TagPart at x (head_in id l later)

abbrev pub unit_on : ℕ → TermId → Rule (Unit {0})
unit_on at id l later = UnitOn at (head_in id l later)

abbrev pub tuple_parts : ℕ → TermId → Rule (List Term)
tuple_parts at id l later = TupleParts at (head_in id l later)

abbrev pub is_object : ℕ → TermId → Rule (Unit {0})
is_object at id l later = Tests condition.PatternType at (is_some (object_of (head_in id l later))) Fine

abbrev pub field_part : TermId → Named → Rule Term
field_part id x l later = FieldPart x (head_in id l later)

abbrev pub literal_on : ℕ → Bool → syntax.Literal → TermId → Rule (Unit {0})
literal_on at minus literal id l later = LiteralStands at minus (literal_of literal) (head_in id l later)
