-- What a function that judges a pattern does: what its judgement comes to, what becomes of the types, and which names are bound.
use Rattle.std.specs.Prelude.{◌≡◌, ℕ, List, ◌++◌, Result, Ok, Err, map}
use Rattle.mo_types.specs.Sub.{Each}
use Rattle.type_terms.specs.declared.form.Form.{Form}
use Rattle.type_terms.specs.declared.form.TermId.{TermId}
use Rattle.typing_rules.specs.declared.condition.Condition.TheVariants as condition
use Rattle.typing_rules.specs.AbstractSyntax.{Bytes, Pattern, Patterns, PatternFields}
use Rattle.typing_rules.specs.AbstractSyntax as p
use Rattle.typing_rules.specs.Answers.{fault}
use Rattle.typing_rules.specs.Contexts.{Scope}
use Rattle.typing_rules.specs.Judgements.{Gives, Part, Tests}
use Rattle.typing_rules.specs.Patterns.{EachStands, FieldsStand, Stands, is_empty}
use Rattle.typing_rules.specs.TypedTrees.{Note}
use Rattle.typing_rules.specs.TypeScopes.{TypeScope}
use Rattle.type_definitions.specs.Definitions.{rules_in}
use Rattle.type_definitions.specs.Meanings.{term}
use Rattle.met_types.specs.States.{State, IsReached}
use Rattle.shareable_types.specs.declared.sharing.Sharing.{Sharing}
use Rattle.abstract_types.specs.declared.patterns.Pattern as value
use Rattle.abstract_types.specs.declared.patterns.PatternField.{PatternField}
use Rattle.abstract_types.specs.PatternView.{FieldView, fields, listed, pattern_field}
use Rattle.type_judgements.specs.declared.refusal.Refusal.{Refusal}
use Rattle.type_judgements.specs.declared.refusal.Refusal.TheVariants as refusal
use Rattle.value_scopes.specs.declared.bound.Bound.{Bound}
use Rattle.value_scopes.specs.declared.note.Note as value_note
use Rattle.value_scopes.specs.Values.{noted, scope_in}
use Rattle.proper_types.specs.Passing.{Passed, Refused}
use Rattle.proper_types.specs.Rules.{Rule}
use Rattle.typed_patterns.specs.Heads.{fields_of, head_in}
use Rattle.typed_patterns.specs.Making.{pattern_in}

-- names with what they stand for, the innermost first
abbrev pub Names : Type 0
Names = List (Bytes × Bound)

-- the names that are bound, and what is given
abbrev pub bind : {X : Type 0} → Names → (List Form → X) → List Form → Scope × X
bind more x later = (scope_in later more, x later)

module _ {X : Type 0} (j : Rule (Scope × X)) (old new : State) (sharing : Sharing) (before after : Names) where
  -- The judgement gave this. The names that it binds stand before the others, and their types are met.
  pub record Binds (x : List Form → X) : Type 0 where
    pub more : Names
    pub names : after ≡ more ++ before
    pub reached : Each (λ q. IsReached new q.1.kind) more
    pub passed : Passed (j old.listed) old new sharing (bind more x)

  abbrev pub Pushes : {M : Type 0} → (M → List Form → X) → Result M Refusal → Type 0
  Pushes see (Ok made) = Binds (see made)
  Pushes see (Err (refusal.False place c)) = Refused (j old.listed) old new (fault c place)
  Pushes see (Err refusal.Memory) = Unit {0}

-- ---- what is given, as it is seen in a table

abbrev pub patterns_in : List (value.Pattern value_note.Note) → List Form → Patterns Note
patterns_in made later = listed (map (λ q. pattern_in q later) made)

abbrev pub field_in : PatternField value_note.Note → List Form → PatternFields Note
field_in made later = pattern_field (noted later) made p.NoFields

abbrev pub fields_in : List (PatternField value_note.Note) → List Form → PatternFields Note
fields_in made later = fields (map (pattern_field (noted later)) made)

-- ---- judgements, by the definitions as a table has them

abbrev pub stands : TypeScope → Pattern ℕ → TermId → Rule (Scope × Pattern Note)
stands s q id l later = Stands (rules_in later l) s q (term later id)

-- the pattern stands, and binds nothing
abbrev pub silent : TypeScope → ℕ → Pattern ℕ → TermId → Rule (Pattern Note)
silent s at q id l later = Part (stands s q id l later) (λ b. Tests condition.PatternType at (is_empty b.0) (Gives b.1))

abbrev pub each_stands : TypeScope → ℕ → List (Pattern ℕ) → List TermId → Rule (Scope × Patterns Note)
each_stands s at qs ids l later = EachStands (rules_in later l) s at (listed qs) (map (term later) ids)

abbrev pub fields_stand : TypeScope → List (FieldView ℕ) → TermId → Rule (Scope × PatternFields Note)
fields_stand s fs id l later = FieldsStand (rules_in later l) s (fields fs) (fields_of (head_in id l later))
