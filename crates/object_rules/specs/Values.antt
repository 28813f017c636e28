-- The values of fields, as the rules judge them, and what the fields of an object become.
use Rattle.std.specs.Prelude.{ℕ, List, Option, None, Some, map}
use Rattle.mo_types.specs.declared.node.Field.{Field}
use Rattle.mo_types.specs.Sub.{Each}
use Rattle.mo_subtype.specs.Renamed.{on_field}
use Rattle.type_terms.specs.declared.form.Form.{Form}
use Rattle.type_terms.specs.declared.form.TermId.{TermId}
use Rattle.typing_rules.specs.declared.condition.Condition.TheVariants as condition
use Rattle.typing_rules.specs.AbstractSyntax.{ObjectFields}
use Rattle.typing_rules.specs.AbstractSyntax as p
use Rattle.typing_rules.specs.Expressions.{JudgeFields, field_questions, same}
use Rattle.typing_rules.specs.Judgements.{Judgement, Case, Gives, NeedsEach, Part, Tests}
use Rattle.typing_rules.specs.Terms.{Fields, Term}
use Rattle.typing_rules.specs.TypedTrees.{Note, Typed, declared_type, field_types}
use Rattle.type_definitions.specs.Meanings.{term, unlisted_fields}
use Rattle.met_types.specs.States.{State, IsReached}
use Rattle.type_scopes.specs.Scopes.{seen}
use Rattle.abstract_types.specs.declared.types.TypeNode.{TypeNode}
use Rattle.abstract_types.specs.TypeView.{annotation}
use Rattle.abstract_tree.specs.declared.expressions.ObjectField.{ObjectField}
use Rattle.abstract_tree.specs.TreeView.{fields, object_field, plain, plain_field}
use Rattle.value_scopes.specs.declared.note.Note as value_note
use Rattle.value_scopes.specs.declared.place.Place.{Place}
use Rattle.value_scopes.specs.Values.{noted}
use Rattle.judging.specs.Views.{View, context, definitions, judge_at, typed_in}
use Rattle.scope_judging.specs.Rules.{reads}
use Rattle.object_rules.specs.declared.fields.MadeFields.{MadeFields}
use Rattle.object_rules.specs.declared.values.FieldValue.{FieldValue}

-- ---- the value of one field

module _ (y : Place) (x : ObjectField ℕ) where
  -- where the type of the field is written
  abbrev pub written_value : p.TypeNode → View → Judgement Typed
  written_value n v = Part (reads n v) (λ u. judge_at y (plain x.value) (Some u) v)

  -- where it fits a field of this type besides
  abbrev pub fitting_value : p.TypeNode → Term → View → Judgement Typed
  fitting_value n w v = Part (reads n v) (λ u. NeedsEach condition.Mismatch x.name.at (field_questions x.mutable u w) (judge_at y (plain x.value) (Some u) v))

  -- where no field of its name is wanted
  abbrev pub own_value : Option TypeNode → View → Judgement Typed
  own_value o v = Case (annotation o) (λ n. written_value n v) (λ _. judge_at y (plain x.value) None v)

  -- where this field is wanted
  abbrev pub wanted_value : Option TypeNode → Field Term → View → Judgement Typed
  wanted_value o f v = Tests condition.Mismatch x.name.at (same x.mutable f.mutable) (Case (annotation o) (λ n. fitting_value n f.part v) (λ _. judge_at y (plain x.value) (Some f.part) v))

  -- where these fields are wanted
  abbrev pub value_among : Option (Field Term) → View → Judgement Typed
  value_among o v = Case o (λ f. wanted_value x.annotation f v) (λ _. own_value x.annotation v)

-- a value, and then with it the type of its field: the one that is written, or the value's own
abbrev pub with_type : Option TypeNode → (View → Judgement Typed) → View → Judgement (Typed × Term)
with_type o j v = Part (j v) (λ b. Gives (b, declared_type (seen v.scopes.types) (annotation o) b))

abbrev pub value_in : FieldValue → List Form → Typed × Term
value_in made later = (typed_in made.value later, term later made.kind)

abbrev pub value_reached : State → FieldValue → Type 0
value_reached s made = IsReached s made.kind

-- ---- all fields

-- the fields that are wanted
abbrev pub wants : List (Field TermId) → List Form → List (Field Term)
wants ws later = map (on_field (term later)) ws

abbrev pub judge_fields : Place → List (ObjectField ℕ) → List (Field TermId) → View → Judgement (ObjectFields Note)
judge_fields y xs ws v = JudgeFields (definitions v) (context v y) (fields (map plain_field xs)) (wants ws v.later)

-- the fields, and then with them their types
abbrev pub with_types : Place → List (ObjectField ℕ) → List (Field TermId) → View → Judgement (ObjectFields Note × Fields)
with_types y xs ws v = Part (judge_fields y xs ws v) (λ fs. Gives (fs, field_types (seen v.scopes.types) fs))

abbrev pub fields_in : List (ObjectField value_note.Note) → List Form → ObjectFields Note
fields_in made later = fields (map (object_field (noted later)) made)

abbrev pub kinds_in : List (Field TermId) → List Form → Fields
kinds_in kinds later = unlisted_fields (map (on_field (term later)) kinds)

abbrev pub made_in : MadeFields → List Form → ObjectFields Note × Fields
made_in made later = (fields_in made.fields later, kinds_in made.kinds later)

abbrev pub made_reached : State → MadeFields → Type 0
made_reached s made = Each (λ g. IsReached s g.part) made.kinds
