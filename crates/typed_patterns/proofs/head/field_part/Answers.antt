use Rattle.std.proofs.Common.{◌∙◌, ℕ, List, ap}
use Rattle.mo_types.specs.Sub.{find}
use Rattle.abstract_types.specs.TypeView.{named}
use Rattle.typed_patterns.proofs.Parts.{no_field, no_fields, some_field, var_field}
use Rattle.typed_patterns.proofs.head.field_part.Goals as goal

pub returns-then-field-clause-judged : goal.returns-then-field-clause-judged
returns-then-field-clause-judged c =
    var_field c.args.types.now c.args.kind c.in_ok-head.head.now c.in_ok-head.ensures (named c.args.name.now) c.in-Some.fields.now c.in-Some.ensures c.in-Some-field_of.field.now
    (c.in-Some-field_of.ensures ∙ ap (λ (l : List ℕ). find l c.in-Some.fields.now) c.as_slice.ensures) c.if-field.true

pub returns-in_ok-term_of-in-Some-field_of-clause-judged : goal.returns-in_ok-term_of-in-Some-field_of-clause-judged
returns-in_ok-term_of-in-Some-field_of-clause-judged c =
    some_field c.args.types.now c.args.kind c.in_ok-head.head.now c.in_ok-head.ensures (named c.args.name.now) c.in-Some.fields.now c.in-Some.ensures c.in-Some-field_of.field.now
    (c.in-Some-field_of.ensures ∙ ap (λ (l : List ℕ). find l c.in-Some.fields.now) c.as_slice.ensures) c.in_ok-term_of-in-Some-field_of.field-0 c.if-field.false c.in_ok-term_of-in-Some-field_of.ensures

pub returns-in-None-field_of-clause-judged : goal.returns-in-None-field_of-clause-judged
returns-in-None-field_of-clause-judged c =
    no_field c.args.types.now c.args.kind c.in_ok-head.head.now c.in_ok-head.ensures (named c.args.name.now) c.in-Some.fields.now c.in-Some.ensures
    (c.in-None-field_of.ensures ∙ ap (λ (l : List ℕ). find l c.in-Some.fields.now) c.as_slice.ensures)

pub returns-in-None-clause-judged : goal.returns-in-None-clause-judged
returns-in-None-clause-judged c = no_fields c.args.types.now c.args.kind c.in_ok-head.head.now c.in_ok-head.ensures (named c.args.name.now) c.in-None.ensures
