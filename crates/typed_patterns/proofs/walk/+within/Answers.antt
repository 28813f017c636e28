use Rattle.std.proofs.Common.{◌+◌, ◌∙◌, ℕ, [], ◌∷◌, List, Ok, Err, ap, arith, drop, map, rules, subst, sym, take}
use Rattle.definition_rules.proofs.Adding.{take_all}
use Rattle.typing_rules.specs.declared.condition.Condition.TheVariants as condition
use Rattle.typing_rules.specs.AbstractSyntax as p
use Rattle.met_types.specs.States.{IsReached}
use Rattle.type_judgements.specs.declared.refusal.Refusal.TheVariants as refusal
use Rattle.type_judgements.specs.Judged.{Judged}
use Rattle.abstract_types.specs.declared.patterns.Pattern.{Pattern}
use Rattle.abstract_types.specs.declared.patterns.PatternField.{PatternField}
use Rattle.abstract_types.specs.PatternView.{fields, listed, plain, plain_field}
use Rattle.abstract_types.specs.TypeView.{type_node}
use Rattle.type_scopes.specs.Scopes.{seen}
use Rattle.proper_types.specs.Rules.{as_term, as_terms}
use Rattle.proper_types.proofs.Judging.{handed}
use Rattle.proper_types.proofs.Readings.{reached_on}
use Rattle.proper_types.proofs.Turns.{around}
use Rattle.value_scopes.specs.declared.note.Note.{Note}
use Rattle.typed_patterns.specs.Binding.{Binds, each_stands, field_in, fields_in, fields_stand, patterns_in, silent, stands}
use Rattle.typed_patterns.specs.Heads.{option_part, tag_part}
use Rattle.typed_patterns.specs.Making.{pattern_in}
use Rattle.typed_patterns.proofs.Arms.{alternative_arm, annotated_arm, constant_arm, object_arm, optional_arm, tag_arm, tagged_arm, tuple_arm, variable_arm, wildcard_arm}
use Rattle.typed_patterns.proofs.Forms.{alternative_seen, object_seen, optional_seen, tuple_seen, wildcard_seen}
use Rattle.typed_patterns.proofs.Joining.{handed_on, still, still_refused}
use Rattle.typed_patterns.proofs.Several.{all_stand, all_stood, few_stop, field_refused, field_stands, fields_refused, item_more, item_there, each_at, taken_alike, no_fields_stand, many_stop, more_fields, next_stands, no_field_stands, no_object_stands, no_tuple_stands, none_stand, object_refused, object_stands, stands_stop, then_fields, tuple_refused, tuple_stands}
use Rattle.typed_patterns.proofs.Standing.{alternatives, annotated_is, annotation, annotation_above, annotation_improper, annotation_passed, around_made, around_refused, first_refused, inner_refused, not_silent, nothing_bound, option_is, other_refused, silent_passed, silent_refused, tagged_is, wildcard_stands, with_annotation, with_option, with_tag}
use Rattle.typed_patterns.proofs.walk.+within.Goals as goal

-- ---- forms

pub stands_within-returns-in-Annotated : goal.stands_within-returns-in-Annotated
stands_within-returns-in-Annotated t c =
    annotated_arm (seen c.args.scope.now) c.args.kind c.args.types.now c.annotated_within.new.types c.annotated_within.new.sharing c.args.names.now c.annotated_within.new.names c.annotated_within.result c.args.pattern.now c.in-Annotated.part c.in-Annotated.written (sym c.get.ensures ∙ c.in-Annotated.is) c.annotated_within.ensures

pub stands_within-returns-in-Alternative : goal.stands_within-returns-in-Alternative
stands_within-returns-in-Alternative t c =
    alternative_arm (seen c.args.scope.now) c.args.kind c.args.types.now c.alternative_within.new.types c.alternative_within.new.sharing c.args.names.now c.alternative_within.new.names c.alternative_within.result c.args.pattern.now c.in-Alternative.first c.in-Alternative.second (sym c.get.ensures ∙ c.in-Alternative.is) c.alternative_within.ensures

pub stands_within-returns-in-Optional : goal.stands_within-returns-in-Optional
stands_within-returns-in-Optional t c =
    optional_arm (seen c.args.scope.now) c.args.kind c.args.types.now c.optional_within.new.types c.optional_within.new.sharing c.args.names.now c.optional_within.new.names c.optional_within.result c.args.pattern.now c.in-Optional.part (sym c.get.ensures ∙ c.in-Optional.is) c.optional_within.ensures

pub stands_within-returns-in-Tag : goal.stands_within-returns-in-Tag
stands_within-returns-in-Tag t c =
    tag_arm (seen c.args.scope.now) c.args.kind c.args.types.now c.args.types.now c.args.sharing.now c.args.names.now c.args.names.now c.tag_stands.result c.args.pattern.now c.in-Tag.name (sym c.get.ensures ∙ c.in-Tag.is) (c.tag_stands.ensures (seen c.args.scope.now))

pub stands_within-returns-in-Tagged : goal.stands_within-returns-in-Tagged
stands_within-returns-in-Tagged t c =
    tagged_arm (seen c.args.scope.now) c.args.kind c.args.types.now c.tagged_within.new.types c.tagged_within.new.sharing c.args.names.now c.tagged_within.new.names c.tagged_within.result c.args.pattern.now c.in-Tagged.name c.in-Tagged.part (sym c.get.ensures ∙ c.in-Tagged.is) c.tagged_within.ensures

pub stands_within-returns-in-Variable : goal.stands_within-returns-in-Variable
stands_within-returns-in-Variable t c =
    variable_arm (seen c.args.scope.now) c.args.kind c.args.types.now c.args.types.now c.args.sharing.now c.args.names.now c.variable_stands.new.names c.variable_stands.result c.args.pattern.now c.in-Variable.name (sym c.get.ensures ∙ c.in-Variable.is) (c.variable_stands.ensures (seen c.args.scope.now))

pub stands_within-returns-in_ok-made-in-Wildcard : goal.stands_within-returns-in_ok-made-in-Wildcard
stands_within-returns-in_ok-made-in-Wildcard t c =
    wildcard_arm (seen c.args.scope.now) c.args.kind c.args.types.now c.args.types.now c.args.sharing.now c.args.names.now c.args.names.now (Ok c.in_ok-made-in-Wildcard.field-0) c.args.pattern.now (sym c.get.ensures ∙ c.in-Wildcard.is)
    (wildcard_stands (seen c.args.scope.now) c.args.pattern.now.note c.args.kind c.args.types.now c.args.sharing.now c.args.names.now c.requires.ready (pattern_in c.in_ok-made-in-Wildcard.field-0) (wildcard_seen (record { at = c.args.pattern.now.note; kind = c.args.kind }) c.in_ok-made-in-Wildcard.field-0 c.in_ok-made-in-Wildcard.ensures))

pub stands_within-returns-in-Constant : goal.stands_within-returns-in-Constant
stands_within-returns-in-Constant t c =
    constant_arm (seen c.args.scope.now) c.args.kind c.args.types.now c.args.types.now c.args.sharing.now c.args.names.now c.args.names.now c.constant_stands.result c.args.pattern.now c.in-Constant.minus c.in-Constant.literal (sym c.get.ensures ∙ c.in-Constant.is) (c.constant_stands.ensures (seen c.args.scope.now))

pub stands_within-returns-in-Tuple : goal.stands_within-returns-in-Tuple
stands_within-returns-in-Tuple t c =
    tuple_arm (seen c.args.scope.now) c.args.kind c.args.types.now c.tuple_within.new.types c.tuple_within.new.sharing c.args.names.now c.tuple_within.new.names c.tuple_within.result c.args.pattern.now c.in-Tuple.items c.as_slice.result.now (sym c.get.ensures ∙ c.in-Tuple.is) c.as_slice.ensures c.tuple_within.ensures

pub stands_within-returns-in-Object : goal.stands_within-returns-in-Object
stands_within-returns-in-Object t c =
    object_arm (seen c.args.scope.now) c.args.kind c.args.types.now c.object_within.new.types c.object_within.new.sharing c.args.names.now c.object_within.new.names c.object_within.result c.args.pattern.now c.in-Object.fields c.as_slice-in-Object.result.now (sym c.get.ensures ∙ c.in-Object.is) c.as_slice-in-Object.ensures c.object_within.ensures

-- ---- `p : A`

pub annotated_within-needs_below-requires-clause-low : goal.annotated_within-needs_below-requires-clause-low
annotated_within-needs_below-requires-clause-low t c =
    reached_on c.args.types.now c.reads.new.types c.args.note.kind c.in_ok-kind.ensures.judged.goes c.requires.reached

pub annotated_within-returns-in_err-kind : goal.annotated_within-returns-in_err-kind
annotated_within-returns-in_err-kind t c =
    handed_on (stands (seen c.args.scope.now) (p.pattern c.args.note.at (p.Annotated (plain c.args.part.now) (type_node c.args.written.now))) c.args.note.kind) c.args.types.now c.reads.new.types c.reads.new.sharing c.args.names.now c.args.names.now pattern_in c.in_err-kind.field-0.0 c.from_residual.result c.from_residual.ensures
    (around_refused (seen c.args.scope.now) (plain c.args.part.now) (annotation (seen c.args.scope.now) (plain c.args.part.now) c.args.note.at c.args.note.kind (type_node c.args.written.now)) (with_annotation (seen c.args.scope.now) (plain c.args.part.now) c.args.note.at c.args.note.kind (type_node c.args.written.now)) (stands (seen c.args.scope.now) (p.pattern c.args.note.at (p.Annotated (plain c.args.part.now) (type_node c.args.written.now))) c.args.note.kind) (annotated_is (seen c.args.scope.now) (plain c.args.part.now) c.args.note.at c.args.note.kind (type_node c.args.written.now)) c.args.types.now c.reads.new.types c.reads.new.sharing c.reads.new.sharing c.args.names.now c.args.names.now as_term pattern_in c.in_err-kind.field-0.0
    (annotation_improper (seen c.args.scope.now) (plain c.args.part.now) c.args.note.at c.args.note.kind (type_node c.args.written.now) c.args.types.now c.reads.new.types c.reads.new.sharing c.reads.new.sharing c.in_err-kind.field-0.0 c.in_err-kind.ensures.judged))

pub annotated_within-returns-in_err-needs_below : goal.annotated_within-returns-in_err-needs_below
annotated_within-returns-in_err-needs_below t c =
    handed_on (stands (seen c.args.scope.now) (p.pattern c.args.note.at (p.Annotated (plain c.args.part.now) (type_node c.args.written.now))) c.args.note.kind) c.args.types.now c.reads.new.types c.reads.new.sharing c.args.names.now c.args.names.now pattern_in c.in_err-needs_below.field-0.0 c.from_residual-in_err-needs_below.result c.from_residual-in_err-needs_below.ensures
    (around_refused (seen c.args.scope.now) (plain c.args.part.now) (annotation (seen c.args.scope.now) (plain c.args.part.now) c.args.note.at c.args.note.kind (type_node c.args.written.now)) (with_annotation (seen c.args.scope.now) (plain c.args.part.now) c.args.note.at c.args.note.kind (type_node c.args.written.now)) (stands (seen c.args.scope.now) (p.pattern c.args.note.at (p.Annotated (plain c.args.part.now) (type_node c.args.written.now))) c.args.note.kind) (annotated_is (seen c.args.scope.now) (plain c.args.part.now) c.args.note.at c.args.note.kind (type_node c.args.written.now)) c.args.types.now c.reads.new.types c.reads.new.sharing c.reads.new.sharing c.args.names.now c.args.names.now as_term pattern_in c.in_err-needs_below.field-0.0
    (annotation_above (seen c.args.scope.now) (plain c.args.part.now) c.args.note.at c.args.note.kind (type_node c.args.written.now) c.in_ok-kind.kind c.args.types.now c.reads.new.types c.reads.new.sharing c.in_ok-kind.ensures.judged c.in_err-needs_below.field-0.0 c.in_err-needs_below.ensures))

pub annotated_within-returns-in_err-part : goal.annotated_within-returns-in_err-part
annotated_within-returns-in_err-part t c =
    handed_on (stands (seen c.args.scope.now) (p.pattern c.args.note.at (p.Annotated (plain c.args.part.now) (type_node c.args.written.now))) c.args.note.kind) c.args.types.now c.stands_within.new.types c.stands_within.new.sharing c.args.names.now c.stands_within.new.names pattern_in c.in_err-part.field-0.0 c.from_residual-in_err-part.result c.from_residual-in_err-part.ensures
    (inner_refused (seen c.args.scope.now) (plain c.args.part.now) (annotation (seen c.args.scope.now) (plain c.args.part.now) c.args.note.at c.args.note.kind (type_node c.args.written.now)) (with_annotation (seen c.args.scope.now) (plain c.args.part.now) c.args.note.at c.args.note.kind (type_node c.args.written.now)) (stands (seen c.args.scope.now) (p.pattern c.args.note.at (p.Annotated (plain c.args.part.now) (type_node c.args.written.now))) c.args.note.kind) (annotated_is (seen c.args.scope.now) (plain c.args.part.now) c.args.note.at c.args.note.kind (type_node c.args.written.now)) c.args.types.now c.reads.new.types c.stands_within.new.types c.reads.new.sharing c.stands_within.new.sharing c.args.names.now c.stands_within.new.names c.in_ok-kind.kind (annotation_passed (seen c.args.scope.now) (plain c.args.part.now) c.args.note.at c.args.note.kind (type_node c.args.written.now) c.in_ok-kind.kind c.args.types.now c.reads.new.types c.reads.new.sharing c.in_ok-kind.ensures.judged c.in_ok-needs_below.ensures) pattern_in pattern_in c.in_err-part.field-0.0 c.in_err-part.ensures)

pub annotated_within-returns : goal.annotated_within-returns
annotated_within-returns t c =
    around_made (seen c.args.scope.now) (plain c.args.part.now) (annotation (seen c.args.scope.now) (plain c.args.part.now) c.args.note.at c.args.note.kind (type_node c.args.written.now)) (with_annotation (seen c.args.scope.now) (plain c.args.part.now) c.args.note.at c.args.note.kind (type_node c.args.written.now)) (stands (seen c.args.scope.now) (p.pattern c.args.note.at (p.Annotated (plain c.args.part.now) (type_node c.args.written.now))) c.args.note.kind) (annotated_is (seen c.args.scope.now) (plain c.args.part.now) c.args.note.at c.args.note.kind (type_node c.args.written.now)) c.args.types.now c.reads.new.types c.stands_within.new.types c.reads.new.sharing c.stands_within.new.sharing c.args.names.now c.stands_within.new.names c.in_ok-kind.kind (annotation_passed (seen c.args.scope.now) (plain c.args.part.now) c.args.note.at c.args.note.kind (type_node c.args.written.now) c.in_ok-kind.kind c.args.types.now c.reads.new.types c.reads.new.sharing c.in_ok-kind.ensures.judged c.in_ok-needs_below.ensures) (pattern_in c.in_ok-part.part) (pattern_in c.in_ok-annotated.field-0) (λ later. sym (c.in_ok-annotated.ensures later)) c.in_ok-part.ensures

-- ---- a pattern that binds nothing

pub silent_within-returns-in_err-made-clause-judged : goal.silent_within-returns-in_err-made-clause-judged
silent_within-returns-in_err-made-clause-judged t c =
    handed (silent (seen c.args.scope.now) c.args.note.at (plain c.args.pattern.now) c.args.note.kind) c.args.types.now c.stands_within.new.types c.stands_within.new.sharing c.stands_within.new.sharing pattern_in pattern_in c.in_err-made.field-0.0 c.from_residual.result c.from_residual.ensures
    (silent_refused (seen c.args.scope.now) c.args.note.at (plain c.args.pattern.now) c.args.note.kind c.args.types.now c.stands_within.new.types c.stands_within.new.sharing c.stands_within.new.sharing c.args.names.now c.stands_within.new.names pattern_in pattern_in c.in_err-made.field-0.0 c.in_err-made.ensures)

pub silent_within-returns-then-len-before-clause-judged : goal.silent_within-returns-then-len-before-clause-judged
silent_within-returns-then-len-before-clause-judged t c =
    silent_passed (seen c.args.scope.now) c.args.note.at (plain c.args.pattern.now) c.args.note.kind c.args.types.now c.stands_within.new.types c.stands_within.new.sharing c.args.names.now c.stands_within.new.names (pattern_in c.in_ok-made.made) c.in_ok-made.ensures (cc)

pub silent_within-returns-then-len-before-clause-names : goal.silent_within-returns-then-len-before-clause-names
silent_within-returns-then-len-before-clause-names t c =
    nothing_bound (seen c.args.scope.now) c.args.note.at (plain c.args.pattern.now) c.args.note.kind c.args.types.now c.stands_within.new.types c.stands_within.new.sharing c.args.names.now c.stands_within.new.names (pattern_in c.in_ok-made.made) c.in_ok-made.ensures (cc)

pub silent_within-returns-else-len-before-clause-judged : goal.silent_within-returns-else-len-before-clause-judged
silent_within-returns-else-len-before-clause-judged t c =
    not_silent (seen c.args.scope.now) c.args.note.at (plain c.args.pattern.now) c.args.note.kind c.args.types.now c.stands_within.new.types c.stands_within.new.sharing c.args.names.now c.stands_within.new.names (pattern_in c.in_ok-made.made) c.in_ok-made.ensures (λ e. omega (arith, e))

-- ---- `p or q`

pub alternative_within-returns-in_err-first : goal.alternative_within-returns-in_err-first
alternative_within-returns-in_err-first t c =
    handed_on (stands (seen c.args.scope.now) (p.pattern c.args.note.at (p.Alternative (plain c.args.first.now) (plain c.args.second.now))) c.args.note.kind) c.args.types.now c.silent_within.new.types c.silent_within.new.sharing c.args.names.now c.silent_within.new.names pattern_in c.in_err-first.field-0.0 c.from_residual.result c.from_residual.ensures
    (first_refused (seen c.args.scope.now) c.args.note.at (plain c.args.first.now) (plain c.args.second.now) c.args.note.kind c.args.types.now c.silent_within.new.types c.silent_within.new.sharing c.silent_within.new.sharing c.args.names.now c.silent_within.new.names pattern_in pattern_in c.in_err-first.field-0.0 c.in_err-first.ensures.judged)

pub alternative_within-returns-in_err-second : goal.alternative_within-returns-in_err-second
alternative_within-returns-in_err-second t c =
    handed_on (stands (seen c.args.scope.now) (p.pattern c.args.note.at (p.Alternative (plain c.args.first.now) (plain c.args.second.now))) c.args.note.kind) c.args.types.now c.silent_within-2.new.types c.silent_within-2.new.sharing c.args.names.now c.silent_within-2.new.names pattern_in c.in_err-second.field-0.0 c.from_residual-in_err-second.result c.from_residual-in_err-second.ensures
    (other_refused (seen c.args.scope.now) c.args.note.at (plain c.args.first.now) (plain c.args.second.now) c.args.note.kind c.args.types.now c.silent_within.new.types c.silent_within-2.new.types c.silent_within.new.sharing c.silent_within-2.new.sharing c.args.names.now c.silent_within-2.new.names (pattern_in c.in_ok-first.first) c.in_ok-first.ensures.judged pattern_in pattern_in c.in_err-second.field-0.0 c.in_err-second.ensures.judged)

pub alternative_within-returns : goal.alternative_within-returns
alternative_within-returns t c =
    alternatives (seen c.args.scope.now) c.args.note.at (plain c.args.first.now) (plain c.args.second.now) c.args.note.kind c.args.types.now c.silent_within.new.types c.silent_within-2.new.types c.silent_within.new.sharing c.silent_within-2.new.sharing c.args.names.now c.silent_within-2.new.names (pattern_in c.in_ok-first.first) c.in_ok-first.ensures.judged (pattern_in c.in_ok-second.second) (pattern_in c.in_ok-made.field-0) (alternative_seen c.args.note c.in_ok-first.first c.in_ok-second.second c.in_ok-made.field-0 c.in_ok-made.ensures)
    (c.in_ok-second.ensures.names ∙ c.in_ok-first.ensures.names) c.in_ok-second.ensures.judged

-- ---- `? p`

pub optional_within-returns-in_err-kind : goal.optional_within-returns-in_err-kind
optional_within-returns-in_err-kind t c =
    handed_on (stands (seen c.args.scope.now) (p.pattern c.args.note.at (p.Optional (plain c.args.part.now))) c.args.note.kind) c.args.types.now c.args.types.now c.args.sharing.now c.args.names.now c.args.names.now pattern_in c.in_err-kind.field-0.0 c.from_residual.result c.from_residual.ensures
    (around_refused (seen c.args.scope.now) (plain c.args.part.now) (option_part c.args.note.at c.args.note.kind) (with_option (seen c.args.scope.now) (plain c.args.part.now) c.args.note.at c.args.note.kind) (stands (seen c.args.scope.now) (p.pattern c.args.note.at (p.Optional (plain c.args.part.now))) c.args.note.kind) (option_is (seen c.args.scope.now) (plain c.args.part.now) c.args.note.at c.args.note.kind) c.args.types.now c.args.types.now c.args.sharing.now c.args.sharing.now c.args.names.now c.args.names.now as_term pattern_in c.in_err-kind.field-0.0 (still_refused (option_part c.args.note.at c.args.note.kind) c.args.types.now c.args.sharing.now as_term c.in_err-kind.field-0.0 c.in_err-kind.ensures.judged))

pub optional_within-returns-in_err-part : goal.optional_within-returns-in_err-part
optional_within-returns-in_err-part t c =
    handed_on (stands (seen c.args.scope.now) (p.pattern c.args.note.at (p.Optional (plain c.args.part.now))) c.args.note.kind) c.args.types.now c.stands_within.new.types c.stands_within.new.sharing c.args.names.now c.stands_within.new.names pattern_in c.in_err-part.field-0.0 c.from_residual-in_err-part.result c.from_residual-in_err-part.ensures
    (inner_refused (seen c.args.scope.now) (plain c.args.part.now) (option_part c.args.note.at c.args.note.kind) (with_option (seen c.args.scope.now) (plain c.args.part.now) c.args.note.at c.args.note.kind) (stands (seen c.args.scope.now) (p.pattern c.args.note.at (p.Optional (plain c.args.part.now))) c.args.note.kind) (option_is (seen c.args.scope.now) (plain c.args.part.now) c.args.note.at c.args.note.kind) c.args.types.now c.args.types.now c.stands_within.new.types c.args.sharing.now c.stands_within.new.sharing c.args.names.now c.stands_within.new.names c.in_ok-kind.kind (still (option_part c.args.note.at c.args.note.kind c.args.types.now.listed) c.args.types.now c.args.sharing.now (as_term c.in_ok-kind.kind) c.requires.ready c.in_ok-kind.ensures.judged) pattern_in pattern_in c.in_err-part.field-0.0 c.in_err-part.ensures)

pub optional_within-returns : goal.optional_within-returns
optional_within-returns t c =
    around_made (seen c.args.scope.now) (plain c.args.part.now) (option_part c.args.note.at c.args.note.kind) (with_option (seen c.args.scope.now) (plain c.args.part.now) c.args.note.at c.args.note.kind) (stands (seen c.args.scope.now) (p.pattern c.args.note.at (p.Optional (plain c.args.part.now))) c.args.note.kind) (option_is (seen c.args.scope.now) (plain c.args.part.now) c.args.note.at c.args.note.kind) c.args.types.now c.args.types.now c.stands_within.new.types c.args.sharing.now c.stands_within.new.sharing c.args.names.now c.stands_within.new.names c.in_ok-kind.kind (still (option_part c.args.note.at c.args.note.kind c.args.types.now.listed) c.args.types.now c.args.sharing.now (as_term c.in_ok-kind.kind) c.requires.ready c.in_ok-kind.ensures.judged) (pattern_in c.in_ok-part.part) (pattern_in c.in_ok-made.field-0) (optional_seen c.args.note c.in_ok-part.part c.in_ok-made.field-0 c.in_ok-made.ensures) c.in_ok-part.ensures

-- ---- `#a p`

pub tagged_within-returns-in_err-kind : goal.tagged_within-returns-in_err-kind
tagged_within-returns-in_err-kind t c =
    handed_on (stands (seen c.args.scope.now) (p.pattern c.args.note.at (p.Tagged c.args.name.now (plain c.args.part.now))) c.args.note.kind) c.args.types.now c.args.types.now c.args.sharing.now c.args.names.now c.args.names.now pattern_in c.in_err-kind.field-0.0 c.from_residual.result c.from_residual.ensures
    (around_refused (seen c.args.scope.now) (plain c.args.part.now) (tag_part c.args.note.at c.args.note.kind c.args.name.now) (with_tag (seen c.args.scope.now) (plain c.args.part.now) c.args.note.at c.args.note.kind c.args.name.now) (stands (seen c.args.scope.now) (p.pattern c.args.note.at (p.Tagged c.args.name.now (plain c.args.part.now))) c.args.note.kind) (tagged_is (seen c.args.scope.now) (plain c.args.part.now) c.args.note.at c.args.note.kind c.args.name.now) c.args.types.now c.args.types.now c.args.sharing.now c.args.sharing.now c.args.names.now c.args.names.now as_term pattern_in c.in_err-kind.field-0.0
    (still_refused (tag_part c.args.note.at c.args.note.kind c.args.name.now) c.args.types.now c.args.sharing.now as_term c.in_err-kind.field-0.0 (subst (λ (x : List ℕ). Judged (tag_part c.args.note.at c.args.note.kind x c.args.types.now.listed) c.args.types.now c.args.types.now as_term (Err c.in_err-kind.field-0.0)) c.as_slice.ensures c.in_err-kind.ensures.judged)))

pub tagged_within-returns-in_err-part : goal.tagged_within-returns-in_err-part
tagged_within-returns-in_err-part t c =
    handed_on (stands (seen c.args.scope.now) (p.pattern c.args.note.at (p.Tagged c.args.name.now (plain c.args.part.now))) c.args.note.kind) c.args.types.now c.stands_within.new.types c.stands_within.new.sharing c.args.names.now c.stands_within.new.names pattern_in c.in_err-part.field-0.0 c.from_residual-in_err-part.result c.from_residual-in_err-part.ensures
    (inner_refused (seen c.args.scope.now) (plain c.args.part.now) (tag_part c.args.note.at c.args.note.kind c.args.name.now) (with_tag (seen c.args.scope.now) (plain c.args.part.now) c.args.note.at c.args.note.kind c.args.name.now) (stands (seen c.args.scope.now) (p.pattern c.args.note.at (p.Tagged c.args.name.now (plain c.args.part.now))) c.args.note.kind) (tagged_is (seen c.args.scope.now) (plain c.args.part.now) c.args.note.at c.args.note.kind c.args.name.now) c.args.types.now c.args.types.now c.stands_within.new.types c.args.sharing.now c.stands_within.new.sharing c.args.names.now c.stands_within.new.names c.in_ok-kind.kind
    (still (tag_part c.args.note.at c.args.note.kind c.args.name.now c.args.types.now.listed) c.args.types.now c.args.sharing.now (as_term c.in_ok-kind.kind) c.requires.ready (subst (λ (x : List ℕ). Judged (tag_part c.args.note.at c.args.note.kind x c.args.types.now.listed) c.args.types.now c.args.types.now as_term (Ok c.in_ok-kind.kind)) c.as_slice.ensures c.in_ok-kind.ensures.judged)) pattern_in pattern_in c.in_err-part.field-0.0 c.in_err-part.ensures)

pub tagged_within-returns : goal.tagged_within-returns
tagged_within-returns t c =
    around_made (seen c.args.scope.now) (plain c.args.part.now) (tag_part c.args.note.at c.args.note.kind c.args.name.now) (with_tag (seen c.args.scope.now) (plain c.args.part.now) c.args.note.at c.args.note.kind c.args.name.now) (stands (seen c.args.scope.now) (p.pattern c.args.note.at (p.Tagged c.args.name.now (plain c.args.part.now))) c.args.note.kind) (tagged_is (seen c.args.scope.now) (plain c.args.part.now) c.args.note.at c.args.note.kind c.args.name.now) c.args.types.now c.args.types.now c.stands_within.new.types c.args.sharing.now c.stands_within.new.sharing c.args.names.now c.stands_within.new.names c.in_ok-kind.kind
    (still (tag_part c.args.note.at c.args.note.kind c.args.name.now c.args.types.now.listed) c.args.types.now c.args.sharing.now (as_term c.in_ok-kind.kind) c.requires.ready (subst (λ (x : List ℕ). Judged (tag_part c.args.note.at c.args.note.kind x c.args.types.now.listed) c.args.types.now c.args.types.now as_term (Ok c.in_ok-kind.kind)) c.as_slice.ensures c.in_ok-kind.ensures.judged)) (pattern_in c.in_ok-part.part) (pattern_in c.in_ok-tagged.field-0) (λ later. sym (c.in_ok-tagged.ensures later)) c.in_ok-part.ensures

-- ---- tuples

pub tuple_within-returns-in_err-kinds : goal.tuple_within-returns-in_err-kinds
tuple_within-returns-in_err-kinds t c =
    handed_on (stands (seen c.args.scope.now) (p.pattern c.args.note.at (p.Tuple (listed (map plain c.args.items.now)))) c.args.note.kind) c.args.types.now c.args.types.now c.args.sharing.now c.args.names.now c.args.names.now pattern_in c.in_err-kinds.field-0.0 c.from_residual.result c.from_residual.ensures
    (no_tuple_stands (seen c.args.scope.now) c.args.note.at (map plain c.args.items.now) c.args.note.kind c.args.types.now c.args.sharing.now c.args.names.now as_terms pattern_in c.in_err-kinds.field-0.0 c.in_err-kinds.ensures.judged)

pub tuple_within-loop-i-init : goal.tuple_within-loop-i-init
tuple_within-loop-i-init t c =
    record {
      many = omega arith;
      binds = subst (λ (ms : List (Pattern Note)). Binds (each_stands (seen c.args.scope.now) c.args.note.at [] []) c.args.types.now c.args.types.now c.args.sharing.now c.args.names.now c.args.names.now (patterns_in ms)) (sym c.new-parts.ensures) (none_stand (seen c.args.scope.now) c.args.note.at c.args.types.now c.args.sharing.now c.args.names.now c.requires.ready);
    }

pub tuple_within-loop-i-preserved : goal.tuple_within-loop-i-preserved
tuple_within-loop-i-preserved t c =
    record {
      many = omega arith;
      binds = next_stands (seen c.args.scope.now) c.args.note.at c.args.items.now c.in_ok-kinds.kinds.items c.loop-i.i c.index-items-i.result (item_more c.args.items.now c.loop-i.i c.index-items-i.result c.loop-i-test.true c.index-items-i.is) c.index.result.now (item_more c.in_ok-kinds.kinds.items c.loop-i.i c.index.result.now (omega arith) c.index.ensures) (taken_alike c.args.items.now c.in_ok-kinds.kinds.items c.loop-i.i (omega arith) (omega arith)) c.args.types.now c.loop-i.types c.stands_within.new.types c.loop-i.sharing c.stands_within.new.sharing c.args.names.now c.loop-i.names c.stands_within.new.names c.loop-i.parts c.push.new.self c.in_ok-stands_within.field-0 c.in_ok-push.ensures.ok c.loop-i.invariant.binds c.in_ok-stands_within.ensures;
    }

pub tuple_within-returns-in_err-stands_within : goal.tuple_within-returns-in_err-stands_within
tuple_within-returns-in_err-stands_within t c =
    handed_on (stands (seen c.args.scope.now) (p.pattern c.args.note.at (p.Tuple (listed (map plain c.args.items.now)))) c.args.note.kind) c.args.types.now c.stands_within.new.types c.stands_within.new.sharing c.args.names.now c.stands_within.new.names pattern_in c.in_err-stands_within.field-0.0 c.from_residual-in_err-stands_within.result c.from_residual-in_err-stands_within.ensures
    (tuple_refused (seen c.args.scope.now) c.args.note.at (map plain c.args.items.now) c.args.note.kind c.args.types.now c.args.sharing.now c.in_ok-kinds.kinds.items c.requires.ready c.in_ok-kinds.ensures.judged c.stands_within.new.types c.stands_within.new.sharing c.args.names.now c.stands_within.new.names (λ (u : Unit {0}) later. p.Nil) pattern_in c.in_err-stands_within.field-0.0
    (stands_stop (seen c.args.scope.now) c.args.note.at c.args.items.now c.in_ok-kinds.kinds.items c.loop-i.i c.index-items-i.result (item_more c.args.items.now c.loop-i.i c.index-items-i.result c.loop-i-test.true c.index-items-i.is) c.index.result.now (item_more c.in_ok-kinds.kinds.items c.loop-i.i c.index.result.now (omega arith) c.index.ensures) (taken_alike c.args.items.now c.in_ok-kinds.kinds.items c.loop-i.i (omega arith) (omega arith)) c.args.types.now c.loop-i.types c.stands_within.new.types c.loop-i.sharing c.stands_within.new.sharing c.args.names.now c.loop-i.names c.stands_within.new.names (patterns_in c.loop-i.parts) pattern_in (λ (u : Unit {0}) later. p.Nil) c.in_err-stands_within.field-0.0 c.loop-i.invariant.binds c.in_err-stands_within.ensures))

pub tuple_within-stands_within-requires : goal.tuple_within-stands_within-requires
tuple_within-stands_within-requires t c =
    (search rules, (c.loop-i.invariant.binds.passed.ready, reached_on c.args.types.now c.loop-i.types c.index.result.now c.loop-i.invariant.binds.passed.goes (each_at (IsReached c.args.types.now) c.in_ok-kinds.kinds.items c.loop-i.i c.index.result.now c.in_ok-kinds.ensures.reached (omega arith) c.index.ensures)))

pub tuple_within-returns-then-i-len : goal.tuple_within-returns-then-i-len
tuple_within-returns-then-i-len t c =
    tuple_refused (seen c.args.scope.now) c.args.note.at (map plain c.args.items.now) c.args.note.kind c.args.types.now c.args.sharing.now c.in_ok-kinds.kinds.items c.requires.ready c.in_ok-kinds.ensures.judged c.loop-i.types c.loop-i.sharing c.args.names.now c.loop-i.names (λ (u : Unit {0}) later. p.Nil) pattern_in (refusal.False c.args.note.at condition.PatternType)
    (let q = item_there c.args.items.now c.loop-i.i (omega arith) in
    many_stop (seen c.args.scope.now) c.args.note.at c.args.items.now c.in_ok-kinds.kinds.items c.loop-i.i q.0 q.1 c.args.types.now c.loop-i.types c.loop-i.sharing c.args.names.now c.loop-i.names (patterns_in c.loop-i.parts) (λ (u : Unit {0}) later. p.Nil) (take_all c.in_ok-kinds.kinds.items c.loop-i.i (omega arith)) (taken_alike c.args.items.now c.in_ok-kinds.kinds.items c.loop-i.i (omega arith) (omega arith)) c.loop-i.invariant.binds)

pub tuple_within-returns-then-items-len : goal.tuple_within-returns-then-items-len
tuple_within-returns-then-items-len t c =
    tuple_refused (seen c.args.scope.now) c.args.note.at (map plain c.args.items.now) c.args.note.kind c.args.types.now c.args.sharing.now c.in_ok-kinds.kinds.items c.requires.ready c.in_ok-kinds.ensures.judged c.loop-i.types c.loop-i.sharing c.args.names.now c.loop-i.names (λ (u : Unit {0}) later. p.Nil) pattern_in (refusal.False c.args.note.at condition.PatternType)
    (let k = item_there c.in_ok-kinds.kinds.items c.loop-i.i (omega arith) in
    few_stop (seen c.args.scope.now) c.args.note.at c.args.items.now c.in_ok-kinds.kinds.items c.loop-i.i k.0 c.args.types.now c.loop-i.types c.loop-i.sharing c.args.names.now c.loop-i.names (patterns_in c.loop-i.parts) (λ (u : Unit {0}) later. p.Nil) (take_all c.args.items.now c.loop-i.i (omega arith)) k.1 (taken_alike c.args.items.now c.in_ok-kinds.kinds.items c.loop-i.i (omega arith) (omega arith)) c.loop-i.invariant.binds)

pub tuple_within-returns : goal.tuple_within-returns
tuple_within-returns t c =
    tuple_stands (seen c.args.scope.now) c.args.note.at (map plain c.args.items.now) c.args.note.kind c.args.types.now c.args.sharing.now c.in_ok-kinds.kinds.items c.requires.ready c.in_ok-kinds.ensures.judged c.loop-i.types c.loop-i.sharing c.args.names.now c.loop-i.names (patterns_in c.loop-i.parts) (pattern_in c.in_ok-made.field-0) (tuple_seen c.args.note c.loop-i.parts c.in_ok-made.field-0 c.in_ok-made.ensures)
    (all_stood (seen c.args.scope.now) c.args.note.at c.args.items.now c.in_ok-kinds.kinds.items c.loop-i.i c.args.types.now c.loop-i.types c.loop-i.sharing c.args.names.now c.loop-i.names (patterns_in c.loop-i.parts) (take_all c.args.items.now c.loop-i.i (omega arith)) (take_all c.in_ok-kinds.kinds.items c.loop-i.i (omega arith)) c.loop-i.invariant.binds)

-- ---- fields

pub field_within-returns-in_err-part : goal.field_within-returns-in_err-part
field_within-returns-in_err-part t c =
    handed_on (fields_stand (seen c.args.scope.now) (plain_field c.args.field.now ∷ []) c.args.kind) c.args.types.now c.args.types.now c.args.sharing.now c.args.names.now c.args.names.now field_in c.in_err-part.field-0.0 c.from_residual.result c.from_residual.ensures
    (no_field_stands (seen c.args.scope.now) c.args.kind c.args.field.now c.args.types.now c.args.sharing.now c.args.names.now as_term field_in c.in_err-part.field-0.0 c.in_err-part.ensures.judged)

pub field_within-returns-in_err-pattern : goal.field_within-returns-in_err-pattern
field_within-returns-in_err-pattern t c =
    handed_on (fields_stand (seen c.args.scope.now) (plain_field c.args.field.now ∷ []) c.args.kind) c.args.types.now c.stands_within.new.types c.stands_within.new.sharing c.args.names.now c.stands_within.new.names field_in c.in_err-pattern.field-0.0 c.from_residual-in_err-pattern.result c.from_residual-in_err-pattern.ensures
    (field_refused (seen c.args.scope.now) c.args.kind c.args.field.now c.in_ok-part.part c.args.types.now c.args.sharing.now c.requires.ready c.in_ok-part.ensures.judged c.stands_within.new.types c.stands_within.new.sharing c.args.names.now c.stands_within.new.names pattern_in field_in c.in_err-pattern.field-0.0 c.in_err-pattern.ensures)

pub field_within-returns : goal.field_within-returns
field_within-returns t c =
    field_stands (seen c.args.scope.now) c.args.kind c.args.field.now c.in_ok-part.part c.args.types.now c.args.sharing.now c.requires.ready c.in_ok-part.ensures.judged c.stands_within.new.types c.stands_within.new.sharing c.args.names.now c.stands_within.new.names c.in_ok-pattern_field.field-0 (pattern_in c.in_ok-pattern.pattern) c.in_ok-pattern_field.ensures.0 (λ later. ap (λ (q : Pattern Note). pattern_in q later) (sym c.in_ok-pattern_field.ensures.1)) c.in_ok-pattern.ensures

pub object_within-returns-in_err-needs_object : goal.object_within-returns-in_err-needs_object
object_within-returns-in_err-needs_object t c =
    handed_on (stands (seen c.args.scope.now) (p.pattern c.args.note.at (p.Object (fields (map plain_field c.args.fields.now)))) c.args.note.kind) c.args.types.now c.args.types.now c.args.sharing.now c.args.names.now c.args.names.now pattern_in c.in_err-needs_object.field-0.0 c.from_residual.result c.from_residual.ensures
    (no_object_stands (seen c.args.scope.now) c.args.note.kind c.args.note.at c.args.fields.now c.args.types.now c.args.sharing.now c.args.names.now pattern_in c.in_err-needs_object.field-0.0 c.in_err-needs_object.ensures)

pub object_within-loop-field-init : goal.object_within-loop-field-init
object_within-loop-field-init t c =
    subst (λ (ms : List (PatternField Note)). Binds (all_stand (seen c.args.scope.now) c.args.note.kind []) c.args.types.now c.args.types.now c.args.sharing.now c.args.names.now c.args.names.now (fields_in ms)) (sym c.new-parts.ensures) (no_fields_stand (seen c.args.scope.now) c.args.note.kind c.args.types.now c.args.sharing.now c.args.names.now c.requires.ready)

pub object_within-field_within-requires : goal.object_within-field_within-requires
object_within-field_within-requires t c =
    (search rules, (c.loop-field.invariant.passed.ready, reached_on c.args.types.now c.loop-field.types c.args.note.kind c.loop-field.invariant.passed.goes c.requires.reached))

pub object_within-loop-field-preserved : goal.object_within-loop-field-preserved
object_within-loop-field-preserved t c =
    more_fields (seen c.args.scope.now) c.args.note.kind (take c.loop-field.field-index c.args.fields.now) (c.field-item.result ∷ []) (take (c.loop-field.field-index + 1) c.args.fields.now) (item_more c.args.fields.now c.loop-field.field-index c.field-item.result c.loop-field-test.true c.field-item.is) c.args.types.now c.loop-field.types c.field_within.new.types c.loop-field.sharing c.field_within.new.sharing c.args.names.now c.loop-field.names c.field_within.new.names
    c.loop-field.parts c.in_ok-field_within.field-0 c.push.new.self c.in_ok-push.ensures.ok c.loop-field.invariant c.in_ok-field_within.ensures

pub object_within-returns-in_err-field_within : goal.object_within-returns-in_err-field_within
object_within-returns-in_err-field_within t c =
    handed_on (stands (seen c.args.scope.now) (p.pattern c.args.note.at (p.Object (fields (map plain_field c.args.fields.now)))) c.args.note.kind) c.args.types.now c.field_within.new.types c.field_within.new.sharing c.args.names.now c.field_within.new.names pattern_in c.in_err-field_within.field-0.0 c.from_residual-in_err-field_within.result c.from_residual-in_err-field_within.ensures
    (object_refused (seen c.args.scope.now) c.args.note.kind c.args.note.at c.args.fields.now c.args.types.now c.args.sharing.now c.requires.ready c.in_ok-needs_object.ensures c.field_within.new.types c.field_within.new.sharing c.args.names.now c.field_within.new.names (λ (u : Unit {0}) later. p.NoFields) pattern_in c.in_err-field_within.field-0.0
    (fields_refused (seen c.args.scope.now) c.args.note.kind (take c.loop-field.field-index c.args.fields.now) (c.field-item.result ∷ drop (c.loop-field.field-index + 1) c.args.fields.now) c.args.fields.now (around c.args.fields.now c.loop-field.field-index c.field-item.result (item_more c.args.fields.now c.loop-field.field-index c.field-item.result c.loop-field-test.true c.field-item.is)) c.args.types.now c.loop-field.types c.field_within.new.types c.loop-field.sharing c.field_within.new.sharing c.args.names.now c.loop-field.names c.field_within.new.names (fields_in c.loop-field.parts) (λ (u : Unit {0}) later. p.NoFields) (λ (u : Unit {0}) later. p.NoFields) c.in_err-field_within.field-0.0
    c.loop-field.invariant (then_fields (seen c.args.scope.now) c.args.note.kind c.field-item.result (drop (c.loop-field.field-index + 1) c.args.fields.now) c.loop-field.types c.field_within.new.types c.field_within.new.sharing c.loop-field.names c.field_within.new.names field_in (λ (u : Unit {0}) later. p.NoFields) c.in_err-field_within.field-0.0 c.in_err-field_within.ensures)))

pub object_within-returns : goal.object_within-returns
object_within-returns t c =
    object_stands (seen c.args.scope.now) c.args.note.kind c.args.note.at c.args.fields.now c.args.types.now c.args.sharing.now c.requires.ready c.in_ok-needs_object.ensures c.loop-field.types c.loop-field.sharing c.args.names.now c.loop-field.names (fields_in c.loop-field.parts) (pattern_in c.in_ok-made.field-0) (object_seen c.args.note c.loop-field.parts c.in_ok-made.field-0 c.in_ok-made.ensures)
    (subst (λ (fs : List (PatternField ℕ)). Binds (all_stand (seen c.args.scope.now) c.args.note.kind fs) c.args.types.now c.loop-field.types c.loop-field.sharing c.args.names.now c.loop-field.names (fields_in c.loop-field.parts)) (take_all c.args.fields.now c.loop-field.field-index c.loop-field-test.false) c.loop-field.invariant)

pub alternative_within-silent_within-requires-2 : goal.alternative_within-silent_within-requires-2
alternative_within-silent_within-requires-2 t c =
    (search rules, (c.in_ok-first.ensures.judged.ready, reached_on c.args.types.now c.silent_within.new.types c.args.note.kind c.in_ok-first.ensures.judged.goes c.requires.reached))
