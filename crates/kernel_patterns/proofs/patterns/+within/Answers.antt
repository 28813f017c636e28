use Rattle.std.proofs.Common.{List, ap, sym, ◌∙◌, map}
use Rattle.abstract_types.specs.declared.patterns.Pattern.{Pattern}
use Rattle.abstract_types.specs.declared.patterns.PatternField.{PatternField}
use Rattle.value_scopes.specs.declared.note.Note.{Note}
use Rattle.kernel_patterns.specs.Written.{field_of, pattern_of}
use Rattle.kernel_patterns.proofs.Forms.{alternative_of, annotated_of, constant_of, object_of, optional_of, tag_of, tagged_of, tuple_of, variable_of, wildcard_of}
use Rattle.kernel_patterns.proofs.patterns.+within.Goals as goal

pub pattern_within-returns-in-Annotated : goal.pattern_within-returns-in-Annotated
pattern_within-returns-in-Annotated t c = annotated_of c.args.types.now c.args.pattern.now c.pattern_within.result c.in-Annotated.part _ (sym c.get.ensures ∙ c.in-Annotated.is) c.pattern_within.ensures

pub pattern_within-returns-in_ok-second-in-Alternative : goal.pattern_within-returns-in_ok-second-in-Alternative
pattern_within-returns-in_ok-second-in-Alternative t c = alternative_of c.args.types.now c.args.pattern.now c.stands.result c.in-Alternative.first c.in-Alternative.second c.in_ok-first-in-Alternative.first c.in_ok-second-in-Alternative.second (sym c.get.ensures ∙ c.in-Alternative.is) c.in_ok-first-in-Alternative.ensures c.in_ok-second-in-Alternative.ensures c.stands.ensures

pub pattern_within-returns-in_ok-part-in-Optional : goal.pattern_within-returns-in_ok-part-in-Optional
pattern_within-returns-in_ok-part-in-Optional t c = optional_of c.args.types.now c.args.pattern.now c.stands-in-Optional.result c.in-Optional.part c.in_ok-part-in-Optional.part (sym c.get.ensures ∙ c.in-Optional.is) c.in_ok-part-in-Optional.ensures c.stands-in-Optional.ensures

pub pattern_within-returns-in-Tag : goal.pattern_within-returns-in-Tag
pattern_within-returns-in-Tag t c = tag_of c.args.types.now c.args.pattern.now c.tag.result c.in-Tag.name (sym c.get.ensures ∙ c.in-Tag.is) c.tag.ensures

pub pattern_within-returns-in_ok-name-in-Tagged : goal.pattern_within-returns-in_ok-name-in-Tagged
pattern_within-returns-in_ok-name-in-Tagged t c = tagged_of c.args.types.now c.args.pattern.now c.stands-in-Tagged.result c.in-Tagged.name c.in_ok-name-in-Tagged.name c.in-Tagged.part c.in_ok-part-in-Tagged.part (sym c.get.ensures ∙ c.in-Tagged.is) (c.in_ok-name-in-Tagged.ensures ∙ c.as_slice.ensures) c.in_ok-part-in-Tagged.ensures c.stands-in-Tagged.ensures

pub pattern_within-returns-in-Variable : goal.pattern_within-returns-in-Variable
pattern_within-returns-in-Variable t c = variable_of c.args.types.now c.args.pattern.now c.stands-in-Variable.result _ (sym c.get.ensures ∙ c.in-Variable.is) c.stands-in-Variable.ensures

pub pattern_within-returns-in-Wildcard : goal.pattern_within-returns-in-Wildcard
pattern_within-returns-in-Wildcard t c = wildcard_of c.args.types.now c.args.pattern.now c.stands-in-Wildcard.result (sym c.get.ensures ∙ c.in-Wildcard.is) c.stands-in-Wildcard.ensures

pub pattern_within-returns-in_ok-literal-in-Constant : goal.pattern_within-returns-in_ok-literal-in-Constant
pattern_within-returns-in_ok-literal-in-Constant t c = constant_of c.args.types.now c.args.pattern.now c.stands-in-Constant.result c.in-Constant.minus c.in-Constant.literal c.in_ok-literal-in-Constant.literal (sym c.get.ensures ∙ c.in-Constant.is) c.in_ok-literal-in-Constant.ensures c.stands-in-Constant.ensures

pub pattern_within-returns-in_ok-parts-in-Tuple : goal.pattern_within-returns-in_ok-parts-in-Tuple
pattern_within-returns-in_ok-parts-in-Tuple t c = tuple_of c.args.types.now c.args.pattern.now c.stands-in-Tuple.result c.in-Tuple.items c.in_ok-parts-in-Tuple.parts (sym c.get.ensures ∙ c.in-Tuple.is) (c.in_ok-parts-in-Tuple.ensures ∙ ap (λ (l : List (Pattern Note)). map (pattern_of c.args.types.now) l) c.as_slice-in-Tuple.ensures) c.stands-in-Tuple.ensures

pub pattern_within-returns-in_ok-parts-in-Object : goal.pattern_within-returns-in_ok-parts-in-Object
pattern_within-returns-in_ok-parts-in-Object t c = object_of c.args.types.now c.args.pattern.now c.stands-in-Object.result c.in-Object.fields c.in_ok-parts-in-Object.parts (sym c.get.ensures ∙ c.in-Object.is) (c.in_ok-parts-in-Object.ensures ∙ ap (λ (l : List (PatternField Note)). map (field_of c.args.types.now) l) c.as_slice-in-Object.ensures) c.stands-in-Object.ensures
