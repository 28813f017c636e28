-- The rows have their answers, by evaluation.
use Rattle.std.proofs.Common.{refl}
use Rattle.std.specs.Str.{chars, is_utf8}
use Rattle.mo_types.specs.Layout.{layout}
use Rattle.mo_subtype.specs.Questions.{questions}
use Rattle.typing_rules.specs.Heads.{head, members_head}
use Rattle.typing_rules.specs.Rows.{AreAnswered}
use Rattle.typing_rules.specs.MismatchRows.{mismatch_first, mismatch_second}
use Rattle.typing_rules.specs.ShapeRows.{shape_first, shape_second, shape_third}
use Rattle.typing_rules.specs.WrittenTypeRows.{written_type_first, written_type_second}
use Rattle.typing_rules.specs.PlaceRows.{place_first, place_second}
use Rattle.typing_rules.specs.PatternRows.{pattern}
use Rattle.typing_rules.specs.TypedLiterals.{typed_literals}
use Rattle.typing_rules.specs.TypedControl.{typed_control}
use Rattle.typing_rules.specs.TypedFunctions.{typed_functions}
use Rattle.typing_rules.specs.TypedPatterns.{typed_patterns}
use Rattle.typing_rules.specs.TypedActors.{typed_actors}
use Rattle.typing_rules.proofs.Confirmed.{all_answered}

pub mismatch_first_answered : AreAnswered mismatch_first
unfolding head members_head questions chars is_utf8 layout lib.Utf8.encode
mismatch_first_answered = all_answered mismatch_first refl refl

pub mismatch_second_answered : AreAnswered mismatch_second
unfolding head members_head questions chars is_utf8 layout lib.Utf8.encode
mismatch_second_answered = all_answered mismatch_second refl refl

pub shape_first_answered : AreAnswered shape_first
unfolding head members_head questions chars is_utf8 layout lib.Utf8.encode
shape_first_answered = all_answered shape_first refl refl

pub shape_second_answered : AreAnswered shape_second
unfolding head members_head questions chars is_utf8 layout lib.Utf8.encode
shape_second_answered = all_answered shape_second refl refl

pub shape_third_answered : AreAnswered shape_third
unfolding head members_head questions chars is_utf8 layout lib.Utf8.encode
shape_third_answered = all_answered shape_third refl refl

pub written_type_first_answered : AreAnswered written_type_first
unfolding head members_head questions chars is_utf8 layout lib.Utf8.encode
written_type_first_answered = all_answered written_type_first refl refl

pub written_type_second_answered : AreAnswered written_type_second
unfolding head members_head questions chars is_utf8 layout lib.Utf8.encode
written_type_second_answered = all_answered written_type_second refl refl

pub place_first_answered : AreAnswered place_first
unfolding head members_head questions chars is_utf8 layout lib.Utf8.encode
place_first_answered = all_answered place_first refl refl

pub place_second_answered : AreAnswered place_second
unfolding head members_head questions chars is_utf8 layout lib.Utf8.encode
place_second_answered = all_answered place_second refl refl

pub pattern_answered : AreAnswered pattern
unfolding head members_head questions chars is_utf8 layout lib.Utf8.encode
pattern_answered = all_answered pattern refl refl

pub typed_literals_answered : AreAnswered typed_literals
unfolding head members_head questions chars is_utf8 layout lib.Utf8.encode
typed_literals_answered = all_answered typed_literals refl refl

pub typed_control_answered : AreAnswered typed_control
unfolding head members_head questions chars is_utf8 layout lib.Utf8.encode
typed_control_answered = all_answered typed_control refl refl

pub typed_functions_answered : AreAnswered typed_functions
unfolding head members_head questions chars is_utf8 layout lib.Utf8.encode
typed_functions_answered = all_answered typed_functions refl refl

pub typed_patterns_answered : AreAnswered typed_patterns
unfolding head members_head questions chars is_utf8 layout lib.Utf8.encode
typed_patterns_answered = all_answered typed_patterns refl refl

pub typed_actors_answered : AreAnswered typed_actors
unfolding head members_head questions chars is_utf8 layout lib.Utf8.encode
typed_actors_answered = all_answered typed_actors refl refl
