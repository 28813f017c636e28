-- The row is as wanted.
use Rattle.std.proofs.Common.{[], ◌∷◌, Some, refl, arith}
use Rattle.std.specs.Str.{chars, is_utf8}
use Rattle.mo_types.specs.Layout.{layout}
use Rattle.mo_subtype.specs.Questions.{questions}
use Rattle.typing_rules.specs.declared.condition.Condition.TheVariants as condition
use Rattle.typing_rules.specs.Answers.{fault}
use Rattle.typing_rules.specs.Heads.{head, members_head}
use Rattle.typing_rules.specs.Rows.{IsAnswer, refused}
use Rattle.typing_rules.proofs.Confirmed.{all_answered}
use Rattle.fault_places.specs.Numbers.{ProgramBelow}
use Rattle.fault_places.specs.Rows.{mismatched}

pub is_refused : IsAnswer mismatched (Some (fault condition.Mismatch 7))
unfolding head members_head questions chars is_utf8 layout lib.Utf8.encode
is_refused = (all_answered (refused condition.Mismatch 7 mismatched ∷ []) refl refl).0

pub is_below : ProgramBelow 8 mismatched
is_below = (omega arith, ((omega arith, ((omega arith, tt), (omega arith, tt))), (omega arith, tt)), tt)

pub is_last : ProgramBelow 7 mismatched → ⊥
is_last h = let i = h.1.1.0 in absurd (omega (arith, i))
