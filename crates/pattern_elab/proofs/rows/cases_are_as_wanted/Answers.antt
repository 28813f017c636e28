use Rattle.std.proofs.Common.{refl, inl, inr}
use Rattle.pattern_elab.proofs.rows.cases_are_as_wanted.Goals as goal

pub returns-clause-suit : goal.returns-clause-suit
returns-clause-suit c =
    ((tt, (tt, (tt, tt))), (((tt, (tt, tt)), (tt, ((tt, tt), tt))), (tt, tt)), (tt, ((tt, (tt, tt)), tt)), ((tt, (tt, tt)), ((tt, (tt, tt)), tt)))

pub returns-clause-no_others : goal.returns-clause-no_others
returns-clause-no_others c = λ e. elim e [ inl h ↦ h.1 | inr h ↦ h ]
