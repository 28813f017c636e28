-- The types that a judgement meets have a property, and what it gives has one, whatever it is asked.
use Rattle.std.specs.Prelude.{true, false}
use Rattle.typing_rules.specs.Terms.{Term}
use Rattle.typing_rules.specs.Definitions.{Definitions}
use Rattle.typing_rules.specs.Judgements.{Judgement, Gives, Fails, Asks, Meets}
use Rattle.typing_rules.specs.Answers.{Holds}

-- each type that is met has P, and what is given has Q
abbrev pub MeetsOnly : {A : Type 0} → Definitions → (Term → Type 0) → Judgement A → (A → Type 0) → Type 0
MeetsOnly defs P (Gives a) Q = Q a
MeetsOnly defs P (Fails c place) Q = Unit {0}
MeetsOnly defs P (Asks q next) Q = (Holds defs q → MeetsOnly defs P (next true) Q) × MeetsOnly defs P (next false) Q
MeetsOnly defs P (Meets t next) Q = P t × MeetsOnly defs P next Q
