-- What a judgement gives has a property, whatever it is asked.
use Rattle.std.specs.Prelude.{true, false, List}
use Rattle.subtype_laws.specs.Reached.{Among}
use Rattle.typing_rules.specs.Terms.{Term}
use Rattle.typing_rules.specs.Definitions.{Definitions}
use Rattle.typing_rules.specs.Judgements.{Judgement, Gives, Fails, Asks, Meets}
use Rattle.typing_rules.specs.Answers.{Holds}

-- Where it gives anything, that has the property, if all types that are met are among these.
abbrev pub Yields : {A : Type 0} → Definitions → List Term → Judgement A → (A → Type 0) → Type 0
Yields defs terms (Gives a) P = P a
Yields defs terms (Fails c place) P = Unit {0}
Yields defs terms (Asks q next) P = (Holds defs q → Yields defs terms (next true) P) × ((Holds defs q → ⊥) → Yields defs terms (next false) P)
Yields defs terms (Meets t next) P = Among t terms → Yields defs terms next P
