-- What a judgement with a part comes to: what follows from what the part gives, or the part's fault.
use Rattle.std.specs.Prelude.{◌≡◌, ◌⊎◌, List, Ok, Err}
use Rattle.typing_rules.specs.Terms.{Term}
use Rattle.typing_rules.specs.Definitions.{Definitions}
use Rattle.typing_rules.specs.Judgements.{Judgement}
use Rattle.typing_rules.specs.Answers.{Fault, Answer, answer, Comes}

abbrev pub Parted : {A B : Type 0} → Definitions → Judgement B → (B → Judgement A) → List Term → Answer A → Type 0
Parted {A} {B} defs j k met r =
    ((b : B) × (later : List Term) × Comes defs j met (answer (Ok b) later) × Comes defs (k b) later r)
    ⊎ ((f : Fault) × Comes defs j met (answer (Err f) r.met) × (r.is ≡ Err f))
