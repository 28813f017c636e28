-- Function values that read by a rule.
use Rattle.std.specs.Prelude.{Result}
use denote.Ref.{MutBor}
use Rattle.mo_parser_base.specs.declared.stop.Stop.{Stop}
use Rattle.mo_parser_base.specs.Input.{Input, Parser, Reads}

-- It may be called at any place.
abbrev pub IsCallable : (MutBor Input → Type 0) → Type 0
IsCallable pre = (tokens : MutBor Input) → pre tokens

-- What it gives is what the rule reads.
abbrev pub Keeps : {A : Type 0} → Parser A → (MutBor Input → Result A Stop → MutBor Input → Type 0) → Type 0
Keeps {A} rule post = (old new : MutBor Input) (r : Result A Stop) → post old r new → Reads (rule old.now) r new.now
