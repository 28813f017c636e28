-- Definitions that stand for a type.
use Rattle.std.specs.Prelude.{◌≡◌, ℕ, Bool, List, is_some}
use Rattle.type_terms.specs.declared.form.Form.{Form}
use Rattle.typing_rules.specs.Definitions.{reached}
use Rattle.type_definitions.specs.declared.chains.Outcome.{Outcome}
use Rattle.type_definitions.specs.Tables.{Later}
use Rattle.type_definitions.specs.Definitions.{Listed, types_in}
use Rattle.type_definitions.specs.Outcomes.{AreOutcomes}

-- whether it does, in each table whose outcomes these are
abbrev pub HasType : Listed → List Outcome → ℕ → Bool → Type 0
HasType l os at is = (forms : List Form) → AreOutcomes forms l os → (later : List Form) → Later forms later → is ≡ is_some (reached (types_in later l) at)
