-- Calls that are to fail, by their numbers.
use Rattle.std.specs.Prelude.{◌↔◌, ℕ, List, Contains, IsErrOf}
use Rattle.std.specs.declared.result.Result.{Result}
use Rattle.outer.specs.declared.outside.OutsideFault.{OutsideFault}
use Rattle.outer.specs.declared.outside.OutsideFault.TheVariants.{Failed}

-- the call with this number, from 0, fails exactly where the list has the number
abbrev pub FailsAsPlanned : {T : Type 0} → List ℕ → ℕ → Result T OutsideFault → Type 0
FailsAsPlanned failing number result = IsErrOf result Failed ↔ Contains failing number
