-- What a check of a body comes to.
use Rattle.std.specs.Prelude.{◌≡◌, Bool, true, false, Option, Some, None, Result, Ok, Err, ⊤}
use Rattle.wasm_tree.specs.declared.rule.Rule.{Rule}
use Rattle.wasm_tree.specs.Rules.{every, only}
use Rattle.wasm_valid.specs.declared.fault.Fault.{Fault}
use Rattle.wasm_valid.specs.declared.fault.Fault.TheVariants as fault

pub data Verdict : Type 0 where
  Passes : Verdict
  Breaks : Rule → Verdict

-- Goes on where the condition of the rule holds.
abbrev pub need : Rule → Bool → Verdict → Verdict
need r true next = next
need r false next = Breaks r

abbrev pub with_found : {A : Type 0} → Rule → Option A → (A → Verdict) → Verdict
with_found r None next = Breaks r
with_found r (Some a) next = next a

-- A step from a whole check to the rest of it: after the step the rest decides, and a fault is the check's own.
abbrev pub Sees : {A : Type 0} → Result A Fault → Verdict → (A → Verdict) → Type 0
Sees (Ok a) whole rest = whole ≡ rest a
Sees (Err (fault.Broken r)) whole rest = whole ≡ Breaks r
Sees (Err fault.Memory) whole rest = ⊤

-- Every rule is kept, or the one that is named cannot be kept alone.
abbrev pub Checked : {A : Type 0} → ((Rule → Type 0) → Type 0) → Result A Fault → Type 0
Checked Keeps (Ok a) = Keeps every
Checked Keeps (Err (fault.Broken r)) = Keeps (only r) → ⊥
Checked Keeps (Err fault.Memory) = ⊤
