-- What is said of a source.
use Rattle.std.specs.Prelude.{◌≢◌, ℕ, List}
use Rattle.typed_tree.specs.declared.program.Program.{Program}
use Rattle.typed_tree.specs.WellTyped.{WellTyped}
use Rattle.mo_front.specs.declared.fault.FrontFault.{FrontFault}
use Rattle.mo_front.specs.declared.fault.FrontFault.TheVariants as fault
use Rattle.mo_front.specs.Fronts.{Accepted, RefusedBy}
use Rattle.source_explanation.specs.declared.explanation.Explanation.{Explanation}
use Rattle.source_explanation.specs.declared.explanation.Explanation.TheVariants.{Refused as Refusal, Accepted as Acceptance}
use Rattle.source_explanation.specs.Misses.{AreMissed}
use Rattle.source_explanation.specs.Refusals.{IsRefusal}

-- a fault that refuses it, or what its switches miss
abbrev pub Explains : List ℕ → Explanation → Type 0
Explains source (Refusal text) = (f : FrontFault) × (f ≢ fault.Memory) × RefusedBy source f × IsRefusal source f text
Explains source (Acceptance text) = (made : Program) × Accepted source made × WellTyped made × AreMissed source made text
