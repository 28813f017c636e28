-- What is said of a source that is refused.
use Rattle.std.specs.Prelude.{ℕ, List, ◌++◌, codes}
use Rattle.fault_meanings.specs.Meanings.{condition_meaning, lex_meaning, name_meaning, parse_meaning}
use Rattle.mo_front.specs.declared.fault.FrontFault.{FrontFault}
use Rattle.mo_front.specs.declared.fault.FrontFault.TheVariants as fault
use Rattle.mo_front.specs.FaultNames.{group_of, name_of}
use Rattle.mo_front.specs.Places.{place_of}
use Rattle.source_explanation.specs.Shown.{IsShown}

abbrev pub meaning_of : FrontFault → List ℕ
meaning_of (fault.Lex f) = lex_meaning f
meaning_of (fault.Parse f) = parse_meaning f
meaning_of (fault.Name f) = name_meaning f
meaning_of (fault.Type c place) = condition_meaning c
meaning_of fault.Memory = codes "There was no memory."

-- the layer and the name of the fault
abbrev pub said_of : FrontFault → List ℕ
said_of f = group_of f ++ (codes "." ++ name_of f)

-- the line and the place of the fault, and what it means
abbrev pub IsRefusal : List ℕ → FrontFault → List ℕ → Type 0
IsRefusal source f text = IsShown source (place_of f) (said_of f) (meaning_of f ++ codes "\n") text
