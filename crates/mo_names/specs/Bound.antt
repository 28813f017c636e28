-- When the names of a program are bound, and where they are not (Motoko language manual, "Identifiers").
use Rattle.std.specs.Prelude.{◌≡◌, ℕ, ◌<◌, ◌≤◌, ◌⊎◌, List}
use Rattle.mo_syntax.specs.declared.place.Place.{Place}
use Rattle.mo_syntax.specs.declared.program.Tree.{Tree}
use Rattle.mo_scopes.specs.declared.meaning.Meaning.{Meaning}
use Rattle.mo_scopes.specs.declared.rule.Rule.{Rule}
use Rattle.mo_scopes.specs.declared.rule.Rule.TheVariants as rule
use Rattle.mo_scopes.specs.declared.rule.Breach.{Breach}
use Rattle.mo_names.specs.declared.fault.NameFault.{NameFault}
use Rattle.mo_names.specs.declared.fault.NameFault.TheVariants as fault
use Rattle.mo_names.specs.ProgramNames.{findings, meanings, breaches}
use Rattle.mo_names.specs.Order.{Among, Misplaced, lists_in}

-- The rule is broken at the place.
abbrev pub Breaks : Tree → Breach → Type 0
Breaks tree b = Among b (breaches (findings tree)) ⊎ ((b.rule ≡ rule.UsedBeforeDefined) × Misplaced (lists_in tree) b.place)

-- No rule is broken: each name that is used has a meaning, none is bound twice, none is used before it is defined, no labels clash, and none is reserved.
abbrev pub Bound : Tree → Type 0
Bound tree = (b : Breach) → Breaks tree b → ⊥

-- The names are bound, and these are the meanings of those that are used, in the order of the source.
abbrev pub Resolved : Tree → List Meaning → Type 0
Resolved tree named = Bound tree × (named ≡ meanings (findings tree))

-- ---- of several breaches the first

abbrev pub rank : Rule → ℕ
rank rule.Unknown = 0
rank rule.Twice = 1
rank rule.UsedBeforeDefined = 2
rank rule.LabelClash = 3
rank rule.Reserved = 4

-- It starts at an earlier place than the other or, at the same place, is not of a later rule.
abbrev pub Comes : Breach → Breach → Type 0
Comes a b = (a.place.start < b.place.start) ⊎ ((a.place.start ≡ b.place.start) × (rank a.rule ≤ rank b.rule))

-- It is one, and comes before each other one.
abbrev pub First : (Breach → Type 0) → Breach → Type 0
First Is b = Is b × ((other : Breach) → Is other → Comes b other)

abbrev pub fault_at : Place → Rule → NameFault
fault_at place rule.Unknown = fault.Unknown place
fault_at place rule.Twice = fault.Twice place
fault_at place rule.UsedBeforeDefined = fault.UsedBeforeDefined place
fault_at place rule.LabelClash = fault.LabelClash place
fault_at place rule.Reserved = fault.Reserved place

abbrev pub fault_of : Breach → NameFault
fault_of b = fault_at b.place b.rule

-- The fault is of the first rule that is broken. Want of memory says nothing.
abbrev pub Refused : Tree → NameFault → Type 0
Refused tree f = (f ≡ fault.Memory) ⊎ ((b : Breach) × (f ≡ fault_of b) × First (Breaks tree) b)
