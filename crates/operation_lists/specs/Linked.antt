-- What the codes of primitives know of a module with these texts.
use Rattle.std.specs.Prelude.{⊤, ℕ, suc, ◌+◌, ◌*◌, List, pos}
use Rattle.mo_num.specs.declared.operator.NumTrap.TheVariants.{Overflow, Underflow, DivideByZero}
use Rattle.mo_values.specs.Operations.{number_text}
use Rattle.mo_values.specs.Shapes.{Bytes}
use Rattle.core_ir.specs.declared.primitive.Primitive.{Primitive}
use Rattle.core_ir.specs.declared.primitive.Primitive.TheVariants as primitive
use Rattle.low_ir.specs.Numbering.{host_count}
use Rattle.number_routines.specs.declared.places.TrapPlaces.{TrapPlaces}
use Rattle.operation_codes.specs.Links.{Links}
use Rattle.low_emit.specs.Texts.{place_from}
use Rattle.low_emit.specs.Modules.{calculation_place}

-- behind its size
abbrev pub address_of : List Bytes → Bytes → ℕ
address_of texts t = 8 * place_from 1 t texts + 8

abbrev pub traps_of : List Bytes → TrapPlaces
traps_of texts = record { overflow = pos (address_of texts (number_text Overflow)); underflow = pos (address_of texts (number_text Underflow)); divide_by_zero = pos (address_of texts (number_text DivideByZero)) }

abbrev pub links_of : List Bytes → Links
links_of texts = record { traps = traps_of texts; calculation = λ o k. host_count + (2 + calculation_place o k); allocation = host_count; failing = suc host_count; bytes_at = λ t. place_from 1 t texts }

-- What is no operation of the table.
abbrev pub IsNoOperation : Primitive → Type 0
IsNoOperation (primitive.Operate o) = ⊥
IsNoOperation p = ⊤
