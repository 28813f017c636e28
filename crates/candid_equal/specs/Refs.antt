-- References by number.
use Rattle.std.specs.Prelude.{ℕ, ◌+◌}
use Rattle.mo_types.specs.declared.wire.TableRef.{TableRef}
use Rattle.mo_types.specs.declared.wire.TableRef.TheVariants.{Plainly, At}
use Rattle.mo_types.specs.Wire.{plain_code}

abbrev pub ref_number : TableRef → ℕ
ref_number (Plainly p) = plain_code p
ref_number (At i) = i + 256
