-- The context of a call, which its method takes before the arguments: Motoko language manual, section "Shared functions".
use Rattle.std.specs.Prelude.{[], ◌∷◌, codes}
use Rattle.mo_types.specs.declared.datum.Datum.TheVariants as part
use Rattle.mo_values.specs.Shapes.{Bytes, Object, Made, NoShape, AShape, leaf}
use Rattle.core_ir.specs.Values.{Value}

abbrev pub call_context : Bytes → Value
call_context caller = Made (Object (codes "caller" ∷ [])) (AShape (leaf (part.Principal caller)) NoShape)
