-- Values with parts, actors and errors: Motoko language manual, sections "Tuples", "Projections", "Indexing"; base
-- library, `Error` and `Principal`.
use Rattle.std.specs.Prelude.{ℕ, List, [], ◌∷◌, codes}
use Rattle.mo_types.specs.declared.datum.Datum.TheVariants as part
use Rattle.mo_values.specs.declared.error_code.ErrorCode.{ErrorCode}
use Rattle.mo_values.specs.declared.error_code.ErrorCode.TheVariants as code
use Rattle.mo_values.specs.declared.operation.Operation.TheVariants as op
use Rattle.mo_values.specs.Operations.{tag}
use Rattle.mo_values.specs.Rows.{Row, none, one, two, many, nat, minus, text, null, some, tuple, array, object}
use Rattle.mo_values.specs.Shapes.{Bytes, Error, Shape, Made, Function, NoShape, leaf, unit}
use Rattle.mo_values.specs.Views.{Answer, Gives, Traps, Stuck}

abbrev pub point : Shape ℕ
point = object (codes "a" ∷ codes "b" ∷ []) (nat 1 ∷ nat 2 ∷ [])

abbrev pub numbers : Shape ℕ
numbers = array (nat 1 ∷ nat 2 ∷ [])

abbrev pub out_of_bounds : Answer ℕ
out_of_bounds = Traps (codes "index out of bounds")

abbrev pub made_parts : List Row
made_parts =
    none op.MakeTuple (Gives unit)
    ∷ many op.MakeTuple (nat 1 ∷ Function 7 ∷ []) (Gives (tuple (nat 1 ∷ Function 7 ∷ [])))
    ∷ one op.MakeOption null (Gives (some null))
    ∷ one (op.MakeTag (codes "a")) (nat 1) (Gives (tag (codes "a") (nat 1)))
    ∷ many op.MakeArray (nat 1 ∷ nat 2 ∷ []) (Gives numbers)
    ∷ two (op.MakeObject (codes "a" ∷ codes "b" ∷ [])) (nat 1) (nat 2) (Gives point)
    ∷ one (op.MakeObject (codes "a" ∷ codes "b" ∷ [])) (nat 1) Stuck
    ∷ two op.MakeOption null null Stuck
    ∷ []

abbrev pub taken_parts : List Row
taken_parts =
    one (op.Project 1) (tuple (nat 5 ∷ nat 6 ∷ [])) (Gives (nat 6))
    ∷ one (op.Project 2) (tuple (nat 5 ∷ nat 6 ∷ [])) Stuck
    ∷ one (op.Project 0) numbers Stuck
    ∷ one (op.Field (codes "b")) point (Gives (nat 2))
    ∷ one (op.Field (codes "c")) point Stuck
    ∷ two op.Element numbers (nat 1) (Gives (nat 2))
    ∷ two op.Element numbers (nat 2) out_of_bounds
    ∷ two op.Element numbers (nat 9223372036854775807) out_of_bounds
    ∷ two op.Element (array (nat 1 ∷ [])) (nat 1) out_of_bounds
    ∷ two op.Element numbers (minus 1) Stuck
    ∷ one op.ArraySize (array (nat 1 ∷ nat 2 ∷ nat 3 ∷ [])) (Gives (nat 3))
    ∷ one op.ArraySize (array []) (Gives (nat 0))
    ∷ one op.ArraySize (tuple (nat 1 ∷ [])) Stuck
    ∷ []

abbrev pub error : ErrorCode → Bytes → Shape ℕ
error c t = Made (Error c t) NoShape

abbrev pub code_of : ErrorCode → Shape ℕ → Row
code_of c v = one op.Code (error c (codes "no")) (Gives v)

abbrev pub outside : List Row
outside =
    one (op.Method (codes "f")) (leaf (part.Actor (1 ∷ 1 ∷ []))) (Gives (leaf (part.Method (1 ∷ 1 ∷ []) (codes "f"))))
    ∷ one (op.Method (codes "f")) (leaf (part.Principal (1 ∷ 1 ∷ []))) Stuck
    -- `aaaaa-aa` and `2vxsx-fae`
    ∷ one op.PrincipalOf (leaf (part.Actor [])) (Gives (leaf (part.Principal [])))
    ∷ one op.PrincipalOf (leaf (part.Actor (4 ∷ []))) (Gives (leaf (part.Principal (4 ∷ []))))
    ∷ one op.RejectError (text (codes "no")) (Gives (error code.CanisterReject (codes "no")))
    ∷ one op.Message (error (code.CallError 2) (codes "call refused")) (Gives (text (codes "call refused")))
    ∷ code_of code.SystemFatal (tag (codes "system_fatal") unit)
    ∷ code_of code.SystemTransient (tag (codes "system_transient") unit)
    ∷ code_of code.DestinationInvalid (tag (codes "destination_invalid") unit)
    ∷ code_of code.CanisterReject (tag (codes "canister_reject") unit)
    ∷ code_of code.CanisterError (tag (codes "canister_error") unit)
    ∷ code_of (code.Future 7) (tag (codes "future") (nat 7))
    ∷ code_of (code.Future 4294967295) (tag (codes "future") (nat 4294967295))
    ∷ code_of (code.CallError 2) (tag (codes "call_error") (object (codes "err_code" ∷ []) (nat 2 ∷ [])))
    ∷ one op.Code (text (codes "no")) Stuck
    ∷ []
