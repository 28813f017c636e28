-- Values as they go into messages, and back.
use Rattle.std.specs.Prelude.{ℕ, List, [], ◌∷◌, Option, Some, None, pos, codes}
use Rattle.mo_types.specs.declared.datum.Datum.TheVariants as part
use Rattle.mo_types.specs.Values.{Values, Nil, Value}
use Rattle.mo_values.specs.EqualityRows.{ok, err}
use Rattle.mo_values.specs.Messages.{plain, opened}
use Rattle.mo_values.specs.Rows.{heads, nat, text, null, some, tuple, object, person, outcome, list, option, nat_type}
use Rattle.mo_values.specs.Shapes.{Shape, Shapes, Function, shapes}

-- a person's fields, and one more
abbrev pub bo : Shape ℕ
bo = object (codes "name" ∷ codes "tall" ∷ codes "age" ∷ []) (text (codes "Bo") ∷ Function 3 ∷ nat 7 ∷ [])

-- the number of the label `age` is 4846783, and that of `name` 1224700491
abbrev pub bo_sent : Values
bo_sent = Value (part.Record 2) (Value (part.Number (pos 7)) Nil (Value (part.Text (codes "Bo")) Nil Nil)) Nil

abbrev pub bo_read : Shape ℕ
bo_read = object (codes "age" ∷ codes "name" ∷ []) (nat 7 ∷ text (codes "Bo") ∷ [])

-- the number of the label `ok` is less than that of `err`
abbrev pub ok_sent : Values
ok_sent = Value (part.Tag 0) (Value (part.Record 0) Nil Nil) Nil

abbrev pub err_sent : Values
err_sent = Value (part.Tag 1) (Value (part.Text (codes "no")) Nil Nil) Nil

abbrev pub a_function : Shape ℕ
a_function = Function 0

-- the list with 1 alone
abbrev pub one_long : Shape ℕ
one_long = some (tuple (nat 1 ∷ null ∷ []))

abbrev pub one_long_sent : Values
one_long_sent = Value part.Present (Value (part.Record 2) (Value (part.Number (pos 1)) Nil (Value part.Null Nil Nil)) Nil) Nil

abbrev pub sent : List (Option Values)
sent =
    plain heads person bo
    ∷ plain heads outcome ok
    ∷ plain heads outcome (err (codes "no"))
    ∷ plain heads list one_long
    ∷ plain heads option null
    ∷ plain heads nat_type bo
    ∷ plain heads option a_function
    ∷ []

abbrev pub wanted_sent : List (Option Values)
wanted_sent = Some bo_sent ∷ Some ok_sent ∷ Some err_sent ∷ Some one_long_sent ∷ Some (Value part.Null Nil Nil) ∷ None ∷ None ∷ []

abbrev pub read : List (Shapes ℕ)
read =
    opened heads (person ∷ []) bo_sent
    ∷ opened heads (outcome ∷ []) ok_sent
    ∷ opened heads (outcome ∷ []) err_sent
    ∷ opened heads (list ∷ []) one_long_sent
    ∷ []

abbrev pub wanted_read : List (Shapes ℕ)
wanted_read = shapes (bo_read ∷ []) ∷ shapes (ok ∷ []) ∷ shapes (err (codes "no") ∷ []) ∷ shapes (one_long ∷ []) ∷ []
