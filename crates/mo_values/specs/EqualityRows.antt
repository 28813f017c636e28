-- Equality at a type: Motoko language manual, section "Relational operators". Of two object types the greatest has the fields of both.
use Rattle.std.specs.Prelude.{ℕ, List, [], ◌∷◌, codes}
use Rattle.mo_types.specs.declared.datum.Datum.TheVariants as part
use Rattle.mo_types.specs.declared.node.TypeId.{TypeId}
use Rattle.mo_values.specs.declared.operation.Operation.TheVariants as op
use Rattle.mo_values.specs.Operations.{tag}
use Rattle.mo_values.specs.Rows.{Row, two, nat, char, text, null, some, tuple, array, object, yes, no, nat_type, text_type, point, place, option, double_option, outcome, nats, nothings, list, pair, byte, letter, blob, principal, shared_function, counter}
use Rattle.mo_values.specs.Shapes.{Bytes, Cell, Shape, Made, Function, NoShape, leaf, unit}
use Rattle.mo_values.specs.Views.{Answer, Stuck}

abbrev pub equal_at : TypeId → Shape ℕ → Shape ℕ → Answer ℕ → Row
equal_at t v w answer = two (op.Equal t) v w answer

abbrev pub at : ℕ → Shape ℕ
at n = object (codes "x" ∷ []) (nat n ∷ [])

abbrev pub here : Shape ℕ → Shape ℕ
here v = object (codes "name" ∷ codes "at" ∷ []) (text (codes "a") ∷ v ∷ [])

-- the same with its fields in the other order
abbrev pub here_turned : Shape ℕ → Shape ℕ
here_turned v = object (codes "at" ∷ codes "name" ∷ []) (v ∷ text (codes "a") ∷ [])

-- `{x = n; y = m}`
abbrev pub wide : ℕ → ℕ → Shape ℕ
wide n m = object (codes "x" ∷ codes "y" ∷ []) (nat n ∷ nat m ∷ [])

abbrev pub ok : Shape ℕ
ok = tag (codes "ok") unit

abbrev pub err : Bytes → Shape ℕ
err t = tag (codes "err") (text t)

abbrev pub method : Bytes → Shape ℕ
method name = leaf (part.Method (1 ∷ []) name)

abbrev pub equalities : List Row
equalities =
    equal_at nat_type (nat 1) (nat 1) yes
    ∷ equal_at nat_type (nat 1) (nat 2) no
    ∷ equal_at text_type (text (codes "ab")) (text (codes "ab")) yes
    ∷ equal_at text_type (text (codes "ab")) (text (codes "a")) no
    ∷ two (op.Unequal nat_type) (nat 1) (nat 2) yes
    ∷ two (op.Unequal nat_type) (nat 1) (nat 1) no
    -- fields of the type alone, at every depth, in any order
    ∷ equal_at point (wide 1 2) (at 1) yes
    ∷ equal_at point (wide 1 2) (wide 1 3) yes
    ∷ equal_at point (wide 1 2) (wide 2 2) no
    ∷ equal_at place (here (at 1)) (here (wide 1 5)) yes
    ∷ equal_at place (here (at 1)) (here_turned (at 1)) yes
    ∷ equal_at place (here (at 1)) (here (at 2)) no
    -- options
    ∷ equal_at option (some (nat 1)) (some (nat 1)) yes
    ∷ equal_at option null (some (nat 1)) no
    ∷ equal_at double_option (some null) null no
    ∷ equal_at double_option (some (some (nat 5))) (some (some (nat 5))) yes
    -- variants
    ∷ equal_at outcome ok ok yes
    ∷ equal_at outcome ok (err []) no
    ∷ equal_at outcome (err (codes "a")) (err (codes "b")) no
    ∷ equal_at outcome (err (codes "a")) (err (codes "a")) yes
    -- arrays and tuples
    ∷ equal_at nats (array (nat 1 ∷ nat 2 ∷ [])) (array (nat 1 ∷ nat 2 ∷ [])) yes
    ∷ equal_at nats (array (nat 1 ∷ nat 2 ∷ [])) (array (nat 1 ∷ [])) no
    ∷ equal_at nothings (array []) (array []) yes
    ∷ equal_at pair (tuple (nat 1 ∷ null ∷ [])) (tuple (nat 1 ∷ null ∷ [])) yes
    ∷ equal_at list (some (tuple (nat 1 ∷ some (tuple (nat 2 ∷ null ∷ [])) ∷ []))) (some (tuple (nat 1 ∷ null ∷ []))) no
    -- leaves of other types
    ∷ equal_at letter (char 97) (char 97) yes
    ∷ equal_at blob (leaf (part.Blob (255 ∷ 0 ∷ []))) (leaf (part.Blob (255 ∷ 1 ∷ []))) no
    ∷ equal_at principal (leaf (part.Principal (4 ∷ []))) (leaf (part.Principal (4 ∷ []))) yes
    ∷ equal_at shared_function (method (codes "f")) (method (codes "f")) yes
    ∷ equal_at shared_function (method (codes "f")) (method (codes "g")) no
    ∷ []

-- values that are not of the type have no answer
abbrev pub no_equalities : List Row
no_equalities =
    equal_at byte (nat 256) (nat 256) Stuck
    ∷ equal_at nat_type (text (codes "a")) (text (codes "a")) Stuck
    ∷ equal_at nat_type (Function 0) (Function 0) Stuck
    ∷ equal_at letter (char 55296) (char 55296) Stuck
    ∷ equal_at text_type (text (255 ∷ [])) (text (255 ∷ [])) Stuck
    ∷ equal_at point (object (codes "y" ∷ []) (nat 1 ∷ [])) (at 1) Stuck
    ∷ equal_at point (object (codes "x" ∷ []) (Made (Cell 0) NoShape ∷ [])) (at 1) Stuck
    ∷ equal_at counter (object (codes "x" ∷ []) (Made (Cell 0) NoShape ∷ [])) (object (codes "x" ∷ []) (Made (Cell 0) NoShape ∷ [])) Stuck
    ∷ equal_at outcome (tag (codes "maybe") unit) ok Stuck
    ∷ equal_at pair (tuple (nat 1 ∷ [])) (tuple (nat 1 ∷ [])) Stuck
    ∷ two (op.Unequal nat_type) (nat 1) null Stuck
    ∷ []
