-- Lists of declarations, and the order in which they are evaluated.
use Rattle.std.specs.Prelude.{List, [], ◌∷◌, Some, None, codes}
use Rattle.mo_values.specs.Shapes.{Bytes}
use Rattle.typed_tree.specs.Placing.{Declared, Placed, Evaluated, Functions, placed}

-- `let x = ..`, `var x = ..`, `object x {..}`, or an expression, which defines nothing
abbrev pub value : List Bytes → List Bytes → Declared
value defines occurs = record { defines = defines; function = None; occurs = occurs }

-- `func f ..` or `class f ..`
abbrev pub func : Bytes → List Bytes → Declared
func f occurs = record { defines = []; function = Some f; occurs = occurs }

abbrev pub x : Bytes
x = codes "x"

abbrev pub y : Bytes
y = codes "y"

abbrev pub f : Bytes
f = codes "f"

abbrev pub g : Bytes
g = codes "g"

abbrev pub h : Bytes
h = codes "h"

-- `assert (f(10)); func f(n : Nat) : Bool { .. g(n - 1) .. }; func g(n : Nat) : Bool { .. f(n - 1) .. }; assert (not g(10))`
abbrev pub mutual_recursion : List Declared
mutual_recursion = value [] (f ∷ []) ∷ func f (g ∷ []) ∷ func g (f ∷ []) ∷ value [] (g ∷ []) ∷ []

-- `func f() : Nat { x }; let x = await o.g(); f()`
abbrev pub before_its_let : List Declared
before_its_let = func f (x ∷ []) ∷ value (x ∷ []) [] ∷ value [] (f ∷ []) ∷ []

-- `func f() { g() }; func h() {}; let x = h(); func g() { x; f() }; let y = f(); f()`
abbrev pub two_groups : List Declared
two_groups = func f (g ∷ []) ∷ func h [] ∷ value (x ∷ []) (h ∷ []) ∷ func g (x ∷ f ∷ []) ∷ value (y ∷ []) (f ∷ []) ∷ value [] (f ∷ []) ∷ []

-- `var x = 0; func f() { x += 1 }; f()`: a function behind a variable that it changes
abbrev pub behind_a_variable : List Declared
behind_a_variable = value (x ∷ []) [] ∷ func f (x ∷ []) ∷ value [] (f ∷ []) ∷ []

-- `let (x, y) = (1, 2); class f() { .. y .. }; let g = f(); func h() { g; f() }`: a class is a function, a later function reaches the object
abbrev pub a_class : List Declared
a_class = value (x ∷ y ∷ []) [] ∷ func f (y ∷ []) ∷ value (g ∷ []) (f ∷ []) ∷ func h (g ∷ f ∷ []) ∷ []

-- nothing, and a function alone
abbrev pub empty : List Declared
empty = []

abbrev pub alone : List Declared
alone = func f (f ∷ []) ∷ []

abbrev pub orders : List (List Placed)
orders = placed mutual_recursion ∷ placed before_its_let ∷ placed two_groups ∷ placed behind_a_variable ∷ placed a_class ∷ placed empty ∷ placed alone ∷ []

abbrev pub wanted_orders : List (List Placed)
wanted_orders =
    -- both functions reach no other declaration, so they stand before all
    (Functions (func f (g ∷ []) ∷ func g (f ∷ []) ∷ []) ∷ Evaluated (value [] (f ∷ [])) ∷ Evaluated (value [] (g ∷ [])) ∷ [])
    ∷ (Evaluated (value (x ∷ []) []) ∷ Functions (func f (x ∷ []) ∷ []) ∷ Evaluated (value [] (f ∷ [])) ∷ [])
    -- h stands before x, and f and g between x and y
    ∷ (Functions (func h [] ∷ []) ∷ Evaluated (value (x ∷ []) (h ∷ [])) ∷ Functions (func f (g ∷ []) ∷ func g (x ∷ f ∷ []) ∷ [])
    ∷ Evaluated (value (y ∷ []) (f ∷ [])) ∷ Evaluated (value [] (f ∷ [])) ∷ [])
    ∷ (Evaluated (value (x ∷ []) []) ∷ Functions (func f (x ∷ []) ∷ []) ∷ Evaluated (value [] (f ∷ [])) ∷ [])
    ∷ (Evaluated (value (x ∷ y ∷ []) []) ∷ Functions (func f (y ∷ []) ∷ []) ∷ Evaluated (value (g ∷ []) (f ∷ [])) ∷ Functions (func h (g ∷ f ∷ []) ∷ []) ∷ [])
    ∷ []
    ∷ (Functions (func f (f ∷ []) ∷ []) ∷ [])
    ∷ []
