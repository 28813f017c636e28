-- The order of evaluation: Motoko language manual, sections "Function calls", "Assignment", "Unary compound assignment",
-- "And", "For" and "Labels".
use Rattle.std.specs.Prelude.{ℕ, List, [], ◌∷◌, Option, pos, codes}
use Rattle.play_script.specs.declared.event.Event.TheVariants as event
use Rattle.mo_num.specs.declared.kind.Kind.TheVariants as kind
use Rattle.mo_types.specs.declared.datum.Datum.TheVariants as part
use Rattle.mo_values.specs.declared.operation.Comparison.TheVariants as comparison
use Rattle.mo_values.specs.declared.operation.Operation.TheVariants as op
use Rattle.mo_values.specs.declared.operation.Scalar.TheVariants as scalar
use Rattle.typed_tree.specs.declared.action.Action.TheVariants as action
use Rattle.typed_tree.specs.declared.action.Member.TheVariants as member
use Rattle.typed_tree.specs.Patterns.{Bind, Wildcard, Constant}
use Rattle.typed_tree.specs.Language.{Exp, Val, Name, Do, If, Group, Label, While, For, Try, NoFunction, null, unit, let_in, then, var_in, Switch, ACase, NoCase}
use Rattle.mo_meaning.specs.ExampleTypes.{nat}
use Rattle.mo_meaning.specs.BenchRows.{goes, comes, the_array, the_variable, ask_g, ask_b}
use Rattle.mo_meaning.specs.Playing.{Items, calls, queries, replied, trapped_call, called, empty, nat_message}
use Rattle.mo_meaning.specs.Writing.{number, true_exp, false_exp, operate, some, read, write, write_element, add_to, plus, times, await, break, call, built_in, method_of, by_option, assert_false, trap_x, local, exps}

-- ---- another execution comes between the left side and the right side

-- `n := n + (await o.g())`, and `n += await o.g()`
abbrev pub sums : Exp
sums = write (the_variable 0) (plus (read (the_variable 0)) (await (ask_g 0)))

abbrev pub updates : Exp
updates = add_to (the_variable 0) (await (ask_g 0))

abbrev pub left_side : Exp → Option Items
left_side body = goes [] body (calls (codes "set") ∷ event.Reply 0 (nat_message 5) ∷ queries (codes "get") ∷ [])

abbrev pub wanted_left_side : Option Items
wanted_left_side = comes (called 0 (codes "g") ∷ replied 1 empty ∷ replied 0 empty ∷ replied 2 (nat_message 6) ∷ [])

-- ---- `n := 7; a[3] := await o.g()`: the bound is tested when the value is there

abbrev pub bound_after : Option Items
bound_after =
    goes [] (then (write (the_variable 0) (number 7)) (write_element (the_array 0) (number 3) (await (ask_g 0))))
    (event.Reply 0 (nat_message 5) ∷ queries (codes "get") ∷ [])

abbrev pub wanted_bound_after : Option Items
wanted_bound_after = comes (called 0 (codes "g") ∷ trapped_call 0 (codes "index out of bounds") ∷ replied 1 (nat_message 7) ∷ [])

-- ---- bodies that trap: `a[5] := Debug.trap("x")`, `a[5] += Debug.trap("x")`, `try { assert false } catch (_) {}`,
-- `ignore Array.tabulate<Nat>(300, func i = Debug.trap("x"))`

abbrev pub trap_at : Exp
trap_at = write_element (the_array 0) (number 5) trap_x

abbrev pub update_at : Exp
update_at = add_to (operate op.Element (the_array 0 ∷ number 5 ∷ [])) trap_x

abbrev pub no_catch : Exp
no_catch = Try assert_false Wildcard (Val unit)

-- `switch (5) { case 3 {} }`
abbrev pub no_case : Exp
no_case = Switch (number 5) (ACase (Constant (part.Number (pos 3))) (Val unit) NoCase)

abbrev pub tabulate_traps : Exp
tabulate_traps = then (call (built_in member.ArrayTabulate) (number 300 ∷ Group (local 3 (Bind ∷ []) trap_x NoFunction) (Name 0) ∷ [])) (Val unit)

-- ---- bodies that give a number

-- `ignore (false and (await o.b())); 3`
abbrev pub short : Exp
short = then (If false_exp (await (ask_b 0)) false_exp) (number 3)

-- `ignore (true or (await o.b())); 4`
abbrev pub short_or : Exp
short_or = then (If true_exp true_exp (await (ask_b 0))) (number 4)

-- `var s = 0; for (x in a.vals()) { a[1] := 9; s := s * 10 + x }; s`
abbrev pub live_values : Exp
live_values = var_in (number 0) (then
    (For Bind (call (method_of member.ArrayVals (the_array 1)) [])
    (then (write_element (the_array 2) (number 1) (number 9)) (write (Name 1) (plus (times (read (Name 1)) (number 10)) (Name 0)))))
    (read (Name 0)))

-- `var s = 0; for (x in a.keys()) { s := s * 10 + x + 1 }; s`
abbrev pub keys : Exp
keys = var_in (number 0) (then
    (For Bind (call (method_of member.ArrayKeys (the_array 1)) []) (write (Name 1) (plus (plus (times (read (Name 1)) (number 10)) (Name 0)) (number 1))))
    (read (Name 0)))

-- `var i = 0; label l loop { i += 1; if (i == 2) continue l; if (i > 3) break l; n := n * 10 + i }; n`
abbrev pub loops : Exp
loops = var_in (number 0) (then
    (Label (While true_exp (Label
    (then (add_to (Name 0) (number 1))
    (then (If (operate (op.Equal nat) (read (Name 0) ∷ number 2 ∷ [])) (break 0 (Val unit)) (Val unit))
    (then (If (operate (op.Compare comparison.Greater (scalar.Number kind.Nat)) (read (Name 0) ∷ number 3 ∷ [])) (break 1 (Val unit)) (Val unit))
    (write (the_variable 1) (plus (times (read (the_variable 1)) (number 10)) (read (Name 0))))))))))
    (read (the_variable 1)))

-- `switch (do ? { (null : ?Nat)! + 1 }) { case null 8; case (?x) x }`, and with `?5` in the place of null
abbrev pub optional : Exp → Exp
optional e = by_option (Label (some (plus (Do (action.Unwrap 0) (exps (e ∷ []))) (number 1)))) (number 8) Bind (Name 0)

-- `Array.tabulate<Nat>(3, func i = i + 1)[2]`
abbrev pub tabulates : Exp
tabulates =
    operate op.Element
    (call (built_in member.ArrayTabulate) (number 3 ∷ Group (local 3 (Bind ∷ []) (plus (Name 0) (number 1)) NoFunction) (Name 0) ∷ []) ∷ number 2 ∷ [])

-- `let b = Array.init<Nat>(2, 7); b[0] := 1; Array.freeze<Nat>(b)[0] + Array.freeze<Nat>(Array.thaw<Nat>(Array.freeze<Nat>(b)))[1]`
abbrev pub frozen : Exp → Exp
frozen e = call (built_in member.ArrayFreeze) (e ∷ [])

abbrev pub copies : Exp
copies =
    let_in Bind (call (built_in member.ArrayInit) (number 2 ∷ number 7 ∷ []))
    (then (write_element (Name 0) (number 0) (number 1))
    (plus (operate op.Element (frozen (Name 0) ∷ number 0 ∷ []))
    (operate op.Element (frozen (call (built_in member.ArrayThaw) (frozen (Name 0) ∷ [])) ∷ number 1 ∷ []))))

abbrev pub gives : Exp → Option Items
gives body = goes (nat ∷ []) body []

abbrev pub is : ℕ → Option Items
is n = comes (replied 0 (nat_message n) ∷ [])

abbrev pub traps : Exp → Option Items
traps body = goes [] body []

abbrev pub fails : List ℕ → Option Items
fails text = comes (trapped_call 0 text ∷ [])

abbrev pub orders : List (Option Items)
orders =
    left_side sums ∷ left_side updates ∷ bound_after
    ∷ traps trap_at ∷ traps update_at ∷ traps no_catch ∷ traps tabulate_traps ∷ traps no_case
    ∷ gives short ∷ gives short_or ∷ gives live_values ∷ gives keys ∷ gives loops ∷ gives (optional (Val null)) ∷ gives (optional (some (number 5)))
    ∷ gives tabulates ∷ gives copies ∷ []

abbrev pub wanted_orders : List (Option Items)
wanted_orders =
    wanted_left_side ∷ wanted_left_side ∷ wanted_bound_after
    ∷ fails (codes "x") ∷ fails (codes "index out of bounds") ∷ fails (codes "assertion failed") ∷ fails (codes "x") ∷ fails (codes "pattern failed")
    ∷ is 3 ∷ is 4 ∷ is 19 ∷ is 12 ∷ is 113 ∷ is 8 ∷ is 6
    ∷ is 3 ∷ is 8 ∷ []
