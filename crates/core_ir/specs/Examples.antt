-- A program whose methods await in arguments, in loops, and under labels and handlers, and whose functions share variables, call one
-- another and make further functions.
use Rattle.std.specs.Prelude.{ℕ, [], ◌∷◌, true, false, codes}
use Rattle.mo_types.specs.declared.datum.Datum.TheVariants as part
use Rattle.mo_types.specs.declared.node.Node.TheVariants as node
use Rattle.mo_values.specs.declared.operation.Operation.TheVariants as op
use Rattle.mo_values.specs.Shapes.{Bytes}
use Rattle.core_ir.specs.declared.constant.Constant.TheVariants as constant
use Rattle.core_ir.specs.declared.primitive.Primitive.TheVariants as primitive
use Rattle.core_ir.specs.Expressions.{Exp, Constant?, Name, Do, Functions, Loop, Label, Try, Tabulate, Return, Body, Core}
use Rattle.core_ir.specs.Writing.{exps, num, nothing, let_in, does, operation, add, sub, mul, var_in, get, add_to, print_number, message, if_same, if_greater, break_with, call, throw, await, ask, body, group, method}

-- the methods of the program below
abbrev pub method_count : ℕ
method_count = 13

abbrev asked : Exp
asked = ask method_count

-- ---- awaits. Of a method, name 0 is the context of the call, and the arguments are behind it.

-- `s += i * 10 + (await o.g()); if (s > 50) break out (s + 1)`
abbrev tried : Exp
tried =
    let_in (add_to 0 (add (mul (get 1) (num 10)) (await asked)))
    (if_greater (get 1) (num 50) (break_with 0 (add (get 1) (num 1))) nothing)

-- `catch e { Debug.print(Error.message(e)); s += 7 }`
abbrev caught : Exp
caught = let_in (does primitive.Print (message (Name 0) ∷ [])) (add_to 2 (num 7))

-- `var i = 0; var s = 0; let r = label out : Nat loop { try {..} catch e {..}; i += 1 }; Debug.print(Nat.toText(r)); r`
abbrev awaiting : Exp
awaiting =
    var_in (num 0) (var_in (num 0)
    (let_in (Label (Loop (let_in (Try tried caught) (add_to 2 (num 1)))))
    (let_in (print_number (Name 0)) (Name 1))))

-- `let a = o.g(); (await a) + (await a)`
abbrev again : Exp
again = let_in asked (add (await (Name 0)) (await (Name 0)))

-- `try { loop { ignore o.g() } } catch e { Error.message(e) }`
abbrev refused : Exp
refused = Try (Loop (let_in asked nothing)) (message (Name 0))

-- `func f(a, b) { a * 10 + b }; f(await o.g(), f(await o.g(), 2))`, where f is group 5
abbrev joined : Body
joined = body 2 7 (add (mul (Name 0) (num 10)) (Name 1))

abbrev nested : Exp
nested = Functions 5 (call (Name 0) (await asked ∷ call (Name 0) (await asked ∷ num 2 ∷ []) ∷ []))

-- `var i = 0; var s = 0; label out loop { i += 1; if (i > 3) break out; let v = await o.g(); if (v == 5) continue out; s += v }; s`
abbrev continued : Exp
continued =
    var_in (num 0) (var_in (num 0)
    (let_in
    (Label (Loop (Label
    (let_in (add_to 1 (num 1))
    (let_in (if_greater (get 2) (num 3) (break_with 1 nothing) nothing)
    (let_in (await asked)
    (let_in (if_same (Name 0) (num 5) (break_with 0 nothing) nothing)
    (add_to 4 (Name 1)))))))))
    (get 1)))

-- `var i = 0; let r = label out : Nat loop { try { break out (await o.g()) } catch _ { i += await o.g() } }; r * 100 + i`
abbrev retried : Exp
retried =
    var_in (num 0)
    (let_in (Label (Loop (Try (break_with 0 (await asked)) (add_to 1 (await asked)))))
    (add (mul (Name 0) (num 100)) (get 1)))

-- `var c = 1; func inc() { c += 10 }; let v = await o.g(); inc(); c + v`, where inc is group 6
abbrev increment : Body
increment = body 0 4 (add_to 1 (num 10))

abbrev shared : Exp
shared = var_in (num 1) (Functions 6 (let_in (await asked) (let_in (call (Name 1) []) (add (get 3) (Name 1)))))

-- ---- labels, handlers and loops without an await

-- `label l : Nat { (try { if (n == 4) throw Error.reject("t"); 1 } catch e { break l (if (n == 4) 2 else 3) }) + 10 }`
abbrev whole : Exp
whole =
    Label (add
    (Try (let_in (if_same (Name 1) (num 4) (throw (codes "t")) nothing) (num 1)) (break_with 0 (if_same (Name 2) (num 4) (num 2) (num 3))))
    (num 10))

-- `label l : Nat { let a = try { break l 5 } catch _ { 1 }; a + 1 }`
abbrev leaving : Exp
leaving = Label (let_in (Try (break_with 0 (num 5)) (num 1)) (add (Name 0) (num 1)))

-- `let a = [var 3, 4]; var i = 0; var s = 0; while (a.size() > i) { s += a[i]; i += 1 }; s`, with `return` for the end of the loop
abbrev looped : Exp
looped =
    let_in (operation op.MakeArray (does primitive.New (num 3 ∷ []) ∷ does primitive.New (num 4 ∷ []) ∷ []))
    (var_in (num 0) (var_in (num 0)
    (Loop (if_greater (operation op.ArraySize (Name 2 ∷ [])) (get 1)
    (let_in (add_to 0 (does primitive.Read (operation op.Element (Name 2 ∷ get 1 ∷ []) ∷ []))) (add_to 2 (num 1)))
    (Do Return (exps (get 0 ∷ [])))))))

-- ---- functions. Of a function the arguments come first, then the functions of its group.

-- `func even(x) { if (x == 0) { c += k; true } else odd(x - 1) }; func odd(x) { if (x == 0) false else even(x - 1) }`
abbrev even : Body
even = body 1 14 (if_same (Name 0) (num 0) (let_in (add_to 3 (Name 4)) (Constant? (constant.Leaf (part.Flag true)))) (call (Name 2) (sub (Name 0) (num 1) ∷ [])))

abbrev odd : Body
odd = body 1 9 (if_same (Name 0) (num 0) (Constant? (constant.Leaf (part.Flag false))) (call (Name 1) (sub (Name 0) (num 1) ∷ [])))

-- `func get() { c }`, `func inc(d) { c += d }`
abbrev reader : Body
reader = body 0 1 (get 3)

abbrev adder : Body
adder = body 1 4 (add_to 5 (Name 0))

-- `func make(a) { func () { a + k } }`
abbrev inner : Body
inner = body 0 3 (add (Name 1) (Name 8))

abbrev maker : Body
maker = body 1 6 (Functions 3 (Name 0))

-- `let k = 3; var c = 10; ..; ignore even(n); inc(5); Debug.print(Nat.toText(get())); make(100)()`
abbrev sharing : Exp
sharing =
    let_in (num 3) (var_in (num 10)
    (Functions 0 (Functions 1 (Functions 2 (Functions 4
    (let_in (call (Name 3) (Name 8 ∷ []))
    (let_in (call (Name 2) (num 5 ∷ []))
    (let_in (print_number (call (Name 4) []))
    (call (call (Name 3) (num 100 ∷ [])) [])))))))))

-- `Array.tabulate(3, func i = i * n)`, where the function is group 7
abbrev scaled : Body
scaled = body 1 4 (mul (Name 0) (Name 3))

abbrev tabulating : Exp
tabulating = Functions 7 (Do Tabulate (exps (num 3 ∷ Name 0 ∷ [])))

-- ---- the program

-- `let o : actor { g : shared () -> async Nat } = actor ".."`
abbrev pub other : Bytes
other = 4 ∷ []

abbrev start : Body
start = body 2 4 (operation op.MakeTuple (Constant? (constant.Leaf (part.Actor other)) ∷ []))

-- the one stable variable holds 7
abbrev save : Body
save = body 0 1 (operation op.MakeTuple (num 7 ∷ []))

abbrev pub examples : Core
examples = record {
  head = λ t. node.Any;
  groups =
      group 4 (even ∷ odd ∷ []) ∷ group 6 (reader ∷ []) ∷ group 7 (adder ∷ []) ∷ group 10 (inner ∷ []) ∷ group 8 (maker ∷ [])
      ∷ group 1 (joined ∷ []) ∷ group 2 (increment ∷ []) ∷ group 2 (scaled ∷ []) ∷ [];
  methods =
      method (codes "awaiting") 0 50 awaiting
      ∷ method (codes "again") 0 9 again
      ∷ method (codes "refused") 0 8 refused
      ∷ method (codes "nested") 0 16 nested
      ∷ method (codes "continued") 0 33 continued
      ∷ method (codes "retried") 0 23 retried
      ∷ method (codes "shared") 0 17 shared
      ∷ method (codes "whole") 1 16 whole
      ∷ method (codes "leaving") 0 9 leaving
      ∷ method (codes "looped") 0 24 looped
      ∷ method (codes "sharing") 1 70 sharing
      ∷ method (codes "tabulating") 1 9 tabulating
      ∷ method (codes "__resume") 0 0 nothing
      ∷ [];
  stable = record { name = codes "x"; of_type = record { index = 0 } } ∷ [];
  save = save;
  start = start;
}
