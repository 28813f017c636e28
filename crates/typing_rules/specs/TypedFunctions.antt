-- Programs that are typed: functions.
use Rattle.std.specs.Prelude.{true, false, List, [], ◌∷◌, Some, None, codes}
use Rattle.mo_syntax.specs.declared.operators.BinaryOperator.TheVariants as op
use Rattle.mo_syntax.specs.declared.types.Sharing.TheVariants as sharing
use Rattle.typing_rules.specs.AbstractSyntax as p
use Rattle.typing_rules.specs.Rows.{Row, accepted, actor, program, token}

-- none of them is at fault
abbrev pub typed_functions : List Row
typed_functions =
    -- actor { func f<T <: Int>(x : T) : T { x }; let y = f<Nat>(1); let g = func (n : Nat) : Nat { n + 1 }; let h : Nat -> Nat = func n { n }; let z = h(g(2)) }
    accepted
    (actor
    (p.Then false 2
    (p.Func (token 3 (codes "f"))
    (record {
      generics = record { name = (token 5 (codes "T")); bound = (Some (p.node 7 (p.Use (codes "Int") p.Nil))) } ∷ [];
      parameters =
          (p.Cons (p.pattern 10 (p.Annotated (p.pattern 10 (p.Variable (codes "x"))) (p.node 12 (p.Use (codes "T") p.Nil))))
          p.Nil);
      result = (Some (p.node 15 (p.Use (codes "T") p.Nil)));
    }) (p.exp 16 (p.Block (p.Then false 17 (p.Evaluate (p.exp 17 (p.Name (codes "x")))) p.End))))
    (p.Then false 20
    (p.Let (p.pattern 21 (p.Variable (codes "y")))
    (p.exp 23
    (p.Call (p.exp 23 (p.Name (codes "f"))) (Some ((p.node 25 (p.Use (codes "Nat") p.Nil)) ∷ []))
    (p.Cons (p.exp 28 (p.Constant (p.Number 1))) p.Nil))))
    (p.Then false 31
    (p.Let (p.pattern 32 (p.Variable (codes "g")))
    (p.exp 34
    (p.Function
    (record {
      generics = [];
      parameters =
          (p.Cons
          (p.pattern 36
          (p.Annotated (p.pattern 36 (p.Variable (codes "n")))
          (p.node 38 (p.Use (codes "Nat") p.Nil)))) p.Nil);
      result = (Some (p.node 41 (p.Use (codes "Nat") p.Nil)));
    })
    (p.exp 42
    (p.Block
    (p.Then false 43
    (p.Evaluate
    (p.exp 43
    (p.Binary op.Add (p.exp 43 (p.Name (codes "n")))
    (p.exp 45 (p.Constant (p.Number 1)))))) p.End))))))
    (p.Then false 48
    (p.Let
    (p.pattern 49
    (p.Annotated (p.pattern 49 (p.Variable (codes "h")))
    (p.node 51
    (p.Function sharing.Local (p.Cons (p.node 51 (p.Use (codes "Nat") p.Nil)) p.Nil)
    (p.node 53 (p.Use (codes "Nat") p.Nil))))))
    (p.exp 55
    (p.Function
    (record {
      generics = [];
      parameters = (p.Cons (p.pattern 56 (p.Variable (codes "n"))) p.Nil);
      result = None;
    }) (p.exp 57 (p.Block (p.Then false 58 (p.Evaluate (p.exp 58 (p.Name (codes "n")))) p.End))))))
    (p.Then false 61
    (p.Let (p.pattern 62 (p.Variable (codes "z")))
    (p.exp 64
    (p.Call (p.exp 64 (p.Name (codes "h"))) None
    (p.Cons
    (p.exp 66
    (p.Call (p.exp 66 (p.Name (codes "g"))) None
    (p.Cons (p.exp 68 (p.Constant (p.Number 2))) p.Nil))) p.Nil)))) p.End)))))) ∷
    -- actor { class C(n : Nat) { var m = n; public func get() : Nat { m } }; let c = C(1); let d : C = c; object o { public let x : Nat = 1 }; let e = o.x + d.get() }
    accepted
    (actor
    (p.Then false 2
    (p.Class (token 3 (codes "C"))
    (record {
      generics = [];
      parameters =
          (p.Cons (p.pattern 5 (p.Annotated (p.pattern 5 (p.Variable (codes "n"))) (p.node 7 (p.Use (codes "Nat") p.Nil))))
          p.Nil);
      result = None;
    })
    (p.Then false 10 (p.Var false (token 11 (codes "m")) None (p.exp 13 (p.Name (codes "n"))))
    (p.Then true 15
    (p.Func (token 17 (codes "get"))
    (record { generics = []; parameters = p.Nil; result = (Some (p.node 21 (p.Use (codes "Nat") p.Nil))) })
    (p.exp 22 (p.Block (p.Then false 23 (p.Evaluate (p.exp 23 (p.Name (codes "m")))) p.End)))) p.End)))
    (p.Then false 27
    (p.Let (p.pattern 28 (p.Variable (codes "c")))
    (p.exp 30 (p.Call (p.exp 30 (p.Name (codes "C"))) None (p.Cons (p.exp 32 (p.Constant (p.Number 1))) p.Nil))))
    (p.Then false 35
    (p.Let (p.pattern 36 (p.Annotated (p.pattern 36 (p.Variable (codes "d"))) (p.node 38 (p.Use (codes "C") p.Nil))))
    (p.exp 40 (p.Name (codes "c"))))
    (p.Then false 42
    (p.NamedObject (token 43 (codes "o"))
    (p.Then true 45
    (p.Let
    (p.pattern 47
    (p.Annotated (p.pattern 47 (p.Variable (codes "x"))) (p.node 49 (p.Use (codes "Nat") p.Nil))))
    (p.exp 51 (p.Constant (p.Number 1)))) p.End))
    (p.Then false 54
    (p.Let (p.pattern 55 (p.Variable (codes "e")))
    (p.exp 57
    (p.Binary op.Add (p.exp 57 (p.Member (p.exp 57 (p.Name (codes "o"))) (codes "x")))
    (p.exp 61 (p.Call (p.exp 61 (p.Member (p.exp 61 (p.Name (codes "d"))) (codes "get"))) None p.Nil)))))
    p.End)))))) ∷
    -- actor { type P<T> = (T, T); let p : P<Nat> = (1, 2); let q = p.0; let r = object { public func f(n : Nat) : Nat { n } }; let s = r.f(1) }
    accepted
    (actor
    (p.Then false 2
    (p.TypeAlias (token 3 (codes "P")) ((token 5 (codes "T")) ∷ [])
    (p.node 8 (p.Tuple (p.Cons (p.node 9 (p.Use (codes "T") p.Nil)) (p.Cons (p.node 11 (p.Use (codes "T") p.Nil)) p.Nil)))))
    (p.Then false 14
    (p.Let
    (p.pattern 15
    (p.Annotated (p.pattern 15 (p.Variable (codes "p")))
    (p.node 17 (p.Use (codes "P") (p.Cons (p.node 19 (p.Use (codes "Nat") p.Nil)) p.Nil)))))
    (p.exp 22 (p.Tuple (p.Cons (p.exp 23 (p.Constant (p.Number 1))) (p.Cons (p.exp 25 (p.Constant (p.Number 2))) p.Nil)))))
    (p.Then false 28 (p.Let (p.pattern 29 (p.Variable (codes "q"))) (p.exp 31 (p.Projection (p.exp 31 (p.Name (codes "p"))) 0)))
    (p.Then false 35
    (p.Let (p.pattern 36 (p.Variable (codes "r")))
    (p.exp 38
    (p.ObjectBlock
    (p.Then true 40
    (p.Func (token 42 (codes "f"))
    (record {
      generics = [];
      parameters =
          (p.Cons
          (p.pattern 44
          (p.Annotated (p.pattern 44 (p.Variable (codes "n")))
          (p.node 46 (p.Use (codes "Nat") p.Nil)))) p.Nil);
      result = (Some (p.node 49 (p.Use (codes "Nat") p.Nil)));
    })
    (p.exp 50 (p.Block (p.Then false 51 (p.Evaluate (p.exp 51 (p.Name (codes "n")))) p.End))))
    p.End))))
    (p.Then false 55
    (p.Let (p.pattern 56 (p.Variable (codes "s")))
    (p.exp 58
    (p.Call (p.exp 58 (p.Member (p.exp 58 (p.Name (codes "r"))) (codes "f"))) None
    (p.Cons (p.exp 62 (p.Constant (p.Number 1))) p.Nil)))) p.End)))))) ∷
    -- import Array "mo:base/Array"; import Debug "mo:base/Debug"; import Nat "mo:base/Nat"; actor { let a = Array.tabulate<Nat>(2, func n { n }); let f = Debug.print; f(Nat.toText(a[0])) }
    accepted
    (program ((codes "Array", codes "mo:base/Array") ∷ (codes "Debug", codes "mo:base/Debug") ∷ (codes "Nat", codes "mo:base/Nat") ∷ []) None
    (p.Then false 14
    (p.Let (p.pattern 15 (p.Variable (codes "a")))
    (p.exp 17
    (p.Call (p.exp 17 (p.Member (p.exp 17 (p.Name (codes "Array"))) (codes "tabulate")))
    (Some ((p.node 21 (p.Use (codes "Nat") p.Nil)) ∷ []))
    (p.Cons (p.exp 24 (p.Constant (p.Number 2)))
    (p.Cons
    (p.exp 26
    (p.Function
    (record {
      generics = [];
      parameters = (p.Cons (p.pattern 27 (p.Variable (codes "n"))) p.Nil);
      result = None;
    }) (p.exp 28 (p.Block (p.Then false 29 (p.Evaluate (p.exp 29 (p.Name (codes "n")))) p.End)))))
    p.Nil)))))
    (p.Then false 33
    (p.Let (p.pattern 34 (p.Variable (codes "f"))) (p.exp 36 (p.Member (p.exp 36 (p.Name (codes "Debug"))) (codes "print"))))
    (p.Then false 40
    (p.Evaluate
    (p.exp 40
    (p.Call (p.exp 40 (p.Name (codes "f"))) None
    (p.Cons
    (p.exp 42
    (p.Call (p.exp 42 (p.Member (p.exp 42 (p.Name (codes "Nat"))) (codes "toText"))) None
    (p.Cons
    (p.exp 46
    (p.Index (p.exp 46 (p.Name (codes "a"))) (p.exp 48 (p.Constant (p.Number 0)))))
    p.Nil))) p.Nil)))) p.End)))) ∷
    -- import Principal "mo:base/Principal"; actor Self { public shared (c) func who() : async Principal { c.caller }; public shared { caller } func same() : async Bool { caller == Principal.fromActor(Self) } }
    accepted
    (program ((codes "Principal", codes "mo:base/Principal") ∷ []) (Some (codes "Self"))
    (p.Then true 7
    (p.Method false (Some (p.pattern 10 (p.Variable (codes "c")))) (token 13 (codes "who"))
    (record
    { generics = []; parameters = p.Nil; result = (Some (p.node 17 (p.Async (p.node 18 (p.Use (codes "Principal") p.Nil))))) })
    (p.exp 19 (p.Block (p.Then false 20 (p.Evaluate (p.exp 20 (p.Member (p.exp 20 (p.Name (codes "c"))) (codes "caller")))) p.End))))
    (p.Then true 25
    (p.Method false
    (Some
    (p.pattern 27
    (p.Object (p.Field (token 28 (codes "caller")) (p.pattern 28 (p.Variable (codes "caller"))) p.NoFields))))
    (token 31 (codes "same"))
    (record
    { generics = []; parameters = p.Nil; result = (Some (p.node 35 (p.Async (p.node 36 (p.Use (codes "Bool") p.Nil))))) })
    (p.exp 37
    (p.Block
    (p.Then false 38
    (p.Evaluate
    (p.exp 38
    (p.Binary op.Equal (p.exp 38 (p.Name (codes "caller")))
    (p.exp 40
    (p.Call
    (p.exp 40 (p.Member (p.exp 40 (p.Name (codes "Principal"))) (codes "fromActor")))
    None (p.Cons (p.exp 44 (p.Name (codes "Self"))) p.Nil)))))) p.End)))) p.End))) ∷
    []
