-- Programs that are typed: actors.
use Rattle.std.specs.Prelude.{true, false, List, [], ◌∷◌, Some, None, codes}
use Rattle.mo_syntax.specs.declared.operators.BinaryOperator.TheVariants as op
use Rattle.mo_syntax.specs.declared.types.Sharing.TheVariants as sharing
use Rattle.typing_rules.specs.AbstractSyntax as p
use Rattle.typing_rules.specs.Rows.{Row, accepted, actor, program, token}

-- none of them is at fault
abbrev pub typed_actors : List Row
typed_actors =
    -- actor { public query func answer() : async Nat { 42 } }
    accepted
    (actor
    (p.Then true 2
    (p.Method true None (token 5 (codes "answer"))
    (record { generics = []; parameters = p.Nil; result = (Some (p.node 9 (p.Async (p.node 10 (p.Use (codes "Nat") p.Nil))))) })
    (p.exp 11 (p.Block (p.Then false 12 (p.Evaluate (p.exp 12 (p.Constant (p.Number 42)))) p.End)))) p.End)) ∷
    -- actor { type L = ?(Nat, L); public query func l() : async L { ?(1, ?(2, null)) } }
    accepted
    (actor
    (p.Then false 2
    (p.TypeAlias (token 3 (codes "L")) ([])
    (p.node 5
    (p.Optional
    (p.node 6
    (p.Tuple (p.Cons (p.node 7 (p.Use (codes "Nat") p.Nil)) (p.Cons (p.node 9 (p.Use (codes "L") p.Nil)) p.Nil)))))))
    (p.Then true 12
    (p.Method true None (token 15 (codes "l"))
    (record { generics = []; parameters = p.Nil; result = (Some (p.node 19 (p.Async (p.node 20 (p.Use (codes "L") p.Nil))))) })
    (p.exp 21
    (p.Block
    (p.Then false 22
    (p.Evaluate
    (p.exp 22
    (p.Optional
    (p.exp 23
    (p.Tuple
    (p.Cons (p.exp 24 (p.Constant (p.Number 1)))
    (p.Cons
    (p.exp 26
    (p.Optional
    (p.exp 27
    (p.Tuple
    (p.Cons (p.exp 28 (p.Constant (p.Number 2)))
    (p.Cons (p.exp 30 (p.Constant p.Null)) p.Nil))))))
    p.Nil))))))) p.End)))) p.End))) ∷
    -- actor { stable var n : Nat = 0; public func inc() : async Nat { n += 1; n }; public query func get() : async Nat { n } }
    accepted
    (actor
    (p.Then false 2 (p.Var true (token 4 (codes "n")) (Some (p.node 6 (p.Use (codes "Nat") p.Nil))) (p.exp 8 (p.Constant (p.Number 0))))
    (p.Then true 10
    (p.Method false None (token 12 (codes "inc"))
    (record
    { generics = []; parameters = p.Nil; result = (Some (p.node 16 (p.Async (p.node 17 (p.Use (codes "Nat") p.Nil))))) })
    (p.exp 18
    (p.Block
    (p.Then false 19
    (p.Evaluate
    (p.exp 19 (p.AssignBy op.Add (p.exp 19 (p.Name (codes "n"))) (p.exp 21 (p.Constant (p.Number 1))))))
    (p.Then false 23 (p.Evaluate (p.exp 23 (p.Name (codes "n")))) p.End)))))
    (p.Then true 26
    (p.Method true None (token 29 (codes "get"))
    (record {
      generics = [];
      parameters = p.Nil;
      result = (Some (p.node 33 (p.Async (p.node 34 (p.Use (codes "Nat") p.Nil)))));
    }) (p.exp 35 (p.Block (p.Then false 36 (p.Evaluate (p.exp 36 (p.Name (codes "n")))) p.End)))) p.End)))) ∷
    -- actor { var n = 0; let o = actor "aaaaa-aa" : actor { f : shared () -> async () }; public func go() : async () { n += 1; await o.f(); n += 1; assert false }; public func add() : async () { let k = n; await o.f(); n := k + 1 } }
    accepted
    (actor
    (p.Then false 2 (p.Var false (token 3 (codes "n")) None (p.exp 5 (p.Constant (p.Number 0))))
    (p.Then false 7
    (p.Let (p.pattern 8 (p.Variable (codes "o")))
    (p.exp 10
    (p.Annotated (p.exp 10 (p.ActorReference (codes "aaaaa-aa")))
    (p.node 13
    (p.Actor
    (p.Field false (token 15 (codes "f"))
    (p.node 17 (p.Function sharing.Shared p.Nil (p.node 21 (p.Async (p.node 22 (p.Tuple p.Nil))))))
    p.NoFields))))))
    (p.Then true 26
    (p.Method false None (token 28 (codes "go"))
    (record { generics = []; parameters = p.Nil; result = (Some (p.node 32 (p.Async (p.node 33 (p.Tuple p.Nil))))) })
    (p.exp 35
    (p.Block
    (p.Then false 36
    (p.Evaluate
    (p.exp 36
    (p.AssignBy op.Add (p.exp 36 (p.Name (codes "n"))) (p.exp 38 (p.Constant (p.Number 1))))))
    (p.Then false 40
    (p.Evaluate
    (p.exp 40
    (p.Await
    (p.exp 41
    (p.Call (p.exp 41 (p.Member (p.exp 41 (p.Name (codes "o"))) (codes "f")))
    None p.Nil)))))
    (p.Then false 47
    (p.Evaluate
    (p.exp 47
    (p.AssignBy op.Add (p.exp 47 (p.Name (codes "n")))
    (p.exp 49 (p.Constant (p.Number 1))))))
    (p.Then false 51 (p.Evaluate (p.exp 51 (p.Assert (p.exp 52 (p.Constant p.False))))) p.End)))))))
    (p.Then true 55
    (p.Method false None (token 57 (codes "add"))
    (record { generics = []; parameters = p.Nil; result = (Some (p.node 61 (p.Async (p.node 62 (p.Tuple p.Nil))))) })
    (p.exp 64
    (p.Block
    (p.Then false 65 (p.Let (p.pattern 66 (p.Variable (codes "k"))) (p.exp 68 (p.Name (codes "n"))))
    (p.Then false 70
    (p.Evaluate
    (p.exp 70
    (p.Await
    (p.exp 71
    (p.Call
    (p.exp 71 (p.Member (p.exp 71 (p.Name (codes "o"))) (codes "f")))
    None p.Nil)))))
    (p.Then false 77
    (p.Evaluate
    (p.exp 77
    (p.Assign (p.exp 77 (p.Name (codes "n")))
    (p.exp 79
    (p.Binary op.Add (p.exp 79 (p.Name (codes "k")))
    (p.exp 81 (p.Constant (p.Number 1)))))))) p.End)))))) p.End))))) ∷
    -- actor { let a = actor "ryjl3-tyaaa-aaaaa-aaaba-cai" : actor { f : shared () -> async () }; let b = actor "rrkah-fqaaa-aaaaa-aaaaq-cai" : actor { } }
    accepted
    (actor
    (p.Then false 2
    (p.Let (p.pattern 3 (p.Variable (codes "a")))
    (p.exp 5
    (p.Annotated (p.exp 5 (p.ActorReference (codes "ryjl3-tyaaa-aaaaa-aaaba-cai")))
    (p.node 8
    (p.Actor
    (p.Field false (token 10 (codes "f"))
    (p.node 12 (p.Function sharing.Shared p.Nil (p.node 16 (p.Async (p.node 17 (p.Tuple p.Nil))))))
    p.NoFields))))))
    (p.Then false 21
    (p.Let (p.pattern 22 (p.Variable (codes "b")))
    (p.exp 24
    (p.Annotated (p.exp 24 (p.ActorReference (codes "rrkah-fqaaa-aaaaa-aaaaq-cai"))) (p.node 27 (p.Actor p.NoFields)))))
    p.End))) ∷
    -- actor { public query func f(a : Nat) : async Nat { a - 1 }; public query func g(a : Int) : async Int { a - 1 } }
    accepted
    (actor
    (p.Then true 2
    (p.Method true None (token 5 (codes "f"))
    (record {
      generics = [];
      parameters =
          (p.Cons (p.pattern 7 (p.Annotated (p.pattern 7 (p.Variable (codes "a"))) (p.node 9 (p.Use (codes "Nat") p.Nil))))
          p.Nil);
      result = (Some (p.node 12 (p.Async (p.node 13 (p.Use (codes "Nat") p.Nil)))));
    })
    (p.exp 14
    (p.Block
    (p.Then false 15
    (p.Evaluate
    (p.exp 15 (p.Binary op.Subtract (p.exp 15 (p.Name (codes "a"))) (p.exp 17 (p.Constant (p.Number 1))))))
    p.End))))
    (p.Then true 20
    (p.Method true None (token 23 (codes "g"))
    (record {
      generics = [];
      parameters =
          (p.Cons
          (p.pattern 25
          (p.Annotated (p.pattern 25 (p.Variable (codes "a"))) (p.node 27 (p.Use (codes "Int") p.Nil)))) p.Nil);
      result = (Some (p.node 30 (p.Async (p.node 31 (p.Use (codes "Int") p.Nil)))));
    })
    (p.exp 32
    (p.Block
    (p.Then false 33
    (p.Evaluate
    (p.exp 33 (p.Binary op.Subtract (p.exp 33 (p.Name (codes "a"))) (p.exp 35 (p.Constant (p.Number 1))))))
    p.End)))) p.End))) ∷
    -- actor { public query func who(p : { name : Text; age : Nat }) : async Nat { p.age } }
    accepted
    (actor
    (p.Then true 2
    (p.Method true None (token 5 (codes "who"))
    (record {
      generics = [];
      parameters =
          (p.Cons
          (p.pattern 7
          (p.Annotated (p.pattern 7 (p.Variable (codes "p")))
          (p.node 9
          (p.Object
          (p.Field false (token 10 (codes "name")) (p.node 12 (p.Use (codes "Text") p.Nil))
          (p.Field false (token 14 (codes "age")) (p.node 16 (p.Use (codes "Nat") p.Nil))
          p.NoFields)))))) p.Nil);
      result = (Some (p.node 20 (p.Async (p.node 21 (p.Use (codes "Nat") p.Nil)))));
    })
    (p.exp 22 (p.Block (p.Then false 23 (p.Evaluate (p.exp 23 (p.Member (p.exp 23 (p.Name (codes "p"))) (codes "age")))) p.End))))
    p.End)) ∷
    -- actor { let o = actor "aaaaa-aa" : actor { f : shared () -> async Nat }; public func go() : async Nat { let a = o.f(); let b = o.f(); (await a) + (await b) } }
    accepted
    (actor
    (p.Then false 2
    (p.Let (p.pattern 3 (p.Variable (codes "o")))
    (p.exp 5
    (p.Annotated (p.exp 5 (p.ActorReference (codes "aaaaa-aa")))
    (p.node 8
    (p.Actor
    (p.Field false (token 10 (codes "f"))
    (p.node 12
    (p.Function sharing.Shared p.Nil (p.node 16 (p.Async (p.node 17 (p.Use (codes "Nat") p.Nil))))))
    p.NoFields))))))
    (p.Then true 20
    (p.Method false None (token 22 (codes "go"))
    (record
    { generics = []; parameters = p.Nil; result = (Some (p.node 26 (p.Async (p.node 27 (p.Use (codes "Nat") p.Nil))))) })
    (p.exp 28
    (p.Block
    (p.Then false 29
    (p.Let (p.pattern 30 (p.Variable (codes "a")))
    (p.exp 32 (p.Call (p.exp 32 (p.Member (p.exp 32 (p.Name (codes "o"))) (codes "f"))) None p.Nil)))
    (p.Then false 38
    (p.Let (p.pattern 39 (p.Variable (codes "b")))
    (p.exp 41 (p.Call (p.exp 41 (p.Member (p.exp 41 (p.Name (codes "o"))) (codes "f"))) None p.Nil)))
    (p.Then false 47
    (p.Evaluate
    (p.exp 47
    (p.Binary op.Add (p.exp 48 (p.Await (p.exp 49 (p.Name (codes "a")))))
    (p.exp 53 (p.Await (p.exp 54 (p.Name (codes "b")))))))) p.End)))))) p.End))) ∷
    -- import Array "mo:base/Array"; actor { var a : [var Nat] = [var 0]; public func grow() : async Nat { let n = a.size() * 2; a := Array.init<Nat>(n, 0); n } }
    accepted
    (program ((codes "Array", codes "mo:base/Array") ∷ []) None
    (p.Then false 6
    (p.Var false (token 7 (codes "a")) (Some (p.node 9 (p.Array true (p.node 11 (p.Use (codes "Nat") p.Nil)))))
    (p.exp 14 (p.Array true (p.Cons (p.exp 16 (p.Constant (p.Number 0))) p.Nil))))
    (p.Then true 19
    (p.Method false None (token 21 (codes "grow"))
    (record
    { generics = []; parameters = p.Nil; result = (Some (p.node 25 (p.Async (p.node 26 (p.Use (codes "Nat") p.Nil))))) })
    (p.exp 27
    (p.Block
    (p.Then false 28
    (p.Let (p.pattern 29 (p.Variable (codes "n")))
    (p.exp 31
    (p.Binary op.Multiply
    (p.exp 31
    (p.Call (p.exp 31 (p.Member (p.exp 31 (p.Name (codes "a"))) (codes "size"))) None p.Nil))
    (p.exp 37 (p.Constant (p.Number 2))))))
    (p.Then false 39
    (p.Evaluate
    (p.exp 39
    (p.Assign (p.exp 39 (p.Name (codes "a")))
    (p.exp 41
    (p.Call (p.exp 41 (p.Member (p.exp 41 (p.Name (codes "Array"))) (codes "init")))
    (Some ((p.node 45 (p.Use (codes "Nat") p.Nil)) ∷ []))
    (p.Cons (p.exp 48 (p.Name (codes "n")))
    (p.Cons (p.exp 50 (p.Constant (p.Number 0))) p.Nil)))))))
    (p.Then false 53 (p.Evaluate (p.exp 53 (p.Name (codes "n")))) p.End)))))) p.End))) ∷
    -- import Error "mo:base/Error"; actor { let o = actor "aaaaa-aa" : actor { f : shared () -> async () }; public func a() : async Text { try { await o.f(); "ok" } catch (e) { switch (Error.code(e)) { case (#canister_reject) { Error.message(e) }; case _ { "?" } } } }; public func b() : async () { throw Error.reject("no") } }
    accepted
    (program ((codes "Error", codes "mo:base/Error") ∷ []) None
    (p.Then false 6
    (p.Let (p.pattern 7 (p.Variable (codes "o")))
    (p.exp 9
    (p.Annotated (p.exp 9 (p.ActorReference (codes "aaaaa-aa")))
    (p.node 12
    (p.Actor
    (p.Field false (token 14 (codes "f"))
    (p.node 16 (p.Function sharing.Shared p.Nil (p.node 20 (p.Async (p.node 21 (p.Tuple p.Nil))))))
    p.NoFields))))))
    (p.Then true 25
    (p.Method false None (token 27 (codes "a"))
    (record
    { generics = []; parameters = p.Nil; result = (Some (p.node 31 (p.Async (p.node 32 (p.Use (codes "Text") p.Nil))))) })
    (p.exp 33
    (p.Block
    (p.Then false 34
    (p.Evaluate
    (p.exp 34
    (p.Try
    (p.exp 35
    (p.Block
    (p.Then false 36
    (p.Evaluate
    (p.exp 36
    (p.Await
    (p.exp 37
    (p.Call
    (p.exp 37
    (p.Member (p.exp 37 (p.Name (codes "o")))
    (codes "f"))) None p.Nil)))))
    (p.Then false 43 (p.Evaluate (p.exp 43 (p.Constant (p.Text (codes "ok")))))
    p.End)))) (p.pattern 47 (p.Variable (codes "e")))
    (p.exp 49
    (p.Block
    (p.Then false 50
    (p.Evaluate
    (p.exp 50
    (p.Switch
    (p.exp 52
    (p.Call
    (p.exp 52
    (p.Member (p.exp 52 (p.Name (codes "Error")))
    (codes "code"))) None
    (p.Cons (p.exp 56 (p.Name (codes "e"))) p.Nil)))
    (p.Case (p.pattern 62 (p.Tag (codes "canister_reject")))
    (p.exp 65
    (p.Block
    (p.Then false 66
    (p.Evaluate
    (p.exp 66
    (p.Call
    (p.exp 66
    (p.Member
    (p.exp 66
    (p.Name
    (codes
    "Error")))
    (codes "message")))
    None
    (p.Cons
    (p.exp 70
    (p.Name
    (codes "e")))
    p.Nil)))) p.End)))
    (p.Case (p.pattern 75 p.Wildcard)
    (p.exp 76
    (p.Block
    (p.Then false 77
    (p.Evaluate
    (p.exp 77
    (p.Constant
    (p.Text (codes "?")))))
    p.End))) p.NoCases))))) p.End)))))) p.End))))
    (p.Then true 83
    (p.Method false None (token 85 (codes "b"))
    (record { generics = []; parameters = p.Nil; result = (Some (p.node 89 (p.Async (p.node 90 (p.Tuple p.Nil))))) })
    (p.exp 92
    (p.Block
    (p.Then false 93
    (p.Evaluate
    (p.exp 93
    (p.Throw
    (p.exp 94
    (p.Call (p.exp 94 (p.Member (p.exp 94 (p.Name (codes "Error"))) (codes "reject")))
    None (p.Cons (p.exp 98 (p.Constant (p.Text (codes "no")))) p.Nil)))))) p.End)))) p.End)))) ∷
    -- actor { let o = actor "aaaaa-aa" : actor { g : shared () -> async Nat }; public func go() : async Nat { let q = object { let x = await o.g(); public func h() : Nat { x } }; q.h() } }
    accepted
    (actor
    (p.Then false 2
    (p.Let (p.pattern 3 (p.Variable (codes "o")))
    (p.exp 5
    (p.Annotated (p.exp 5 (p.ActorReference (codes "aaaaa-aa")))
    (p.node 8
    (p.Actor
    (p.Field false (token 10 (codes "g"))
    (p.node 12
    (p.Function sharing.Shared p.Nil (p.node 16 (p.Async (p.node 17 (p.Use (codes "Nat") p.Nil))))))
    p.NoFields))))))
    (p.Then true 20
    (p.Method false None (token 22 (codes "go"))
    (record
    { generics = []; parameters = p.Nil; result = (Some (p.node 26 (p.Async (p.node 27 (p.Use (codes "Nat") p.Nil))))) })
    (p.exp 28
    (p.Block
    (p.Then false 29
    (p.Let (p.pattern 30 (p.Variable (codes "q")))
    (p.exp 32
    (p.ObjectBlock
    (p.Then false 34
    (p.Let (p.pattern 35 (p.Variable (codes "x")))
    (p.exp 37
    (p.Await
    (p.exp 38
    (p.Call
    (p.exp 38
    (p.Member (p.exp 38 (p.Name (codes "o"))) (codes "g")))
    None p.Nil)))))
    (p.Then true 44
    (p.Func (token 46 (codes "h"))
    (record {
      generics = [];
      parameters = p.Nil;
      result = (Some (p.node 50 (p.Use (codes "Nat") p.Nil)));
    })
    (p.exp 51
    (p.Block
    (p.Then false 52 (p.Evaluate (p.exp 52 (p.Name (codes "x")))) p.End))))
    p.End)))))
    (p.Then false 56
    (p.Evaluate
    (p.exp 56 (p.Call (p.exp 56 (p.Member (p.exp 56 (p.Name (codes "q"))) (codes "h"))) None p.Nil)))
    p.End))))) p.End))) ∷
    -- actor { public func spin() : async () { loop { } }; public query func one() : async Nat { 1 } }
    accepted
    (actor
    (p.Then true 2
    (p.Method false None (token 4 (codes "spin"))
    (record { generics = []; parameters = p.Nil; result = (Some (p.node 8 (p.Async (p.node 9 (p.Tuple p.Nil))))) })
    (p.exp 11 (p.Block (p.Then false 12 (p.Evaluate (p.exp 12 (p.Loop (p.exp 13 (p.Block p.End))))) p.End))))
    (p.Then true 17
    (p.Method true None (token 20 (codes "one"))
    (record
    { generics = []; parameters = p.Nil; result = (Some (p.node 24 (p.Async (p.node 25 (p.Use (codes "Nat") p.Nil))))) })
    (p.exp 26 (p.Block (p.Then false 27 (p.Evaluate (p.exp 27 (p.Constant (p.Number 1)))) p.End)))) p.End))) ∷
    []
