-- Programs in which `await`, a call of a shared function, a label or `!` stands where it may not.
use Rattle.std.specs.Prelude.{true, false, List, [], ◌∷◌, Some, None, codes}
use Rattle.mo_syntax.specs.declared.types.Sharing.TheVariants as sharing
use Rattle.typing_rules.specs.declared.condition.Condition.TheVariants as condition
use Rattle.typing_rules.specs.AbstractSyntax as p
use Rattle.typing_rules.specs.Rows.{Row, refused, actor, token}

-- the fault is at the first token of the node
abbrev pub place_first : List Row
place_first =
    -- actor { let o = actor "aaaaa-aa" : actor { f : shared () -> async (); n : shared () -> async Nat; g : shared Nat -> async Nat }; let x = await o.n() }
    refused condition.AsyncPlace 41
    (actor
    (p.Then false 2
    (p.Let (p.pattern 3 (p.Variable (codes "o")))
    (p.exp 5
    (p.Annotated (p.exp 5 (p.ActorReference (codes "aaaaa-aa")))
    (p.node 8
    (p.Actor
    (p.Field false (token 10 (codes "f"))
    (p.node 12 (p.Function sharing.Shared p.Nil (p.node 16 (p.Async (p.node 17 (p.Tuple p.Nil))))))
    (p.Field false (token 20 (codes "n"))
    (p.node 22
    (p.Function sharing.Shared p.Nil
    (p.node 26 (p.Async (p.node 27 (p.Use (codes "Nat") p.Nil))))))
    (p.Field false (token 29 (codes "g"))
    (p.node 31
    (p.Function sharing.Shared (p.Cons (p.node 32 (p.Use (codes "Nat") p.Nil)) p.Nil)
    (p.node 34 (p.Async (p.node 35 (p.Use (codes "Nat") p.Nil)))))) p.NoFields))))))))
    (p.Then false 38
    (p.Let (p.pattern 39 (p.Variable (codes "x")))
    (p.exp 41 (p.Await (p.exp 42 (p.Call (p.exp 42 (p.Member (p.exp 42 (p.Name (codes "o"))) (codes "n"))) None p.Nil)))))
    p.End))) ∷
    -- actor { let o = actor "aaaaa-aa" : actor { f : shared () -> async (); n : shared () -> async Nat; g : shared Nat -> async Nat }; public query func go() : async () { ignore o.f() } }
    refused condition.AsyncPlace 50
    (actor
    (p.Then false 2
    (p.Let (p.pattern 3 (p.Variable (codes "o")))
    (p.exp 5
    (p.Annotated (p.exp 5 (p.ActorReference (codes "aaaaa-aa")))
    (p.node 8
    (p.Actor
    (p.Field false (token 10 (codes "f"))
    (p.node 12 (p.Function sharing.Shared p.Nil (p.node 16 (p.Async (p.node 17 (p.Tuple p.Nil))))))
    (p.Field false (token 20 (codes "n"))
    (p.node 22
    (p.Function sharing.Shared p.Nil
    (p.node 26 (p.Async (p.node 27 (p.Use (codes "Nat") p.Nil))))))
    (p.Field false (token 29 (codes "g"))
    (p.node 31
    (p.Function sharing.Shared (p.Cons (p.node 32 (p.Use (codes "Nat") p.Nil)) p.Nil)
    (p.node 34 (p.Async (p.node 35 (p.Use (codes "Nat") p.Nil)))))) p.NoFields))))))))
    (p.Then true 38
    (p.Method true None (token 41 (codes "go"))
    (record { generics = []; parameters = p.Nil; result = (Some (p.node 45 (p.Async (p.node 46 (p.Tuple p.Nil))))) })
    (p.exp 48
    (p.Block
    (p.Then false 49
    (p.Evaluate
    (p.exp 49
    (p.Ignore
    (p.exp 50
    (p.Call (p.exp 50 (p.Member (p.exp 50 (p.Name (codes "o"))) (codes "f"))) None p.Nil)))))
    p.End)))) p.End))) ∷
    -- actor { let o = actor "aaaaa-aa" : actor { f : shared () -> async (); n : shared () -> async Nat; g : shared Nat -> async Nat }; func g() { ignore o.f() } }
    refused condition.AsyncPlace 44
    (actor
    (p.Then false 2
    (p.Let (p.pattern 3 (p.Variable (codes "o")))
    (p.exp 5
    (p.Annotated (p.exp 5 (p.ActorReference (codes "aaaaa-aa")))
    (p.node 8
    (p.Actor
    (p.Field false (token 10 (codes "f"))
    (p.node 12 (p.Function sharing.Shared p.Nil (p.node 16 (p.Async (p.node 17 (p.Tuple p.Nil))))))
    (p.Field false (token 20 (codes "n"))
    (p.node 22
    (p.Function sharing.Shared p.Nil
    (p.node 26 (p.Async (p.node 27 (p.Use (codes "Nat") p.Nil))))))
    (p.Field false (token 29 (codes "g"))
    (p.node 31
    (p.Function sharing.Shared (p.Cons (p.node 32 (p.Use (codes "Nat") p.Nil)) p.Nil)
    (p.node 34 (p.Async (p.node 35 (p.Use (codes "Nat") p.Nil)))))) p.NoFields))))))))
    (p.Then false 38
    (p.Func (token 39 (codes "g")) (record { generics = []; parameters = p.Nil; result = None })
    (p.exp 42
    (p.Block
    (p.Then false 43
    (p.Evaluate
    (p.exp 43
    (p.Ignore
    (p.exp 44
    (p.Call (p.exp 44 (p.Member (p.exp 44 (p.Name (codes "o"))) (codes "f"))) None p.Nil)))))
    p.End)))) p.End))) ∷
    -- actor { let o = actor "aaaaa-aa" : actor { f : shared () -> async (); n : shared () -> async Nat; g : shared Nat -> async Nat }; public func go() : async () { o.f() } }
    refused condition.AsyncPlace 48
    (actor
    (p.Then false 2
    (p.Let (p.pattern 3 (p.Variable (codes "o")))
    (p.exp 5
    (p.Annotated (p.exp 5 (p.ActorReference (codes "aaaaa-aa")))
    (p.node 8
    (p.Actor
    (p.Field false (token 10 (codes "f"))
    (p.node 12 (p.Function sharing.Shared p.Nil (p.node 16 (p.Async (p.node 17 (p.Tuple p.Nil))))))
    (p.Field false (token 20 (codes "n"))
    (p.node 22
    (p.Function sharing.Shared p.Nil
    (p.node 26 (p.Async (p.node 27 (p.Use (codes "Nat") p.Nil))))))
    (p.Field false (token 29 (codes "g"))
    (p.node 31
    (p.Function sharing.Shared (p.Cons (p.node 32 (p.Use (codes "Nat") p.Nil)) p.Nil)
    (p.node 34 (p.Async (p.node 35 (p.Use (codes "Nat") p.Nil)))))) p.NoFields))))))))
    (p.Then true 38
    (p.Method false None (token 40 (codes "go"))
    (record { generics = []; parameters = p.Nil; result = (Some (p.node 44 (p.Async (p.node 45 (p.Tuple p.Nil))))) })
    (p.exp 47
    (p.Block
    (p.Then false 48
    (p.Evaluate
    (p.exp 48 (p.Call (p.exp 48 (p.Member (p.exp 48 (p.Name (codes "o"))) (codes "f"))) None p.Nil))) p.End))))
    p.End))) ∷
    -- actor { let o = actor "aaaaa-aa" : actor { f : shared () -> async (); n : shared () -> async Nat; g : shared Nat -> async Nat }; func k(x : Any) { }; public func go() : async () { k(o.f()) } }
    refused condition.AsyncPlace 60
    (actor
    (p.Then false 2
    (p.Let (p.pattern 3 (p.Variable (codes "o")))
    (p.exp 5
    (p.Annotated (p.exp 5 (p.ActorReference (codes "aaaaa-aa")))
    (p.node 8
    (p.Actor
    (p.Field false (token 10 (codes "f"))
    (p.node 12 (p.Function sharing.Shared p.Nil (p.node 16 (p.Async (p.node 17 (p.Tuple p.Nil))))))
    (p.Field false (token 20 (codes "n"))
    (p.node 22
    (p.Function sharing.Shared p.Nil
    (p.node 26 (p.Async (p.node 27 (p.Use (codes "Nat") p.Nil))))))
    (p.Field false (token 29 (codes "g"))
    (p.node 31
    (p.Function sharing.Shared (p.Cons (p.node 32 (p.Use (codes "Nat") p.Nil)) p.Nil)
    (p.node 34 (p.Async (p.node 35 (p.Use (codes "Nat") p.Nil)))))) p.NoFields))))))))
    (p.Then false 38
    (p.Func (token 39 (codes "k"))
    (record {
      generics = [];
      parameters =
          (p.Cons
          (p.pattern 41
          (p.Annotated (p.pattern 41 (p.Variable (codes "x"))) (p.node 43 (p.Use (codes "Any") p.Nil)))) p.Nil);
      result = None;
    }) (p.exp 45 (p.Block p.End)))
    (p.Then true 48
    (p.Method false None (token 50 (codes "go"))
    (record { generics = []; parameters = p.Nil; result = (Some (p.node 54 (p.Async (p.node 55 (p.Tuple p.Nil))))) })
    (p.exp 57
    (p.Block
    (p.Then false 58
    (p.Evaluate
    (p.exp 58
    (p.Call (p.exp 58 (p.Name (codes "k"))) None
    (p.Cons
    (p.exp 60
    (p.Call (p.exp 60 (p.Member (p.exp 60 (p.Name (codes "o"))) (codes "f")))
    None p.Nil)) p.Nil)))) p.End)))) p.End)))) ∷
    -- actor { let o = actor "aaaaa-aa" : actor { f : shared () -> async (); n : shared () -> async Nat; g : shared Nat -> async Nat }; public func go() : async () { let a = o.f(); let b = a; await a } }
    refused condition.AsyncPlace 60
    (actor
    (p.Then false 2
    (p.Let (p.pattern 3 (p.Variable (codes "o")))
    (p.exp 5
    (p.Annotated (p.exp 5 (p.ActorReference (codes "aaaaa-aa")))
    (p.node 8
    (p.Actor
    (p.Field false (token 10 (codes "f"))
    (p.node 12 (p.Function sharing.Shared p.Nil (p.node 16 (p.Async (p.node 17 (p.Tuple p.Nil))))))
    (p.Field false (token 20 (codes "n"))
    (p.node 22
    (p.Function sharing.Shared p.Nil
    (p.node 26 (p.Async (p.node 27 (p.Use (codes "Nat") p.Nil))))))
    (p.Field false (token 29 (codes "g"))
    (p.node 31
    (p.Function sharing.Shared (p.Cons (p.node 32 (p.Use (codes "Nat") p.Nil)) p.Nil)
    (p.node 34 (p.Async (p.node 35 (p.Use (codes "Nat") p.Nil)))))) p.NoFields))))))))
    (p.Then true 38
    (p.Method false None (token 40 (codes "go"))
    (record { generics = []; parameters = p.Nil; result = (Some (p.node 44 (p.Async (p.node 45 (p.Tuple p.Nil))))) })
    (p.exp 47
    (p.Block
    (p.Then false 48
    (p.Let (p.pattern 49 (p.Variable (codes "a")))
    (p.exp 51 (p.Call (p.exp 51 (p.Member (p.exp 51 (p.Name (codes "o"))) (codes "f"))) None p.Nil)))
    (p.Then false 57 (p.Let (p.pattern 58 (p.Variable (codes "b"))) (p.exp 60 (p.Name (codes "a"))))
    (p.Then false 62 (p.Evaluate (p.exp 62 (p.Await (p.exp 63 (p.Name (codes "a")))))) p.End)))))) p.End))) ∷
    -- actor { label l { while true { continue l } } }
    refused condition.BadLabel 8
    (actor
    (p.Then false 2
    (p.Evaluate
    (p.exp 2
    (p.Label (codes "l") None
    (p.exp 4
    (p.Block
    (p.Then false 5
    (p.Evaluate
    (p.exp 5
    (p.While (p.exp 6 (p.Constant p.True))
    (p.exp 7
    (p.Block (p.Then false 8 (p.Evaluate (p.exp 8 (p.Continue (codes "l")))) p.End))))))
    p.End)))))) p.End)) ∷
    -- actor { let y = 5! }
    refused condition.BangPlace 5
    (actor (p.Then false 2 (p.Let (p.pattern 3 (p.Variable (codes "y"))) (p.exp 5 (p.Bang (p.exp 5 (p.Constant (p.Number 5)))))) p.End)) ∷
    -- actor { func f() : ?Nat { do ? { let g = func () : Nat { null! }; 1 } } }
    refused condition.BangPlace 22
    (actor
    (p.Then false 2
    (p.Func (token 3 (codes "f"))
    (record { generics = []; parameters = p.Nil; result = (Some (p.node 7 (p.Optional (p.node 8 (p.Use (codes "Nat") p.Nil))))) })
    (p.exp 9
    (p.Block
    (p.Then false 10
    (p.Evaluate
    (p.exp 10
    (p.DoOption
    (p.exp 12
    (p.Block
    (p.Then false 13
    (p.Let (p.pattern 14 (p.Variable (codes "g")))
    (p.exp 16
    (p.Function
    (record {
      generics = [];
      parameters = p.Nil;
      result = (Some (p.node 20 (p.Use (codes "Nat") p.Nil)));
    })
    (p.exp 21
    (p.Block
    (p.Then false 22
    (p.Evaluate
    (p.exp 22
    (p.Bang (p.exp 22 (p.Constant p.Null)))))
    p.End))))))
    (p.Then false 26 (p.Evaluate (p.exp 26 (p.Constant (p.Number 1)))) p.End))))))) p.End))))
    p.End)) ∷
    -- actor { let x = await 5 }
    refused condition.AsyncPlace 5
    (actor (p.Then false 2 (p.Let (p.pattern 3 (p.Variable (codes "x"))) (p.exp 5 (p.Await (p.exp 6 (p.Constant (p.Number 5)))))) p.End)) ∷
    -- actor { public func f() : async () { await 5 } }
    refused condition.AsyncPlace 12
    (actor
    (p.Then true 2
    (p.Method false None (token 4 (codes "f"))
    (record { generics = []; parameters = p.Nil; result = (Some (p.node 8 (p.Async (p.node 9 (p.Tuple p.Nil))))) })
    (p.exp 11 (p.Block (p.Then false 12 (p.Evaluate (p.exp 12 (p.Await (p.exp 13 (p.Constant (p.Number 5)))))) p.End)))) p.End)) ∷
    -- actor { func f() { throw 5 } }
    refused condition.AsyncPlace 7
    (actor
    (p.Then false 2
    (p.Func (token 3 (codes "f")) (record { generics = []; parameters = p.Nil; result = None })
    (p.exp 6 (p.Block (p.Then false 7 (p.Evaluate (p.exp 7 (p.Throw (p.exp 8 (p.Constant (p.Number 5)))))) p.End)))) p.End)) ∷
    []

-- the fault is at the first token of the node
abbrev pub place_second : List Row
place_second =
    -- actor { class C() { return } }
    refused condition.BadLabel 7
    (actor
    (p.Then false 2
    (p.Class (token 3 (codes "C")) (record { generics = []; parameters = p.Nil; result = None })
    (p.Then false 7 (p.Evaluate (p.exp 7 p.Return)) p.End)) p.End)) ∷
    -- actor { return }
    refused condition.BadLabel 2
    (actor (p.Then false 2 (p.Evaluate (p.exp 2 p.Return)) p.End)) ∷
    -- actor { label l while (continue l) { } }
    refused condition.BadLabel 6
    (actor
    (p.Then false 2
    (p.Evaluate
    (p.exp 2 (p.Label (codes "l") None (p.exp 4 (p.While (p.exp 6 (p.Continue (codes "l"))) (p.exp 9 (p.Block p.End))))))) p.End)) ∷
    -- actor { label l for (x in continue l) { } }
    refused condition.BadLabel 8
    (actor
    (p.Then false 2
    (p.Evaluate
    (p.exp 2
    (p.Label (codes "l") None
    (p.exp 4 (p.For (p.pattern 6 (p.Variable (codes "x"))) (p.exp 8 (p.Continue (codes "l"))) (p.exp 11 (p.Block p.End))))))) p.End)) ∷
    []
