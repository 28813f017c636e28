-- Programs that are typed: control.
use Rattle.std.specs.Prelude.{false, List, [], ◌∷◌, Some, None, codes}
use Rattle.mo_syntax.specs.declared.operators.BinaryOperator.TheVariants as op
use Rattle.typing_rules.specs.AbstractSyntax as p
use Rattle.typing_rules.specs.Rows.{Row, accepted, actor, token}

-- none of them is at fault
abbrev pub typed_control : List Row
typed_control =
    -- actor { var i = 0; while (i < 3) { i += 1 }; loop { i -= 1 } while (i > 0); for (x in [1].vals()) { i += x } }
    accepted
    (actor
    (p.Then false 2 (p.Var false (token 3 (codes "i")) None (p.exp 5 (p.Constant (p.Number 0))))
    (p.Then false 7
    (p.Evaluate
    (p.exp 7
    (p.While (p.exp 9 (p.Binary op.Less (p.exp 9 (p.Name (codes "i"))) (p.exp 11 (p.Constant (p.Number 3)))))
    (p.exp 13
    (p.Block
    (p.Then false 14
    (p.Evaluate
    (p.exp 14
    (p.AssignBy op.Add (p.exp 14 (p.Name (codes "i"))) (p.exp 16 (p.Constant (p.Number 1))))))
    p.End))))))
    (p.Then false 19
    (p.Evaluate
    (p.exp 19
    (p.LoopWhile
    (p.exp 20
    (p.Block
    (p.Then false 21
    (p.Evaluate
    (p.exp 21
    (p.AssignBy op.Subtract (p.exp 21 (p.Name (codes "i")))
    (p.exp 23 (p.Constant (p.Number 1)))))) p.End)))
    (p.exp 27 (p.Binary op.Greater (p.exp 27 (p.Name (codes "i"))) (p.exp 29 (p.Constant (p.Number 0))))))))
    (p.Then false 32
    (p.Evaluate
    (p.exp 32
    (p.For (p.pattern 34 (p.Variable (codes "x")))
    (p.exp 36
    (p.Call
    (p.exp 36
    (p.Member
    (p.exp 36 (p.Array false (p.Cons (p.exp 37 (p.Constant (p.Number 1))) p.Nil)))
    (codes "vals"))) None p.Nil))
    (p.exp 44
    (p.Block
    (p.Then false 45
    (p.Evaluate
    (p.exp 45
    (p.AssignBy op.Add (p.exp 45 (p.Name (codes "i")))
    (p.exp 47 (p.Name (codes "x")))))) p.End)))))) p.End))))) ∷
    -- actor { var i = 0; label l loop { if (i > 5) break l else continue l }; let y = label m : Nat { break m 2 }; if true { i := 1 } }
    accepted
    (actor
    (p.Then false 2 (p.Var false (token 3 (codes "i")) None (p.exp 5 (p.Constant (p.Number 0))))
    (p.Then false 7
    (p.Evaluate
    (p.exp 7
    (p.Label (codes "l") None
    (p.exp 9
    (p.Loop
    (p.exp 10
    (p.Block
    (p.Then false 11
    (p.Evaluate
    (p.exp 11
    (p.If
    (p.exp 13
    (p.Binary op.Greater (p.exp 13 (p.Name (codes "i")))
    (p.exp 15 (p.Constant (p.Number 5)))))
    (p.exp 17 (p.Break (codes "l"))) (p.exp 20 (p.Continue (codes "l"))))))
    p.End))))))))
    (p.Then false 24
    (p.Let (p.pattern 25 (p.Variable (codes "y")))
    (p.exp 27
    (p.Label (codes "m") (Some (p.node 30 (p.Use (codes "Nat") p.Nil)))
    (p.exp 31
    (p.Block
    (p.Then false 32
    (p.Evaluate (p.exp 32 (p.BreakWith (codes "m") (p.exp 34 (p.Constant (p.Number 2)))))) p.End))))))
    (p.Then false 37
    (p.Evaluate
    (p.exp 37
    (p.When (p.exp 38 (p.Constant p.True))
    (p.exp 39
    (p.Block
    (p.Then false 40
    (p.Evaluate
    (p.exp 40
    (p.Assign (p.exp 40 (p.Name (codes "i")))
    (p.exp 42 (p.Constant (p.Number 1)))))) p.End)))))) p.End))))) ∷
    -- actor { func f(b : Bool) : Nat { if b return 1; do { 2 } }; func g() { return }; let x = if true 1 else -1; let y : Int = if true 1 else 2 }
    accepted
    (actor
    (p.Then false 2
    (p.Func (token 3 (codes "f"))
    (record {
      generics = [];
      parameters =
          (p.Cons (p.pattern 5 (p.Annotated (p.pattern 5 (p.Variable (codes "b"))) (p.node 7 (p.Use (codes "Bool") p.Nil))))
          p.Nil);
      result = (Some (p.node 10 (p.Use (codes "Nat") p.Nil)));
    })
    (p.exp 11
    (p.Block
    (p.Then false 12
    (p.Evaluate
    (p.exp 12
    (p.When (p.exp 13 (p.Name (codes "b"))) (p.exp 14 (p.ReturnWith (p.exp 15 (p.Constant (p.Number 1))))))))
    (p.Then false 17
    (p.Evaluate
    (p.exp 17
    (p.Do
    (p.exp 18
    (p.Block (p.Then false 19 (p.Evaluate (p.exp 19 (p.Constant (p.Number 2)))) p.End))))))
    p.End)))))
    (p.Then false 23
    (p.Func (token 24 (codes "g")) (record { generics = []; parameters = p.Nil; result = None })
    (p.exp 27 (p.Block (p.Then false 28 (p.Evaluate (p.exp 28 p.Return)) p.End))))
    (p.Then false 31
    (p.Let (p.pattern 32 (p.Variable (codes "x")))
    (p.exp 34
    (p.If (p.exp 35 (p.Constant p.True)) (p.exp 36 (p.Constant (p.Number 1)))
    (p.exp 38 (p.Negative (p.exp 39 (p.Constant (p.Number 1))))))))
    (p.Then false 41
    (p.Let (p.pattern 42 (p.Annotated (p.pattern 42 (p.Variable (codes "y"))) (p.node 44 (p.Use (codes "Int") p.Nil))))
    (p.exp 46
    (p.If (p.exp 47 (p.Constant p.True)) (p.exp 48 (p.Constant (p.Number 1)))
    (p.exp 50 (p.Constant (p.Number 2)))))) p.End))))) ∷
    -- actor { let x : ?Nat = ?1; let y = do ? { x! + 1 }; let z : ?Int = do ? { 2 } }
    accepted
    (actor
    (p.Then false 2
    (p.Let
    (p.pattern 3
    (p.Annotated (p.pattern 3 (p.Variable (codes "x"))) (p.node 5 (p.Optional (p.node 6 (p.Use (codes "Nat") p.Nil))))))
    (p.exp 8 (p.Optional (p.exp 9 (p.Constant (p.Number 1))))))
    (p.Then false 11
    (p.Let (p.pattern 12 (p.Variable (codes "y")))
    (p.exp 14
    (p.DoOption
    (p.exp 16
    (p.Block
    (p.Then false 17
    (p.Evaluate
    (p.exp 17
    (p.Binary op.Add (p.exp 17 (p.Bang (p.exp 17 (p.Name (codes "x")))))
    (p.exp 20 (p.Constant (p.Number 1)))))) p.End))))))
    (p.Then false 23
    (p.Let
    (p.pattern 24
    (p.Annotated (p.pattern 24 (p.Variable (codes "z")))
    (p.node 26 (p.Optional (p.node 27 (p.Use (codes "Int") p.Nil))))))
    (p.exp 29 (p.DoOption (p.exp 31 (p.Block (p.Then false 32 (p.Evaluate (p.exp 32 (p.Constant (p.Number 2)))) p.End))))))
    p.End)))) ∷
    -- actor { let x = switch 1 { case 1 "a"; case _ "b" }; func f(x : ?Nat) : Nat { switch x { case null 0; case (?n) n } } }
    accepted
    (actor
    (p.Then false 2
    (p.Let (p.pattern 3 (p.Variable (codes "x")))
    (p.exp 5
    (p.Switch (p.exp 6 (p.Constant (p.Number 1)))
    (p.Case (p.pattern 9 (p.Constant false (p.Number 1))) (p.exp 10 (p.Constant (p.Text (codes "a"))))
    (p.Case (p.pattern 13 p.Wildcard) (p.exp 14 (p.Constant (p.Text (codes "b")))) p.NoCases)))))
    (p.Then false 17
    (p.Func (token 18 (codes "f"))
    (record {
      generics = [];
      parameters =
          (p.Cons
          (p.pattern 20
          (p.Annotated (p.pattern 20 (p.Variable (codes "x")))
          (p.node 22 (p.Optional (p.node 23 (p.Use (codes "Nat") p.Nil)))))) p.Nil);
      result = (Some (p.node 26 (p.Use (codes "Nat") p.Nil)));
    })
    (p.exp 27
    (p.Block
    (p.Then false 28
    (p.Evaluate
    (p.exp 28
    (p.Switch (p.exp 29 (p.Name (codes "x")))
    (p.Case (p.pattern 32 (p.Constant false p.Null)) (p.exp 33 (p.Constant (p.Number 0)))
    (p.Case (p.pattern 37 (p.Optional (p.pattern 38 (p.Variable (codes "n")))))
    (p.exp 40 (p.Name (codes "n"))) p.NoCases))))) p.End)))) p.End))) ∷
    -- actor { system func preupgrade() { ignore 1; debug { }; assert true } }
    accepted
    (actor
    (p.Then false 2
    (p.System (token 4 (codes "preupgrade"))
    (p.exp 7
    (p.Block
    (p.Then false 8 (p.Evaluate (p.exp 8 (p.Ignore (p.exp 9 (p.Constant (p.Number 1))))))
    (p.Then false 11 (p.Evaluate (p.exp 11 (p.Debug (p.exp 12 (p.Block p.End)))))
    (p.Then false 15 (p.Evaluate (p.exp 15 (p.Assert (p.exp 16 (p.Constant p.True))))) p.End)))))) p.End)) ∷
    -- actor { label a while true { label l while (continue a) { } } }
    accepted
    (actor
    (p.Then false 2
    (p.Evaluate
    (p.exp 2
    (p.Label (codes "a") None
    (p.exp 4
    (p.While (p.exp 5 (p.Constant p.True))
    (p.exp 6
    (p.Block
    (p.Then false 7
    (p.Evaluate
    (p.exp 7
    (p.Label (codes "l") None (p.exp 9 (p.While (p.exp 11 (p.Continue (codes "a"))) (p.exp 14 (p.Block p.End)))))))
    p.End)))))))) p.End)) ∷
    []
