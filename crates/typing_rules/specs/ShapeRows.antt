-- Programs in which a value has not the form that a rule asks.
use Rattle.std.specs.Prelude.{true, false, List, [], ◌∷◌, Some, None, codes}
use Rattle.mo_syntax.specs.declared.operators.BinaryOperator.TheVariants as op
use Rattle.mo_syntax.specs.declared.types.Sharing.TheVariants as sharing
use Rattle.typing_rules.specs.declared.condition.Condition.TheVariants as condition
use Rattle.typing_rules.specs.AbstractSyntax as p
use Rattle.typing_rules.specs.Rows.{Row, refused, actor, token}

-- the fault is at the first token of the node
abbrev pub shape_first : List Row
shape_first =
    -- actor { let x = { a = 1 }; x.a() }
    refused condition.NotFunction 11
    (actor
    (p.Then false 2
    (p.Let (p.pattern 3 (p.Variable (codes "x")))
    (p.exp 5 (p.Object (p.Field false (token 6 (codes "a")) None (p.exp 8 (p.Constant (p.Number 1))) p.NoFields))))
    (p.Then false 11 (p.Evaluate (p.exp 11 (p.Call (p.exp 11 (p.Member (p.exp 11 (p.Name (codes "x"))) (codes "a"))) None p.Nil))) p.End))) ∷
    -- actor { let x = { a = 1 }; let y = x.b }
    refused condition.NoField 14
    (actor
    (p.Then false 2
    (p.Let (p.pattern 3 (p.Variable (codes "x")))
    (p.exp 5 (p.Object (p.Field false (token 6 (codes "a")) None (p.exp 8 (p.Constant (p.Number 1))) p.NoFields))))
    (p.Then false 11 (p.Let (p.pattern 12 (p.Variable (codes "y"))) (p.exp 14 (p.Member (p.exp 14 (p.Name (codes "x"))) (codes "b"))))
    p.End))) ∷
    -- actor { let y = "a".vals() }
    refused condition.NoField 5
    (actor
    (p.Then false 2
    (p.Let (p.pattern 3 (p.Variable (codes "y")))
    (p.exp 5 (p.Call (p.exp 5 (p.Member (p.exp 5 (p.Constant (p.Text (codes "a")))) (codes "vals"))) None p.Nil))) p.End)) ∷
    -- actor { let y = 5.0 }
    refused condition.NotTuple 5
    (actor (p.Then false 2 (p.Let (p.pattern 3 (p.Variable (codes "y"))) (p.exp 5 (p.Projection (p.exp 5 (p.Constant (p.Number 5))) 0))) p.End)) ∷
    -- actor { let y = (1, 2).2 }
    refused condition.NotTuple 5
    (actor
    (p.Then false 2
    (p.Let (p.pattern 3 (p.Variable (codes "y")))
    (p.exp 5
    (p.Projection
    (p.exp 5 (p.Tuple (p.Cons (p.exp 6 (p.Constant (p.Number 1))) (p.Cons (p.exp 8 (p.Constant (p.Number 2))) p.Nil)))) 2)))
    p.End)) ∷
    -- actor { let y = do ? { 5! } }
    refused condition.NotOption 8
    (actor
    (p.Then false 2
    (p.Let (p.pattern 3 (p.Variable (codes "y")))
    (p.exp 5
    (p.DoOption (p.exp 7 (p.Block (p.Then false 8 (p.Evaluate (p.exp 8 (p.Bang (p.exp 8 (p.Constant (p.Number 5)))))) p.End))))))
    p.End)) ∷
    -- actor { let a : Nat8 = 1; let n = 1; let y = a + n }
    refused condition.BadOperator 17
    (actor
    (p.Then false 2
    (p.Let (p.pattern 3 (p.Annotated (p.pattern 3 (p.Variable (codes "a"))) (p.node 5 (p.Use (codes "Nat8") p.Nil))))
    (p.exp 7 (p.Constant (p.Number 1))))
    (p.Then false 9 (p.Let (p.pattern 10 (p.Variable (codes "n"))) (p.exp 12 (p.Constant (p.Number 1))))
    (p.Then false 14
    (p.Let (p.pattern 15 (p.Variable (codes "y")))
    (p.exp 17 (p.Binary op.Add (p.exp 17 (p.Name (codes "a"))) (p.exp 19 (p.Name (codes "n")))))) p.End)))) ∷
    -- actor { let n : Int = 1; let y = n *% n }
    refused condition.BadOperator 12
    (actor
    (p.Then false 2
    (p.Let (p.pattern 3 (p.Annotated (p.pattern 3 (p.Variable (codes "n"))) (p.node 5 (p.Use (codes "Int") p.Nil))))
    (p.exp 7 (p.Constant (p.Number 1))))
    (p.Then false 9
    (p.Let (p.pattern 10 (p.Variable (codes "y")))
    (p.exp 12 (p.Binary op.MultiplyWrap (p.exp 12 (p.Name (codes "n"))) (p.exp 14 (p.Name (codes "n")))))) p.End))) ∷
    -- actor { let n : Nat8 = 1; let y = -n }
    refused condition.BadOperator 12
    (actor
    (p.Then false 2
    (p.Let (p.pattern 3 (p.Annotated (p.pattern 3 (p.Variable (codes "n"))) (p.node 5 (p.Use (codes "Nat8") p.Nil))))
    (p.exp 7 (p.Constant (p.Number 1))))
    (p.Then false 9 (p.Let (p.pattern 10 (p.Variable (codes "y"))) (p.exp 12 (p.Negative (p.exp 13 (p.Name (codes "n")))))) p.End))) ∷
    -- actor { let y : Int = 9223372036854775808 }
    refused condition.LiteralRange 7
    (actor
    (p.Then false 2
    (p.Let (p.pattern 3 (p.Annotated (p.pattern 3 (p.Variable (codes "y"))) (p.node 5 (p.Use (codes "Int") p.Nil))))
    (p.exp 7 (p.Constant (p.Number 9223372036854775808)))) p.End)) ∷
    -- actor { let y = 18446744073709551615 }
    refused condition.LiteralRange 5
    (actor (p.Then false 2 (p.Let (p.pattern 3 (p.Variable (codes "y"))) (p.exp 5 (p.Constant (p.Number 18446744073709551615)))) p.End)) ∷
    -- actor { let a = [1]; a[0] := 2 }
    refused condition.NotMutable 9
    (actor
    (p.Then false 2
    (p.Let (p.pattern 3 (p.Variable (codes "a"))) (p.exp 5 (p.Array false (p.Cons (p.exp 6 (p.Constant (p.Number 1))) p.Nil))))
    (p.Then false 9
    (p.Evaluate
    (p.exp 9
    (p.Assign (p.exp 9 (p.Index (p.exp 9 (p.Name (codes "a"))) (p.exp 11 (p.Constant (p.Number 0)))))
    (p.exp 14 (p.Constant (p.Number 2)))))) p.End))) ∷
    []

-- the fault is at the first token of the node
abbrev pub shape_second : List Row
shape_second =
    -- actor { 1 := 2 }
    refused condition.NotMutable 2
    (actor (p.Then false 2 (p.Evaluate (p.exp 2 (p.Assign (p.exp 2 (p.Constant (p.Number 1))) (p.exp 4 (p.Constant (p.Number 2)))))) p.End)) ∷
    -- actor { func f(t : (Nat, Nat)) { }; f(1, 2) }
    refused condition.ArgumentCount 16
    (actor
    (p.Then false 2
    (p.Func (token 3 (codes "f"))
    (record {
      generics = [];
      parameters =
          (p.Cons
          (p.pattern 5
          (p.Annotated (p.pattern 5 (p.Variable (codes "t")))
          (p.node 7
          (p.Tuple
          (p.Cons (p.node 8 (p.Use (codes "Nat") p.Nil))
          (p.Cons (p.node 10 (p.Use (codes "Nat") p.Nil)) p.Nil)))))) p.Nil);
      result = None;
    }) (p.exp 13 (p.Block p.End)))
    (p.Then false 16
    (p.Evaluate
    (p.exp 16
    (p.Call (p.exp 16 (p.Name (codes "f"))) None
    (p.Cons (p.exp 18 (p.Constant (p.Number 1))) (p.Cons (p.exp 20 (p.Constant (p.Number 2))) p.Nil))))) p.End))) ∷
    -- actor { let o = actor "aaaaa-ab" : actor { } }
    refused condition.BadPrincipal 5
    (actor
    (p.Then false 2
    (p.Let (p.pattern 3 (p.Variable (codes "o")))
    (p.exp 5 (p.Annotated (p.exp 5 (p.ActorReference (codes "aaaaa-ab"))) (p.node 8 (p.Actor p.NoFields))))) p.End)) ∷
    -- actor { let x = if true 1 else "a" }
    refused condition.Branches 5
    (actor
    (p.Then false 2
    (p.Let (p.pattern 3 (p.Variable (codes "x")))
    (p.exp 5 (p.If (p.exp 6 (p.Constant p.True)) (p.exp 7 (p.Constant (p.Number 1))) (p.exp 9 (p.Constant (p.Text (codes "a")))))))
    p.End)) ∷
    -- actor { let x = switch 1 { case 1 "a"; case _ true } }
    refused condition.Branches 5
    (actor
    (p.Then false 2
    (p.Let (p.pattern 3 (p.Variable (codes "x")))
    (p.exp 5
    (p.Switch (p.exp 6 (p.Constant (p.Number 1)))
    (p.Case (p.pattern 9 (p.Constant false (p.Number 1))) (p.exp 10 (p.Constant (p.Text (codes "a"))))
    (p.Case (p.pattern 13 p.Wildcard) (p.exp 14 (p.Constant p.True)) p.NoCases))))) p.End)) ∷
    -- actor { let o = actor "aaaaa-aa" : Principal }
    refused condition.NotActor 5
    (actor
    (p.Then false 2
    (p.Let (p.pattern 3 (p.Variable (codes "o")))
    (p.exp 5 (p.Annotated (p.exp 5 (p.ActorReference (codes "aaaaa-aa"))) (p.node 8 (p.Use (codes "Principal") p.Nil))))) p.End)) ∷
    -- actor { for (x in 5) { } }
    refused condition.NotIterable 2
    (actor
    (p.Then false 2
    (p.Evaluate (p.exp 2 (p.For (p.pattern 4 (p.Variable (codes "x"))) (p.exp 6 (p.Constant (p.Number 5))) (p.exp 8 (p.Block p.End)))))
    p.End)) ∷
    -- actor { func f() : ?Nat { null }; for (x in { var next = f }) { } }
    refused condition.NotIterable 13
    (actor
    (p.Then false 2
    (p.Func (token 3 (codes "f"))
    (record { generics = []; parameters = p.Nil; result = Some (p.node 7 (p.Optional (p.node 8 (p.Use (codes "Nat") p.Nil)))) })
    (p.exp 9 (p.Block (p.Then false 10 (p.Evaluate (p.exp 10 (p.Constant p.Null))) p.End))))
    (p.Then false 13
    (p.Evaluate
    (p.exp 13
    (p.For (p.pattern 15 (p.Variable (codes "x")))
    (p.exp 17 (p.Object (p.Field true (token 19 (codes "next")) None (p.exp 21 (p.Name (codes "f"))) p.NoFields))) (p.exp 24 (p.Block p.End)))))
    p.End))) ∷
    -- actor { let x : Nat = -1 }
    refused condition.LiteralRange 7
    (actor
    (p.Then false 2
    (p.Let (p.pattern 3 (p.Annotated (p.pattern 3 (p.Variable (codes "x"))) (p.node 5 (p.Use (codes "Nat") p.Nil))))
    (p.exp 7 (p.Negative (p.exp 8 (p.Constant (p.Number 1)))))) p.End)) ∷
    -- actor { let y = 5[0] }
    refused condition.NotArray 5
    (actor
    (p.Then false 2
    (p.Let (p.pattern 3 (p.Variable (codes "y")))
    (p.exp 5 (p.Index (p.exp 5 (p.Constant (p.Number 5))) (p.exp 7 (p.Constant (p.Number 0)))))) p.End)) ∷
    -- actor { let x = actor "aaaaa-aa" }
    refused condition.NotActor 5
    (actor (p.Then false 2 (p.Let (p.pattern 3 (p.Variable (codes "x"))) (p.exp 5 (p.ActorReference (codes "aaaaa-aa")))) p.End)) ∷
    -- actor { let x = switch 1 {} }
    refused condition.Branches 5
    (actor
    (p.Then false 2 (p.Let (p.pattern 3 (p.Variable (codes "x"))) (p.exp 5 (p.Switch (p.exp 6 (p.Constant (p.Number 1))) p.NoCases))) p.End)) ∷
    -- actor { let o = actor "aaaaa-ab" : actor { f : shared () -> async () } }
    refused condition.BadPrincipal 5
    (actor
    (p.Then false 2
    (p.Let (p.pattern 3 (p.Variable (codes "o")))
    (p.exp 5
    (p.Annotated (p.exp 5 (p.ActorReference (codes "aaaaa-ab")))
    (p.node 8
    (p.Actor
    (p.Field false (token 10 (codes "f"))
    (p.node 12 (p.Function sharing.Shared p.Nil (p.node 16 (p.Async (p.node 17 (p.Tuple p.Nil))))))
    p.NoFields)))))) p.End)) ∷
    []

-- the fault is at the first token of the node
abbrev pub shape_third : List Row
shape_third =
    -- actor { let o = actor "rrkah-fqaaa-aaaaa-aaaaq-caj" : actor { f : shared () -> async () } }
    refused condition.BadPrincipal 5
    (actor
    (p.Then false 2
    (p.Let (p.pattern 3 (p.Variable (codes "o")))
    (p.exp 5
    (p.Annotated (p.exp 5 (p.ActorReference (codes "rrkah-fqaaa-aaaaa-aaaaq-caj")))
    (p.node 8
    (p.Actor
    (p.Field false (token 10 (codes "f"))
    (p.node 12 (p.Function sharing.Shared p.Nil (p.node 16 (p.Async (p.node 17 (p.Tuple p.Nil))))))
    p.NoFields)))))) p.End)) ∷
    []
