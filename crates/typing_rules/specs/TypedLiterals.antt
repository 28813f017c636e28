-- Programs that are typed: literals.
use Rattle.std.specs.Prelude.{true, false, List, [], ◌∷◌, Some, None, codes}
use Rattle.mo_syntax.specs.declared.operators.BinaryOperator.TheVariants as op
use Rattle.typing_rules.specs.AbstractSyntax as p
use Rattle.typing_rules.specs.Rows.{Row, accepted, actor, token}

-- none of them is at fault
abbrev pub typed_literals : List Row
typed_literals =
    -- actor { let c = 'a'; let t : Text = "a" # "b"; let b : Blob = "\ff"; let n : ?Nat = null; let f = true and not false; let i = -1; let w : Int8 = -128 }
    accepted
    (actor
    (p.Then false 2 (p.Let (p.pattern 3 (p.Variable (codes "c"))) (p.exp 5 (p.Constant (p.Character 97))))
    (p.Then false 7
    (p.Let (p.pattern 8 (p.Annotated (p.pattern 8 (p.Variable (codes "t"))) (p.node 10 (p.Use (codes "Text") p.Nil))))
    (p.exp 12 (p.Binary op.Concat (p.exp 12 (p.Constant (p.Text (codes "a")))) (p.exp 14 (p.Constant (p.Text (codes "b")))))))
    (p.Then false 16
    (p.Let (p.pattern 17 (p.Annotated (p.pattern 17 (p.Variable (codes "b"))) (p.node 19 (p.Use (codes "Blob") p.Nil))))
    (p.exp 21 (p.Constant (p.Text (255 ∷ [])))))
    (p.Then false 23
    (p.Let
    (p.pattern 24
    (p.Annotated (p.pattern 24 (p.Variable (codes "n")))
    (p.node 26 (p.Optional (p.node 27 (p.Use (codes "Nat") p.Nil)))))) (p.exp 29 (p.Constant p.Null)))
    (p.Then false 31
    (p.Let (p.pattern 32 (p.Variable (codes "f")))
    (p.exp 34
    (p.Binary op.And (p.exp 34 (p.Constant p.True)) (p.exp 36 (p.Not (p.exp 37 (p.Constant p.False)))))))
    (p.Then false 39
    (p.Let (p.pattern 40 (p.Variable (codes "i"))) (p.exp 42 (p.Negative (p.exp 43 (p.Constant (p.Number 1))))))
    (p.Then false 45
    (p.Let
    (p.pattern 46
    (p.Annotated (p.pattern 46 (p.Variable (codes "w")))
    (p.node 48 (p.Use (codes "Int8") p.Nil))))
    (p.exp 50 (p.Negative (p.exp 51 (p.Constant (p.Number 128)))))) p.End)))))))) ∷
    -- actor { let a : Nat8 = 1; let b = a < 2; let c = 1 == 2; let d = "a" < "b"; let i : Int = -1; let e = i >= 0; let g = a +% 255; let h : Int = 1 - 2; let k = 2 ** 3 }
    accepted
    (actor
    (p.Then false 2
    (p.Let (p.pattern 3 (p.Annotated (p.pattern 3 (p.Variable (codes "a"))) (p.node 5 (p.Use (codes "Nat8") p.Nil))))
    (p.exp 7 (p.Constant (p.Number 1))))
    (p.Then false 9
    (p.Let (p.pattern 10 (p.Variable (codes "b")))
    (p.exp 12 (p.Binary op.Less (p.exp 12 (p.Name (codes "a"))) (p.exp 14 (p.Constant (p.Number 2))))))
    (p.Then false 16
    (p.Let (p.pattern 17 (p.Variable (codes "c")))
    (p.exp 19 (p.Binary op.Equal (p.exp 19 (p.Constant (p.Number 1))) (p.exp 21 (p.Constant (p.Number 2))))))
    (p.Then false 23
    (p.Let (p.pattern 24 (p.Variable (codes "d")))
    (p.exp 26
    (p.Binary op.Less (p.exp 26 (p.Constant (p.Text (codes "a")))) (p.exp 28 (p.Constant (p.Text (codes "b")))))))
    (p.Then false 30
    (p.Let
    (p.pattern 31 (p.Annotated (p.pattern 31 (p.Variable (codes "i"))) (p.node 33 (p.Use (codes "Int") p.Nil))))
    (p.exp 35 (p.Negative (p.exp 36 (p.Constant (p.Number 1))))))
    (p.Then false 38
    (p.Let (p.pattern 39 (p.Variable (codes "e")))
    (p.exp 41
    (p.Binary op.GreaterEqual (p.exp 41 (p.Name (codes "i"))) (p.exp 43 (p.Constant (p.Number 0))))))
    (p.Then false 45
    (p.Let (p.pattern 46 (p.Variable (codes "g")))
    (p.exp 48
    (p.Binary op.AddWrap (p.exp 48 (p.Name (codes "a"))) (p.exp 50 (p.Constant (p.Number 255))))))
    (p.Then false 52
    (p.Let
    (p.pattern 53
    (p.Annotated (p.pattern 53 (p.Variable (codes "h")))
    (p.node 55 (p.Use (codes "Int") p.Nil))))
    (p.exp 57
    (p.Binary op.Subtract (p.exp 57 (p.Constant (p.Number 1)))
    (p.exp 59 (p.Constant (p.Number 2))))))
    (p.Then false 61
    (p.Let (p.pattern 62 (p.Variable (codes "k")))
    (p.exp 64
    (p.Binary op.Power (p.exp 64 (p.Constant (p.Number 2)))
    (p.exp 66 (p.Constant (p.Number 3)))))) p.End)))))))))) ∷
    -- actor { let p : (Nat, ?Int) = (1, ?2); let q = p.0; let v : { #a; #b : Nat } = #a; let w : { #a; #b : Nat } = #b 3; let s = #c; let u = () }
    accepted
    (actor
    (p.Then false 2
    (p.Let
    (p.pattern 3
    (p.Annotated (p.pattern 3 (p.Variable (codes "p")))
    (p.node 5
    (p.Tuple
    (p.Cons (p.node 6 (p.Use (codes "Nat") p.Nil))
    (p.Cons (p.node 8 (p.Optional (p.node 9 (p.Use (codes "Int") p.Nil)))) p.Nil))))))
    (p.exp 12
    (p.Tuple
    (p.Cons (p.exp 13 (p.Constant (p.Number 1)))
    (p.Cons (p.exp 15 (p.Optional (p.exp 16 (p.Constant (p.Number 2))))) p.Nil)))))
    (p.Then false 19 (p.Let (p.pattern 20 (p.Variable (codes "q"))) (p.exp 22 (p.Projection (p.exp 22 (p.Name (codes "p"))) 0)))
    (p.Then false 26
    (p.Let
    (p.pattern 27
    (p.Annotated (p.pattern 27 (p.Variable (codes "v")))
    (p.node 29
    (p.Variant
    (p.EmptyTag (token 31 (codes "a"))
    (p.Field false (token 34 (codes "b")) (p.node 36 (p.Use (codes "Nat") p.Nil)) p.NoFields))))))
    (p.exp 39 (p.Tag (codes "a"))))
    (p.Then false 42
    (p.Let
    (p.pattern 43
    (p.Annotated (p.pattern 43 (p.Variable (codes "w")))
    (p.node 45
    (p.Variant
    (p.EmptyTag (token 47 (codes "a"))
    (p.Field false (token 50 (codes "b")) (p.node 52 (p.Use (codes "Nat") p.Nil))
    p.NoFields)))))) (p.exp 55 (p.Tagged (codes "b") (p.exp 57 (p.Constant (p.Number 3))))))
    (p.Then false 59 (p.Let (p.pattern 60 (p.Variable (codes "s"))) (p.exp 62 (p.Tag (codes "c"))))
    (p.Then false 65 (p.Let (p.pattern 66 (p.Variable (codes "u"))) (p.exp 68 (p.Tuple p.Nil))) p.End))))))) ∷
    -- actor { let a = [1, -1]; let e : [Text] = []; let m = [var 1]; m[0] := 2; let s = a.size(); let l = "ab".size(); let z = [] }
    accepted
    (actor
    (p.Then false 2
    (p.Let (p.pattern 3 (p.Variable (codes "a")))
    (p.exp 5
    (p.Array false
    (p.Cons (p.exp 6 (p.Constant (p.Number 1))) (p.Cons (p.exp 8 (p.Negative (p.exp 9 (p.Constant (p.Number 1))))) p.Nil)))))
    (p.Then false 12
    (p.Let
    (p.pattern 13
    (p.Annotated (p.pattern 13 (p.Variable (codes "e")))
    (p.node 15 (p.Array false (p.node 16 (p.Use (codes "Text") p.Nil)))))) (p.exp 19 (p.Array false p.Nil)))
    (p.Then false 22
    (p.Let (p.pattern 23 (p.Variable (codes "m")))
    (p.exp 25 (p.Array true (p.Cons (p.exp 27 (p.Constant (p.Number 1))) p.Nil))))
    (p.Then false 30
    (p.Evaluate
    (p.exp 30
    (p.Assign (p.exp 30 (p.Index (p.exp 30 (p.Name (codes "m"))) (p.exp 32 (p.Constant (p.Number 0)))))
    (p.exp 35 (p.Constant (p.Number 2))))))
    (p.Then false 37
    (p.Let (p.pattern 38 (p.Variable (codes "s")))
    (p.exp 40 (p.Call (p.exp 40 (p.Member (p.exp 40 (p.Name (codes "a"))) (codes "size"))) None p.Nil)))
    (p.Then false 46
    (p.Let (p.pattern 47 (p.Variable (codes "l")))
    (p.exp 49
    (p.Call (p.exp 49 (p.Member (p.exp 49 (p.Constant (p.Text (codes "ab")))) (codes "size"))) None
    p.Nil)))
    (p.Then false 55 (p.Let (p.pattern 56 (p.Variable (codes "z"))) (p.exp 58 (p.Array false p.Nil))) p.End)))))))) ∷
    -- actor { let o = { x = 1; var y : Int = 2 }; o.y := 3; let u : { x : Nat } = o; o.y += 1; let x = u.x }
    accepted
    (actor
    (p.Then false 2
    (p.Let (p.pattern 3 (p.Variable (codes "o")))
    (p.exp 5
    (p.Object
    (p.Field false (token 6 (codes "x")) None (p.exp 8 (p.Constant (p.Number 1)))
    (p.Field true (token 11 (codes "y")) (Some (p.node 13 (p.Use (codes "Int") p.Nil)))
    (p.exp 15 (p.Constant (p.Number 2))) p.NoFields)))))
    (p.Then false 18
    (p.Evaluate
    (p.exp 18
    (p.Assign (p.exp 18 (p.Member (p.exp 18 (p.Name (codes "o"))) (codes "y"))) (p.exp 22 (p.Constant (p.Number 3))))))
    (p.Then false 24
    (p.Let
    (p.pattern 25
    (p.Annotated (p.pattern 25 (p.Variable (codes "u")))
    (p.node 27
    (p.Object (p.Field false (token 28 (codes "x")) (p.node 30 (p.Use (codes "Nat") p.Nil)) p.NoFields)))))
    (p.exp 33 (p.Name (codes "o"))))
    (p.Then false 35
    (p.Evaluate
    (p.exp 35
    (p.AssignBy op.Add (p.exp 35 (p.Member (p.exp 35 (p.Name (codes "o"))) (codes "y")))
    (p.exp 39 (p.Constant (p.Number 1))))))
    (p.Then false 41
    (p.Let (p.pattern 42 (p.Variable (codes "x"))) (p.exp 44 (p.Member (p.exp 44 (p.Name (codes "u"))) (codes "x"))))
    p.End)))))) ∷
    []
