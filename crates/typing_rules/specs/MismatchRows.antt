-- Programs in which a type is not below the one that is wanted, or a literal or part is not of it.
use Rattle.std.specs.Prelude.{true, false, List, [], ◌∷◌, Some, None, codes}
use Rattle.mo_syntax.specs.declared.operators.BinaryOperator.TheVariants as op
use Rattle.typing_rules.specs.declared.condition.Condition.TheVariants as condition
use Rattle.typing_rules.specs.AbstractSyntax as p
use Rattle.typing_rules.specs.Rows.{Row, refused, actor, token}

-- the fault is at the first token of the node
abbrev pub mismatch_first : List Row
mismatch_first =
    -- actor { let i : Int = 1; let x : Nat = i }
    refused condition.Mismatch 14
    (actor
    (p.Then false 2
    (p.Let (p.pattern 3 (p.Annotated (p.pattern 3 (p.Variable (codes "i"))) (p.node 5 (p.Use (codes "Int") p.Nil))))
    (p.exp 7 (p.Constant (p.Number 1))))
    (p.Then false 9
    (p.Let (p.pattern 10 (p.Annotated (p.pattern 10 (p.Variable (codes "x"))) (p.node 12 (p.Use (codes "Nat") p.Nil))))
    (p.exp 14 (p.Name (codes "i")))) p.End))) ∷
    -- actor { assert 1 }
    refused condition.Mismatch 3
    (actor (p.Then false 2 (p.Evaluate (p.exp 2 (p.Assert (p.exp 3 (p.Constant (p.Number 1)))))) p.End)) ∷
    -- actor { let x = true and 1 }
    refused condition.Mismatch 7
    (actor
    (p.Then false 2
    (p.Let (p.pattern 3 (p.Variable (codes "x")))
    (p.exp 5 (p.Binary op.And (p.exp 5 (p.Constant p.True)) (p.exp 7 (p.Constant (p.Number 1)))))) p.End)) ∷
    -- actor { let x = "a" # 1 }
    refused condition.Mismatch 7
    (actor
    (p.Then false 2
    (p.Let (p.pattern 3 (p.Variable (codes "x")))
    (p.exp 5 (p.Binary op.Concat (p.exp 5 (p.Constant (p.Text (codes "a")))) (p.exp 7 (p.Constant (p.Number 1)))))) p.End)) ∷
    -- actor { func f(x : Nat) { }; f("a") }
    refused condition.Mismatch 14
    (actor
    (p.Then false 2
    (p.Func (token 3 (codes "f"))
    (record {
      generics = [];
      parameters =
          (p.Cons (p.pattern 5 (p.Annotated (p.pattern 5 (p.Variable (codes "x"))) (p.node 7 (p.Use (codes "Nat") p.Nil))))
          p.Nil);
      result = None;
    }) (p.exp 9 (p.Block p.End)))
    (p.Then false 12
    (p.Evaluate
    (p.exp 12 (p.Call (p.exp 12 (p.Name (codes "f"))) None (p.Cons (p.exp 14 (p.Constant (p.Text (codes "a")))) p.Nil)))) p.End))) ∷
    -- actor { func f() : Nat { "a" } }
    refused condition.Mismatch 9
    (actor
    (p.Then false 2
    (p.Func (token 3 (codes "f")) (record { generics = []; parameters = p.Nil; result = (Some (p.node 7 (p.Use (codes "Nat") p.Nil))) })
    (p.exp 8 (p.Block (p.Then false 9 (p.Evaluate (p.exp 9 (p.Constant (p.Text (codes "a"))))) p.End)))) p.End)) ∷
    -- actor { func f() : Nat { return "a" } }
    refused condition.Mismatch 10
    (actor
    (p.Then false 2
    (p.Func (token 3 (codes "f")) (record { generics = []; parameters = p.Nil; result = (Some (p.node 7 (p.Use (codes "Nat") p.Nil))) })
    (p.exp 8 (p.Block (p.Then false 9 (p.Evaluate (p.exp 9 (p.ReturnWith (p.exp 10 (p.Constant (p.Text (codes "a"))))))) p.End))))
    p.End)) ∷
    -- actor { let x : (Nat, Nat) = (1, 2, 3) }
    refused condition.Mismatch 11
    (actor
    (p.Then false 2
    (p.Let
    (p.pattern 3
    (p.Annotated (p.pattern 3 (p.Variable (codes "x")))
    (p.node 5
    (p.Tuple (p.Cons (p.node 6 (p.Use (codes "Nat") p.Nil)) (p.Cons (p.node 8 (p.Use (codes "Nat") p.Nil)) p.Nil))))))
    (p.exp 11
    (p.Tuple
    (p.Cons (p.exp 12 (p.Constant (p.Number 1)))
    (p.Cons (p.exp 14 (p.Constant (p.Number 2))) (p.Cons (p.exp 16 (p.Constant (p.Number 3))) p.Nil)))))) p.End)) ∷
    -- actor { let x : { #a : Nat } = #a "t" }
    refused condition.Mismatch 14
    (actor
    (p.Then false 2
    (p.Let
    (p.pattern 3
    (p.Annotated (p.pattern 3 (p.Variable (codes "x")))
    (p.node 5 (p.Variant (p.Field false (token 7 (codes "a")) (p.node 9 (p.Use (codes "Nat") p.Nil)) p.NoFields)))))
    (p.exp 12 (p.Tagged (codes "a") (p.exp 14 (p.Constant (p.Text (codes "t"))))))) p.End)) ∷
    -- actor { while true 5 }
    refused condition.Mismatch 4
    (actor (p.Then false 2 (p.Evaluate (p.exp 2 (p.While (p.exp 3 (p.Constant p.True)) (p.exp 4 (p.Constant (p.Number 5)))))) p.End)) ∷
    -- actor { public func f() : async () { throw "a" } }
    refused condition.Mismatch 13
    (actor
    (p.Then true 2
    (p.Method false None (token 4 (codes "f"))
    (record { generics = []; parameters = p.Nil; result = (Some (p.node 8 (p.Async (p.node 9 (p.Tuple p.Nil))))) })
    (p.exp 11 (p.Block (p.Then false 12 (p.Evaluate (p.exp 12 (p.Throw (p.exp 13 (p.Constant (p.Text (codes "a"))))))) p.End))))
    p.End)) ∷
    -- actor { func f<T>(x : T) { }; f<Nat>("a") }
    refused condition.Mismatch 20
    (actor
    (p.Then false 2
    (p.Func (token 3 (codes "f"))
    (record {
      generics = record { name = (token 5 (codes "T")); bound = None } ∷ [];
      parameters =
          (p.Cons (p.pattern 8 (p.Annotated (p.pattern 8 (p.Variable (codes "x"))) (p.node 10 (p.Use (codes "T") p.Nil))))
          p.Nil);
      result = None;
    }) (p.exp 12 (p.Block p.End)))
    (p.Then false 15
    (p.Evaluate
    (p.exp 15
    (p.Call (p.exp 15 (p.Name (codes "f"))) (Some ((p.node 17 (p.Use (codes "Nat") p.Nil)) ∷ []))
    (p.Cons (p.exp 20 (p.Constant (p.Text (codes "a")))) p.Nil)))) p.End))) ∷
    []

-- the fault is at the first token of the node
abbrev pub mismatch_second : List Row
mismatch_second =
    -- actor { func f<T <: Nat>(x : Nat) : T { x } }
    refused condition.Mismatch 17
    (actor
    (p.Then false 2
    (p.Func (token 3 (codes "f"))
    (record {
      generics = record { name = (token 5 (codes "T")); bound = (Some (p.node 7 (p.Use (codes "Nat") p.Nil))) } ∷ [];
      parameters =
          (p.Cons (p.pattern 10 (p.Annotated (p.pattern 10 (p.Variable (codes "x"))) (p.node 12 (p.Use (codes "Nat") p.Nil))))
          p.Nil);
      result = (Some (p.node 15 (p.Use (codes "T") p.Nil)));
    }) (p.exp 16 (p.Block (p.Then false 17 (p.Evaluate (p.exp 17 (p.Name (codes "x")))) p.End)))) p.End)) ∷
    -- actor { public func f() : async () { try { 1 } catch (e) { } } }
    refused condition.Mismatch 14
    (actor
    (p.Then true 2
    (p.Method false None (token 4 (codes "f"))
    (record { generics = []; parameters = p.Nil; result = (Some (p.node 8 (p.Async (p.node 9 (p.Tuple p.Nil))))) })
    (p.exp 11
    (p.Block
    (p.Then false 12
    (p.Evaluate
    (p.exp 12
    (p.Try (p.exp 13 (p.Block (p.Then false 14 (p.Evaluate (p.exp 14 (p.Constant (p.Number 1)))) p.End)))
    (p.pattern 18 (p.Variable (codes "e"))) (p.exp 20 (p.Block p.End))))) p.End)))) p.End)) ∷
    -- actor { let t : Text = "\ff" }
    refused condition.Mismatch 7
    (actor
    (p.Then false 2
    (p.Let (p.pattern 3 (p.Annotated (p.pattern 3 (p.Variable (codes "t"))) (p.node 5 (p.Use (codes "Text") p.Nil))))
    (p.exp 7 (p.Constant (p.Text (255 ∷ []))))) p.End)) ∷
    -- actor { let o : { a : Nat } = { b = 1 } }
    refused condition.Mismatch 11
    (actor
    (p.Then false 2
    (p.Let
    (p.pattern 3
    (p.Annotated (p.pattern 3 (p.Variable (codes "o")))
    (p.node 5 (p.Object (p.Field false (token 6 (codes "a")) (p.node 8 (p.Use (codes "Nat") p.Nil)) p.NoFields)))))
    (p.exp 11 (p.Object (p.Field false (token 12 (codes "b")) None (p.exp 14 (p.Constant (p.Number 1))) p.NoFields)))) p.End)) ∷
    -- actor { var t : Text = "a"; var n : Nat = 1; n #= "b" }
    refused condition.Mismatch 16
    (actor
    (p.Then false 2
    (p.Var false (token 3 (codes "t")) (Some (p.node 5 (p.Use (codes "Text") p.Nil))) (p.exp 7 (p.Constant (p.Text (codes "a")))))
    (p.Then false 9
    (p.Var false (token 10 (codes "n")) (Some (p.node 12 (p.Use (codes "Nat") p.Nil))) (p.exp 14 (p.Constant (p.Number 1))))
    (p.Then false 16
    (p.Evaluate (p.exp 16 (p.AssignBy op.Concat (p.exp 16 (p.Name (codes "n"))) (p.exp 18 (p.Constant (p.Text (codes "b")))))))
    p.End)))) ∷
    []
