-- Programs with patterns that do not stand on their types.
use Rattle.std.specs.Prelude.{true, false, List, [], ◌∷◌, Some, None, codes}
use Rattle.typing_rules.specs.declared.condition.Condition.TheVariants as condition
use Rattle.typing_rules.specs.AbstractSyntax as p
use Rattle.typing_rules.specs.Rows.{Row, refused, actor, token}

-- the fault is at the first token of the node
abbrev pub pattern : List Row
pattern =
    -- actor { func f(x : { #a }) { switch x { case (#b) { }; case _ { } } } }
    refused condition.PatternType 18
    (actor
    (p.Then false 2
    (p.Func (token 3 (codes "f"))
    (record {
      generics = [];
      parameters =
          (p.Cons
          (p.pattern 5
          (p.Annotated (p.pattern 5 (p.Variable (codes "x")))
          (p.node 7 (p.Variant (p.EmptyTag (token 9 (codes "a")) p.NoFields))))) p.Nil);
      result = None;
    })
    (p.exp 12
    (p.Block
    (p.Then false 13
    (p.Evaluate
    (p.exp 13
    (p.Switch (p.exp 14 (p.Name (codes "x")))
    (p.Case (p.pattern 18 (p.Tag (codes "b"))) (p.exp 21 (p.Block p.End))
    (p.Case (p.pattern 25 p.Wildcard) (p.exp 26 (p.Block p.End)) p.NoCases))))) p.End)))) p.End)) ∷
    -- actor { switch 1 { case (?x) { } } }
    refused condition.PatternType 7
    (actor
    (p.Then false 2
    (p.Evaluate
    (p.exp 2
    (p.Switch (p.exp 3 (p.Constant (p.Number 1)))
    (p.Case (p.pattern 7 (p.Optional (p.pattern 8 (p.Variable (codes "x"))))) (p.exp 10 (p.Block p.End)) p.NoCases)))) p.End)) ∷
    -- actor { let (a, b) = (1, 2, 3) }
    refused condition.PatternType 3
    (actor
    (p.Then false 2
    (p.Let (p.pattern 3 (p.Tuple (p.Cons (p.pattern 4 (p.Variable (codes "a"))) (p.Cons (p.pattern 6 (p.Variable (codes "b"))) p.Nil))))
    (p.exp 9
    (p.Tuple
    (p.Cons (p.exp 10 (p.Constant (p.Number 1)))
    (p.Cons (p.exp 12 (p.Constant (p.Number 2))) (p.Cons (p.exp 14 (p.Constant (p.Number 3))) p.Nil)))))) p.End)) ∷
    -- actor { func f(i : Int) { switch i { case (n : Nat) { } } } }
    refused condition.PatternType 15
    (actor
    (p.Then false 2
    (p.Func (token 3 (codes "f"))
    (record {
      generics = [];
      parameters =
          (p.Cons (p.pattern 5 (p.Annotated (p.pattern 5 (p.Variable (codes "i"))) (p.node 7 (p.Use (codes "Int") p.Nil))))
          p.Nil);
      result = None;
    })
    (p.exp 9
    (p.Block
    (p.Then false 10
    (p.Evaluate
    (p.exp 10
    (p.Switch (p.exp 11 (p.Name (codes "i")))
    (p.Case
    (p.pattern 15
    (p.Annotated (p.pattern 15 (p.Variable (codes "n")))
    (p.node 17 (p.Use (codes "Nat") p.Nil)))) (p.exp 19 (p.Block p.End)) p.NoCases)))) p.End))))
    p.End)) ∷
    -- actor { public shared { self } func f() : async () { } }
    refused condition.PatternType 5
    (actor
    (p.Then true 2
    (p.Method false
    (Some (p.pattern 4 (p.Object (p.Field (token 5 (codes "self")) (p.pattern 5 (p.Variable (codes "self"))) p.NoFields))))
    (token 8 (codes "f"))
    (record { generics = []; parameters = p.Nil; result = (Some (p.node 12 (p.Async (p.node 13 (p.Tuple p.Nil))))) })
    (p.exp 15 (p.Block p.End))) p.End)) ∷
    -- actor { func f({ x } : { var x : Nat }) { } }
    refused condition.PatternType 6
    (actor
    (p.Then false 2
    (p.Func (token 3 (codes "f"))
    (record {
      generics = [];
      parameters =
          (p.Cons
          (p.pattern 5
          (p.Annotated
          (p.pattern 5
          (p.Object (p.Field (token 6 (codes "x")) (p.pattern 6 (p.Variable (codes "x"))) p.NoFields)))
          (p.node 9
          (p.Object
          (p.Field true (token 11 (codes "x")) (p.node 13 (p.Use (codes "Nat") p.Nil)) p.NoFields)))))
          p.Nil);
      result = None;
    }) (p.exp 16 (p.Block p.End))) p.End)) ∷
    -- actor { let (1 or n) = 1 }
    refused condition.PatternType 4
    (actor
    (p.Then false 2
    (p.Let (p.pattern 4 (p.Alternative (p.pattern 4 (p.Constant false (p.Number 1))) (p.pattern 6 (p.Variable (codes "n")))))
    (p.exp 9 (p.Constant (p.Number 1)))) p.End)) ∷
    []
