-- Programs that are typed: patterns.
use Rattle.std.specs.Prelude.{true, false, List, [], ◌∷◌, Some, codes}
use Rattle.mo_syntax.specs.declared.operators.BinaryOperator.TheVariants as op
use Rattle.typing_rules.specs.AbstractSyntax as p
use Rattle.typing_rules.specs.Rows.{Row, accepted, actor, token}

-- none of them is at fault
abbrev pub typed_patterns : List Row
typed_patterns =
    -- actor { let (a, b) = (1, ?2); func f(x : { #p : Nat; #q }) : Nat { switch x { case (#p n) n; case (#q) 0 } }; func g({ x; y = z } : { x : Nat; y : Nat }) : Nat { x + z } }
    accepted
    (actor
    (p.Then false 2
    (p.Let (p.pattern 3 (p.Tuple (p.Cons (p.pattern 4 (p.Variable (codes "a"))) (p.Cons (p.pattern 6 (p.Variable (codes "b"))) p.Nil))))
    (p.exp 9
    (p.Tuple
    (p.Cons (p.exp 10 (p.Constant (p.Number 1)))
    (p.Cons (p.exp 12 (p.Optional (p.exp 13 (p.Constant (p.Number 2))))) p.Nil)))))
    (p.Then false 16
    (p.Func (token 17 (codes "f"))
    (record {
      generics = [];
      parameters =
          (p.Cons
          (p.pattern 19
          (p.Annotated (p.pattern 19 (p.Variable (codes "x")))
          (p.node 21
          (p.Variant
          (p.Field false (token 23 (codes "p")) (p.node 25 (p.Use (codes "Nat") p.Nil))
          (p.EmptyTag (token 28 (codes "q")) p.NoFields)))))) p.Nil);
      result = (Some (p.node 32 (p.Use (codes "Nat") p.Nil)));
    })
    (p.exp 33
    (p.Block
    (p.Then false 34
    (p.Evaluate
    (p.exp 34
    (p.Switch (p.exp 35 (p.Name (codes "x")))
    (p.Case (p.pattern 39 (p.Tagged (codes "p") (p.pattern 41 (p.Variable (codes "n")))))
    (p.exp 43 (p.Name (codes "n")))
    (p.Case (p.pattern 47 (p.Tag (codes "q"))) (p.exp 50 (p.Constant (p.Number 0)))
    p.NoCases))))) p.End))))
    (p.Then false 54
    (p.Func (token 55 (codes "g"))
    (record {
      generics = [];
      parameters =
          (p.Cons
          (p.pattern 57
          (p.Annotated
          (p.pattern 57
          (p.Object
          (p.Field (token 58 (codes "x")) (p.pattern 58 (p.Variable (codes "x")))
          (p.Field (token 60 (codes "y")) (p.pattern 62 (p.Variable (codes "z")))
          p.NoFields))))
          (p.node 65
          (p.Object
          (p.Field false (token 66 (codes "x")) (p.node 68 (p.Use (codes "Nat") p.Nil))
          (p.Field false (token 70 (codes "y"))
          (p.node 72 (p.Use (codes "Nat") p.Nil)) p.NoFields)))))) p.Nil);
      result = (Some (p.node 76 (p.Use (codes "Nat") p.Nil)));
    })
    (p.exp 77
    (p.Block
    (p.Then false 78
    (p.Evaluate
    (p.exp 78 (p.Binary op.Add (p.exp 78 (p.Name (codes "x"))) (p.exp 80 (p.Name (codes "z"))))))
    p.End)))) p.End)))) ∷
    -- actor { func h(n : Int) : Nat { switch n { case (-1 or 1) 1; case (m : Int) 0 } }; func k(c : Char, t : Text) : Nat { switch (c, t) { case ('a', "b") 1; case _ 2 } } }
    accepted
    (actor
    (p.Then false 2
    (p.Func (token 3 (codes "h"))
    (record {
      generics = [];
      parameters =
          (p.Cons (p.pattern 5 (p.Annotated (p.pattern 5 (p.Variable (codes "n"))) (p.node 7 (p.Use (codes "Int") p.Nil))))
          p.Nil);
      result = (Some (p.node 10 (p.Use (codes "Nat") p.Nil)));
    })
    (p.exp 11
    (p.Block
    (p.Then false 12
    (p.Evaluate
    (p.exp 12
    (p.Switch (p.exp 13 (p.Name (codes "n")))
    (p.Case
    (p.pattern 17
    (p.Alternative (p.pattern 17 (p.Constant true (p.Number 1)))
    (p.pattern 20 (p.Constant false (p.Number 1)))))
    (p.exp 22 (p.Constant (p.Number 1)))
    (p.Case
    (p.pattern 26
    (p.Annotated (p.pattern 26 (p.Variable (codes "m")))
    (p.node 28 (p.Use (codes "Int") p.Nil)))) (p.exp 30 (p.Constant (p.Number 0)))
    p.NoCases))))) p.End))))
    (p.Then false 34
    (p.Func (token 35 (codes "k"))
    (record {
      generics = [];
      parameters =
          (p.Cons
          (p.pattern 37
          (p.Annotated (p.pattern 37 (p.Variable (codes "c"))) (p.node 39 (p.Use (codes "Char") p.Nil))))
          (p.Cons
          (p.pattern 41
          (p.Annotated (p.pattern 41 (p.Variable (codes "t"))) (p.node 43 (p.Use (codes "Text") p.Nil))))
          p.Nil));
      result = (Some (p.node 46 (p.Use (codes "Nat") p.Nil)));
    })
    (p.exp 47
    (p.Block
    (p.Then false 48
    (p.Evaluate
    (p.exp 48
    (p.Switch
    (p.exp 49
    (p.Tuple
    (p.Cons (p.exp 50 (p.Name (codes "c")))
    (p.Cons (p.exp 52 (p.Name (codes "t"))) p.Nil))))
    (p.Case
    (p.pattern 56
    (p.Tuple
    (p.Cons (p.pattern 57 (p.Constant false (p.Character 97)))
    (p.Cons (p.pattern 59 (p.Constant false (p.Text (codes "b")))) p.Nil))))
    (p.exp 61 (p.Constant (p.Number 1)))
    (p.Case (p.pattern 64 p.Wildcard) (p.exp 65 (p.Constant (p.Number 2))) p.NoCases))))) p.End))))
    p.End))) ∷
    []
