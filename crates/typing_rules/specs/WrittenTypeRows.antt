-- Programs whose written types or definitions are at fault.
use Rattle.std.specs.Prelude.{true, false, List, [], ◌∷◌, Some, None, codes}
use Rattle.mo_syntax.specs.declared.types.Sharing.TheVariants as sharing
use Rattle.typing_rules.specs.declared.condition.Condition.TheVariants as condition
use Rattle.typing_rules.specs.AbstractSyntax as p
use Rattle.typing_rules.specs.Rows.{Row, refused, actor, program, token}

-- the fault is at the first token of the node
abbrev pub written_type_first : List Row
written_type_first =
    -- actor { public func f(x) : async () { } }
    refused condition.NeedsType 6
    (actor
    (p.Then true 2
    (p.Method false None (token 4 (codes "f"))
    (record {
      generics = [];
      parameters = (p.Cons (p.pattern 6 (p.Variable (codes "x"))) p.Nil);
      result = (Some (p.node 9 (p.Async (p.node 10 (p.Tuple p.Nil)))));
    }) (p.exp 12 (p.Block p.End))) p.End)) ∷
    -- actor { object o { public let x = 1 } }
    refused condition.NeedsType 7
    (actor
    (p.Then false 2
    (p.NamedObject (token 3 (codes "o"))
    (p.Then true 5 (p.Let (p.pattern 7 (p.Variable (codes "x"))) (p.exp 9 (p.Constant (p.Number 1)))) p.End)) p.End)) ∷
    -- import A "mo:base/Array"; actor { let g = A.init }
    refused condition.TypeArguments 9
    (program ((codes "A", codes "mo:base/Array") ∷ []) None
    (p.Then false 6 (p.Let (p.pattern 7 (p.Variable (codes "g"))) (p.exp 9 (p.Member (p.exp 9 (p.Name (codes "A"))) (codes "init")))) p.End)) ∷
    -- actor { let x : Nat<Int> = 1 }
    refused condition.TypeArguments 5
    (actor
    (p.Then false 2
    (p.Let
    (p.pattern 3
    (p.Annotated (p.pattern 3 (p.Variable (codes "x")))
    (p.node 5 (p.Use (codes "Nat") (p.Cons (p.node 7 (p.Use (codes "Int") p.Nil)) p.Nil)))))
    (p.exp 10 (p.Constant (p.Number 1)))) p.End)) ∷
    -- actor { func f<T <: Nat>(x : T) { }; f<Int>(1) }
    refused condition.Bound 17
    (actor
    (p.Then false 2
    (p.Func (token 3 (codes "f"))
    (record {
      generics = record { name = (token 5 (codes "T")); bound = (Some (p.node 7 (p.Use (codes "Nat") p.Nil))) } ∷ [];
      parameters =
          (p.Cons (p.pattern 10 (p.Annotated (p.pattern 10 (p.Variable (codes "x"))) (p.node 12 (p.Use (codes "T") p.Nil))))
          p.Nil);
      result = None;
    }) (p.exp 14 (p.Block p.End)))
    (p.Then false 17
    (p.Evaluate
    (p.exp 17
    (p.Call (p.exp 17 (p.Name (codes "f"))) (Some ((p.node 19 (p.Use (codes "Int") p.Nil)) ∷ []))
    (p.Cons (p.exp 22 (p.Constant (p.Number 1))) p.Nil)))) p.End))) ∷
    -- actor { func f<T <: { name : Text }>(x : T) { }; f<{ age : Nat }>({ age = 1 }) }
    refused condition.Bound 21
    (actor
    (p.Then false 2
    (p.Func (token 3 (codes "f"))
    (record {
      generics = record {
        name = (token 5 (codes "T"));
        bound =
            (Some
            (p.node 7
            (p.Object
            (p.Field false (token 8 (codes "name")) (p.node 10 (p.Use (codes "Text") p.Nil)) p.NoFields))));
      } ∷ [];
      parameters =
          (p.Cons (p.pattern 14 (p.Annotated (p.pattern 14 (p.Variable (codes "x"))) (p.node 16 (p.Use (codes "T") p.Nil))))
          p.Nil);
      result = None;
    }) (p.exp 18 (p.Block p.End)))
    (p.Then false 21
    (p.Evaluate
    (p.exp 21
    (p.Call (p.exp 21 (p.Name (codes "f")))
    (Some
    ((p.node 23
    (p.Object
    (p.Field false (token 24 (codes "age")) (p.node 26 (p.Use (codes "Nat") p.Nil)) p.NoFields))) ∷ []))
    (p.Cons
    (p.exp 30
    (p.Object
    (p.Field false (token 31 (codes "age")) None (p.exp 33 (p.Constant (p.Number 1))) p.NoFields)))
    p.Nil)))) p.End))) ∷
    -- actor { public func f() : async (Nat -> Nat) { func (n : Nat) : Nat { n } } }
    refused condition.NotShared 4
    (actor
    (p.Then true 2
    (p.Method false None (token 4 (codes "f"))
    (record {
      generics = [];
      parameters = p.Nil;
      result =
          (Some
          (p.node 8
          (p.Async
          (p.node 10
          (p.Function sharing.Local (p.Cons (p.node 10 (p.Use (codes "Nat") p.Nil)) p.Nil)
          (p.node 12 (p.Use (codes "Nat") p.Nil)))))));
    })
    (p.exp 14
    (p.Block
    (p.Then false 15
    (p.Evaluate
    (p.exp 15
    (p.Function
    (record {
      generics = [];
      parameters =
          (p.Cons
          (p.pattern 17
          (p.Annotated (p.pattern 17 (p.Variable (codes "n")))
          (p.node 19 (p.Use (codes "Nat") p.Nil)))) p.Nil);
      result = (Some (p.node 22 (p.Use (codes "Nat") p.Nil)));
    }) (p.exp 23 (p.Block (p.Then false 24 (p.Evaluate (p.exp 24 (p.Name (codes "n")))) p.End))))))
    p.End)))) p.End)) ∷
    -- actor { type F = shared Nat -> Nat }
    refused condition.NotShared 5
    (actor
    (p.Then false 2
    (p.TypeAlias (token 3 (codes "F")) ([])
    (p.node 5
    (p.Function sharing.Shared (p.Cons (p.node 6 (p.Use (codes "Nat") p.Nil)) p.Nil) (p.node 8 (p.Use (codes "Nat") p.Nil)))))
    p.End)) ∷
    -- import E "mo:base/Error"; actor { stable var e : Error = E.reject("") }
    refused condition.StableType 6
    (program ((codes "E", codes "mo:base/Error") ∷ []) None
    (p.Then false 6
    (p.Var true (token 8 (codes "e")) (Some (p.node 10 (p.Use (codes "Error") p.Nil)))
    (p.exp 12
    (p.Call (p.exp 12 (p.Member (p.exp 12 (p.Name (codes "E"))) (codes "reject"))) None
    (p.Cons (p.exp 16 (p.Constant (p.Text []))) p.Nil)))) p.End)) ∷
    -- actor { type T = T }
    refused condition.BadDefinition 3
    (actor (p.Then false 2 (p.TypeAlias (token 3 (codes "T")) ([]) (p.node 5 (p.Use (codes "T") p.Nil))) p.End)) ∷
    -- actor { type Id<T> = T; type X = Id<X> }
    refused condition.BadDefinition 11
    (actor
    (p.Then false 2 (p.TypeAlias (token 3 (codes "Id")) ((token 5 (codes "T")) ∷ []) (p.node 8 (p.Use (codes "T") p.Nil)))
    (p.Then false 10
    (p.TypeAlias (token 11 (codes "X")) ([]) (p.node 13 (p.Use (codes "Id") (p.Cons (p.node 15 (p.Use (codes "X") p.Nil)) p.Nil))))
    p.End))) ∷
    -- actor { type T<A, B> = ?(A, T<B, A>) }
    refused condition.BadDefinition 3
    (actor
    (p.Then false 2
    (p.TypeAlias (token 3 (codes "T")) ((token 5 (codes "A")) ∷ (token 7 (codes "B")) ∷ [])
    (p.node 10
    (p.Optional
    (p.node 11
    (p.Tuple
    (p.Cons (p.node 12 (p.Use (codes "A") p.Nil))
    (p.Cons
    (p.node 14
    (p.Use (codes "T")
    (p.Cons (p.node 16 (p.Use (codes "B") p.Nil))
    (p.Cons (p.node 18 (p.Use (codes "A") p.Nil)) p.Nil)))) p.Nil))))))) p.End)) ∷
    []

-- the fault is at the first token of the node
abbrev pub written_type_second : List Row
written_type_second =
    -- actor { let y = [var] }
    refused condition.NeedsType 5
    (actor (p.Then false 2 (p.Let (p.pattern 3 (p.Variable (codes "y"))) (p.exp 5 (p.Array true p.Nil))) p.End)) ∷
    -- actor { public func f() : Nat { 1 } }
    refused condition.NotShared 4
    (actor
    (p.Then true 2
    (p.Method false None (token 4 (codes "f"))
    (record { generics = []; parameters = p.Nil; result = (Some (p.node 8 (p.Use (codes "Nat") p.Nil))) })
    (p.exp 9 (p.Block (p.Then false 10 (p.Evaluate (p.exp 10 (p.Constant (p.Number 1)))) p.End)))) p.End)) ∷
    -- actor { func f<T <: S, S <: T>(x : T) { } }
    refused condition.BadDefinition 5
    (actor
    (p.Then false 2
    (p.Func (token 3 (codes "f"))
    (record {
      generics = record { name = (token 5 (codes "T")); bound = (Some (p.node 7 (p.Use (codes "S") p.Nil))) } ∷ record
          { name = (token 9 (codes "S")); bound = (Some (p.node 11 (p.Use (codes "T") p.Nil))) } ∷ [];
      parameters =
          (p.Cons (p.pattern 14 (p.Annotated (p.pattern 14 (p.Variable (codes "x"))) (p.node 16 (p.Use (codes "T") p.Nil))))
          p.Nil);
      result = None;
    }) (p.exp 18 (p.Block p.End))) p.End)) ∷
    -- actor { type R<T> = ?R<[T]> }
    refused condition.BadDefinition 3
    (actor
    (p.Then false 2
    (p.TypeAlias (token 3 (codes "R")) ((token 5 (codes "T")) ∷ [])
    (p.node 8
    (p.Optional
    (p.node 9 (p.Use (codes "R") (p.Cons (p.node 11 (p.Array false (p.node 12 (p.Use (codes "T") p.Nil)))) p.Nil)))))) p.End)) ∷
    -- actor { object o { public func f<T>(x : T) { } } }
    refused condition.TypeArguments 7
    (actor
    (p.Then false 2
    (p.NamedObject (token 3 (codes "o"))
    (p.Then true 5
    (p.Func (token 7 (codes "f"))
    (record {
      generics = record { name = (token 9 (codes "T")); bound = None } ∷ [];
      parameters =
          (p.Cons
          (p.pattern 12
          (p.Annotated (p.pattern 12 (p.Variable (codes "x"))) (p.node 14 (p.Use (codes "T") p.Nil))))
          p.Nil);
      result = None;
    }) (p.exp 16 (p.Block p.End))) p.End)) p.End)) ∷
    -- actor { let f = func (x : Nat) : Nat { x }; f<Nat>(1) }
    refused condition.TypeArguments 17
    (actor
    (p.Then false 2
    (p.Let (p.pattern 3 (p.Variable (codes "f")))
    (p.exp 5
    (p.Function
    (record {
      generics = [];
      parameters =
          (p.Cons
          (p.pattern 7
          (p.Annotated (p.pattern 7 (p.Variable (codes "x"))) (p.node 9 (p.Use (codes "Nat") p.Nil))))
          p.Nil);
      result = (Some (p.node 12 (p.Use (codes "Nat") p.Nil)));
    }) (p.exp 13 (p.Block (p.Then false 14 (p.Evaluate (p.exp 14 (p.Name (codes "x")))) p.End))))))
    (p.Then false 17
    (p.Evaluate
    (p.exp 17
    (p.Call (p.exp 17 (p.Name (codes "f"))) (Some ((p.node 19 (p.Use (codes "Nat") p.Nil)) ∷ []))
    (p.Cons (p.exp 22 (p.Constant (p.Number 1))) p.Nil)))) p.End))) ∷
    []
