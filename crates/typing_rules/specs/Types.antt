-- The rules of written types and of type definitions (Motoko language manual, sections "Types", "Type declarations", "Shareability" and "Type parameters").
use Rattle.std.specs.Prelude.{ℕ, suc, Bool, true, false, not, List, [], ◌∷◌, Option, Some, None, is_some, nat_eq, map, length}
use Rattle.mo_syntax.specs.declared.types.Sharing.TheVariants as sharing
use Rattle.mo_types.specs.declared.node.Node.{Node}
use Rattle.mo_types.specs.declared.node.Node.TheVariants as node
use Rattle.mo_types.specs.declared.node.Sort.TheVariants as sort
use Rattle.typing_rules.specs.declared.condition.Condition.TheVariants as condition
use Rattle.typing_rules.specs.AbstractSyntax.{Named, TypeNode, TypeNodes, TypeFields, TypeParameter}
use Rattle.typing_rules.specs.AbstractSyntax as p
use Rattle.typing_rules.specs.Terms.{Term, listed}
use Rattle.typing_rules.specs.Terms as t
use Rattle.typing_rules.specs.Definitions.{Definitions, definition_at, reached}
use Rattle.typing_rules.specs.Heads.{head, bound_of, promoted}
use Rattle.typing_rules.specs.Groups.{keeps_parameters}
use Rattle.typing_rules.specs.Judgements.{Judgement, Gives, Fails, Meets, Part, Tests, NeedsEach, IsShareable, Fine}
use Rattle.typing_rules.specs.TypeScopes.{TypeScope, TypeName, IsParameter, IsDefinition, type_named, term, terms}

abbrev pub count_types : TypeNodes → ℕ
count_types p.Nil = 0
count_types (p.Cons a rest) = suc (count_types rest)

-- how many arguments a name has
abbrev pub arity : Option TypeName → ℕ
arity None = 0
arity (Some (IsParameter at)) = 0
arity (Some (IsDefinition at outer own)) = own

abbrev pub is_shared_function : Node Term → Bool
is_shared_function (node.Func sort.Local parameters results) = false
is_shared_function (node.Func s parameters results) = true
is_shared_function _ = false

abbrev pub none_is_there : {A : Type 0} → Option A → Bool
none_is_there o = not (is_some o)

-- "The parameters and results of shared functions have shareable types."
abbrev pub AllShareable : ℕ → List Term → Term → Judgement (Unit {0})
AllShareable at parameters r = NeedsEach condition.NotShared at (map IsShareable (r ∷ parameters)) Fine

module _ (defs : Definitions) where
  abbrev mutual
    -- `async T` stands only as a shared function's result, and a shared function's type has one as its result. Its parameters and T are shareable.
    -- Each field of an actor type is a shared function's type.
    pub Proper : TypeScope → TypeNode → Judgement (Unit {0})
    Proper s (p.node at (p.Function sharing.Local parameters r)) = Part (EachProper s parameters) (λ _. Proper s r)
    Proper s (p.node at (p.Function _ parameters (p.node inner (p.Async r)))) =
        Part (EachProper s parameters) (λ _. Part (Proper s r) (λ _. AllShareable at (listed (terms s parameters)) (term s r)))
    Proper s (p.node at (p.Function _ parameters r)) = Fails condition.NotShared at
    Proper s (p.node at (p.Optional a)) = Proper s a
    Proper s (p.node at (p.Async a)) = Fails condition.NotShared at
    Proper s (p.node at (p.Use x arguments)) = Tests condition.TypeArguments at (nat_eq (count_types arguments) (arity (type_named s x))) (EachProper s arguments)
    Proper s (p.node at (p.Tuple items)) = EachProper s items
    Proper s (p.node at (p.Array mutable a)) = Proper s a
    Proper s (p.node at (p.Object fields)) = FieldsProper s fields
    Proper s (p.node at (p.Variant tags)) = FieldsProper s tags
    Proper s (p.node at (p.Actor methods)) = MethodsProper s methods

    pub EachProper : TypeScope → TypeNodes → Judgement (Unit {0})
    EachProper s p.Nil = Fine
    EachProper s (p.Cons a rest) = Part (Proper s a) (λ _. EachProper s rest)

    pub FieldsProper : TypeScope → TypeFields → Judgement (Unit {0})
    FieldsProper s p.NoFields = Fine
    FieldsProper s (p.Field mutable x a rest) = Part (Proper s a) (λ _. FieldsProper s rest)
    FieldsProper s (p.EmptyTag x rest) = FieldsProper s rest

    pub MethodsProper : TypeScope → TypeFields → Judgement (Unit {0})
    MethodsProper s p.NoFields = Fine
    MethodsProper s (p.Field mutable x a rest) =
        Part (Proper s a) (λ _. Tests condition.NotShared x.at (is_shared_function (head defs (term s a))) (MethodsProper s rest))
    MethodsProper s (p.EmptyTag x rest) = MethodsProper s rest

  -- the type that is written
  abbrev pub Reads : TypeScope → TypeNode → Judgement Term
  Reads s a = Part (Proper s a) (λ _. Meets (term s a) (Gives (term s a)))

  abbrev pub ReadsEach : TypeScope → List TypeNode → Judgement (List Term)
  ReadsEach s [] = Gives []
  ReadsEach s (a ∷ rest) = Part (Reads s a) (λ u. Part (ReadsEach s rest) (λ us. Gives (u ∷ us)))

  -- the type that is written, or else this one
  abbrev pub ReadsOr : TypeScope → Option TypeNode → Term → Judgement Term
  ReadsOr s None u = Gives u
  ReadsOr s (Some a) u = Reads s a

  -- A definition stands for a type that is no use of a name, and keeps to the parameters in its group.
  abbrev pub Defines : Named → Judgement (Unit {0})
  Defines x =
      Tests condition.BadDefinition x.at (is_some (reached defs.types x.at))
      (Tests condition.BadDefinition x.at (keeps_parameters defs.types (definition_at defs.types x.at)) Fine)

  -- the bounds of a parameter lead to a type that is no parameter
  abbrev pub ends : ℕ → Bool
  ends at = none_is_there (bound_of (head defs (promoted defs (length defs.parameters) (t.Parameter at))))

  -- type parameters, whose bounds are read where all of them are in scope; each is a type of the program, used or not
  abbrev pub Generics : TypeScope → List TypeParameter → Judgement (Unit {0})
  Generics s [] = Fine
  Generics s (g ∷ rest) =
      Part (ReadsOr s g.bound t.Any) (λ _. Tests condition.BadDefinition g.name.at (ends g.name.at) (Meets (t.Parameter g.name.at) (Generics s rest)))
