-- What is asked of the source of an expression, at each of its nodes: what its tokens are, and what the rules on names see to.
use Rattle.std.specs.Prelude.{◌≡◌, ℕ, true, false, List, [], map}
use Rattle.mo_types.specs.declared.node.TypeId.{TypeId}
use Rattle.mo_types.specs.Graph.{Slot}
use Rattle.mo_types.specs.Label.{label_id}
use Rattle.typed_tree.specs.OperationTypes.{Distinct}
use Rattle.typing_rules.specs.AbstractSyntax.{Expression, Expressions, Cases, ObjectFields, Declaration, Declarations}
use Rattle.typing_rules.specs.AbstractSyntax as p
use Rattle.typing_rules.specs.DeclaredTypes.{within, with_list}
use Rattle.typing_rules.specs.Definitions.{Definitions}
use Rattle.typing_rules.specs.Terms.{Term}
use Rattle.typing_rules.specs.TypeScopes.{TypeScope}
use Rattle.desugaring_laws.specs.Written.{IsWritten}
use Rattle.expression_laws.specs.Laws.{IsPatternFine, labels_in}
use Rattle.function_laws.specs.Laws.{AreParametersFine}
use Rattle.declaration_laws.specs.Laws.{own_of}
use Rattle.declaration_laws.specs.Made.{AreFresh}
use Rattle.block_forms.specs.Blocks.{InOrder}
use Rattle.block_forms.specs.Fields.{public_fields}

module _ (defs : Definitions) (slots : List Slot) (terms : List Term) (number : Term → TypeId) where
  abbrev mutual
    -- Characters can be written, names of patterns and labels of objects differ, functions without a name have no type parameters, the names of lists differ
    -- and are used where they stand. Built-in members and `Subsumed` stand only in what is given.
    pub IsSource : TypeScope → Expression ℕ → Type 0
    IsSource s (p.exp n (p.Constant l)) = IsWritten l
    IsSource s (p.exp n (p.Name x)) = Unit {0}
    IsSource s (p.exp n (p.Tuple items)) = EachIsSource s items
    IsSource s (p.exp n (p.Optional a)) = IsSource s a
    IsSource s (p.exp n (p.Tag x)) = Unit {0}
    IsSource s (p.exp n (p.Tagged x a)) = IsSource s a
    IsSource s (p.exp n (p.Array mutable items)) = EachIsSource s items
    IsSource s (p.exp n (p.Object fields)) = EachFieldIsSource s fields × Distinct (map label_id (labels_in fields))
    IsSource s (p.exp n (p.Member a x)) = IsSource s a
    IsSource s (p.exp n (p.Projection a i)) = IsSource s a
    IsSource s (p.exp n (p.Index a i)) = IsSource s a × IsSource s i
    IsSource s (p.exp n (p.Annotated a t)) = IsSource s a
    IsSource s (p.exp n (p.Negative a)) = IsSource s a
    IsSource s (p.exp n (p.Binary o a b)) = IsSource s a × IsSource s b
    IsSource s (p.exp n (p.Not a)) = IsSource s a
    IsSource s (p.exp n (p.Assign q a)) = IsSource s q × IsSource s a
    IsSource s (p.exp n (p.AssignBy o q a)) = IsSource s q × IsSource s a
    IsSource s (p.exp n (p.Call f types arguments)) = IsSource s f × EachIsSource s arguments
    IsSource s (p.exp n (p.When c a)) = IsSource s c × IsSource s a
    IsSource s (p.exp n (p.If c a b)) = IsSource s c × IsSource s a × IsSource s b
    IsSource s (p.exp n (p.Switch a cases)) = IsSource s a × EachCaseIsSource s cases
    IsSource s (p.exp n (p.Try a q b)) = IsSource s a × IsPatternFine q × IsSource s b
    IsSource s (p.exp n (p.While c a)) = IsSource s c × IsSource s a
    IsSource s (p.exp n (p.Loop a)) = IsSource s a
    IsSource s (p.exp n (p.LoopWhile a c)) = IsSource s a × IsSource s c
    IsSource s (p.exp n (p.For q a b)) = IsPatternFine q × IsSource s a × IsSource s b
    IsSource s (p.exp n (p.Label x t a)) = IsSource s a
    IsSource s (p.exp n (p.Break x)) = Unit {0}
    IsSource s (p.exp n (p.BreakWith x a)) = IsSource s a
    IsSource s (p.exp n (p.Continue x)) = Unit {0}
    IsSource s (p.exp n p.Return) = Unit {0}
    IsSource s (p.exp n (p.ReturnWith a)) = IsSource s a
    IsSource s (p.exp n (p.Throw a)) = IsSource s a
    IsSource s (p.exp n (p.Do a)) = IsSource s a
    IsSource s (p.exp n (p.DoOption a)) = IsSource s a
    IsSource s (p.exp n (p.Bang a)) = IsSource s a
    IsSource s (p.exp n (p.Block ds)) = AreSource (with_list s ds) ds × InOrder defs slots terms number true s ds
    IsSource s (p.exp n (p.Function g body)) = (g.generics ≡ []) × AreParametersFine g.parameters × IsSource s body
    IsSource s (p.exp n (p.ObjectBlock fields)) = AreSource (with_list s fields) fields × InOrder defs slots terms number false s fields × Distinct (map label_id (public_fields fields))
    IsSource s (p.exp n (p.Assert a)) = IsSource s a
    IsSource s (p.exp n (p.Ignore a)) = IsSource s a
    IsSource s (p.exp n (p.Debug a)) = IsSource s a
    IsSource s (p.exp n (p.ActorReference x)) = Unit {0}
    IsSource s (p.exp n (p.Await a)) = IsSource s a
    IsSource s (p.exp n (p.BuiltIn m)) = ⊥
    IsSource s (p.exp n (p.Subsumed a)) = ⊥

    pub EachIsSource : TypeScope → Expressions ℕ → Type 0
    EachIsSource s p.Nil = Unit {0}
    EachIsSource s (p.Cons a rest) = IsSource s a × EachIsSource s rest

    pub EachCaseIsSource : TypeScope → Cases ℕ → Type 0
    EachCaseIsSource s p.NoCases = Unit {0}
    EachCaseIsSource s (p.Case q a rest) = IsPatternFine q × IsSource s a × EachCaseIsSource s rest

    pub EachFieldIsSource : TypeScope → ObjectFields ℕ → Type 0
    EachFieldIsSource s p.NoFields = Unit {0}
    EachFieldIsSource s (p.Field mutable x u a rest) = IsSource s a × EachFieldIsSource s rest

    -- Of a list that is no actor's: stable variables and methods stand in actors only. The numbers of type parameters differ, and from those in scope.
    pub AreSource : TypeScope → Declarations ℕ → Type 0
    AreSource s p.End = Unit {0}
    AreSource s (p.Then public n d rest) = DeclarationIsSource s d × AreSource s rest

    pub DeclarationIsSource : TypeScope → Declaration ℕ → Type 0
    DeclarationIsSource s (p.Let q a) = IsPatternFine q × IsSource s a
    DeclarationIsSource s (p.Var false x u a) = IsSource s a
    DeclarationIsSource s (p.Var true x u a) = ⊥
    DeclarationIsSource s (p.Func x g body) = AreParametersFine g.parameters × AreFresh s.parameters (own_of g) × IsSource (within s g) body
    DeclarationIsSource s (p.Method query context x g body) = ⊥
    DeclarationIsSource s (p.System x body) = ⊥
    DeclarationIsSource s (p.TypeAlias x parameters u) = Unit {0}
    DeclarationIsSource s (p.Class x g fields) =
        AreParametersFine g.parameters × AreFresh s.parameters (own_of g) × AreSource (with_list (within s g) fields) fields × InOrder defs slots terms number false (within s g) fields × Distinct (map label_id (public_fields fields))
    DeclarationIsSource s (p.NamedObject x fields) = AreSource (with_list s fields) fields × InOrder defs slots terms number false s fields × Distinct (map label_id (public_fields fields))
    DeclarationIsSource s (p.Evaluate a) = IsSource s a
