-- The type definitions and type parameters of a program, wherever they stand (Motoko language manual, sections "Type declarations", "Class declaration" and
-- "Type parameters").
use Rattle.std.specs.Prelude.{List, [], ◌∷◌, ◌++◌}
use Rattle.typing_rules.specs.AbstractSyntax.{Named, TypeParameter, Signature, Expression, Expressions, Cases, ObjectFields, Declaration, Declarations, Program}
use Rattle.typing_rules.specs.AbstractSyntax as p
use Rattle.typing_rules.specs.Terms.{Term}
use Rattle.typing_rules.specs.Terms as t
use Rattle.typing_rules.specs.Definitions.{Bounded, Definitions}
use Rattle.typing_rules.specs.TypeScopes.{TypeScope, no_types, with_parameters, names_of, places_of, term, term_or}
use Rattle.typing_rules.specs.DeclaredTypes.{within, with_list, member_fields}

abbrev pub nothing : Definitions
nothing = record { types = []; parameters = [] }

abbrev pub both : Definitions → Definitions → Definitions
both a b = record { types = a.types ++ b.types; parameters = a.parameters ++ b.parameters }

-- ---- type parameters

abbrev pub bounded : TypeScope → List TypeParameter → List Bounded
bounded s [] = []
bounded s (g ∷ rest) = record { at = g.name.at; bound = term_or s g.bound t.Any } ∷ bounded s rest

abbrev pub of_generics : TypeScope → List TypeParameter → Definitions
of_generics s generics = record { types = []; parameters = bounded s generics }

-- ---- definitions

abbrev pub defined : TypeScope → Named → List Named → Term → Definitions
defined s x own right = record { types = record { at = x.at; outer = s.parameters; own = places_of own; right = right } ∷ []; parameters = [] }

abbrev pub class_object : {N : Type 0} → TypeScope → Signature N → Declarations N → Term
class_object s g fields = t.Object (member_fields (with_list (within s g) fields) fields)

abbrev mutual
  pub in_expression : {N : Type 0} → TypeScope → Expression N → Definitions
  in_expression s (p.exp n (p.Constant l)) = nothing
  in_expression s (p.exp n (p.Name x)) = nothing
  in_expression s (p.exp n (p.Tuple items)) = in_each s items
  in_expression s (p.exp n (p.Optional a)) = in_expression s a
  in_expression s (p.exp n (p.Tag x)) = nothing
  in_expression s (p.exp n (p.Tagged x a)) = in_expression s a
  in_expression s (p.exp n (p.Array mutable items)) = in_each s items
  in_expression s (p.exp n (p.Object fields)) = in_fields s fields
  in_expression s (p.exp n (p.Member a x)) = in_expression s a
  in_expression s (p.exp n (p.Projection a i)) = in_expression s a
  in_expression s (p.exp n (p.Index a i)) = both (in_expression s a) (in_expression s i)
  in_expression s (p.exp n (p.Annotated a u)) = in_expression s a
  in_expression s (p.exp n (p.Negative a)) = in_expression s a
  in_expression s (p.exp n (p.Binary o a b)) = both (in_expression s a) (in_expression s b)
  in_expression s (p.exp n (p.Not a)) = in_expression s a
  in_expression s (p.exp n (p.Assign q a)) = both (in_expression s q) (in_expression s a)
  in_expression s (p.exp n (p.AssignBy o q a)) = both (in_expression s q) (in_expression s a)
  in_expression s (p.exp n (p.Call f types arguments)) = both (in_expression s f) (in_each s arguments)
  in_expression s (p.exp n (p.When c a)) = both (in_expression s c) (in_expression s a)
  in_expression s (p.exp n (p.If c a b)) = both (in_expression s c) (both (in_expression s a) (in_expression s b))
  in_expression s (p.exp n (p.Switch a cases)) = both (in_expression s a) (in_cases s cases)
  in_expression s (p.exp n (p.Try a q b)) = both (in_expression s a) (in_expression s b)
  in_expression s (p.exp n (p.While c a)) = both (in_expression s c) (in_expression s a)
  in_expression s (p.exp n (p.Loop a)) = in_expression s a
  in_expression s (p.exp n (p.LoopWhile a c)) = both (in_expression s a) (in_expression s c)
  in_expression s (p.exp n (p.For q a b)) = both (in_expression s a) (in_expression s b)
  in_expression s (p.exp n (p.Label x u a)) = in_expression s a
  in_expression s (p.exp n (p.Break x)) = nothing
  in_expression s (p.exp n (p.BreakWith x a)) = in_expression s a
  in_expression s (p.exp n (p.Continue x)) = nothing
  in_expression s (p.exp n p.Return) = nothing
  in_expression s (p.exp n (p.ReturnWith a)) = in_expression s a
  in_expression s (p.exp n (p.Throw a)) = in_expression s a
  in_expression s (p.exp n (p.Do a)) = in_expression s a
  in_expression s (p.exp n (p.DoOption a)) = in_expression s a
  in_expression s (p.exp n (p.Bang a)) = in_expression s a
  in_expression s (p.exp n (p.Block ds)) = in_list (with_list s ds) ds
  in_expression s (p.exp n (p.Function g body)) = both (of_generics (within s g) g.generics) (in_expression (within s g) body)
  in_expression s (p.exp n (p.ObjectBlock fields)) = in_list (with_list s fields) fields
  in_expression s (p.exp n (p.Assert a)) = in_expression s a
  in_expression s (p.exp n (p.Ignore a)) = in_expression s a
  in_expression s (p.exp n (p.Debug a)) = in_expression s a
  in_expression s (p.exp n (p.ActorReference x)) = nothing
  in_expression s (p.exp n (p.Await a)) = in_expression s a
  in_expression s (p.exp n (p.BuiltIn m)) = nothing
  in_expression s (p.exp n (p.Subsumed a)) = in_expression s a

  pub in_each : {N : Type 0} → TypeScope → Expressions N → Definitions
  in_each s p.Nil = nothing
  in_each s (p.Cons a rest) = both (in_expression s a) (in_each s rest)

  pub in_cases : {N : Type 0} → TypeScope → Cases N → Definitions
  in_cases s p.NoCases = nothing
  in_cases s (p.Case q a rest) = both (in_expression s a) (in_cases s rest)

  pub in_fields : {N : Type 0} → TypeScope → ObjectFields N → Definitions
  in_fields s p.NoFields = nothing
  in_fields s (p.Field mutable x u a rest) = both (in_expression s a) (in_fields s rest)

  -- in the scope of all types of the list
  pub in_list : {N : Type 0} → TypeScope → Declarations N → Definitions
  in_list s p.End = nothing
  in_list s (p.Then public n d rest) = both (in_declaration s d) (in_list s rest)

  pub in_declaration : {N : Type 0} → TypeScope → Declaration N → Definitions
  in_declaration s (p.Let q a) = in_expression s a
  in_declaration s (p.Var stable x u a) = in_expression s a
  in_declaration s (p.Func x g body) = both (of_generics (within s g) g.generics) (in_expression (within s g) body)
  in_declaration s (p.Method query context x g body) = in_expression s body
  in_declaration s (p.System x body) = in_expression s body
  in_declaration s (p.TypeAlias x parameters a) = defined s x parameters (term (with_parameters s parameters) a)
  in_declaration s (p.Class x g fields) =
      both (defined s x (names_of g.generics) (class_object s g fields))
      (both (of_generics (within s g) g.generics) (in_list (with_list (within s g) fields) fields))
  in_declaration s (p.NamedObject x fields) = in_list (with_list s fields) fields
  in_declaration s (p.Evaluate a) = in_expression s a

-- the definitions of a program
abbrev pub gathered : {N : Type 0} → Program N → Definitions
gathered program = in_list (with_list no_types program.fields) program.fields
