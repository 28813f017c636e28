-- The types that are written: names of types in scope, and the terms that written types stand for (Motoko language manual, sections "Types" and "Identifiers").
use Rattle.std.specs.Prelude.{ℕ, true, false, List, [], ◌∷◌, ◌++◌, Option, Some, None, map}
use Rattle.mo_num.specs.declared.kind.Kind.TheVariants as kind
use Rattle.mo_scopes.specs.declared.library.BuiltInType.{BuiltInType}
use Rattle.mo_scopes.specs.declared.library.BuiltInType.TheVariants as built_in
use Rattle.mo_scopes.specs.Scopes.{built_in_types, named}
use Rattle.mo_syntax.specs.declared.types.Sharing.TheVariants as sharing
use Rattle.mo_types.specs.declared.node.Sort.TheVariants as sort
use Rattle.typing_rules.specs.AbstractSyntax.{Bytes, Named, TypeNode, TypeNodes, TypeFields, TypeParameter}
use Rattle.typing_rules.specs.AbstractSyntax as p
use Rattle.typing_rules.specs.Terms.{Term, Terms, Fields, listed, unlisted}
use Rattle.typing_rules.specs.Terms as t

pub data TypeName : Type 0 where
  IsParameter : (at : ℕ) → TypeName
  -- a definition, with the parameters in scope there and the number of its own
  IsDefinition : (at : ℕ) → (outer : List ℕ) → (own : ℕ) → TypeName

-- the names, the innermost first, and the parameters in scope, the outermost first
pub record TypeScope : Type 0 where
  pub names : List (Bytes × TypeName)
  pub parameters : List ℕ

abbrev pub no_types : TypeScope
no_types = record { names = []; parameters = [] }

abbrev pub type_named : TypeScope → Bytes → Option TypeName
type_named s x = named s.names x

abbrev pub with_parameter : TypeScope → Named → TypeScope
with_parameter s x = record { names = (x.bytes, IsParameter x.at) ∷ s.names; parameters = s.parameters ++ x.at ∷ [] }

abbrev pub with_parameters : TypeScope → List Named → TypeScope
with_parameters s [] = s
with_parameters s (x ∷ xs) = with_parameters (with_parameter s x) xs

abbrev pub with_definition : TypeScope → Named → ℕ → TypeScope
with_definition s x own = record s { names = (x.bytes, IsDefinition x.at s.parameters own) ∷ s.names }

abbrev pub names_of : List TypeParameter → List Named
names_of generics = map (λ g. g.name) generics

abbrev pub places_of : List Named → List ℕ
places_of xs = map (λ x. x.at) xs

-- ---- terms

abbrev pub built_in_type : BuiltInType → Term
built_in_type built_in.Nat = t.Number kind.Nat
built_in_type built_in.Int = t.Number kind.Int
built_in_type built_in.Nat8 = t.Number kind.Nat8
built_in_type built_in.Nat16 = t.Number kind.Nat16
built_in_type built_in.Nat32 = t.Number kind.Nat32
built_in_type built_in.Nat64 = t.Number kind.Nat64
built_in_type built_in.Int8 = t.Number kind.Int8
built_in_type built_in.Int16 = t.Number kind.Int16
built_in_type built_in.Int32 = t.Number kind.Int32
built_in_type built_in.Int64 = t.Number kind.Int64
built_in_type built_in.Bool = t.Boolean
built_in_type built_in.Char = t.Character
built_in_type built_in.Text = t.Text
built_in_type built_in.Blob = t.Blob
built_in_type built_in.Principal = t.Principal
built_in_type built_in.Null = t.Null
built_in_type built_in.Any = t.Any
built_in_type built_in.None = t.Bottom
built_in_type built_in.Error = t.Error

-- A name that is not declared is built in.
abbrev pub built_in_term : Option BuiltInType → Term
built_in_term None = t.Bottom
built_in_term (Some b) = built_in_type b

abbrev pub use_term : Bytes → Option TypeName → Terms → Term
use_term x None arguments = built_in_term (named built_in_types x)
use_term x (Some (IsParameter at)) arguments = t.Parameter at
use_term x (Some (IsDefinition at outer own)) arguments = t.Use at (unlisted (map t.Parameter outer ++ listed arguments))

abbrev mutual
  pub term : TypeScope → TypeNode → Term
  term s (p.node at (p.Function sharing.Local parameters r)) = t.Function (terms s parameters) (term s r)
  term s (p.node at (p.Function sharing.Shared parameters (p.node inner (p.Async r)))) = t.Shared sort.Shared (terms s parameters) (term s r)
  term s (p.node at (p.Function sharing.SharedQuery parameters (p.node inner (p.Async r)))) = t.Shared sort.Query (terms s parameters) (term s r)
  term s (p.node at (p.Function _ parameters r)) = t.Function (terms s parameters) (term s r)
  term s (p.node at (p.Optional a)) = t.Optional (term s a)
  term s (p.node at (p.Async a)) = t.Async (term s a)
  term s (p.node at (p.Use x arguments)) = use_term x (type_named s x) (terms s arguments)
  term s (p.node at (p.Tuple items)) = t.Tuple (terms s items)
  term s (p.node at (p.Array false a)) = t.Array (term s a)
  term s (p.node at (p.Array true a)) = t.MutableArray (term s a)
  term s (p.node at (p.Object fields)) = t.Object (field_terms s fields)
  term s (p.node at (p.Variant tags)) = t.Variant (field_terms s tags)
  term s (p.node at (p.Actor methods)) = t.Actor (field_terms s methods)

  pub terms : TypeScope → TypeNodes → Terms
  terms s p.Nil = t.Nil
  terms s (p.Cons a rest) = t.Cons (term s a) (terms s rest)

  pub field_terms : TypeScope → TypeFields → Fields
  field_terms s p.NoFields = t.NoFields
  field_terms s (p.Field mutable x a rest) = t.WithField x.bytes mutable (term s a) (field_terms s rest)
  field_terms s (p.EmptyTag x rest) = t.constant x.bytes t.unit (field_terms s rest)

-- the type that is written, or else this one
abbrev pub term_or : TypeScope → Option TypeNode → Term → Term
term_or s None u = u
term_or s (Some a) u = term s a
