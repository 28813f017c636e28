-- The parts of an expression of a judged program, whatever is made of them, and however the notes are seen.
use Rattle.std.specs.Prelude.{List, Option, map, option_map}
use Rattle.typing_rules.specs.AbstractSyntax.{Bytes, TypeNode, Pattern, Signature, Expression, Expressions, Cases, ObjectFields, Declarations}
use Rattle.typing_rules.specs.AbstractSyntax as p
use Rattle.typing_rules.specs.TypedTrees.{Note}
use Rattle.abstract_types.specs.TypeView.{type_node, annotation}
use Rattle.abstract_types.specs.PatternView.{pattern, signature}
use Rattle.abstract_tree.specs.TreeView.{case, cases, declaration, declarations, expression, fields, listed, object_field}
use Rattle.value_scopes.specs.declared.note.Note as value_note
use Rattle.judged_parts.specs.declared.parts.Parts as value
use Rattle.judged_parts.specs.declared.parts.Parts.TheVariants as parts

-- How the notes of the code are seen by the rules: the type of a note stands in a table of terms.
abbrev pub See : Type 0
See = value_note.Note → Note

pub data Parts : Type 0 where
  Nothing : Parts
  Name : (x : Bytes) → Parts
  One : (a : Expression Note) → Parts
  Two : (a b : Expression Note) → Parts
  Three : (a b c : Expression Note) → Parts
  Each : (items : Expressions Note) → Parts
  Fields : (fields : ObjectFields Note) → Parts
  Annotated : (a : Expression Note) → (t : TypeNode) → Parts
  Call : (a : Expression Note) → (types : Option (List TypeNode)) → (arguments : Expressions Note) → Parts
  Switch : (a : Expression Note) → (cases : Cases Note) → Parts
  WithPattern : (q : Pattern Note) → (a b : Expression Note) → Parts
  Labelled : (t : Option TypeNode) → (a : Expression Note) → Parts
  Declared : (ds : Declarations Note) → Parts
  Function : (g : Signature Note) → (a : Expression Note) → Parts
  Subsumed : (a : Expression Note) → Parts

abbrev pub parts_of : p.Form Note → Parts
parts_of (p.Constant l) = Nothing
parts_of (p.Name x) = Name x
parts_of (p.Tuple items) = Each items
parts_of (p.Optional a) = One a
parts_of (p.Tag x) = Nothing
parts_of (p.Tagged x a) = One a
parts_of (p.Array mutable items) = Each items
parts_of (p.Object fields) = Fields fields
parts_of (p.Member a x) = One a
parts_of (p.Projection a n) = One a
parts_of (p.Index a b) = Two a b
parts_of (p.Annotated a t) = Annotated a t
parts_of (p.Negative a) = One a
parts_of (p.Binary o a b) = Two a b
parts_of (p.Not a) = One a
parts_of (p.Assign a b) = Two a b
parts_of (p.AssignBy o a b) = Two a b
parts_of (p.Call a types arguments) = Call a types arguments
parts_of (p.When a b) = Two a b
parts_of (p.If a b c) = Three a b c
parts_of (p.Switch a cases) = Switch a cases
parts_of (p.Try a q b) = WithPattern q a b
parts_of (p.While a b) = Two a b
parts_of (p.Loop a) = One a
parts_of (p.LoopWhile a b) = Two a b
parts_of (p.For q a b) = WithPattern q a b
parts_of (p.Label x t a) = Labelled t a
parts_of (p.Break x) = Nothing
parts_of (p.BreakWith x a) = One a
parts_of (p.Continue x) = Nothing
parts_of p.Return = Nothing
parts_of (p.ReturnWith a) = One a
parts_of (p.Throw a) = One a
parts_of (p.Do a) = One a
parts_of (p.DoOption a) = One a
parts_of (p.Bang a) = One a
parts_of (p.Block ds) = Declared ds
parts_of (p.Function g a) = Function g a
parts_of (p.ObjectBlock ds) = Declared ds
parts_of (p.Assert a) = One a
parts_of (p.Ignore a) = One a
parts_of (p.Debug a) = One a
parts_of (p.ActorReference x) = Nothing
parts_of (p.Await a) = One a
parts_of (p.BuiltIn m) = Nothing
parts_of (p.Subsumed a) = Subsumed a

abbrev pub seen_parts : See → value.Parts → Parts
seen_parts see parts.Nothing = Nothing
seen_parts see (parts.Name x) = Name x.now
seen_parts see (parts.One a) = One (expression see a.now)
seen_parts see (parts.Two a b) = Two (expression see a.now) (expression see b.now)
seen_parts see (parts.Three a b c) = Three (expression see a.now) (expression see b.now) (expression see c.now)
seen_parts see (parts.Each items) = Each (listed (map (expression see) items.now))
seen_parts see (parts.Fields xs) = Fields (fields (map (object_field see) xs.now))
seen_parts see (parts.Annotated a t) = Annotated (expression see a.now) (type_node t.now)
seen_parts see (parts.Call a types arguments) = Call (expression see a.now) (option_map (map type_node) types.now) (listed (map (expression see) arguments.now))
seen_parts see (parts.Switch a xs) = Switch (expression see a.now) (cases (map (case see) xs.now))
seen_parts see (parts.WithPattern q a b) = WithPattern (pattern see q.now) (expression see a.now) (expression see b.now)
seen_parts see (parts.Labelled t a) = Labelled (annotation t.now) (expression see a.now)
seen_parts see (parts.Declared ds) = Declared (declarations (map (declaration see) ds.now))
seen_parts see (parts.Function g a) = Function (signature see g.now) (expression see a.now)
seen_parts see (parts.Subsumed a) = Subsumed (expression see a.now)
