-- The parts of an expression, whatever is made of them.
use Rattle.std.specs.Prelude.{ℕ, List, Option, map, option_map}
use Rattle.typing_rules.specs.AbstractSyntax.{TypeNode, Pattern, Signature, Expression, Expressions, Cases, ObjectFields, Declarations}
use Rattle.typing_rules.specs.AbstractSyntax as p
use Rattle.abstract_types.specs.TypeView.{type_node, annotation}
use Rattle.abstract_types.specs.PatternView.{plain_signature}
use Rattle.abstract_types.specs.PatternView as pattern_view
use Rattle.expression_parts.specs.declared.part_kinds.Parts as value
use Rattle.expression_parts.specs.declared.part_kinds.Parts.TheVariants as parts
use Rattle.abstract_tree.specs.TreeView.{cases, declarations, fields, listed, plain, plain_case, plain_declaration, plain_field}

pub data Parts : Type 0 where
  Nothing : Parts
  One : (a : Expression ℕ) → Parts
  Two : (a b : Expression ℕ) → Parts
  Three : (a b c : Expression ℕ) → Parts
  Each : (items : Expressions ℕ) → Parts
  Fields : (fields : ObjectFields ℕ) → Parts
  Annotated : (a : Expression ℕ) → (t : TypeNode) → Parts
  Call : (a : Expression ℕ) → (types : Option (List TypeNode)) → (arguments : Expressions ℕ) → Parts
  Switch : (a : Expression ℕ) → (cases : Cases ℕ) → Parts
  WithPattern : (q : Pattern ℕ) → (a b : Expression ℕ) → Parts
  Labelled : (t : Option TypeNode) → (a : Expression ℕ) → Parts
  Declared : (ds : Declarations ℕ) → Parts
  Function : (g : Signature ℕ) → (a : Expression ℕ) → Parts
  Subsumed : (a : Expression ℕ) → Parts

abbrev pub parts_of : p.Form ℕ → Parts
parts_of (p.Constant l) = Nothing
parts_of (p.Name x) = Nothing
parts_of (p.Tuple items) = Each items
parts_of (p.Optional a) = One a
parts_of (p.Tag x) = Nothing
parts_of (p.Tagged x a) = One a
parts_of (p.Array mutable items) = Each items
parts_of (p.Object fields) = Fields fields
parts_of (p.Member a x) = One a
parts_of (p.Projection a n) = One a
parts_of (p.Index a b) = Two a b
parts_of (p.Annotated a t) = Annotated a t
parts_of (p.Negative a) = One a
parts_of (p.Binary o a b) = Two a b
parts_of (p.Not a) = One a
parts_of (p.Assign a b) = Two a b
parts_of (p.AssignBy o a b) = Two a b
parts_of (p.Call a types arguments) = Call a types arguments
parts_of (p.When a b) = Two a b
parts_of (p.If a b c) = Three a b c
parts_of (p.Switch a cases) = Switch a cases
parts_of (p.Try a q b) = WithPattern q a b
parts_of (p.While a b) = Two a b
parts_of (p.Loop a) = One a
parts_of (p.LoopWhile a b) = Two a b
parts_of (p.For q a b) = WithPattern q a b
parts_of (p.Label x t a) = Labelled t a
parts_of (p.Break x) = Nothing
parts_of (p.BreakWith x a) = One a
parts_of (p.Continue x) = Nothing
parts_of p.Return = Nothing
parts_of (p.ReturnWith a) = One a
parts_of (p.Throw a) = One a
parts_of (p.Do a) = One a
parts_of (p.DoOption a) = One a
parts_of (p.Bang a) = One a
parts_of (p.Block ds) = Declared ds
parts_of (p.Function g a) = Function g a
parts_of (p.ObjectBlock ds) = Declared ds
parts_of (p.Assert a) = One a
parts_of (p.Ignore a) = One a
parts_of (p.Debug a) = One a
parts_of (p.ActorReference x) = Nothing
parts_of (p.Await a) = One a
parts_of (p.BuiltIn m) = Nothing
parts_of (p.Subsumed a) = Subsumed a

abbrev pub seen_parts : value.Parts → Parts
seen_parts parts.Nothing = Nothing
seen_parts (parts.One a) = One (plain a.now)
seen_parts (parts.Two a b) = Two (plain a.now) (plain b.now)
seen_parts (parts.Three a b c) = Three (plain a.now) (plain b.now) (plain c.now)
seen_parts (parts.Each items) = Each (listed (map plain items.now))
seen_parts (parts.Fields xs) = Fields (fields (map plain_field xs.now))
seen_parts (parts.Annotated a t) = Annotated (plain a.now) (type_node t.now)
seen_parts (parts.Call a types arguments) = Call (plain a.now) (option_map (map type_node) types.now) (listed (map plain arguments.now))
seen_parts (parts.Switch a xs) = Switch (plain a.now) (cases (map plain_case xs.now))
seen_parts (parts.WithPattern q a b) = WithPattern (pattern_view.plain q.now) (plain a.now) (plain b.now)
seen_parts (parts.Labelled t a) = Labelled (annotation t.now) (plain a.now)
seen_parts (parts.Declared ds) = Declared (declarations (map plain_declaration ds.now))
seen_parts (parts.Function g a) = Function (plain_signature g.now) (plain a.now)
seen_parts (parts.Subsumed a) = Subsumed (plain a.now)
