-- Typed patterns from those that were judged (Motoko language manual, section "Patterns").
use Rattle.std.specs.Prelude.{List, [], ◌∷◌}
use Rattle.mo_types.specs.declared.node.TypeId.{TypeId}
use Rattle.typed_tree.specs.declared.literal.Literal.TheVariants as literal
use Rattle.typed_tree.specs.declared.pattern.TypedPattern.{TypedPattern, roll-TypedPattern}
use Rattle.typed_tree.specs.declared.pattern.PatternForm.{PatternForm, roll-PatternForm}
use Rattle.typed_tree.specs.declared.pattern.PatternForm.TheOpen as P
use Rattle.typed_tree.specs.declared.pattern.PatternField.{PatternField, roll-PatternField}
use Rattle.typing_rules.specs.AbstractSyntax.{Pattern, Patterns, PatternFields}
use Rattle.typing_rules.specs.AbstractSyntax as p
use Rattle.typing_rules.specs.Terms.{Term, unit}
use Rattle.typing_rules.specs.Definitions.{Definitions}
use Rattle.typing_rules.specs.Heads.{head}
use Rattle.typing_rules.specs.TypedTrees.{Note}
use Rattle.desugaring.specs.Nodes.{literal_at}

module _ (defs : Definitions) (number : Term → TypeId) where
  abbrev pub stands : Term → P.PatternForm-F PatternForm PatternField TypedPattern → TypedPattern
  stands u x = roll-TypedPattern (record { of_type = number u; form = roll-PatternForm x })

  abbrev mutual
    -- `p : T` is p, which stands on T. A tag alone is one with ().
    pub pattern : Pattern Note → TypedPattern
    pattern (p.pattern n (p.Annotated q a)) = pattern q
    pattern (p.pattern n (p.Alternative q r)) = stands n.type (P.Either (pattern q) (pattern r))
    pattern (p.pattern n (p.Optional q)) = stands n.type (P.Present (pattern q))
    pattern (p.pattern n (p.Tag x)) = stands n.type (P.Tagged x (stands unit (P.Constant literal.Unit)))
    pattern (p.pattern n (p.Tagged x q)) = stands n.type (P.Tagged x (pattern q))
    pattern (p.pattern n (p.Variable x)) = stands n.type P.Bind
    pattern (p.pattern n p.Wildcard) = stands n.type P.Wildcard
    pattern (p.pattern n (p.Constant minus l)) = stands n.type (P.Constant (literal_at minus l (head defs n.type)))
    pattern (p.pattern n (p.Tuple items)) = stands n.type (P.Parts (patterns items))
    pattern (p.pattern n (p.Object fields)) = stands n.type (P.Fields (fields_of fields))

    pub patterns : Patterns Note → List TypedPattern
    patterns p.Nil = []
    patterns (p.Cons q rest) = pattern q ∷ patterns rest

    pub fields_of : PatternFields Note → List PatternField
    fields_of p.NoFields = []
    fields_of (p.Field x q rest) = roll-PatternField (record { label = x.bytes; pattern = pattern q }) ∷ fields_of rest
