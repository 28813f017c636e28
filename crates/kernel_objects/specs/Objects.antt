-- Blocks, objects and classes with the types as they are in the table and in the graph.
use Rattle.std.specs.Prelude.{ℕ, suc, ◌+◌, false, List, [], Option, cond}
use Rattle.mo_types.specs.declared.node.Sort.TheVariants as sort
use Rattle.mo_types.specs.declared.node.TypeId.{TypeId}
use Rattle.mo_values.specs.declared.operation.Operation.TheVariants as op
use Rattle.typed_tree.specs.declared.expression.Form.TheOpen as F
use Rattle.typed_tree.specs.declared.expression.Function.{Function}
use Rattle.typed_tree.specs.declared.expression.Step.{Step}
use Rattle.typed_tree.specs.declared.expression.TypedExpression.{TypedExpression}
use Rattle.typing_rules.specs.AbstractSyntax.{Bytes}
use Rattle.typing_rules.specs.Nodes as counts
use Rattle.typing_rules.specs.Terms.{unit}
use Rattle.type_terms.specs.declared.form.TermId.{TermId}
use Rattle.type_definitions.specs.Meanings.{term}
use Rattle.abstract_tree.specs.declared.declarations.Declaration.{Declaration}
use Rattle.abstract_tree.specs.TreeView.{declaration_form}
use Rattle.abstract_types.specs.declared.patterns.Signature.{Signature}
use Rattle.abstract_types.specs.PatternView.{signature}
use Rattle.value_scopes.specs.declared.note.Note.{Note}
use Rattle.value_scopes.specs.Values.{noted}
use Rattle.met_types.specs.States.{State}
use Rattle.judged_parts.specs.Parts.{See}
use Rattle.desugaring.specs.Expressions.{field_of, function_of, object_of_names, object_operands, or_else, part_or, public_names}
use Rattle.desugaring.specs.FreeNames.{field_names}
use Rattle.desugaring.specs.Frames.{Frame, found}
use Rattle.desugaring.specs.Nodes as nodes
use Rattle.kernel_types.specs.Numbers.{definitions, head_of, number}
use Rattle.kernel_nodes.specs.Made.{at_type, operates_at, unit_in}
use Rattle.kernel_parts.specs.Views.{list_in, list_of}
use Rattle.kernel_scopes.specs.Bound.{patterns_in}

-- the fields that a declaration gives an object
abbrev pub own_names : See → Declaration Note → List Bytes
own_names see d = cond d.public (field_names (declaration_form see d.form)) []

module _ (s : State) where
  abbrev pub block_at : TermId → List Step → Option TypedExpression → TypedExpression
  block_at kind steps last = at_type s kind (F.Block steps (or_else (unit_in s) last))

  -- the number of the type of a field
  abbrev pub name_number_of : TermId → Bytes → TypeId
  name_number_of kind x = number s (part_or unit (field_of x (head_of s kind)))

  module _ (f : Frame) (kind : TermId) where
    abbrev pub operand_in : Bytes → TypedExpression
    operand_in x = nodes.node_of (name_number_of kind x) (F.Name (found f x).index)

    abbrev pub operands_in : List Bytes → List TypedExpression
    operands_in xs = object_operands (definitions s) (number s) (head_of s kind) f xs

    -- the object of the public names of a list, whose end stands in this frame
    abbrev pub object_at : List Step → List (Declaration Note) → TypedExpression
    object_at steps ds = at_type s kind (F.Block steps (operates_at s kind (op.MakeObject (public_names (list_in s ds))) (operands_in (public_names (list_in s ds)))))

    -- the object of a list
    abbrev pub object_in : List (Declaration Note) → TypedExpression
    object_in ds = object_of_names (definitions s) (number s) (term s.forms kind) (public_names (list_in s ds)) (list_of s f false ds)

  abbrev pub class_nodes : Signature Note → List (Declaration Note) → ℕ
  class_nodes g ds = suc (counts.in_patterns (patterns_in s g.parameters) + counts.in_list (list_in s ds))

  -- the function that makes the objects of a class
  abbrev pub class_in : Frame → TermId → Signature Note → List (Declaration Note) → Function
  class_in f kind g ds = function_of (definitions s) (number s) sort.Local (signature (noted s.forms) g) (class_nodes g ds) (λ inner. object_in inner kind ds) f
