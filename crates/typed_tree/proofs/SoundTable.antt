-- All rows of the table together.
use Rattle.std.proofs.Common.{List}
use Rattle.mo_types.specs.declared.node.Node.{Node}
use Rattle.mo_types.specs.declared.node.TypeId.{TypeId}
use Rattle.mo_values.specs.declared.operation.Operation.{Operation}
use Rattle.mo_values.specs.declared.operation.Operation.TheVariants as op
use Rattle.typed_tree.specs.Has.{Judgements}
use Rattle.typed_tree.specs.Soundness.{IsSound}
use Rattle.typed_tree.proofs.SoundEquality as equalities
use Rattle.typed_tree.proofs.SoundParts as parts
use Rattle.typed_tree.proofs.SoundRows as rows

module _ {F : Type 0} (head : TypeId → Node TypeId) (known : Judgements TypeId F) (kinds : List TypeId) where
  pub table : (o : Operation) → IsSound head known kinds o
  table (op.Arithmetic o k) = rows.arithmetic head known kinds o k
  table (op.Wrap o k) = rows.wrapping head known kinds o k
  table (op.Negate k) = rows.negation head known kinds k
  table (op.Compare c s) = parts.compare head known kinds c s
  table (op.Same s) = rows.same head known kinds s
  table (op.Equal t) = equalities.equality head known kinds t
  table (op.Unequal t) = equalities.inequality head known kinds t
  table op.Not = rows.negated head known kinds
  table op.Assert = rows.assertion head known kinds
  table op.Concat = parts.concatenation head known kinds
  table op.TextSize = rows.text_size head known kinds
  table (op.ToText k) = parts.digits head known kinds k
  table op.MakeTuple = rows.tuple head known kinds
  table op.MakeOption = rows.option head known kinds
  table (op.MakeTag l) = rows.tag head known kinds l
  table op.MakeArray = rows.array head known kinds
  table (op.MakeObject ls) = rows.object head known kinds ls
  table (op.Project i) = parts.projection head known kinds i
  table (op.Field l) = parts.field head known kinds l
  table op.Element = parts.element head known kinds
  table op.ArraySize = rows.array_size head known kinds
  table (op.Method l) = rows.method head known kinds l
  table op.PrincipalOf = rows.principal head known kinds
  table op.RejectError = rows.rejection head known kinds
  table op.Message = rows.message head known kinds
  table op.Code = rows.code head known kinds
  table op.Trap = rows.traps head known kinds
  table (op.Fail text) = rows.fails head known kinds text
