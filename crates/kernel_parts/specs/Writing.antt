-- Function values that write expressions and lists of declarations out.
use Rattle.std.specs.Prelude.{◌≡◌, ℕ, Result, IfOk, OnOk}
use denote.Ref.{MutBor}
use Rattle.mo_num.specs.declared.memory.Memory.{Memory}
use Rattle.typed_tree.specs.declared.expression.TypedExpression.{TypedExpression}
use Rattle.desugaring.specs.Frames.{Frame}
use Rattle.kernel_parts.specs.declared.layer.Part.{Part}
use Rattle.kernel_parts.specs.declared.lists.Arranged as value
use Rattle.kernel_parts.specs.declared.lists.ListPart.{ListPart}
use Rattle.kernel_parts.specs.Views.{list_of, tree_of}

-- A function value that writes expressions of at most so many levels out.
pub record Writes (depth : ℕ) (pre : MutBor Frame → Part → Type 0) (post : MutBor Frame → Part → Result TypedExpression Memory → MutBor Frame → Type 0) : Type 0 where
  pub callable : (f : MutBor Frame) (x : Part) → x.depth ≡ depth → pre f x
  pub made : (f g : MutBor Frame) (x : Part) (r : Result TypedExpression Memory) → x.depth ≡ depth → post f x r g → IfOk r (λ m. m ≡ tree_of x.types.now f.now x.expression.now)
  pub same : (f g : MutBor Frame) (x : Part) (r : Result TypedExpression Memory) → x.depth ≡ depth → post f x r g → OnOk r (g.now ≡ f.now)

-- A function value that writes lists of declarations of at most so many levels out.
pub record WritesLists (depth : ℕ) (pre : MutBor Frame → ListPart → Type 0) (post : MutBor Frame → ListPart → Result value.Arranged Memory → MutBor Frame → Type 0) : Type 0 where
  pub callable : (f : MutBor Frame) (x : ListPart) → x.depth ≡ depth → pre f x
  pub steps : (f g : MutBor Frame) (x : ListPart) (r : Result value.Arranged Memory) → x.depth ≡ depth → post f x r g → IfOk r (λ m. m.steps ≡ (list_of x.types.now f.now x.has_value x.declarations.now).steps)
  pub last : (f g : MutBor Frame) (x : ListPart) (r : Result value.Arranged Memory) → x.depth ≡ depth → post f x r g → IfOk r (λ m. m.last ≡ (list_of x.types.now f.now x.has_value x.declarations.now).last)
  pub frame : (f g : MutBor Frame) (x : ListPart) (r : Result value.Arranged Memory) → x.depth ≡ depth → post f x r g → OnOk r (g.now ≡ (list_of x.types.now f.now x.has_value x.declarations.now).frame)
