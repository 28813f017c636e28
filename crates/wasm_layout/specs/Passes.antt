-- One pass through the code of a body, which follows the heights of operands and the open blocks.
use Rattle.std.specs.Prelude.{ℕ, ◌+◌, ◌-◌, ◌≤◌, min, max, List, [], ◌∷◌, ◌++◌, length, Bool, false, Option, Some, None, slice_get, is_some}
use Rattle.wasm_tree.specs.declared.op.Op.{Op}
use Rattle.wasm_tree.specs.declared.op.Op.TheVariants as op
use Rattle.wasm_tree.specs.Frames.{taken, given}
use Rattle.wasm_steps.specs.declared.step.Label.{Label}
use Rattle.wasm_steps.specs.declared.step.Step.{Step}
use Rattle.wasm_steps.specs.declared.step.Step.TheVariants as step
use Rattle.wasm_steps.specs.Steps.{laid_step, label}
use Rattle.wasm_layout.specs.declared.arity.Arity.{Arity}
use Rattle.wasm_layout.specs.declared.arity.Arities.{Arities}
use Rattle.wasm_layout.specs.declared.pass.Open.{Open}
use Rattle.wasm_layout.specs.declared.pass.Body.{Body}
use Rattle.wasm_layout.specs.declared.pass.Pass.{Pass}
use Rattle.wasm_layout.specs.Arities.{count_of, arity_at}
use Rattle.wasm_layout.specs.Ends.{first_exit, without_first}

abbrev pub base_of : List Open → ℕ
base_of [] = 0
base_of (o ∷ os) = o.label.height

-- The height when so many operands are taken, of those that the block has.
abbrev pub without : Pass → ℕ → ℕ
without p count = p.top - min count (p.top - base_of p.opens)

abbrev pub emptied : Pass → ℕ
emptied p = min p.top (base_of p.opens)

abbrev pub or_no_label : Option Open → Label
or_no_label None = label 0 0 0
or_no_label (Some o) = o.label

abbrev pub label_at : List Open → ℕ → Label
label_at opens l = or_no_label (slice_get opens l)

-- The step of an instruction.
abbrev pub step_at : Body → Pass → Op → Option Step
step_at body p (op.Plain q) = Some (laid_step q)
step_at body p op.Unreachable = Some step.Unreachable
step_at body p (op.Block kind) = Some step.Enter
step_at body p (op.Loop kind) = Some step.Enter
step_at body p (op.If kind) = Some (step.Test (body.finish - (first_exit p.exits).otherwise))
step_at body p op.Else = Some (step.Jump (label_at p.opens 0).to)
step_at body p op.End = None
step_at body p (op.Br l) = Some (step.Br (label_at p.opens l))
step_at body p (op.BrIf l) = Some (step.BrIf (label_at p.opens l))
step_at body p (op.BrTable count) = Some (step.BrTable count)
step_at body p (op.Target l) = Some (step.Entry (label_at p.opens l))
step_at body p op.Return = Some (step.Return (count_of body.result))
step_at body p (op.Call f) = Some (step.Call f)
step_at body p (op.CallIndirect t) = Some (step.CallIndirect t)

-- After one step there are so many operands.
abbrev pub on : Pass → ℕ → Pass
on p top = record { place = p.place + 1; exits = p.exits; opens = p.opens; top = top; peak = max p.peak top; nesting = p.nesting }

-- A block begins above so many operands.
abbrev pub enter : Pass → ℕ → Open → Pass
enter p top o =
    record { place = p.place + 1; exits = p.exits; opens = o ∷ p.opens; top = top; peak = max p.peak top; nesting = max p.nesting (length p.opens) }

abbrev pub block : Body → Pass → ℕ → Bool → Pass
block body p top leaves =
    record {
      place = p.place + 1;
      exits = without_first p.exits;
      opens = record { label = label (body.finish - (first_exit p.exits).end) top (count_of leaves); result = leaves } ∷ p.opens;
      top = top;
      peak = max p.peak top;
      nesting = max p.nesting (length p.opens);
    }

abbrev pub repeat : Pass → Bool → Pass
repeat p leaves = enter p p.top (record { label = label p.place p.top 0; result = leaves })

abbrev pub leaves_of : List Open → Bool
leaves_of [] = false
leaves_of (o ∷ os) = o.result

abbrev pub close : Pass → Pass
close p =
    record {
      place = p.place;
      exits = p.exits;
      opens = without_first p.opens;
      top = emptied p + count_of (leaves_of p.opens);
      peak = max p.peak (emptied p + count_of (leaves_of p.opens));
      nesting = p.nesting;
    }

abbrev pub call : Pass → ℕ → Arity → Pass
call p besides a = on p (without p (a.params + besides) + count_of a.result)

-- A conditional branch takes an operand and what its label takes, and gives the latter back.
abbrev pub branch_if : Pass → ℕ → Pass
branch_if p l = on p (without p (1 + (label_at p.opens l).keep) + (label_at p.opens l).keep)

abbrev pub advance : Arities → Body → Op → Pass → Pass
advance a body (op.Plain q) p = on p (without p (taken q) + given q)
advance a body op.Unreachable p = on p (emptied p)
advance a body (op.Block kind) p = block body p p.top (is_some kind)
advance a body (op.Loop kind) p = repeat p (is_some kind)
advance a body (op.If kind) p = block body p (without p 1) (is_some kind)
advance a body op.Else p = on p (emptied p)
advance a body op.End p = close p
advance a body (op.Br l) p = on p (emptied p)
advance a body (op.BrIf l) p = branch_if p l
advance a body (op.BrTable count) p = on p (emptied p)
advance a body (op.Target l) p = on p p.top
advance a body op.Return p = on p (emptied p)
advance a body (op.Call f) p = call p 0 (arity_at a.functions f)
advance a body (op.CallIndirect t) p = call p 1 (arity_at a.types t)

abbrev pub one : Option Step → List Step
one None = []
one (Some s) = s ∷ []

abbrev pub advances : Arities → Body → List Op → Pass → Pass
advances a body [] p = p
advances a body (o ∷ ops) p = advances a body ops (advance a body o p)

abbrev pub steps_of : Arities → Body → List Op → Pass → List Step
steps_of a body [] p = []
steps_of a body (o ∷ ops) p = one (step_at body p o) ++ steps_of a body ops (advance a body o p)

-- After so many instructions of a body that begins at the place.
pub record IsWithin (place count : ℕ) (p : Pass) : Type 0 where
  pub places : p.place ≤ place + count
  pub heights : p.top ≤ count
  pub peaks : p.peak ≤ count
  pub blocks : length p.opens ≤ count + 1
  pub nested : p.nesting ≤ count
  pub kept : (l : ℕ) → (label_at p.opens l).keep ≤ 1
