-- The check of a body: one way over its instructions, with the operands and the blocks that are open.
use Rattle.std.specs.Prelude.{ℕ, zero, suc, List, [], ◌∷◌, Bool, true, false, Option, Some, None, length, reverse, slice_get, nat_lt, nat_le, ◌==◌}
use Rattle.wasm_tree.specs.declared.rule.Rule.TheVariants as rule
use Rattle.wasm_tree.specs.declared.types.ValueType.{ValueType}
use Rattle.wasm_tree.specs.declared.types.ValueType.TheVariants.{I32, I64}
use Rattle.wasm_tree.specs.declared.types.FunctionType.{FunctionType}
use Rattle.wasm_tree.specs.declared.op.Conversion.{Conversion}
use Rattle.wasm_tree.specs.declared.op.Conversion.TheVariants.{Wrap, ExtendS, ExtendU}
use Rattle.wasm_tree.specs.declared.op.Plain.{Plain}
use Rattle.wasm_tree.specs.declared.op.Plain.TheVariants as plain
use Rattle.wasm_tree.specs.declared.op.Op.{Op}
use Rattle.wasm_tree.specs.declared.op.Op.TheVariants as op
use Rattle.wasm_tree.specs.declared.module_parts.Module.{Module}
use Rattle.wasm_tree.specs.Exec.{same_kind}
use Rattle.wasm_tree.specs.Rules.{or_no, global_of, load_type, load_align, store_type, store_align}
use Rattle.wasm_valid.specs.declared.blocks.Opener.{Opener}
use Rattle.wasm_valid.specs.declared.blocks.Opener.TheVariants as opener
use Rattle.wasm_valid.specs.declared.blocks.Opened.{Opened}
use Rattle.wasm_valid.specs.declared.body.Table.{Table}
use Rattle.wasm_valid.specs.declared.operands.Floor.TheVariants.{Nothing, Anything}
use Rattle.wasm_valid.specs.Verdict.{Verdict, Passes, Breaks, need, with_found}
use Rattle.wasm_valid.specs.Operands.{Stack, On, pop, pop_any, push, change, join, choose, pop_all, pop_result, push_result, fits}
use Rattle.wasm_valid.specs.Blocks.{labels}

abbrev pub open_of : Opener → Option ValueType → Stack → Opened
open_of o kind s = record { opener = o; result = kind; below = s }

-- How a block begins, and how it is after an instruction that never goes on.

abbrev pub fresh : Stack
fresh = On [] Nothing

abbrev pub dead : Stack
dead = On [] Anything

abbrev pub same_result : Option ValueType → Option ValueType → Bool
same_result None None = true
same_result None (Some kind) = false
same_result (Some kind) None = false
same_result (Some kind) (Some other) = same_kind kind other

-- Whether a label's result is that of the labels before it.
abbrev pub agrees : Option (Option ValueType) → Option ValueType → Bool
agrees None kind = true
agrees (Some other) kind = same_result other kind

abbrev pub has_memory : Module → Bool
has_memory m = nat_lt 0 (length m.memories)

abbrev pub has_table : Module → Bool
has_table m = nat_lt 0 (length m.tables)

abbrev pub type_at : Module → List ℕ → ℕ → Option FunctionType
type_at m signatures f = or_no (slice_get signatures f) (slice_get m.types)

abbrev pub converted : Conversion → Stack → (Stack → Verdict) → Verdict
converted Wrap s next = change I64 I32 s next
converted ExtendS s next = change I32 I64 s next
converted ExtendU s next = change I32 I64 s next

-- What follows sees the labels of a `br_table` that are owed, the blocks and the operands.
abbrev pub Next : Type 0
Next = Option Table → List Opened → Stack → Verdict

-- An `if` that ends without an `else` has no result.
abbrev pub may_end : Opener → Option ValueType → Bool
may_end opener.Block kind = true
may_end opener.Loop kind = true
may_end opener.If None = true
may_end opener.If (Some kind) = false
may_end opener.Else kind = true

abbrev pub with_innermost : List Opened → (Opened → List Opened → Verdict) → Verdict
with_innermost [] next = Breaks rule.Result
with_innermost (o ∷ blocks) next = next o blocks

abbrev pub at_end : List Opened → Stack → Next → Verdict
at_end blocks s next = with_innermost blocks (λ o blocks. need rule.Result (fits o.result s) (need rule.Result (may_end o.opener o.result) (next None blocks (push_result o.result o.below))))

abbrev pub is_if : Opener → Bool
is_if opener.Block = false
is_if opener.Loop = false
is_if opener.If = true
is_if opener.Else = false

abbrev pub at_else : List Opened → Stack → Next → Verdict
at_else blocks s next = with_innermost blocks (λ o blocks. need rule.Result (is_if o.opener) (need rule.Result (fits o.result s) (next None (open_of opener.Else o.result o.below ∷ blocks) fresh)))

abbrev pub call : FunctionType → Stack → (Stack → Verdict) → Verdict
call t s next = pop_all (reverse t.params) s (λ s. next (push_result (slice_get t.results 0) s))

abbrev pub call_direct : Module → List ℕ → ℕ → Stack → (Stack → Verdict) → Verdict
call_direct m signatures f s next = with_found rule.Index (type_at m signatures f) (λ t. call t s next)

abbrev pub call_indirect : Module → ℕ → Stack → (Stack → Verdict) → Verdict
call_indirect m x s next = need rule.Index (has_table m) (with_found rule.Index (slice_get m.types x) (λ t. pop I32 s (λ s. call t s next)))

-- After so many labels more, the last one is taken.
abbrev pub after_target : ℕ → Option ValueType → List Opened → Stack → Next → Verdict
after_target zero kind blocks s next = pop I32 s (λ s. pop_result kind s (λ s. next None blocks dead))
after_target (suc owed) kind blocks s next = next (Some (record { owed = owed; wanted = Some kind })) blocks s

-- A label of a `br_table`.
abbrev pub target_step : Option ValueType → Table → ℕ → List Opened → Stack → Next → Verdict
target_step result t l blocks s next =
    with_found rule.Label (slice_get (labels result blocks) l) (λ kind. need rule.Operand (agrees t.wanted kind) (after_target t.owed kind blocks s next))

abbrev pub table_step : Option ValueType → Table → Op → List Opened → Stack → Next → Verdict
table_step result t (op.Target l) blocks s next = target_step result t l blocks s next
table_step result t other blocks s next = Breaks rule.Label

-- The end of a body.
abbrev pub at_last : Option ValueType → Option Table → List Opened → Stack → Verdict
at_last result None blocks s = need rule.Result (length blocks == 0) (need rule.Result (fits result s) Passes)
at_last result (Some t) blocks s = Breaks rule.Label

-- A plain instruction in this module, in a body with these locals.
module _ (m : Module) (locals : List ValueType) where
  abbrev pub plain_step : Plain → Stack → (Stack → Verdict) → Verdict
  plain_step plain.Nop s next = next s
  plain_step plain.Drop s next = pop_any s next
  plain_step plain.Select s next = pop I32 s (λ s. choose s next)
  plain_step (plain.LocalGet x) s next = with_found rule.Index (slice_get locals x) (λ kind. next (push kind s))
  plain_step (plain.LocalSet x) s next = with_found rule.Index (slice_get locals x) (λ kind. pop kind s next)
  plain_step (plain.LocalTee x) s next = with_found rule.Index (slice_get locals x) (λ kind. change kind kind s next)
  plain_step (plain.GlobalGet x) s next = with_found rule.Index (global_of m x) (λ g. next (push g.kind s))
  plain_step (plain.GlobalSet x) s next = with_found rule.Index (global_of m x) (λ g. need rule.Mutable g.mutable (pop g.kind s next))
  plain_step (plain.Load kind a) s next = need rule.Index (has_memory m) (need rule.Align (nat_le a.align (load_align kind)) (change I32 (load_type kind) s next))
  plain_step (plain.Store kind a) s next =
      need rule.Index (has_memory m) (need rule.Align (nat_le a.align (store_align kind)) (pop (store_type kind) s (λ s. pop I32 s next)))
  plain_step plain.MemorySize s next = need rule.Index (has_memory m) (next (push I32 s))
  plain_step plain.MemoryGrow s next = need rule.Index (has_memory m) (change I32 I32 s next)
  plain_step (plain.I32Const z) s next = next (push I32 s)
  plain_step (plain.I64Const z) s next = next (push I64 s)
  plain_step (plain.EqualsZero kind) s next = change kind I32 s next
  plain_step (plain.Compare kind o) s next = join kind I32 s next
  plain_step (plain.Unary kind o) s next = change kind kind s next
  plain_step (plain.Binary kind o) s next = join kind kind s next
  plain_step (plain.Convert c) s next = converted c s next

-- In a body with these locals and this result, of a module whose functions have types of these indices.
module _ (m : Module) (signatures : List ℕ) (locals : List ValueType) (result : Option ValueType) where
  -- An instruction.
  abbrev pub code_step : Op → List Opened → Stack → Next → Verdict
  code_step (op.Plain p) blocks s next = plain_step m locals p s (λ s. next None blocks s)
  code_step op.Unreachable blocks s next = next None blocks dead
  code_step (op.Block kind) blocks s next = next None (open_of opener.Block kind s ∷ blocks) fresh
  code_step (op.Loop kind) blocks s next = next None (open_of opener.Loop kind s ∷ blocks) fresh
  code_step (op.If kind) blocks s next = pop I32 s (λ s. next None (open_of opener.If kind s ∷ blocks) fresh)
  code_step op.Else blocks s next = at_else blocks s next
  code_step op.End blocks s next = at_end blocks s next
  code_step (op.Br l) blocks s next = with_found rule.Label (slice_get (labels result blocks) l) (λ kind. pop_result kind s (λ s. next None blocks dead))
  code_step (op.BrIf l) blocks s next =
      with_found rule.Label (slice_get (labels result blocks) l) (λ kind. pop I32 s (λ s. pop_result kind s (λ s. next None blocks (push_result kind s))))
  code_step (op.BrTable count) blocks s next = next (Some (record { owed = count; wanted = None })) blocks s
  code_step (op.Target l) blocks s next = Breaks rule.Label
  code_step op.Return blocks s next = pop_result result s (λ s. next None blocks dead)
  code_step (op.Call f) blocks s next = call_direct m signatures f s (λ s. next None blocks s)
  code_step (op.CallIndirect x) blocks s next = call_indirect m x s (λ s. next None blocks s)

  abbrev pub step : Option Table → Op → List Opened → Stack → Next → Verdict
  step None o blocks s next = code_step o blocks s next
  step (Some t) o blocks s next = table_step result t o blocks s next

  abbrev pub run : List Op → Option Table → List Opened → Stack → Verdict
  run [] table blocks s = at_last result table blocks s
  run (o ∷ ops) table blocks s = step table o blocks s (run ops)
