-- The step of a plain instruction.
use Rattle.std.specs.Prelude.{ℕ}
use Rattle.wasm_tree.specs.declared.op.Plain.{Plain}
use Rattle.wasm_tree.specs.declared.op.Plain.TheVariants as plain
use Rattle.wasm_steps.specs.declared.step.Step.{Step}
use Rattle.wasm_steps.specs.declared.step.Step.TheVariants as step
use Rattle.wasm_steps.specs.declared.step.Label.{Label}

abbrev pub laid_step : Plain → Step
laid_step plain.Nop = step.Nop
laid_step plain.Drop = step.Drop
laid_step plain.Select = step.Select
laid_step (plain.LocalGet x) = step.LocalGet x
laid_step (plain.LocalSet x) = step.LocalSet x
laid_step (plain.LocalTee x) = step.LocalTee x
laid_step (plain.GlobalGet x) = step.GlobalGet x
laid_step (plain.GlobalSet x) = step.GlobalSet x
laid_step (plain.Load kind a) = step.Load kind a.offset
laid_step (plain.Store kind a) = step.Store kind a.offset
laid_step plain.MemorySize = step.MemorySize
laid_step plain.MemoryGrow = step.MemoryGrow
laid_step (plain.I32Const z) = step.I32Const z
laid_step (plain.I64Const z) = step.I64Const z
laid_step (plain.EqualsZero kind) = step.EqualsZero kind
laid_step (plain.Compare kind c) = step.Compare kind c
laid_step (plain.Unary kind o) = step.Unary kind o
laid_step (plain.Binary kind o) = step.Binary kind o
laid_step (plain.Convert c) = step.Convert c

abbrev pub label : ℕ → ℕ → ℕ → Label
label to height keep = record { to = to; height = height; keep = keep }
