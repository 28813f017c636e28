-- The stack words of a frame.
use Rattle.std.specs.Prelude.{ℕ, Option, Some, None}
use Rattle.wasm_tree.specs.declared.types.FunctionType.{FunctionType}
use Rattle.wasm_tree.specs.declared.module_parts.Function.{Function}
use Rattle.wasm_tree.specs.declared.module_parts.Module.{Module}
use Rattle.wasm_tree.specs.Rules.{type_of}
use Rattle.wasm_tree.specs.Frames.{defined, frame_words}

abbrev pub words_by : Module → Option FunctionType → Option Function → Option ℕ
words_by m None f = None
words_by m (Some t) None = None
words_by m (Some t) (Some f) = Some (frame_words m t f)

-- Those of the function with this index, where the module defines it.
abbrev pub words_of : Module → ℕ → Option ℕ
words_of m f = words_by m (type_of m f) (defined m f)
