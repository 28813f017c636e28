-- Loading a module: WebAssembly Core 1.0 section 4.5.4, up to the start function.
use Rattle.std.specs.Prelude.{ℕ, ◌+◌, ◌*◌, List, [], ◌∷◌, ◌++◌, length, map, take, drop, replicate, Option, Some, None, nat_le, cond}
use Rattle.wasm_tree.specs.declared.types.Limits.{Limits}
use Rattle.wasm_tree.specs.declared.op.Plain.{Plain}
use Rattle.wasm_tree.specs.declared.op.Plain.TheVariants as plain
use Rattle.wasm_tree.specs.declared.op.Op.{Op}
use Rattle.wasm_tree.specs.declared.op.Op.TheVariants as op
use Rattle.wasm_tree.specs.declared.module_parts.ElementSegment.{ElementSegment}
use Rattle.wasm_tree.specs.declared.module_parts.DataSegment.{DataSegment}
use Rattle.wasm_tree.specs.declared.module_parts.Module.{Module}
use Rattle.wasm_tree.specs.Exec.{ExecutionLimits, bits32, bits64}

-- A memory or a table of this size, at first.
unfoldable pub blank : {A : Type 0} → ℕ → A → List A
blank size item = replicate size item

-- The least sizes of what is there.
abbrev pub first_size : List Limits → ℕ
first_size [] = 0
first_size (l ∷ ls) = l.min

-- The bits of a constant, which validation tells from other code.
abbrev pub constant : List Op → ℕ
constant ops = of_first ops
  where
    of_plain : Plain → ℕ
    of_plain (plain.I32Const z) = bits32 z
    of_plain (plain.I64Const z) = bits64 z
    of_plain p = 0

    of_first : List Op → ℕ
    of_first (op.Plain p ∷ ops) = of_plain p
    of_first ops = 0

-- The list with these items from the place on, where they fit.
abbrev pub put_at : {A : Type 0} → ℕ → List A → List A → Option (List A)
put_at place items list = cond (nat_le (place + length items) (length list)) (Some (take place list ++ items ++ drop (place + length items) list)) None

abbrev pub then_put : {A B : Type 0} → Option A → (A → Option B) → Option B
then_put None next = None
then_put (Some a) next = next a

abbrev pub with_segments : List DataSegment → List ℕ → Option (List ℕ)
with_segments [] memory = Some memory
with_segments (s ∷ ss) memory = then_put (put_at (constant s.offset) s.bytes memory) (with_segments ss)

abbrev pub with_elements : List ElementSegment → List (Option ℕ) → Option (List (Option ℕ))
with_elements [] table = Some table
with_elements (s ∷ ss) table = then_put (put_at (constant s.offset) (map Some s.functions) table) (with_elements ss)

-- What a loaded module begins with.
pub record Instance : Type 0 where
  pub memory : List ℕ
  pub globals : List ℕ
  pub table : List (Option ℕ)

-- The first memory is above the limit of pages, or a segment does not fit, or the module stands there.
pub data Load : Type 0 where
  AboveLimit : Load
  OutOfBounds : Load
  Loaded : Instance → Load

abbrev pub filled : List ℕ → Option (List ℕ) → Option (List (Option ℕ)) → Load
filled globals None table = OutOfBounds
filled globals (Some memory) None = OutOfBounds
filled globals (Some memory) (Some table) = Loaded (record { memory = memory; globals = globals; table = table })

abbrev pub load : ExecutionLimits → Module → Load
load limits m =
    cond (nat_le (first_size m.memories) limits.pages)
    (filled (map (λ g. constant g.init) m.globals) (with_segments m.segments (blank (65536 * first_size m.memories) 0)) (with_elements m.elements (blank (first_size m.tables) None)))
    AboveLimit
