-- A module whose sections are short is spelled in few bytes.
use Rattle.std.proofs.Common.{ℕ, ◌+◌, ◌*◌, ◌<◌, ◌^◌, List, [], length, refl, arith}
use Rattle.std.specs.Prelude.{IfSome}
use Rattle.std.specs.List.{AllByRecursion}
use Rattle.wasm_tree.specs.declared.module_parts.Module.{Module}
use Rattle.wasm_tree.specs.Bounded.{Within}
use Rattle.wasm_tree.specs.Binary.{IsFunctionType, IsImport, IsSignature, IsTable, IsLimits, IsGlobal, IsExport, IsStart, IsElement, IsCode, IsData, After, header, Written}
use Rattle.wasm_tree.specs.Spelling.{IsEach, IsVectorSection}
use Rattle.wasm_tree.proofs.Within.{exactly_within, then_within, after_within, none_within, each_within, vector_section_within, start_within}

-- The items of a section take so many bytes.
pub record Takes {X : Type 0} (P : X → List ℕ → Type 0) (xs : List X) (bytes : ℕ) : Type 0 where
  pub few : length xs < 2 ^ 32
  pub small : 5 + bytes < 2 ^ 32
  pub each : Within (IsEach P xs) bytes

pub takes_none : {X : Type 0} (P : X → List ℕ → Type 0) → Takes P [] 0
takes_none P = record { few = omega arith; small = omega arith; each = none_within P }

pub takes_each : {X : Type 0} (P : X → List ℕ → Type 0) (xs : List X) (bound : ℕ) → length xs < 2 ^ 32 → 5 + bound * length xs < 2 ^ 32 → AllByRecursion (λ x. Within (P x) bound) xs → Takes P xs (bound * length xs)
takes_each P xs bound few small all = record { few = few; small = small; each = each_within P xs bound all }

section_in : {X : Type 0} (number : ℕ) (P : X → List ℕ → Type 0) (xs : List X) (n : ℕ) → Takes P xs n → Within (After (IsVectorSection number P xs)) (11 + n)
section_in number P xs n t = after_within (IsVectorSection number P xs) (11 + n) (vector_section_within number P xs n t.few t.small t.each)

-- The header, and each section with its number, its size and its count.
pub written_in : (m : Module) (types imports signatures tables memories globals exports elements codes segments : ℕ)
    → Takes IsFunctionType m.types types → Takes IsImport m.imports imports → Takes IsSignature m.functions signatures → Takes IsTable m.tables tables → Takes IsLimits m.memories memories
    → Takes IsGlobal m.globals globals → Takes IsExport m.exports exports → IfSome m.start (λ f. f < 2 ^ 32) → Takes IsElement m.elements elements → Takes IsCode m.functions codes → Takes IsData m.segments segments
    → Within (Written m) (8 + ((11 + types) + ((11 + imports) + ((11 + signatures) + ((11 + tables) + ((11 + memories) + ((11 + globals) + ((11 + exports) + (11 + ((11 + elements) + ((11 + codes) + ((11 + segments) + 0))))))))))))
written_in m types imports signatures tables memories globals exports elements codes segments a b c d e f g h i j k =
    then_within _ _ 8 _ (exactly_within header)
    (then_within _ _ (11 + types) _ (section_in 1 IsFunctionType m.types types a)
    (then_within _ _ (11 + imports) _ (section_in 2 IsImport m.imports imports b)
    (then_within _ _ (11 + signatures) _ (section_in 3 IsSignature m.functions signatures c)
    (then_within _ _ (11 + tables) _ (section_in 4 IsTable m.tables tables d)
    (then_within _ _ (11 + memories) _ (section_in 5 IsLimits m.memories memories e)
    (then_within _ _ (11 + globals) _ (section_in 6 IsGlobal m.globals globals f)
    (then_within _ _ (11 + exports) _ (section_in 7 IsExport m.exports exports g)
    (then_within _ _ 11 _ (after_within (IsStart m.start) 11 (start_within m.start h))
    (then_within _ _ (11 + elements) _ (section_in 9 IsElement m.elements elements i)
    (then_within _ _ (11 + codes) _ (section_in 10 IsCode m.functions codes j)
    (then_within _ _ (11 + segments) 0 (section_in 11 IsData m.segments segments k)
    (record { bytes = []; spells = ([], refl); short = omega arith }))))))))))))
