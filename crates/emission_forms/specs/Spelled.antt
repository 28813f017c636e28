-- Structured code whose slots and constructs are there, whose primitives are treated, and whose literals and offsets can be spelled.
use Rattle.std.specs.Prelude.{⊤, ◌≡◌, ℕ, suc, ◌+◌, ◌*◌, ◌<◌, ◌≤◌, ◌^◌, List, [], ◌∷◌, length, true, FitsSigned}
use Rattle.std.specs.Int.{w64}
use Rattle.core_ir.specs.declared.code.Operand.{Operand}
use Rattle.core_ir.specs.declared.code.Operand.TheVariants.{Slot, Captured, Member, Global}
use Rattle.core_ir.specs.declared.code.Operand.TheVariants as operand
use Rattle.core_ir.specs.Code.{Code, Stop, Let, If, Match, Loop, Label, Branch, Make, Call, Return}
use Rattle.heap_layout.specs.Heaps.{Plan}
use Rattle.flat_emission.specs.Emission.{Linkage, Here, constant_word}

-- Of functions with at most so many parameters.
module _ (plan : Plan) (link : Linkage) (most : ℕ) (here : Here) where
  abbrev pub SpelledOperand : Operand → Type 0
  SpelledOperand (Slot x) = x < here.slots
  SpelledOperand (Captured x) = 8 * (2 * here.members + x) < 2 ^ 32
  SpelledOperand (Member k) = 8 * (2 * k) < 2 ^ 63
  SpelledOperand (Global x) = 8 * (link.names + x) < 2 ^ 32
  SpelledOperand (operand.Constant c) = FitsSigned w64 (constant_word link.bytes_at c)

  abbrev pub SpelledOperands : List Operand → Type 0
  SpelledOperands [] = ⊤
  SpelledOperands (x ∷ xs) = SpelledOperand x × SpelledOperands xs

  -- within so many constructs
  abbrev pub Spelled : ℕ → Code → Type 0
  Spelled within Stop = 0 < within
  Spelled within (Let t p xs c) = (t < here.slots) × (link.treated p ≡ true) × SpelledOperands xs × (length xs ≤ here.most) × Spelled within c
  Spelled within (If p xs y n c) = (link.treated p ≡ true) × SpelledOperands xs × (length xs ≤ here.most) × Spelled (suc within) y × Spelled (suc within) n × Spelled within c
  Spelled within (Match t k x y n c) = (t < here.slots) × SpelledOperand x × (1 ≤ here.most) × Spelled (suc within) y × Spelled (suc within) n × Spelled within c
  Spelled within (Loop b c) = Spelled (suc within) b × Spelled within c
  Spelled within (Label b c) = Spelled (suc within) b × Spelled within c
  Spelled within (Branch l) = l < within
  Spelled within (Make t xs code c) =
      (t + plan.sizes code ≤ here.slots) × SpelledOperands xs × (1 ≤ here.most) × (8 * (2 * plan.sizes code + length xs) < 2 ^ 31) × ((k : ℕ) → k < plan.sizes code → plan.entry_of code k < 2 ^ 63) × Spelled within c
  Spelled within (Call t f xs c) = (t < here.slots) × SpelledOperand f × SpelledOperands xs × (1 + length xs ≤ here.most) × (length xs ≤ most) × Spelled within c
  Spelled within (Return x) = SpelledOperand x × (1 ≤ here.most)
  Spelled within c = ⊤
