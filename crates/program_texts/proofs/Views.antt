-- What instructions stand for.
use Rattle.std.proofs.Common.{◌≡◌, ℕ, List, sym, ap, ◌∙◌}
use Rattle.core_ir.specs.declared.code.Instruction.{fold-roll-Instruction}
use Rattle.core_ir.specs.declared.code.Instruction.TheVariants as V
use Rattle.core_ir.specs.declared.code.Instruction.TheOpen as I
use Rattle.core_ir.specs.declared.code.Code.{Code as CodeTree}
use Rattle.core_ir.specs.declared.code.Operand.{Operand}
use Rattle.core_ir.specs.declared.primitive.Primitive.{Primitive}
use Rattle.core_ir.specs.declared.primitive.Constructor.{Constructor}
use Rattle.core_ir.specs.Code as code
use Rattle.core_ir.specs.Code.{Code}
use Rattle.core_ir.specs.CodeView.{Names, InstructionView, CodeView, instruction, code_of, instruction_step, code_step}

pub if_is : (p : Primitive) (xs : List Operand) (y n : CodeTree) (names : Names) (c : Code) → instruction (V.If p xs y n) names c ≡ code.If p xs (code_of y names) (code_of n names) c
unfolding instruction code_of
if_is p xs y n names c = ap (λ i. instruction i names c) (sym (V.rolls-If p xs y n)) ∙ ap (λ (f : InstructionView). f names c) (fold-roll-Instruction InstructionView CodeView instruction_step code_step (I.If p xs y n))

pub match_is : (t : ℕ) (k : Constructor) (x : Operand) (y n : CodeTree) (names : Names) (c : Code) → instruction (V.Match t k x y n) names c ≡ code.Match t k x (code_of y names) (code_of n names) c
unfolding instruction code_of
match_is t k x y n names c = ap (λ i. instruction i names c) (sym (V.rolls-Match t k x y n)) ∙ ap (λ (f : InstructionView). f names c) (fold-roll-Instruction InstructionView CodeView instruction_step code_step (I.Match t k x y n))
