-- The view of code, one layer at a time.
use Rattle.std.proofs.Common.{◌≡◌, ℕ, ◌+◌, ◌<◌, refl, ap, ◌∙◌, List, [], ◌∷◌, ◌++◌, map, drop, get_or, length}
use Rattle.std.proofs.lemmas.List.{drop_more}
use Rattle.core_ir.specs.declared.code.Code.{Code, fold-roll-Code}
use Rattle.core_ir.specs.declared.code.Instruction.{Instruction}
use Rattle.core_ir.specs.Code as code
use Rattle.core_ir.specs.CodeView.{Names, InstructionView, CodeView, instruction_step, code_step, sequence, exit_code, instruction, code_of}

-- the code that begins with these instructions
abbrev pub begun : List Instruction → Names → code.Code → code.Code
begun [] names c = c
begun (i ∷ is) names c = instruction i names (begun is names c)

pub begun_push : (is : List Instruction) (i : Instruction) (names : Names) (c : code.Code) → begun (is ++ i ∷ []) names c ≡ begun is names (instruction i names c)
begun_push [] i names c = refl
begun_push (j ∷ is) i names c = ap (instruction j names) (begun_push is i names c)

pub begun_more : (is : List Instruction) (n : ℕ) (d : Instruction) (names : Names) (c : code.Code) → n < length is → begun (drop n is) names c ≡ instruction (get_or is n d) names (begun (drop (n + 1) is) names c)
begun_more is n d names c l = ap (λ is. begun is names c) (drop_more is n d l)

sequence_is : (is : List Instruction) (last : CodeView) (names : Names) → sequence (map instruction is) last names ≡ begun is names (last names)
sequence_is [] last names = refl
sequence_is (i ∷ is) last names = ap (instruction i names) (sequence_is is last names)

pub code_is : (c : Code) (names : Names) → code_of c names ≡ begun c.instructions names (exit_code c.exit)
unfolding code_of instruction
code_is c names =
    ap (λ (f : CodeView). f names) (fold-roll-Code InstructionView CodeView instruction_step code_step (record { instructions = c.instructions; exit = c.exit }))
    ∙ sequence_is c.instructions (λ names. exit_code c.exit) names
