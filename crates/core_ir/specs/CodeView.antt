-- The code that instructions with their exit stand for. Where a group of functions sees a scope, that is looked up among the scopes
-- of the body.
use Rattle.std.specs.Prelude.{ℕ, List, [], ◌∷◌, map}
use Rattle.core_ir.specs.declared.code.Code.{Code, fold-Code}
use Rattle.core_ir.specs.declared.code.Instruction.{Instruction, fold-Instruction}
use Rattle.core_ir.specs.declared.code.Instruction.TheOpen as I
use Rattle.core_ir.specs.declared.code.Exit.{Exit}
use Rattle.core_ir.specs.declared.code.Exit.TheVariants as exit
use Rattle.core_ir.specs.declared.code.CodeBody.{CodeBody}
use Rattle.core_ir.specs.declared.code.Operand.{Operand}
use Rattle.core_ir.specs.declared.code.Seen.{Seen}
use Rattle.core_ir.specs.declared.code.Seen.TheVariants as seen
use Rattle.core_ir.specs.Code as code
use Rattle.core_ir.specs.Code.{Body}
use Rattle.core_ir.specs.ScopeNames.{scope_names}
use Rattle.core_ir.specs.View.{signature}

-- ---- code, given the names in each scope of its body

abbrev pub Names : Type 0
Names = ℕ → List Operand

abbrev pub seen_names : Names → Seen → List Operand
seen_names names (seen.Scope n) = names n
seen_names names (seen.Listed xs) = xs

abbrev pub CodeView : Type 0
CodeView = Names → code.Code

-- an instruction before what follows it
abbrev pub InstructionView : Type 0
InstructionView = Names → code.Code → code.Code

abbrev pub sequence : List InstructionView → CodeView → CodeView
sequence [] last names = last names
sequence (i ∷ is) last names = i names (sequence is last names)

abbrev pub exit_code : Exit → code.Code
exit_code exit.Stop = code.Stop
exit_code (exit.Branch l) = code.Branch l
exit_code (exit.Leave j) = code.Leave j
exit_code (exit.Pass t x j) = code.Pass t x j
exit_code (exit.Wait t x h j) = code.Wait t x h j
exit_code (exit.Raise x h) = code.Raise x h
exit_code (exit.Return x) = code.Return x

abbrev pub instruction_step : I.Instruction-F InstructionView CodeView → InstructionView
instruction_step (I.Let t p xs) names c = code.Let t p xs c
instruction_step (I.If p xs y n) names c = code.If p xs (y names) (n names) c
instruction_step (I.Match t k x y n) names c = code.Match t k x (y names) (n names) c
instruction_step (I.Loop b) names c = code.Loop (b names) c
instruction_step (I.Label b) names c = code.Label (b names) c
instruction_step (I.Make t s k) names c = code.Make t (seen_names names s) k c
instruction_step (I.Call t f xs) names c = code.Call t f xs c
instruction_step (I.Tabulate t n f) names c = code.Tabulate t n f c
instruction_step (I.Send t s f xs h) names c = code.Send t (signature s) f xs h c

abbrev pub code_step : I.Code-F InstructionView CodeView → CodeView
code_step x names = sequence x.instructions (λ names. exit_code x.exit) names

unfoldable pub code_of : Code → CodeView
code_of = fold-Code InstructionView CodeView instruction_step code_step

unfoldable pub instruction : Instruction → InstructionView
instruction = fold-Instruction InstructionView CodeView instruction_step code_step

abbrev pub names_of : ℕ → ℕ → CodeBody → Names
names_of functions sees b = scope_names b.scopes (record { parameters = b.parameters; functions = functions; sees = sees })

-- in a group of so many functions, which sees so many values
abbrev pub code_body : ℕ → ℕ → CodeBody → Body
code_body functions sees b = record { parameters = b.parameters; slots = b.slots; nodes = b.nodes; segments = map (λ c. code_of c (names_of functions sees b)) b.segments }
