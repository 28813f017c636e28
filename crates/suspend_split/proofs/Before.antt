-- Code that is made from its end.
use Rattle.std.proofs.Common.{◌≡◌, ℕ, refl, sym, ap, ◌∙◌, List, [], ◌∷◌, ◌++◌, ◌≤◌, length, arith}
use Rattle.core_ir.specs.declared.code.Instruction.{Instruction, fold_out-Instruction, fold-roll-Instruction}
use Rattle.core_ir.specs.declared.code.Instruction.TheVariants as V
use Rattle.core_ir.specs.declared.code.Code.{Code as CodeTree}
use Rattle.core_ir.specs.declared.code.Seen.TheVariants as seen
use Rattle.core_ir.specs.declared.primitive.Primitive.{Primitive}
use Rattle.core_ir.specs.declared.primitive.Constructor.{Constructor}
use Rattle.core_ir.specs.declared.code.Instruction.TheOpen as I
use Rattle.core_ir.specs.declared.code.Operand.{Operand}
use Rattle.core_ir.specs.declared.primitive.Primitive.TheVariants as primitive
use Rattle.core_ir.specs.Code as code
use Rattle.core_ir.specs.Code.{Code}
use Rattle.core_ir.specs.CodeView.{Names, InstructionView, CodeView, instruction, code_of, instruction_step, code_step}
use Rattle.core_ir.proofs.CodeViews as views
use Rattle.core_laws.specs.Slots.{into}
use Rattle.suspend_split.specs.Drafts.{before, begun}

pub before_push : (is : List Instruction) (i : Instruction) (names : Names) (c : Code) → before (is ++ i ∷ []) names c ≡ instruction i names (before is names c)
before_push [] i names c = refl
before_push (j ∷ is) i names c = before_push is i names (instruction j names c)

-- an instruction is no jump
into_step : (x : I.Instruction-F InstructionView CodeView) (t : ℕ) (y : Operand) (names : Names) (c : Code) → into t y (instruction_step x names c) ≡ code.Let t primitive.Copy (y ∷ []) (instruction_step x names c)
into_step (I.Let u p xs) t y names c = refl
into_step (I.If p xs a b) t y names c = refl
into_step (I.Match u k x a b) t y names c = refl
into_step (I.Loop b) t y names c = refl
into_step (I.Label b) t y names c = refl
into_step (I.Make u s k) t y names c = refl
into_step (I.Call u f xs) t y names c = refl
into_step (I.Tabulate u n f) t y names c = refl
into_step (I.Send u s f xs h) t y names c = refl

pub into_instruction : (i : Instruction) (t : ℕ) (y : Operand) (names : Names) (c : Code) → into t y (instruction i names c) ≡ code.Let t primitive.Copy (y ∷ []) (instruction i names c)
unfolding instruction
into_instruction i t y names c =
    let e = fold_out-Instruction InstructionView CodeView instruction_step code_step i in
    let f = ap (λ (g : InstructionView). g names c) e in
    ap (into t y) f ∙ into_step _ t y names c ∙ sym (ap (code.Let t primitive.Copy (y ∷ [])) f)

pub into_before : (i : Instruction) (is : List Instruction) (t : ℕ) (y : Operand) (names : Names) (c : Code) → into t y (before (i ∷ is) names c) ≡ code.Let t primitive.Copy (y ∷ []) (before (i ∷ is) names c)
into_before i [] t y names c = into_instruction i t y names c
into_before i (j ∷ is) t y names c = into_before j is t y names (instruction i names c)

pub into_some : (is : List Instruction) (t : ℕ) (y : Operand) (names : Names) (c : Code) → 1 ≤ length is → into t y (before is names c) ≡ code.Let t primitive.Copy (y ∷ []) (before is names c)
into_some [] t y names c l = absurd (omega (arith, l))
into_some (i ∷ is) t y names c l = into_before i is t y names c

pub begun_push : (is : List Instruction) (i : Instruction) (names : Names) (c : Code) → begun (is ++ i ∷ []) names c ≡ begun is names (instruction i names c)
begun_push [] i names c = refl
begun_push (j ∷ is) i names c = ap (instruction j names) (begun_push is i names c)

pub begun_is : (is : List Instruction) (names : Names) (c : Code) → views.begun is names c ≡ begun is names c
begun_is [] names c = refl
begun_is (i ∷ is) names c = ap (instruction i names) (begun_is is names c)

-- ---- what instructions stand for

pub make_is : (t n k : ℕ) (names : Names) (c : Code) → instruction (V.Make t (seen.Scope n) k) names c ≡ code.Make t (names n) k c
unfolding instruction
make_is t n k names c = ap (λ i. instruction i names c) (sym (V.rolls-Make t (seen.Scope n) k)) ∙ ap (λ (f : InstructionView). f names c) (fold-roll-Instruction InstructionView CodeView instruction_step code_step (I.Make t (seen.Scope n) k))

pub if_is : (p : Primitive) (xs : List Operand) (y n : CodeTree) (names : Names) (c : Code) → instruction (V.If p xs y n) names c ≡ code.If p xs (code_of y names) (code_of n names) c
unfolding instruction code_of
if_is p xs y n names c = ap (λ i. instruction i names c) (sym (V.rolls-If p xs y n)) ∙ ap (λ (f : InstructionView). f names c) (fold-roll-Instruction InstructionView CodeView instruction_step code_step (I.If p xs y n))

pub match_is : (t : ℕ) (k : Constructor) (x : Operand) (y n : CodeTree) (names : Names) (c : Code) → instruction (V.Match t k x y n) names c ≡ code.Match t k x (code_of y names) (code_of n names) c
unfolding instruction code_of
match_is t k x y n names c = ap (λ i. instruction i names c) (sym (V.rolls-Match t k x y n)) ∙ ap (λ (f : InstructionView). f names c) (fold-roll-Instruction InstructionView CodeView instruction_step code_step (I.Match t k x y n))

pub label_is : (b : CodeTree) (names : Names) (c : Code) → instruction (V.Label b) names c ≡ code.Label (code_of b names) c
unfolding instruction code_of
label_is b names c = ap (λ i. instruction i names c) (sym (V.rolls-Label b)) ∙ ap (λ (f : InstructionView). f names c) (fold-roll-Instruction InstructionView CodeView instruction_step code_step (I.Label b))
