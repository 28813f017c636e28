-- The texts of a module: those of traps and of literals, each once, in the order of first sight. They stand at the beginning of the memory
-- as blocks, one behind the other, behind a word that begins none: address 0 is null and ().
use Rattle.std.specs.Prelude.{ℕ, ◌+◌, ◌*◌, ◌-◌, List, [], ◌∷◌, ◌++◌, length, replicate, Bool, false, ◌||◌, cond, codes}
use Rattle.std.specs.Str.{bytes_eq}
use Rattle.mo_num.specs.declared.operator.NumTrap.TheVariants.{Overflow, Underflow, DivideByZero}
use Rattle.mo_types.specs.declared.datum.Datum.{Datum}
use Rattle.mo_types.specs.declared.datum.Datum.TheVariants as part
use Rattle.mo_values.specs.declared.operation.Operation.TheVariants as op
use Rattle.mo_values.specs.Operations.{number_text, assertion_failed}
use Rattle.mo_values.specs.Shapes.{Bytes}
use Rattle.wasm_tree.specs.Exec.{bytes_of}
use Rattle.core_ir.specs.declared.primitive.Primitive.{Primitive}
use Rattle.core_ir.specs.declared.primitive.Primitive.TheVariants as primitive
use Rattle.core_ir.specs.declared.constant.Constant.{Constant}
use Rattle.core_ir.specs.declared.constant.Constant.TheVariants as constant
use Rattle.core_ir.specs.declared.code.Operand.{Operand}
use Rattle.core_ir.specs.declared.code.Operand.TheVariants.{Slot, Captured, Member, Global}
use Rattle.core_ir.specs.declared.code.Operand.TheVariants as operand
use Rattle.core_ir.specs.Programs.{Group, Method}
use Rattle.core_ir.specs.Code.{Code, Stop, Let, If, Match, Loop, Label, Branch, Leave, Pass, Make, Call, Tabulate, Send, Wait, Raise, Return, Body, CodeProgram}
use Rattle.heap_layout.specs.Words.{words_for}
use Rattle.heap_layout.specs.Blocks.{text_words}

-- ---- which there are

-- the texts of traps that each module has
abbrev pub common_texts : List Bytes
common_texts =
    number_text Overflow ∷ number_text Underflow ∷ number_text DivideByZero ∷ assertion_failed ∷ codes "bad argument" ∷ codes "message too long" ∷ []

abbrev pub is_among : Bytes → List Bytes → Bool
is_among t [] = false
is_among t (u ∷ us) = bytes_eq t u || is_among t us

abbrev pub with_text : Bytes → List Bytes → List Bytes
with_text t ts = cond (is_among t ts) ts (ts ++ t ∷ [])

abbrev pub leaf_texts : Datum → List Bytes → List Bytes
leaf_texts (part.Text t) ts = with_text t ts
leaf_texts (part.Blob t) ts = with_text t ts
leaf_texts (part.Principal t) ts = with_text t ts
leaf_texts (part.Actor t) ts = with_text t ts
leaf_texts p ts = ts

abbrev pub constant_texts : Constant → List Bytes → List Bytes
constant_texts constant.Unit ts = ts
constant_texts (constant.Leaf p) ts = leaf_texts p ts

abbrev pub operand_texts : Operand → List Bytes → List Bytes
operand_texts (operand.Constant c) ts = constant_texts c ts
operand_texts x ts = ts

abbrev pub operands_texts : List Operand → List Bytes → List Bytes
operands_texts [] ts = ts
operands_texts (x ∷ xs) ts = operands_texts xs (operand_texts x ts)

abbrev pub primitive_texts : Primitive → List Bytes → List Bytes
primitive_texts (primitive.Operate (op.Fail t)) ts = with_text t ts
primitive_texts p ts = ts

abbrev pub code_texts : Code → List Bytes → List Bytes
code_texts (Let t p xs c) ts = code_texts c (operands_texts xs (primitive_texts p ts))
code_texts (If p xs y n c) ts = code_texts c (code_texts n (code_texts y (operands_texts xs (primitive_texts p ts))))
code_texts (Match t k x y n c) ts = code_texts c (code_texts n (code_texts y (operand_texts x ts)))
code_texts (Loop b c) ts = code_texts c (code_texts b ts)
code_texts (Label b c) ts = code_texts c (code_texts b ts)
code_texts (Make t xs k c) ts = code_texts c (operands_texts xs ts)
code_texts (Call t f xs c) ts = code_texts c (operands_texts xs (operand_texts f ts))
code_texts (Return x) ts = operand_texts x ts
code_texts c ts = ts

abbrev pub segments_texts : List Code → List Bytes → List Bytes
segments_texts [] ts = ts
segments_texts (c ∷ cs) ts = segments_texts cs (code_texts c ts)

abbrev pub bodies_texts : List Body → List Bytes → List Bytes
bodies_texts [] ts = ts
bodies_texts (b ∷ bs) ts = bodies_texts bs (segments_texts b.segments ts)

abbrev pub groups_texts : List (Group Body) → List Bytes → List Bytes
groups_texts [] ts = ts
groups_texts (g ∷ gs) ts = groups_texts gs (bodies_texts g.bodies ts)

abbrev pub methods_texts : List (Method Body) → List Bytes → List Bytes
methods_texts [] ts = ts
methods_texts (m ∷ ms) ts = methods_texts ms (segments_texts m.body.segments ts)

abbrev pub texts_of : CodeProgram → List Bytes
texts_of p = segments_texts p.start.segments (methods_texts p.methods (groups_texts p.groups common_texts))

-- ---- where they stand

abbrev pub text_block : Bytes → List ℕ
text_block t = bytes_of 8 (length t) ++ (t ++ replicate (8 * words_for (length t) - length t) 0)

abbrev pub blocks : List Bytes → List ℕ
blocks [] = []
blocks (t ∷ ts) = text_block t ++ blocks ts

abbrev pub memory_of : List Bytes → List ℕ
memory_of ts = replicate 8 0 ++ blocks ts

abbrev pub words_from : ℕ → List Bytes → ℕ
words_from i [] = i
words_from i (t ∷ ts) = words_from (i + text_words t) ts

-- the word in which the block of the text begins, where those before it end at word i
abbrev pub place_from : ℕ → Bytes → List Bytes → ℕ
place_from i t [] = 0
place_from i t (u ∷ us) = cond (bytes_eq t u) i (place_from (i + text_words u) t us)
