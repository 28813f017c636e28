-- Where the values of expressions are: constants and names are read where they are used, and all else is computed into a slot.
use Rattle.std.specs.Prelude.{ℕ, suc, List, [], ◌∷◌, Option, Some, None}
use Rattle.core_ir.specs.declared.primitive.Primitive.TheVariants as primitive
use Rattle.core_ir.specs.declared.code.Operand.{Operand}
use Rattle.core_ir.specs.declared.code.Operand.TheVariants.{Slot, Global, Constant}
use Rattle.core_ir.specs.declared.code.Way.{Way}
use Rattle.core_ir.specs.declared.code.Way.TheVariants.{Near, Far}
use Rattle.core_ir.specs.Choices.{on_some}
use Rattle.core_ir.specs.Expressions as tree
use Rattle.core_ir.specs.Expressions.{Exp, Constant?, Name, Exps, NoExp, AnExp}
use Rattle.core_ir.specs.Code.{Code, Let, Branch, Leave, Pass}
pub use Rattle.core_ir.specs.FormedExpressions.{count}
pub use Rattle.core_ir.specs.ScopeNames.{name_at, slots_from, members_from, captured_from}

-- the operand that reads the expression's value, which is in slot h if it is computed
abbrev pub operand : List Operand → Exp → ℕ → Operand
operand names (Constant? c) h = Constant c
operand names (Name x) h = name_at names x
operand names (tree.Global i) h = Global i
operand names e h = Slot h

-- the slot into which it is computed
abbrev pub place : Exp → ℕ → Option ℕ
place (Constant? c) h = None
place (Name x) h = None
place (tree.Global i) h = None
place e h = Some h

-- of arguments, one slot for each from slot h on
abbrev pub operands : List Operand → Exps → ℕ → List Operand
operands names NoExp h = []
operands names (AnExp e es) h = operand names e h ∷ operands names es (suc h)

-- the first operand, and the others
abbrev pub first : List Operand → Operand
first [] = Slot 0
first (x ∷ xs) = x

abbrev pub others : List Operand → List Operand
others [] = []
others (x ∷ xs) = xs

-- the slot, or this free one where the value is not looked at
abbrev pub slot : Option ℕ → ℕ → ℕ
slot t h = on_some h t (λ t. t)

-- a value comes into a slot, and the code goes on
abbrev pub into : ℕ → Operand → Code → Code
into t x (Leave j) = Pass t x j
into t x c = Let t primitive.Copy (x ∷ []) c

abbrev pub move : Option ℕ → Operand → Code → Code
move None x c = c
move (Some t) x c = into t x c

abbrev pub jump : Way → Code
jump (Near n) = Branch n
jump (Far j) = Leave j
