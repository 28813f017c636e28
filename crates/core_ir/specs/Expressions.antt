-- The language of nested expressions. A name is the number of binders between its use and its own, and a label likewise among
-- labels. All that is done with values which stand ready is one form, with what is done as its goal.
use Rattle.std.specs.Prelude.{ℕ, ◌+◌, List, [], ◌∷◌}
use Rattle.core_ir.specs.declared.constant.Constant.{Constant}
use Rattle.core_ir.specs.declared.primitive.Primitive.{Primitive}
use Rattle.core_ir.specs.declared.primitive.Constructor.{Constructor}
use Rattle.core_ir.specs.Programs.{Signature, Program}

mutual
  pub data Exp : Type 0 where
    Constant? : (c : Constant) → Exp
    Name : (x : ℕ) → Exp
    -- a name of the actor
    Global : (i : ℕ) → Exp
    -- the arguments from left to right, and then what is done with their values
    Do : (goal : Goal) → (es : Exps) → Exp
    -- makes the functions of this group, whose values are the nearest names in what follows
    Functions : (code : ℕ) → (b : Exp) → Exp
    Loop : (b : Exp) → Exp
    Label : (b : Exp) → Exp
    -- the error is the nearest name in b
    Try : (a b : Exp) → Exp

  pub data Exps : Type 0 where
    NoExp : Exps
    AnExp : (e : Exp) → (es : Exps) → Exps

  pub data Goal : Type 0 where
    Operate : (primitive : Primitive) → Goal
    -- by the truth value that the primitive gives
    Choose : (primitive : Primitive) → (a b : Exp) → Goal
    -- where the value has the form, what is inside is the nearest name in a
    Match : (constructor : Constructor) → (a b : Exp) → Goal
    -- the value is the nearest name in b
    Bind : (b : Exp) → Goal
    -- the function, and its arguments
    Call : Goal
    -- the number of elements of an array, and the function of an index
    Tabulate : Goal
    -- the shared function, and its arguments
    Send : (signature : Signature) → Goal
    Throw : Goal
    Await : Goal
    Break : (labels : ℕ) → Goal
    Return : Goal

-- Of a function or method: its parameters, its nodes in the source, and what it computes. Its names are its parameters, the
-- functions of its group, and what the group sees.
pub record Body : Type 0 where
  pub parameters : ℕ
  pub nodes : ℕ
  pub expression : Exp

abbrev pub Core : Type 0
Core = Program Body

abbrev pub nodes_of : List Body → ℕ
nodes_of [] = 0
nodes_of (b ∷ bs) = b.nodes + nodes_of bs
