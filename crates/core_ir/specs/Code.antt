-- Structured code over slots, in segments that go on behind an await. It is the code of two languages: in `SplitCore` a group of
-- functions sees all names that are in scope where it is made, in `Flat` what its functions use.
use Rattle.std.specs.Prelude.{ℕ, ◌+◌, List, [], ◌∷◌, Option}
use Rattle.core_ir.specs.declared.primitive.Primitive.{Primitive}
use Rattle.core_ir.specs.declared.primitive.Constructor.{Constructor}
use Rattle.core_ir.specs.declared.code.Operand.{Operand}
use Rattle.core_ir.specs.declared.code.Handler.{Handler}
use Rattle.core_ir.specs.Programs.{Signature, Program}

-- Each instruction comes with what follows it; t is the slot that takes what it gives. If, Match, Loop and Label are constructs,
-- by which Branch counts: it goes on behind one, and begins a Loop again.
pub data Code : Type 0 where
  -- behind the construct that it stands in
  Stop : Code
  Let : (t : ℕ) → (primitive : Primitive) → (xs : List Operand) → (c : Code) → Code
  If : (primitive : Primitive) → (xs : List Operand) → (y n c : Code) → Code
  Match : (t : ℕ) → (constructor : Constructor) → (x : Operand) → (y n c : Code) → Code
  Loop : (b c : Code) → Code
  Label : (b c : Code) → Code
  Branch : (out : ℕ) → Code
  -- goes on as a segment
  Leave : (segment : ℕ) → Code
  Pass : (t : ℕ) → (x : Operand) → (segment : ℕ) → Code
  -- makes the functions of a group, whose values go into the slots from t on
  Make : (t : ℕ) → (seen : List Operand) → (code : ℕ) → (c : Code) → Code
  Call : (t : ℕ) → (f : Operand) → (xs : List Operand) → (c : Code) → Code
  Tabulate : (t : ℕ) → (n f : Operand) → (c : Code) → Code
  Send : (t : ℕ) → (signature : Signature) → (f : Operand) → (xs : List Operand) → (h : Option Handler) → (c : Code) → Code
  -- the answer goes into slot t, and the code goes on as a segment
  Wait : (t : ℕ) → (x : Operand) → (h : Option Handler) → (segment : ℕ) → Code
  Raise : (x : Operand) → (h : Option Handler) → Code
  Return : (x : Operand) → Code

-- Of a function or method: it has its arguments in its first slots, and begins as segment 0. Its nodes are those in the source.
pub record Body : Type 0 where
  pub parameters : ℕ
  pub slots : ℕ
  pub nodes : ℕ
  pub segments : List Code

abbrev pub CodeProgram : Type 0
CodeProgram = Program Body

abbrev pub nodes_of : List Body → ℕ
nodes_of [] = 0
nodes_of (b ∷ bs) = b.nodes + nodes_of bs
