-- Code of a routine in a function's own locals: what the routine reads of each of its locals is an operand of the function, and what it
-- sets is a local there. So no call is needed where the code has no loop and gives its value at its end.
use Rattle.std.specs.Prelude.{⊤, ◌≡◌, ◌<◌, ◌≤◌, ℕ, Bool, true, false, ◌&&◌, ◌||◌, nat_eq, nat_lt, nat_le, List, length, Some, slice_index}
use Rattle.low_ir.specs.declared.op.Operand.{Operand}
use Rattle.low_ir.specs.declared.op.Operand.TheVariants.{Local, Word, Long}
use Rattle.low_ir.specs.declared.op.Operation.{Operation}
use Rattle.low_ir.specs.declared.op.Operation.TheVariants.{Copy, IsZero, Compare, Unary, Binary, Convert, Load, Global, Size}
use Rattle.low_ir.specs.Tree.{Code, Stop, Return, Trap, Set, If}
use Rattle.low_rules.specs.Rule.{value_of}

-- For each local of the routine.
pub record Places : Type 0 where
  pub read : ℕ → Operand
  pub write : ℕ → ℕ

module _ (at : Places) where
  abbrev pub operand_at : Operand → Operand
  operand_at (Local x) = at.read x
  operand_at (Word z) = Word z
  operand_at (Long z) = Long z

  abbrev pub operation_at : Operation → Operation
  operation_at (Copy a) = Copy (operand_at a)
  operation_at (IsZero kind a) = IsZero kind (operand_at a)
  operation_at (Compare kind o a b) = Compare kind o (operand_at a) (operand_at b)
  operation_at (Unary kind o a) = Unary kind o (operand_at a)
  operation_at (Binary kind o a b) = Binary kind o (operand_at a) (operand_at b)
  operation_at (Convert o a) = Convert o (operand_at a)
  operation_at (Load kind a offset) = Load kind (operand_at a) offset
  operation_at (Global x) = Global x
  operation_at Size = Size

  -- with what is done with the value in place of the return of it
  abbrev pub code_at : (Operand → Code) → Code → Code
  code_at out (Return (Some a)) = out (operand_at a)
  code_at out (Trap a b) = Trap (operand_at a) (operand_at b)
  code_at out (Set x o rest) = Set (at.write x) (operation_at o) (code_at out rest)
  code_at out (If a first second rest) = If (operand_at a) (code_at out first) (code_at out second) (code_at out rest)
  code_at out code = Stop

-- With one more local whose value is known.
abbrev pub with_known : (ℕ → Bool) → ℕ → ℕ → Bool
with_known known x y = nat_eq y x || known y

-- Code that may go inline: it has neither loops nor calls, it returns at its own end alone, and of its locals, of so many, it sets those
-- from a number on and reads those that are known: its arguments, and what was set on the way.
module _ (first count : ℕ) where
  abbrev pub reads : (ℕ → Bool) → Operand → Bool
  reads known (Local x) = known x
  reads known (Word z) = true
  reads known (Long z) = true

  abbrev pub reads_all : (ℕ → Bool) → Operation → Bool
  reads_all known (Copy a) = reads known a
  reads_all known (IsZero kind a) = reads known a
  reads_all known (Compare kind o a b) = reads known a && reads known b
  reads_all known (Unary kind o a) = reads known a
  reads_all known (Binary kind o a b) = reads known a && reads known b
  reads_all known (Convert o a) = reads known a
  reads_all known (Load kind a offset) = reads known a
  reads_all known (Global x) = true
  reads_all known Size = true

  abbrev pub may_set : ℕ → Bool
  may_set x = nat_le first x && nat_lt x count

  abbrev pub is_plain : Code → (ℕ → Bool) → Bool
  is_plain Stop known = true
  is_plain (Trap a b) known = reads known a && reads known b
  is_plain (Set x o rest) known = may_set x && (reads_all known o && is_plain rest (with_known known x))
  is_plain (If a y n rest) known = reads known a && (is_plain y known && (is_plain n known && is_plain rest known))
  is_plain code known = false

  abbrev pub goes_inline : Code → (ℕ → Bool) → Bool
  goes_inline (Return (Some a)) known = reads known a
  goes_inline (Trap a b) known = reads known a && reads known b
  goes_inline (Set x o rest) known = may_set x && (reads_all known o && goes_inline rest (with_known known x))
  goes_inline (If a y n rest) known = reads known a && (is_plain y known && (is_plain n known && goes_inline rest known))
  goes_inline code known = false

-- The arguments, of so many.
abbrev pub arguments : ℕ → ℕ → Bool
arguments first x = nat_lt x first

-- The operand is no such local.
abbrev pub IsApart : Operand → ℕ → Type 0
IsApart (Local z) w = z ≡ w → ⊥
IsApart (Word z) w = ⊤
IsApart (Long z) w = ⊤

-- A local that the routine sets is one of the function, of so many, that no other local of the routine is read from.
pub record IsOwn (at : Places) (count size x : ℕ) : Type 0 where
  pub read : at.read x ≡ Local (at.write x)
  pub there : at.write x < size
  pub apart : (y : ℕ) → y < count → (y ≡ x → ⊥) → IsApart (at.read y) (at.write x)

-- Other locals of the function than those that the routine may set are as they were.
abbrev pub KeepsOthers : (at : Places) (first count : ℕ) → (start own : List ℕ) → Type 0
KeepsOthers at first count start own = (z : ℕ) → ((x : ℕ) → first ≤ x → x < count → z ≡ at.write x → ⊥) → slice_index own z ≡ slice_index start z

-- The locals of the routine that are known, and those of the function in which its code stands.
pub record Agree (at : Places) (first count size : ℕ) (start : List ℕ) (known : ℕ → Bool) (locals own : List ℕ) : Type 0 where
  pub many : length locals ≡ count
  pub long : length own ≡ size
  pub few : (x : ℕ) → known x ≡ true → x < count
  pub same : (x : ℕ) → known x ≡ true → value_of (at.read x) own ≡ slice_index locals x
  pub others : KeepsOthers at first count start own
