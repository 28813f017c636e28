-- Which of the values that a group sees its functions use.
use Rattle.std.specs.Prelude.{ℕ, List, [], ◌∷◌, ◌++◌, cond}
use Rattle.core_ir.specs.declared.constant.Constant.TheVariants as constant
use Rattle.core_ir.specs.declared.code.Operand.{Operand}
use Rattle.core_ir.specs.declared.code.Operand.TheVariants.{Slot, Captured, Member, Global, Constant}
use Rattle.core_ir.specs.Choices.{nth}
pub use Rattle.core_ir.specs.Outward.{holds}
use Rattle.core_ir.specs.Programs.{Group}
use Rattle.core_ir.specs.Code.{Code, Stop, Let, If, Match, Loop, Label, Branch, Leave, Pass, Make, Call, Tabulate, Send, Wait, Raise, Return, Body}

abbrev pub with_use : ℕ → List ℕ → List ℕ
with_use x used = cond (holds x used) used (used ++ x ∷ [])

abbrev pub use_operand : Operand → List ℕ → List ℕ
use_operand (Slot x) used = used
use_operand (Captured x) used = with_use x used
use_operand (Member m) used = used
use_operand (Global i) used = used
use_operand (Constant k) used = used

abbrev pub use_all : List Operand → List ℕ → List ℕ
use_all [] used = used
use_all (x ∷ xs) used = use_all xs (use_operand x used)

-- those of the operands whose places are told
abbrev pub picked : List Operand → List ℕ → List Operand
picked seen [] = []
picked seen (x ∷ xs) = nth (Constant constant.Unit) seen x ∷ picked seen xs

-- needs tells of each group before this one which of the values that it sees are used
module _ (needs : List (List ℕ)) where
  abbrev pub uses : Code → List ℕ → List ℕ
  uses Stop used = used
  uses (Let t p xs c) used = uses c (use_all xs used)
  uses (If p xs y n c) used = uses c (uses n (uses y (use_all xs used)))
  uses (Match t k x y n c) used = uses c (uses n (uses y (use_operand x used)))
  uses (Loop b c) used = uses c (uses b used)
  uses (Label b c) used = uses c (uses b used)
  uses (Branch l) used = used
  uses (Leave j) used = used
  uses (Pass t x j) used = use_operand x used
  uses (Make t seen k c) used = uses c (use_all (picked seen (nth [] needs k)) used)
  uses (Call t f xs c) used = uses c (use_all xs (use_operand f used))
  uses (Tabulate t n f c) used = uses c (use_operand f (use_operand n used))
  uses (Send t s f xs h c) used = uses c (use_all xs (use_operand f used))
  uses (Wait t x h j) used = use_operand x used
  uses (Raise x h) used = use_operand x used
  uses (Return x) used = use_operand x used

  abbrev pub uses_segments : List Code → List ℕ → List ℕ
  uses_segments [] used = used
  uses_segments (c ∷ cs) used = uses_segments cs (uses c used)

  abbrev pub uses_bodies : List Body → List ℕ → List ℕ
  uses_bodies [] used = used
  uses_bodies (b ∷ bs) used = uses_bodies bs (uses_segments b.segments used)

-- of each group the values that are used, those of earlier groups first
abbrev pub needs_of : List (List ℕ) → List (Group Body) → List (List ℕ)
needs_of needs [] = needs
needs_of needs (g ∷ gs) = needs_of (needs ++ uses_bodies needs g.bodies [] ∷ []) gs
