-- Structured code whose slots, segments, constructs and groups are there, within frames that the nodes of its body pay for.
use Rattle.std.specs.Prelude.{◌≡◌, ℕ, suc, ◌+◌, ◌*◌, ◌<◌, ◌≤◌, max, Bool, true, List, [], ◌∷◌, length, Option, Some, None}
use Rattle.core_ir.specs.declared.code.Operand.{Operand}
use Rattle.core_ir.specs.declared.code.Operand.TheVariants.{Slot, Captured, Member, Global, Constant}
use Rattle.core_ir.specs.declared.code.Way.{Way}
use Rattle.core_ir.specs.declared.code.Way.TheVariants.{Near, Far}
use Rattle.core_ir.specs.declared.code.Handler.{Handler}
use Rattle.core_ir.specs.Arities.{arity, Takes, is_silent}
use Rattle.core_ir.specs.Code.{Code, Stop, Let, If, Match, Loop, Label, Branch, Leave, Pass, Make, Call, Tabulate, Send, Wait, Raise, Return, Body}

-- ---- what a frame has to hold

-- the most operands of an instruction that stand ready at once: what a group sees is read one after the other
abbrev pub most_operands : Code → ℕ
most_operands Stop = 0
most_operands (Let t p xs c) = max (length xs) (most_operands c)
most_operands (If p xs y n c) = max (length xs) (max (most_operands y) (max (most_operands n) (most_operands c)))
most_operands (Match t k x y n c) = max 1 (max (most_operands y) (max (most_operands n) (most_operands c)))
most_operands (Loop b c) = max (most_operands b) (most_operands c)
most_operands (Label b c) = max (most_operands b) (most_operands c)
most_operands (Branch l) = 0
most_operands (Leave j) = 0
most_operands (Pass t x j) = 1
most_operands (Make t seen k c) = max 1 (most_operands c)
most_operands (Call t f xs c) = max (suc (length xs)) (most_operands c)
most_operands (Tabulate t n f c) = max 2 (most_operands c)
most_operands (Send t s f xs h c) = max (suc (length xs)) (most_operands c)
most_operands (Wait t x h j) = 1
most_operands (Raise x h) = 1
most_operands (Return x) = 1

-- how deep constructs stand in one another
abbrev pub nesting : Code → ℕ
nesting (Let t p xs c) = nesting c
nesting (If p xs y n c) = max (suc (max (nesting y) (nesting n))) (nesting c)
nesting (Match t k x y n c) = max (suc (max (nesting y) (nesting n))) (nesting c)
nesting (Loop b c) = max (suc (nesting b)) (nesting c)
nesting (Label b c) = max (suc (nesting b)) (nesting c)
nesting (Make t seen k c) = nesting c
nesting (Call t f xs c) = nesting c
nesting (Tabulate t n f c) = nesting c
nesting (Send t s f xs h c) = nesting c
nesting c = 0

abbrev pub most_of : (Code → ℕ) → List Code → ℕ
most_of f [] = 0
most_of f (c ∷ cs) = max (f c) (most_of f cs)

-- ---- slots, segments, constructs and groups

module _ (sizes sees : ℕ → ℕ) (globals bound : ℕ) (shared : Bool) where
  -- of a body with so many slots and segments, in a group of so many functions which sees so many values
  module _ (slots segments size seen : ℕ) where
    abbrev pub FormedOperand : Operand → Type 0
    FormedOperand (Slot x) = x < slots
    FormedOperand (Captured x) = x < seen
    FormedOperand (Member m) = m < size
    FormedOperand (Global i) = i < globals
    FormedOperand (Constant k) = Unit {0}

    abbrev pub FormedOperands : List Operand → Type 0
    FormedOperands [] = Unit {0}
    FormedOperands (x ∷ xs) = FormedOperand x × FormedOperands xs

    abbrev pub FormedWay : ℕ → Way → Type 0
    FormedWay within (Near l) = l < within
    FormedWay within (Far j) = j < segments

    abbrev pub FormedHandler : ℕ → Option Handler → Type 0
    FormedHandler within None = Unit {0}
    FormedHandler within (Some h) = (h.slot < slots) × FormedWay within h.way

    -- within so many constructs
    abbrev pub FormedCode : ℕ → Code → Type 0
    FormedCode within Stop = 0 < within
    FormedCode within (Let t p xs c) = (t < slots) × Takes (arity p) (length xs) × FormedOperands xs × FormedCode within c
    FormedCode within (If p xs y n c) =
        Takes (arity p) (length xs) × (is_silent p ≡ true) × FormedOperands xs × FormedCode (suc within) y × FormedCode (suc within) n × FormedCode within c
    FormedCode within (Match t k x y n c) = (t < slots) × FormedOperand x × FormedCode (suc within) y × FormedCode (suc within) n × FormedCode within c
    FormedCode within (Loop b c) = FormedCode (suc within) b × FormedCode within c
    FormedCode within (Label b c) = FormedCode (suc within) b × FormedCode within c
    FormedCode within (Branch l) = l < within
    FormedCode within (Leave j) = (shared ≡ true) × (j < segments)
    FormedCode within (Pass t x j) = (shared ≡ true) × (t < slots) × FormedOperand x × (j < segments)
    FormedCode within (Make t xs k c) = (t + sizes k ≤ slots) × (k < bound) × (length xs ≡ sees k) × FormedOperands xs × FormedCode within c
    FormedCode within (Call t f xs c) = (t < slots) × FormedOperand f × FormedOperands xs × FormedCode within c
    FormedCode within (Tabulate t n f c) = (t < slots) × FormedOperand n × FormedOperand f × FormedCode within c
    FormedCode within (Send t s f xs h c) =
        (shared ≡ true) × (t < slots) × FormedOperand f × (length xs ≡ length s.parameters) × FormedOperands xs × FormedHandler within h × FormedCode within c
    FormedCode within (Wait t x h j) = (shared ≡ true) × (t < slots) × FormedOperand x × FormedHandler within h × (j < segments)
    FormedCode within (Raise x h) = (shared ≡ true) × FormedOperand x × FormedHandler within h
    FormedCode within (Return x) = FormedOperand x

    abbrev pub FormedSegments : List Code → Type 0
    FormedSegments [] = Unit {0}
    FormedSegments (c ∷ cs) = FormedCode 0 c × FormedSegments cs

  pub record FormedBody (size seen : ℕ) (b : Body) : Type 0 where
    pub begins : 1 ≤ length b.segments
    pub parameters : b.parameters ≤ b.slots
    pub segments : FormedSegments b.slots (length b.segments) size seen b.segments
    -- in words of a frame: the slots, the operands of an instruction, the open constructs, and what a routine takes
    pub frame : b.slots + 2 * most_of most_operands b.segments + most_of nesting b.segments + 13 ≤ 4 * b.nodes + 64
