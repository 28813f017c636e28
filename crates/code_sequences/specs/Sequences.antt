-- One code after another.
use Rattle.std.specs.Prelude.{Bool, true, false}
use Rattle.wasm_tree.specs.Exec.{State}
use Rattle.low_ir.specs.Tree.{Code, Stop, Return, Branch, Trap, Set, SetGlobal, Store, Grow, GrowStable, Block, Loop, If, BranchIf, Call, CallIndirect}
use Rattle.low_ir.specs.Meaning.{Outcome, Ends, Jumps, Gives, Breaks, Astray}

-- Where the first comes to its end, the second goes on.
abbrev pub seq : Code → Code → Code
seq Stop more = more
seq (Return value) more = Return value
seq (Branch label) more = Branch label
seq (Trap a b) more = Trap a b
seq (Set x o rest) more = Set x o (seq rest more)
seq (SetGlobal x a rest) more = SetGlobal x a (seq rest more)
seq (Store kind a offset b rest) more = Store kind a offset b (seq rest more)
seq (Grow a rest) more = Grow a (seq rest more)
seq (GrowStable a rest) more = GrowStable a (seq rest more)
seq (Block body rest) more = Block body (seq rest more)
seq (Loop body rest) more = Loop body (seq rest more)
seq (If a first second rest) more = If a first second (seq rest more)
seq (BranchIf a label rest) more = BranchIf a label (seq rest more)
seq (Call result f args rest) more = Call result f args (seq rest more)
seq (CallIndirect result x args a rest) more = CallIndirect result x args a (seq rest more)

-- Whether the code's last instruction comes to its end.
abbrev pub is_open : Code → Bool
is_open Stop = true
is_open (Return value) = false
is_open (Branch label) = false
is_open (Trap a b) = false
is_open (Set x o rest) = is_open rest
is_open (SetGlobal x a rest) = is_open rest
is_open (Store kind a offset b rest) = is_open rest
is_open (Grow a rest) = is_open rest
is_open (GrowStable a rest) = is_open rest
is_open (Block body rest) = is_open rest
is_open (Loop body rest) = is_open rest
is_open (If a first second rest) = is_open rest
is_open (BranchIf a label rest) = is_open rest
is_open (Call result f args rest) = is_open rest
is_open (CallIndirect result x args a rest) = is_open rest

-- Where code has reached its end.
abbrev pub then_run : {World : Type 0} → Outcome World → (State World → Outcome World) → Outcome World
then_run (Ends s) next = next s
then_run (Jumps label s) next = Jumps label s
then_run (Gives s value) next = Gives s value
then_run (Breaks cause store) next = Breaks cause store
then_run Astray next = Astray
