-- Sequences as lists of instructions.
use Rattle.std.proofs.Common.{◌≡◌, List, ◌∷◌, ◌++◌, map, refl, sym, ap, ◌∙◌, append_assoc}
use Rattle.low_ir.specs.declared.op.LowOp.{LowOp}
use Rattle.low_ir.specs.declared.op.LowOp.TheVariants as op
use Rattle.low_ir.specs.Tree.{Stop, Return, Branch, Trap, Set, SetGlobal, Store, Grow, GrowStable, Block, Loop, If, BranchIf, Call, CallIndirect}
use Rattle.low_ir.specs.Flat.{flat}
use Rattle.code_sequences.specs.Sequences.{seq}
use Rattle.code_sequences.specs.Laws.{SequencesAreLists}

-- behind what stands before the rest
behind : (front : List LowOp) (o : LowOp) (all rest more : List LowOp) → all ≡ rest ++ more → front ++ o ∷ all ≡ (front ++ o ∷ rest) ++ more
behind front o all rest more e = ap (λ l. front ++ o ∷ l) e ∙ sym (append_assoc front (o ∷ rest) more)

pub lists : SequencesAreLists
lists Stop more k = refl
lists (Return value) more k = absurd (cc k)
lists (Branch label) more k = absurd (cc k)
lists (Trap a b) more k = absurd (cc k)
lists (Set x o rest) more k = ap (λ l. op.Set x o ∷ l) (lists rest more k)
lists (SetGlobal x a rest) more k = ap (λ l. op.SetGlobal x a ∷ l) (lists rest more k)
lists (Store kind a offset b rest) more k = ap (λ l. op.Store kind a offset b ∷ l) (lists rest more k)
lists (Grow a rest) more k = ap (λ l. op.Grow a ∷ l) (lists rest more k)
lists (GrowStable a rest) more k = ap (λ l. op.GrowStable a ∷ l) (lists rest more k)
lists (Block body rest) more k = ap (λ l. op.Block ∷ l) (behind (flat body) op.End (flat (seq rest more)) (flat rest) (flat more) (lists rest more k))
lists (Loop body rest) more k = ap (λ l. op.Loop ∷ l) (behind (flat body) op.End (flat (seq rest more)) (flat rest) (flat more) (lists rest more k))
lists (If a first second rest) more k =
    ap (λ l. op.If a ∷ (flat first ++ op.Else ∷ l)) (behind (flat second) op.End (flat (seq rest more)) (flat rest) (flat more) (lists rest more k))
    ∙ ap (λ l. op.If a ∷ l) (sym (append_assoc (flat first) (op.Else ∷ (flat second ++ op.End ∷ flat rest)) (flat more)))
lists (BranchIf a label rest) more k = ap (λ l. op.BranchIf a label ∷ l) (lists rest more k)
lists (Call result f args rest) more k = behind (map op.Argument args) (op.Call result f) (flat (seq rest more)) (flat rest) (flat more) (lists rest more k)
lists (CallIndirect result x args a rest) more k = behind (map op.Argument args) (op.CallIndirect result x a) (flat (seq rest more)) (flat rest) (flat more) (lists rest more k)
