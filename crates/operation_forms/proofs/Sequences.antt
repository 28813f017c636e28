-- Code with more behind it.
use Rattle.std.proofs.Common.{Some, None}
use Rattle.low_ir.specs.Tree as tree
use Rattle.low_ir.specs.Tree.{Stop, Return, Branch, Set, SetGlobal, Grow, GrowStable, Block, Loop, If, BranchIf, Call, CallIndirect}
use Rattle.operation_forms.specs.Laws.{SequencesAreFormed}

pub sequences_formed : SequencesAreFormed
sequences_formed m locals results labels owed Stop more p q = q
sequences_formed m locals results labels owed (Return None) more p q = p
sequences_formed m locals results labels owed (Return (Some a)) more p q = p
sequences_formed m locals results labels owed (Branch label) more p q = p
sequences_formed m locals results labels owed (tree.Trap a b) more p q = p
sequences_formed m locals results labels owed (Set x o rest) more p q = (p.0, p.1, p.2, sequences_formed m locals results labels owed rest more p.3 q)
sequences_formed m locals results labels owed (SetGlobal x a rest) more p q = (p.0, p.1, p.2, sequences_formed m locals results labels owed rest more p.3 q)
sequences_formed m locals results labels owed (tree.Store kind a offset b rest) more p q = (p.0, p.1, p.2, sequences_formed m locals results labels owed rest more p.3 q)
sequences_formed m locals results labels owed (Grow a rest) more p q = (p.0, sequences_formed m locals results labels owed rest more p.1 q)
sequences_formed m locals results labels owed (GrowStable a rest) more p q = (p.0, sequences_formed m locals results labels owed rest more p.1 q)
sequences_formed m locals results labels owed (Block body rest) more p q = (p.0, sequences_formed m locals results labels owed rest more p.1 q)
sequences_formed m locals results labels owed (Loop body rest) more p q = (p.0, sequences_formed m locals results labels owed rest more p.1 q)
sequences_formed m locals results labels owed (If a first second rest) more p q = (p.0, p.1, p.2, sequences_formed m locals results labels owed rest more p.3 q)
sequences_formed m locals results labels owed (BranchIf a label rest) more p q = (p.0, p.1, sequences_formed m locals results labels owed rest more p.2 q)
sequences_formed m locals results labels owed (Call result f args rest) more p q = (p.0, sequences_formed m locals results labels owed rest more p.1 q)
sequences_formed m locals results labels owed (CallIndirect result x args a rest) more p q = (p.0, p.1, sequences_formed m locals results labels owed rest more p.2 q)
