-- Where vectors of bytes are allowed.
use Rattle.std.proofs.Common.{ℕ, zero, suc}
use Rattle.mo_types.specs.declared.node.Node.{Node}
use Rattle.mo_types.specs.declared.wire.Plain.TheVariants as plain
use Rattle.mo_types.specs.declared.wire.Ref.TheVariants.{Just}
use Rattle.mo_types.specs.Wire.{wire}
use Rattle.mo_types.specs.Spelling.{EmptyBy, FewEmpty}

-- bytes are not without bytes
pub few_bytes : {A : Type 0} (head : A → Node A) (n : ℕ) → FewEmpty (wire head) n (Just plain.Nat8)
unfolding EmptyBy
few_bytes head n zero h = absurd h
few_bytes head n (suc levels) h = absurd h
