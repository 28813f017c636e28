use Rattle.mo_types.specs.Wire.{refs, wire}
use Rattle.candid_laws.proofs.Unique as unique
use Rattle.candid_laws.proofs.header.one_header.Goals as goal

pub returns : goal.returns
returns c = record {
  order = λ head types order other v w. unique.one_order (wire head) (refs types) order other v w;
  bytes = λ head types bytes other h k. unique.one_header (wire head) (refs types) bytes other h k;
}
