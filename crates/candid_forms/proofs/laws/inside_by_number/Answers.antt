use Rattle.mo_types.specs.Graph.{head_at}
use Rattle.mo_types.specs.Wire.{wire}
use Rattle.mo_types.specs.Spelling.{FewEmpty, padded}
use Rattle.candid_forms.proofs.ByNumber.{inside_same}
use Rattle.candid_forms.proofs.laws.inside_by_number.Goals as goal

pub returns : goal.returns
returns c = λ slots shapes of part bytes table h. inside_same padded (FewEmpty (wire (head_at slots))) slots shapes table of part bytes h
