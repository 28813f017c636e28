use Rattle.mo_types.specs.Graph.{head_at}
use Rattle.mo_types.specs.Wire.{wire}
use Rattle.mo_types.specs.Spelling.{FewEmpty, padded}
use Rattle.candid_forms.proofs.ByNumber.{numbers_to, numbers_from}
use Rattle.candid_forms.proofs.laws.read_by_number.Goals as goal

pub returns : goal.returns
returns c = λ slots shapes types values bytes table. (λ h. numbers_to padded (FewEmpty (wire (head_at slots))) slots shapes table types values bytes h, λ h. numbers_from padded (FewEmpty (wire (head_at slots))) slots shapes table types values bytes h)
