use Rattle.mo_types.specs.Spelling.{AnyCount, shortest}
use Rattle.candid_forms.proofs.ByNumber.{numbers_to, numbers_from}
use Rattle.candid_forms.proofs.laws.written_by_number.Goals as goal

pub returns : goal.returns
returns c = λ slots shapes types values bytes table. (λ h. numbers_to shortest AnyCount slots shapes table types values bytes h, λ h. numbers_from shortest AnyCount slots shapes table types values bytes h)
