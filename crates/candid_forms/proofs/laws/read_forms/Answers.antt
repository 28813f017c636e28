use Rattle.mo_types.specs.Wire.{wire}
use Rattle.mo_types.specs.Spelling.{FewEmpty, padded}
use Rattle.candid_forms.proofs.Few.{few_bytes}
use Rattle.candid_forms.proofs.Whole.{forms_to, forms_from}
use Rattle.candid_forms.proofs.laws.read_forms.Goals as goal

pub returns : goal.returns
returns c = record {
  typed = λ head types values bytes h. (forms_to padded (FewEmpty (wire head)) head (λ n. few_bytes head n) types values bytes h).0;
  spelled = λ head types values bytes h. (forms_to padded (FewEmpty (wire head)) head (λ n. few_bytes head n) types values bytes h).1;
  back = λ head types values bytes t h. forms_from padded (FewEmpty (wire head)) head types values bytes t h;
}
