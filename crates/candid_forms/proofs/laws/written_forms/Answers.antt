use Rattle.mo_types.specs.Spelling.{AnyCount, shortest}
use Rattle.candid_forms.proofs.Whole.{forms_to, forms_from}
use Rattle.candid_forms.proofs.laws.written_forms.Goals as goal

pub returns : goal.returns
returns c = record {
  typed = λ head types values bytes h. (forms_to shortest AnyCount head (λ n. tt) types values bytes h).0;
  spelled = λ head types values bytes h. (forms_to shortest AnyCount head (λ n. tt) types values bytes h).1;
  back = λ head types values bytes t h. forms_from shortest AnyCount head types values bytes t h;
}
