use Rattle.mo_num.proofs.TextLaws.{text_some}
use Rattle.mo_num.proofs.principal_laws.principal_text_some.Goals as goal

pub returns : goal.returns
returns c = text_some
