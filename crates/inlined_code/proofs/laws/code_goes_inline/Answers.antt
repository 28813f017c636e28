use Rattle.inlined_code.proofs.Inlined.{code_inline}
use Rattle.inlined_code.proofs.laws.code_goes_inline.Goals as goal

pub returns : goal.returns
returns g c = code_inline _
