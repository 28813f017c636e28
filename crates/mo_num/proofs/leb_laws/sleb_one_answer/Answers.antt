use Rattle.mo_num.specs.LebRead.{IsSigned}
use Rattle.mo_num.specs.Leb.{IsSleb}
use Rattle.mo_num.specs.LebRead.{most}
use Rattle.mo_num.proofs.ReadingOnce.{sleb_one_value, sleb_code, reads_once}
use Rattle.mo_num.proofs.leb_laws.sleb_one_answer.Goals as goal

pub returns-clause-value : goal.returns-clause-value
returns-clause-value c = sleb_one_value

pub returns-clause-answer : goal.returns-clause-answer
returns-clause-answer c = λ bits bytes x y h k. reads_once IsSleb (λ n. IsSigned bits n) (most bits) bytes x y sleb_code h k
