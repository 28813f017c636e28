use Rattle.std.proofs.Common.{◌<◌, ◌^◌}
use Rattle.mo_num.specs.Leb.{IsLeb}
use Rattle.mo_num.specs.LebRead.{most}
use Rattle.mo_num.proofs.ReadingOnce.{leb_one_value, leb_code, reads_once}
use Rattle.mo_num.proofs.leb_laws.leb_one_answer.Goals as goal

pub returns-clause-value : goal.returns-clause-value
returns-clause-value c = leb_one_value

pub returns-clause-answer : goal.returns-clause-answer
returns-clause-answer c = λ bits bytes x y h k. reads_once IsLeb (λ n. n < 2 ^ bits) (most bits) bytes x y leb_code h k
