use Rattle.mo_coding.proofs.Numbers.{shortest_is, signed_is}
use Rattle.mo_coding.proofs.laws.numbers_are_spelled.Goals as goal

pub returns-clause-unsigned : goal.returns-clause-unsigned
returns-clause-unsigned c = λ n. shortest_is n

pub returns-clause-signed : goal.returns-clause-signed
returns-clause-signed c = λ n. signed_is n
