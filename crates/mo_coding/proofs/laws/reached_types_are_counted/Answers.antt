use Rattle.mo_coding.proofs.Extents.{extent_is, extends}
use Rattle.mo_coding.proofs.laws.reached_types_are_counted.Goals as goal

pub returns-clause-is : goal.returns-clause-is
returns-clause-is c = λ slots types. extent_is slots types

pub returns-clause-only : goal.returns-clause-only
returns-clause-only c = λ slots types n h. extends slots types n h
