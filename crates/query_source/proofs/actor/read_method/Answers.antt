use Rattle.query_source.proofs.Parts.{no_head, no_name_there, no_type_there, no_number_there, no_close_there, method_there}
use Rattle.query_source.proofs.actor.read_method.Goals as goal

pub returns-in_default-clause-none : goal.returns-in_default-clause-none
returns-in_default-clause-none c = no_head _ c.in_default.ensures.none

pub returns-in_default-read_name-clause-none : goal.returns-in_default-read_name-clause-none
returns-in_default-read_name-clause-none c = no_name_there _ _ c.in-Some.ensures.some c.in_default-read_name.ensures.none

pub returns-in_default-expect_all-clause-none : goal.returns-in_default-expect_all-clause-none
returns-in_default-expect_all-clause-none c = no_type_there _ _ _ _ c.in-Some.ensures.some c.in-Some-read_name.ensures.some c.in_default-expect_all.ensures.none

pub returns-in_default-read_number-clause-none : goal.returns-in_default-read_number-clause-none
returns-in_default-read_number-clause-none c =
    no_number_there _ _ _ _ _ c.in-Some.ensures.some c.in-Some-read_name.ensures.some c.in-Some-expect_all.ensures.some c.in_default-read_number.ensures.none

pub returns-in-Some-expect-clause-some : goal.returns-in-Some-expect-clause-some
returns-in-Some-expect-clause-some c =
    method_there _ _ _ _ _ _ _ _ c.in-Some.ensures.some c.in-Some-read_name.ensures.some c.in-Some-expect_all.ensures.some c.in-Some-read_number.ensures.some c.in-Some-expect.ensures.some

pub returns-in-None-clause-none : goal.returns-in-None-clause-none
returns-in-None-clause-none c =
    no_close_there _ _ _ _ _ _ _ c.in-Some.ensures.some c.in-Some-read_name.ensures.some c.in-Some-expect_all.ensures.some c.in-Some-read_number.ensures.some c.in-None.ensures.none
