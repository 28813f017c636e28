-- Types that stand in the table, whether they are met or not.
use Rattle.type_terms.specs.declared.form.TermId.{TermId}
use Rattle.type_definitions.specs.Tables.{Within}
use Rattle.met_types.specs.States.{State}

abbrev pub is_within : State → TermId → Type 0
is_within s id = Within s.forms id
