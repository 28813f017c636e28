use Rattle.type_definitions.proofs.Meanings.{term_is, term_stays}
use Rattle.type_definitions.proofs.laws.tables_keep_terms.Goals as goal

pub returns-clause-forms : goal.returns-clause-forms
returns-clause-forms c = term_is

pub returns-clause-stay : goal.returns-clause-stay
returns-clause-stay c = term_stays
