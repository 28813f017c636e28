-- What is known stays while the table grows.
use Rattle.std.proofs.Common.{List, sym, subst}
use Rattle.type_terms.specs.declared.form.Form.{Form}
use Rattle.type_definitions.specs.Tables.{Grows, Later}
use Rattle.type_definitions.specs.Definitions.{Listed}
use Rattle.type_definitions.proofs.Meanings.{later_on}
use Rattle.met_types.specs.States.{State, Goes}
use Rattle.shareable_types.specs.declared.sharing.Sharing.{Sharing}
use Rattle.shareable_types.specs.Settled.{Knows, Settled}
use Rattle.shareable_types.specs.Answers.{Stands}

pub stays : (old new : State) (a : Sharing) → Goes old new → Stands old a → Stands new a
stays old new a goes s = record {
  settled = subst (λ (l : Listed). Settled a.any l a.needed.items new.forms) (sym goes.listed)
      (record {
        valid = λ later h. s.settled.valid later (later_on old.forms new.forms later goes.forms h);
        fixed = λ later h. s.settled.fixed later (later_on old.forms new.forms later goes.forms h);
      });
  knows = subst (λ (l : Listed). Knows a.any l a.needed.items new.forms a.known.items) (sym goes.listed) (λ later h. s.knows later (later_on old.forms new.forms later goes.forms h));
}
