-- The counter, by evaluation.
use Rattle.std.proofs.Common.{[], None, Result, Ok, Err, refl}
use Rattle.std.specs.Str.{chars, is_utf8}
use Rattle.mo_types.specs.Layout.{layout}
use Rattle.mo_subtype.specs.Questions.{questions}
use Rattle.typed_tree.specs.Examples.{counter_types}
use Rattle.typing_rules.specs.AbstractSyntax.{Program}
use Rattle.typing_rules.specs.AbstractSyntax as p
use Rattle.typing_rules.specs.Answers.{Fault}
use Rattle.typing_rules.specs.Heads.{head, members_head}
use Rattle.typing_rules.specs.TypedTrees.{Note}
use Rattle.typing_rules.proofs.Confirmed.{came, checked}
use Rattle.desugaring.specs.Rows.{Desugars, counter_source, counter_terms, written_counter}

abbrev nothing : Program Note
nothing = record { imports = []; name = None; fields = p.End }

abbrev made_in : Result (Program Note) Fault → Program Note
made_in (Ok made) = made
made_in (Err f) = nothing

pub written_out : Desugars counter_source counter_types counter_terms written_counter
unfolding head members_head questions chars is_utf8 layout lib.Utf8.encode
written_out = (made_in (came counter_source).is, checked counter_source refl, refl)
