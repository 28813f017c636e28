use Rattle.std.proofs.Common.{◌∙◌}
use Rattle.value_scopes.specs.Values.{noted}
use Rattle.met_types.specs.States.{State}
use Rattle.kernel_pieces.proofs.Grouped.{grouped_all}
use Rattle.kernel_pieces.proofs.groups.placed.Goals as goal

pub returns : goal.returns
returns c = λ (s : State). grouped_all s c.args.declarations.now c.as_slice.result.now c.groups_of.result (c.as_slice.ensures ∙ c.in_ok-places.ensures (noted s.forms)) c.groups_of.ensures
