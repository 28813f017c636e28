use Rattle.std.proofs.Common.{refl}
use Rattle.std.specs.Str.{is_utf8, chars}
use Rattle.std.specs.Fmt.{digits}
use lib.Utf8.{encode}
use Rattle.mo_types.specs.Layout.{layout}
use Rattle.elaboration.proofs.rows.weights_are_within.Goals as goal

pub returns : goal.returns
unfolding is_utf8 chars encode digits layout
returns c = refl
