-- The types of nodes, by evaluation.
use Rattle.std.proofs.Common.{refl}
use Rattle.std.specs.Str.{chars, is_utf8}
use Rattle.mo_subtype.specs.Questions.{questions}
use Rattle.mo_types.specs.Layout.{layout}
use Rattle.typing_rules.specs.Heads.{head, members_head}
use Rattle.typing_rules.specs.NodeRows.{AreMade, node_types}
use Rattle.typing_rules.proofs.Confirmed.{checked}

pub node_types_made : AreMade node_types
unfolding head members_head questions chars is_utf8 layout lib.Utf8.encode
node_types_made = (checked _ refl, (checked _ refl, (checked _ refl, (checked _ refl, tt))))
