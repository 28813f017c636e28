use Rattle.mo_types.proofs.Messages.{letter_kept}
use Rattle.mo_types.proofs.candid_laws.a_character_is_kept.Goals as goal

pub returns : goal.returns
returns c = letter_kept
