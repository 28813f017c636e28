use Rattle.std.proofs.Common.{ap, ◌∙◌, take}
use Rattle.std.specs.List.{list_all}
use Rattle.mo_syntax.specs.Characters.{is_name_byte}
use Rattle.mo_lexer.proofs.Names.{run_found}
use Rattle.mo_lexer.proofs.name.begins_identifier.Goals as goal

pub is_identifier-requires : goal.is_identifier-requires
is_identifier-requires c = ap (λ k. list_all is_name_byte (take k c.args.text.now)) c.run_len-len.ensures.value ∙ (run_found is_name_byte c.args.text.now).passes
