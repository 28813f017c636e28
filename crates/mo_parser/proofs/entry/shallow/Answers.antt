use Rattle.mo_parser_base.specs.Input.{kinds}
use Rattle.mo_parser.proofs.Answered.{is_none, is_spelled}
use Rattle.mo_parser.proofs.entry.shallow.Goals as goal

pub returns-in-Ok : goal.returns-in-Ok
returns-in-Ok c = is_spelled (kinds c.args.tokens.now) c.new-cursor.result c.in-Ok.tree c.program.new.tokens c.new-cursor.ensures c.in-Ok.ensures

pub returns-in-Err-Refused : goal.returns-in-Err-Refused
returns-in-Err-Refused c = (is_none (kinds c.args.tokens.now) c.new-cursor.result c.new-cursor.ensures (c.in-Err-Refused.ensures (λ u. cc)), c.place_of.ensures)
