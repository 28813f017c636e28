use Rattle.std.proofs.Common.{◌≡◌, ◌∙◌}
use Rattle.std.specs.Str.{IsValidUpTo, valid_up_to}
use Rattle.operand_rules.proofs.Texts.{valid_text}
use Rattle.operand_rules.proofs.literals.is_text.Goals as goal

pub returns : goal.returns
returns c = c.is_ok.ensures.value ∙ valid_text (λ s. s.now ≡ c.args.bytes.now) (λ e. IsValidUpTo c.args.bytes.now (valid_up_to e)) c.args.bytes.now c.from_utf8.result c.from_utf8.ensures.cases
