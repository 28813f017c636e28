use Rattle.std.proofs.Common.{◌≡◌, ◌∙◌}
use Rattle.std.specs.Str.{IsValidUpTo, valid_up_to}
use Rattle.typed_patterns.proofs.Literals.{read_as_text}
use Rattle.typed_patterns.proofs.literal.is_text.Goals as goal

pub returns : goal.returns
returns c = c.is_ok.ensures.value ∙ read_as_text (λ s. s.now ≡ c.args.bytes.now) (λ e. IsValidUpTo c.args.bytes.now (valid_up_to e)) c.args.bytes.now c.from_utf8.result c.from_utf8.ensures.cases
