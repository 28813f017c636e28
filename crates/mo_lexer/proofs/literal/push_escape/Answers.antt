use Rattle.std.proofs.Common.{ap, ◌∙◌, ◌++◌}
use Rattle.mo_syntax.specs.Lexed.{character, byte}
use Rattle.mo_lexer.proofs.literal.push_escape.Goals as goal

pub returns-in_ok-extend-in-Scalar-clause-ok : goal.returns-in_ok-extend-in-Scalar-clause-ok
returns-in_ok-extend-in-Scalar-clause-ok c = record {
  escaped = character c.in-Scalar.scalar;
  within = c.in-Scalar.ensures.found.within;
  is_escape = c.in-Scalar.ensures.found.is_escape;
  added = c.in_ok-extend-in-Scalar.ensures.ok ∙ ap (λ l. c.args.bytes.now ++ l) (c.as_bytes.ensures.value ∙ c.encode_utf8.ensures.value);
}

pub returns-in_ok-push-in-Byte-clause-ok : goal.returns-in_ok-push-in-Byte-clause-ok
returns-in_ok-push-in-Byte-clause-ok c = record {
  escaped = byte c.in-Byte.byte;
  within = c.in-Byte.ensures.found.0.within;
  is_escape = c.in-Byte.ensures.found.0.is_escape;
  added = c.in_ok-push-in-Byte.ensures.ok;
}
