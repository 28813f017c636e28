-- The writing of an expression or declaration in another.
use Rattle.mo_syntax.specs.Writing.{Writing}
use Rattle.mo_syntax.specs.ExpressionGrammar.{expression_tokens, declaration_tokens}
use Rattle.mo_tokens.specs.declared.part.Part.{Part}
use Rattle.mo_tokens.specs.declared.part.Part.TheVariants as part

abbrev pub part_tokens : Part → Writing
part_tokens (part.Expression a) = expression_tokens a.now
part_tokens (part.Declaration x) = declaration_tokens x.now
