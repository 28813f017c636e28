-- Literals that are operands, as the code has them.
use Rattle.std.specs.Prelude.{ℕ, pos, Option, Some, None}
use Rattle.mo_num.specs.declared.kind.Kind.TheVariants as kind
use Rattle.typing_rules.specs.AbstractSyntax.{Literal}
use Rattle.typing_rules.specs.AbstractSyntax as p
use Rattle.typing_rules.specs.Literals.{Written, WrittenNumber, WrittenText}
use Rattle.operand_rules.specs.declared.literals.Written as value
use Rattle.operand_rules.specs.declared.literals.Written.TheVariants as written

abbrev pub seen_written : value.Written → Written
seen_written (written.Number k n) = WrittenNumber k n
seen_written (written.Text x) = WrittenText x.now

-- the number that a literal is
abbrev pub number_in : Literal → Option ℕ
number_in (p.Number n) = Some n
number_in _ = None

-- the operand that a literal without a sign is
abbrev pub literal_in : Literal → Option Written
literal_in (p.Number n) = Some (WrittenNumber kind.Nat (pos n))
literal_in (p.Text x) = Some (WrittenText x)
literal_in _ = None
