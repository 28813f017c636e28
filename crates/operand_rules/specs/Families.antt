-- Families of operators as the code has them.
use Rattle.typing_rules.specs.Operators.{Family}
use Rattle.typing_rules.specs.Operators as rules
use Rattle.operand_rules.specs.declared.families.Family as value
use Rattle.operand_rules.specs.declared.families.Family.TheVariants as families

abbrev pub family_in : value.Family → Family
family_in families.Arithmetic = rules.Arithmetic
family_in families.Wrapping = rules.Wrapping
family_in families.Concatenation = rules.Concatenation
family_in families.Equality = rules.Equality
family_in families.Ordering = rules.Ordering
family_in families.Logical = rules.Logical
