-- Conditions by their names.
use Rattle.std.specs.Prelude.{ℕ, List, codes}
use Rattle.typing_rules.specs.declared.condition.Condition.{Condition}
use Rattle.typing_rules.specs.declared.condition.Condition.TheVariants as condition

-- the bytes of the name
abbrev pub condition_name : Condition → List ℕ
condition_name condition.Mismatch = codes "Mismatch"
condition_name condition.NotFunction = codes "NotFunction"
condition_name condition.NoField = codes "NoField"
condition_name condition.NotArray = codes "NotArray"
condition_name condition.NotTuple = codes "NotTuple"
condition_name condition.NotOption = codes "NotOption"
condition_name condition.BadOperator = codes "BadOperator"
condition_name condition.LiteralRange = codes "LiteralRange"
condition_name condition.NeedsType = codes "NeedsType"
condition_name condition.NotMutable = codes "NotMutable"
condition_name condition.ArgumentCount = codes "ArgumentCount"
condition_name condition.TypeArguments = codes "TypeArguments"
condition_name condition.Bound = codes "Bound"
condition_name condition.NotShared = codes "NotShared"
condition_name condition.AsyncPlace = codes "AsyncPlace"
condition_name condition.StableType = codes "StableType"
condition_name condition.PatternType = codes "PatternType"
condition_name condition.BadDefinition = codes "BadDefinition"
condition_name condition.BadLabel = codes "BadLabel"
condition_name condition.BadPrincipal = codes "BadPrincipal"
condition_name condition.Branches = codes "Branches"
condition_name condition.TooManyTypes = codes "TooManyTypes"
condition_name condition.TooManyNodes = codes "TooManyNodes"
condition_name condition.NotActor = codes "NotActor"
condition_name condition.NotIterable = codes "NotIterable"
condition_name condition.BangPlace = codes "BangPlace"
