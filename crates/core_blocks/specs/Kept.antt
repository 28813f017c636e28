-- What was kept of stable variables.
use Rattle.std.specs.Prelude.{ℕ, suc}
use Rattle.core_ir.specs.declared.primitive.Constructor.TheVariants as constructor
use Rattle.core_ir.specs.Expressions.{Exp, Label}
use Rattle.elaboration.specs.Checks.{IsNull, Opens, around, fails}
use Rattle.elaboration.specs.Elaboration.{break_with}
use Rattle.elaboration.specs.Members.{let_in}
use Rattle.elaboration.specs.Scopes.{name, nothing}

-- what was kept, which is the name of this level, or else the value; the first case and the second one stand under so many names
abbrev pub chosen : (level first second : ℕ) → Exp → Exp → Exp
chosen level first second kept value =
    let_in kept (Label
    (let_in (around (IsNull (name first level)) nothing (break_with value))
    (let_in (around (Opens constructor.Present (name second level)) nothing (break_with (name (suc second) second)))
    fails)))
