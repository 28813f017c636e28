-- The bodies of methods, one after another.
use Rattle.std.specs.Prelude.{◌≡◌, List, [], ◌∷◌}
use Rattle.core_ir.specs.declared.expression.CoreBody.{CoreBody}
use Rattle.core_ir.specs.Expressions.{Body}
use Rattle.core_ir.specs.View.{core_body}
use Rattle.elaboration.specs.Programs.{resume_body}

-- the body of the next method, and those of the others
abbrev pub next_of : List Body → Body
next_of [] = resume_body
next_of (b ∷ bs) = b

abbrev pub others_of : List Body → List Body
others_of [] = []
others_of (b ∷ bs) = bs

-- the next one is taken away
pub record Takes (before : List Body) (taken : CoreBody) (others : List Body) : Type 0 where
  pub body : core_body taken ≡ next_of before
  pub left : others ≡ others_of before
