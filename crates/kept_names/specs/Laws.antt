-- Lists of declarations, wherever they stand.
use Rattle.std.specs.Prelude.{ℕ, Bool, List, Option, None}
use Rattle.typing_rules.specs.AbstractSyntax.{Declarations}
use Rattle.typing_rules.specs.Contexts.{Context}
use Rattle.typing_rules.specs.Definitions.{Definitions}
use Rattle.typing_rules.specs.Expressions.{JudgeOrder, JudgeBodies}
use Rattle.typing_rules.specs.Lists.{Listed}
use Rattle.typing_rules.specs.Terms.{Term}
use Rattle.desugaring_laws.specs.Yields.{Yields}
use Rattle.kept_names.specs.Keeping.{ListKept}

-- What is given of a list that is judged has the names of the list.
abbrev pub ListsAreKept : Type 0
ListsAreKept =
    (defs : Definitions) (terms : List Term) (e : Context) (at : ℕ) (value : Bool) (ds : Declarations ℕ) (w : Option Term)
    → Yields defs terms (Listed defs e ds (λ known. JudgeOrder defs known at value ds None w) (λ known made. JudgeBodies defs known ds made)) (λ q. ListKept e.values ds q.1)
