-- Expressions whose names are bound: each name stands between the expression and so many names around it.
use Rattle.std.specs.Prelude.{ℕ, ◌+◌, ◌<◌}
use Rattle.typed_tree.specs.Language.{Exp, Exps, Cases, Functions, Val, Name, Do, If, Switch, Group, Frame, Label, While, Repeat, For, Try, Update, NoExp, AnExp, NoCase, ACase, NoFunction, AFunction}
use Rattle.typed_tree.specs.Patterns.{names, names_all}
use Rattle.typed_tree.specs.Substitution.{count}

abbrev mutual
  pub Scoped : ℕ → Exp → Type 0
  Scoped n (Val v) = Unit {0}
  Scoped n (Name x) = x < n
  Scoped n (Do a es) = ScopedAll n es
  Scoped n (If c a b) = Scoped n c × Scoped n a × Scoped n b
  Scoped n (Switch e cases) = Scoped n e × ScopedCases n cases
  Scoped n (Group fns b) = ScopedFunctions (count fns + n) fns × Scoped (count fns + n) b
  Scoped n (Frame nodes e) = Scoped n e
  Scoped n (Label e) = Scoped n e
  Scoped n (While c b) = Scoped n c × Scoped n b
  Scoped n (Repeat b c) = Scoped n b × Scoped n c
  Scoped n (For p e b) = Scoped n e × Scoped (names p + n) b
  Scoped n (Try e p b) = Scoped n e × Scoped (names p + n) b
  Scoped n (Update o e f) = Scoped n e × Scoped n f

  pub ScopedAll : ℕ → Exps → Type 0
  ScopedAll n NoExp = Unit {0}
  ScopedAll n (AnExp e es) = Scoped n e × ScopedAll n es

  pub ScopedCases : ℕ → Cases → Type 0
  ScopedCases n NoCase = Unit {0}
  ScopedCases n (ACase p e cases) = Scoped (names p + n) e × ScopedCases n cases

  pub ScopedFunctions : ℕ → Functions → Type 0
  ScopedFunctions n NoFunction = Unit {0}
  ScopedFunctions n (AFunction how nodes ps body fns) = Scoped (names_all ps + n) body × ScopedFunctions n fns
