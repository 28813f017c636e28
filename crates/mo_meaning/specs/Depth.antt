-- How deep an expression stands: 16 and its nodes for each body that was entered and not left. All of them stand around the
-- leftmost place.
use Rattle.std.specs.Int.{div_ceil}
use Rattle.std.specs.Prelude.{ℕ, ◌+◌}
use Rattle.typed_tree.specs.Language.{Exp, Exps, Do, If, Switch, Frame, Label, For, Try, Update, NoExp, AnExp}

-- a body with so many nodes as levels of a value, of which each is as deep as a body without nodes
abbrev pub levels_of_body : ℕ → ℕ
levels_of_body nodes = 1 + div_ceil nodes 16

abbrev mutual
  pub live : Exp → ℕ
  live (Frame n e) = 16 + n + live e
  live (Do a es) = live_all es
  live (If c a b) = live c
  live (Switch e cases) = live e
  live (Label e) = live e
  live (For p e b) = live e
  live (Try e p b) = live e
  live (Update o e f) = live e
  live _ = 0

  pub live_all : Exps → ℕ
  live_all NoExp = 0
  live_all (AnExp e es) = live e + live_all es
