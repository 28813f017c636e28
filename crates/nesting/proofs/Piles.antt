-- No more stands open where less counts.
use Rattle.std.proofs.Common.{◌≤◌, ℕ, arith}
use Rattle.typed_tree.specs.Language.{Exp, Exps, Cases, Val, Name, Do, If, Switch, Group, Frame, Label, While, Repeat, For, Try, Update, NoExp, AnExp, NoCase, ACase}
use Rattle.nesting.specs.Laws.{PartsPileLess}
use Rattle.nesting.specs.Shapes.{pile, pile_all, pile_cases}

module _ (i j : ℕ) (h : i ≤ 1) (l : j ≤ 1) where
  mutual
    less : (e : Exp) → pile i j e ≤ pile 1 1 e
    less (Val v) = omega arith
    less (Name x) = omega arith
    less (Do a es) = less_all es
    less (If c a b) = omega (arith, h, less c, less a, less b)
    less (Switch e cases) = omega (arith, h, less e, less_cases cases)
    less (Group fns b) = less b
    less (Frame n e) = less e
    less (Label e) = omega (arith, l, less e)
    less (While c b) = omega (arith, less c, less b)
    less (Repeat b c) = omega (arith, less b, less c)
    less (For p e b) = omega (arith, h, less e, less b)
    less (Try e p b) = omega (arith, h, l, less e, less b)
    less (Update o e f) = omega (arith, less e, less f)

    less_all : (es : Exps) → pile_all i j es ≤ pile_all 1 1 es
    less_all NoExp = omega arith
    less_all (AnExp e es) = omega (arith, less e, less_all es)

    less_cases : (cases : Cases) → pile_cases i j cases ≤ pile_cases 1 1 cases
    less_cases NoCase = omega arith
    less_cases (ACase p e cases) = omega (arith, less e, less_cases cases)

pub parts_pile_less : PartsPileLess
parts_pile_less i j h l e = less i j h l e
