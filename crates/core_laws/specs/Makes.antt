-- Programs of nested expressions whose groups make groups before them alone.
use Rattle.std.specs.Prelude.{ℕ, suc, ◌<◌, List, [], ◌∷◌}
use Rattle.core_ir.specs.Programs.{Group}
use Rattle.core_ir.specs.Expressions as tree
use Rattle.core_ir.specs.Expressions.{Exp, Constant?, Name, Do, Functions, Try, Exps, NoExp, AnExp, Goal, Choose, Bind, Body, Core}

-- the expression makes groups of these numbers alone
module _ (Fits : ℕ → Type 0) where
  abbrev mutual
    pub Makes : Exp → Type 0
    Makes (Constant? k) = Unit {0}
    Makes (Name x) = Unit {0}
    Makes (tree.Global i) = Unit {0}
    Makes (Do goal es) = MakesGoal goal × MakesAll es
    Makes (Functions k b) = Fits k × Makes b
    Makes (tree.Loop b) = Makes b
    Makes (tree.Label b) = Makes b
    Makes (Try a b) = Makes a × Makes b

    pub MakesAll : Exps → Type 0
    MakesAll NoExp = Unit {0}
    MakesAll (AnExp e es) = Makes e × MakesAll es

    pub MakesGoal : Goal → Type 0
    MakesGoal (Choose p a b) = Makes a × Makes b
    MakesGoal (tree.Match k a b) = Makes a × Makes b
    MakesGoal (Bind b) = Makes b
    MakesGoal g = Unit {0}

abbrev pub MakesBodies : ℕ → List Body → Type 0
MakesBodies n [] = Unit {0}
MakesBodies n (b ∷ bs) = Makes (λ k. k < n) b.expression × MakesBodies n bs

-- the first of these groups is the n-th one
abbrev pub MakesGroups : ℕ → List (Group Body) → Type 0
MakesGroups n [] = Unit {0}
MakesGroups n (g ∷ gs) = MakesBodies n g.bodies × MakesGroups (suc n) gs

abbrev pub MakesEarlier : Core → Type 0
MakesEarlier p = MakesGroups 0 p.groups
