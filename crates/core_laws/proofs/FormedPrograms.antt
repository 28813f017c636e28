-- Programs that are formed nest as the laws ask, and their groups make groups before them alone.
use Rattle.std.proofs.Common.{ℕ, suc, ◌+◌, ◌<◌, List, [], ◌∷◌, length, Bool, true, false}
use Rattle.std.specs.List.{AllByRecursion}
use Rattle.core_ir.specs.Programs.{Group, Method}
use Rattle.core_ir.specs.Expressions as core
use Rattle.core_ir.specs.Expressions.{Exp, Constant?, Name, Do, Functions, Try, Exps, NoExp, AnExp, Goal, Operate, Choose, Bind, Throw, Await, Break, Body, Core}
use Rattle.core_ir.specs.FormedExpressions.{count, FormedExp, FormedAll, FormedGoal}
use Rattle.core_ir.specs.Formed.{FormedCoreBody, FormedCoreGroups}
use Rattle.core_laws.specs.Laws.{FormedQualify}
use Rattle.core_laws.specs.Makes.{Makes, MakesAll, MakesGoal, MakesBodies, MakesGroups}

module _ (sizes sees : ℕ → ℕ) (globals bound : ℕ) (shared : Bool) where
  abbrev Under : ℕ → Type 0
  Under k = k < bound

  mutual
    makes : (names labels : ℕ) (e : Exp) → FormedExp sizes sees globals bound shared names labels e → Makes Under e
    makes names labels (Constant? c) h = tt
    makes names labels (Name x) h = tt
    makes names labels (core.Global i) h = tt
    makes names labels (Do goal es) h = (makes_goal names labels goal (count es) (h.0), makes_all names labels es (h.1))
    makes names labels (Functions k b) h = (h.0, makes (sizes k + names) labels b (h.2))
    makes names labels (core.Loop b) h = makes names labels b h
    makes names labels (core.Label b) h = makes names (suc labels) b h
    makes names labels (Try a b) h = (makes names labels a (h.1), makes (suc names) labels b (h.2))

    makes_all : (names labels : ℕ) (es : Exps) → FormedAll sizes sees globals bound shared names labels es → MakesAll Under es
    makes_all names labels NoExp h = tt
    makes_all names labels (AnExp e es) h = (makes names labels e (h.0), makes_all names labels es (h.1))

    makes_goal : (names labels : ℕ) (g : Goal) (n : ℕ) → FormedGoal sizes sees globals bound shared names labels g n → MakesGoal Under g
    makes_goal names labels (Operate p) n h = tt
    makes_goal names labels (Choose p a b) n h = (makes names labels a (h.2), makes names labels b (h.3))
    makes_goal names labels (core.Match k a b) n h = (makes (suc names) labels a (h.1), makes names labels b (h.2))
    makes_goal names labels (Bind b) n h = makes (suc names) labels b (h.1)
    makes_goal names labels core.Call n h = tt
    makes_goal names labels core.Tabulate n h = tt
    makes_goal names labels (core.Send s) n h = tt
    makes_goal names labels Throw n h = tt
    makes_goal names labels Await n h = tt
    makes_goal names labels (Break l) n h = tt
    makes_goal names labels core.Return n h = tt

module _ (own : ℕ) (p : Core) where
  bodies_make : (n size sees : ℕ) (bs : List Body) → AllByRecursion (λ b. FormedCoreBody own p n false size sees b) bs → MakesBodies n bs
  bodies_make n size sees [] h = tt
  bodies_make n size sees (b ∷ bs) h = (makes _ _ _ n false (b.parameters + (size + sees)) 0 b.expression (h.0).names, bodies_make n size sees bs (h.1))

  groups_make : (n : ℕ) (gs : List (Group Body)) → FormedCoreGroups own p n gs → MakesGroups n gs
  groups_make n [] h = tt
  groups_make n (g ∷ gs) h = (bodies_make n (length g.bodies) g.sees g.bodies (h.0), groups_make (suc n) gs (h.1))

pub formed_qualify : FormedQualify
formed_qualify own p h = (
  h.nested,
  groups_make own p 0 p.groups h.groups,
)
