-- Code that makes groups before a number alone is formed with that bound.
use Rattle.std.proofs.Common.{ℕ, suc, ◌<◌, ◌+◌, Bool, false, List, [], ◌∷◌, length}
use Rattle.std.specs.List.{AllByRecursion}
use Rattle.core_ir.specs.Programs.{Group}
use Rattle.core_ir.specs.Expressions.{Exp, Constant?, Name, Global, Do, Functions, Loop, Label, Try, Exps, NoExp, AnExp, Goal, Operate, Choose, Match, Bind, Call, Tabulate, Send, Throw, Await, Break, Return, Body, Core}
use Rattle.core_ir.specs.Formed.{size_at, sees_at, global_count}
use Rattle.core_ir.specs.FormedExpressions.{count, FormedExp, FormedAll, FormedGoal}
use Rattle.core_laws.specs.Makes.{Makes, MakesAll, MakesGoal, MakesBodies, MakesGroups}
use Rattle.elaboration_formed.specs.Formed.{EachFormed, GroupsFormed}
use Rattle.elaboration_names.specs.Names.{NamedBody, NamedGroups}

module _ (sizes sees : ℕ → ℕ) (globals bound n : ℕ) (shared : Bool) where
  mutual
    earlier : (names labels : ℕ) (e : Exp) → FormedExp sizes sees globals bound shared names labels e → Makes (λ k. k < n) e → FormedExp sizes sees globals n shared names labels e
    earlier names labels (Constant? c) h m = tt
    earlier names labels (Name x) h m = h
    earlier names labels (Global i) h m = h
    earlier names labels (Do goal es) h m = (goal_earlier names labels goal (count es) (h.0) (m.0), all_earlier names labels es (h.1) (m.1))
    earlier names labels (Functions k b) h m = (m.0, h.1, earlier (sizes k + names) labels b (h.2) (m.1))
    earlier names labels (Loop b) h m = earlier names labels b h m
    earlier names labels (Label b) h m = earlier names (suc labels) b h m
    earlier names labels (Try a b) h m = (h.0, earlier names labels a (h.1) (m.0), earlier (suc names) labels b (h.2) (m.1))

    all_earlier : (names labels : ℕ) (es : Exps) → FormedAll sizes sees globals bound shared names labels es → MakesAll (λ k. k < n) es → FormedAll sizes sees globals n shared names labels es
    all_earlier names labels NoExp h m = tt
    all_earlier names labels (AnExp e es) h m = (earlier names labels e (h.0) (m.0), all_earlier names labels es (h.1) (m.1))

    goal_earlier : (names labels : ℕ) (g : Goal) (i : ℕ) → FormedGoal sizes sees globals bound shared names labels g i → MakesGoal (λ k. k < n) g → FormedGoal sizes sees globals n shared names labels g i
    goal_earlier names labels (Operate p) i h m = h
    goal_earlier names labels (Choose p a b) i h m = (h.0, h.1, earlier names labels a (h.2) (m.0), earlier names labels b (h.3) (m.1))
    goal_earlier names labels (Match k a b) i h m = (h.0, earlier (suc names) labels a (h.1) (m.0), earlier names labels b (h.2) (m.1))
    goal_earlier names labels (Bind b) i h m = (h.0, earlier (suc names) labels b (h.1) m)
    goal_earlier names labels Call i h m = h
    goal_earlier names labels Tabulate i h m = h
    goal_earlier names labels (Send s) i h m = h
    goal_earlier names labels Throw i h m = h
    goal_earlier names labels Await i h m = h
    goal_earlier names labels (Break l) i h m = h
    goal_earlier names labels Return i h m = h

module _ (own : ℕ) (p : Core) where
  bodies_named : (n size seen : ℕ) (bs : List Body) → EachFormed (global_count p own) p.groups (size + seen) bs → MakesBodies n bs → AllByRecursion (λ b. NamedBody own p n false size seen b) bs
  bodies_named n size seen [] h m = tt
  bodies_named n size seen (b ∷ bs) h m =
      (earlier (size_at p.groups) (sees_at p.groups) (global_count p own) (length p.groups) n false (b.parameters + (size + seen)) 0 b.expression (h.0) (m.0), bodies_named n size seen bs (h.1) (m.1))

  pub groups_named : (n : ℕ) (gs : List (Group Body)) → GroupsFormed (global_count p own) p.groups gs → MakesGroups n gs → NamedGroups own p n gs
  groups_named n [] h m = tt
  groups_named n (g ∷ gs) h m = (bodies_named n (length g.bodies) g.sees g.bodies (h.0) (m.0), groups_named (suc n) gs (h.1) (m.1))
