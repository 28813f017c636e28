-- What an elaborated program names is there: names, labels, groups and names of the actor, and its actions have their operands.
use Rattle.std.specs.Prelude.{ℕ, suc, ◌+◌, Bool, true, false, List, [], ◌∷◌, length}
use Rattle.std.specs.List.{AllByRecursion}
use Rattle.core_ir.specs.Programs.{Group, Method}
use Rattle.core_ir.specs.Expressions.{Body, Core}
use Rattle.core_ir.specs.Formed.{size_at, sees_at, global_count}
use Rattle.core_ir.specs.FormedExpressions.{FormedExp}
use Rattle.typed_tree.specs.Programs.{Program}
use Rattle.elaboration.specs.Programs.{elaborated}
use Rattle.elaboration_formed.specs.Arities.{Shaped}
use Rattle.elaboration_starts.specs.Starts.{ActorStands}

-- all that `FormedCore` asks of bodies but its measures, of an actor with so many own names
module _ (own : ℕ) (p : Core) where
  abbrev pub NamedBody : (bound : ℕ) → (shared : Bool) → (size seen : ℕ) → Body → Type 0
  NamedBody bound shared size seen b = FormedExp (size_at p.groups) (sees_at p.groups) (global_count p own) bound shared (b.parameters + (size + seen)) 0 b.expression

  -- each group makes those before it alone
  abbrev pub NamedGroups : ℕ → List (Group Body) → Type 0
  NamedGroups n [] = Unit {0}
  NamedGroups n (g ∷ gs) = AllByRecursion (λ b. NamedBody n false (length g.bodies) g.sees b) g.bodies × NamedGroups (suc n) gs

  pub record NamedCore : Type 0 where
    pub groups : NamedGroups 0 p.groups
    pub methods : AllByRecursion (λ (m : Method Body). NamedBody (length p.groups) true 0 0 m.body) p.methods
    pub save : NamedBody (length p.groups) false 0 0 p.save
    pub start : NamedBody (length p.groups) false 0 0 p.start

abbrev pub ProgramsAreNamed : Type 0
ProgramsAreNamed = (p : Program) (a : ActorStands p) → Shaped p.body → NamedCore a.total (elaborated p)
