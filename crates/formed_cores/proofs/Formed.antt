-- A body that is named and within its measures is formed.
use Rattle.std.proofs.Common.{ℕ, suc, List, [], ◌∷◌, length, Bool, true, false}
use Rattle.std.specs.List.{AllByRecursion}
use Rattle.core_ir.specs.Expressions.{Body, Core}
use Rattle.core_ir.specs.Formed.{FormedCoreBody, FormedCoreGroups, PaidCoreGroups, size_at}
use Rattle.core_ir.specs.Nested.{NestedMethods}
use Rattle.core_ir.specs.Programs.{Group, Method}
use Rattle.core_measures.specs.Within.{WithinBody, AllWithin, GroupsWithin, MethodsWithin}
use Rattle.elaboration_names.specs.Names.{NamedBody, NamedGroups}
use Rattle.formed_cores.specs.Laws.{NamedProgramsWithinMeasuresAreFormed}

module _ (own : ℕ) (p : Core) where
  abbrev Fits : Body → Type 0
  Fits b = WithinBody (size_at p.groups) b

  body : (bound : ℕ) (shared : Bool) (size seen : ℕ) (b : Body) → NamedBody own p bound shared size seen b → Fits b → FormedCoreBody own p bound shared size seen b
  body bound shared size seen b h w = record { names = h; frame = w.frame }

  bodies : (bound size seen : ℕ) (bs : List Body) → AllByRecursion (λ b. NamedBody own p bound false size seen b) bs → AllWithin (size_at p.groups) bs → AllByRecursion (λ b. FormedCoreBody own p bound false size seen b) bs
  bodies bound size seen [] h w = tt
  bodies bound size seen (b ∷ bs) h w = (body bound false size seen b h.0 w.0, bodies bound size seen bs h.1 w.1)

  groups : (n : ℕ) (gs : List (Group Body)) → NamedGroups own p n gs → GroupsWithin (size_at p.groups) gs → FormedCoreGroups own p n gs
  groups n [] h w = tt
  groups n (g ∷ gs) h w = (bodies n (length g.bodies) g.sees g.bodies h.0 w.0, groups (suc n) gs h.1 w.1)

  methods : (bound : ℕ) (ms : List (Method Body)) → AllByRecursion (λ (m : Method Body). NamedBody own p bound true 0 0 m.body) ms → MethodsWithin (size_at p.groups) ms
      → AllByRecursion (λ (m : Method Body). FormedCoreBody own p bound true 0 0 m.body) ms
  methods bound [] h w = tt
  methods bound (m ∷ ms) h w = (body bound true 0 0 m.body h.0 w.0.within, methods bound ms h.1 w.1)

  nested_methods : (ms : List (Method Body)) → MethodsWithin (size_at p.groups) ms → NestedMethods ms
  nested_methods [] w = tt
  nested_methods (m ∷ ms) w = (w.0.nested, nested_methods ms w.1)

  -- what groups pay has nothing to do with the names of the actor
  paid : (needs : List (List ℕ)) (gs : List (Group Body)) → PaidCoreGroups 0 p needs gs → PaidCoreGroups own p needs gs
  paid needs [] h = tt
  paid [] (g ∷ gs) h = (h.0, paid [] gs h.1)
  paid (ns ∷ needs) (g ∷ gs) h = (h.0, paid needs gs h.1)

pub named_programs_within_measures_are_formed : NamedProgramsWithinMeasuresAreFormed
named_programs_within_measures_are_formed own p n m w = record {
  groups = groups own p 0 p.groups n.groups w.bodies.groups;
  nested = record { methods = nested_methods own p p.methods w.bodies.methods; save = w.bodies.save.nested; start = w.bodies.start.nested };
  paid = paid own p _ p.groups w.paid;
  methods = methods own p (length p.groups) p.methods n.methods w.bodies.methods;
  save = body own p (length p.groups) false 0 0 p.save n.save w.bodies.save.within;
  start = body own p (length p.groups) false 0 0 p.start n.start w.bodies.start.within;
  named = m;
  few = w.few;
}
