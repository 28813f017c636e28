-- Programs that are formed: what they name is there, within fixed counts. That none of their executions breaks is said of the machines,
-- by `IsSafe`.
use Rattle.std.specs.Prelude.{◌≡◌, ℕ, zero, suc, ◌+◌, ◌*◌, ◌≤◌, ◌≢◌, ⊤, AllPairs, Contains, codes, Bool, true, false, List, [], ◌∷◌, length, map}
use Rattle.std.specs.List.{AllByRecursion}
use Rattle.mo_types.specs.Values.{is_method_name}
use Rattle.core_ir.specs.Programs.{Group, Method, Program}
use Rattle.core_ir.specs.Worlds.{World, Context}
use Rattle.core_ir.specs.Executions.{Entry, Breaks, Stand, Still, Over, Machine, execution}
use Rattle.core_ir.specs.Expressions as tree
use Rattle.core_ir.specs.Expressions.{Core}
use Rattle.core_ir.specs.Code as code
use Rattle.core_ir.specs.Code.{CodeProgram}
use Rattle.core_ir.specs.FormedExpressions as core_form
use Rattle.core_ir.specs.FormedCode as code_form
use Rattle.core_ir.specs.Nested.{Nested}
use Rattle.core_ir.specs.Outward.{distinct, outward_of}

-- no execution from this entry breaks
abbrev pub IsWhole : {S W : Type 0} → Stand S W → Type 0
IsWhole (Still weight depth prints w s) = ⊤
IsWhole (Over weight depth prints w Breaks) = ⊥
IsWhole (Over weight depth prints w end) = ⊤

abbrev pub IsSafe : {S W : Type 0} → Machine S W → Context → World → Entry W → Type 0
IsSafe m context w entry = (n : ℕ) → IsWhole (execution m context n w entry)

-- the most functions and segments of a program together: an expression goes on in a segment of its own behind each place where it waits
abbrev pub most_functions : ℕ
most_functions = 90000

module _ {B : Type 0} where
  abbrev pub size_at : List (Group B) → ℕ → ℕ
  size_at [] k = 0
  size_at (g ∷ gs) zero = length g.bodies
  size_at (g ∷ gs) (suc k) = size_at gs k

  abbrev pub sees_at : List (Group B) → ℕ → ℕ
  sees_at [] k = 0
  sees_at (g ∷ gs) zero = g.sees
  sees_at (g ∷ gs) (suc k) = sees_at gs k

  -- the actor itself, its methods, and so many names of its own
  abbrev pub global_count : Program B → ℕ → ℕ
  global_count p own = suc (length p.methods + own)

  -- of each body, how often it counts
  abbrev pub counted : (B → ℕ) → List B → ℕ
  counted f [] = 0
  counted f (b ∷ bs) = f b + counted f bs

  abbrev pub counted_groups : (B → ℕ) → List (Group B) → ℕ
  counted_groups f [] = 0
  counted_groups f (g ∷ gs) = counted f g.bodies + counted_groups f gs

  abbrev pub counted_program : (B → ℕ) → Program B → ℕ
  counted_program f p = counted_groups f p.groups + (counted f (map (λ m. m.body) p.methods) + (f p.save + f p.start))

  pub record NamedMethods (p : Program B) : Type 0 where
    pub different : AllPairs (λ m n. m ≢ n) (map (λ (m : Method B). m.name) p.methods)
    pub names : AllByRecursion (λ m. is_method_name m.name ≡ true) p.methods
    pub resume : Contains (map (λ (m : Method B). m.name) p.methods) (codes "__resume")

-- ---- nested expressions, of an actor with so many own names

module _ (own : ℕ) (p : Core) where
  abbrev pub FormedCoreBody : ℕ → Bool → ℕ → ℕ → tree.Body → Type 0
  FormedCoreBody bound shared size seen b = core_form.FormedBody (size_at p.groups) (sees_at p.groups) (global_count p own) bound shared size seen b

  abbrev pub FormedCoreGroups : ℕ → List (Group tree.Body) → Type 0
  FormedCoreGroups n [] = ⊤
  FormedCoreGroups n (g ∷ gs) = AllByRecursion (λ b. FormedCoreBody n false (length g.bodies) g.sees b) g.bodies × FormedCoreGroups (suc n) gs

  -- a group that is made pays for its functions and what they name of what it sees
  abbrev pub PaidCoreGroups : List (List ℕ) → List (Group tree.Body) → Type 0
  PaidCoreGroups needs [] = ⊤
  PaidCoreGroups [] (g ∷ gs) = (2 * length g.bodies ≤ 4 * (1 + tree.nodes_of g.bodies)) × PaidCoreGroups [] gs
  PaidCoreGroups (ns ∷ needs) (g ∷ gs) = (2 * length g.bodies + length (distinct ns) ≤ 4 * (1 + tree.nodes_of g.bodies)) × PaidCoreGroups needs gs

  pub record FormedCore : Type 0 where
    pub groups : FormedCoreGroups 0 p.groups
    pub nested : Nested p
    pub paid : PaidCoreGroups (outward_of (size_at p.groups) [] p.groups) p.groups
    pub methods : AllByRecursion (λ m. FormedCoreBody (length p.groups) true 0 0 m.body) p.methods
    pub save : FormedCoreBody (length p.groups) false 0 0 p.save
    pub start : FormedCoreBody (length p.groups) false 0 0 p.start
    pub named : NamedMethods p
    pub few : counted_program (λ b. 1 + core_form.points b.expression) p ≤ most_functions

-- ---- structured code

module _ (own : ℕ) (p : CodeProgram) where
  abbrev pub FormedCodeBody : ℕ → Bool → ℕ → ℕ → code.Body → Type 0
  FormedCodeBody bound shared size seen b = code_form.FormedBody (size_at p.groups) (sees_at p.groups) (global_count p own) bound shared size seen b

  abbrev pub FormedCodeGroups : ℕ → List (Group code.Body) → Type 0
  FormedCodeGroups n [] = ⊤
  FormedCodeGroups n (g ∷ gs) = AllByRecursion (λ b. FormedCodeBody n false (length g.bodies) g.sees b) g.bodies × FormedCodeGroups (suc n) gs

  pub record FormedCode : Type 0 where
    pub groups : FormedCodeGroups 0 p.groups
    pub methods : AllByRecursion (λ m. FormedCodeBody (length p.groups) true 0 0 m.body) p.methods
    pub save : FormedCodeBody (length p.groups) false 0 0 p.save
    pub start : FormedCodeBody (length p.groups) false 0 0 p.start
    pub named : NamedMethods p
    pub few : counted_program (λ b. length b.segments) p ≤ most_functions

-- ---- groups that see what their functions use

-- a group that is made pays for its functions and what they see
abbrev pub PaidGroups : List (Group code.Body) → Type 0
PaidGroups [] = ⊤
PaidGroups (g ∷ gs) = (2 * length g.bodies + g.sees ≤ 4 * (1 + code.nodes_of g.bodies)) × PaidGroups gs

pub record FormedFlat (own : ℕ) (p : CodeProgram) : Type 0 where
  pub code : FormedCode own p
  pub paid : PaidGroups p.groups
