-- Whole programs (Motoko language manual, sections "Actors", "Shared functions", "Stable variables", "System functions"). An actor's start
-- evaluates the declarations and gives the values of their names, which its methods read as names of the actor.
use Rattle.std.specs.Prelude.{ℕ, zero, suc, ◌+◌, List, [], ◌∷◌, ◌++◌, ◌-◌, length, map, replicate, take, false, Option, Some, None, slice_get, codes}
use Rattle.mo_types.specs.declared.node.Sort.TheVariants as sort
use Rattle.mo_values.specs.declared.operation.Operation.TheVariants as op
use Rattle.core_ir.specs.declared.primitive.Primitive.TheVariants as primitive
use Rattle.core_ir.specs.Programs as core_program
use Rattle.core_ir.specs.Programs.{Group}
use Rattle.core_ir.specs.Expressions as core
use Rattle.core_ir.specs.Expressions.{NoExp, AnExp, Body, Core}
use Rattle.typed_tree.specs.declared.action.Action.TheVariants as action
use Rattle.typed_tree.specs.Patterns.{Pats}
use Rattle.typed_tree.specs.Language as source
use Rattle.typed_tree.specs.Language.{Exp, Exps, Functions, Switch, NoCase, ACase, NoFunction, AFunction}
use Rattle.typed_tree.specs.Substitution.{count}
use Rattle.typed_tree.specs.Programs.{Program, Method, StableVariable}
use Rattle.elaboration.specs.Scopes.{Place, Local, Own, Nowhere, Scope, one, nothing, at_place, place_or_nowhere, under}
use Rattle.elaboration.specs.Checks.{Checked, around_all, behind, fails}
use Rattle.elaboration.specs.Members.{Elaborated, let_in, does}
use Rattle.elaboration.specs.Elaboration.{BodiesElaborated, elaborate, elaborate_functions, on_nearest, on_parameters, if_true}

-- ---- the names of the actor

-- the actor itself and its methods are known everywhere, with `__resume` behind them; what was kept of the stable variables is among the
-- parameters of the start, before the flag that tells of an upgrade
abbrev pub kept_places : ℕ → List Place
kept_places zero = []
kept_places (suc n) = Local (suc n) ∷ kept_places n

abbrev pub own_from : ℕ → ℕ → List Place
own_from i zero = []
own_from i (suc n) = Own i ∷ own_from (suc i) n

abbrev pub start_scope : (methods kept : ℕ) → Scope
start_scope methods kept = record { places = own_from 0 (suc methods) ++ kept_places kept; names = suc kept; exits = []; labels = 0 }

-- the names of declarations have numbers behind those of the methods, in their order from the nearest on
abbrev pub numbered : ℕ → List Place → List Place
numbered i [] = []
numbered i (Local level ∷ places) = Own i ∷ numbered (suc i) places
numbered i (p ∷ places) = p ∷ numbered i places

-- and these are their values
abbrev pub values_of : ℕ → List Place → core.Exps
values_of names [] = NoExp
values_of names (Local level ∷ places) = AnExp (at_place names (Local level)) (values_of names places)
values_of names (p ∷ places) = values_of names places

-- ---- the functions behind the declarations

abbrev pub firsts : ℕ → Functions → Functions
firsts zero fns = NoFunction
firsts (suc n) NoFunction = NoFunction
firsts (suc n) (AFunction how nodes ps body fns) = AFunction how nodes ps body (firsts n fns)

pub record Hook : Type 0 where
  pub nodes : ℕ
  pub parameters : Pats
  pub body : Exp

abbrev pub hook_at : ℕ → Functions → Option Hook
hook_at n NoFunction = None
hook_at zero (AFunction how nodes ps body fns) = Some (record { nodes = nodes; parameters = ps; body = body })
hook_at (suc n) (AFunction how nodes ps body fns) = hook_at n fns

-- a hook is an option of a function of the group, or null
abbrev pub hook_of : Exp → Functions → Option Hook
hook_of (source.Do (action.Operate op.MakeOption) (source.AnExp (source.Name n) source.NoExp)) fns = hook_at n fns
hook_of _ fns = None

-- the cells of the stable variables, by their names
abbrev pub cells_of : Exp → Exps
cells_of (source.Do (action.Operate (op.MakeObject ls)) es) = es
cells_of _ = source.NoExp

abbrev pub cell_of : List Place → Exp → core.Exp
cell_of places (source.Name x) = at_place 0 (place_or_nowhere (slice_get places x))
cell_of places _ = nothing

abbrev pub held_in : List Place → Exps → core.Exps
held_in places source.NoExp = NoExp
held_in places (source.AnExp e es) = AnExp (does primitive.Read (one (cell_of places e))) (held_in places es)

-- ---- what the program is made of

pub record Actor : Type 0 where
  pub start : core.Exp
  pub groups : List (Group Body)
  pub methods : List Body
  pub save : Body

abbrev pub tuple : core.Exps → core.Exp
tuple es = does (primitive.Operate op.MakeTuple) es

-- names of the actor alone, outside all functions
abbrev pub outside : List Place → Scope
outside places = record { places = places; names = 0; exits = []; labels = 0 }

-- The hook is done under a label, which its returns leave; then come the values of the stable variables, and there is a node for each.
abbrev pub hook_exp : Scope → ℕ → Hook → Elaborated
hook_exp s n h =
    let c : Checked = on_parameters h.parameters s in
    let d : Elaborated = elaborate (record (behind c s) { exits = 0 ∷ []; labels = 1 }) n h.body in
    record { exp = core.Label (around_all c.checks fails d.exp); groups = d.groups }

pub record SaveElaborated : Type 0 where
  pub body : Body
  pub groups : List (Group Body)

abbrev pub save_of : (stable : ℕ) → List Place → ℕ → Option Hook → core.Exps → SaveElaborated
save_of stable places n None cells = record { body = record { parameters = 0; nodes = stable; expression = tuple cells }; groups = [] }
save_of stable places n (Some h) cells =
    let d : Elaborated = hook_exp (outside places) n h in
    record { body = record { parameters = 0; nodes = stable + h.nodes; expression = let_in d.exp (tuple cells) }; groups = d.groups }

-- the values of the declared names; where this is an upgrade, the hook, which is one of so many functions, comes before
abbrev pub start_end : Scope → ℕ → ℕ → List Place → Option Hook → Elaborated
start_end s n functions places None = record { exp = tuple (values_of s.names places); groups = [] }
start_end s n functions places (Some h) =
    let t : Scope = record s { places = replicate functions Nowhere ++ s.places; names = suc s.names } in
    let f : BodiesElaborated = elaborate_functions t n (AFunction sort.Local h.nodes h.parameters h.body NoFunction) in
    record {
      exp = core.Functions (n + length f.groups)
          (let_in (if_true (at_place (suc s.names) (Local 0)) (core.Do core.Call (one (core.Name 0))) nothing) (tuple (values_of (2 + s.names) places)));
      groups = f.groups ++ record { sees = s.names; bodies = f.bodies } ∷ [];
    }

module _ (methods kept : ℕ) where
  -- in this scope end the declarations; the functions behind them, and the parts of the actor's value
  abbrev pub ending : Scope → ℕ → Functions → Exp → Exp → Exp → Actor
  ending s n fns before after cells =
      let places : List Place = take (length s.places - kept) s.places in
      let known : List Place = replicate (count fns) Nowhere ++ (numbered (suc (suc methods)) places ++ replicate kept Nowhere) in
      let e : Elaborated = start_end s n (count fns) places (hook_of after fns) in
      let m : BodiesElaborated = elaborate_functions (outside known) (n + length e.groups) (firsts methods fns) in
      let v : SaveElaborated = save_of kept known (n + length e.groups + length m.groups) (hook_of before fns) (held_in known (cells_of cells)) in
      record { start = e.exp; groups = e.groups ++ (m.groups ++ v.groups); methods = m.bodies; save = v.body }

  -- what is made before, around the start
  abbrev pub around_start : (core.Exp → core.Exp) → List (Group Body) → Actor → Actor
  around_start f groups a = record a { start = f a.start; groups = groups ++ a.groups }

  -- a program has no other ends
  abbrev pub no_actor : Actor
  no_actor = record { start = nothing; groups = []; methods = []; save = record { parameters = 0; nodes = 0; expression = nothing } }

  abbrev pub elaborate_actor : Scope → ℕ → Exp → Actor
  elaborate_actor s n (Switch e (ACase p b NoCase)) =
      let d : Elaborated = elaborate s n e in
      let c : Checked = on_nearest p s in
      around_start (λ y. let_in d.exp (around_all c.checks fails y)) d.groups (elaborate_actor (behind c s) (n + length d.groups) b)
  elaborate_actor s n (source.Group fns (source.Do a (source.AnExp functions (source.AnExp before (source.AnExp after (source.AnExp cells es)))))) =
      ending s n fns before after cells
  elaborate_actor s n (source.Group fns b) =
      let f : BodiesElaborated = elaborate_functions (under (count fns) s) n fns in
      around_start (core.Functions (n + length f.groups)) (f.groups ++ record { sees = s.names; bodies = f.bodies } ∷ []) (elaborate_actor (under (count fns) s) (suc (n + length f.groups)) b)
  elaborate_actor s n e = no_actor

-- ---- the program

-- `public func __resume() : async () {}`, which every actor has
abbrev pub resume_body : Body
resume_body = record { parameters = 1; nodes = 0; expression = nothing }

abbrev pub method_of : Method → Body → core_program.Method Body
method_of m b = record { name = m.name; query = m.query; signature = record { parameters = m.parameters; results = m.results }; body = b }

abbrev pub resume_method : core_program.Method Body
resume_method = record { name = codes "__resume"; query = false; signature = record { parameters = []; results = [] }; body = resume_body }

abbrev pub methods_of : List Method → List Body → List (core_program.Method Body)
methods_of [] bodies = resume_method ∷ []
methods_of (m ∷ ms) [] = method_of m resume_body ∷ methods_of ms []
methods_of (m ∷ ms) (b ∷ bodies) = method_of m b ∷ methods_of ms bodies

abbrev pub variable_of : StableVariable → core_program.StableVariable
variable_of v = record { name = v.name; of_type = v.of_type }

abbrev pub elaborated : Program → Core
elaborated p =
    let a : Actor = elaborate_actor (length p.methods) (length p.stable) (start_scope (length p.methods) (length p.stable)) 0 p.body in
    record {
      head = p.head;
      groups = a.groups;
      methods = methods_of p.methods a.methods;
      stable = map variable_of p.stable;
      save = a.save;
      start = record { parameters = suc (length p.stable); nodes = p.nodes; expression = a.start };
    }
