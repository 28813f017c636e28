-- Arrays whose elements are made one after another: the way of the machine of typed programs to the first one, and from one to the next.
use Rattle.std.proofs.Common.{◌≡◌, ℕ, zero, suc, ◌+◌, ◌≤◌, Bool, List, [], ◌∷◌, ◌++◌, length, Option, Some, None, refl, sym, ap, ◌∙◌, subst, arith}
use Rattle.std.specs.Prelude.{replicate}
use Rattle.mo_values.specs.Alike.{AlikeAll}
use Rattle.mo_values.specs.Shapes.{Array, Shapes, NoShape, AShape}
use Rattle.mo_values.specs.Shapes as shape
use Rattle.mo_values.specs.Views.{array_of}
use Rattle.core_ir.specs.Choices.{on_some}
use Rattle.core_ir.specs.Primitives as primitives
use Rattle.core_ir.specs.Values as core_value
use Rattle.core_ir.specs.Values.{Handle}
use Rattle.core_ir.specs.Worlds.{World, Context}
use Rattle.core_ir.specs.Expressions.{Core}
use Rattle.core_ir.specs.CoreMachine.{Frame, Caller, Focus, focused, operated, depth_of}
use Rattle.typed_tree.specs.declared.action.Action.{Action}
use Rattle.typed_tree.specs.declared.action.Action.TheVariants as action
use Rattle.typed_tree.specs.Language as source
use Rattle.typed_tree.specs.Language.{Exps}
use Rattle.mo_machine.specs.Values.{Value, Values, Made, Closure, BuiltIn, NoValue, AValue, shapes_of, listed, gathered}
use Rattle.mo_machine.specs.Acts.{Store, Stuck}
use Rattle.mo_machine.specs.Configurations.{live_on, live_state}
use Rattle.mo_machine.specs.Environments.{Environment}
use Rattle.mo_machine.specs.Environments as environment
use Rattle.mo_machine.specs.Frames as machine
use Rattle.mo_machine.specs.Frames.{Operands, Returning, Stack, Ready}
use Rattle.mo_machine.specs.Members.{elements, cells_code, each_code}
use Rattle.mo_machine.specs.Moves.{Moved, move, found}
use Rattle.mo_machine.specs.Reductions.{reduces}
use Rattle.elaboration_values.specs.Belonging.{Known, Names, Belongs, EachBelongs}
use Rattle.elaboration_steps.specs.Stacks.{Labels, further, rank, owed, Making, NoMore, OneMore, making_array, cells_at, HeldEach, WorldBelongs, Around, FillingBelongs, Soon, AtNew, AtCells, AtRead, AtHeld, Standing, Filling}
use Rattle.elaboration_steps.proofs.Depth.{as_deep}
use Rattle.elaboration_steps.proofs.Paths.{nothing_more}

-- ---- what the code makes

pub cells_making : (v : Value) (n : ℕ) → Making action.New (AValue v NoValue) (cells_code n) (replicate n v)
cells_making v zero = NoMore
cells_making v (suc n) = OneMore 0 v (cells_code n) (replicate n v) refl (cells_making v n)

-- names from a number on have these values
abbrev NamesFrom : Environment → ℕ → List Value → Type 0
NamesFrom env i [] = Unit {0}
NamesFrom env i (v ∷ vs) = (environment.at env i ≡ Some v) × NamesFrom env (suc i) vs

further_out : (u : Value) (env : Environment) (i : ℕ) (vs : List Value) → NamesFrom env i vs → NamesFrom (AValue u env) (suc i) vs
further_out u env i [] h = tt
further_out u env i (v ∷ vs) h = (h.0, further_out u env (suc i) vs (h.1))

gathered_names : (vs : List Value) → NamesFrom (gathered vs) 0 vs
gathered_names [] = tt
gathered_names (v ∷ vs) = (refl, further_out v (gathered vs) 0 vs (gathered_names vs))

names_making : (a : Action) (env : Environment) (i : ℕ) (vs : List Value) → NamesFrom env i vs → Making a env (each_code a i vs) vs
names_making a env i [] h = NoMore
names_making a env i (v ∷ vs) h = OneMore i v (each_code a (suc i) vs) vs (h.0) (names_making a env (suc i) vs (h.1))

pub each_making : (a : Action) (vs : List Value) → Making a (gathered vs) (each_code a 0 vs) vs
each_making a vs = names_making a (gathered vs) 0 vs (gathered_names vs)

-- ---- values

module _ (known : List Known) where
  pub replicated : (v : Value) (w : core_value.Value) → Belongs known v w → (n : ℕ) → EachBelongs known (replicate n v) (replicate n w)
  replicated v w value zero = tt
  replicated v w value (suc n) = (value, replicated v w value n)

  -- the elements of an array
  abbrev pub ElementsAlike : Option (List Value) → Option (List core_value.Value) → Type 0
  ElementsAlike None o = Unit {0}
  ElementsAlike (Some vs) o = (ws : List core_value.Value) × (o ≡ Some ws) × EachBelongs known vs ws

  listed_alike : (vs : Values) (ws : Shapes Handle) → AlikeAll (Names known) (shapes_of vs) ws → EachBelongs known (listed vs) (shape.listed ws)
  listed_alike NoValue NoShape a = tt
  listed_alike NoValue (AShape w ws) a = absurd a
  listed_alike (AValue v vs) NoShape a = absurd a
  listed_alike (AValue v vs) (AShape w ws) a = (a.0, listed_alike vs ws (a.1))

  pub elements_alike : (a : Value) (x : core_value.Value) → Belongs known a x → ElementsAlike (elements a) (array_of x)
  elements_alike (Made Array inside) (shape.Made i ws) a = (shape.listed ws, ap (λ i. array_of {F = Handle} (shape.Made i ws)) (sym (a.0)), listed_alike inside ws (a.1))
  elements_alike (Made Array inside) (shape.Function f) a = absurd a
  elements_alike (Made _ inside) x a = tt
  elements_alike (Closure group which env) x a = tt
  elements_alike (BuiltIn m holds) x a = tt

-- what these cells hold, all
held_all : (store : primitives.Store) (cs ws : List core_value.Value) → HeldEach store cs ws → primitives.all_held store cs ≡ Some ws
held_all store [] [] h = refl
held_all store [] (w ∷ ws) h = absurd h
held_all store (c ∷ cs) [] h = absurd h
held_all store (c ∷ cs) (w ∷ ws) h =
    ap (λ o. on_some None o (λ v. on_some None (primitives.all_held store cs) (λ vs. Some (v ∷ vs)))) (h.0) ∙ ap (λ o. on_some None o (λ vs. Some (w ∷ vs))) (held_all store cs ws (h.1))

-- ---- the way to an element

pub most : (a : Action) (vs : List Value) → further (Ready a vs) ≤ 3
most action.Call (BuiltIn m holds ∷ vs) = omega arith
most a vs = omega arith

module _ (a : Action) (e : Environment) (k : Stack) (F : machine.Focus → Stack → Type 0) where
  abbrev filled : List Value → Exps → Stack
  filled done es = Operands making_array done es e ∷ Returning 0 ∷ k

  -- the next element, or the array
  abbrev pub Next : (es : Exps) (vs : List Value) → Making a e es vs → List Value → Type 0
  Next es vs NoMore done = F (Ready making_array done) (Returning 0 ∷ k)
  Next es vs (OneMore x v others rest is m) done = F (Ready a (v ∷ [])) (filled done others)

  module _ (context : Context) (bodies : ℕ)
      (soon : (f : machine.Focus) (l : Stack) (g : machine.Focus) (more : Stack) → move f l ≡ Moved g more → ((store : Store) → reduces context.head None store f l ≡ Stuck) → suc (rank g more) ≤ rank f l → owed l ≤ owed more → bodies ≤ live_state f l → F g more → F f l)
      (low : bodies ≤ 16 + live_on k) where
    to_element : (x : ℕ) (v : Value) (es : Exps) (done : List Value) → environment.at e x ≡ Some v → F (Ready a (v ∷ [])) (filled done es) → F (machine.Eval (source.Do a (source.AnExp (source.Name x) source.NoExp)) e) (filled done es)
    to_element x v es done is last =
        soon (machine.Eval (source.Do a (source.AnExp (source.Name x) source.NoExp)) e) (filled done es) (machine.Eval (source.Name x) e) (Operands a [] source.NoExp e ∷ filled done es) refl (λ store. refl) (omega arith) (omega arith) (omega (arith, low))
        (soon (machine.Eval (source.Name x) e) (Operands a [] source.NoExp e ∷ filled done es) (machine.Give v) (Operands a [] source.NoExp e ∷ filled done es) (ap (λ o. found o (Operands a [] source.NoExp e ∷ filled done es)) is) (λ store. refl) (omega arith) (omega arith) (omega (arith, low))
        (soon (machine.Give v) (Operands a [] source.NoExp e ∷ filled done es) (Ready a (v ∷ [])) (filled done es) refl (λ store. refl) (let z : further (Ready a (v ∷ [])) ≤ 3 = most a (v ∷ []) in omega (arith, z)) (omega arith) (omega (arith, low)) last))

    pub behind_value : (es : Exps) (vs : List Value) (m : Making a e es vs) (done : List Value) (x : Value) → Next es vs m (done ++ x ∷ []) → F (machine.Give x) (filled done es)
    behind_value es vs NoMore done x last =
        soon (machine.Give x) (filled done source.NoExp) (Ready making_array (done ++ x ∷ [])) (Returning 0 ∷ k) refl (λ store. refl) (omega arith) (omega arith) (omega (arith, low)) last
    behind_value es vs (OneMore y v others rest is m) done x last =
        soon (machine.Give x) (filled done (source.AnExp (source.Do a (source.AnExp (source.Name y) source.NoExp)) others)) (machine.Eval (source.Do a (source.AnExp (source.Name y) source.NoExp)) e) (filled (done ++ x ∷ []) others) refl (λ store. refl) (omega arith) (omega arith) (omega (arith, low))
        (to_element y v others (done ++ x ∷ []) is last)

    pub at_first : (es : Exps) (vs : List Value) (m : Making a e es vs) → Next es vs m [] → F (machine.Eval (source.Do making_array es) e) (Returning 0 ∷ k)
    at_first es vs NoMore last = soon (machine.Eval (source.Do making_array source.NoExp) e) (Returning 0 ∷ k) (Ready making_array []) (Returning 0 ∷ k) refl (λ store. refl) (omega arith) (omega arith) (omega (arith, low)) last
    at_first es vs (OneMore y v others rest is m) last =
        soon (machine.Eval (source.Do making_array (source.AnExp (source.Do a (source.AnExp (source.Name y) source.NoExp)) others)) e) (Returning 0 ∷ k) (machine.Eval (source.Do a (source.AnExp (source.Name y) source.NoExp)) e) (filled [] others) refl (λ store. refl) (omega arith) (omega arith) (omega (arith, low))
        (to_element y v others [] is last)

-- ---- an array is begun

module _ (program : Core) (context : Context) (nodes : ℕ) (world : World) (known : List Known) (held : ℕ) where
  module _ (b : Bool) (l : Labels) (k : Stack) (others : List Frame) (around : Around program context nodes world known b l held k others) (e : Environment) (f : Focus) (ck : List Frame) (depth : depth_of ck ≡ 16 + depth_of others) where
    abbrev inside : List Frame
    inside = Caller 0 None ∷ others

    pub deep : 16 + nodes + depth_of ck ≤ 16 + live_on k
    deep = let z : live_on k ≡ 16 + nodes + depth_of others = as_deep program.groups known context.globals nodes b l held k others around in omega (arith, z, depth)

    -- of new cells
    module _ (front fresh : Store) where
      abbrev pub Fills : machine.Focus → Stack → Type 0
      Fills g j = FillingBelongs program context nodes world known held front fresh g j f ck

      pub soon_filled : (g : machine.Focus) (j : Stack) (g2 : machine.Focus) (more : Stack) → move g j ≡ Moved g2 more → ((store : Store) → reduces context.head None store g j ≡ Stuck) → suc (rank g2 more) ≤ rank g j → owed j ≤ owed more
          → 16 + nodes + depth_of ck ≤ live_state g j → Fills g2 more → Fills g j
      soon_filled g j g2 more moves none falls owes deep filling = Soon fresh g j g2 more f ck moves none falls owes deep filling

      pub next_cell : (es : Exps) (vs : List Value) (us : List core_value.Value) (m : Making action.New e es vs) → EachBelongs known (fresh ++ vs) us → focused program context nodes world f ck ≡ operated program context nodes world inside (primitives.celled context.head world.store us)
          → Next action.New e k Fills es vs m (cells_at (length front) fresh)
      next_cell es vs us NoMore values eq = AtCells fresh b l us k others f ck (subst (λ xs. EachBelongs known xs us) (sym (nothing_more fresh)) values) eq depth around
      next_cell es vs us (OneMore x v more rest is m) values eq = AtNew fresh b l e more v rest us k others f ck m values eq depth around

    -- of what cells hold
    module _ (front : Store) where
      pub next_held : (es : Exps) (cs done : List Value) (before rest ws : List core_value.Value) (m : Making action.Read e es cs) → EachBelongs known cs rest → EachBelongs known done ws → HeldEach world.store before ws
          → focused program context nodes world f ck ≡ operated program context nodes world inside (on_some primitives.Stuck (primitives.all_held world.store (before ++ rest)) (primitives.whole_array context.head world.store))
          → Next action.Read e k (Fills front []) es cs m done
      next_held es cs done before [] ws NoMore cells values each eq =
          AtHeld b l done ws k others f ck values
          (eq ∙ ap (λ o. operated program context nodes world inside (on_some primitives.Stuck o (primitives.whole_array context.head world.store))) (ap (primitives.all_held world.store) (sym (nothing_more before)) ∙ held_all world.store before ws each)) depth around
      next_held es cs done before (w ∷ rest) ws NoMore cells values each eq = absurd cells
      next_held es cs done before rest ws (OneMore x c more cs2 is m) cells values each eq = AtRead b l e more c cs2 done before rest ws k others f ck m cells values each eq depth around

  module _ (store : Store) (worlds : WorldBelongs program.groups known context.globals store world) (b : Bool) (l : Labels) (k : Stack) (others : List Frame) (around : Around program context nodes world known b l held k others) (e : Environment) where
    begun : (f : Focus) (ck : List Frame) (g : machine.Focus) → FillingBelongs program context nodes world known held store [] g (Returning 0 ∷ k) f ck → Standing program context nodes world known held store g (Returning 0 ∷ k) f ck
    begun f ck g filling = subst (λ s. Standing program context nodes world known held s g (Returning 0 ∷ k) f ck) (sym (nothing_more store)) (Filling store [] g (Returning 0 ∷ k) f ck worlds filling)

    pub fills : (es : Exps) (vs : List Value) (us : List core_value.Value) (f : Focus) (ck : List Frame) → Making action.New e es vs → EachBelongs known vs us
        → focused program context nodes world f ck ≡ operated program context nodes world (Caller 0 None ∷ others) (primitives.celled context.head world.store us) → depth_of ck ≡ 16 + depth_of others
        → Standing program context nodes world known held store (machine.Eval (source.Do making_array es) e) (Returning 0 ∷ k) f ck
    fills es vs us f ck m values eq depth =
        begun f ck (machine.Eval (source.Do making_array es) e)
        (at_first action.New e k (Fills b l k others around e f ck depth store []) context (16 + nodes + depth_of ck) (soon_filled b l k others around e f ck depth store []) (deep b l k others around e f ck depth) es vs m
        (next_cell b l k others around e f ck depth store [] es vs us m values eq))

    pub reads : (es : Exps) (cs : List Value) (rest : List core_value.Value) (f : Focus) (ck : List Frame) → Making action.Read e es cs → EachBelongs known cs rest
        → focused program context nodes world f ck ≡ operated program context nodes world (Caller 0 None ∷ others) (on_some primitives.Stuck (primitives.all_held world.store rest) (primitives.whole_array context.head world.store)) → depth_of ck ≡ 16 + depth_of others
        → Standing program context nodes world known held store (machine.Eval (source.Do making_array es) e) (Returning 0 ∷ k) f ck
    reads es cs rest f ck m cells eq depth =
        begun f ck (machine.Eval (source.Do making_array es) e)
        (at_first action.Read e k (Fills b l k others around e f ck depth store []) context (16 + nodes + depth_of ck) (soon_filled b l k others around e f ck depth store []) (deep b l k others around e f ck depth) es cs m
        (next_held b l k others around e f ck depth store es cs [] [] rest [] m cells tt tt eq))
