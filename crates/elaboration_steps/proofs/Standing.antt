-- Wherever both machines stand, each move and each reduction is followed by Core.
use Rattle.std.proofs.Common.{◌≡◌, ℕ, suc, ◌+◌, ◌*◌, Bool, false, List, [], ◌∷◌, ◌++◌, length, Option, Some, None, slice_get, refl, sym, ap, ◌∙◌, subst, arith}
use Rattle.mo_values.specs.Alike.{AlikeAll}
use Rattle.mo_values.specs.Costs.{weighing}
use Rattle.mo_values.specs.Shapes.{Array, Cell, shapes}
use Rattle.mo_values.specs.Shapes as shape
use Rattle.core_ir.specs.Choices.{on_some}
use Rattle.core_ir.specs.Primitives as primitives
use Rattle.core_ir.specs.Values as core_value
use Rattle.core_ir.specs.Worlds.{World, Context, with_store}
use Rattle.core_ir.specs.Expressions.{Core}
use Rattle.core_ir.specs.CoreMachine.{Frame, Caller, Focus, Give, focused, operated, depth_of}
use Rattle.typed_tree.specs.declared.action.Action.TheVariants as action
use Rattle.typed_tree.specs.Language.{Exps}
use Rattle.mo_machine.specs.Values.{Value, Made, NoValue, value_of, shapes_list}
use Rattle.mo_machine.specs.Acts.{Store, Act}
use Rattle.mo_machine.specs.Cells.{cell_of, held, goes_to, new_cell, read_cell}
use Rattle.mo_machine.specs.Environments.{Environment}
use Rattle.mo_machine.specs.Frames as machine
use Rattle.mo_machine.specs.Frames.{Operands, Returning, Stack, Ready}
use Rattle.mo_machine.specs.Jumps.{on_stack}
use Rattle.mo_machine.specs.Moves.{Moved, Reduces, move}
use Rattle.mo_machine.specs.Reductions.{reduces}
use Rattle.elaboration.proofs.Coming.{assoc}
use Rattle.elaboration_values.specs.Belonging.{Known, Names, EachBelongs}
use Rattle.elaboration_steps.specs.Stacks.{Labels, no_labels, owed, Making, making_array, cells_at, HeldEach, WorldBelongs, StateBelongs, AtValue, Around, InFunction, FillingBelongs, Soon, AtNew, AtCells, AtRead, AtHeld, GatheringBelongs, Coming, AtNext, AtAll, Standing, Here, Filling, Gathered}
use Rattle.elaboration_steps.specs.Follows.{start, MoveFollows, MovesFollow, Acts, ReductionsFollow}
use Rattle.elaboration_steps.proofs.Filling.{Next, behind_value, deep, Fills, soon_filled, next_cell, next_held}
use Rattle.elaboration_steps.proofs.GatheringCalls.{gathers_move, gathers_reduce}
use Rattle.elaboration_steps.proofs.Moving.{moves_follow}
use Rattle.elaboration_steps.proofs.Paths.{nothing_more, waits_in, does}
use Rattle.elaboration_steps.proofs.Reducing.{reduces_follow}
use Rattle.elaboration_steps.proofs.Values.{value_belongs, as_many, each_append, all_alike, many_shapes, same_cell, Both, get_both}

-- ---- lists

both_lengths : (front fresh : Store) → length (front ++ fresh) ≡ length front + length fresh
both_lengths [] fresh = omega arith
both_lengths (v ∷ front) fresh = let z : length (front ++ fresh) ≡ length front + length fresh = both_lengths front fresh in omega (arith, z)

cells_more : (n m : ℕ) (fresh : Store) (v : Value) → m ≡ n + length fresh → cells_at n fresh ++ Made (Cell m) NoValue ∷ [] ≡ cells_at n (fresh ++ v ∷ [])
cells_more n m [] v e = let z : m ≡ n = omega (arith, e) in ap (λ m. Made (Cell m) NoValue ∷ []) z
cells_more n m (u ∷ fresh) v e = ap (λ xs. Made (Cell n) NoValue ∷ xs) (cells_more (suc n) m fresh v (omega (arith, e)))

many_cells : (n : ℕ) (fresh : Store) → length (shapes_list (cells_at n fresh)) ≡ length fresh
many_cells n [] = refl
many_cells n (v ∷ fresh) = ap (λ m. suc m) (many_cells (suc n) fresh)

held_more : (store : primitives.Store) (cs ws : List core_value.Value) (c w : core_value.Value) → HeldEach store cs ws → primitives.held store (core_value.cell_of c) ≡ Some w → HeldEach store (cs ++ c ∷ []) (ws ++ w ∷ [])
held_more store [] [] c w h e = (e, tt)
held_more store [] (x ∷ ws) c w h e = absurd h
held_more store (d ∷ cs) [] c w h e = absurd h
held_more store (d ∷ cs) (x ∷ ws) c w h e = (h.0, held_more store cs ws c w (h.1) e)

module _ (known : List Known) where
  cells_alike : (n m : ℕ) → n ≡ m → (fresh : Store) (us : List core_value.Value) → EachBelongs known fresh us → AlikeAll (Names known) (shapes (shapes_list (cells_at n fresh))) (shapes (primitives.cells_from m us))
  cells_alike n m e [] [] a = tt
  cells_alike n m e [] (u ∷ us) a = absurd a
  cells_alike n m e (v ∷ fresh) [] a = absurd a
  cells_alike n m e (v ∷ fresh) (u ∷ us) a = ((ap (λ n. Cell n) e, tt), cells_alike (suc n) (suc m) (ap (λ n. suc n) e) fresh us (a.1))

  both_each : (vs xs : List Value) (ws us : List core_value.Value) → EachBelongs known vs ws → EachBelongs known xs us → EachBelongs known (vs ++ xs) (ws ++ us)
  both_each [] xs [] us a b = b
  both_each [] xs (w ∷ ws) us a b = absurd a
  both_each (v ∷ vs) xs [] us a b = absurd a
  both_each (v ∷ vs) xs (w ∷ ws) us a b = (a.0, both_each vs xs ws us (a.1) b)

-- ---- elements are made

module _ (program : Core) (context : Context) (nodes : ℕ) (held' : ℕ) (known : List Known) (world : World) (front : Store) (worlds : WorldBelongs program.groups known context.globals front world) where
  abbrev A : (fresh : Store) → machine.Focus → Stack → Focus → List Frame → Act → Type 0
  A fresh f k = Acts program context nodes (start f k) held' known world (front ++ fresh) k 0

  module _ (b : Bool) (l : Labels) (k : Stack) (others : List Frame) (f : Focus) (ck : List Frame) (depth : depth_of ck ≡ 16 + depth_of others) (around : Around program context nodes world known b l held' k others) where
    abbrev inside : List Frame
    inside = Caller 0 None ∷ others

    new_follows : (fresh : Store) (e : Environment) (es : Exps) (v : Value) (vs : List Value) (us : List core_value.Value) → Making action.New e es vs → EachBelongs known (fresh ++ v ∷ vs) us
        → focused program context nodes world f ck ≡ operated program context nodes world inside (primitives.celled context.head world.store us)
        → A fresh (Ready action.New (v ∷ [])) (Operands making_array (cells_at (length front) fresh) es e ∷ Returning 0 ∷ k) f ck (on_stack (front ++ fresh) (new_cell (front ++ fresh) v) (Operands making_array (cells_at (length front) fresh) es e ∷ Returning 0 ∷ k))
    new_follows fresh e es v vs us m values eq =
        waits_in program context nodes (start (Ready action.New (v ∷ [])) stack) (0 + owed stack) (2 * 1 + held') 0 held' known world f ck ((front ++ fresh) ++ v ∷ []) (machine.Give cell) stack (omega arith) (omega arith)
        (subst (λ s. Standing program context nodes world known held' s (machine.Give cell) stack f ck) (sym (assoc front fresh (v ∷ [])))
        (Filling front more (machine.Give cell) stack f ck worlds
        (behind_value action.New e k (Fills program context nodes world known held' b l k others around e f ck depth front more) context (16 + nodes + depth_of ck)
        (soon_filled program context nodes world known held' b l k others around e f ck depth front more) (deep program context nodes world known held' b l k others around e f ck depth) es vs m (cells_at (length front) fresh) cell
        (subst (λ xs. Next action.New e k (Fills program context nodes world known held' b l k others around e f ck depth front more) es vs m xs) (sym (cells_more (length front) (length (front ++ fresh)) fresh v (both_lengths front fresh)))
        (next_cell program context nodes world known held' b l k others around e f ck depth front more es vs us m (subst (λ xs. EachBelongs known xs us) (sym (assoc fresh (v ∷ []) vs)) values) eq)))))
      where
        stack : Stack
        stack = Operands making_array (cells_at (length front) fresh) es e ∷ Returning 0 ∷ k

        cell : Value
        cell = Made (Cell (length (front ++ fresh))) NoValue

        more : Store
        more = fresh ++ v ∷ []

    -- Core makes the array
    cells_follow : (fresh : Store) (us : List core_value.Value) → EachBelongs known fresh us → focused program context nodes world f ck ≡ operated program context nodes world inside (primitives.celled context.head world.store us)
        → A fresh (Ready making_array (cells_at (length front) fresh)) (Returning 0 ∷ k) f ck (reduces context.head None (front ++ fresh) (Ready making_array (cells_at (length front) fresh)) (Returning 0 ∷ k))
    cells_follow fresh us values eq =
        let n : length (shapes_list cells) ≡ length fresh = many_cells (length front) fresh in
        let m : length fresh ≡ length us = as_many known fresh us values in
        does program context nodes (start (Ready making_array cells) (Returning 0 ∷ k)) (0 + owed (Returning 0 ∷ k)) (2 * (2 + length (shapes_list cells)) + held') 0 held' (weighing (2 + 2 * length us)) [] known known world (with_store world (world.store ++ us)) f ck
        (Give made) inside (front ++ fresh) (machine.Give (value_of (shape.Made Array (shapes (shapes_list cells))))) (Returning 0 ∷ k) eq (omega (arith, n, m)) (omega arith) ([], nothing_more known) refl
        (record { cells = both_each known front fresh world.store us worlds.cells values; groups = worlds.groups })
        (AtValue false no_labels (value_of (shape.Made Array (shapes (shapes_list cells)))) made (Returning 0 ∷ k) inside
        (value_belongs known (shape.Made Array (shapes (shapes_list cells))) made (refl, cells_alike known (length front) (length world.store) (as_many known front world.store worlds.cells) fresh us values)) (InFunction 0 b l held' k [] others tt around))
      where
        cells : List Value
        cells = cells_at (length front) fresh

        made : core_value.Value
        made = core_value.array (primitives.cells_from (length world.store) us)

    read_follows : (e : Environment) (es : Exps) (c : Value) (cs done : List Value) (before rest ws : List core_value.Value) → Making action.Read e es cs → EachBelongs known (c ∷ cs) rest → EachBelongs known done ws → HeldEach world.store before ws
        → focused program context nodes world f ck ≡ operated program context nodes world inside (on_some primitives.Stuck (primitives.all_held world.store (before ++ rest)) (primitives.whole_array context.head world.store))
        → A [] (Ready action.Read (c ∷ [])) (Operands making_array done es e ∷ Returning 0 ∷ k) f ck (on_stack (front ++ []) (read_cell (front ++ []) c) (Operands making_array done es e ∷ Returning 0 ∷ k))
    read_follows e es c cs done before [] ws m cells values each eq = absurd cells
    read_follows e es c cs done before (d ∷ rest) ws m cells values each eq = by (held (front ++ []) (cell_of c)) (primitives.held world.store (core_value.cell_of d)) refl both
      where
        stack : Stack
        stack = Operands making_array done es e ∷ Returning 0 ∷ k

        held_both : (o : Option ℕ) → Both known (held (front ++ []) o) (primitives.held world.store o)
        held_both None = tt
        held_both (Some i) = subst (λ s. Both known (slice_get s i) (slice_get world.store i)) (nothing_more front) (get_both known front world.store i worlds.cells)

        both : Both known (held (front ++ []) (cell_of c)) (primitives.held world.store (core_value.cell_of d))
        both = subst (λ o. Both known (held (front ++ []) (cell_of c)) (primitives.held world.store o)) (sym (same_cell known c d (cells.0))) (held_both (cell_of c))

        by : (o : Option Value) (o' : Option core_value.Value) → primitives.held world.store (core_value.cell_of d) ≡ o' → Both known o o' → A [] (Ready action.Read (c ∷ [])) stack f ck (on_stack (front ++ []) (goes_to (front ++ []) o) stack)
        by None o' is r = tt
        by (Some v) None is r = absurd r
        by (Some v) (Some w) is r =
            waits_in program context nodes (start (Ready action.Read (c ∷ [])) stack) (0 + owed stack) (2 * 1 + held') 0 held' known world f ck (front ++ []) (machine.Give v) stack (omega arith) (omega arith)
            (Filling front [] (machine.Give v) stack f ck worlds
            (behind_value action.Read e k (Fills program context nodes world known held' b l k others around e f ck depth front []) context (16 + nodes + depth_of ck)
            (soon_filled program context nodes world known held' b l k others around e f ck depth front []) (deep program context nodes world known held' b l k others around e f ck depth) es cs m done v
            (next_held program context nodes world known held' b l k others around e f ck depth front es cs (done ++ v ∷ []) (before ++ d ∷ []) rest (ws ++ w ∷ []) m (cells.1) (each_append known done ws v w values r) (held_more world.store before ws d w each is)
            (eq ∙ ap (λ cs. operated program context nodes world inside (on_some primitives.Stuck (primitives.all_held world.store cs) (primitives.whole_array context.head world.store))) (sym (assoc before (d ∷ []) rest))))))

    held_follow : (done : List Value) (us : List core_value.Value) → EachBelongs known done us → focused program context nodes world f ck ≡ operated program context nodes world inside (primitives.whole_array context.head world.store us)
        → A [] (Ready making_array done) (Returning 0 ∷ k) f ck (reduces context.head None (front ++ []) (Ready making_array done) (Returning 0 ∷ k))
    held_follow done us values eq =
        let n : length (shapes_list done) ≡ length done = many_shapes done in
        let m : length done ≡ length us = as_many known done us values in
        does program context nodes (start (Ready making_array done) (Returning 0 ∷ k)) (0 + owed (Returning 0 ∷ k)) (2 * (2 + length (shapes_list done)) + held') 0 held' (weighing (2 + 2 * length us)) [] known known world world f ck
        (Give (core_value.array us)) inside (front ++ []) (machine.Give (value_of (shape.Made Array (shapes (shapes_list done))))) (Returning 0 ∷ k) eq (omega (arith, n, m)) (omega arith) ([], nothing_more known) refl
        (subst (λ s. WorldBelongs program.groups known context.globals s world) (nothing_more front) worlds)
        (AtValue false no_labels (value_of (shape.Made Array (shapes (shapes_list done)))) (core_value.array us) (Returning 0 ∷ k) inside
        (value_belongs known (shape.Made Array (shapes (shapes_list done))) (core_value.array us) (refl, all_alike known done us values)) (InFunction 0 b l held' k [] others tt around))

  fills_move : (fresh : Store) (f : machine.Focus) (k : Stack) (cf : Focus) (ck : List Frame) → FillingBelongs program context nodes world known held' front fresh f k cf ck → MoveFollows program context nodes (start f k) held' known world (front ++ fresh) k cf ck (move f k)
  fills_move fresh f k cf ck (Soon new g j g2 more cg cj moves none falls owes low filling) =
      subst (λ m. MoveFollows program context nodes (start g j) held' known world (front ++ fresh) j cg cj m) (sym moves)
      (waits_in program context nodes (start g j) (owed j) held' 0 held' known world cg cj (front ++ fresh) g2 more (omega (arith, owes)) falls (Filling front fresh g2 more cg cj worlds filling))
  fills_move fresh f k cf ck (AtNew new b l e es v vs us j others g cj making values eq depth around) = tt
  fills_move fresh f k cf ck (AtCells new b l us j others g cj values eq depth around) = tt
  fills_move fresh f k cf ck (AtRead b l e es c cs done before rest ws j others g cj making cells values each eq depth around) = tt
  fills_move fresh f k cf ck (AtHeld b l done us j others g cj values eq depth around) = tt

  fills_reduce : (fresh : Store) (f : machine.Focus) (k : Stack) (cf : Focus) (ck : List Frame) → FillingBelongs program context nodes world known held' front fresh f k cf ck → A fresh f k cf ck (reduces context.head None (front ++ fresh) f k)
  fills_reduce fresh f k cf ck (Soon new g j g2 more cg cj moves none falls owes low filling) = subst (λ a. A fresh g j cg cj a) (sym (none (front ++ fresh))) tt
  fills_reduce fresh f k cf ck (AtNew new b l e es v vs us j others g cj making values eq depth around) = new_follows b l j others g cj depth around fresh e es v vs us making values eq
  fills_reduce fresh f k cf ck (AtCells new b l us j others g cj values eq depth around) = cells_follow b l j others g cj depth around fresh us values eq
  fills_reduce fresh f k cf ck (AtRead b l e es c cs done before rest ws j others g cj making cells values each eq depth around) = read_follows b l j others g cj depth around e es c cs done before rest ws making cells values each eq
  fills_reduce fresh f k cf ck (AtHeld b l done us j others g cj values eq depth around) = held_follow b l j others g cj depth around done us values eq

-- ---- all

pub stands_move : (program : Core) (context : Context) (nodes : ℕ) → MovesFollow program context nodes
stands_move program context nodes held' known world store f k cf ck (Here st g j cg cj worlds state) = moves_follow program context nodes held' known world store worlds f k cf ck state
stands_move program context nodes held' known world store f k cf ck (Filling front fresh g j cg cj worlds filling) = fills_move program context nodes held' known world front worlds fresh f k cf ck filling
stands_move program context nodes held' known world store f k cf ck (Gathered st g j cg cj worlds gathering) = gathers_move program context nodes held' known world store worlds f k cf ck gathering

pub stands_reduce : (program : Core) (context : Context) (nodes : ℕ) → ReductionsFollow program context nodes
stands_reduce program context nodes held' known world store f k cf ck (Here st g j cg cj worlds state) suits = reduces_follow program context nodes held' known world store worlds f k cf ck state suits
stands_reduce program context nodes held' known world store f k cf ck (Filling front fresh g j cg cj worlds filling) suits = fills_reduce program context nodes held' known world front worlds fresh f k cf ck filling
stands_reduce program context nodes held' known world store f k cf ck (Gathered st g j cg cj worlds gathering) suits = gathers_reduce program context nodes held' known world store worlds f k cf ck gathering suits

-- calls of other actors and awaits stand in no body of a built-in function
abbrev pub IsOutside : machine.Focus → Type 0
IsOutside (Ready (action.Send ps rs) vs) = Unit {0}
IsOutside (Ready action.Await vs) = Unit {0}
IsOutside _ = ⊥

reduces_outside : (f : machine.Focus) (k : Stack) → IsOutside f → move f k ≡ Reduces
reduces_outside (Ready a vs) k h = refl
reduces_outside (machine.Eval e env) k h = absurd h
reduces_outside (machine.Give v) k h = absurd h

module _ (program : Core) (context : Context) (nodes : ℕ) (world : World) (known : List Known) (held' : ℕ) where
  no_filling : (front fresh : Store) (f : machine.Focus) (k : Stack) (cf : Focus) (ck : List Frame) → FillingBelongs program context nodes world known held' front fresh f k cf ck → IsOutside f → ⊥
  no_filling front fresh f k cf ck (Soon new g j g2 more cg cj moves none falls owes low filling) h = let z : Reduces ≡ Moved g2 more = sym (reduces_outside g j h) ∙ moves in absurd cc
  no_filling front fresh f k cf ck (AtNew new b l e es v vs us j others g cj making values eq depth around) h = h
  no_filling front fresh f k cf ck (AtCells new b l us j others g cj values eq depth around) h = h
  no_filling front fresh f k cf ck (AtRead b l e es c cs done before rest ws j others g cj making cells values each eq depth around) h = h
  no_filling front fresh f k cf ck (AtHeld b l done us j others g cj values eq depth around) h = h

  no_gathering : (f : machine.Focus) (k : Stack) (cf : Focus) (ck : List Frame) → GatheringBelongs program context nodes world known held' f k cf ck → IsOutside f → ⊥
  no_gathering f k cf ck (Coming g j g2 more cg cj moves none falls owes gathering) h = let z : Reduces ≡ Moved g2 more = sym (reduces_outside g j h) ∙ moves in absurd cc
  no_gathering f k cf ck (AtNext b l g i done before next left j others cg cj function values eq around) h = h
  no_gathering f k cf ck (AtAll b l i done before next j others cg cj values eq around) h = h

  pub here_alone : (store : Store) (f : machine.Focus) (k : Stack) (cf : Focus) (ck : List Frame) → Standing program context nodes world known held' store f k cf ck → IsOutside f
      → WorldBelongs program.groups known context.globals store world × StateBelongs program context nodes world known held' f k cf ck
  here_alone store f k cf ck (Here st g j cg cj worlds state) h = (worlds, state)
  here_alone store f k cf ck (Filling front fresh g j cg cj worlds filling) h = absurd (no_filling front fresh f k cf ck filling h)
  here_alone store f k cf ck (Gathered st g j cg cj worlds gathering) h = absurd (no_gathering f k cf ck gathering h)
