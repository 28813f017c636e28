-- Where no calls may be made, a typed execution in a frame stays inside it: nothing is called or awaited, no error is thrown, and no jump leaves the frame.
use Rattle.std.proofs.Common.{◌≡◌, inl, inr, ℕ, zero, suc, List, [], ◌∷◌, ◌++◌, true, false, true≢false, None, refl, sym, ap, ◌∙◌, subst}
use Rattle.mo_types.specs.declared.node.Node.{Node}
use Rattle.mo_types.specs.declared.node.Sort.{Sort}
use Rattle.mo_types.specs.declared.node.Sort.TheVariants as sort
use Rattle.mo_types.specs.declared.node.TypeId.{TypeId}
use Rattle.mo_types.specs.Graph.{Slot, head_at}
use Rattle.typed_tree.specs.declared.action.Action.{Action}
use Rattle.typed_tree.specs.declared.action.Action.TheVariants as action
use Rattle.typed_tree.specs.Language.{Exp, Exps, Val, Do, Switch, Group, NoExp, AnExp}
use Rattle.typed_tree.specs.Language as language
use Rattle.typed_tree.specs.Wants.{Want}
use Rattle.mo_soundness.specs.Keeps as soundness
use Rattle.mo_soundness.specs.Running.{Around, AnswerTypes, StoreTyped, Typed, in_sort}
use Rattle.mo_soundness.specs.Worlds.{World}
use Rattle.program_soundness.specs.Runs.{Fitting, KeepsFit, IsKept}
use Rattle.program_soundness.specs.Worlds.{running}
use Rattle.mo_machine.specs.Acts.{Store, Act, Goes, Prints, Asks, Awaits, Leaves, Throws, Traps, Stuck}
use Rattle.mo_machine.specs.Actions.{act}
use Rattle.mo_machine.specs.Agrees.{unload_act}
use Rattle.mo_machine.specs.Agrees as machine
use Rattle.mo_machine.specs.Frames.{Frame, Operands, Choosing, Switching, Returning, Labelled, Testing, Turning, Repeating, Retesting, Going, Stepping, Trying, Updating, Joining, Stack, Focus, Eval, Ready, Give}
use Rattle.mo_machine.specs.Jumps.{leave}
use Rattle.mo_machine.specs.Unload.{unload, unload_list, before, plug_in, plug, unload_state}
use Rattle.mo_machine.specs.Values.{Value}
use Rattle.mo_machine.proofs.Simulation.{agrees}
use Rattle.elaboration_premises.specs.Places.{Placed, InContext, Done, Opened, Named, Grouped, Framed, Operated, Looked, Found, Called}
use Rattle.elaboration_premises.proofs.Places.{placed}
use Rattle.elaboration_starts.specs.Staying.{Inward, StaysInside, StaysAt}
use Rattle.elaboration_sound.proofs.Tame.{Tame, IsInner, tame_act}

-- ---- stacks

-- no label, handler or end of a body
abbrev Loose : Stack → Type 0
Loose [] = Unit {0}
Loose (Returning n ∷ k) = ⊥
Loose (Labelled ∷ k) = ⊥
Loose (Trying p b env ∷ k) = ⊥
Loose (f ∷ k) = Loose k

data Kind (k : Stack) : Type 0 where
  Within : Inward k → Kind k
  Bare : Loose k → Kind k
  Behind : (l : Stack) → (n : ℕ) → k ≡ l ++ Returning n ∷ [] → Loose l → Kind k

-- below a frame that is none of these
on_top : (f : Frame) (k : Stack) → (Inward k → Inward (f ∷ k)) → ((l : Stack) → Loose l → Loose (f ∷ l)) → Kind k → Kind (f ∷ k)
on_top f k i o (Within h) = Within (i h)
on_top f k i o (Bare h) = Bare (o k h)
on_top f k i o (Behind l n q h) = Behind (f ∷ l) n (ap (λ k. f ∷ k) q) (o l h)

kind_of : (k : Stack) → Kind k
kind_of [] = Bare tt
kind_of (Returning n ∷ []) = Behind [] n refl tt
kind_of (Returning n ∷ f ∷ k) = Within tt
kind_of (Labelled ∷ k) = Within tt
kind_of (Trying p b env ∷ k) = Within tt
kind_of (Operands a done rest env ∷ k) = on_top (Operands a done rest env) k (λ h. h) (λ l h. h) (kind_of k)
kind_of (Choosing a b env ∷ k) = on_top (Choosing a b env) k (λ h. h) (λ l h. h) (kind_of k)
kind_of (Switching cases env ∷ k) = on_top (Switching cases env) k (λ h. h) (λ l h. h) (kind_of k)
kind_of (Testing c b env ∷ k) = on_top (Testing c b env) k (λ h. h) (λ l h. h) (kind_of k)
kind_of (Turning c b env ∷ k) = on_top (Turning c b env) k (λ h. h) (λ l h. h) (kind_of k)
kind_of (Repeating b c env ∷ k) = on_top (Repeating b c env) k (λ h. h) (λ l h. h) (kind_of k)
kind_of (Retesting b c env ∷ k) = on_top (Retesting b c env) k (λ h. h) (λ l h. h) (kind_of k)
kind_of (Going p b env ∷ k) = on_top (Going p b env) k (λ h. h) (λ l h. h) (kind_of k)
kind_of (Stepping p v b env ∷ k) = on_top (Stepping p v b env) k (λ h. h) (λ l h. h) (kind_of k)
kind_of (Updating o f env ∷ k) = on_top (Updating o f env) k (λ h. h) (λ l h. h) (kind_of k)
kind_of (Joining ∷ k) = on_top Joining k (λ h. h) (λ l h. h) (kind_of k)

pub plug_append : (k l : Stack) (e : Exp) → plug (k ++ l) e ≡ plug l (plug k e)
plug_append [] l e = refl
plug_append (f ∷ k) l e = plug_append k l (plug_in f e)

-- a jump leaves them all
leaves : (store : Store) (n : ℕ) (v : Value) (k : Stack) → Loose k → leave store n v k ≡ Leaves n v
leaves store zero v [] h = refl
leaves store (suc n) v [] h = refl
leaves store zero v (Returning m ∷ k) h = absurd h
leaves store (suc n) v (Returning m ∷ k) h = absurd h
leaves store zero v (Labelled ∷ k) h = absurd h
leaves store (suc n) v (Labelled ∷ k) h = absurd h
leaves store zero v (Trying p b env ∷ k) h = absurd h
leaves store (suc n) v (Trying p b env ∷ k) h = absurd h
leaves store zero v (Operands a done rest env ∷ k) h = leaves store zero v k h
leaves store (suc n) v (Operands a done rest env ∷ k) h = leaves store (suc n) v k h
leaves store zero v (_ ∷ k) h = leaves store zero v k h
leaves store (suc n) v (_ ∷ k) h = leaves store (suc n) v k h

-- ---- what does not stand where no calls may be made

-- a call of another actor, an await, or a throw
abbrev IsOuter : Action → Type 0
IsOuter (action.Send ps rs) = Unit {0}
IsOuter action.Await = Unit {0}
IsOuter action.Throw = Unit {0}
IsOuter _ = ⊥

local : (s : Sort) → in_sort s false ≡ sort.Local
local sort.Local = refl
local sort.Shared = refl
local sort.Query = refl

stays_tame : (a : Act) (k : Stack) → Tame a → StaysInside a k
stays_tame (Goes cost store f l) k h = tt
stays_tame (Prints cost text f l) k h = tt
stays_tame (Asks request) k h = absurd h
stays_tame (Awaits n call) k h = absurd h
stays_tame (Leaves n v) k h = absurd h
stays_tame (Throws cost v) k h = absurd h
stays_tame (Traps cost text) k h = tt
stays_tame Stuck k h = tt

-- an action that does none of these stays inside
pub act_inside : (head : TypeId → Node TypeId) (store : Store) (a : Action) (vs : List Value) (k : Stack) → IsInner a → StaysInside (act head None store a vs) k
act_inside head store a vs k h = stays_tame (act head None store a vs) k (tame_act head store a vs h)

module _ (types : List Slot) (answers : AnswerTypes) (kinds : List TypeId) (none : answers.may_call ≡ false) where
  abbrev W : World
  W = running types

  no_calls : answers.may_call ≡ true → ⊥
  no_calls h = true≢false (sym h ∙ none)

  is_local : (s : Sort) → in_sort s answers.may_call ≡ sort.Local
  is_local s = ap (in_sort s) none ∙ local s

  not_shared : (s : Sort) → in_sort s answers.may_call ≡ sort.Shared → ⊥
  not_shared s q = let z : sort.Local ≡ sort.Shared = sym (is_local s) ∙ q in cc

  typed_outer : (a : Action) (es : Exps) (c : Around) (w : Want TypeId) → IsOuter a → Typed W answers kinds c (Do a es) w → ⊥
  typed_outer (action.Send ps rs) es c w o (inl (ws, inl d, h)) = not_shared d.0 d.2.1.2
  typed_outer (action.Send ps rs) es c w o (inl (ws, inr j, h)) = j
  typed_outer action.Await es c w o (inl (ws, inl d, h)) = not_shared d.0 d.2.1
  typed_outer action.Await es c w o (inl (ws, inr j, h)) = j
  typed_outer action.Throw es c w o (inl (ws, inl d, h)) = d.2.0 (is_local d.0)
  typed_outer action.Throw es c w o (inl (ws, inr j, h)) = no_calls j.3
  typed_outer a es c w o (inr (inl h)) = no_calls h.1
  typed_outer (action.Send ps rs) es c w o (inr (inr h)) = h.0
  typed_outer action.Await es c w o (inr (inr h)) = h.0
  typed_outer action.Throw es c w o (inr (inr h)) = h.0
  typed_outer _ es c w o h = absurd o

  no_outer : (a : Action) (es : Exps) → IsOuter a → Placed types answers kinds (Do a es) → ⊥
  no_outer a es o (InContext c w h) = typed_outer a es c w o h
  no_outer a es o (Done v q) = let z : Do a es ≡ Val v = q in cc
  no_outer a es o (Opened p d b c w ns q h k) = let z : Do a es ≡ Switch d _ = q in cc
  no_outer a es o (Named p d b q k h) = let z : Do a es ≡ Switch d _ = q in cc
  no_outer a es o (Grouped fns b q) = let z : Do a es ≡ Group fns b = q in cc
  no_outer a es o (Framed n d q h) = let z : Do a es ≡ language.Frame n d = q in cc
  no_outer a es o (Operated op fs q h) = let same : a ≡ action.Operate op = cc in subst IsOuter same o
  no_outer a es o (Looked d cases op us q k) = let z : Do a es ≡ Switch d cases = q in cc
  no_outer a es o (Found x t f q h) = let z : Do a es ≡ Switch (Val x) _ = q in cc
  no_outer a es o (Called f q h) = let same : a ≡ action.Call = cc in subst IsOuter same o

  module _ (store : Store) (st : StoreTyped W answers kinds (unload_list store) kinds) (Q : Fitting language.Value) where
    active : (k : Stack) (n : ℕ) (v : Value) → soundness.IsNoValue (unload_state (Ready (action.Break n) (v ∷ [])) k)
    active k n v = by (unload_state (Ready (action.Break n) (v ∷ [])) k) ((agrees (head_at types) None store (Ready (action.Break n) (v ∷ [])) k).0)
      where
        by : (e : Exp) → machine.IsNoValue e → soundness.IsNoValue e
        by (Val u) h = absurd h
        by _ h = tt

    -- no jump leaves what is kept
    no_jump : (P : Fitting Exp) → IsKept W P Q → (n : ℕ) (v : Value) (k : Stack) → Loose k → P answers kinds (unload_state (Ready (action.Break n) (v ∷ [])) k) → ⊥
    no_jump P kept n v k loose h =
        subst (KeepsFit W P answers kinds) ((agrees (head_at types) None store (Ready (action.Break n) (v ∷ [])) k).1 ∙ ap unload_act (leaves store n v k loose))
        (kept.keeps answers kinds None (unload_list store) (unload_state (Ready (action.Break n) (v ∷ [])) k) (active k n v) st h tt)

    -- what is kept in a frame, and whole
    module _ (P I : Fitting Exp) (kept : IsKept W P Q) (whole : IsKept W I Q) (places : (e : Exp) → I answers kinds e → Placed types answers kinds e) (inner : (n : ℕ) (e : Exp) → I answers kinds (language.Frame n e) → P answers kinds e) where
      jumps_inside : (n : ℕ) (v : Value) (k : Stack) → I answers kinds (unload_state (Ready (action.Break n) (v ∷ [])) k) → Kind k → Inward k
      jumps_inside n v k h (Within i) = i
      jumps_inside n v k h (Bare l) = absurd (no_jump I whole n v k l h)
      jumps_inside n v k h (Behind l m q loose) =
          absurd (no_jump P kept n v l loose
          (inner m (unload_state (Ready (action.Break n) (v ∷ [])) l)
          (subst (λ e. I answers kinds e) (ap (λ k. unload_state (Ready (action.Break n) (v ∷ [])) k) q ∙ plug_append l (Returning m ∷ []) (Do (action.Break n) (AnExp (Val (unload v)) NoExp))) h)))

      outer : (a : Action) (vs : List Value) (k : Stack) → IsOuter a → I answers kinds (unload_state (Ready a vs) k) → ⊥
      outer a vs k o h = no_outer a (before vs NoExp) o (placed types answers kinds k (Do a (before vs NoExp)) (places _ h))

      tame : (a : Action) (vs : List Value) (k : Stack) → IsInner a → StaysInside (act (head_at types) None store a vs) k
      tame a vs k h = act_inside (head_at types) store a vs k h

      acts_inside : (a : Action) (vs : List Value) (k : Stack) → I answers kinds (unload_state (Ready a vs) k) → StaysInside (act (head_at types) None store a vs) k
      acts_inside (action.Send ps rs) vs k h = absurd (outer (action.Send ps rs) vs k tt h)
      acts_inside action.Await vs k h = absurd (outer action.Await vs k tt h)
      acts_inside action.Throw vs k h = absurd (outer action.Throw vs k tt h)
      acts_inside (action.Break n) [] k h = tt
      acts_inside (action.Break n) (v ∷ []) k h = jumps_inside n v k h (kind_of k)
      acts_inside (action.Break n) (v ∷ u ∷ vs) k h = tt
      acts_inside (action.Operate o) vs k h = tame (action.Operate o) vs k tt
      acts_inside (action.BuiltIn m) vs k h = tame (action.BuiltIn m) vs k tt
      acts_inside action.New vs k h = tame action.New vs k tt
      acts_inside action.Read vs k h = tame action.Read vs k tt
      acts_inside action.Write vs k h = tame action.Write vs k tt
      acts_inside action.WriteElement vs k h = tame action.WriteElement vs k tt
      acts_inside action.Print vs k h = tame action.Print vs k tt
      acts_inside action.Call vs k h = tame action.Call vs k tt
      acts_inside (action.Unwrap n) vs k h = tame (action.Unwrap n) vs k tt

      pub stays : (f : Focus) (k : Stack) → I answers kinds (unload_state f k) → StaysAt (head_at types) store f k
      stays (Eval e env) k h = tt
      stays (Give v) k h = tt
      stays (Ready a vs) k h = acts_inside a vs k h
