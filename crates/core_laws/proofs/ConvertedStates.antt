-- The states of converted code that states of the code before stand for.
use Rattle.std.proofs.Common.{◌≡◌, ℕ, zero, suc, ◌+◌, refl, ap, List, [], ◌∷◌, map, Option, Some, None}
use Rattle.std.specs.Prelude.{slice_get}
use Rattle.core_ir.specs.declared.code.Operand.{Operand}
use Rattle.core_ir.specs.declared.code.Operand.TheVariants.{Constant}
use Rattle.core_ir.specs.declared.constant.Constant.TheVariants as constant
use Rattle.mo_values.specs.Shapes.{unit}
use Rattle.core_ir.specs.Choices.{nth, filled}
use Rattle.core_ir.specs.Values.{Value}
use Rattle.core_ir.specs.Programs.{Group}
use Rattle.core_ir.specs.Executions.{End, Replies, Rejects, Waits, Traps, Breaks, Go, Ends}
use Rattle.core_ir.specs.Calls.{Sent, Sends, Refused, TooLong, NoCall, Awaited, Suspends, NoRoom, NoFuture}
use Rattle.core_ir.specs.Code.{Code, Stop, Body, nodes_of}
use Rattle.core_ir.specs.CodeMachine.{Around, Within, Again, Frame, Caller, Waiting, State, Did, Place, settle, value, values, put, put_all, depth_of}
use Rattle.core_laws.specs.Uses.{picked}
use Rattle.core_laws.specs.Converted.{world_as}
use Rattle.core_laws.specs.Conversion.{convert, convert_body, convert_group, convert_groups}
use Rattle.core_laws.proofs.Seen.{Sees, SeesSegments, SeesAround}

-- ---- lists by place

abbrev pub mapped : {A B : Type 0} → (A → B) → Option A → Option B
mapped f None = None
mapped f (Some a) = Some (f a)

pub got : {A B : Type 0} (f : A → B) (xs : List A) (n : ℕ) → slice_get (map f xs) n ≡ mapped f (slice_get xs n)
got f [] n = refl
got f (x ∷ xs) zero = refl
got f (x ∷ xs) (suc n) = got f xs n

-- values in slots one after the other
abbrev pub filled_all : List Value → ℕ → List Value → List Value
filled_all slots t [] = slots
filled_all slots t (v ∷ vs) = filled_all (filled unit slots t v) (suc t) vs

pub put_all_is : (f : Frame) (t : ℕ) (vs : List Value) → put_all f t vs ≡ record { body = f.body; group = f.group; seen = f.seen; slots = filled_all f.slots t vs }
put_all_is f t [] = refl
put_all_is f t (v ∷ vs) = put_all_is (put f t v) (suc t) vs

-- ---- what a group sees, picked from what is in scope

nth_value : (w : List Value) (f : Frame) (ops : List Operand) (x : ℕ) → value w f (nth (Constant constant.Unit) ops x) ≡ nth unit (values w f ops) x
nth_value w f [] x = refl
nth_value w f (o ∷ ops) zero = refl
nth_value w f (o ∷ ops) (suc x) = nth_value w f ops x

pub picked_values : (w : List Value) (f : Frame) (ops : List Operand) (xs : List ℕ) → values w f (picked ops xs) ≡ map (nth unit (values w f ops)) xs
picked_values w f ops [] = refl
picked_values w f ops (x ∷ xs) = cc (nth_value w f ops x, picked_values w f ops xs)

module _ (needs : List (List ℕ)) where
  module _ (used : List ℕ) where
    abbrev pub around_as : Around → Around
    around_as (Within r) = Within (convert needs used r)
    around_as (Again b r) = Again (convert needs used b) (convert needs used r)

    abbrev pub seen_of : List Value → List Value
    seen_of seen = map (nth unit seen) used

    abbrev pub frame_as : Frame → Frame
    frame_as f = record { body = convert_body needs used f.body; group = f.group; seen = seen_of f.seen; slots = f.slots }

    abbrev pub caller_as : Caller → Caller
    caller_as c = record { frame = frame_as c.frame; to = c.to; rest = convert needs used c.rest; around = map around_as c.around; gathering = c.gathering }

    abbrev pub waiting_as : Waiting → Waiting
    waiting_as w = record { frame = frame_as w.frame; to = w.to; handler = w.handler; segment = w.segment }

    abbrev pub state_as : State → List Caller → State
    state_as s cs = record { code = convert needs used s.code; around = map around_as s.around; frame = frame_as s.frame; callers = cs }

    abbrev pub place_as : Place → Place
    place_as p = record { code = convert needs used p.code; around = map around_as p.around }

    pub settle_as : (ks : List Around) (c : Code) → Sees needs used c → SeesAround needs used ks
        → (settle (map around_as ks) (convert needs used c) ≡ place_as (settle ks c)) × Sees needs used (settle ks c).code × SeesAround needs used (settle ks c).around
    settle_as [] c hc hk = (refl, hc, tt)
    settle_as (Within r ∷ ks) Stop hc hk = settle_as ks r (hk.0) (hk.1)
    settle_as (Again b r ∷ ks) Stop hc hk = settle_as ks r (hk.1) (hk.2)
    settle_as (Within r ∷ ks) c hc hk = (refl, hc, hk)
    settle_as (Again b r ∷ ks) c hc hk = (refl, hc, hk)

    pub nodes_same : (bs : List Body) → nodes_of (map (convert_body needs used) bs) ≡ nodes_of bs
    nodes_same [] = refl
    nodes_same (b ∷ bs) = ap (λ n. b.nodes + n) (nodes_same bs)

  pub got_group : (all : List (List ℕ)) (gs : List (Group Body)) (k : ℕ) → slice_get (convert_groups needs all gs) k ≡ mapped (convert_group needs (nth [] all k)) (slice_get gs k)
  got_group [] [] k = refl
  got_group (u ∷ all) [] k = refl
  got_group [] (g ∷ gs) zero = refl
  got_group [] (g ∷ gs) (suc k) = got_group [] gs k
  got_group (u ∷ all) (g ∷ gs) zero = refl
  got_group (u ∷ all) (g ∷ gs) (suc k) = got_group all gs k

  -- ---- how both belong together; each caller has its own list of what its group uses

  abbrev pub Callers : List Caller → List Caller → Type 0
  Callers [] [] = Unit {0}
  Callers [] (d ∷ ds) = ⊥
  Callers (c ∷ cs) [] = ⊥
  Callers (c ∷ cs) (d ∷ ds) =
      (used : List ℕ) × (d ≡ caller_as used c) × Sees needs used c.rest × SeesAround needs used c.around × SeesSegments needs used c.frame.body.segments × Callers cs ds

  abbrev pub SameEnd : End Waiting → End Waiting → Type 0
  SameEnd (Replies v) e = e ≡ Replies v
  SameEnd (Rejects v) e = e ≡ Rejects v
  SameEnd (Waits on w) e = (used : List ℕ) × (e ≡ Waits on (waiting_as used w)) × SeesSegments needs used w.frame.body.segments
  SameEnd (Traps text) e = e ≡ Traps text
  SameEnd Breaks e = e ≡ Breaks

  -- the same step: at the same cost, with the same prints, store and calls
  abbrev pub Same : Did → Did → Type 0
  Same (Go cost prints world s) d =
      (used : List ℕ) × (cs : List Caller) × (d ≡ Go cost prints (world_as needs world) (state_as used s cs))
      × Sees needs used s.code × SeesAround needs used s.around × SeesSegments needs used s.frame.body.segments × Callers s.callers cs
  Same (Ends cost prints world e) d = (e' : End Waiting) × (d ≡ Ends cost prints (world_as needs world) e') × SameEnd e e'

  pub same_depth : (cs ds : List Caller) → Callers cs ds → depth_of ds ≡ depth_of cs
  same_depth [] [] h = refl
  same_depth [] (d ∷ ds) h = absurd h
  same_depth (c ∷ cs) [] h = absurd h
  same_depth (c ∷ cs) (d ∷ ds) h = cc (ap (λ d. d.frame.body.nodes) (h.1), same_depth cs ds (h.5))

  abbrev pub sent_as : Sent → Sent
  sent_as (Sends cost world future) = Sends cost (world_as needs world) future
  sent_as Refused = Refused
  sent_as (TooLong cost) = TooLong cost
  sent_as NoCall = NoCall

  abbrev pub awaited_as : Awaited → Awaited
  awaited_as (Suspends cost world on) = Suspends cost (world_as needs world) on
  awaited_as NoRoom = NoRoom
  awaited_as NoFuture = NoFuture
