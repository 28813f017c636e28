-- A pass from one language to another keeps the meaning of programs: each way in which an execution of the new program comes
-- out is one of the old program.
use Rattle.std.specs.Prelude.{◌≡◌, ⊤, ℕ, suc, ◌+◌, List, [], ◌∷◌, length, Option, Some, None, Bool, true, false, cond}
use Rattle.play_script.specs.declared.event.Event.{Event}
use Rattle.play_script.specs.declared.event.Event.TheVariants as event
use Rattle.mo_types.specs.Calls.{Call, is_open_state, call_at}
use Rattle.mo_actor.specs.Languages.{Language}
use Rattle.mo_actor.specs.Programs.{OutgoingCall, Ending, Answers, Awaits, AwaitsNothing, Unchanged, Effects, Program}
use Rattle.mo_actor.specs.Measures.{Measure}
use Rattle.mo_actor.specs.Results.{Result, Completed, Trapped, Exhausted, HasResult}
use Rattle.mo_actor.specs.States.{Activation, Actor, activation_at, is_answered, waiting_on}
use Rattle.mo_actor.specs.Completions.{committed}
use Rattle.mo_actor.specs.IncomingCalls.{arrived, entered}
use Rattle.mo_actor.specs.CallAnswers.{Received, Reply, Reject, received_value, filled, broken, answering}
use Rattle.mo_actor.specs.Upgrades.{saving}

abbrev pub answer_event : ℕ → Received → Event
answer_event number (Reply bytes) = event.Reply number bytes
answer_event number (Reject code text) = event.Reject number code text

-- ---- what executions can see of an actor

-- A call, and while it is open the expression that waits for it.
pub record HeldCall (L : Language) : Type 0 where
  pub call : Call L.results L.value
  pub waiting : Option L.waiting

pub record CommittedState (L : Language) : Type 0 where
  pub store : L.store
  pub first : ℕ
  pub calls : List (HeldCall L)

module _ {L : Language} where
  abbrev pub held_calls : ℕ → List (Call L.results L.value) → List (Activation L) → List (HeldCall L)
  held_calls number [] activations = []
  held_calls number (c ∷ calls) activations =
      record { call = c; waiting = cond (is_open_state c.state) (waiting_on number (activation_at activations c.owner)) None } ∷ held_calls (suc number) calls activations

  abbrev pub committed_state : Actor L → CommittedState L
  committed_state a = record { store = a.store; first = a.table.first; calls = held_calls a.table.first a.table.calls a.activations }

  -- of an actor whose program has begun
  abbrev pub fresh_state : L.store → ℕ → CommittedState L
  fresh_state store made = record { store = store; first = made; calls = [] }

-- ---- what the run of an actor sees

-- Of a call.
pub record CallShape : Type 0 where
  pub owner : ℕ
  pub is_open : Bool

abbrev pub call_shapes : {T V : Type 0} → List (Call T V) → List CallShape
call_shapes [] = []
call_shapes (c ∷ calls) = record { owner = c.owner; is_open = is_open_state c.state } ∷ call_shapes calls

-- Both came out alike.
abbrev pub AlikeResults : {A B : Type 0} → (ℕ → ℕ → A → B → Type 0) → Result A → Result B → Type 0
AlikeResults Both (Completed prints weight a) (Completed shown other b) = (prints ≡ shown) × Both weight other a b
AlikeResults Both (Trapped prints text) (Trapped shown said) = (prints ≡ shown) × (text ≡ said)
AlikeResults Both (Exhausted prints cause) (Exhausted shown word) = (prints ≡ shown) × (cause ≡ word)
AlikeResults Both _ _ = ⊥

-- Both have the name, or neither.
abbrev pub AlikeMethods : {A B : Type 0} → (A → B → Type 0) → Option A → Option B → Type 0
AlikeMethods Does None None = ⊤
AlikeMethods Does (Some a) (Some b) = Does a b
AlikeMethods Does _ _ = ⊥

module _ {S T : Language} where
  abbrev pub AlikeActivations : List (Activation S) → List (Activation T) → Type 0
  AlikeActivations [] [] = ⊤
  AlikeActivations (x ∷ xs) (y ∷ ys) = (is_answered x ≡ is_answered y) × AlikeActivations xs ys
  AlikeActivations _ _ = ⊥

  abbrev pub AlikeCalls : List (OutgoingCall S) → List (OutgoingCall T) → Type 0
  AlikeCalls [] [] = ⊤
  AlikeCalls (c ∷ calls) (d ∷ others) = (c.callee ≡ d.callee) × (c.method ≡ d.method) × (c.argument ≡ d.argument) × AlikeCalls calls others
  AlikeCalls _ _ = ⊥

  abbrev pub AlikeEndings : Ending S → Ending T → Type 0
  AlikeEndings (Answers answer) (Answers other) = answer ≡ other
  AlikeEndings (Awaits m v) (Awaits n w) = ⊤
  AlikeEndings AwaitsNothing AwaitsNothing = ⊤
  AlikeEndings Unchanged Unchanged = ⊤
  AlikeEndings _ _ = ⊥

  -- Related ties committed states of the two programs, and Weighs what they weigh.
  module _ (Related : CommittedState S → CommittedState T → Type 0) (Weighs : ℕ → ℕ → Type 0) where
    pub record AlikeActors (a : Actor S) (b : Actor T) : Type 0 where
      pub first : a.table.first ≡ b.table.first
      pub calls : call_shapes a.table.calls ≡ call_shapes b.table.calls
      pub activations : AlikeActivations a.activations b.activations
      pub charged : Weighs a.charged b.charged
      pub related : Related (committed_state a) (committed_state b)

    pub record AlikeEffects (a : Actor S) (b : Actor T) (owner weight other : ℕ) (effects : Effects S) (done : Effects T) : Type 0 where
      pub weighs : Weighs weight other
      pub calls : AlikeCalls effects.calls done.calls
      pub ending : AlikeEndings effects.ending done.ending
      pub related : Related (committed_state (committed owner weight effects a)) (committed_state (committed owner other done b))

-- The old program, of S, does what the new one, of T, does, on the events that are given.
module _ {S T : Language} (Related : CommittedState S → CommittedState T → Type 0) (AlikeKept : S.kept → T.kept → Type 0) (Weighs : ℕ → ℕ → Type 0) (Given : Event → Type 0)
    (pays_old pays_new : Measure) (own : List ℕ) (p : Program S) (q : Program T) where
  pub record Keeps : Type 0 where
    pub adds : (x y z w : ℕ) → Weighs x y → Weighs z w → Weighs (x + z) (y + w)
    pub installs : (r : Result T.store) → HasResult pays_new q.first_memory 0 (q.start own None) r
        → (o : Result S.store) × HasResult pays_old p.first_memory 0 (p.start own None) o
        × AlikeResults (λ x y s t. Weighs x y × ((made : ℕ) → Related (fresh_state s made) (fresh_state t made))) o r
    pub starts : (kept : S.kept) (there : T.kept) → AlikeKept kept there
        → (r : Result T.store) → HasResult pays_new q.first_memory 0 (q.start own (Some there)) r
        → (o : Result S.store) × HasResult pays_old p.first_memory 0 (p.start own (Some kept)) o
        × AlikeResults (λ x y s t. Weighs x y × ((made : ℕ) → Related (fresh_state s made) (fresh_state t made))) o r
    pub saves : (number : ℕ) → Given (event.Upgrade number) → (a : Actor S) (b : Actor T) → AlikeActors Related Weighs a b
        → (r : Result T.kept) → HasResult pays_new q.first_memory b.charged (saving q own b) r
        → (o : Result S.kept) × HasResult pays_old p.first_memory a.charged (saving p own a) o × AlikeResults (λ x y s t. AlikeKept s t) o r
    pub updates : (a : Actor S) (b : Actor T) → AlikeActors Related Weighs a b → (name : List ℕ)
        → AlikeMethods (λ m n. (caller argument : List ℕ) → Given (event.Call false name caller argument)
        → (r : Result (Effects T)) → HasResult pays_new q.first_memory b.charged (entered q own b n caller argument) r
        → (o : Result (Effects S)) × HasResult pays_old p.first_memory a.charged (entered p own a m caller argument) o
        × AlikeResults (AlikeEffects Related Weighs (arrived a) (arrived b) (length a.activations)) o r)
        (p.update name) (q.update name)
    pub queries : (a : Actor S) (b : Actor T) → AlikeActors Related Weighs a b → (name : List ℕ)
        → AlikeMethods (λ m n. (query : Bool) (caller argument : List ℕ) → Given (event.Call query name caller argument)
        → (r : Result (Effects T)) → HasResult pays_new q.first_memory b.charged (entered q own b n caller argument) r
        → (o : Result (Effects S)) × HasResult pays_old p.first_memory a.charged (entered p own a m caller argument) o
        × AlikeResults (λ x y s t. AlikeEndings s.ending t.ending) o r)
        (p.query name) (q.query name)
    pub answers : (a : Actor S) (b : Actor T) → AlikeActors Related Weighs a b → (number : ℕ) (c : Call S.results S.value) (d : Call T.results T.value)
        → call_at a.table number ≡ Some c → call_at b.table number ≡ Some d → is_open_state c.state ≡ true → is_open_state d.state ≡ true
        → (received : Received) → Given (answer_event number received)
        → ((r : Result (Effects T)) → HasResult pays_new q.first_memory b.charged (answering q own b number d received) r
        → (o : Result (Effects S)) × HasResult pays_old p.first_memory a.charged (answering p own a number c received) o
        × AlikeResults (AlikeEffects Related Weighs (filled number (received_value p own a c received) a) (filled number (received_value q own b d received) b) c.owner) o r
        × Related (committed_state (broken number c.owner a)) (committed_state (broken number d.owner b)))

-- Each program of the one list does what that in its place in the other does.
abbrev pub AllKeep : {S T : Language} → (Program S → Program T → CommittedState S → CommittedState T → Type 0) → (S.kept → T.kept → Type 0) → (ℕ → ℕ → Type 0) → (Event → Type 0)
    → Measure → Measure → List ℕ → List (Program S) → List (Program T) → Type 0
AllKeep Related AlikeKept Weighs Given pays_old pays_new own [] [] = ⊤
AllKeep Related AlikeKept Weighs Given pays_old pays_new own (p ∷ ps) (q ∷ qs) =
    Keeps (Related p q) AlikeKept Weighs Given pays_old pays_new own p q × AllKeep Related AlikeKept Weighs Given pays_old pays_new own ps qs
AllKeep Related AlikeKept Weighs Given pays_old pays_new own _ _ = ⊥
