-- How states of the actor of a new program belong to those of an old one.
use Rattle.std.specs.Prelude.{◌≡◌, ⊤, ℕ, ◌*◌, ◌≤◌, List, [], ◌∷◌, Option, Some, None}
use Rattle.mo_values.specs.Shapes.{Bytes}
use Rattle.mo_actor.specs.Passes.{HeldCall, CommittedState}
use Rattle.core_ir.specs.Values.{Value}
use Rattle.core_ir.specs.Programs.{Program}
use Rattle.core_ir.specs.Worlds.{World}
use Rattle.core_ir.specs.Executions.{Machine}
use Rattle.core_ir.specs.Messages.{Messages}
use Rattle.core_ir.specs.Actor.{Pending, core_language, alone}
use Rattle.core_laws.specs.Followed.{FieldsAlike, PendingAlike}

module _ {S T V W K B C : Type 0} (times : ℕ) (moved : World → World) (old : Machine S V) (new : Machine T W) (messages : Messages K) (p : Program B) (q : Program C) (own : Bytes)
    (Safe : CommittedState (core_language V K) → Type 0) (Fits : K → Type 0) where
  -- what waits goes on alike, in an actor with these own names
  abbrev pub WaitingAlike : List Value → Option (Pending V) → Option (Pending W) → Type 0
  WaitingAlike names None None = ⊤
  WaitingAlike names (Some x) (Some y) = PendingAlike times moved old new messages p q (alone old messages p own names) x y
  WaitingAlike names _ _ = ⊥

  abbrev pub HeldAlike : List Value → HeldCall (core_language V K) → HeldCall (core_language W K) → Type 0
  HeldAlike names c d = (d.call ≡ c.call) × WaitingAlike names c.waiting d.waiting

  abbrev pub HeldAll : List Value → List (HeldCall (core_language V K)) → List (HeldCall (core_language W K)) → Type 0
  HeldAll names [] [] = ⊤
  HeldAll names (c ∷ cs) (d ∷ ds) = HeldAlike names c d × HeldAll names cs ds
  HeldAll names _ _ = ⊥

  pub record Related (s : CommittedState (core_language V K)) (t : CommittedState (core_language W K)) : Type 0 where
    pub safe : Safe s
    pub store : FieldsAlike times moved old new messages p q s.store t.store
    pub calls : HeldAll s.store.names s.calls t.calls

  -- of what upgrades hand on, and of weights
  abbrev pub SameKept : K → K → Type 0
  SameKept k l = (l ≡ k) × Fits k

  abbrev pub Weighs : ℕ → ℕ → Type 0
  Weighs x y = y ≤ times * x
