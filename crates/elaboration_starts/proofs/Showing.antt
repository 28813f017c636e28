-- While two executions go on alike, Core shows no more than the first where it shows no more than the second.
use Rattle.std.proofs.Common.{◌≡◌, ℕ, ◌+◌, ◌*◌, ◌≤◌, List, [], Option, Some, None, refl, sym, ap, ◌∙◌, subst, arith}
use Rattle.std.specs.Prelude.{max}
use Rattle.mo_types.specs.Graph.{head_at}
use Rattle.mo_values.specs.Costs.{weighing}
use Rattle.mo_values.specs.Shapes.{Bytes}
use Rattle.mo_actor.specs.Executions.{Progress, Completion}
use Rattle.mo_actor.specs.Executions as actor_end
use Rattle.mo_actor.specs.Results.{IsPrefix}
use Rattle.core_ir.specs.Actor as core_actor
use Rattle.core_ir.specs.CoreMachine.{State, Waiting}
use Rattle.core_ir.specs.Executions as execution
use Rattle.core_ir.specs.Executions.{Stand}
use Rattle.core_ir.specs.Expressions.{Core}
use Rattle.core_ir.specs.Worlds.{World, Context}
use Rattle.typed_tree.specs.Programs.{Program}
use Rattle.mo_meaning.specs.Coding.{Types, Coding}
use Rattle.mo_meaning.specs.Kernel.{Outgoing}
use Rattle.mo_machine.specs.Acts.{Store}
use Rattle.mo_machine.specs.ActorLanguage.{Fields}
use Rattle.mo_machine.specs.Configurations.{Configuration, Returns, Traps, Run, Still, Ended, End}
use Rattle.mo_machine.specs.Frames as machine
use Rattle.mo_machine.specs.Frames.{Stack}
use Rattle.mo_machine.specs.Turns.{rejects}
use Rattle.elaboration.specs.Playing.{messages_of}
use Rattle.elaboration.specs.Programs.{elaborated}
use Rattle.elaboration_values.specs.Belonging.{Known}
use Rattle.elaboration_steps.specs.Stacks.{owed}
use Rattle.elaboration_runs.specs.Ending.{Shows, Finish, Returned, Thrown, Trapped, Suspended, Asleep, Covers}
use Rattle.elaboration_actors.specs.Actors.{Begun}
use Rattle.elaboration_actors.specs.Bodies.{reached, CompletionsBelong, ShownWhole}
use Rattle.elaboration_starts.specs.Starts.{ActorStands}
use Rattle.elaboration_starts.proofs.Alongside.{conf, Halts}
use Rattle.elaboration_starts.proofs.Starting as starting
use Rattle.elaboration_starts.proofs.Starting.{no_more, rejection, Pays, pays_with}

module _ (times : ℕ) (enough : 3 ≤ times) (coding : Coding) (types : Types) (p : Program) (own : Bytes) (head_is : (elaborated p).head ≡ head_at types) (a : ActorStands p) (extra floor : ℕ) where
  abbrev code : Core
  code = elaborated p

  abbrev context : Context
  context = starting.context times enough coding types p own head_is a

  abbrev B : Fields → core_actor.Fields → Type 0
  B = Begun coding types p code (messages_of coding types p) own

  abbrev n : ℕ
  n = p.nodes

  abbrev X : Run → Progress Fields
  X = starting.X times enough coding types p own head_is a

  abbrev Y : Stand State Waiting → Progress core_actor.Fields
  Y = starting.Y times enough coding types p own head_is a

  abbrev Ends-so : Type 0
  Ends-so = Option (Completion core_actor.Fields)

  abbrev Fin : List Known → ℕ → ℕ → List Bytes → World → Run → execution.End Waiting → Type 0
  Fin = Finish code context n

  module _ (x w d d' : ℕ) (prints : List Bytes) (calls : List Outgoing) (store : Store) (f : machine.Focus) (k : Stack) (g : machine.Focus) (l : Stack) (paid : extra + 2 * w ≤ 2 * x) (le : max floor d' ≤ d) (owes : owed k ≡ owed l) (rich : 2 * x + owed k ≤ times * x) where
    abbrev one : Configuration
    one = conf x d prints calls store f k

    abbrev two : Configuration
    two = conf w d' prints calls store g l

    weighs : (wy : ℕ) → wy ≤ 2 * w + owed l → extra + wy ≤ times * x
    weighs wy h = omega (arith, h, paid, owes, rich)

    -- no more than the second, which ends so
    at_most : (r : Run) → reached r ≡ one → (c : Configuration) → (two.prints ≡ c.prints) × (c.weight ≤ w) × (c.depth ≤ d') × (owed l ≡ owed c.stack) → (wy dy : ℕ) (py : List Bytes) (completion : Ends-so) → Shows code context n c wy dy py → ShownWhole times B prints py completion
        → CompletionsBelong times B (X r).completion completion → Pays times enough coding types p own head_is a extra floor (X r) (core_actor.progress wy dy py (weighing 0) completion)
    at_most r is c (same, light, shallow, owing) wy dy py completion shows whole belongs =
        pays_with times enough coding types p own head_is a extra floor r wy dy py completion (subst (λ (o : Configuration). IsPrefix py o.prints) (sym is) ([], same ∙ (sym shows.prints_are ∙ no_more py)))
        (subst (λ (o : Configuration). extra + wy ≤ times * o.weight) (sym is) (weighs wy (let z : wy ≤ 2 * c.weight + owed c.stack = shows.light in omega (arith, z, light, owing))))
        (subst (λ (o : Configuration). max floor dy ≤ o.depth) (sym is) (let z : dy ≤ c.depth = shows.shallow in omega (arith, z, shallow, le)))
        (subst (λ (o : Configuration). ShownWhole times B o.prints py completion) (sym is) whole) belongs

    still_shown : (r : Run) → reached r ≡ one → (wy dy : ℕ) (py : List Bytes) → IsPrefix py prints → wy ≤ 2 * w + owed l → dy ≤ d' → Pays times enough coding types p own head_is a extra floor (X r) (core_actor.progress wy dy py (weighing 0) None)
    still_shown r is wy dy py b h i =
        pays_with times enough coding types p own head_is a extra floor r wy dy py None (subst (λ (o : Configuration). IsPrefix py o.prints) (sym is) b) (subst (λ (o : Configuration). extra + wy ≤ times * o.weight) (sym is) (weighs wy h)) (subst (λ (o : Configuration). max floor dy ≤ o.depth) (sym is) (omega (arith, i, le))) tt tt

    same_two : (c : Configuration) → two ≡ c → (two.prints ≡ c.prints) × (c.weight ≤ w) × (c.depth ≤ d') × (owed l ≡ owed c.stack)
    same_two c e = subst (λ (o : Configuration). (two.prints ≡ o.prints) × (o.weight ≤ w) × (o.depth ≤ d') × (owed l ≡ owed o.stack)) e (refl, omega arith, omega arith, refl)

    over_shown : (end : End) → Halts end → (known : List Known) (wy dy : ℕ) (py : List Bytes) (wo : World) (r : Run) (e : execution.End Waiting) → r ≡ Ended two end → Fin known wy dy py wo r e → Pays times enough coding types p own head_is a extra floor (X (Ended one end)) (Y (execution.Over wy dy py wo e))
    over_shown end halts known wy dy py wo r e i (Returned c v u shows leaves value) = absurd (subst (λ o. Halts o) (sym (starting.end_is times enough coding types p own head_is a c two (Returns v) end i)) halts)
    over_shown end halts known wy dy py wo r e i (Suspended c call stack shows leaves stops) = absurd (subst (λ o. Halts o) (sym (starting.end_is times enough coding types p own head_is a c two _ end i)) halts)
    over_shown end halts known wy dy py wo r e i (Asleep c stack shows leaves) = absurd (subst (λ o. Halts o) (sym (starting.end_is times enough coding types p own head_is a c two _ end i)) halts)
    over_shown end halts known wy dy py wo r e i (Trapped c text shows) =
        subst (λ o. Pays times enough coding types p own head_is a extra floor (X (Ended one o)) (core_actor.progress wy dy py (weighing 0) (Some (actor_end.Traps text)))) (starting.end_is times enough coding types p own head_is a c two (Traps text) end i)
        (at_most (Ended one (Traps text)) refl c (same_two c (sym (starting.conf_is times enough coding types p own head_is a c two (Traps text) end i))) wy dy py (Some (actor_end.Traps text)) shows (shows.prints_are ∙ sym ((same_two c (sym (starting.conf_is times enough coding types p own head_is a c two (Traps text) end i))).0)) refl)
    over_shown end halts known wy dy py wo r e i (Thrown c error u shows leaves value) =
        let z : reached (rejects c error) ≡ two = ap reached i in
        let q = subst (λ (o : Configuration). (o.prints ≡ c.prints) × (c.weight ≤ o.weight) × (c.depth ≤ o.depth) × (o.stack ≡ c.stack)) z (rejection c error) in
        at_most (Ended one end) refl c (q.0, q.1, q.2, ap owed (q.3)) wy dy py None shows tt tt

    pub both_shown : (y : Stand State Waiting) → Covers code context n [] (Still two) y → Pays times enough coding types p own head_is a extra floor (X (Still one)) (Y y)
    both_shown (execution.Still wy dy py wo st) h = still_shown (Still one) refl wy dy py (h.0) (h.1) (h.2)
    both_shown (execution.Over wy dy py wo e) h = absurd (starting.nothing_left times enough coding types p own head_is a (h.0) wy dy py wo _ e two (h.2) refl)

    pub ended_shown : (end : End) → Halts end → (y : Stand State Waiting) → Covers code context n [] (Ended two end) y → Pays times enough coding types p own head_is a extra floor (X (Ended one end)) (Y y)
    ended_shown end halts (execution.Still wy dy py wo st) h = still_shown (Ended one end) refl wy dy py (h.0) (h.1) (h.2)
    ended_shown end halts (execution.Over wy dy py wo e) h = over_shown end halts (h.0) wy dy py wo _ e refl (h.2)
