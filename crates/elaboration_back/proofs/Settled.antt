-- Executions of an actor that keeps the machine's states stay as they are once they have ended.
use Rattle.std.proofs.Common.{◌≡◌, ℕ, zero, suc, Some, None, refl, ap, subst, Option}
use Rattle.mo_values.specs.Shapes.{Bytes}
use Rattle.mo_actor.specs.Executions.{Completion, Progress, Settles}
use Rattle.mo_actor.specs.Programs.{IsSettled}
use Rattle.typed_tree.specs.Programs.{Program}
use Rattle.mo_meaning.specs.Acts.{Given}
use Rattle.mo_meaning.specs.Actor.{surroundings}
use Rattle.mo_meaning.specs.Coding.{Types, Coding}
use Rattle.mo_meaning.specs.Configurations.{Surroundings}
use Rattle.mo_meaning.specs.Kernel.{Kept}
use Rattle.mo_meaning.specs.Saving.{alone, kept_progress}
use Rattle.mo_machine.specs.ActorLanguage.{Fields, Body, Enters, Resumes}
use Rattle.mo_machine.specs.Bodies.{shared_progress, execution_of}
use Rattle.mo_machine.specs.Configurations.{Configuration, End, Run, Still, Ended}
use Rattle.mo_machine.specs.Runs.{unload_run}
use Rattle.mo_machine.specs.Starting.{start_from, fields_progress, start_of, saving_from, save_of}
use Rattle.mo_machine.specs.States.{with_states}
use Rattle.mo_machine.specs.Turns.{turns, turns_given, then_steps, step, settled, given_step, as_reply}
use Rattle.mo_machine.specs.Unload.{unload}

abbrev IsStill : Run → Type 0
IsStill (Still c) = Unit {0}
IsStill (Ended c end) = ⊥

still_no_end : (c d : Configuration) (end : End) → Still c ≡ Ended d end → ⊥
still_no_end c d end h = subst IsStill h tt

abbrev IsNone : {A : Type 0} → Option A → Type 0
IsNone None = Unit {0}
IsNone (Some a) = ⊥

none_some : {A : Type 0} (o : Option A) (a : A) → o ≡ None → o ≡ Some a → ⊥
none_some o a e h = cc (e, h)

module _ (s : Surroundings) where
  -- what ends within n turns ends so within one more
  abbrev StaysAt : ℕ → Type 0
  StaysAt n = (c d : Configuration) (end : End) → turns s n c ≡ Ended d end → turns s (suc n) c ≡ Ended d end

  then_stays : (n : ℕ) → StaysAt n → (r : Run) (d : Configuration) (end : End) → then_steps s (turns s n) r ≡ Ended d end → then_steps s (turns s (suc n)) r ≡ Ended d end
  then_stays n ih (Still c) d end h = ih c d end h
  then_stays n ih (Ended c e) d end h = h

  stays : (n : ℕ) → StaysAt n
  stays zero c d end h = absurd (still_no_end c d end h)
  stays (suc n) c d end h = then_stays n (stays n) (step s (settled c)) d end h

  given_stays : (g : Given) (n : ℕ) (c d : Configuration) (end : End) → turns_given s g n c ≡ Ended d end → turns_given s g (suc n) c ≡ Ended d end
  given_stays g zero c d end h = absurd (still_no_end c d end h)
  given_stays g (suc n) c d end h = then_stays n (stays n) (given_step s g (settled c) _) d end h

-- ---- what is made of runs that stay

module _ {A : Type 0} (x : ℕ → Run) (stay : (n : ℕ) (d : Configuration) (end : End) → x n ≡ Ended d end → x (suc n) ≡ Ended d end) (f : Run → Progress A) (going : (c : Configuration) → (f (Still c)).completion ≡ None) where
  settled_at : (n : ℕ) (r : Run) → x n ≡ r → (end : Completion A) → (f r).completion ≡ Some end → f (x (suc n)) ≡ f r
  settled_at n (Still c) e end h = absurd (none_some (f (Still c)).completion end (going c) h)
  settled_at n (Ended c q) e end h = ap f (stay n c q e)

  settles : Settles (λ n. f (x n))
  settles n end h = settled_at n (x n) refl end h

-- ---- the executions of a program

module _ (coding : Coding) (types : Types) (p : Program) where
  body_settles : (s : Surroundings) (fields : Fields) (body : Body) → Settles (execution_of s fields body)
  body_settles s fields (Enters entry caller vs) =
      settles (λ n. turns s n _) (λ n d end h. stays s n _ d end h) (λ r. shared_progress fields entry.results (as_reply s entry.results r)) (λ c. refl)
  body_settles s fields (Resumes w g) =
      settles (λ n. turns_given s g n _) (λ n d end h. given_stays s g n _ d end h) (λ r. shared_progress fields w.results (as_reply s w.results r)) (λ c. refl)

  start_settles : (own : Bytes) (kept : Option Kept) → Settles (start_of coding types p own kept)
  start_settles own kept =
      settles (λ n. turns (alone coding types own) n (start_from coding types p own kept)) (λ n d end h. stays (alone coding types own) n (start_from coding types p own kept) d end h)
      fields_progress (λ c. refl)

  save_settles : (own : Bytes) (fields : Fields) → Settles (save_of coding types p own fields)
  save_settles own fields =
      settles (λ n. turns (alone coding types own) n (saving_from p fields))
      (λ n d end h. stays (alone coding types own) n (saving_from p fields) d end h)
      (λ r. kept_progress coding types p (unload fields.exports) (unload_run r)) (λ c. refl)

  pub all_settle : (first : ℕ) → IsSettled (with_states coding first types p)
  all_settle first = record {
    run = λ own table fields body. body_settles (surroundings coding types own table) fields body;
    start = λ own kept. start_settles own kept;
    save = λ own fields. save_settles own fields;
  }
