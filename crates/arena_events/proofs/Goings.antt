-- What goes on: the body that waits, taken out of its actor.
use Rattle.std.proofs.Common.{◌≡◌, ℕ, zero, suc, List, [], ◌∷◌, Bool, true, false, cond, nat_eq, Option, Some, None, refl, sym, ap, ◌∙◌, subst}
use Rattle.std.specs.Prelude.{slice_get}
use Rattle.mo_types.specs.Graph.{Slot}
use Rattle.mo_values.specs.Shapes.{Bytes}
use Rattle.mo_actor.proofs.Lists.{from_some}
use Rattle.value_arena.specs.declared.node.Node.{Node}
use Rattle.arena_executions.specs.declared.giving.Given.{Given}
use Rattle.arena_executions.specs.Giving.{IsGivenWithin}
use Rattle.arena_actors.specs.declared.actor.Activation.{Activation}
use Rattle.arena_actors.specs.declared.actor.Activation.TheVariants as activation
use Rattle.arena_actors.specs.declared.actor.Actor.{Actor}
use Rattle.arena_actors.specs.declared.actor.Body.{Body}
use Rattle.arena_actors.specs.States.{AreCameWithin, IsActivationWithin, IsBodyWithin, IsSound}
use Rattle.arena_events.specs.declared.answering.Taken.{Taken}
use Rattle.arena_outcomes.specs.declared.ran.Ran.{Ran}
use Rattle.arena_outcomes.specs.declared.ran.Ran.TheVariants as ran
use Rattle.arena_events.specs.Answering.{no_effects, taken, taken_by, waiting_in, IsGoingWith}
use Rattle.arena_outcomes.specs.Running.{IsResumed}
use Rattle.arena_outcomes.proofs.Closes.{came_within_set}
use Rattle.arena_events.proofs.Replies.{idle_so, waiting_so}

-- ---- its values are in the arena

module _ (ns : List Node) (number : ℕ) (b : Body) where
  body_in : (a : Activation) → IsActivationWithin ns a → waiting_in number (Some a) ≡ Some b → IsBodyWithin ns b
  body_in activation.Answered h is = absurd (let e : None ≡ Some b = is in cc)
  body_in activation.Dead h is = absurd (let e : None ≡ Some b = is in cc)
  body_in (activation.WaitsFor other c) h is = by (nat_eq other number) is
    where
      by : (t : Bool) → cond t (Some c) None ≡ Some b → IsBodyWithin ns b
      by true e =
          let Of : Body → Type 0 = λ k. IsBodyWithin ns k in
          subst Of (from_some e) h
      by false e = absurd (cc)
  body_in activation.WaitsForNothing h is = absurd (let e : None ≡ Some b = is in cc)

  body_at : (xs : List Activation) (owner : ℕ) → AreCameWithin ns xs → waiting_in number (slice_get xs owner) ≡ Some b → IsBodyWithin ns b
  body_at [] owner h is = absurd (let e : None ≡ Some b = is in cc)
  body_at (x ∷ xs) zero h is = body_in x h.0 is
  body_at (x ∷ xs) (suc owner) h is = body_at xs owner h.1 is

module _ (number owner : ℕ) (x : Actor) where
  abbrev waits : Option Body
  waits = waiting_in number (slice_get x.came owner)

  sound_by : (o : Option Body) (t : Taken) → t ≡ taken_by owner x o → IsSound x → IsSound t.actor
  sound_by None t is sound = let Of : Taken → Type 0 = λ u. IsSound u.actor in subst Of (sym is) sound
  sound_by (Some b) t is sound =
      let Of : Taken → Type 0 = λ u. IsSound u.actor in
      subst Of (sym is) (record { stores = sound.stores; exports = sound.exports; came = came_within_set x.arena x.came owner activation.Dead sound.came tt })

  pub taken_sound : (t : Taken) → t ≡ taken owner number x → IsSound x → IsSound t.actor
  taken_sound t is sound = sound_by waits t is sound

  arena_by : (o : Option Body) (t : Taken) → t ≡ taken_by owner x o → x.arena ≡ t.actor.arena
  arena_by None t is = sym (ap (λ (u : Taken). u.actor.arena) is)
  arena_by (Some b) t is = sym (ap (λ (u : Taken). u.actor.arena) is)

  pub taken_given : (t : Taken) (given : Given) → t ≡ taken owner number x → IsGivenWithin x.arena given → IsGivenWithin t.actor.arena given
  taken_given t given is within = let Of : List Node → Type 0 = λ ns. IsGivenWithin ns given in subst Of (arena_by waits t is) within

  body_by : (o : Option Body) → waits ≡ o → (t : Taken) (b : Body) → t ≡ taken_by owner x o → t.body ≡ Some b → waits ≡ Some b
  body_by None none t b is some = absurd (let e : None ≡ Some b = sym (ap (λ (u : Taken). u.body) is) ∙ some in cc)
  body_by (Some c) there t b is some = there ∙ sym (ap (λ (u : Taken). u.body) is) ∙ some

  pub taken_body : (t : Taken) (b : Body) → t ≡ taken owner number x → t.body ≡ Some b → IsSound x → IsBodyWithin t.actor.arena b
  taken_body t b is some sound =
      let Of : List Node → Type 0 = λ ns. IsBodyWithin ns b in
      subst Of (arena_by waits t is) (body_at x.arena number b x.came owner sound.came (body_by waits refl t b is some))

  -- ---- what it comes to

  module _ (types : List Slot) (own : Bytes) (given : Given) (n : ℕ) where
    idle_by : (o : Option Body) → waits ≡ o → (t : Taken) → t ≡ taken_by owner x o → t.body ≡ None → IsSound x → IsGoingWith types own number owner given n x (ran.Completes (no_effects t.actor))
    idle_by None none t is nothing sound =
        let Of : Taken → Type 0 = λ u. IsGoingWith types own number owner given n x (ran.Completes (no_effects u.actor)) in
        subst Of (sym is) (idle_so types own number owner given n x none sound)
    idle_by (Some b) some t is nothing sound = absurd (let e : Some b ≡ None = sym (ap (λ (u : Taken). u.body) is) ∙ nothing in cc)

    pub idle_taken : (t : Taken) → t ≡ taken owner number x → t.body ≡ None → IsSound x → IsGoingWith types own number owner given n x (ran.Completes (no_effects t.actor))
    idle_taken t is nothing sound = idle_by waits refl t is nothing sound

    waiting_by : (o : Option Body) → waits ≡ o → (t : Taken) (b : Body) → t ≡ taken_by owner x o → t.body ≡ Some b → (r : Ran) → IsResumed types own given b n t.actor r
        → IsGoingWith types own number owner given n x r
    waiting_by None none t b is some r h = absurd (let e : None ≡ Some b = sym (ap (λ (u : Taken). u.body) is) ∙ some in cc)
    waiting_by (Some c) there t b is some r h =
        let Of : Taken → Type 0 = λ u. IsResumed types own given b n u.actor r in
        waiting_so types own number owner given n x b (there ∙ sym (ap (λ (u : Taken). u.body) is) ∙ some) r (subst Of is h)

    pub waiting_taken : (t : Taken) (b : Body) → t ≡ taken owner number x → t.body ≡ Some b → (r : Ran) → IsResumed types own given b n t.actor r → IsGoingWith types own number owner given n x r
    waiting_taken t b is some r h = waiting_by waits refl t b is some r h
