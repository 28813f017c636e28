-- Incoming calls that lack their answer.
use Rattle.std.proofs.Common.{◌≡◌, ℕ, zero, suc, List, [], ◌∷◌, ◌++◌, set, Bool, true, false, cond, nat_eq, Some, refl, sym, ap, ap₂, ◌∙◌, subst}
use Rattle.std.specs.Prelude.{◌&&◌, ◌||◌, not, codes, slice_get, slice_set}
use Rattle.std.specs.List.{list_any}
use Rattle.std.proofs.lemmas.List.{map-set}
use Rattle.play_script.specs.declared.item.Item.TheVariants as item
use Rattle.mo_types.specs.Calls.{Call, is_open_state}
use Rattle.mo_types.specs.declared.node.TypeId.{TypeId}
use Rattle.mo_actor.specs.Outcomes.{close, outcome, rejected}
use Rattle.mo_actor.specs.States as actor
use Rattle.mo_actor.specs.States.{IsAnswered, activation_at, is_starved}
use Rattle.typed_tree.specs.Language.{Functions}
use Rattle.mo_meaning.specs.Acts.{Given}
use Rattle.mo_meaning.specs.Coding.{Coding, Types}
use Rattle.mo_machine.specs.ActorLanguage.{machine}
use Rattle.value_arena.specs.declared.node.Node.{Node}
use Rattle.arena_actors.specs.declared.actor.Activation.{Activation}
use Rattle.arena_actors.specs.declared.actor.Activation.TheVariants as activation
use Rattle.arena_actors.specs.declared.actor.Actor.{Actor}
use Rattle.arena_actors.specs.declared.actor.Filled.{Filled}
use Rattle.arena_actors.specs.declared.actor.Filled.TheVariants as filled
use Rattle.arena_actors.specs.declared.actor.Made.{Made}
use Rattle.arena_actors.specs.States.{activation_of, actor_of, calls_of, came_of, state_of, AreAtRest, AreCameWithin, IsActivationWithin, IsSound, Rests}
use Rattle.arena_actors.proofs.Resting.{rest_set}
use Rattle.arena_outcomes.specs.declared.ran.Over.{Over}
use Rattle.arena_outcomes.specs.Books as books
use Rattle.arena_outcomes.specs.Books.{closed, is_answered, is_open, is_owned, starved}

module _ (groups : ℕ → Functions) (ns : List Node) where
  answered_one : (x : Activation) → actor.is_answered (activation_of groups ns x) ≡ is_answered (Some x)
  answered_one activation.Answered = refl
  answered_one activation.Dead = refl
  answered_one (activation.WaitsFor number b) = refl
  answered_one activation.WaitsForNothing = refl

  pub answered_is : (xs : List Activation) (owner : ℕ) → actor.is_answered (activation_at (came_of groups ns xs) owner) ≡ is_answered (slice_get xs owner)
  answered_is [] owner = refl
  answered_is (x ∷ xs) zero = answered_one x
  answered_is (x ∷ xs) (suc owner) = answered_is xs owner

  pub came_set : (xs : List Activation) (owner : ℕ) (x : Activation) → came_of groups ns (slice_set xs owner x) ≡ slice_set (came_of groups ns xs) owner (activation_of groups ns x)
  came_set xs owner x = map-set (λ (y : Activation). activation_of groups ns y) xs owner x

module _ (coding : Coding) (types : Types) where
  pub open_is : (f : Filled) → is_open_state (state_of coding types f) ≡ is_open f
  open_is filled.Open = refl
  open_is (filled.Replied ts bytes) = refl
  open_is (filled.Rejected code text) = refl
  open_is filled.Neither = refl
  open_is filled.Lost = refl

  owned_is : (owner : ℕ) (ms : List Made) → list_any (λ (c : Call (List TypeId) Given). is_open_state c.state && nat_eq c.owner owner) (calls_of coding types ms) ≡ list_any (λ m. is_owned owner m) ms
  owned_is owner [] = refl
  owned_is owner (m ∷ ms) = ap₂ (λ (a b : Bool). (a && nat_eq m.owner owner) || b) (open_is m.state) (owned_is owner ms)

  module _ (groups : ℕ → Functions) where
    pub starved_is : (owner : ℕ) (x : Actor) (charged : ℕ) → is_starved owner (actor_of coding types groups x charged) ≡ starved owner x.made x.came
    starved_is owner x charged = ap₂ (λ (a b : Bool). not a && not b) (answered_is groups x.arena x.came owner) (owned_is owner x.made)

    abbrev was : ℕ → Over → actor.Actor machine
    was charged o = actor_of coding types groups o.actor charged

    abbrev with_came : ℕ → Over → List (actor.Activation machine) → actor.Actor machine
    with_came charged o xs = record (was charged o) { activations = xs }

    -- the incoming call is rejected if it is starved
    pub close_is : (owner charged : ℕ) (o : Over)
        → close owner o.items (actor_of coding types groups o.actor charged) ≡ outcome (closed owner o).items (actor_of coding types groups (closed owner o).actor charged)
    close_is owner charged o =
        ap (λ (b : Bool). cond b (rejected owner 5 (codes "no answer") o.items (was charged o)) (outcome o.items (was charged o))) (starved_is owner o.actor charged)
        ∙ by (starved owner o.actor.made o.actor.came)
      where
        by : (b : Bool) → cond b (rejected owner 5 (codes "no answer") o.items (was charged o)) (outcome o.items (was charged o))
            ≡ outcome (cond b (books.rejected owner o) o).items (actor_of coding types groups (cond b (books.rejected owner o) o).actor charged)
        by true = ap (λ (xs : List (actor.Activation machine)). outcome (o.items ++ item.Rejected owner 5 (codes "no answer") ∷ []) (with_came charged o xs)) (sym (came_set groups o.actor.arena o.actor.came owner activation.Answered))
        by false = refl

-- ---- what is kept

pub came_within_set : (ns : List Node) (xs : List Activation) (i : ℕ) (x : Activation) → AreCameWithin ns xs → IsActivationWithin ns x → AreCameWithin ns (set xs i x)
came_within_set ns [] i x h k = tt
came_within_set ns (y ∷ xs) zero x h k = (k, h.1)
came_within_set ns (y ∷ xs) (suc i) x h k = (h.0, came_within_set ns xs i x h.1 k)

pub closed_sound : (owner : ℕ) (o : Over) → IsSound o.actor → IsSound (closed owner o).actor
closed_sound owner o sound = by (starved owner o.actor.made o.actor.came)
  where
    by : (b : Bool) → IsSound (cond b (books.rejected owner o) o).actor
    by true = record { stores = sound.stores; exports = sound.exports; came = came_within_set o.actor.arena o.actor.came owner activation.Answered sound.came tt }
    by false = sound

pub closed_table : (owner : ℕ) (o : Over) → (closed owner o).actor.table.items ≡ o.actor.table.items
closed_table owner o = by (starved owner o.actor.made o.actor.came)
  where
    by : (b : Bool) → (cond b (books.rejected owner o) o).actor.table.items ≡ o.actor.table.items
    by true = refl
    by false = refl

pub closed_rests : (groups : ℕ → Functions) (owner : ℕ) (o : Over) → Rests groups o.actor → Rests groups (closed owner o).actor
closed_rests groups owner o rests = by (starved owner o.actor.made o.actor.came)
  where
    by : (b : Bool) → Rests groups (cond b (books.rejected owner o) o).actor
    by true =
        let Of : List (actor.Activation machine) → Type 0 = λ xs. AreAtRest xs in
        subst Of (sym (came_set groups o.actor.arena o.actor.came owner activation.Answered)) (rest_set (came_of groups o.actor.arena o.actor.came) owner IsAnswered rests tt)
    by false = rests
