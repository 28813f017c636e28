-- Actors whose arena grows, and copies with one more incoming call.
use Rattle.std.proofs.Common.{◌≡◌, ℕ, List, [], ◌∷◌, ◌++◌, length, refl, sym, ap, ap₂, ◌∙◌, subst, arith}
use Rattle.std.proofs.lemmas.List.{length-map}
use Rattle.play_script.specs.declared.item.Item.{Item}
use Rattle.mo_actor.specs.Outcomes.{close, outcome}
use Rattle.mo_actor.specs.States as actor
use Rattle.typed_tree.specs.Language.{Functions}
use Rattle.mo_meaning.specs.Coding.{Coding, Types}
use Rattle.mo_machine.specs.ActorLanguage.{machine, Fields}
use Rattle.mo_machine.specs.Values.{Value}
use Rattle.value_arena.specs.declared.node.Node.{Node}
use Rattle.value_arena.specs.Growth.{Grows}
use Rattle.value_arena.proofs.Growing.{values_there}
use Rattle.arena_states.specs.declared.group.GroupOf.{GroupOf}
use Rattle.arena_reductions.proofs.Reducing.{list_stays}
use Rattle.arena_actors.specs.declared.actor.Activation.{Activation}
use Rattle.arena_actors.specs.declared.actor.Actor.{Actor}
use Rattle.arena_actors.specs.Copied.{IsActorCopy}
use Rattle.arena_actors.specs.States.{activation_of, actor_of, came_of, fields_of, AreAtRest, IsActivationWithin, IsAtRest, IsSound, Rests}
use Rattle.arena_actors.proofs.Again.{came_is, came_more}
use Rattle.arena_actors.proofs.Resting.{rest_more}
use Rattle.arena_actors.proofs.States.{came_stays, came_there}
use Rattle.arena_outcomes.specs.declared.ran.Over.{Over}
use Rattle.arena_outcomes.specs.Leaving.{IsLeftWith}
use Rattle.arena_outcomes.proofs.Closes.{close_is, closed_rests, closed_sound, closed_table}

-- ---- an arena that grows

abbrev fielded : List Value → Value → Fields
fielded vs v = record { cells = vs; exports = v }

module _ (x : Actor) (ns : List Node) (grows : Grows x.arena ns) (sound : IsSound x) where
  abbrev pub grown : Actor
  grown = record x { arena = ns }

  pub grown_sound : IsSound grown
  grown_sound = record { stores = values_there x.arena ns grows x.store.items sound.stores; exports = omega (arith, sound.exports, grows.more); came = came_there x.arena ns grows x.came sound.came }

  pub grown_fields : (groups : ℕ → Functions) → fields_of groups ns x.store.items x.exports ≡ fields_of groups x.arena x.store.items x.exports
  grown_fields groups =
      ap₂ (λ (vs : List Value) (v : Value). fielded vs v) (list_stays x.arena ns x.store.items grows sound.stores groups) (grows.kept groups x.exports sound.exports)

  pub grown_came : (groups : ℕ → Functions) → came_of groups ns x.came ≡ came_of groups x.arena x.came
  grown_came groups = came_stays x.arena ns grows groups x.came sound.came

-- ---- one more incoming call

-- an activation that mentions no values, and is this one
pub record IsPlain (a : Activation) (b : actor.Activation machine) : Type 0 where
  pub within : (ns : List Node) → IsActivationWithin ns a
  pub means : (groups : ℕ → Functions) (ns : List Node) → activation_of groups ns a ≡ b
  pub rests : IsAtRest b

module _ (x copy arrived : Actor) (a : Activation) (b : actor.Activation machine) (copied : IsActorCopy x copy) (is : arrived ≡ record copy { table = arrived.table; came = copy.came ++ a ∷ [] }) (plain : IsPlain a b) where
  pub arrived_sound : IsSound arrived
  arrived_sound =
      let Of : Actor → Type 0 = λ y. IsSound y in
      let s : IsSound copy = copied.sound in
      let there : Of (record copy { table = arrived.table; came = copy.came ++ a ∷ [] }) =
      record { stores = s.stores; exports = s.exports; came = came_more copy.arena copy.came (copy.came ++ a ∷ []) a refl s.came (plain.within copy.arena) } in
      subst Of (sym is) there

  pub arrived_came : (groups : ℕ → Functions) → came_of groups arrived.arena arrived.came ≡ came_of groups x.arena x.came ++ b ∷ []
  arrived_came groups =
      ap (λ (y : Actor). came_of groups y.arena y.came) is
      ∙ came_is groups copy.arena copy.came (copy.came ++ a ∷ []) a refl
      ∙ ap₂ (λ (l : List (actor.Activation machine)) (y : actor.Activation machine). l ++ y ∷ []) (copied.came groups) (plain.means groups copy.arena)

  abbrev and_one : actor.Actor machine → actor.Actor machine
  and_one was = record was { activations = was.activations ++ b ∷ [] }

  abbrev with_came : actor.Actor machine → List (actor.Activation machine) → actor.Actor machine
  with_came was l = record was { activations = l }

  pub arrived_is : (coding : Coding) (types : Types) (groups : ℕ → Functions) (charged : ℕ) → actor_of coding types groups arrived charged ≡ and_one (actor_of coding types groups x charged)
  arrived_is coding types groups charged =
      ap (λ (y : Actor). actor_of coding types groups y charged) is
      ∙ ap (λ (l : List (actor.Activation machine)). with_came (actor_of coding types groups copy charged) l) (came_is groups copy.arena copy.came (copy.came ++ a ∷ []) a refl ∙ ap (λ (y : actor.Activation machine). came_of groups copy.arena copy.came ++ y ∷ []) (plain.means groups copy.arena))
      ∙ ap and_one (copied.means coding types groups charged)

  pub arrived_first : arrived.first ≡ x.first
  arrived_first = ap (λ (y : Actor). y.first) is ∙ copied.first

  pub arrived_made : arrived.made ≡ x.made
  arrived_made = ap (λ (y : Actor). y.made) is ∙ copied.made

  pub arrived_rests : (groups : ℕ → Functions) → Rests groups x → Rests groups arrived
  arrived_rests groups h = let Of : List (actor.Activation machine) → Type 0 = λ l. AreAtRest l in subst Of (sym (arrived_came groups)) (rest_more (came_of groups x.arena x.came) b h plain.rests)

-- ---- and then it is closed

-- what an actor comes to that is left so
pub record IsLeft (x : Actor) (table : List GroupOf) (b : actor.Activation machine) (items : List Item) (o : Over) : Type 0 where
  pub sound : IsSound o.actor
  pub tabled : o.actor.table.items ≡ table
  pub rests : (groups : ℕ → Functions) → Rests groups x → Rests groups o.actor
  pub means : (coding : Coding) (types : Types) (groups : ℕ → Functions) (charged : ℕ) → let was : actor.Actor machine = actor_of coding types groups x charged in
      close (length was.activations) items (record was { activations = was.activations ++ b ∷ [] }) ≡ outcome o.items (actor_of coding types groups o.actor charged)

abbrev before : List Item → Actor → Over
before items arrived = record { items = items; actor = arrived }

pub left_so : (x : Actor) (table : List GroupOf) (a : Activation) (b : actor.Activation machine) (items : List Item) (o : Over) → IsPlain a b → IsLeftWith x table a items o → IsLeft x table b items o
left_so x table a b items o plain h =
    let Of : Over → Type 0 = λ p. IsLeft x table b items p in
    subst Of (sym h.over) (record {
      sound = closed_sound (length x.came) (before items h.arrived) (arrived_sound x h.copy h.arrived a b h.copied h.grown plain);
      tabled = closed_table (length x.came) (before items h.arrived) ∙ h.tabled;
      rests = λ groups k. closed_rests groups (length x.came) (before items h.arrived) (arrived_rests x h.copy h.arrived a b h.copied h.grown plain groups k);
      means = λ coding types groups charged.
          ap (λ (n : ℕ). close n items (and_one x h.copy h.arrived a b h.copied h.grown plain (actor_of coding types groups x charged))) (length-map x.came (λ (y : Activation). activation_of groups x.arena y))
          ∙ ap (λ (y : actor.Actor machine). close (length x.came) items y) (sym (arrived_is x h.copy h.arrived a b h.copied h.grown plain coding types groups charged))
          ∙ close_is coding types groups (length x.came) charged (before items h.arrived);
    })
