-- The old program that stays.
use Rattle.std.proofs.Common.{◌≡◌, ℕ, zero, suc, List, [], ◌++◌, Option, Some, Vec, Global, refl, sym, ap, ◌∙◌, subst}
use Rattle.play_script.specs.declared.item.Item.{Item}
use Rattle.play_script.specs.declared.item.Word.TheVariants as word
use Rattle.mo_values.specs.Shapes.{Bytes}
use Rattle.mo_actor.specs.Computed.{Followed}
use Rattle.mo_actor.specs.Outcomes.{outcome, trap_items}
use Rattle.mo_actor.specs.States as actor
use Rattle.mo_actor.specs.States.{ActorState}
use Rattle.typed_tree.specs.declared.program.Program.{Program as Written}
use Rattle.typed_tree.specs.Language.{Functions}
use Rattle.typed_tree.specs.ProgramView.{program}
use Rattle.mo_meaning.specs.Coding.{Coding}
use Rattle.mo_meaning.specs.Starting.{incompatible}
use Rattle.mo_machine.specs.ActorLanguage.{machine}
use Rattle.mo_machine.specs.States.{with_states}
use Rattle.arena_states.specs.declared.group.GroupOf.{GroupOf}
use Rattle.arena_actors.specs.declared.actor.Actor.{Actor}
use Rattle.arena_actors.specs.States.{actor_of, came_of, AreAtRest, IsSound, Rests}
use Rattle.arena_outcomes.specs.declared.ran.Over.{Over}
use Rattle.arena_upgrades.specs.declared.upgraded.Upgrade.{Upgrade}
use Rattle.arena_upgrades.specs.declared.upgraded.Upgrade.TheVariants as upgrade
use Rattle.arena_upgrades.specs.Staying.{IsIncompatible, IsLeft, IsStayingWith}
use Rattle.arena_upgrades.specs.Upgrades.{Reaches}

module _ (x : Actor) (table : Vec GroupOf Global) (items : List Item) (o : Over) (left : IsLeft x table items o) where
  pub left_sound : IsSound o.actor
  left_sound =
      let Of : Actor → Type 0 = λ y. IsSound y in
      let s : IsSound left.copy = left.copied.sound in
      let there : Of (record left.copy { table = table }) = record { stores = s.stores; exports = s.exports; came = s.came } in
      subst Of (sym left.actor) there

  pub left_table : o.actor.table.items ≡ table.items
  left_table = ap (λ (y : Actor). y.table.items) left.actor

  pub left_rests : (groups : ℕ → Functions) → Rests groups x → Rests groups o.actor
  left_rests groups h =
      let Of : List (actor.Activation machine) → Type 0 = λ l. AreAtRest l in
      subst Of (sym (ap (λ (y : Actor). came_of groups y.arena y.came) left.actor ∙ left.copied.came groups)) h

  pub left_reaches : (coding : Coding) (groups : ℕ → Functions) (p : Written) (first charged : ℕ) (f : Option (Followed (ActorState machine))) (g : Followed (ActorState machine)) → f ≡ Some g
      → g.reached ≡ outcome items (actor.Running (with_states coding first p.types (program p)) (actor_of coding p.types groups x charged)) → Reaches coding groups p first o f
  left_reaches coding groups p first charged f g is reached =
      let running : actor.Actor machine → ActorState machine = λ a. actor.Running (with_states coding first p.types (program p)) a in (
        g,
        is,
        charged,
        reached
            ∙ ap (λ (l : List Item). outcome l (running (actor_of coding p.types groups x charged))) (sym left.items)
            ∙ ap (λ (a : actor.Actor machine). outcome o.items (running a)) (sym (ap (λ (y : Actor). actor_of coding p.types groups y charged) left.actor ∙ left.copied.means coding p.types groups charged)),
      )

-- ---- a value that is none of its new type

pub incompatible_first : (n : ℕ) (x : Actor) (table : Vec GroupOf Global) (before : List Item) (u : Upgrade) → n ≡ 0 → u ≡ upgrade.Still table → IsIncompatible n x table before u
incompatible_first n x table before u none is = let Of : ℕ → Type 0 = λ m. IsIncompatible m x table before u in subst Of (sym none) is

pub incompatible_later : (n : ℕ) (x : Actor) (table : Vec GroupOf Global) (before : List Item) (text : Bytes) (u : Upgrade) → (n ≡ 0 → ⊥) → text ≡ incompatible → IsStayingWith x table (before ++ trap_items [] (word.Text text)) u
    → IsIncompatible n x table before u
incompatible_later zero x table before text u some is h = absurd (some refl)
incompatible_later (suc m) x table before text u some is h = let Of : Bytes → Type 0 = λ t. IsStayingWith x table (before ++ trap_items [] (word.Text t)) u in subst Of is h
