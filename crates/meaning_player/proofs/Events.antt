-- What was played, event by event.
use Rattle.std.proofs.Common.{◌≡◌, ℕ, ◌+◌, ◌<◌, ◌≤◌, List, [], ◌∷◌, ◌++◌, length, take, get_or, refl, sym, ap, subst, ◌∙◌, Option, Bool, true, false}
use Rattle.std.proofs.lemmas.List.{append_assoc, append-nil, take_all, take_more}
use Rattle.play_script.specs.declared.event.Event.{Event}
use Rattle.play_script.specs.declared.item.Item.{Item}
use Rattle.typed_tree.specs.declared.program.Program.{Program as Written}
use Rattle.stepper.specs.declared.state.Stepped.TheVariants as stepped
use Rattle.stepper.specs.declared.state.Stepper.{Stepper}
use Rattle.stepper.specs.Stepping.{IsStep}
use Rattle.stepper.specs.Runs.{StepsTo}
use Rattle.meaning_player.specs.Played.{ArePlayed, ArePut, IsFirst, IsPlayed}
use Rattle.meaning_player.proofs.Lines.{none_put, more_put}

-- One event more.
steps_more : (es : List Event) (e : Event) (n : ℕ) (x y z : Stepper) (items now : List Item) → StepsTo x es items y → IsStep e n y z (stepped.Items now) → StepsTo x (es ++ e ∷ []) (items ++ now) z
steps_more [] e n x y z items now w s =
    (n, z, now, subst (λ (u : Stepper). IsStep e n u z (stepped.Items now)) w.1 s, [], ap (λ (l : List Item). l ++ now) w.0 ∙ sym (append-nil now), (refl, refl))
steps_more (f ∷ es) e n x y z items now w s = (w.0, w.1, w.2, w.3, w.4 ++ now, ap (λ (l : List Item). l ++ now) w.5 ∙ append_assoc w.2 w.4 now, steps_more es e n w.1 y z w.4 now w.6 s)

-- The lines of their items were put.
pub record HasGone (ps : List Written) (es : List Event) (z : Stepper) (old new : Option (List ℕ)) : Type 0 where
  pub first : Stepper
  pub begins : IsFirst ps first
  pub items : List Item
  pub steps : StepsTo first es items z
  pub put : ArePut items old new

pub none_gone : (ps : List Written) (x : Stepper) (old : Option (List ℕ)) → IsFirst ps x → HasGone ps [] x old old
none_gone ps x old h = record { first = x; begins = h; items = []; steps = (refl, refl); put = none_put old }

pub next_gone : (ps : List Written) (es : List Event) (i : ℕ) (e : Event) (n : ℕ) (y z : Stepper) (goes_on : Bool) (old middle new : Option (List ℕ)) → i < length es → e ≡ get_or es i e → goes_on ≡ true
    → HasGone ps (take i es) y old middle → IsPlayed e n y z goes_on middle new → HasGone ps (take (i + 1) es) z old new
next_gone ps es i e n y z true old middle new lt is on g p =
    let next : take (i + 1) es ≡ take i es ++ e ∷ [] = take_more es i e lt ∙ ap (λ (f : Event). take i es ++ f ∷ []) (sym is) in
    subst (λ (fs : List Event). HasGone ps fs z old new) (sym next)
    (record { first = g.first; begins = g.begins; items = g.items ++ p.0; steps = steps_more (take i es) e n g.first y z g.items p.0 g.steps p.1; put = more_put g.items p.0 old middle new g.put p.2 })
next_gone ps es i e n y z false old middle new lt is on g p = absurd (cc)

pub all_gone : (ps : List Written) (es : List Event) (i : ℕ) (z : Stepper) (old new : Option (List ℕ)) → length es ≤ i → HasGone ps (take i es) z old new → ArePlayed ps es true old new
all_gone ps es i z old new h g = let e : take i es ≡ es = take_all i es h in (g.first, g.begins, g.items, (z, subst (λ (l : List Event). StepsTo g.first l g.items z) e g.steps), g.put)
