-- Which items answer an incoming call, and what becomes of its activation.
use Rattle.std.proofs.Common.{◌≡◌, ℕ, zero, suc, ◌+◌, Bool, true, false, not, ◌&&◌, ◌⊎◌, List, [], ◌∷◌, ◌++◌, Option, Some, None, refl, sym, ap, ◌∙◌, true≢false, slice_get, slice_set}
use Rattle.play_script.specs.declared.item.Item.{Item}
use Rattle.play_script.specs.declared.item.Item.TheVariants as item
use Rattle.play_script.specs.declared.item.Word.{Word}
use Rattle.mo_actor.specs.Languages.{Language}
use Rattle.mo_actor.specs.Programs.{OutgoingCall}
use Rattle.mo_actor.specs.States.{Activation, IsAnswered, ActorState, NoActor, Running, activation_at, is_answered}
use Rattle.mo_actor.specs.Outcomes.{print_items, trap_items, call_items}
use Rattle.mo_actor.specs.Reached.{answered_numbers}

-- ---- items

pub both : (xs ys : List Item) → answered_numbers (xs ++ ys) ≡ answered_numbers xs ++ answered_numbers ys
both [] ys = refl
both (item.Replied number bytes ∷ xs) ys = ap (λ l. number ∷ l) (both xs ys)
both (item.Rejected number code text ∷ xs) ys = ap (λ l. number ∷ l) (both xs ys)
both (_ ∷ xs) ys = both xs ys

pub behind_prints : (prints : List (List ℕ)) (items : List Item) → answered_numbers (print_items prints ++ items) ≡ answered_numbers items
behind_prints [] items = refl
behind_prints (text ∷ prints) items = behind_prints prints items

pub nothing_answered : (prints : List (List ℕ)) (cause : Word) → answered_numbers (trap_items prints cause) ≡ []
nothing_answered prints cause = behind_prints prints (item.Trapped cause ∷ [])

pub starved_open : (x y : Bool) → (not x && not y) ≡ true → x ≡ false
starved_open true y e = absurd (true≢false (sym e))
starved_open false y e = refl

-- ---- activations

module _ {L : Language} where
  -- whether a call that came is answered
  abbrev pub answered_option : Option (Activation L) → Bool
  answered_option None = false
  answered_option (Some activation) = is_answered activation

  abbrev pub has_answer : List (Activation L) → ℕ → Bool
  has_answer activations owner = answered_option (slice_get activations owner)

  abbrev pub activations_in : ActorState L → List (Activation L)
  activations_in (NoActor made activations) = activations
  activations_in (Running p a) = a.activations

  pub behind_calls : (next : ℕ) (calls : List (OutgoingCall L)) (items : List Item) → answered_numbers (call_items next calls ++ items) ≡ answered_numbers items
  behind_calls next [] items = refl
  behind_calls next (c ∷ calls) items = behind_calls (next + 1) calls items

  -- answers stay
  abbrev pub Keeps : List (Activation L) → List (Activation L) → Type 0
  Keeps before behind = (owner : ℕ) → has_answer before owner ≡ true → has_answer behind owner ≡ true

  -- an event answers nobody, or one call that had no answer
  abbrev pub AnswersOne : List (Activation L) → List Item → List (Activation L) → Type 0
  AnswersOne before items behind =
      (answered_numbers items ≡ []) ⊎ ((owner : ℕ) × (answered_numbers items ≡ owner ∷ []) × (has_answer before owner ≡ false) × (has_answer behind owner ≡ true))

  pub record Once (before : List (Activation L)) (items : List Item) (behind : List (Activation L)) : Type 0 where
    pub keeps : Keeps before behind
    pub answers : AnswersOne before items behind

  pub keeps_push : (activations : List (Activation L)) (last : Activation L) → Keeps activations (activations ++ last ∷ [])
  keeps_push [] last owner e = absurd (true≢false (sym e))
  keeps_push (x ∷ activations) last zero e = e
  keeps_push (x ∷ activations) last (suc owner) e = keeps_push activations last owner e

  pub keeps_set : (activations : List (Activation L)) (owner : ℕ) → Keeps activations (slice_set activations owner IsAnswered)
  keeps_set [] owner other e = e
  keeps_set (x ∷ activations) zero zero e = refl
  keeps_set (x ∷ activations) zero (suc other) e = e
  keeps_set (x ∷ activations) (suc owner) zero e = e
  keeps_set (x ∷ activations) (suc owner) (suc other) e = keeps_set activations owner other e

  -- another activation in the place of one without answer
  pub keeps_change : (activations : List (Activation L)) (owner : ℕ) (activation : Activation L) → has_answer activations owner ≡ false → Keeps activations (slice_set activations owner activation)
  keeps_change [] owner activation vacant other e = e
  keeps_change (x ∷ activations) zero activation vacant zero e = absurd (true≢false (sym e ∙ vacant))
  keeps_change (x ∷ activations) zero activation vacant (suc other) e = e
  keeps_change (x ∷ activations) (suc owner) activation vacant zero e = e
  keeps_change (x ∷ activations) (suc owner) activation vacant (suc other) e = keeps_change activations owner activation vacant other e

  -- the same activation again
  pub same_again : (activations : List (Activation L)) (owner : ℕ) → slice_set activations owner (activation_at activations owner) ≡ activations
  same_again [] owner = refl
  same_again (x ∷ activations) zero = refl
  same_again (x ∷ activations) (suc owner) = ap (λ l. x ∷ l) (same_again activations owner)

  -- who is unanswered has come
  pub unanswered_came : (activations : List (Activation L)) (owner : ℕ) → is_answered (activation_at activations owner) ≡ false
      → (has_answer activations owner ≡ false) × (has_answer (slice_set activations owner IsAnswered) owner ≡ true)
  unanswered_came [] owner e = absurd (true≢false e)
  unanswered_came (x ∷ activations) zero e = (e, refl)
  unanswered_came (x ∷ activations) (suc owner) e = unanswered_came activations owner e
