-- Lists of one thing.
use Rattle.std.proofs.Common.{◌≡◌, ℕ, zero, suc, ◌+◌, List, [], ◌∷◌, ◌++◌, length, add-one, refl, ap, ◌∙◌}
use Rattle.mo_actor.specs.States as actor
use Rattle.mo_actor.specs.States.{IsAnswered}
use Rattle.typed_tree.specs.Language.{Functions}
use Rattle.mo_machine.specs.ActorLanguage.{machine}
use Rattle.value_arena.specs.declared.node.Node.{Node}
use Rattle.arena_actors.specs.declared.actor.Activation.TheVariants as activation
use Rattle.arena_actors.specs.States.{came_of, AreAtRest, AreCameWithin}
use Rattle.stepper.specs.Standing.{repeat}

repeat_next : {A : Type 0} (n : ℕ) (a : A) → repeat (suc n) a ≡ repeat n a ++ a ∷ []
repeat_next zero a = refl
repeat_next {A = A} (suc n) a = ap (λ (l : List A). a ∷ l) (repeat_next n a)

pub repeat_more : {A : Type 0} (n : ℕ) (a : A) → repeat (n + 1) a ≡ repeat n a ++ a ∷ []
repeat_more n a = ap (λ (m : ℕ). repeat m a) (add-one n) ∙ repeat_next n a

pub length_repeat : {A : Type 0} (n : ℕ) (a : A) → length (repeat n a) ≡ n
length_repeat zero a = refl
length_repeat (suc n) a = ap suc (length_repeat n a)

-- what they stand for
pub came_repeat : (groups : ℕ → Functions) (ns : List Node) (n : ℕ) → came_of groups ns (repeat n activation.Answered) ≡ repeat n IsAnswered
came_repeat groups ns zero = refl
came_repeat groups ns (suc n) = ap (λ (xs : List (actor.Activation machine)). IsAnswered ∷ xs) (came_repeat groups ns n)

-- none of them waits
pub rests_repeat : (groups : ℕ → Functions) (ns : List Node) (n : ℕ) → AreAtRest (came_of groups ns (repeat n activation.Answered))
rests_repeat groups ns zero = tt
rests_repeat groups ns (suc n) = (tt, rests_repeat groups ns n)

pub within_repeat : (ns : List Node) (n : ℕ) → AreCameWithin ns (repeat n activation.Answered)
within_repeat ns zero = tt
within_repeat ns (suc n) = (tt, within_repeat ns n)
