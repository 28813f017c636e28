-- Results whose values are equal to what they are to be.
use Rattle.std.proofs.Common.{◌≡◌, ◌∙◌}
use Rattle.std.specs.Prelude.{Result, Ok, Err, IfOk}

-- what is made of the one is what is made of the other
pub if_same : {A E : Type 0} (r : Result A E) (a b : A) → a ≡ b → IfOk r (λ m. m ≡ a) → IfOk r (λ m. m ≡ b)
if_same (Ok m) a b e h = h ∙ e
if_same (Err x) a b e h = tt
