-- What a call does with a range of the memory, and with the call that is prepared.
use Rattle.std.proofs.Common.{◌≡◌, ℕ, true, false, cond, List, Option, Result, sym, subst, ap}
use Rattle.ic0_world.specs.declared.call.CallEnd.{CallEnd}
use Rattle.ic0_world.specs.declared.world.World.{World}
use Rattle.ic0_world.specs.Act.{Did, Does, is_inside, range, with_range, misuse}

pub within : (source size : ℕ) (memory found : List ℕ) (w : World) (next : List ℕ → Did) (r : Result (Option ℕ) CallEnd) (after : List ℕ) (new : World)
    → (is_inside source size memory ≡ true) × (found ≡ range source size memory) → Does (next found) r after new → Does (with_range source size memory w next) r after new
within source size memory found w next r after new h d =
    subst (λ did. Does did r after new) (sym (ap (λ b. cond b (next (range source size memory)) (misuse w)) h.0)) (subst (λ these. Does (next these) r after new) h.1 d)

pub outside : (source size : ℕ) (memory : List ℕ) (w : World) (next : List ℕ → Did) (r : Result (Option ℕ) CallEnd) (after : List ℕ) (new : World)
    → is_inside source size memory ≡ false → Does (misuse w) r after new → Does (with_range source size memory w next) r after new
outside source size memory w next r after new h d =
    subst (λ did. Does did r after new) (sym (ap (λ b. cond b (next (range source size memory)) (misuse w)) h)) d
