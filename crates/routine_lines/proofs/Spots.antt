-- Which function a number stands for.
use Rattle.std.proofs.Common.{◌≡◌, ◌+◌, ◌-◌, ◌≤◌, ℕ, zero, suc, Bool, true, false, cond, nat_lt, refl, ap, arith}
use Rattle.low_rules.proofs.Steps.{lt_false}
use Rattle.routine_lines.specs.Roles.{Role, Allocating, Copying, Comparing, Ordering, Numbering, roles, place, Spot, Hosts, Runs, Elsewhere, spot_in, spot_of}

abbrev number : Spot → ℕ
number Hosts = 0
number (Runs r) = place r
number Elsewhere = 0

found_in : (k : ℕ) (r : Role) → spot_in roles k ≡ Runs r → 22 + k ≡ place r
found_in zero r e = ap number e
found_in (suc zero) r e = ap number e
found_in (suc (suc zero)) r e = ap number e
found_in (suc (suc (suc zero))) r e = ap number e
found_in (suc (suc (suc (suc zero)))) r e = ap number e
found_in (suc (suc (suc (suc (suc k))))) r e = absurd (cc)

none_is_the_hosts : (k : ℕ) → spot_in roles k ≡ Hosts → ⊥
none_is_the_hosts zero e = absurd (cc)
none_is_the_hosts (suc zero) e = absurd (cc)
none_is_the_hosts (suc (suc zero)) e = absurd (cc)
none_is_the_hosts (suc (suc (suc zero))) e = absurd (cc)
none_is_the_hosts (suc (suc (suc (suc zero)))) e = absurd (cc)
none_is_the_hosts (suc (suc (suc (suc (suc k))))) e = absurd (cc)

pub found : (f : ℕ) (r : Role) → spot_of f ≡ Runs r → f ≡ place r
found f r e = by (nat_lt f 22) refl e
  where
    by : (t : Bool) → nat_lt f 22 ≡ t → cond t Hosts (spot_in roles (f - 22)) ≡ Runs r → f ≡ place r
    by true is e = absurd (cc)
    by false is e = let le : 22 ≤ f = lt_false f 22 is in let k = found_in (f - 22) r e in omega (arith, le, k)

pub hosts : (f : ℕ) → spot_of f ≡ Hosts → nat_lt f 22 ≡ true
hosts f e = by (nat_lt f 22) refl e
  where
    by : (t : Bool) → nat_lt f 22 ≡ t → cond t Hosts (spot_in roles (f - 22)) ≡ Hosts → nat_lt f 22 ≡ true
    by true is e = is
    by false is e = absurd (none_is_the_hosts (f - 22) e)

pub spot_is : (r : Role) → spot_of (place r) ≡ Runs r
spot_is Allocating = refl
spot_is Copying = refl
spot_is Comparing = refl
spot_is Ordering = refl
spot_is Numbering = refl
