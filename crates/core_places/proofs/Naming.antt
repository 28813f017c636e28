-- Names one after another.
use Rattle.std.proofs.Common.{◌≡◌, ◌∙◌, ℕ, zero, suc, ◌+◌, ◌-◌, ◌<◌, ◌≤◌, List, [], ◌∷◌, ◌++◌, length, map, take, refl, sym, ap, ap₂, arith}
use Rattle.std.specs.Prelude.{replicate, slice_get}
use Rattle.core_ir.specs.declared.expression.Expression.{Expression}
use Rattle.core_ir.specs.Expressions as core
use Rattle.core_ir.specs.View.{exps, expression}
use Rattle.elaboration.specs.Checks.{locals}
use Rattle.elaboration.specs.Programs.{kept_places, own_from, values_of}
use Rattle.elaboration.specs.Scopes.{Place, Own, Local, Nowhere, Scope, at_place, name, place_or_nowhere}

-- one more in front
pub more_kept : (s t u : Scope) (n m : ℕ) → m ≡ suc n → t ≡ record s { places = kept_places n ++ s.places } → u ≡ record t { places = Local m ∷ t.places } → u ≡ record s { places = kept_places (n + 1) ++ s.places }
more_kept s t u n m at before after =
    let e : suc n ≡ n + 1 = omega arith in
    after ∙ (ap (λ (x : Scope). record x { places = Local m ∷ x.places }) before
    ∙ (ap (λ (k : ℕ). record s { places = Local k ∷ (kept_places n ++ s.places) }) at ∙ ap (λ (k : ℕ). record s { places = kept_places k ++ s.places }) e))

pub more_own : (s t u : Scope) (end done m : ℕ) → done + 1 ≤ end → m ≡ end - done - 1 → t ≡ record s { places = own_from (end - done) done ++ s.places } → u ≡ record t { places = Own m ∷ t.places }
    → u ≡ record s { places = own_from (end - (done + 1)) (done + 1) ++ s.places }
more_own s t u end done m below at before after =
    let here : m ≡ end - (done + 1) = omega (arith, at) in
    let next : end - done ≡ suc (end - (done + 1)) = omega (arith, below) in
    let e : suc done ≡ done + 1 = omega arith in
    after ∙ (ap (λ (x : Scope). record x { places = Own m ∷ x.places }) before
    ∙ (ap₂ (λ (k i : ℕ). record s { places = Own k ∷ (own_from i done ++ s.places) }) here next ∙ ap (λ (k : ℕ). record s { places = own_from (end - (done + 1)) k ++ s.places }) e))

pub more_unknown : (s t u : Scope) (n : ℕ) → t ≡ record s { places = replicate n Nowhere ++ s.places } → u ≡ record t { places = Nowhere ∷ t.places } → u ≡ record s { places = replicate (n + 1) Nowhere ++ s.places }
more_unknown s t u n before after =
    let e : suc n ≡ n + 1 = omega arith in
    after ∙ (ap (λ (x : Scope). record x { places = Nowhere ∷ x.places }) before ∙ ap (λ (k : ℕ). record s { places = replicate k Nowhere ++ s.places }) e)

-- ---- values

-- the name at a place
pub more_values : (levels : List ℕ) (others places : List Place) (names i : ℕ) (es : List Expression) (x : Expression) → places ≡ locals levels ++ others → i < length levels
    → expression x ≡ at_place names (place_or_nowhere (slice_get places i)) → exps (map expression es) ≡ values_of names (locals (take i levels))
    → exps (map expression (es ++ x ∷ [])) ≡ values_of names (locals (take (i + 1) levels))
more_values levels others places names i es x here below is so =
    at levels i es below (is ∙ ap (λ (ps : List Place). at_place names (place_or_nowhere (slice_get ps i))) here) so
  where
    at : (ls : List ℕ) (j : ℕ) (fs : List Expression) → j < length ls → expression x ≡ at_place names (place_or_nowhere (slice_get (locals ls ++ others) j)) → exps (map expression fs) ≡ values_of names (locals (take j ls))
        → exps (map expression (fs ++ x ∷ [])) ≡ values_of names (locals (take (j + 1) ls))
    at [] j fs l e f = absurd (omega (arith, l))
    at (k ∷ ls) zero [] l e f = ap (λ (y : core.Exp). core.AnExp y core.NoExp) e
    at (k ∷ ls) zero (g ∷ fs) l e f = absurd (let z : core.AnExp (expression g) (exps (map expression fs)) ≡ core.NoExp = f in cc)
    at (k ∷ ls) (suc j) [] l e f = absurd (let z : core.NoExp ≡ core.AnExp (name names k) (values_of names (locals (take j ls))) = f in cc)
    at (k ∷ ls) (suc j) (g ∷ fs) l e f =
        let z : core.AnExp (expression g) (exps (map expression fs)) ≡ core.AnExp (name names k) (values_of names (locals (take j ls))) = f in
        let first : expression g ≡ name names k = cc in
        let rest : exps (map expression fs) ≡ values_of names (locals (take j ls)) = cc in
        let below' : j < length ls = omega (arith, l) in
        let more : suc j + 1 ≡ suc (j + 1) = omega arith in
        rw more (ap₂ core.AnExp first (at ls j fs below' e rest))
