-- Labels that do not clash have numbers that differ.
use Rattle.std.proofs.Common.{◌≡◌, ◌≢◌, ℕ, Bool, true, false, ◌||◌, List, [], ◌∷◌, ◌++◌, map, refl, sym, subst}
use Rattle.std.specs.Prelude.{cond, nat_eq}
use Rattle.std.specs.Cmp.{unsigned_Decides}
use Rattle.mo_scopes.specs.declared.rule.Rule.{Rule}
use Rattle.mo_scopes.specs.declared.rule.Rule.TheVariants as rule
use Rattle.mo_scopes.specs.Findings.{Names, broken_where, has_number, with_number, numbered_behind, labels}
use Rattle.mo_syntax.specs.declared.place.Place.{Place}
use Rattle.mo_types.specs.Label.{label_id}
use Rattle.mo_types.specs.Sub.{Each}
use Rattle.typed_tree.specs.OperationTypes.{Distinct}
use Rattle.proper_laws.specs.Source.{DifferAsLabels}
use Rattle.type_sources.specs.Shown.{IsNoBreach, NothingBroken}
use Rattle.type_sources.proofs.Splitting.{each_first, each_last}

abbrev pub texts : Names → List (List ℕ)
texts xs = map (λ x. x.bytes) xs

or_none : (a b : Bool) → (a || b) ≡ false → (a ≡ false) × (b ≡ false)
or_none true b h = let e : true ≡ false = h in cc
or_none false b h = (refl, h)

or_both : (a b : Bool) → a ≡ false → b ≡ false → (a || b) ≡ false
or_both true b h k = cc
or_both false b h k = k

clash : (b : Bool) → b ≡ true → b ≡ false → ⊥
clash b h k = cc

not_broken : (b : Bool) (r : Rule) (p : Place) → NothingBroken (broken_where b r p) → b ≡ false
not_broken true r p h = absurd h.0
not_broken false r p h = refl

more_none : (front : List ℕ) (n m : ℕ) → has_number (front ++ n ∷ []) m ≡ false → (has_number front m ≡ false) × (n ≢ m)
more_none [] n m h = (refl, λ e. clash (nat_eq m n) ((unsigned_Decides m n).1 (sym e)) (or_none (nat_eq m n) false h).0)
more_none (k ∷ front) n m h =
    let w = or_none (nat_eq m k) (has_number (front ++ n ∷ []) m) h in
    let r = more_none front n m w.1 in
    (or_both (nat_eq m k) (has_number front m) w.0 r.0, r.1)

each_none : (front : List ℕ) (n : ℕ) (ms : List ℕ) → Each (λ m. has_number (front ++ n ∷ []) m ≡ false) ms → Each (λ m. has_number front m ≡ false) ms × Each (λ m. n ≢ m) ms
each_none front n [] h = (tt, tt)
each_none front n (m ∷ ms) h =
    let r = more_none front n m h.0 in
    let q = each_none front n ms h.1 in
    ((r.0, q.0), (r.1, q.1))

apart : (front : List ℕ) (xs : Names) → NothingBroken (numbered_behind front xs) → Each (λ m. has_number front m ≡ false) (map label_id (texts xs)) × Distinct (map label_id (texts xs))
apart front [] h = (tt, tt)
apart front (x ∷ xs) h =
    let n : ℕ = label_id x.bytes in
    let one = broken_where (has_number front n) rule.LabelClash x.place in
    let e : has_number front n ≡ false = not_broken (has_number front n) rule.LabelClash x.place (each_first IsNoBreach one (numbered_behind (with_number front n) xs) h) in
    let rest : NothingBroken (numbered_behind (front ++ n ∷ []) xs) = subst (λ b. NothingBroken (numbered_behind (cond b front (front ++ n ∷ [])) xs)) e (each_last IsNoBreach one (numbered_behind (with_number front n) xs) h) in
    let r = apart (front ++ n ∷ []) xs rest in
    let q = each_none front n (map label_id (texts xs)) r.0 in
    ((e, q.0), (q.1, r.1))

pub labels_differ : (xs : Names) → NothingBroken (labels xs) → DifferAsLabels (texts xs)
labels_differ xs h = (apart [] xs h).1
