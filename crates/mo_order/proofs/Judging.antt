-- The first of the rules that are broken.
use Rattle.std.proofs.Common.{◌≡◌, ◌<◌, ◌≤◌, ℕ, ◌+◌, ◌⊎◌, inl, inr, List, [], ◌∷◌, ◌++◌, take, length, get_or, Option, Some, None, refl, sym, ap, ◌∙◌, subst, arith, append-nil}
use Rattle.std.proofs.Math.Logic.{⊎_elim}
use Rattle.std.proofs.lemmas.Grind.{flat_map-append}
use Rattle.mo_syntax.specs.declared.place.Place.{Place}
use Rattle.mo_syntax.specs.declared.program.Tree.{Tree}
use Rattle.mo_scopes.specs.declared.finding.Finding.{Finding}
use Rattle.mo_scopes.specs.declared.rule.Rule.{Rule}
use Rattle.mo_scopes.specs.declared.rule.Rule.TheVariants as rule
use Rattle.mo_scopes.specs.declared.rule.Breach.{Breach}
use Rattle.mo_names.specs.ProgramNames.{findings, breach_in, breaches}
use Rattle.mo_names.specs.Order.{Among, Misplaced, lists_in}
use Rattle.mo_names.specs.Bound.{Breaks, Comes, rank}
use Rattle.mo_order.specs.Least.{LeastOf, OneOf}
use Rattle.mo_order.specs.Breaches.{FirstOf, FoundOrEarly}
use Rattle.mo_order.proofs.Listed.{taken, among_none, among_one, among_left, among_right, among_cases}
use Rattle.mo_order.proofs.Leasts.{joined, same, unchanged}

chain : (a b c : Breach) → Comes a b → Comes b c → Comes a c
chain a b c p q = grind arith

pub itself : (a : Breach) → Comes a a
itself a = inr (refl, omega arith)

-- where no rule is broken here
pub meaning_more : (first : Option Breach) → FirstOf (OneOf first (λ b. Among b [])) first
meaning_more first = unchanged Comes itself (λ b. Among b []) first (λ b w. among_none b w)

-- where one is broken here
pub breach_more : (first r : Option Breach) (b : Breach) → FirstOf (OneOf first (λ other. other ≡ b)) r → FirstOf (OneOf first (λ other. Among other (b ∷ []))) r
breach_more first r b h = same Comes (OneOf first (λ other. other ≡ b)) (OneOf first (λ other. Among other (b ∷ []))) r
    (λ x s. ⊎_elim (λ q. inl q) (λ e. inr ([], [], ap (λ z. z ∷ []) (sym e))) s) (λ x s. ⊎_elim (λ q. inl q) (λ w. inr (among_one b x w)) s) h

-- before the first finding
pub order_none : FirstOf (FoundOrEarly [] None) None
order_none b s = ⊎_elim (λ w. among_none b w) (λ q. let none : ⊥ = cc in none) s

pub order_some : (p : Place) → FirstOf (FoundOrEarly [] (Some p)) (Some (record { rule = rule.UsedBeforeDefined; place = p }))
order_some p = (
  inr (refl, refl),
  λ b s. ⊎_elim (λ w. absurd (among_none b w))
      (λ q. let e : p ≡ b.place = cc in let r : rank b.rule ≡ 2 = ap (λ x. rank x) q.0 in inr (ap (λ x. x.start) e, omega arith)) s,
)

breaches_more : (found : List Finding) (one : Finding) → breaches (found ++ one ∷ []) ≡ breaches found ++ breach_in one
breaches_more found one = flat_map-append breach_in found (one ∷ []) ∙ ap (λ t. breaches found ++ t) (append-nil (breach_in one))

-- with one more finding
pub found_more : (found : List Finding) (i : ℕ) (other one : Finding) (early : Option Place) (first new : Option Breach) → i < length found → one ≡ get_or found i other
    → FirstOf (FoundOrEarly (take i found) early) first → FirstOf (OneOf first (λ b. Among b (breach_in one))) new
    → FirstOf (FoundOrEarly (take (i + 1) found) early) new
found_more found i other one early first new l e f h =
    subst (λ (t : List Breach). FirstOf (λ b. Among b t ⊎ ((b.rule ≡ rule.UsedBeforeDefined) × (early ≡ Some b.place))) new)
    (sym (ap breaches (taken found i other one l e) ∙ breaches_more (take i found) one))
    (same Comes (λ b. FoundOrEarly (take i found) early b ⊎ Among b (breach_in one))
    (λ b. Among b (breaches (take i found) ++ breach_in one) ⊎ ((b.rule ≡ rule.UsedBeforeDefined) × (early ≡ Some b.place))) new
    (λ b s. ⊎_elim (λ o. ⊎_elim (λ w. inl (among_left (breaches (take i found)) (breach_in one) b w)) (λ q. inr q) o)
    (λ w. inl (among_right (breaches (take i found)) (breach_in one) b w)) s)
    (λ b s. ⊎_elim (λ w. ⊎_elim (λ x. inl (inl x)) (λ y. inr y) (among_cases (breaches (take i found)) (breach_in one) b w)) (λ q. inl (inr q)) s)
    (joined Comes chain (FoundOrEarly (take i found) early) (λ b. Among b (breach_in one)) first new f h))

-- ---- of a program

abbrev breach_at : Option Place → Option Breach
breach_at None = None
breach_at (Some p) = Some (record { rule = rule.UsedBeforeDefined; place = p })

-- the first breach of order is at the first place
first_of_order : (Is : Place → Type 0) (early : Option Place) → LeastOf Is early → FirstOf (λ b. (b.rule ≡ rule.UsedBeforeDefined) × Is b.place) (breach_at early)
first_of_order Is None h = λ b w. h b.place w.1
first_of_order Is (Some p) h = ((refl, h.0), λ b w. comes b w.0 (h.1 b.place w.1)) where
  comes : (b : Breach) → b.rule ≡ rule.UsedBeforeDefined → p.start ≤ b.place.start → Comes (record { rule = rule.UsedBeforeDefined; place = p }) b
  comes b e l = let r : rank b.rule ≡ 2 = ap (λ x. rank x) e in grind arith

at_to : (early : Option Place) (b : Breach) → (b.rule ≡ rule.UsedBeforeDefined) × (early ≡ Some b.place) → breach_at early ≡ Some b
at_to early b w =
    let built : Rule → Breach = λ r. record { rule = r; place = b.place } in
    ap (λ (o : Option Place). breach_at o) w.1 ∙ ap (λ (r : Rule). Some (built r)) (sym w.0)

at_from : (early : Option Place) (b : Breach) → breach_at early ≡ Some b → (b.rule ≡ rule.UsedBeforeDefined) × (early ≡ Some b.place)
at_from None b e = let none : ⊥ = cc in absurd none
at_from (Some p) b e =
    let at : Breach = record { rule = rule.UsedBeforeDefined; place = p } in
    let is : at ≡ b = cc in
    (ap (λ x. x.rule) (sym is), ap (λ x. Some x.place) is)

-- the first of what was found and of the breaches of order
pub judged : (tree : Tree) (found : List Finding) (early : Option Place) (first : Option Breach) → found ≡ findings tree → LeastOf (Misplaced (lists_in tree)) early
    → FirstOf (FoundOrEarly found early) first → FirstOf (Breaks tree) first
judged tree found early first e l h =
    let Early : Breach → Type 0 = λ b. (b.rule ≡ rule.UsedBeforeDefined) × Misplaced (lists_in tree) b.place in
    let Found : Breach → Type 0 = λ b. Among b (breaches found) in
    let one : FirstOf (OneOf (breach_at early) Found) first = same Comes (FoundOrEarly found early) (OneOf (breach_at early) Found) first
    (λ b s. ⊎_elim (λ w. inr w) (λ w. inl (at_to early b w)) s) (λ b s. ⊎_elim (λ q. inr (at_from early b q)) (λ w. inl w) s) h in
    subst (λ (f : List Finding). FirstOf (λ b. Among b (breaches f) ⊎ ((b.rule ≡ rule.UsedBeforeDefined) × Misplaced (lists_in tree) b.place)) first) e
    (same Comes (λ b. Early b ⊎ Found b) (λ b. Found b ⊎ Early b) first (λ b s. ⊎_elim (λ x. inr x) (λ y. inl y) s) (λ b s. ⊎_elim (λ x. inr x) (λ y. inl y) s)
    (joined Comes chain Early Found (breach_at early) first (first_of_order (Misplaced (lists_in tree)) early l) one))
