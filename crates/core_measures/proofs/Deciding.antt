-- Tests that decide, and tests made of them.
use Rattle.std.proofs.Common.{◌≡◌, ◌≤◌, ◌<◌, ℕ, zero, suc, ◌+◌, ◌*◌, refl, sym, ap, ◌∙◌, subst, List, [], ◌∷◌, length, map, drop, get_or, Bool, true, false, not, ◌&&◌, Decides, arith}
use mathlib.Core.Path.{fun_ext}
use Rattle.core_ir.specs.Choices.{nth}
use Rattle.core_ir.specs.declared.expression.CoreBody.{CoreBody}
use Rattle.core_ir.specs.declared.program.Group.{Group as GroupTree}
use Rattle.std.proofs.lemmas.List.{length-map, drop_more}
use Rattle.core_ir.specs.Expressions.{Body, Core, nodes_of}
use Rattle.core_ir.specs.Formed.{PaidCoreGroups, size_at}
use Rattle.core_ir.specs.Outward.{distinct}
use Rattle.core_ir.specs.Programs.{Group}
use Rattle.core_ir.specs.View.{core_body}
use Rattle.core_measures.specs.Sizes.{size_of, sizes_of}
use Rattle.core_measures.specs.Within.{core_group}

both_true : (a b : Bool) → (a && b) ≡ true → (a ≡ true) × (b ≡ true)
both_true true b h = (refl, h)
both_true false b h = absurd (let z : false ≡ true = h in cc)

and_true : (a b : Bool) → a ≡ true → b ≡ true → (a && b) ≡ true
and_true true b h i = i
and_true false b h i = h

pub both_decide : {P Q : Type 0} (a b : Bool) → Decides a P → Decides b Q → Decides (a && b) (P × Q)
both_decide a b h i = ((λ e. let z = both_true a b e in (h.0 z.0, i.0 z.1)), (λ k. and_true a b (h.1 k.0) (i.1 k.1)))

pub decide_as : {P Q : Type 0} (a : Bool) → Decides a P → (P → Q) → (Q → P) → Decides a Q
decide_as a h f g = ((λ e. f (h.0 e)), (λ q. h.1 (g q)))

pub decide_is : {P : Type 0} (a b : Bool) → a ≡ b → Decides b P → Decides a P
decide_is a b q h = ((λ e. h.0 (sym q ∙ e)), (λ p. q ∙ h.1 p))

pub is_true : (b : Bool) → not b ≡ false → b ≡ true
is_true true h = refl
is_true false h = absurd (let z : true ≡ false = h in cc)

-- ---- sizes of groups

size_is : (gs : List (GroupTree CoreBody)) (k : ℕ) → size_of (sizes_of gs) k ≡ size_at (map core_group gs) k
size_is [] k = refl
size_is (g ∷ gs) zero = sym (length-map g.bodies core_body)
size_is (g ∷ gs) (suc k) = size_is gs k

pub sizes_are : (gs : List (GroupTree CoreBody)) → size_of (sizes_of gs) ≡ size_at (map core_group gs)
sizes_are gs = fun_ext (λ k. size_is gs k)

-- ---- what groups pay

module _ (own : ℕ) (p : Core) where
  abbrev Pays : List (List ℕ) → ℕ → Group Body → Type 0
  Pays needs n g = 2 * length g.bodies + length (distinct (nth [] needs n)) ≤ 4 * (1 + nodes_of g.bodies)

  pays_first : (needs : List (List ℕ)) (n : ℕ) (g : Group Body) (gs : List (Group Body)) → PaidCoreGroups own p (drop n needs) (g ∷ gs) → Pays needs n g × PaidCoreGroups own p (drop (suc n) needs) gs
  pays_first [] zero g gs h = ((let x = h.0 in omega (arith, x)), h.1)
  pays_first [] (suc n) g gs h = ((let x = h.0 in omega (arith, x)), h.1)
  pays_first (ns ∷ needs) zero g gs h = (h.0, h.1)
  pays_first (ns ∷ needs) (suc n) g gs h = pays_first needs n g gs h

  then_pays : (needs : List (List ℕ)) (n : ℕ) (g : Group Body) (gs : List (Group Body)) → Pays needs n g × PaidCoreGroups own p (drop (suc n) needs) gs → PaidCoreGroups own p (drop n needs) (g ∷ gs)
  then_pays [] zero g gs h = ((let x = h.0 in omega (arith, x)), h.1)
  then_pays [] (suc n) g gs h = ((let x = h.0 in omega (arith, x)), h.1)
  then_pays (ns ∷ needs) zero g gs h = (h.0, h.1)
  then_pays (ns ∷ needs) (suc n) g gs h = then_pays needs n g gs h

  pays_decided : (needs : List (List ℕ)) (n : ℕ) (g : Group Body) (gs : List (Group Body)) (a b : Bool) → Decides a (Pays needs n g) → Decides b (PaidCoreGroups own p (drop (suc n) needs) gs) → Decides (a && b) (PaidCoreGroups own p (drop n needs) (g ∷ gs))
  pays_decided needs n g gs a b h i = decide_as (a && b) (both_decide a b h i) (then_pays needs n g gs) (pays_first needs n g gs)

  pub pays_of : (needs : List (List ℕ)) (n : ℕ) (g : GroupTree CoreBody) (bodies : List CoreBody) (names : List ℕ) → bodies ≡ g.bodies → names ≡ nth [] needs n → (a : Bool)
      → Decides a (2 * length bodies + length (distinct names) ≤ 4 * (1 + nodes_of (map core_body bodies))) → Decides a (Pays needs n (core_group g))
  pays_of needs n g bodies names e i a h =
      let named : Decides a (2 * length bodies + length (distinct (nth [] needs n)) ≤ 4 * (1 + nodes_of (map core_body bodies))) =
      subst (λ (ns : List ℕ). Decides a (2 * length bodies + length (distinct ns) ≤ 4 * (1 + nodes_of (map core_body bodies)))) i h in
      let made : Decides a (2 * length g.bodies + length (distinct (nth [] needs n)) ≤ 4 * (1 + nodes_of (map core_body g.bodies))) =
      subst (λ (bs : List CoreBody). Decides a (2 * length bs + length (distinct (nth [] needs n)) ≤ 4 * (1 + nodes_of (map core_body bs)))) e named in
      subst (λ (m : ℕ). Decides a (2 * m + length (distinct (nth [] needs n)) ≤ 4 * (1 + nodes_of (map core_body g.bodies)))) (sym (length-map g.bodies core_body)) made

  pub paid_before : (needs : List (List ℕ)) (gs : List (GroupTree CoreBody)) (i number : ℕ) (g : GroupTree CoreBody) → suc i ≡ number → i < length gs → g ≡ get_or gs i g → (a b : Bool) → Decides a (Pays needs i (core_group g))
      → Decides b (PaidCoreGroups own p (drop number needs) (map core_group (drop number gs))) → Decides (a && b) (PaidCoreGroups own p (drop i needs) (map core_group (drop i gs)))
  paid_before needs gs i number g e l is a b h k =
      let next : i + 1 ≡ number = omega (arith, e) in
      let whole : drop i gs ≡ g ∷ drop number gs = drop_more gs i g l ∙ ap (λ (x : GroupTree CoreBody). x ∷ drop (i + 1) gs) (sym is) ∙ ap (λ (m : ℕ). g ∷ drop m gs) next in
      subst (λ (xs : List (GroupTree CoreBody)). Decides (a && b) (PaidCoreGroups own p (drop i needs) (map core_group xs))) (sym whole)
      (pays_decided needs i (core_group g) (map core_group (drop number gs)) a b h (subst (λ (m : ℕ). Decides b (PaidCoreGroups own p (drop m needs) (map core_group (drop number gs)))) (sym e) k))
