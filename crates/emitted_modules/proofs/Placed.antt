-- Where functions, types and bodies stand in a program and in its module.
use Rattle.std.proofs.Common.{◌≡◌, ℕ, zero, suc, ◌+◌, ◌*◌, ◌-◌, ◌<◌, ◌≤◌, max, List, [], ◌∷◌, ◌++◌, length, map, Bool, true, false, ◌&&◌, Some, slice_get, refl, sym, ap, ◌∙◌, subst, arith}
use Rattle.std.specs.List.{AllByRecursion}
use Rattle.std.proofs.lemmas.List.{length-map}
use Rattle.core_ir.specs.Programs.{Group}
use Rattle.core_ir.specs.Code.{Code, Body, nodes_of}
use Rattle.core_ir.specs.Formed.{size_at, sees_at, counted, counted_groups, PaidGroups}
use Rattle.low_ir.specs.Tree.{Function}
use Rattle.low_emit.specs.Modules.{before, all_bodies, body_arity, bodies_arity, groups_arity}
use Rattle.emitted_modules.proofs.Lists.{first, second, get_front, get_behind, get_map}

pub sizes_are : (gs : List (Group Body)) (code : ℕ) (group : Group Body) → slice_get gs code ≡ Some group → size_at gs code ≡ length group.bodies
sizes_are [] code group e = absurd (cc)
sizes_are (g ∷ gs) zero group e = let same : g ≡ group = cc in ap (λ h. length h.bodies) same
sizes_are (g ∷ gs) (suc code) group e = sizes_are gs code group e

pub sees_are : (gs : List (Group Body)) (code : ℕ) (group : Group Body) → slice_get gs code ≡ Some group → sees_at gs code ≡ group.sees
sees_are [] code group e = absurd (cc)
sees_are (g ∷ gs) zero group e = let same : g ≡ group = cc in ap (λ h. h.sees) same
sees_are (g ∷ gs) (suc code) group e = sees_are gs code group e

pub paid_at : (gs : List (Group Body)) (code : ℕ) (group : Group Body) → slice_get gs code ≡ Some group → PaidGroups gs → 2 * length group.bodies + group.sees ≤ 4 * (1 + nodes_of group.bodies)
paid_at [] code group e p = absurd (cc)
paid_at (g ∷ gs) zero group e p = let same : g ≡ group = cc in subst (λ h. 2 * length h.bodies + h.sees ≤ 4 * (1 + nodes_of h.bodies)) same p.0
paid_at (g ∷ gs) (suc code) group e p = paid_at gs code group e p.1

pub inside : {A : Type 0} → (xs : List A) (k : ℕ) (x : A) → slice_get xs k ≡ Some x → k < length xs
inside [] k x e = absurd (cc)
inside (y ∷ xs) zero x e = omega arith
inside (y ∷ xs) (suc k) x e = let lt = inside xs k x e in omega (arith, lt)

-- ---- numbers of functions

pub below_all : (gs : List (Group Body)) (code k : ℕ) (group : Group Body) (b : Body) → slice_get gs code ≡ Some group → slice_get group.bodies k ≡ Some b → before gs code + k < all_bodies gs
below_all [] code k group b e q = absurd (cc)
below_all (g ∷ gs) zero k group b e q =
    let same : g ≡ group = cc in
    let lt : k < length g.bodies = subst (λ h. k < length h.bodies) (sym same) (inside group.bodies k b q) in omega (arith, lt)
below_all (g ∷ gs) (suc code) k group b e q = let lt = below_all gs code k group b e q in omega (arith, lt)

-- A list of what is made of each body, group by group.
module _ (F : ℕ → Body → Function) where
  abbrev pub made_of : List (Group Body) → List Function
  made_of [] = []
  made_of (g ∷ gs) = map (F (length g.bodies)) g.bodies ++ made_of gs

  pub made_at : (gs : List (Group Body)) (code k : ℕ) (group : Group Body) (b : Body) → slice_get gs code ≡ Some group → slice_get group.bodies k ≡ Some b
      → slice_get (made_of gs) (before gs code + k) ≡ Some (F (length group.bodies) b)
  made_at [] code k group b e q = absurd (cc)
  made_at (g ∷ gs) zero k group b e q =
      let same : g ≡ group = cc in
      let here : slice_get g.bodies k ≡ Some b = subst (λ h. slice_get h.bodies k ≡ Some b) (sym same) q in
      ap (slice_get (made_of (g ∷ gs))) (omega arith) ∙ get_front (map (F (length g.bodies)) g.bodies) (made_of gs) k (F (length g.bodies) b) (get_map (F (length g.bodies)) g.bodies k b here) ∙ ap (λ h. Some (F (length h.bodies) b)) same
  made_at (g ∷ gs) (suc code) k group b e q =
      let long : length (map (F (length g.bodies)) g.bodies) ≡ length g.bodies = length-map g.bodies (F (length g.bodies)) in
      ap (slice_get (made_of (g ∷ gs))) (omega (arith, long))
      ∙ get_behind (map (F (length g.bodies)) g.bodies) (made_of gs) (before gs code + k) ∙ made_at gs code k group b e q

-- ---- parameters

pub in_bodies : (bs : List Body) (k : ℕ) (b : Body) → slice_get bs k ≡ Some b → b.parameters ≤ bodies_arity bs
in_bodies [] k b e = absurd (cc)
in_bodies (c ∷ bs) zero b e = let same : c ≡ b = cc in let eq : c.parameters ≡ b.parameters = ap (λ b. b.parameters) same in omega (arith, eq)
in_bodies (c ∷ bs) (suc k) b e = let le = in_bodies bs k b e in omega (arith, le)

pub in_groups : (gs : List (Group Body)) (code k : ℕ) (group : Group Body) (b : Body) → slice_get gs code ≡ Some group → slice_get group.bodies k ≡ Some b → b.parameters ≤ groups_arity gs
in_groups [] code k group b e q = absurd (cc)
in_groups (g ∷ gs) zero k group b e q =
    let same : g ≡ group = cc in
    let le : b.parameters ≤ bodies_arity g.bodies = in_bodies g.bodies k b (subst (λ h. slice_get h.bodies k ≡ Some b) (sym same) q) in omega (arith, le)
in_groups (g ∷ gs) (suc code) k group b e q = let le = in_groups gs code k group b e q in omega (arith, le)

-- ---- counts

abbrev segments : Body → ℕ
segments b = length b.segments

bodies_counted : (bs : List Body) → ((k : ℕ) (b : Body) → slice_get bs k ≡ Some b → 1 ≤ segments b) → length bs ≤ counted segments bs
bodies_counted [] h = omega arith
bodies_counted (b ∷ bs) h = let one = h 0 b refl in let more = bodies_counted bs (λ k. h (suc k)) in omega (arith, one, more)

pub groups_counted : (gs : List (Group Body)) → ((code k : ℕ) (group : Group Body) (b : Body) → slice_get gs code ≡ Some group → slice_get group.bodies k ≡ Some b → 1 ≤ segments b) → all_bodies gs ≤ counted_groups segments gs
groups_counted [] h = omega arith
groups_counted (g ∷ gs) h =
    let one = bodies_counted g.bodies (λ k b q. h 0 k g b refl q) in
    let more = groups_counted gs (λ code. h (suc code)) in omega (arith, one, more)
