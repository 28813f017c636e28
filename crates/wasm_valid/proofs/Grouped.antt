-- The locals of groups.
use Rattle.std.proofs.Common.{◌≡◌, ℕ, zero, suc, ◌+◌, ◌-◌, ◌<◌, ◌≤◌, List, [], ◌∷◌, ◌++◌, length, map, take, drop, replicate, get_or, slice_get, Option, Some, None, refl, sym, ap, ◌∙◌, subst, arith, append_assoc, append-nil, add-one}
use Rattle.std.proofs.Math.Seq.{take-suc}
use Rattle.wasm_tree.specs.declared.types.ValueType.{ValueType}
use Rattle.wasm_tree.specs.declared.module_parts.Locals.{Locals}
use Rattle.wasm_tree.specs.Rules.{grouped}
use Rattle.wasm_valid.specs.declared.locals.Group.{Group}
use Rattle.wasm_valid.specs.Locals.{groups_of, total, AreEndsAfter, AreEnds}

grouped-append : (gs hs : List Locals) → grouped (gs ++ hs) ≡ grouped gs ++ grouped hs
grouped-append [] hs = refl
grouped-append (g ∷ gs) hs = ap (λ l. replicate g.count g.kind ++ l) (grouped-append gs hs) ∙ sym (append_assoc (replicate g.count g.kind) (grouped gs) (grouped hs))

within_first : (n : ℕ) (k : ValueType) (rest : List ValueType) (x : ℕ) → x < n → slice_get (replicate n k ++ rest) x ≡ Some k
within_first zero k rest x h = absurd (omega arith)
within_first (suc n) k rest zero h = refl
within_first (suc n) k rest (suc x) h = within_first n k rest x (omega arith)

past_first : (n : ℕ) (k : ValueType) (rest : List ValueType) (x : ℕ) → n ≤ x → slice_get (replicate n k ++ rest) x ≡ slice_get rest (x - n)
past_first zero k rest x h = ap (slice_get rest) (omega arith)
past_first (suc n) k rest zero h = absurd (omega arith)
past_first (suc n) k rest (suc x) h = past_first n k rest x (omega arith) ∙ ap (slice_get rest) (omega arith)

-- What has been built: groups of these types, which end at end.
pub record Built (groups : List Group) (types : List ValueType) (end : ℕ) : Type 0 where
  pub are : grouped (groups_of groups) ≡ types
  pub ends : AreEnds groups
  pub whole : end ≡ total groups

groups-append : (gs hs : List Group) → groups_of (gs ++ hs) ≡ groups_of gs ++ groups_of hs
groups-append [] hs = refl
groups-append (g ∷ gs) hs = ap (λ l. g.locals ∷ l) (groups-append gs hs)

ends-push : (count : ℕ) (gs : List Group) (g : Group) → AreEndsAfter count gs → g.end ≡ count + total gs + g.locals.count → AreEndsAfter count (gs ++ g ∷ [])
ends-push count [] g h e = (omega (arith, e), tt)
ends-push count (f ∷ gs) g h e = (h.0, ends-push (count + f.locals.count) gs g h.1 (omega (arith, e)))

total-push : (gs : List Group) (g : Group) → total (gs ++ g ∷ []) ≡ total gs + g.locals.count
total-push [] g = omega arith
total-push (f ∷ gs) g = let e : total (gs ++ g ∷ []) ≡ total gs + g.locals.count = total-push gs g in omega arith

pub built_none : Built [] [] 0
built_none = record { are = refl; ends = tt; whole = refl }

pub built_more : (gs new : List Group) (g : Group) (types : List ValueType) (end : ℕ) → Built gs types end → g.end ≡ end + g.locals.count → new ≡ gs ++ g ∷ []
    → Built new (types ++ (replicate g.locals.count g.locals.kind ++ [])) g.end
built_more gs new g types end b e is = subst (λ l. Built l (types ++ (replicate g.locals.count g.locals.kind ++ [])) g.end) (sym is) (record {
  are = ap grouped (groups-append gs (g ∷ [])) ∙ grouped-append (groups_of gs) (g.locals ∷ []) ∙ ap (λ l. l ++ (replicate g.locals.count g.locals.kind ++ [])) b.are;
  ends = ends-push 0 gs g b.ends (omega (arith, e, b.whole));
  whole = omega (arith, e, b.whole, total-push gs g);
})

pub kind_turn : (gs new : List Group) (params : List ValueType) (i : ℕ) (d : ValueType) (end next : ℕ) → Built gs (take i params) end → next ≡ end + 1
    → new ≡ gs ++ record { locals = record { count = 1; kind = get_or params i d }; end = next } ∷ [] → i < length params → Built new (take (i + 1) params) next
kind_turn gs new params i d end next b e is within =
    let more : take (i + 1) params ≡ take i params ++ get_or params i d ∷ [] = rw add-one (take-suc params i d within) in
    subst (λ types. Built new types next) (sym more) (built_more gs new (record { locals = record { count = 1; kind = get_or params i d }; end = next }) (take i params) end b e is)

pub group_turn : (all new : List Group) (params : List ValueType) (gs : List Locals) (i : ℕ) (d : Locals) (end next : ℕ) → Built all (params ++ grouped (take i gs)) end → next ≡ end + (get_or gs i d).count
    → new ≡ all ++ record { locals = get_or gs i d; end = next } ∷ [] → i < length gs → Built new (params ++ grouped (take (i + 1) gs)) next
group_turn all new params gs i d end next b e is within =
    let more : take (i + 1) gs ≡ take i gs ++ get_or gs i d ∷ [] = rw add-one (take-suc gs i d within) in
    let last : grouped (take (i + 1) gs) ≡ grouped (take i gs) ++ grouped (get_or gs i d ∷ []) = ap grouped more ∙ grouped-append (take i gs) (get_or gs i d ∷ []) in
    subst (λ types. Built new types next) (append_assoc params (grouped (take i gs)) (grouped (get_or gs i d ∷ [])) ∙ ap (λ l. params ++ l) (sym last))
    (built_more all new (record { locals = get_or gs i d; end = next }) (params ++ grouped (take i gs)) end b e is)

-- A place between the groups that end at or before an index and those that end behind it.

pub end_at : (count : ℕ) (gs : List Group) (i : ℕ) (d : Group) → AreEndsAfter count gs → i < length gs → (get_or gs i d).end ≡ count + total (take (suc i) gs)
end_at count [] i d h within = absurd (omega arith)
end_at count (g ∷ gs) zero d h within = omega (arith, h.0)
end_at count (g ∷ gs) (suc i) d h within =
    let e : (get_or gs i d).end ≡ count + g.locals.count + total (take (suc i) gs) = end_at (count + g.locals.count) gs i d h.1 (omega arith) in omega arith

pub local_here : (gs : List Group) (i x : ℕ) (d : Group) → i < length gs → total (take i gs) ≤ x → x < total (take (suc i) gs) → slice_get (grouped (groups_of gs)) x ≡ Some (get_or gs i d).locals.kind
local_here [] i x d within low high = absurd (omega arith)
local_here (g ∷ gs) zero x d within low high = within_first g.locals.count g.locals.kind (grouped (groups_of gs)) x (omega arith)
local_here (g ∷ gs) (suc i) x d within low high =
    past_first g.locals.count g.locals.kind (grouped (groups_of gs)) x (omega arith) ∙ local_here gs i (x - g.locals.count) d (omega arith) (omega arith) (omega arith)

pub local_past : (gs : List Group) (i x : ℕ) → length gs ≤ i → total (take i gs) ≤ x → slice_get (grouped (groups_of gs)) x ≡ None
local_past [] i x all low = refl
local_past (g ∷ gs) zero x all low = absurd (omega arith)
local_past (g ∷ gs) (suc i) x all low =
    past_first g.locals.count g.locals.kind (grouped (groups_of gs)) x (omega arith) ∙ local_past gs i (x - g.locals.count) (omega arith) (omega arith)

pub ends_before : (gs : List Group) (i x : ℕ) (d : Group) → AreEnds gs → i < length gs → (get_or gs i d).end ≤ x → total (take (i + 1) gs) ≤ x
ends_before gs i x d ends within h = rw add-one (let e : (get_or gs i d).end ≡ 0 + total (take (suc i) gs) = end_at 0 gs i d ends within in omega arith)

pub ends_behind : (gs : List Group) (i x : ℕ) (d : Group) → AreEnds gs → i < length gs → x < (get_or gs i d).end → x < total (take (suc i) gs)
ends_behind gs i x d ends within h = let e : (get_or gs i d).end ≡ 0 + total (take (suc i) gs) = end_at 0 gs i d ends within in omega arith

pub at_low : (gs : List Group) (low high x : ℕ) → low ≤ high → high ≤ low → low < length gs → (high < length gs → x < total (take (suc high) gs)) → x < total (take (suc low) gs)
at_low gs low high x l h within behind = let same : high ≡ low = omega arith in subst (λ i. x < total (take (suc i) gs)) same (behind (omega arith))
