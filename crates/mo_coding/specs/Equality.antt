-- Whether two Candid types are equal (Candid specification, section "Types"): where all pairs of types that are met, two
-- types with the pairs of their parts, have heads of one form.
use Rattle.std.specs.Prelude.{Bool, true, false, ◌&&◌, ◌||◌, List, [], ◌∷◌, length, map, flat_map, nat_eq}
use Rattle.std.specs.List.{list_all}
use Rattle.std.specs.Cmp.Lexicographic.{pointwise}
use Rattle.mo_types.specs.declared.wire.Wire.{Wire}
use Rattle.mo_types.specs.declared.wire.Wire.TheVariants.{Simple, Opt, Vec, Record, Variant, Func, Service}
use Rattle.mo_types.specs.Wire.{plain_code}
use Rattle.mo_types.specs.Header.{parts_of}
use Rattle.mo_coding.specs.Walks.{visit}
use Rattle.mo_coding.specs.Heads.{Heads}

-- place by place
abbrev pub pairs : {A B : Type 0} → List A → List B → List (A × B)
pairs [] ys = []
pairs (x ∷ xs) [] = []
pairs (x ∷ xs) (y ∷ ys) = (x, y) ∷ pairs xs ys

-- each with each
abbrev pub products : {A B : Type 0} → List A → List B → List (A × B)
products xs ys = flat_map (λ x. map (λ y. (x, y)) ys) xs

-- heads that differ in their parts at most
abbrev pub alike : {A B : Type 0} → Wire A → Wire B → Bool
alike (Simple p) (Simple q) = nat_eq (plain_code p) (plain_code q)
alike (Opt a) (Opt b) = true
alike (Vec a) (Vec b) = true
alike (Record es) (Record fs) = pointwise nat_eq (map (λ e. e.id) es) (map (λ e. e.id) fs)
alike (Variant es) (Variant fs) = pointwise nat_eq (map (λ e. e.id) es) (map (λ e. e.id) fs)
alike (Func ps rs ns) (Func qs ss ms) = nat_eq (length ps) (length qs) && (nat_eq (length rs) (length ss) && pointwise nat_eq ns ms)
alike (Service ms) (Service ns) = pointwise (λ a b. pointwise nat_eq a b) (map (λ m. m.name) ms) (map (λ m. m.name) ns)
alike w v = false

module _ {A B : Type 0} (g : Heads A) (k : Heads B) where
  abbrev pub has_pair : List (A × B) → A × B → Bool
  has_pair [] p = false
  has_pair (q ∷ qs) p = (nat_eq (g.number q.0) (g.number p.0) && nat_eq (k.number q.1) (k.number p.1)) || has_pair qs p

  abbrev pub asks : A × B → List (A × B)
  asks p = pairs (parts_of (g.head p.0)) (parts_of (k.head p.1))

  abbrev pub are_alike : A × B → Bool
  are_alike p = alike (g.head p.0) (k.head p.1)

  -- the pairs that are met from this one
  abbrev pub met_pairs : A → B → List (A × B)
  met_pairs a b = visit has_pair asks (length ((a, b) ∷ products g.parts k.parts)) [] ((a, b) ∷ [])

  abbrev pub same : A → B → Bool
  same a b = list_all are_alike (met_pairs a b)
