-- Patterns with their alternatives in their places.
use Rattle.std.proofs.Common.{◌≡◌, List, [], ◌∷◌, Some, None, refl}
use Rattle.mo_types.specs.declared.node.Node.{Node}
use Rattle.mo_types.specs.declared.node.TypeId.{TypeId}
use Rattle.mo_types.specs.Sub.{Each}
use Rattle.mo_values.specs.Shapes.{Shape}
use Rattle.typed_tree.specs.Patterns.{Pat, Either, Found, first_of_both, matches}
use Rattle.pattern_coverage.specs.Cover.{Coverage, Whole, Misses, IsExact}
use Rattle.pattern_coverage.specs.Suited.{IsOn}
use Rattle.tag_coverage.specs.Alternatives.{alternatives, all_alternatives}
use Rattle.tag_coverage.proofs.Each.{each_of_both, each_left, each_right}

module _ (head : TypeId → Node TypeId) (t : TypeId) where
  abbrev On : Pat → Type 0
  On p = IsOn head p t

  alternatives_on : (p : Pat) → On p → Each On (alternatives p)
  alternatives_on (Either p q) o = each_of_both On (alternatives p) (alternatives q) (alternatives_on p o.0) (alternatives_on q o.1)
  alternatives_on p o = (o, tt)

  pub all_on : (ps : List Pat) → Each On ps → Each On (all_alternatives ps)
  all_on [] o = tt
  all_on (p ∷ ps) o = each_of_both On (alternatives p) (all_alternatives ps) (alternatives_on p o.0) (all_on ps o.1)

module _ {F : Type 0} where
  neither_matches : (r s : Found F) → first_of_both r s ≡ None → (r ≡ None) × (s ≡ None)
  neither_matches None None e = (refl, refl)
  neither_matches None (Some ws) e = cc
  neither_matches (Some vs) s e = cc

  none_of_both : (r s : Found F) → r ≡ None → s ≡ None → first_of_both r s ≡ None
  none_of_both None None e f = refl
  none_of_both None (Some ws) e f = cc
  none_of_both (Some vs) s e f = cc

  module _ (v : Shape F) where
    abbrev Misses? : Pat → Type 0
    Misses? p = matches p v ≡ None

    missed_by_each : (p : Pat) → Misses? p → Each Misses? (alternatives p)
    missed_by_each (Either p q) e =
        let both = neither_matches (matches p v) (matches q v) e in
        each_of_both Misses? (alternatives p) (alternatives q) (missed_by_each p both.0) (missed_by_each q both.1)
    missed_by_each p e = (e, tt)

    missed_by_one : (p : Pat) → Each Misses? (alternatives p) → Misses? p
    missed_by_one (Either p q) h =
        none_of_both (matches p v) (matches q v) (missed_by_one p (each_left Misses? (alternatives p) (alternatives q) h)) (missed_by_one q (each_right Misses? (alternatives p) (alternatives q) h))
    missed_by_one p h = h.0

    missed_by_alternatives : (ps : List Pat) → Each Misses? ps → Each Misses? (all_alternatives ps)
    missed_by_alternatives [] h = tt
    missed_by_alternatives (p ∷ ps) h = each_of_both Misses? (alternatives p) (all_alternatives ps) (missed_by_each p h.0) (missed_by_alternatives ps h.1)

    missed_by_patterns : (ps : List Pat) → Each Misses? (all_alternatives ps) → Each Misses? ps
    missed_by_patterns [] h = tt
    missed_by_patterns (p ∷ ps) h =
        (missed_by_one p (each_left Misses? (alternatives p) (all_alternatives ps) h), missed_by_patterns ps (each_right Misses? (alternatives p) (all_alternatives ps) h))

pub exact_by_alternatives : (F : Type 0) (head : TypeId → Node TypeId) (t : TypeId) (ps : List Pat) (c : Coverage) → IsExact head F t (all_alternatives ps) c → IsExact head F t ps c
exact_by_alternatives F head t ps Whole h = λ v i none. h v i (missed_by_alternatives v ps none)
exact_by_alternatives F head t ps (Misses k) h = (h.0, λ v i d. missed_by_patterns v ps (h.1 v i d))
