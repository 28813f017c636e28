-- What is missed of options, by what is missed of the values that they hold.
use Rattle.std.proofs.Common.{◌≡◌, ◌⊎◌, inl, inr, List, [], ◌∷◌, Bool, true, false, None, refl, subst}
use Rattle.std.specs.Prelude.{◌&&◌, ◌||◌}
use Rattle.mo_types.specs.declared.datum.Datum.TheVariants as part
use Rattle.mo_types.specs.declared.node.Node.{Node}
use Rattle.mo_types.specs.declared.node.Node.TheVariants as node
use Rattle.mo_types.specs.declared.node.TypeId.{TypeId}
use Rattle.mo_types.specs.Sub.{Each}
use Rattle.mo_values.specs.Shapes.{Leaf, Present, Shape, Made, NoShape, AShape}
use Rattle.typed_tree.specs.Has.{Has}
use Rattle.typed_tree.specs.Opening.{Code}
use Rattle.typed_tree.specs.Patterns.{Pat, Constant, Present?, matches}
use Rattle.typed_tree.specs.Wants.{Of}
use Rattle.pattern_coverage.specs.Cover.{Coverage, Whole, Misses, IsExact}
use Rattle.pattern_coverage.specs.Inhabited.{HasValues, everything}
use Rattle.pattern_coverage.specs.Known.{Known, Is, Holds, Describes}
use Rattle.pattern_coverage.specs.Suited.{IsOn, OnOption}
use Rattle.pattern_coverage.proofs.Seen.{no, OptionSeen, NullSeen, PresentSeen, option_seen, from_head}
use Rattle.tag_coverage.specs.Within.{in_option}
use Rattle.tag_coverage.specs.Options.{all_of_option, inside, insides, is_null, is_of_option, some_null}
use Rattle.tag_coverage.proofs.Each.{each_of_both, each_left, each_right}

both_true : (a b : Bool) → (a && b) ≡ true → (a ≡ true) × (b ≡ true)
both_true true b e = (refl, e)
both_true false b e = cc

both_false : (a b : Bool) → (a || b) ≡ false → (a ≡ false) × (b ≡ false)
both_false true b e = cc
both_false false b e = (refl, e)

one_true : (a b : Bool) → (a || b) ≡ true → (a ≡ true) ⊎ (b ≡ true)
one_true true b e = inl refl
one_true false b e = inr e

abbrev null : Shape Code
null = Made (Leaf part.Null) NoShape

abbrev holding : Shape Code → Shape Code
holding w = Made Present (AShape w NoShape)

-- ---- null

abbrev NullMissed : Pat → Type 0
NullMissed p = matches p null ≡ None

null_missed_by : (p : Pat) → is_of_option p ≡ true → is_null p ≡ false → NullMissed p
null_missed_by (Present? p) o n = refl
null_missed_by (Constant part.Null) o n = cc
null_missed_by p o n = cc

pub null_missed : (ps : List Pat) → all_of_option ps ≡ true → some_null ps ≡ false → Each NullMissed ps
null_missed [] o n = tt
null_missed (p ∷ ps) o n =
    let a = both_true (is_of_option p) (all_of_option ps) o in
    let b = both_false (is_null p) (some_null ps) n in
    (null_missed_by p a.0 b.0, null_missed ps a.1 b.1)

null_met_by : (p : Pat) → is_null p ≡ true → NullMissed p → ⊥
null_met_by (Constant part.Null) n e = cc
null_met_by p n e = cc

pub null_met : (ps : List Pat) → some_null ps ≡ true → Each NullMissed ps → ⊥
null_met [] n h = cc
null_met (p ∷ ps) n h = by (one_true (is_null p) (some_null ps) n) (λ e. null_met ps e h.1)
  where
    by : (is_null p ≡ true) ⊎ (some_null ps ≡ true) → (some_null ps ≡ true → ⊥) → ⊥
    by (inl e) k = null_met_by p e h.0
    by (inr e) k = k e

-- ---- a value that is held

module _ (w : Shape Code) where
  abbrev Inside : Pat → Type 0
  Inside q = matches q w ≡ None

  abbrev Outside : Pat → Type 0
  Outside p = matches p (holding w) ≡ None

  inside_misses : (p : Pat) → Outside p → Each Inside (inside p)
  inside_misses (Present? q) e = (e, tt)
  inside_misses p e = tt

  pub insides_miss : (ps : List Pat) → Each Outside ps → Each Inside (insides ps)
  insides_miss [] h = tt
  insides_miss (p ∷ ps) h = each_of_both Inside (inside p) (insides ps) (inside_misses p h.0) (insides_miss ps h.1)

  outside_misses : (p : Pat) → is_of_option p ≡ true → Each Inside (inside p) → Outside p
  outside_misses (Present? q) o h = h.0
  outside_misses (Constant part.Null) o h = refl
  outside_misses p o h = cc

  pub outsides_miss : (ps : List Pat) → all_of_option ps ≡ true → Each Inside (insides ps) → Each Outside ps
  outsides_miss [] o h = tt
  outsides_miss (p ∷ ps) o h =
      let a = both_true (is_of_option p) (all_of_option ps) o in
      (outside_misses p a.0 (each_left Inside (inside p) (insides ps) h), outsides_miss ps a.1 (each_right Inside (inside p) (insides ps) h))

module _ (head : TypeId → Node TypeId) (t u : TypeId) (is : head t ≡ node.Opt u) (ps : List Pat) where
  -- ---- what stands behind a `?` is on its type

  inside_on : (p : Pat) → IsOn head p t → Each (λ q. IsOn head q u) (inside p)
  inside_on (Present? q) o = (subst (OnOption (λ u. IsOn head q u)) is o, tt)
  inside_on p o = tt

  all_inside_on : (qs : List Pat) → Each (λ p. IsOn head p t) qs → Each (λ q. IsOn head q u) (insides qs)
  all_inside_on [] o = tt
  all_inside_on (q ∷ qs) o = each_of_both (λ q. IsOn head q u) (inside q) (insides qs) (inside_on q o.0) (all_inside_on qs o.1)

  pub insides_on : Each (λ p. IsOn head p t) ps → Each (λ q. IsOn head q u) (insides ps)
  insides_on o = all_inside_on ps o

  -- ---- null is missed

  abbrev Here : List TypeId → TypeId → Shape Code → Type 0
  Here kinds t v = Has head (everything head) kinds (Of t) v

  null_value : (kinds : List TypeId) → Here kinds t null
  null_value kinds = from_head head (everything head) kinds (node.Opt u) t null is ((tt, tt), tt)

  held_value : (kinds : List TypeId) (w : Shape Code) → Here kinds u w → Here kinds t (holding w)
  held_value kinds w a = from_head head (everything head) kinds (node.Opt u) t (holding w) is (tt, (a, tt))

  pub missing_null : all_of_option ps ≡ true → some_null ps ≡ false → IsExact head Code t ps (Misses (Is part.Null))
  missing_null o n = ((null, ([], tt, null_value []), refl), λ v i d. by i.0 v (option_seen head (everything head) i.0 t u v is i.2) d)
    where
      by : (kinds : List TypeId) (v : Shape Code) → OptionSeen head (everything head) kinds u v → Describes (Is part.Null) v → Each (λ p. matches p v ≡ None) ps
      by kinds v NullSeen d = null_missed ps o n
      by kinds v (PresentSeen w a) d = absurd (no d)

  -- ---- null is met

  whole : some_null ps ≡ true → IsExact head Code u (insides ps) Whole → IsExact head Code t ps Whole
  whole n told v (kinds, contents, a) none = by v (option_seen head (everything head) kinds t u v is a) none
    where
      by : (v : Shape Code) → OptionSeen head (everything head) kinds u v → Each (λ p. matches p v ≡ None) ps → ⊥
      by v NullSeen none = null_met ps n none
      by v (PresentSeen w b) none = told w (kinds, contents, b) (insides_miss w ps none)

  missed : all_of_option ps ≡ true → (j : Known) → IsExact head Code u (insides ps) (Misses j) → IsExact head Code t ps (Misses (Holds j))
  missed o j told = (
    (holding told.0.0, (told.0.1.0, told.0.1.1, held_value told.0.1.0 told.0.0 told.0.1.2), told.0.2),
    λ v i d. by i.0 i.1 v (option_seen head (everything head) i.0 t u v is i.2) d,
  )
    where
      by : (kinds : List TypeId) → Each (HasValues head) kinds → (v : Shape Code) → OptionSeen head (everything head) kinds u v → Describes (Holds j) v → Each (λ p. matches p v ≡ None) ps
      by kinds contents v NullSeen d = absurd d
      by kinds contents v (PresentSeen w b) d = outsides_miss w ps o (told.1 w (kinds, contents, b) d)

  pub exact_in_option : all_of_option ps ≡ true → some_null ps ≡ true → (d : Coverage) → IsExact head Code u (insides ps) d → IsExact head Code t ps (in_option d)
  exact_in_option o n Whole told = whole n told
  exact_in_option o n (Misses j) told = missed o j told
