-- What is missed of a variant, by what is missed under each tag.
use Rattle.std.proofs.Common.{◌≡◌, ℕ, suc, List, [], ◌∷◌, Bool, true, false, Some, None, refl, sym, ap, ◌∙◌, subst}
use Rattle.std.specs.Prelude.{cond, slice_get}
use Rattle.std.specs.Str.{bytes_eq}
use Rattle.mo_types.specs.declared.node.Field.{Field}
use Rattle.mo_types.specs.declared.node.Node.{Node}
use Rattle.mo_types.specs.declared.node.Node.TheVariants as node
use Rattle.mo_types.specs.declared.node.TypeId.{TypeId}
use Rattle.mo_types.specs.Graph.{Slot}
use Rattle.mo_types.specs.Sub.{AtSome, Each, IsSomething, find}
use Rattle.mo_values.specs.Shapes.{Bytes, Tag, Shape, Made, NoShape, AShape}
use Rattle.subtype_laws.specs.Labels.{AreOwn, OwnLabels}
use Rattle.typed_tree.specs.Has.{Has, tag_want}
use Rattle.typed_tree.specs.Patterns.{Pat, Tagged, matches, where_there}
use Rattle.typed_tree.specs.Opening.{Code}
use Rattle.typed_tree.specs.Types.{LabelsDiffer, IsLawfulNode, AreLawful}
use Rattle.typed_tree.specs.Wants.{Of}
use Rattle.typed_tree.proofs.OwnLabels.{labels_own}
use Rattle.mo_types.specs.Graph.{head_at}
use Rattle.pattern_coverage.specs.Cover.{Coverage, Whole, Misses, IsExact, SomeMatches}
use Rattle.pattern_coverage.specs.Followed.{end_of, value_head}
use Rattle.pattern_coverage.specs.Inhabited.{HasValues, IsValue, everything}
use Rattle.pattern_coverage.specs.Known.{Known, Under, Describes}
use Rattle.pattern_coverage.specs.Suited.{IsOn, OnPart, OnVariant}
use Rattle.pattern_coverage.proofs.Option.{bytes_same, bytes_self}
use Rattle.pattern_coverage.proofs.Seen.{TagSeen, TagIs, tag_seen, from_head}
use Rattle.tag_coverage.specs.Within.{AreOnTags, IsToldByTag, under_tag}
use Rattle.tag_coverage.specs.Payloads.{IsTag, payload, payloads}
use Rattle.tag_coverage.proofs.Each.{each_at, each_of_both, each_left, each_right}

-- the place of a tag that is found
record Place (fs : List (Field TypeId)) (l : Bytes) (g : Field TypeId) : Type 0 where
  place : ℕ
  there : slice_get fs place ≡ Some g
  label : g.label ≡ l

tag_place : (fs : List (Field TypeId)) (l : Bytes) (g : Field TypeId) → find l fs ≡ Some g → Place fs l g
tag_place [] l g e = cc
tag_place (f ∷ fs) l g e = by (bytes_eq f.label l) refl e (tag_place fs l g)
  where
    by : (b : Bool) → bytes_eq f.label l ≡ b → cond b (Some f) (find l fs) ≡ Some g → (find l fs ≡ Some g → Place fs l g) → Place (f ∷ fs) l g
    by true q e k = let s : f ≡ g = cc in record { place = 0; there = e; label = ap (λ (x : Field TypeId). x.label) (sym s) ∙ bytes_same f.label l q }
    by false q e k = let r : Place fs l g = k e in record { place = suc r.place; there = r.there; label = r.label }

module _ {F : Type 0} where
  abbrev under : Bytes → Shape F → Shape F
  under l w = Made (Tag l) (AShape w NoShape)

  -- ---- what matches a value with a tag

  module _ (l : Bytes) (w : Shape F) where
    abbrev Inside : Pat → Type 0
    Inside q = matches q w ≡ None

    abbrev Outside : Pat → Type 0
    Outside p = matches p (under l w) ≡ None

    payload_misses : (p : Pat) → Outside p → Each Inside (payload l p)
    payload_misses (Tagged m q) e = by (bytes_eq m l) refl
      where
        by : (b : Bool) → bytes_eq m l ≡ b → Each Inside (cond b (q ∷ []) [])
        by true r = (subst (λ c. where_there (λ u. matches q u) (cond c (Some w) None) ≡ None) r e, tt)
        by false r = tt
    payload_misses p e = tt

    tag_misses : (p : Pat) → IsTag p → Each Inside (payload l p) → Outside p
    tag_misses (Tagged m q) t h = by (bytes_eq m l) refl h
      where
        by : (b : Bool) → bytes_eq m l ≡ b → Each Inside (cond b (q ∷ []) []) → where_there (λ u. matches q u) (cond (bytes_eq m l) (Some w) None) ≡ None
        by true r h = subst (λ c. where_there (λ u. matches q u) (cond c (Some w) None) ≡ None) (sym r) h.0
        by false r h = ap (λ c. where_there (λ u. matches q u) (cond c (Some w) None)) r
    tag_misses p t h = absurd t

    pub payloads_miss : (ps : List Pat) → Each Outside ps → Each Inside (payloads l ps)
    payloads_miss [] h = tt
    payloads_miss (p ∷ ps) h = each_of_both Inside (payload l p) (payloads l ps) (payload_misses p h.0) (payloads_miss ps h.1)

    pub tags_miss : (ps : List Pat) → Each IsTag ps → Each Inside (payloads l ps) → Each Outside ps
    tags_miss [] t h = tt
    tags_miss (p ∷ ps) t h = (tag_misses p t.0 (each_left Inside (payload l p) (payloads l ps) h), tags_miss ps t.1 (each_right Inside (payload l p) (payloads l ps) h))

module _ (types : List Slot) (lawful : AreLawful types) (t : TypeId) (fs : List (Field TypeId)) (is : value_head types t ≡ node.Variant fs) where
  abbrev head : TypeId → Node TypeId
  head = value_head types

  own : AreOwn fs
  own = subst OwnLabels is (labels_own types lawful (end_of types t))

  pub tags_differ : LabelsDiffer fs
  tags_differ = (subst (IsLawfulNode (head_at types)) is (lawful.nodes (end_of types t)).0).0

  itself : (n : ℕ) (f : Field TypeId) → slice_get fs n ≡ Some f → find f.label fs ≡ Some f
  itself n f e = each_at (λ f. find f.label fs ≡ Some f) fs n f e own

  module _ (ps : List Pat) where
    -- ---- what stands under a tag is on its type

    payload_on : (f : Field TypeId) → find f.label fs ≡ Some f → (p : Pat) → IsOn head p t → Each (λ q. IsOn head q f.part) (payload f.label p)
    payload_on f e (Tagged m q) o = by (bytes_eq m f.label) refl
      where
        by : (b : Bool) → bytes_eq m f.label ≡ b → Each (λ q. IsOn head q f.part) (cond b (q ∷ []) [])
        by true r =
            let on : OnPart (λ u. IsOn head q u) (find m fs) = subst (OnVariant (λ u. IsOn head q u) m) is o in
            (subst (OnPart (λ u. IsOn head q u)) (ap (λ l. find l fs) (bytes_same m f.label r) ∙ e) on, tt)
        by false r = tt
    payload_on f e p o = tt

    payloads_on : (f : Field TypeId) → find f.label fs ≡ Some f → (qs : List Pat) → Each (λ p. IsOn head p t) qs → Each (λ q. IsOn head q f.part) (payloads f.label qs)
    payloads_on f e [] o = tt
    payloads_on f e (q ∷ qs) o = each_of_both (λ q. IsOn head q f.part) (payload f.label q) (payloads f.label qs) (payload_on f e q o.0) (payloads_on f e qs o.1)

    module _ (lists : ℕ → List Pat) (sorted : (n : ℕ) (f : Field TypeId) → slice_get fs n ≡ Some f → lists n ≡ payloads f.label ps) where
      pub lists_on : Each (λ p. IsOn head p t) ps → AreOnTags head fs lists
      lists_on o = λ n f e. subst (Each (λ q. IsOn head q f.part)) (sym (sorted n f e)) (payloads_on f (itself n f e) ps o)

      -- ---- nothing is missed of any tag

      nothing_told : (f : Field TypeId) (qs : List Pat) (d : Coverage) → Whole ≡ under_tag f.label d → IsExact head Code f.part qs d → IsExact head Code f.part qs Whole
      nothing_told f qs Whole e x = x
      nothing_told f qs (Misses j) e x = cc

      whole : IsToldByTag head fs lists Whole → (v : Shape Code) → IsValue head t v → SomeMatches ps v
      whole told v (kinds, contents, a) none = by v (tag_seen head (everything head) kinds t fs v is a) none
        where
          by : (v : Shape Code) → TagSeen head (everything head) kinds fs v → Each (λ p. matches p v ≡ None) ps → ⊥
          by v (TagIs l g w q b) none =
              let r : Place fs l g = tag_place fs l g q in
              let e : payloads l ps ≡ lists r.place = ap (λ m. payloads m ps) (sym r.label) ∙ sym (sorted r.place g r.there) in
              let d = told r.place g r.there in
              nothing_told g (lists r.place) d.0 d.1 d.2 w (kinds, contents, b) (subst (Each (λ p. matches p w ≡ None)) e (payloads_miss l w ps none))

      -- ---- something is missed of one

      with_tag : (kinds : List TypeId) (f : Field TypeId) (w : Shape Code) → find f.label fs ≡ Some f → Has head (everything head) kinds (Of f.part) w → Has head (everything head) kinds (Of t) (under f.label w)
      with_tag kinds f w e a =
          from_head head (everything head) kinds (node.Variant fs) t (under f.label w) is (subst IsSomething (sym e) tt, (subst (λ o. Has head (everything head) kinds (tag_want o) w) (sym e) a, tt))

      missed : Each IsTag ps → (n : ℕ) (f : Field TypeId) (j : Known) → slice_get fs n ≡ Some f → IsExact head Code f.part (lists n) (Misses j) → IsExact head Code t ps (Misses (Under f.label j))
      missed tags n f j there told = (
        (
          under f.label told.0.0,
          (told.0.1.0, told.0.1.1, with_tag told.0.1.0 f told.0.0 (itself n f there) told.0.1.2),
          subst (λ b. AtSome (cond b (Some told.0.0) None) (λ w. Describes j w)) (sym (bytes_self f.label)) told.0.2,
        ),
        λ v i d. by i.0 i.1 v (tag_seen head (everything head) i.0 t fs v is i.2) d,
      )
        where
          by : (kinds : List TypeId) → Each (HasValues head) kinds → (v : Shape Code) → TagSeen head (everything head) kinds fs v → Describes (Under f.label j) v → Each (λ p. matches p v ≡ None) ps
          by kinds contents v (TagIs m g w q b) d = at (bytes_eq f.label m) refl d
            where
              at : (c : Bool) → bytes_eq f.label m ≡ c → AtSome (cond c (Some w) None) (λ w. Describes j w) → Each (λ p. matches p (under m w) ≡ None) ps
              at true r d =
                  let s : f.label ≡ m = bytes_same f.label m r in
                  let x : Some f ≡ Some g = sym (itself n f there) ∙ ap (λ l. find l fs) s ∙ q in
                  let y : g ≡ f = cc in
                  let inside : Each (λ p. matches p w ≡ None) (payloads f.label ps) =
                  subst (Each (λ p. matches p w ≡ None)) (sorted n f there) (told.1 w (kinds, contents, subst (λ (h : Field TypeId). Has head (everything head) kinds (Of h.part) w) y b) d) in
                  subst (λ l. Each (λ p. matches p (under l w) ≡ None) ps) s (tags_miss f.label w ps tags inside)
              at false r d = absurd d

      something_told : Each IsTag ps → (n : ℕ) (f : Field TypeId) (k : Known) → slice_get fs n ≡ Some f → (d : Coverage) → Misses k ≡ under_tag f.label d → IsExact head Code f.part (lists n) d → IsExact head Code t ps (Misses k)
      something_told tags n f k there Whole e x = cc
      something_told tags n f k there (Misses j) e x = subst (IsExact head Code t ps) (sym e) (missed tags n f j there x)

      pub exact_by_tag : Each IsTag ps → (c : Coverage) → IsToldByTag head fs lists c → IsExact head Code t ps c
      exact_by_tag tags Whole told = whole told
      exact_by_tag tags (Misses k) told = something_told tags told.0 told.1 k told.2 told.3.0 told.3.1 told.3.2
