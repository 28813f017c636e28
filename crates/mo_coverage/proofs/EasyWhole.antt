-- Where easy patterns match all values.
use Rattle.std.proofs.Common.{◌≡◌, ℕ, zero, suc, List, [], ◌∷◌, Bool, true, false, Option, Some, None, refl, sym, ap, ◌∙◌, subst}
use Rattle.std.specs.Prelude.{cond, slice_get}
use Rattle.std.specs.Str.{bytes_eq}
use Rattle.mo_types.specs.declared.node.Field.{Field}
use Rattle.mo_types.specs.declared.node.Node.{Node}
use Rattle.mo_types.specs.declared.node.Node.TheVariants as node
use Rattle.mo_types.specs.declared.node.TypeId.{TypeId}
use Rattle.mo_types.specs.Graph.{Slot}
use Rattle.mo_types.specs.Sub.{AtSome, Each, find}
use Rattle.mo_values.specs.Shapes.{Bytes, Tag, Shape, Made, NoShape, AShape}
use Rattle.mo_values.specs.Views.{tuple_of}
use Rattle.typed_tree.specs.Patterns.{Pat, Pats, Wildcard, Bind, Tagged, Parts, NoPat, APat, Found, all_of, where_there, matches, matches_all}
use Rattle.typed_tree.specs.Types.{AreLawful}
use Rattle.pattern_elab.specs.Suiting.{Suits, SuitAll}
use Rattle.pattern_coverage.specs.Cover as cover
use Rattle.pattern_coverage.specs.Cover.{Coverage, IsExact, Tells, coverage}
use Rattle.pattern_coverage.specs.Followed.{value_head}
use Rattle.pattern_coverage.specs.Inhabited.{HasValues, IsValue}
use Rattle.pattern_coverage.specs.Suited.{IsOn, OnPart, OnVariant}
use Rattle.pattern_coverage.proofs.Covered.{exact, having}
use Rattle.pattern_coverage.proofs.Option.{bytes_same, bytes_self}
use Rattle.pattern_coverage.proofs.Seen.{TagSeen, TagIs, tag_seen}
use Rattle.pattern_coverage.specs.Inhabited.{everything}
use Rattle.pattern_coverage.proofs.Suited.{suits}
use Rattle.mo_coverage.specs.Easy.{are_names, is_easy, SomeEasy, IsEasyUnder, AreEasyUnder}

module _ {F : Type 0} where
  other_none : (ws : List (Shape F)) (r : Found F) → all_of (Some ws) r ≡ None → r ≡ None
  other_none ws None e = refl
  other_none ws (Some vs) e = cc

  names_match : (ps : Pats) (vs : List (Shape F)) → are_names ps ≡ true → SuitAll ps vs → matches_all ps vs ≡ None → ⊥
  names_match NoPat [] n s e = cc
  names_match NoPat (v ∷ vs) n s e = absurd s
  names_match (APat p ps) [] n s e = absurd s
  names_match (APat Wildcard ps) (v ∷ vs) n s e = names_match ps vs n s.1 (other_none [] (matches_all ps vs) e)
  names_match (APat Bind ps) (v ∷ vs) n s e = names_match ps vs n s.1 (other_none (v ∷ []) (matches_all ps vs) e)
  names_match (APat p ps) (v ∷ vs) n s e = cc

  tuple_matches : (ps : Pats) (o : Option (List (Shape F))) → are_names ps ≡ true → AtSome o (λ vs. SuitAll ps vs) → where_there (λ vs. matches_all ps vs) o ≡ None → ⊥
  tuple_matches ps None n s e = absurd s
  tuple_matches ps (Some vs) n s e = names_match ps vs n s e

  easy_matches : (p : Pat) (v : Shape F) → is_easy p ≡ true → Suits p v → matches p v ≡ None → ⊥
  easy_matches Wildcard v y s e = cc
  easy_matches Bind v y s e = cc
  easy_matches (Parts ps) v y s e = tuple_matches ps (tuple_of v) y s e
  easy_matches p v y s e = cc

at_each : (P : Pat → Type 0) (ps : List Pat) (n : ℕ) (p : Pat) → slice_get ps n ≡ Some p → Each P ps → P p
at_each P [] n p g h = cc
at_each P (q ∷ ps) zero p g h = subst P (let e : q ≡ p = cc in e) h.0
at_each P (q ∷ ps) (suc n) p g h = at_each P ps n p g h.1

-- the place of a field that is found
record Place (fs : List (Field TypeId)) (l : Bytes) (g : Field TypeId) : Type 0 where
  place : ℕ
  there : slice_get fs place ≡ Some g
  label : g.label ≡ l

field_place : (fs : List (Field TypeId)) (l : Bytes) (g : Field TypeId) → find l fs ≡ Some g → Place fs l g
field_place [] l g e = cc
field_place (f ∷ fs) l g e = by (bytes_eq f.label l) refl e (field_place fs l g)
  where
    by : (b : Bool) → bytes_eq f.label l ≡ b → cond b (Some f) (find l fs) ≡ Some g → (find l fs ≡ Some g → Place fs l g) → Place (f ∷ fs) l g
    by true q e k = let s : f ≡ g = cc in record { place = 0; there = e; label = ap (λ (x : Field TypeId). x.label) (sym s) ∙ bytes_same f.label l q }
    by false q e k = let r : Place fs l g = k e in record { place = suc r.place; there = r.there; label = r.label }

module _ {F : Type 0} (sample : F) (types : List Slot) (has : TypeId → Bool) (t : TypeId) (ps : List Pat) (lawful : AreLawful types) (tells : Tells (value_head types) has) (on : Each (λ p. IsOn (value_head types) p t) ps) where
  abbrev head : TypeId → Node TypeId
  head = value_head types

  abbrev Missing : Shape F → Type 0
  Missing v = Each (λ p. matches p v ≡ None) ps

  -- where each value matches
  whole_if : ((v : Shape F) → IsValue head t v → Missing v → ⊥) → cover.Whole ≡ coverage head has ps t
  whole_if f = by (coverage head has ps t) (exact sample types has t ps lawful tells on)
    where
      by : (c : Coverage) → IsExact head F t ps c → cover.Whole ≡ c
      by cover.Whole h = refl
      by (cover.Misses k) h = absurd (f h.0.0 h.0.1 (h.1 h.0.0 h.0.1 h.0.2))

  pub whole_by_one : SomeEasy ps → cover.Whole ≡ coverage head has ps t
  whole_by_one s = whole_if (λ v i none.
      easy_matches s.1 v s.3 (suits F head has i.0 s.1 t v (at_each (λ p. IsOn head p t) ps s.0 s.1 s.2 on) i.2) (at_each (λ p. matches p v ≡ None) ps s.0 s.1 s.2 none))

  under : (fs : List (Field TypeId)) → head t ≡ node.Variant fs → AreEasyUnder has fs ps → (kinds : List TypeId) → Each (HasValues head) kinds → (v : Shape F) → TagSeen head (everything head) kinds fs v → Missing v → ⊥
  under fs e easy kinds contents v (TagIs m g w q a) none =
      let r : Place fs m g = field_place fs m g q in
      let h : has g.part ≡ true = (tells g.part).1 (having sample types has t ps lawful tells on kinds contents g.part w a) in
      let s : IsEasyUnder ps g.label = easy r.place g r.there h in
      let o : OnPart (λ u. IsOn head s.1 u) (find g.label fs) = subst (OnVariant (λ u. IsOn head s.1 u) g.label) e (at_each (λ p. IsOn head p t) ps s.0 (Tagged g.label s.1) s.2 on) in
      let i : IsOn head s.1 g.part = subst (OnPart (λ u. IsOn head s.1 u)) (ap (λ l. find l fs) r.label ∙ q) o in
      let n : where_there (λ u. matches s.1 u) (cond (bytes_eq g.label m) (Some w) None) ≡ None = at_each (λ p. matches p (Made (Tag m) (AShape w NoShape)) ≡ None) ps s.0 (Tagged g.label s.1) s.2 none in
      let b : bytes_eq g.label m ≡ true = ap (λ l. bytes_eq g.label l) (sym r.label) ∙ bytes_self g.label in
      easy_matches s.1 w s.3 (suits F head has kinds s.1 g.part w i a) (subst (λ c. where_there (λ u. matches s.1 u) (cond c (Some w) None) ≡ None) b n)

  pub whole_by_tags : (fs : List (Field TypeId)) → head t ≡ node.Variant fs → AreEasyUnder has fs ps → cover.Whole ≡ coverage head has ps t
  whole_by_tags fs e easy = whole_if (λ v i none. under fs e easy i.0 i.1 v (tag_seen head (everything head) i.0 t fs v e i.2) none)
