-- Patterns sorted by their tags, one after another.
use Rattle.std.proofs.Common.{◌≡◌, ◌≢◌, ℕ, zero, suc, ◌+◌, ◌<◌, List, [], ◌∷◌, ◌++◌, length, map, take, get_or, Bool, true, false, Some, refl, sym, ap, ◌∙◌, subst}
use Rattle.std.specs.Prelude.{cond, nat_eq, slice_get}
use Rattle.std.specs.Str.{bytes_eq}
use Rattle.std.proofs.lemmas.Bool.{eq-eqb, eqb-true}
use Rattle.std.proofs.lemmas.List.{append-nil, append_assoc, map-append, take_more}
use Rattle.std.proofs.lemmas.Option.{slice_get_within}
use denote.Bor.{Bor}
use Rattle.mo_types.specs.declared.node.Field.{Field}
use Rattle.mo_types.specs.declared.node.TypeId.{TypeId}
use Rattle.mo_types.specs.Label.{label_id}
use Rattle.mo_types.specs.Sub.{Each}
use Rattle.mo_values.specs.Shapes.{Bytes}
use Rattle.typed_tree.specs.declared.pattern.PatternForm.{PatternForm}
use Rattle.typed_tree.specs.declared.pattern.TypedPattern.{TypedPattern, fold_out-TypedPattern}
use Rattle.typed_tree.specs.Patterns.{Pat}
use Rattle.typed_tree.specs.PatternView.{LabelledPat, form_step, field_step, pattern_step, pattern, pattern_form}
use Rattle.typed_tree.specs.Types.{LabelsDiffer}
use Rattle.pattern_coverage.proofs.Option.{bytes_same, bytes_self}
use Rattle.pattern_coverage.proofs.Seen.{no}
use Rattle.tag_coverage.specs.Payloads.{AreSorted, IsSorted, IsTag, patterns_in, payload, payloads}
use Rattle.tag_coverage.proofs.Each.{each_of_both}

pub of_form : (p : TypedPattern) (f : PatternForm) → p.form ≡ f → pattern p ≡ pattern_form f
unfolding pattern pattern_form
of_form p f e = fold_out-TypedPattern Pat LabelledPat Pat form_step field_step pattern_step p ∙ ap pattern_form e

-- ---- labels that differ

differs_at : (n : ℕ) (fs : List (Field TypeId)) (i : ℕ) (f : Field TypeId) → Each (λ y. n ≢ y) (map (λ g. label_id g.label) fs) → slice_get fs i ≡ Some f → n ≢ label_id f.label
differs_at n [] i f d e = cc
differs_at n (g ∷ fs) zero f d e = subst (λ (x : Field TypeId). n ≢ label_id x.label) (let q : g ≡ f = cc in q) d.0
differs_at n (g ∷ fs) (suc i) f d e = differs_at n fs i f d.1 e

one_place : (fs : List (Field TypeId)) (i n : ℕ) (f g : Field TypeId) → LabelsDiffer fs → slice_get fs i ≡ Some f → slice_get fs n ≡ Some g → f.label ≡ g.label → i ≡ n
one_place [] i n f g d e k s = cc
one_place (h ∷ fs) zero zero f g d e k s = refl
one_place (h ∷ fs) zero (suc n) f g d e k s =
    let q : h ≡ f = cc in absurd (differs_at (label_id h.label) fs n g d.0 k (ap (λ (x : Field TypeId). label_id x.label) q ∙ ap label_id s))
one_place (h ∷ fs) (suc i) zero f g d e k s =
    let q : h ≡ g = cc in absurd (differs_at (label_id h.label) fs i f d.0 e (ap (λ (x : Field TypeId). label_id x.label) q ∙ ap label_id (sym s)))
one_place (h ∷ fs) (suc i) (suc n) f g d e k s = ap suc (one_place fs i n f g d.1 e k s)

same_place : (fs : List (Field TypeId)) (i n : ℕ) (f g : Field TypeId) → LabelsDiffer fs → slice_get fs i ≡ Some f → slice_get fs n ≡ Some g → nat_eq i n ≡ bytes_eq f.label g.label
same_place fs i n f g d e k = by (bytes_eq f.label g.label) refl
  where
    other : (b : Bool) → bytes_eq f.label g.label ≡ false → nat_eq i n ≡ b → nat_eq i n ≡ false
    other false q r = r
    other true q r =
        let s : i ≡ n = eqb-true i n r in
        let z : Some f ≡ Some g = sym e ∙ ap (slice_get fs) s ∙ k in
        let y : f ≡ g = cc in
        absurd (no (sym q ∙ subst (λ (x : Field TypeId). bytes_eq f.label x.label ≡ true) y (bytes_self f.label)))

    by : (b : Bool) → bytes_eq f.label g.label ≡ b → nat_eq i n ≡ b
    by true q = eq-eqb i n (one_place fs i n f g d e k (bytes_same f.label g.label q))
    by false q = other (nat_eq i n) q refl

-- ---- one pattern more

more_payloads : (l : Bytes) (ps : List Pat) (p : Pat) → payloads l (ps ++ p ∷ []) ≡ payloads l ps ++ payload l p
more_payloads l [] p = append-nil (payload l p)
more_payloads l (q ∷ ps) p = ap (λ z. payload l q ++ z) (more_payloads l ps p) ∙ sym (append_assoc (payload l q) (payloads l ps) (payload l p))

pub next_sorted : (fs : List (Field TypeId)) (ps : List Pat) (p : Pat) (old new : List (List (Bor TypedPattern))) → LabelsDiffer fs → AreSorted fs ps old → length new ≡ length old → IsSorted fs p old new → AreSorted fs (ps ++ p ∷ []) new
next_sorted fs ps p old new d s e h = (
  e ∙ s.0,
  λ n g k.
      let within : n < length old = subst (λ m. n < m) (sym s.0) (slice_get_within fs n g k) in
      h.5 n within ∙ ap (λ z. z ++ cond (nat_eq h.0 n) (h.2 ∷ []) []) (s.1 n g k)
      ∙ ap (λ b. payloads g.label ps ++ cond b (h.2 ∷ []) []) (same_place fs h.0 n h.1 g d h.3 k)
      ∙ ap (λ q. payloads g.label ps ++ payload g.label q) (sym h.4)
      ∙ sym (more_payloads g.label ps p),
)

is_tag : (fs : List (Field TypeId)) (p : Pat) (old new : List (List (Bor TypedPattern))) → IsSorted fs p old new → IsTag p
is_tag fs p old new h = subst IsTag (sym h.4) tt

-- what the code keeps of the patterns up to one
pub record SoFar (fs : List (Field TypeId)) (ps : List (Bor TypedPattern)) (lists : List (List (Bor TypedPattern))) : Type 0 where
  pub tags : Each IsTag (patterns_in ps)
  pub sorted : AreSorted fs (patterns_in ps) lists

pub next_so_far : (fs : List (Field TypeId)) (all : List (Bor TypedPattern)) (i : ℕ) (p : Bor TypedPattern) (old new : List (List (Bor TypedPattern))) → LabelsDiffer fs → i < length all → p ≡ get_or all i p
    → SoFar fs (take i all) old → length new ≡ length old → IsSorted fs (pattern p.now) old new → SoFar fs (take (i + 1) all) new
next_so_far fs all i p old new d l e s n h =
    let m : take (i + 1) all ≡ take i all ++ p ∷ [] = take_more all i p l ∙ ap (λ q. take i all ++ q ∷ []) (sym e) in
    let view : patterns_in (take (i + 1) all) ≡ patterns_in (take i all) ++ pattern p.now ∷ [] = ap patterns_in m ∙ map-append (λ (q : Bor TypedPattern). pattern q.now) (take i all) (p ∷ []) in
    record {
      tags = subst (Each IsTag) (sym view) (each_of_both IsTag (patterns_in (take i all)) (pattern p.now ∷ []) s.tags (is_tag fs (pattern p.now) old new h, tt));
      sorted = subst (λ qs. AreSorted fs qs new) (sym view) (next_sorted fs (patterns_in (take i all)) (pattern p.now) old new d s.sorted n h);
    }
