-- Marks of the tags that were met.
use Rattle.std.proofs.Common.{◌≡◌, ◌≢◌, ℕ, zero, suc, ◌≤◌, List, [], ◌∷◌, ◌++◌, length, map, reverse, Bool, true, false, arith, Some, refl, sym, ap, ◌∙◌, subst}
use Rattle.std.specs.Prelude.{not, ◌&&◌, ◌||◌, cond, slice_get, slice_set}
use Rattle.std.specs.Str.{bytes_eq}
use Rattle.std.specs.Option.{option_map}
use Rattle.std.proofs.lemmas.List.{reverse-append}
use Rattle.std.proofs.lemmas.Option.{slice_get-map}
use Rattle.std.proofs.Math.ListN.{replicate}
use Rattle.mo_types.specs.declared.node.Field.{Field}
use Rattle.mo_types.specs.declared.node.TypeId.{TypeId}
use Rattle.mo_types.specs.Label.{label_id}
use Rattle.mo_types.specs.Sub.{Each}
use Rattle.mo_values.specs.Shapes.{Bytes}
use Rattle.typed_tree.specs.Types.{LabelsDiffer}
use Rattle.pattern_coverage.specs.Cutting.{is_label_among}
use Rattle.pattern_coverage.specs.Inhabited.{flag_there}
use Rattle.pattern_coverage.proofs.Option.{bytes_same, bytes_self}
use Rattle.mo_coverage.specs.declared.tagged.Met.{Met}
use Rattle.mo_coverage.specs.Met.{HasMet, IsMet, met_marks, unmarked}
use Rattle.mo_coverage.specs.Places.{tag_left}

pub reverse_more : (ls : List Bytes) (l : Bytes) → reverse (ls ++ l ∷ []) ≡ l ∷ reverse ls
reverse_more ls l = reverse-append ls (l ∷ [])

pub none_met : (fs : List (Field TypeId)) (n : ℕ) → n ≡ length fs → replicate n false ≡ met_marks fs []
none_met [] zero e = refl
none_met [] (suc n) e = cc
none_met (f ∷ fs) zero e = cc
none_met (f ∷ fs) (suc n) e = ap (λ z. false ∷ z) (none_met fs n (let h : n ≡ length fs = cc in h))

pub mark_is : (fs : List (Field TypeId)) (ls : List Bytes) (i : ℕ) (f : Field TypeId) → slice_get fs i ≡ Some f → slice_get (met_marks fs ls) i ≡ Some (is_label_among f.label ls)
mark_is fs ls i f e = slice_get-map (λ g. is_label_among g.label ls) fs i ∙ ap (option_map (λ (g : Field TypeId). is_label_among g.label ls)) e

-- labels of different numbers are different
other_label : (l m : Bytes) → label_id m ≢ label_id l → bytes_eq l m ≡ false
other_label l m d = by (bytes_eq l m) refl
  where
    by : (b : Bool) → bytes_eq l m ≡ b → bytes_eq l m ≡ false
    by true q = absurd (d (ap label_id (sym (bytes_same l m q))))
    by false q = q

others_stay : (fs : List (Field TypeId)) (l : Bytes) (ls : List Bytes) → Each (λ y. label_id l ≢ y) (map (λ f. label_id f.label) fs) → met_marks fs ls ≡ met_marks fs (l ∷ ls)
others_stay [] l ls d = refl
others_stay (f ∷ fs) l ls d =
    ap (λ z. is_label_among f.label ls ∷ z) (others_stay fs l ls d.1)
    ∙ ap (λ b. (b || is_label_among f.label ls) ∷ met_marks fs (l ∷ ls)) (sym (other_label f.label l d.0))

differs_at : (n : ℕ) (fs : List (Field TypeId)) (i : ℕ) (f : Field TypeId) → Each (λ y. n ≢ y) (map (λ g. label_id g.label) fs) → slice_get fs i ≡ Some f → n ≢ label_id f.label
differs_at n [] i f d e = cc
differs_at n (g ∷ fs) zero f d e = subst (λ (x : Field TypeId). n ≢ label_id x.label) (let q : g ≡ f = cc in q) d.0
differs_at n (g ∷ fs) (suc i) f d e = differs_at n fs i f d.1 e

pub marked_more : (fs : List (Field TypeId)) (ls : List Bytes) (i : ℕ) (f : Field TypeId) → LabelsDiffer fs → slice_get fs i ≡ Some f → slice_set (met_marks fs ls) i true ≡ met_marks fs (f.label ∷ ls)
marked_more [] ls i f d e = cc
marked_more (g ∷ fs) ls zero f d e =
    let q : g ≡ f = cc in
    ap (λ z. true ∷ z) (others_stay fs g.label ls d.0)
    ∙ ap (λ b. (b || is_label_among g.label ls) ∷ met_marks fs (g.label ∷ ls)) (sym (bytes_self g.label))
    ∙ ap (λ (x : Field TypeId). met_marks (g ∷ fs) (x.label ∷ ls)) q
marked_more (g ∷ fs) ls (suc i) f d e =
    ap (λ z. is_label_among g.label ls ∷ z) (marked_more fs ls i f d.1 e)
    ∙ ap (λ b. (b || is_label_among g.label ls) ∷ met_marks fs (f.label ∷ ls)) (sym (other_label g.label f.label (λ h. differs_at (label_id g.label) fs i f d.0 e (sym h))))

-- a mark in front moves the others by one
one_further : (has : TypeId → Bool) (i : ℕ) (fs : List (Field TypeId)) (b : Bool) (bs : List Bool) → unmarked has (suc i) fs (b ∷ bs) ≡ unmarked has i fs bs
one_further has i [] b bs = refl
one_further has i (f ∷ fs) b bs = ap (λ z. (has f.part && not (flag_there (slice_get bs i))) || z) (one_further has (suc i) fs b bs)

pub unmarked_left : (has : TypeId → Bool) (fs : List (Field TypeId)) (ls : List Bytes) → unmarked has 0 fs (met_marks fs ls) ≡ tag_left has fs ls
unmarked_left has [] ls = refl
unmarked_left has (f ∷ fs) ls =
    ap (λ z. (has f.part && not (is_label_among f.label ls)) || z) (one_further has 0 fs (is_label_among f.label ls) (met_marks fs ls) ∙ unmarked_left has fs ls)

pub set_past : (bs : List Bool) (i : ℕ) → length bs ≤ i → slice_set bs i true ≡ bs
set_past [] i l = refl
set_past (b ∷ bs) zero l = absurd (omega (arith, l))
set_past (b ∷ bs) (suc i) l = ap (λ z. b ∷ z) (set_past bs i (omega (arith, l)))

-- ---- a tag is met

-- a mark tells whether its tag was met
mark_told : (fs : List (Field TypeId)) (found : Met) (i : ℕ) (f : Field TypeId) → IsMet fs found → slice_get fs i ≡ Some f → flag_there (slice_get found.marks.items i) ≡ is_label_among f.label (reverse found.labels.items)
mark_told fs found i f m e = ap (λ bs. flag_there (slice_get bs i)) m ∙ ap flag_there (mark_is fs (reverse found.labels.items) i f e)

pub met_again : (fs : List (Field TypeId)) (found : Met) (i : ℕ) → IsMet fs found → flag_there (slice_get found.marks.items i) ≡ true → HasMet fs i found found
met_again fs found i m e f g = (ap (λ b. cond b (reverse found.labels.items) (f.label ∷ reverse found.labels.items)) (sym e ∙ mark_told fs found i f m g), m)

pub met_new : (fs : List (Field TypeId)) (old new : Met) (i : ℕ) (g : Field TypeId) → LabelsDiffer fs → IsMet fs old → flag_there (slice_get old.marks.items i) ≡ false → slice_get fs i ≡ Some g
    → new.labels.items ≡ old.labels.items ++ g.label ∷ [] → new.marks.items ≡ slice_set old.marks.items i true → HasMet fs i old new
met_new fs old new i g d m e at labels marks f h =
    let s : f ≡ g = (let z : Some f ≡ Some g = sym h ∙ at in cc) in
    let added : reverse new.labels.items ≡ g.label ∷ reverse old.labels.items = ap reverse labels ∙ reverse_more old.labels.items g.label in (
      added ∙ ap (λ (x : Field TypeId). x.label ∷ reverse old.labels.items) (sym s) ∙ ap (λ b. cond b (reverse old.labels.items) (f.label ∷ reverse old.labels.items)) (sym e ∙ mark_told fs old i f m h),
      marks ∙ ap (λ bs. slice_set bs i true) m ∙ marked_more fs (reverse old.labels.items) i g d at ∙ ap (met_marks fs) (sym added),
    )
