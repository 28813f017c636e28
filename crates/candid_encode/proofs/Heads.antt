-- What is written of a part, at each head.
use Rattle.std.proofs.Common.{◌≡◌, ℕ, zero, suc, ◌+◌, ◌<◌, cond, Bool, true, false, List, [], ◌∷◌, length, Result, Ok, Err, nat_lt, refl, sym, ap, ◌∙◌, subst, arith, slice_get, drop, ◌≢◌}
use Rattle.std.specs.Prelude.{map}
use Rattle.std.proofs.lemmas.List.{length-map}
use Rattle.mo_types.specs.declared.datum.Datum.{Datum}
use Rattle.mo_types.specs.declared.datum.Datum.TheVariants as part
use Rattle.mo_types.specs.declared.node.Field.{Field}
use Rattle.mo_types.specs.declared.node.Node.{Node}
use Rattle.mo_types.specs.declared.node.Node.TheVariants as node
use Rattle.mo_types.specs.declared.node.TypeId.{TypeId}
use Rattle.mo_types.specs.declared.wire.Plain.{Plain}
use Rattle.mo_types.specs.declared.wire.Plain.TheVariants as plain
use Rattle.mo_types.specs.declared.wire.Ref.{Ref}
use Rattle.mo_types.specs.declared.wire.Ref.TheVariants.{Of, Just}
use Rattle.mo_types.specs.Label.{label_id}
use Rattle.mo_types.specs.Sub.{Each}
use Rattle.mo_types.specs.Values.{IsPartOf, by_label, insert_field}
use Rattle.mo_types.specs.Wire.{numbered, entry_of, tag_of}
use Rattle.mo_types.specs.Spelling.{shortest, AnyCount}
use Rattle.candid_forms.specs.Forms.{IsSpelledBy}
use Rattle.candid_types.specs.Shapes.{plains, ref_by, ref_of}
use Rattle.candid_write.specs.Appends.{Appends}
use Rattle.candid_write.proofs.Adds.{weaker}
use Rattle.candid_encode.specs.declared.refusal.Refusal.{Refusal}
use Rattle.candid_encode.specs.declared.refusal.Refusal.TheVariants as refusal
use Rattle.candid_encode.specs.Puts.{Refuses, Puts, PutsPart, PutsAt, Fits, IsRecord}

-- the same at an equal head
pub at_node : {X : Type 0} (n m : Node TypeId) (p : Datum) (r : Result X Refusal) (old new : List ℕ) → m ≡ n → PutsPart n p r old new → PutsPart m p r old new
at_node n m p r old new e h = subst (λ k. PutsPart k p r old new) (sym e) h

-- what fits one way fits the other, and has the same bytes
pub puts_as : {X : Type 0} (F G : Type 0) (P Q : List ℕ → Type 0) (r : Result X Refusal) (old new : List ℕ) → (F → G) → (G → F) → ((b : List ℕ) → F → P b → Q b) → Puts F P r old new → Puts G Q r old new
puts_as F G P Q (Ok x) old new f g k h = (f h.0, weaker (λ b w. k b h.0 w) h.1)
puts_as F G P Q (Err refusal.OtherValues) old new f g k h = λ y. h (g y)
puts_as F G P Q (Err refusal.Memory) old new f g k h = tt

-- what is refused inside is refused
pub refused_as : (F G : Type 0) (e : Refusal) → (G → F) → Refuses F e → Refuses G e
refused_as F G refusal.OtherValues f h = λ y. h (f y)
refused_as F G refusal.Memory f h = tt

-- what is refused
pub puts_none : {X : Type 0} (G : Type 0) (Q : List ℕ → Type 0) (P : List ℕ → Type 0) (r : Result X Refusal) (old new : List ℕ) → (G → ⊥) → Puts ⊥ P r old new → Puts G Q r old new
puts_none G Q P r old new g h = puts_as ⊥ G P Q r old new (λ x. absurd x) g (λ b x. absurd x) h

-- ---- how many parts there are

insert_length : (f g : Field TypeId) (gs more : List (Field TypeId)) → length more ≡ suc (length gs) → (t : Bool) → length (cond t (f ∷ g ∷ gs) (g ∷ more)) ≡ suc (suc (length gs))
insert_length f g gs more h true = refl
insert_length f g gs more h false = ap suc h

length-insert_field : (f : Field TypeId) (fs : List (Field TypeId)) → length (insert_field f fs) ≡ suc (length fs)
length-insert_field f [] = refl
length-insert_field f (g ∷ gs) = insert_length f g gs (insert_field f gs) (length-insert_field f gs) (nat_lt (label_id f.label) (label_id g.label))

length-by_label : (fs : List (Field TypeId)) → length (by_label fs) ≡ length fs
length-by_label [] = refl
length-by_label (f ∷ fs) = length-insert_field f (by_label fs) ∙ ap suc (length-by_label fs)

length-numbered : (n : ℕ) (ts : List TypeId) → length (numbered n ts) ≡ length ts
length-numbered n [] = refl
length-numbered n (t ∷ ts) = ap suc (length-numbered (n + 1) ts)

pub entries_length : (fs : List (Field TypeId)) → length (map entry_of (by_label fs)) ≡ length fs
entries_length fs = length-map (by_label fs) entry_of ∙ length-by_label fs

pub tags_length : (head : TypeId → Node TypeId) (fs : List (Field TypeId)) → length (map (tag_of head) (by_label fs)) ≡ length fs
tags_length head fs = length-map (by_label fs) (tag_of head) ∙ length-by_label fs

-- ---- heads

tag_fits : (head : TypeId → Node TypeId) (fs : List (Field TypeId)) (i : ℕ) (old new : List ℕ) → i < length fs → Appends (λ b. shortest.unsigned 32 b i) old new → Appends (λ b. (i < length (map (tag_of head) (by_label fs))) × shortest.unsigned 32 b i) old new
tag_fits head fs i old new l a = weaker (λ b h. (subst (λ n. i < n) (sym (tags_length head fs)) l, h)) a

pub tag_is : (head : TypeId → Node TypeId) (fs : List (Field TypeId)) (p : Datum) (i : ℕ) (old new : List ℕ) → p ≡ part.Tag i → i < length fs → Appends (λ b. shortest.unsigned 32 b i) old new → IsPartOf (node.Variant fs) p × Appends (IsSpelledBy shortest AnyCount head (node.Variant fs) p) old new
tag_is head fs p i old new e l a = subst (λ q. IsPartOf (node.Variant fs) q × Appends (IsSpelledBy shortest AnyCount head (node.Variant fs) q) old new) (sym e) (l, tag_fits head fs i old new l a)

module _ {X : Type 0} where
  pub any_is : (p : Datum) (r : Result X Refusal) (old new : List ℕ) → Puts (IsRecord 0 p) (λ b. b ≡ []) r old new → PutsPart node.Any p r old new
  any_is (part.Record n) r old new h head = h
  any_is p r old new h head = puts_none _ _ (λ b. b ≡ []) r old new (λ x. x) h

  pub tuple_is : (ts : List TypeId) (p : Datum) (r : Result X Refusal) (old new : List ℕ) → Puts (IsRecord (length ts) p) (λ b. b ≡ []) r old new → PutsPart (node.Tuple ts) p r old new
  tuple_is ts (part.Record n) r old new h head = puts_as (n ≡ length ts) _ (λ b. b ≡ []) _ r old new (λ x. x) (λ x. x) (λ b x y. (x ∙ sym (length-numbered 0 ts), y)) h
  tuple_is ts p r old new h head = puts_none _ _ (λ b. b ≡ []) r old new (λ x. x) h

  pub object_is : (fs : List (Field TypeId)) (p : Datum) (r : Result X Refusal) (old new : List ℕ) → Puts (IsRecord (length fs) p) (λ b. b ≡ []) r old new → PutsPart (node.Object fs) p r old new
  object_is fs (part.Record n) r old new h head = puts_as (n ≡ length fs) _ (λ b. b ≡ []) _ r old new (λ x. x) (λ x. x) (λ b x y. (x ∙ sym (entries_length fs), y)) h
  object_is fs p r old new h head = puts_none _ _ (λ b. b ≡ []) r old new (λ x. x) h

  pub unit_is : (head : TypeId → Node TypeId) (p : Datum) (r : Result X Refusal) (old new : List ℕ) → Puts (IsRecord 0 p) (λ b. b ≡ []) r old new → PutsAt head (Just plain.Null) p r old new
  unit_is head (part.Record n) r old new h = puts_as (n ≡ 0) _ (λ b. b ≡ []) _ r old new (λ x. ap (λ k. part.Record k) x) (λ x. cc) (λ b x y. (ap (λ k. part.Record k) x, y)) h
  unit_is head p r old new h = puts_none _ _ (λ b. b ≡ []) r old new (λ x. cc) h

  pub of_is : (head : TypeId → Node TypeId) (t : TypeId) (p : Datum) (r : Result X Refusal) (old new : List ℕ) → PutsPart (head t) p r old new → PutsAt head (Of t) p r old new
  of_is head t p r old new h = puts_as (IsPartOf (head t) p) _ _ _ r old new (λ x. x) (λ x. x) (λ b x y. (x, y)) (h head)

  pub at_ref : (head : TypeId → Node TypeId) (s t : Ref TypeId) (p : Datum) (r : Result X Refusal) (old new : List ℕ) → s ≡ t → PutsAt head t p r old new → PutsAt head s p r old new
  at_ref head s t p r old new e h = subst (λ k. PutsAt head k p r old new) (sym e) h

-- ---- types without parts

-- of which null alone stands for a type of Motoko
module _ (head : TypeId → Node TypeId) (p : Datum) where
  just_none : (q : Plain) → (q ≡ plain.Null → ⊥) → Fits head (Just q) p → ⊥
  just_none plain.Null d h = d refl
  just_none q d h = h

  none_at : (qs : List Plain) (k m : ℕ) → Each (λ q. q ≡ plain.Null → ⊥) qs → k < length qs → Fits head (ref_by (slice_get qs k) m) p → ⊥
  none_at [] k m e l h = omega arith
  none_at (q ∷ qs) zero m e l h = just_none q e.0 h
  none_at (q ∷ qs) (suc k) m e l h = none_at qs k m e.1 (omega arith) h

  pub no_plain : (n : ℕ) → n < 18 → n ≢ 1 → Fits head (ref_of n) p → ⊥
  unfolding ref_of
  no_plain zero l d h = just_none plain.Empty (λ e. cc) h
  no_plain (suc zero) l d h = d refl
  no_plain (suc (suc k)) l d h = none_at (drop 2 plains) k (suc (suc k)) ((λ e. cc), ((λ e. cc), ((λ e. cc), ((λ e. cc), ((λ e. cc), ((λ e. cc), ((λ e. cc), ((λ e. cc), ((λ e. cc), ((λ e. cc), ((λ e. cc), ((λ e. cc), ((λ e. cc), ((λ e. cc), ((λ e. cc), ((λ e. cc), tt)))))))))))))))) (omega arith) h
