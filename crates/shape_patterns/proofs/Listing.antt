-- The parts of a tuple and the fields of an object, from a place on.
use Rattle.std.proofs.Common.{◌≡◌, ℕ, zero, suc, ◌+◌, ◌<◌, List, [], ◌∷◌, ◌++◌, drop, length, get_or, Bool, Option, Some, None, arith, refl, sym, ap, ◌∙◌, append_assoc}
use Rattle.std.specs.Prelude.{slice_get}
use Rattle.std.specs.List.{flat_map}
use Rattle.std.proofs.lemmas.List.{drop_more}
use Rattle.mo_types.specs.declared.node.Field.{Field}
use Rattle.mo_types.specs.declared.node.Node.{Node}
use Rattle.mo_types.specs.declared.node.TypeId.{TypeId}
use Rattle.mo_values.specs.Shapes.{Bytes}
use Rattle.mo_syntax.specs.declared.mark.Mark.TheVariants as m
use Rattle.mo_syntax.specs.declared.token.TokenKind.{TokenKind}
use Rattle.mo_syntax.specs.declared.token.TokenKind.TheVariants as t
use Rattle.mo_syntax.specs.Writing.{Writing, separated}
use Rattle.pattern_coverage.specs.Known.{Known}
use Rattle.mo_coverage.specs.declared.shape.Shape.{Shape}
use Rattle.mo_coverage.specs.Shapes.{all_known, known, knowns}
use Rattle.shape_patterns.specs.Listing.{at_type, field_at, field_writing, fields_at, lead, led, one_at, parts_at}
use Rattle.shape_patterns.specs.Stands.{never, shape_pattern, part_patterns, field_patterns}
use Rattle.shape_patterns.specs.Writes.{field_writings, part_writings, pattern_writing}

later_led : (token : TokenKind) (n : ℕ) (xs : List Writing) → led token (suc n) xs ≡ flat_map (λ y. token ∷ y) xs
later_led token n [] = refl
later_led token n (x ∷ xs) = ap (λ z. token ∷ x ++ z) (later_led token (suc n) xs)

pub all_led : (token : TokenKind) (xs : List Writing) → led token 0 xs ≡ separated token xs
all_led token [] = refl
all_led token (x ∷ xs) = ap (λ z. x ++ z) (later_led token 0 xs)

none_later : (ls : List Bytes) (n : ℕ) → slice_get ls n ≡ None → slice_get ls (suc n) ≡ None
none_later [] n e = refl
none_later (l ∷ ls) zero e = cc
none_later (l ∷ ls) (suc n) e = none_later ls n e

module _ (head : TypeId → Node TypeId) (has : TypeId → Bool) where
  none_at : (ks : List Known) (n : ℕ) → parts_at head has ks n [] ≡ part_writings (part_patterns head has (knowns ks) [])
  none_at [] n = refl
  none_at (k ∷ ks) n = ap (λ z. pattern_writing never ∷ z) (none_at ks (suc n))

  one_later : (ks : List Known) (n : ℕ) (u : TypeId) (ts : List TypeId) → parts_at head has ks (suc n) (u ∷ ts) ≡ parts_at head has ks n ts
  one_later [] n u ts = refl
  one_later (k ∷ ks) n u ts = ap (λ z. pattern_writing (at_type head has k (slice_get ts n)) ∷ z) (one_later ks (suc n) u ts)

  pub parts_whole : (ks : List Known) (ts : List TypeId) → parts_at head has ks 0 ts ≡ part_writings (part_patterns head has (knowns ks) ts)
  parts_whole [] ts = refl
  parts_whole (k ∷ ks) [] = none_at (k ∷ ks) 0
  parts_whole (k ∷ ks) (u ∷ ts) = ap (λ z. pattern_writing (shape_pattern head has k u) ∷ z) (one_later ks 0 u ts ∙ parts_whole ks ts)

  -- ---- fields

  no_fields : (ks : List Known) (n : ℕ) (fs : List (Field TypeId)) → fields_at head has ks n [] fs ≡ []
  no_fields [] n fs = refl
  no_fields (k ∷ ks) n fs = no_fields ks (suc n) fs

  field_later : (ks : List Known) (n : ℕ) (l : Bytes) (ls : List Bytes) (fs : List (Field TypeId)) → fields_at head has ks (suc n) (l ∷ ls) fs ≡ fields_at head has ks n ls fs
  field_later [] n l ls fs = refl
  field_later (k ∷ ks) n l ls fs = ap (λ z. one_at head has k fs (slice_get ls n) ++ z) (field_later ks (suc n) l ls fs)

  pub fields_whole : (ks : List Known) (ls : List Bytes) (fs : List (Field TypeId)) → fields_at head has ks 0 ls fs ≡ field_writings ls (field_patterns head has ls (knowns ks) fs)
  fields_whole [] [] fs = refl
  fields_whole [] (l ∷ ls) fs = refl
  fields_whole (k ∷ ks) [] fs = no_fields (k ∷ ks) 0 fs
  fields_whole (k ∷ ks) (l ∷ ls) fs = ap (λ z. field_writing head has k l fs ∷ z) (field_later ks 0 l ls fs ∙ fields_whole ks ls fs)

  -- behind the last label there is none
  pub fields_past : (ks : List Known) (n : ℕ) (ls : List Bytes) (fs : List (Field TypeId)) → slice_get ls n ≡ None → fields_at head has ks n ls fs ≡ []
  fields_past [] n ls fs e = refl
  fields_past (k ∷ ks) n ls fs e = ap (λ o. one_at head has k fs o ++ fields_at head has ks (suc n) ls fs) e ∙ fields_past ks (suc n) ls fs (none_later ls n e)

  -- ---- one step

  -- the part at a place, and those behind it
  pub part_step : (shapes : List Shape) (i : ℕ) (s : Shape) (ts : List TypeId) (out : Writing) → i < length shapes → s ≡ get_or shapes i s
      → ((out ++ lead (t.Mark m.Comma) i) ++ pattern_writing (at_type head has (known s) (slice_get ts i))) ++ led (t.Mark m.Comma) (i + 1) (parts_at head has (all_known (drop (i + 1) shapes)) (i + 1) ts)
      ≡ out ++ led (t.Mark m.Comma) i (parts_at head has (all_known (drop i shapes)) i ts)
  part_step shapes i s ts out lt e =
      let n : i + 1 ≡ suc i = omega arith in
      let w : Writing = pattern_writing (at_type head has (known s) (slice_get ts i)) in
      let r : Writing = led (t.Mark m.Comma) (i + 1) (parts_at head has (all_known (drop (i + 1) shapes)) (i + 1) ts) in
      append_assoc (out ++ lead (t.Mark m.Comma) i) w r ∙ append_assoc out (lead (t.Mark m.Comma) i) (w ++ r)
      ∙ ap (λ j. out ++ (lead (t.Mark m.Comma) i ++ (w ++ led (t.Mark m.Comma) j (parts_at head has (all_known (drop (i + 1) shapes)) j ts)))) n
      ∙ ap (λ ks. out ++ led (t.Mark m.Comma) i (parts_at head has (all_known ks) i ts)) (sym (drop_more shapes i s lt ∙ ap (λ x. x ∷ drop (i + 1) shapes) (sym e)))

  field_led : (k : Known) (i : ℕ) (o : Option Bytes) (ks : List Known) (ls : List Bytes) (fs : List (Field TypeId)) → slice_get ls i ≡ o
      → field_at head has k fs i o ++ led (t.Mark m.Semicolon) (suc i) (fields_at head has ks (suc i) ls fs) ≡ led (t.Mark m.Semicolon) i (one_at head has k fs o ++ fields_at head has ks (suc i) ls fs)
  field_led k i None ks ls fs e =
      let p : fields_at head has ks (suc i) ls fs ≡ [] = fields_past ks (suc i) ls fs (none_later ls i e) in
      ap (λ xs. led (t.Mark m.Semicolon) (suc i) xs) p ∙ ap (λ xs. led (t.Mark m.Semicolon) i xs) (sym p)
  field_led k i (Some l) ks ls fs e = append_assoc (lead (t.Mark m.Semicolon) i) (field_writing head has k l fs) (led (t.Mark m.Semicolon) (suc i) (fields_at head has ks (suc i) ls fs))

  pub field_step : (shapes : List Shape) (i : ℕ) (s : Shape) (ls : List Bytes) (fs : List (Field TypeId)) (out : Writing) → i < length shapes → s ≡ get_or shapes i s
      → (out ++ field_at head has (known s) fs i (slice_get ls i)) ++ led (t.Mark m.Semicolon) (i + 1) (fields_at head has (all_known (drop (i + 1) shapes)) (i + 1) ls fs)
      ≡ out ++ led (t.Mark m.Semicolon) i (fields_at head has (all_known (drop i shapes)) i ls fs)
  field_step shapes i s ls fs out lt e =
      let n : i + 1 ≡ suc i = omega arith in
      append_assoc out (field_at head has (known s) fs i (slice_get ls i)) (led (t.Mark m.Semicolon) (i + 1) (fields_at head has (all_known (drop (i + 1) shapes)) (i + 1) ls fs))
      ∙ ap (λ j. out ++ (field_at head has (known s) fs i (slice_get ls i) ++ led (t.Mark m.Semicolon) j (fields_at head has (all_known (drop (i + 1) shapes)) j ls fs))) n
      ∙ ap (λ z. out ++ z) (field_led (known s) i (slice_get ls i) (all_known (drop (i + 1) shapes)) ls fs refl)
      ∙ ap (λ ks. out ++ led (t.Mark m.Semicolon) i (fields_at head has (all_known ks) i ls fs)) (sym (drop_more shapes i s lt ∙ ap (λ x. x ∷ drop (i + 1) shapes) (sym e)))
