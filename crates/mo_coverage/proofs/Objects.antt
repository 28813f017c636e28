-- Objects: columns that are cut place by place are the pieces that the pattern cuts.
use Rattle.std.proofs.Common.{◌≡◌, ℕ, suc, ◌+◌, List, [], ◌∷◌, ◌++◌, length, Bool, true, false, Option, Some, None, arith, refl, sym, ap, ◌∙◌, subst}
use Rattle.std.specs.Prelude.{cond, slice_get, slice_set}
use Rattle.std.specs.Str.{bytes_eq}
use Rattle.std.proofs.lemmas.List.{append-nil}
use Rattle.mo_types.specs.declared.node.Field.{Field}
use Rattle.mo_types.specs.declared.node.Node.{Node}
use Rattle.mo_types.specs.declared.node.Node.TheVariants as node
use Rattle.mo_types.specs.Sub.{find}
use Rattle.mo_types.specs.Values.{copies, types_of}
use Rattle.mo_values.specs.Messages.{labels}
use Rattle.mo_values.specs.Shapes.{Bytes}
use Rattle.typed_tree.specs.Patterns.{Pat, Pats, NoPat, APat}
use Rattle.pattern_coverage.specs.Cutting.{Piece, pieces, of_parts, field_then, unknowns, known_at, put_at, cut, cut_field, cut_fields, cut_object}
use Rattle.pattern_coverage.specs.Known.{Known, Unknown, Fields, AKnown}
use Rattle.mo_coverage.specs.Columns.{Column, column, spread, cut_place, cut_typed, fields_cut, Took, list_of, take_object, wholes}
use Rattle.mo_coverage.specs.Places.{Seat, later, seat_of}
use Rattle.mo_coverage.specs.Shapes.{knowns}
use Rattle.mo_coverage.proofs.Lists.{list_back}
use Rattle.mo_coverage.proofs.Tuples.{typed_append, typed_none, typed_false, restore, restore_append, wholes_restored, knowns_list}

-- ---- the place of a field, among the fields and among what is known of them

abbrev or_unknown : Option Known → Known
or_unknown None = Unknown
or_unknown (Some k) = k

one_later : (i : ℕ) → suc i ≡ 1 + i
one_later i = omega arith

module _ {A : Type 0} where
  record Sits (l : Bytes) (fs : List (Field A)) (ks : List Known) (i : ℕ) : Type 0 where
    seen : known_at l fs (knowns ks) ≡ or_unknown (slice_get ks i)
    put : (j : Known) → put_at l fs (knowns ks) j ≡ knowns (slice_set ks i j)

  data Seating (l : Bytes) (fs : List (Field A)) (ks : List Known) : Option (Seat A) → Option (Field A) → Type 0 where
    NoSeat : Seating l fs ks None None
    ASeat : (i : ℕ) (g : Field A) → Sits l fs ks i → Seating l fs ks (Some (i, g.part)) (Some g)

  first_sits : (l : Bytes) (f : Field A) (fs : List (Field A)) (ks : List Known) → bytes_eq f.label l ≡ true → Sits l (f ∷ fs) ks 0
  first_sits l f fs [] q = record { seen = refl; put = λ j. refl }
  first_sits l f fs (k ∷ ks) q = record { seen = ap (λ b. cond b k (known_at l fs (knowns ks))) q; put = λ j. ap (λ b. cond b (AKnown j (knowns ks)) (AKnown k (put_at l fs (knowns ks) j))) q }

  later_sits : (l : Bytes) (f : Field A) (fs : List (Field A)) (k : Known) (ks : List Known) (i : ℕ) → bytes_eq f.label l ≡ false → Sits l fs ks i → Sits l (f ∷ fs) (k ∷ ks) (suc i)
  later_sits l f fs k ks i q s = record { seen = ap (λ b. cond b k (known_at l fs (knowns ks))) q ∙ s.seen; put = λ j. ap (λ b. cond b (AKnown j (knowns ks)) (AKnown k (put_at l fs (knowns ks) j))) q ∙ ap (λ z. AKnown k z) (s.put j) }

  seated_later : (l : Bytes) (f : Field A) (fs : List (Field A)) (k : Known) (ks : List Known) (s : Option (Seat A)) (g : Option (Field A)) → bytes_eq f.label l ≡ false → Seating l fs ks s g → Seating l (f ∷ fs) (k ∷ ks) (later 1 s) g
  seated_later l f fs k ks _ _ q NoSeat = NoSeat
  seated_later l f fs k ks _ _ q (ASeat i g s) = subst (λ n. Seating l (f ∷ fs) (k ∷ ks) (Some (n, g.part)) (Some g)) (one_later i) (ASeat (suc i) g (later_sits l f fs k ks i q s))

  seated_past : (l : Bytes) (f : Field A) (fs : List (Field A)) (s : Option (Seat A)) (g : Option (Field A)) → Seating l fs [] s g → Seating l (f ∷ fs) [] (later 1 s) g
  seated_past l f fs _ _ NoSeat = NoSeat
  seated_past l f fs _ _ (ASeat i g s) = ASeat (1 + i) g (record { seen = refl; put = λ j. refl })

  seating : (l : Bytes) (fs : List (Field A)) (ks : List Known) → Seating l fs ks (seat_of l fs) (find l fs)
  seating l [] ks = NoSeat
  seating l (f ∷ fs) [] = by (bytes_eq f.label l) refl (seating l fs [])
    where
      by : (b : Bool) → bytes_eq f.label l ≡ b → Seating l fs [] (seat_of l fs) (find l fs) → Seating l (f ∷ fs) [] (cond b (Some (0, f.part)) (later 1 (seat_of l fs))) (cond b (Some f) (find l fs))
      by true q h = ASeat 0 f (first_sits l f fs [] q)
      by false q h = seated_past l f fs (seat_of l fs) (find l fs) h
  seating l (f ∷ fs) (k ∷ ks) = by (bytes_eq f.label l) refl (seating l fs ks)
    where
      by : (b : Bool) → bytes_eq f.label l ≡ b → Seating l fs ks (seat_of l fs) (find l fs) → Seating l (f ∷ fs) (k ∷ ks) (cond b (Some (0, f.part)) (later 1 (seat_of l fs))) (cond b (Some f) (find l fs))
      by true q h = ASeat 0 f (first_sits l f fs (k ∷ ks) q)
      by false q h = seated_later l f fs k ks (seat_of l fs) (find l fs) q h

place_known : (f : Known → List Piece) (i : ℕ) (ks : List Known) (o : Option Known) → cut_place f false i ks o ≡ spread i ks (f (or_unknown o))
place_known f i ks None = refl
place_known f i ks (Some k) = refl

module _ {A : Type 0} (head : A → Node A) (has : A → Bool) where
  fields_append : (ps : Pats) (ls : List Bytes) (fs : List (Field A)) (ss us : List Column) → fields_cut head has ls ps fs (ss ++ us) ≡ fields_cut head has ls ps fs ss ++ fields_cut head has ls ps fs us
  fields_append NoPat [] fs ss us = refl
  fields_append NoPat (l ∷ ls) fs ss us = refl
  fields_append (APat p ps) [] fs ss us = refl
  fields_append (APat p ps) (l ∷ ls) fs ss us =
      ap (λ z. fields_cut head has ls ps fs z) (typed_append (λ u j. cut head has p u j) false (seat_of l fs) ss us)
      ∙ fields_append ps ls fs (cut_typed (λ u j. cut head has p u j) false (seat_of l fs) ss) (cut_typed (λ u j. cut head has p u j) false (seat_of l fs) us)

  fields_none : (ps : Pats) (ls : List Bytes) (fs : List (Field A)) → fields_cut head has ls ps fs [] ≡ []
  fields_none NoPat [] fs = refl
  fields_none NoPat (l ∷ ls) fs = refl
  fields_none (APat p ps) [] fs = refl
  fields_none (APat p ps) (l ∷ ls) fs = ap (λ z. fields_cut head has ls ps fs z) (typed_none (λ u j. cut head has p u j) false (seat_of l fs)) ∙ fields_none ps ls fs

  fields_false : (ps : Pats) (ls : List Bytes) (fs : List (Field A)) (ks : List Known) → fields_cut head has ls ps fs (column false ks ∷ []) ≡ column false ks ∷ []
  fields_false NoPat [] fs ks = refl
  fields_false NoPat (l ∷ ls) fs ks = refl
  fields_false (APat p ps) [] fs ks = refl
  fields_false (APat p ps) (l ∷ ls) fs ks = ap (λ z. fields_cut head has ls ps fs z) (typed_false (λ u j. cut head has p u j) false (seat_of l fs) ks) ∙ fields_false ps ls fs ks

  Claimed : Pats → Type 0
  Claimed ps = (ls : List Bytes) (fs : List (Field A)) (ks : List Known) → fields_cut head has ls ps fs (column true ks ∷ []) ≡ restore [] (cut_fields head has ls ps fs (knowns ks))

  each_field : (ps : Pats) → Claimed ps → (l : Bytes) (ls : List Bytes) (fs : List (Field A)) (ks : List Known) (i : ℕ) → Sits l fs ks i → (cs : List Piece)
      → fields_cut head has ls ps fs (spread i ks cs) ≡ restore [] (field_then cs (put_at l fs (knowns ks)) (λ js. cut_fields head has ls ps fs js))
  unfolding Claimed
  each_field ps claim l ls fs ks i s [] = fields_none ps ls fs
  each_field ps claim l ls fs ks i s (c ∷ cs) =
      fields_append ps ls fs (column c.matched (slice_set ks i c.known) ∷ []) (spread i ks cs)
      ∙ ap (λ z. fields_cut head has ls ps fs (column c.matched (slice_set ks i c.known) ∷ []) ++ z) (each_field ps claim l ls fs ks i s cs)
      ∙ ap (λ z. z ++ restore [] (field_then cs (put_at l fs (knowns ks)) (λ js. cut_fields head has ls ps fs js))) (first c.matched)
      ∙ sym (restore_append [] (cond c.matched (cut_fields head has ls ps fs (put_at l fs (knowns ks) c.known)) (pieces false (put_at l fs (knowns ks) c.known) ∷ [])) (field_then cs (put_at l fs (knowns ks)) (λ js. cut_fields head has ls ps fs js)))
    where
      first : (b : Bool) → fields_cut head has ls ps fs (column b (slice_set ks i c.known) ∷ []) ≡ restore [] (cond b (cut_fields head has ls ps fs (put_at l fs (knowns ks) c.known)) (pieces false (put_at l fs (knowns ks) c.known) ∷ []))
      first true = claim ls fs (slice_set ks i c.known) ∙ ap (λ z. restore [] (cut_fields head has ls ps fs z)) (sym (s.put c.known))
      first false = fields_false ps ls fs (slice_set ks i c.known) ∙ ap (λ z. column false z ∷ []) (sym (list_back (slice_set ks i c.known)) ∙ ap list_of (sym (s.put c.known)))

  by_seat : (p : Pat) (ps : Pats) → Claimed ps → (l : Bytes) (ls : List Bytes) (fs : List (Field A)) (ks : List Known) (s : Option (Seat A)) (g : Option (Field A)) → Seating l fs ks s g
      → fields_cut head has ls ps fs (cut_typed (λ u j. cut head has p u j) false s (column true ks ∷ [])) ≡ restore [] (cut_field (λ u j. cut head has p u j) (λ js. cut_fields head has ls ps fs js) l fs g (knowns ks))
  by_seat p ps claim l ls fs ks _ _ NoSeat = fields_false ps ls fs ks ∙ ap (λ z. column false z ∷ []) (sym (list_back ks))
  by_seat p ps claim l ls fs ks _ _ (ASeat i g s) =
      ap (λ z. fields_cut head has ls ps fs z) (append-nil (cut_place (cut head has p g.part) false i ks (slice_get ks i)) ∙ place_known (cut head has p g.part) i ks (slice_get ks i))
      ∙ ap (λ k. fields_cut head has ls ps fs (spread i ks (cut head has p g.part k))) (sym s.seen)
      ∙ each_field ps claim l ls fs ks i s (cut head has p g.part (known_at l fs (knowns ks)))

  done : (ks : List Known) → column true ks ∷ [] ≡ restore [] (pieces true (knowns ks) ∷ [])
  done ks = ap (λ z. column true z ∷ []) (sym (list_back ks))

  all_claimed : (ps : Pats) → Claimed ps
  unfolding Claimed
  all_claimed NoPat [] fs ks = done ks
  all_claimed NoPat (l ∷ ls) fs ks = done ks
  all_claimed (APat p ps) [] fs ks = done ks
  all_claimed (APat p ps) (l ∷ ls) fs ks = by_seat p ps (all_claimed ps) l ls fs ks (seat_of l fs) (find l fs) (seating l fs ks)

  object_fields : (ls : List Bytes) (ps : Pats) (fs : List (Field A)) (ms : List Bytes) (ks : List Known) → wholes (Fields ms) (fields_cut head has ls ps fs (column true ks ∷ [])) ≡ of_parts (Fields ms) (cut_fields head has ls ps fs (knowns ks))
  unfolding Claimed
  object_fields ls ps fs ms ks = ap (wholes (Fields ms)) (all_claimed ps ls fs ks) ∙ wholes_restored (Fields ms) (cut_fields head has ls ps fs (knowns ks))

  unknown_fields : (fs : List (Field A)) → knowns (copies (length fs) Unknown) ≡ unknowns (types_of fs)
  unknown_fields [] = refl
  unknown_fields (f ∷ fs) = ap (λ z. AKnown Unknown z) (unknown_fields fs)

  pub object_took : (ls : List Bytes) (ps : Pats) (fs : List (Field A)) (k : Known) (ks : List Known) → Took ks ≡ take_object (length fs) k
      → wholes (Fields (labels fs)) (fields_cut head has ls ps fs (column true ks ∷ [])) ≡ cut_object (λ fs ks. cut_fields head has ls ps fs ks) (node.Object fs) k
  object_took ls ps fs Unknown ks e = object_fields ls ps fs (labels fs) ks ∙ ap (λ z. of_parts (Fields (labels fs)) (cut_fields head has ls ps fs z)) (let q : ks ≡ copies (length fs) Unknown = cc in ap knowns q ∙ unknown_fields fs)
  object_took ls ps fs (Fields ms js) ks e = object_fields ls ps fs (labels fs) ks ∙ ap (λ z. of_parts (Fields (labels fs)) (cut_fields head has ls ps fs z)) (let q : ks ≡ list_of js = cc in ap knowns q ∙ knowns_list js)
  object_took ls ps fs k ks e = cc
