-- Tuples and objects: columns that are cut place by place are the pieces that the pattern cuts.
use Rattle.std.proofs.Common.{◌≡◌, ℕ, suc, ◌+◌, List, [], ◌∷◌, ◌++◌, length, Bool, true, false, Option, Some, None, arith, refl, sym, ap, ◌∙◌}
use Rattle.std.specs.Prelude.{cond, slice_get, slice_set}
use Rattle.std.proofs.lemmas.List.{append-nil, append_assoc, length-append}
use Rattle.mo_types.specs.declared.node.Node.{Node}
use Rattle.mo_types.specs.declared.node.Node.TheVariants as node
use Rattle.mo_types.specs.Values.{copies}
use Rattle.typed_tree.specs.Patterns.{Pat, Pats, NoPat, APat}
use Rattle.pattern_coverage.specs.Cutting.{Piece, Pieces, piece, pieces, of_parts, behind, first_then, unknowns, cut, cut_parts, cut_tuple}
use Rattle.pattern_coverage.specs.Known.{Known, Knowns, Unknown, Parts, NoKnown, AKnown}
use Rattle.mo_coverage.specs.Columns.{Column, column, spread, cut_place, cut_one, cut_all, none_match, cut_typed, parts_cut, Took, Left, list_of, take_tuple, wholes}
use Rattle.mo_coverage.specs.Places.{Seat, seated, seat_at}
use Rattle.mo_coverage.specs.Shapes.{knowns}
use Rattle.mo_coverage.proofs.Lists.{list_back}

-- ---- columns one after another

cut_all_append : (f : Known → List Piece) (strict : Bool) (i : ℕ) (ss us : List Column) → cut_all f strict i (ss ++ us) ≡ cut_all f strict i ss ++ cut_all f strict i us
cut_all_append f strict i [] us = refl
cut_all_append f strict i (s ∷ ss) us = ap (λ z. cut_one f strict i s ++ z) (cut_all_append f strict i ss us) ∙ sym (append_assoc (cut_one f strict i s) (cut_all f strict i ss) (cut_all f strict i us))

none_append : (ss us : List Column) → none_match (ss ++ us) ≡ none_match ss ++ none_match us
none_append [] us = refl
none_append (s ∷ ss) us = ap (λ z. column false s.parts ∷ z) (none_append ss us)

pub typed_append : {A : Type 0} (f : A → Known → List Piece) (strict : Bool) (s : Option (Seat A)) (ss us : List Column) → cut_typed f strict s (ss ++ us) ≡ cut_typed f strict s ss ++ cut_typed f strict s us
typed_append f strict None ss us = none_append ss us
typed_append f strict (Some s) ss us = cut_all_append (f s.1) strict s.0 ss us

pub typed_none : {A : Type 0} (f : A → Known → List Piece) (strict : Bool) (s : Option (Seat A)) → cut_typed f strict s [] ≡ []
typed_none f strict None = refl
typed_none f strict (Some s) = refl

pub typed_false : {A : Type 0} (f : A → Known → List Piece) (strict : Bool) (s : Option (Seat A)) (ks : List Known) → cut_typed f strict s (column false ks ∷ []) ≡ column false ks ∷ []
typed_false f strict None ks = refl
typed_false f strict (Some s) ks = refl

-- parts in their places again, behind those before them
abbrev pub restore : List Known → List Pieces → List Column
restore pre [] = []
restore pre (c ∷ cs) = column c.matched (pre ++ list_of c.known) ∷ restore pre cs

pub restore_append : (pre : List Known) (cs ds : List Pieces) → restore pre (cs ++ ds) ≡ restore pre cs ++ restore pre ds
restore_append pre [] ds = refl
restore_append pre (c ∷ cs) ds = ap (λ z. column c.matched (pre ++ list_of c.known) ∷ z) (restore_append pre cs ds)

restore_behind : (pre : List Known) (k : Known) (cs : List Pieces) → restore (pre ++ k ∷ []) cs ≡ restore pre (behind k cs)
restore_behind pre k [] = refl
restore_behind pre k (c ∷ cs) = ap (λ z. column c.matched z ∷ restore (pre ++ k ∷ []) cs) (append_assoc pre (k ∷ []) (list_of c.known)) ∙ ap (λ z. column c.matched (pre ++ k ∷ list_of c.known) ∷ z) (restore_behind pre k cs)

-- ---- places

get_at_length : {X : Type 0} (pre : List X) (x : X) (suf : List X) → slice_get (pre ++ x ∷ suf) (length pre) ≡ Some x
get_at_length [] x suf = refl
get_at_length (y ∷ ys) x suf = get_at_length ys x suf

none_at_length : {X : Type 0} (pre : List X) → slice_get (pre ++ []) (length pre) ≡ None
none_at_length [] = refl
none_at_length (y ∷ ys) = none_at_length ys

get_here : {X : Type 0} (pre : List X) (x : X) (suf : List X) (i : ℕ) → i ≡ length pre → slice_get (pre ++ x ∷ suf) i ≡ Some x
get_here pre x suf i e = ap (λ n. slice_get (pre ++ x ∷ suf) n) e ∙ get_at_length pre x suf

get_end : {X : Type 0} (pre : List X) (i : ℕ) → i ≡ length pre → slice_get (pre ++ []) i ≡ None
get_end pre i e = ap (λ n. slice_get (pre ++ []) n) e ∙ none_at_length pre

set_here : (pre : List Known) (k j : Known) (suf : List Known) (i : ℕ) → i ≡ length pre → slice_set (pre ++ k ∷ suf) i j ≡ pre ++ j ∷ suf
set_here pre k j suf i e = ap (λ n. slice_set (pre ++ k ∷ suf) n j) e ∙ go pre
  where
    go : (pre : List Known) → slice_set (pre ++ k ∷ suf) (length pre) j ≡ pre ++ j ∷ suf
    go [] = refl
    go (y ∷ ys) = ap (λ z. y ∷ z) (go ys)

one_longer : {X : Type 0} (pre : List X) (x : X) (i : ℕ) → i ≡ length pre → suc i ≡ length (pre ++ x ∷ [])
one_longer pre x i e = let l : length (pre ++ x ∷ []) ≡ length pre + 1 = length-append pre (x ∷ []) in omega (arith, e, l)

-- one column for each piece, with the piece in its place
replaced : List Known → List Known → List Piece → List Column
replaced pre suf [] = []
replaced pre suf (c ∷ cs) = column c.matched (pre ++ c.known ∷ suf) ∷ replaced pre suf cs

spread_here : (pre : List Known) (k : Known) (suf : List Known) (i : ℕ) (cs : List Piece) → i ≡ length pre → spread i (pre ++ k ∷ suf) cs ≡ replaced pre suf cs
unfolding replaced
spread_here pre k suf i [] e = refl
spread_here pre k suf i (c ∷ cs) e = ap (λ z. column c.matched z ∷ spread i (pre ++ k ∷ suf) cs) (set_here pre k c.known suf i e) ∙ ap (λ z. column c.matched (pre ++ c.known ∷ suf) ∷ z) (spread_here pre k suf i cs e)

pub knowns_list : (ks : Knowns) → knowns (list_of ks) ≡ ks
knowns_list NoKnown = refl
knowns_list (AKnown k ks) = ap (λ z. AKnown k z) (knowns_list ks)

-- ---- wholes

pub wholes_restored : (f : Knowns → Known) (cs : List Pieces) → wholes f (restore [] cs) ≡ of_parts f cs
wholes_restored f [] = refl
wholes_restored f (c ∷ cs) = ap (λ z. piece c.matched (f z) ∷ wholes f (restore [] cs)) (knowns_list c.known) ∙ ap (λ z. piece c.matched (f c.known) ∷ z) (wholes_restored f cs)

-- ---- tuples

module _ {A : Type 0} (head : A → Node A) (has : A → Bool) where
  parts_append : (ps : Pats) (i : ℕ) (ts : List A) (ss us : List Column) → parts_cut head has ps i ts (ss ++ us) ≡ parts_cut head has ps i ts ss ++ parts_cut head has ps i ts us
  parts_append NoPat i ts ss us = refl
  parts_append (APat p ps) i ts ss us =
      ap (λ z. parts_cut head has ps (suc i) ts z) (typed_append (λ u j. cut head has p u j) true (seat_at i ts) ss us)
      ∙ parts_append ps (suc i) ts (cut_typed (λ u j. cut head has p u j) true (seat_at i ts) ss) (cut_typed (λ u j. cut head has p u j) true (seat_at i ts) us)

  parts_none : (ps : Pats) (i : ℕ) (ts : List A) → parts_cut head has ps i ts [] ≡ []
  parts_none NoPat i ts = refl
  parts_none (APat p ps) i ts = ap (λ z. parts_cut head has ps (suc i) ts z) (typed_none (λ u j. cut head has p u j) true (seat_at i ts)) ∙ parts_none ps (suc i) ts

  parts_false : (ps : Pats) (i : ℕ) (ts : List A) (ks : List Known) → parts_cut head has ps i ts (column false ks ∷ []) ≡ column false ks ∷ []
  parts_false NoPat i ts ks = refl
  parts_false (APat p ps) i ts ks = ap (λ z. parts_cut head has ps (suc i) ts z) (typed_false (λ u j. cut head has p u j) true (seat_at i ts) ks) ∙ parts_false ps (suc i) ts ks

  -- the claim, of the parts behind some
  Behind : Pats → Type 0
  Behind ps = (pre : List Known) (before ts : List A) (suf : List Known) (i : ℕ) → i ≡ length pre → i ≡ length before
      → parts_cut head has ps i (before ++ ts) (column true (pre ++ suf) ∷ []) ≡ restore pre (cut_parts head has ps ts (knowns suf))

  each_piece : (ps : Pats) → Behind ps → (pre : List Known) (before ts : List A) (t : A) (suf : List Known) (i : ℕ) → i ≡ length pre → i ≡ length before → (cs : List Piece)
      → parts_cut head has ps (suc i) (before ++ t ∷ ts) (replaced pre suf cs) ≡ restore pre (first_then cs (cut_parts head has ps ts (knowns suf)) (knowns suf))
  unfolding Behind replaced
  each_piece ps claim pre before ts t suf i e d [] = parts_none ps (suc i) (before ++ t ∷ ts)
  each_piece ps claim pre before ts t suf i e d (c ∷ cs) =
      parts_append ps (suc i) (before ++ t ∷ ts) (column c.matched (pre ++ c.known ∷ suf) ∷ []) (replaced pre suf cs)
      ∙ ap (λ z. parts_cut head has ps (suc i) (before ++ t ∷ ts) (column c.matched (pre ++ c.known ∷ suf) ∷ []) ++ z) (each_piece ps claim pre before ts t suf i e d cs)
      ∙ ap (λ z. z ++ restore pre (first_then cs (cut_parts head has ps ts (knowns suf)) (knowns suf))) (first c.matched)
      ∙ sym (restore_append pre (cond c.matched (behind c.known (cut_parts head has ps ts (knowns suf))) (pieces false (AKnown c.known (knowns suf)) ∷ [])) (first_then cs (cut_parts head has ps ts (knowns suf)) (knowns suf)))
    where
      first : (b : Bool) → parts_cut head has ps (suc i) (before ++ t ∷ ts) (column b (pre ++ c.known ∷ suf) ∷ []) ≡ restore pre (cond b (behind c.known (cut_parts head has ps ts (knowns suf))) (pieces false (AKnown c.known (knowns suf)) ∷ []))
      first true =
          ap (λ z. parts_cut head has ps (suc i) z (column true (pre ++ c.known ∷ suf) ∷ [])) (sym (append_assoc before (t ∷ []) ts))
          ∙ ap (λ z. parts_cut head has ps (suc i) ((before ++ t ∷ []) ++ ts) (column true z ∷ [])) (sym (append_assoc pre (c.known ∷ []) suf))
          ∙ claim (pre ++ c.known ∷ []) (before ++ t ∷ []) ts suf (suc i) (one_longer pre c.known i e) (one_longer before t i d)
          ∙ restore_behind pre c.known (cut_parts head has ps ts (knowns suf))
      first false = parts_false ps (suc i) (before ++ t ∷ ts) (pre ++ c.known ∷ suf) ∙ ap (λ z. column false (pre ++ c.known ∷ z) ∷ []) (sym (list_back suf))

  more_behind : (p : Pat) (ps : Pats) → Behind ps → Behind (APat p ps)
  unfolding Behind
  more_behind p ps claim pre before [] suf i e d =
      ap (λ o. parts_cut head has ps (suc i) (before ++ []) (cut_typed (λ u j. cut head has p u j) true (seated i o) (column true (pre ++ suf) ∷ []))) (get_end before i d)
      ∙ parts_false ps (suc i) (before ++ []) (pre ++ suf) ∙ ap (λ z. column false (pre ++ z) ∷ []) (sym (list_back suf))
  more_behind p ps claim pre before (t ∷ ts) [] i e d =
      ap (λ o. parts_cut head has ps (suc i) (before ++ t ∷ ts) (cut_typed (λ u j. cut head has p u j) true (seated i o) (column true (pre ++ []) ∷ []))) (get_here before t ts i d)
      ∙ ap (λ o. parts_cut head has ps (suc i) (before ++ t ∷ ts) (cut_place (cut head has p t) true i (pre ++ []) o ++ [])) (get_end pre i e)
      ∙ parts_false ps (suc i) (before ++ t ∷ ts) (pre ++ [])
  more_behind p ps claim pre before (t ∷ ts) (k ∷ suf) i e d =
      ap (λ o. parts_cut head has ps (suc i) (before ++ t ∷ ts) (cut_typed (λ u j. cut head has p u j) true (seated i o) (column true (pre ++ k ∷ suf) ∷ []))) (get_here before t ts i d)
      ∙ ap (λ o. parts_cut head has ps (suc i) (before ++ t ∷ ts) (cut_place (cut head has p t) true i (pre ++ k ∷ suf) o ++ [])) (get_here pre k suf i e)
      ∙ ap (λ z. parts_cut head has ps (suc i) (before ++ t ∷ ts) z) (append-nil (spread i (pre ++ k ∷ suf) (cut head has p t k)) ∙ spread_here pre k suf i (cut head has p t k) e)
      ∙ each_piece ps claim pre before ts t suf i e d (cut head has p t k)

  all_behind : (ps : Pats) → Behind ps
  unfolding Behind
  all_behind NoPat = λ pre before ts suf i e d. ap (λ z. column true (pre ++ z) ∷ []) (sym (list_back suf))
  all_behind (APat p ps) = more_behind p ps (all_behind ps)

  pub tuple_parts : (ps : Pats) (ts : List A) (ks : List Known) → wholes Parts (parts_cut head has ps 0 ts (column true ks ∷ [])) ≡ of_parts Parts (cut_parts head has ps ts (knowns ks))
  unfolding Behind
  tuple_parts ps ts ks = ap (wholes Parts) (all_behind ps [] [] ts ks 0 refl refl) ∙ wholes_restored Parts (cut_parts head has ps ts (knowns ks))

  unknowns_are : (ts : List A) → knowns (copies (length ts) Unknown) ≡ unknowns ts
  unknowns_are [] = refl
  unknowns_are (t ∷ ts) = ap (λ z. AKnown Unknown z) (unknowns_are ts)

  pub tuple_took : (ps : Pats) (ts : List A) (k : Known) (ks : List Known) → Took ks ≡ take_tuple (length ts) k → wholes Parts (parts_cut head has ps 0 ts (column true ks ∷ [])) ≡ cut_tuple (λ ts ks. cut_parts head has ps ts ks) (node.Tuple ts) k
  tuple_took ps ts Unknown ks e = tuple_parts ps ts ks ∙ ap (λ z. of_parts Parts (cut_parts head has ps ts z)) (let q : ks ≡ copies (length ts) Unknown = cc in ap knowns q ∙ unknowns_are ts)
  tuple_took ps ts (Parts js) ks e = tuple_parts ps ts ks ∙ ap (λ z. of_parts Parts (cut_parts head has ps ts z)) (let q : ks ≡ list_of js = cc in ap knowns q ∙ knowns_list js)
  tuple_took ps ts k ks e = cc

  pub tuple_left : (f : List A → Knowns → List Pieces) (ts : List A) (k j : Known) → Left j ≡ take_tuple (length ts) k → piece false j ∷ [] ≡ cut_tuple f (node.Tuple ts) k
  tuple_left f ts Unknown j e = cc
  tuple_left f ts (Parts js) j e = cc
  tuple_left f ts k j e = let q : j ≡ k = cc in ap (λ z. piece false z ∷ []) q
