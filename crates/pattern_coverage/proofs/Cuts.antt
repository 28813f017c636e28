-- What a pattern cuts, and what is missed by all of them.
use Rattle.std.proofs.Common.{◌≡◌, ◌⊎◌, inl, inr, List, [], ◌∷◌, ◌++◌, Bool, true, false, Some, None, refl, sym, ap, ◌∙◌}
use Rattle.std.specs.Prelude.{cond, is_some}
use Rattle.mo_types.specs.declared.node.Node.{Node}
use Rattle.mo_types.specs.declared.node.TypeId.{TypeId}
use Rattle.mo_types.specs.Sub.{Each}
use Rattle.mo_values.specs.Shapes.{Bytes, Shape}
use Rattle.typed_tree.specs.Patterns.{Pat, Pats, Wildcard, Bind, Constant, Present?, Tagged, Parts, Fields, Either, NoPat, APat, Found, first_of_both, matches}
use Rattle.pattern_coverage.specs.Cover.{Tells, cut_missed, missed}
use Rattle.pattern_coverage.specs.Cutting.{Piece, cut}
use Rattle.pattern_coverage.specs.Inhabited.{HasValues}
use Rattle.pattern_coverage.specs.Known.{Known, Describes}
use Rattle.pattern_coverage.specs.Suited.{IsOn}
use Rattle.pattern_coverage.proofs.Literal.{literal_cuts}
use Rattle.pattern_coverage.proofs.Object.{ClaimFields, no_fields, more_fields, object_cuts}
use Rattle.pattern_coverage.proofs.Option.{Claim, option_cuts}
use Rattle.pattern_coverage.proofs.Pieces.{Feasible, In, Val, IsSure, Cuts, one, or_cuts}
use Rattle.pattern_coverage.proofs.Seen.{no}
use Rattle.pattern_coverage.proofs.Tag.{tag_cuts}
use Rattle.pattern_coverage.proofs.Tuple.{ClaimAll, no_parts, more_parts, tuple_cuts}

some_first : {F : Type 0} (a b : Found F) → is_some a ≡ true → is_some (first_of_both a b) ≡ true
some_first None b e = cc
some_first (Some vs) b e = refl

none_first : {F : Type 0} (a b : Found F) → is_some a ≡ false → is_some (first_of_both a b) ≡ is_some b
none_first None None e = refl
none_first None (Some ws) e = refl
none_first (Some vs) b e = cc

module _ (F : Type 0) (head : TypeId → Node TypeId) (has : TypeId → Bool) (tells : Tells head has) (kinds : List TypeId) (having : (t : TypeId) (v : Shape F) → Val head has kinds t v → HasValues head t) where
  either_cuts : (p q : Pat) → Claim F head has kinds p → Claim F head has kinds q → Claim F head has kinds (Either p q)
  either_cuts p q a b t k i f =
      or_cuts head has kinds (λ v. Describes k v) (λ v. is_some (matches p v)) (λ v. is_some (matches q v)) (λ v. is_some (matches (Either p q) v)) t (λ j. cut head has q t j) (λ j g. b t j i.1 g)
      (λ v e. some_first (matches p v) (matches q v) e) (λ v e. none_first (matches p v) (matches q v) e) (cut head has p t k) (a t k i.0 f)

  mutual
    pub cuts : (p : Pat) → Claim F head has kinds p
    cuts Wildcard = λ t k i f. one head has kinds k true t (λ v. is_some (matches Wildcard v)) f (λ v a d. refl)
    cuts Bind = λ t k i f. one head has kinds k true t (λ v. is_some (matches Bind v)) f (λ v a d. refl)
    cuts (Constant c) = λ t k i f. literal_cuts head has tells kinds having c t k i f
    cuts (Present? p) = option_cuts head has tells kinds having p (cuts p)
    cuts (Tagged l p) = tag_cuts head has tells kinds having p (cuts p) l
    cuts (Parts ps) = tuple_cuts F head has kinds ps (parts_cut ps)
    cuts (Fields ls ps) = object_cuts F head has kinds ls ps (fields_cut ps ls)
    cuts (Either p q) = either_cuts p q (cuts p) (cuts q)

    parts_cut : (ps : Pats) → ClaimAll F head has kinds ps
    parts_cut NoPat = no_parts F head has kinds
    parts_cut (APat p ps) = more_parts F head has kinds p ps (cuts p) (parts_cut ps)

    fields_cut : (ps : Pats) (ls : List Bytes) → ClaimFields F head has kinds ls ps
    fields_cut NoPat [] = no_fields F head has kinds
    fields_cut NoPat (l ∷ ls) = λ t fs ks n i f. absurd i
    fields_cut (APat p ps) [] = λ t fs ks n i f. absurd i
    fields_cut (APat p ps) (l ∷ ls) = more_fields F head has kinds p l ls ps (cuts p) (fields_cut ps ls)

  -- ---- all patterns

  abbrev AllOn : List Pat → TypeId → Type 0
  AllOn ps t = Each (λ p. IsOn head p t) ps

  abbrev Unmatched : List Pat → Shape F → Type 0
  Unmatched ps v = Each (λ p. matches p v ≡ None) ps

  -- what is missed has values, which are as was known and match none of the patterns
  pub record IsMissed (ps : List Pat) (t : TypeId) (k j : Known) : Type 0 where
    pub feasible : Feasible head has j t
    pub none : (v : Shape F) → Val head has kinds t v → Describes j v → Describes k v × Unmatched ps v

  each_both : (P : Known → Type 0) (xs ys : List Known) → Each P xs → Each P ys → Each P (xs ++ ys)
  each_both P [] ys h k = k
  each_both P (x ∷ xs) ys h k = (h.0, each_both P xs ys h.1 k)

  is_none : (o : Found F) → is_some o ≡ false → o ≡ None
  is_none None e = refl
  is_none (Some vs) e = cc

  missed_each : (p : Pat) (ps : List Pat) (t : TypeId) (k : Known) → ((j : Known) → Feasible head has j t → Each (IsMissed ps t j) (missed head has ps t j)) → (cs : List Piece)
      → Each (IsSure {F = F} head has kinds (λ v. Describes k v) (λ v. is_some (matches p v)) t) cs → Each (IsMissed (p ∷ ps) t k) (cut_missed cs (λ j. missed head has ps t j))
  missed_each p ps t k later [] h = tt
  missed_each p ps t k later (c ∷ cs) h =
      each_both (IsMissed (p ∷ ps) t k) (cond c.matched [] (missed head has ps t c.known)) (cut_missed cs (λ j. missed head has ps t j)) (by c.matched refl h.0) (missed_each p ps t k later cs h.1)
    where
      through : IsSure {F = F} head has kinds (λ v. Describes k v) (λ v. is_some (matches p v)) t c → c.matched ≡ false → (js : List Known) → Each (IsMissed ps t c.known) js → Each (IsMissed (p ∷ ps) t k) js
      through s e [] h = tt
      through s e (j ∷ js) h =
          let m : IsMissed ps t c.known j = h.0 in
          (record { feasible = m.feasible; none = λ v a d. let x = m.none v a d in let y = s.sure v a x.0 in (y.0, (is_none (matches p v) (y.1 ∙ e), x.1)) }, through s e js h.1)

      by : (b : Bool) → c.matched ≡ b → IsSure {F = F} head has kinds (λ v. Describes k v) (λ v. is_some (matches p v)) t c → Each (IsMissed (p ∷ ps) t k) (cond b [] (missed head has ps t c.known))
      by true e s = tt
      by false e s = through s e (missed head has ps t c.known) (later c.known s.feasible)

  pub missed_match_none : (ps : List Pat) (t : TypeId) (k : Known) → AllOn ps t → Feasible head has k t → Each (IsMissed ps t k) (missed head has ps t k)
  missed_match_none [] t k i f = (record { feasible = f; none = λ v a d. (d, tt) }, tt)
  missed_match_none (p ∷ ps) t k i f = missed_each p ps t k (λ j g. missed_match_none ps t j i.1 g) (cut head has p t k) (cuts p t k i.0 f).each

  -- it lies in one of them
  abbrev pub Among : List Known → Shape F → Type 0
  Among [] v = ⊥
  Among (k ∷ ks) v = Describes k v ⊎ Among ks v

  among_left : (js ks : List Known) (v : Shape F) → Among js v → Among (js ++ ks) v
  among_left [] ks v h = absurd h
  among_left (j ∷ js) ks v (inl h) = inl h
  among_left (j ∷ js) ks v (inr h) = inr (among_left js ks v h)

  among_right : (js ks : List Known) (v : Shape F) → Among ks v → Among (js ++ ks) v
  among_right [] ks v h = h
  among_right (j ∷ js) ks v h = inr (among_right js ks v h)

  missed_in : (p : Pat) (ps : List Pat) (t : TypeId) (k : Known) (v : Shape F) → Val head has kinds t v → matches p v ≡ None → ((j : Known) → Feasible head has j t → Describes j v → Among (missed head has ps t j) v) → (cs : List Piece)
      → Each (IsSure {F = F} head has kinds (λ v. Describes k v) (λ v. is_some (matches p v)) t) cs → In cs v → Among (cut_missed cs (λ j. missed head has ps t j)) v
  missed_in p ps t k v a n later [] h i = absurd i
  missed_in p ps t k v a n later (c ∷ cs) h (inl d) = among_left (cond c.matched [] (missed head has ps t c.known)) (cut_missed cs (λ j. missed head has ps t j)) v (by c.matched refl h.0)
    where
      by : (b : Bool) → c.matched ≡ b → IsSure {F = F} head has kinds (λ v. Describes k v) (λ v. is_some (matches p v)) t c → Among (cond b [] (missed head has ps t c.known)) v
      by true e s = absurd (no (sym (ap is_some n) ∙ ((s.sure v a d).1 ∙ e)))
      by false e s = later c.known s.feasible d
  missed_in p ps t k v a n later (c ∷ cs) h (inr i) = among_right (cond c.matched [] (missed head has ps t c.known)) (cut_missed cs (λ j. missed head has ps t j)) v (missed_in p ps t k v a n later cs h.1 i)

  pub none_is_missed : (ps : List Pat) (t : TypeId) (k : Known) → AllOn ps t → Feasible head has k t → (v : Shape F) → Val head has kinds t v → Describes k v → Unmatched ps v → Among (missed head has ps t k) v
  none_is_missed [] t k i f v a d u = inl d
  none_is_missed (p ∷ ps) t k i f v a d u =
      let c : Cuts {F = F} head has kinds (λ v. Describes k v) (λ v. is_some (matches p v)) t (cut head has p t k) = cuts p t k i.0 f in
      missed_in p ps t k v a u.0 (λ j g d. none_is_missed ps t j i.1 g v a d u.1) (cut head has p t k) c.each (c.all v a d)
