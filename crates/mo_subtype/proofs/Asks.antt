-- Lists of questions as they grow.
use Rattle.std.proofs.Common.{◌≡◌, ℕ, zero, suc, ◌+◌, ◌<◌, ◌≢◌, Bool, true, false, List, [], ◌∷◌, ◌++◌, length, Option, Some, None, refl, sym, ap, ◌∙◌, subst, arith, append_assoc, drop, get_or, drop-cons, add-one}
use Rattle.mo_types.specs.declared.node.Field.{Field}
use Rattle.mo_subtype.specs.declared.pairs.Pair.{Pair}
use Rattle.mo_subtype.specs.Certificate.{Adds}
use Rattle.mo_subtype.specs.Questions.{join, one, parts_questions, found_questions, fields_questions, tag_questions, tags_questions}

pub drop_more : {X : Type 0} (xs : List X) (i : ℕ) (d : X) → i < length xs → drop i xs ≡ get_or xs i d ∷ drop (i + 1) xs
drop_more xs i d h = drop-cons xs i d h ∙ ap (λ (j : ℕ). get_or xs i d ∷ drop j xs) (sym (add-one i))

drop_past : {X : Type 0} (xs : List X) (i : ℕ) → length xs ≡ i → drop i xs ≡ []
drop_past [] zero h = refl
drop_past [] (suc i) h = refl
drop_past (x ∷ xs) zero h = absurd (omega arith)
drop_past (x ∷ xs) (suc i) h = let e : length xs ≡ i = omega arith in drop_past xs i e

module _ {A : Type 0} where
  -- of all questions those that are left, and the others stand at the end of the list
  pub record Sofar (all rest : Option (List (Pair A))) (old now : List (Pair A)) : Type 0 where
    pub said : List (Pair A)
    pub is : now ≡ old ++ said
    pub left : all ≡ join (Some said) rest

  append_nil : (xs : List (Pair A)) → xs ++ [] ≡ xs
  append_nil [] = refl
  append_nil (x ∷ xs) = ap (λ l. x ∷ l) (append_nil xs)

  join_nil : (o : Option (List (Pair A))) → o ≡ join (Some []) o
  join_nil None = refl
  join_nil (Some qs) = refl

  pub sofar_start : (o : Option (List (Pair A))) (now : List (Pair A)) → Sofar o o now now
  sofar_start o now = record { said = []; is = sym (append_nil now); left = join_nil o }

  join_more : (a b : List (Pair A)) (o : Option (List (Pair A))) → join (Some a) (join (Some b) o) ≡ join (Some (a ++ b)) o
  join_more a b None = refl
  join_more a b (Some c) = ap (λ l. Some l) (sym (append_assoc a b c))

  join_none : (o : Option (List (Pair A))) → join o None ≡ None
  join_none None = refl
  join_none (Some a) = refl

  -- the next questions were put
  pub sofar_more : (all rest q later : Option (List (Pair A))) (old now new : List (Pair A)) → Sofar all rest old now → rest ≡ join q later → Adds q true now new → Sofar all later old new
  sofar_more all rest None later old now new s e h = absurd h
  sofar_more all rest (Some qs) later old now new s e h = record {
    said = s.said ++ qs;
    is = h ∙ ap (λ l. l ++ qs) s.is ∙ append_assoc old s.said qs;
    left = s.left ∙ ap (join (Some s.said)) e ∙ join_more s.said qs later;
  }

  -- the next questions are ruled out
  pub sofar_stop : (all rest q later : Option (List (Pair A))) (old now new end : List (Pair A)) → Sofar all rest old now → rest ≡ join q later → Adds q false now new → Adds all false old end
  sofar_stop all rest (Some qs) later old now new end s e h = absurd h
  sofar_stop all rest None later old now new end s e h =
      subst (λ o. Adds o false old end) (sym (s.left ∙ ap (join (Some s.said)) e)) tt

  pub sofar_end : (all : Option (List (Pair A))) (old now : List (Pair A)) → Sofar all (Some []) old now → Adds all true old now
  sofar_end all old now s =
      subst (λ o. Adds o true old now) (sym (s.left ∙ ap (λ l. Some l) (append_nil s.said))) s.is

  -- two lists of questions, one after the other
  pub adds_both : (p q : Option (List (Pair A))) (old now new : List (Pair A)) (b : Bool) → Adds p true old now → Adds q b now new → Adds (join p q) b old new
  adds_both None q old now new b h k = absurd h
  adds_both (Some ps) None old now new true h k = absurd k
  adds_both (Some ps) None old now new false h k = tt
  adds_both (Some ps) (Some qs) old now new false h k = absurd k
  adds_both (Some ps) (Some qs) old now new true h k = k ∙ ap (λ l. l ++ qs) h ∙ append_assoc old ps qs

  pub adds_first : (p q : Option (List (Pair A))) (old now new : List (Pair A)) → Adds p false old now → Adds (join p q) false old new
  adds_first None q old now new h = tt
  adds_first (Some ps) q old now new h = absurd h

  pub parts_unequal : (ts bs : List A) (old new : List (Pair A)) → length ts ≢ length bs → Adds (parts_questions ts bs) false old new
  parts_unequal [] [] old new h = absurd (h refl)
  parts_unequal [] (b ∷ bs) old new h = tt
  parts_unequal (t ∷ ts) [] old new h = tt
  parts_unequal (t ∷ ts) (b ∷ bs) old new h = rest (parts_questions ts bs) (parts_unequal ts bs old new (λ e. h (ap suc e))) where
    rest : (o : Option (List (Pair A))) → Adds o false old new → Adds (join (one t b) o) false old new
    rest None k = tt
    rest (Some qs) k = k

  pub parts_step : (ts bs : List A) (i : ℕ) (d : A) → i < length ts → i < length bs → parts_questions (drop i ts) (drop i bs) ≡ join (one (get_or ts i d) (get_or bs i d)) (parts_questions (drop (i + 1) ts) (drop (i + 1) bs))
  parts_step ts bs i d h k = ap (λ l. parts_questions l (drop i bs)) (drop_more ts i d h) ∙ ap (parts_questions (get_or ts i d ∷ drop (i + 1) ts)) (drop_more bs i d k)

  pub fields_step : (fs gs : List (Field A)) (i : ℕ) (d : Field A) → i < length gs → fields_questions fs (drop i gs) ≡ join (found_questions fs (get_or gs i d)) (fields_questions fs (drop (i + 1) gs))
  fields_step fs gs i d h = ap (fields_questions fs) (drop_more gs i d h)

  pub tags_step : (fs gs : List (Field A)) (i : ℕ) (d : Field A) → i < length fs → tags_questions (drop i fs) gs ≡ join (tag_questions gs (get_or fs i d)) (tags_questions (drop (i + 1) fs) gs)
  tags_step fs gs i d h = ap (λ l. tags_questions l gs) (drop_more fs i d h)

  pub parts_end : (ts bs : List A) (i : ℕ) → length ts ≡ i → length bs ≡ i → parts_questions (drop i ts) (drop i bs) ≡ Some []
  parts_end ts bs i h k = ap (λ l. parts_questions l (drop i bs)) (drop_past ts i h) ∙ ap (parts_questions []) (drop_past bs i k)

  pub fields_end : (fs gs : List (Field A)) (i : ℕ) → length gs ≡ i → fields_questions fs (drop i gs) ≡ Some []
  fields_end fs gs i h = ap (fields_questions fs) (drop_past gs i h)

  pub tags_end : (fs gs : List (Field A)) (i : ℕ) → length fs ≡ i → tags_questions (drop i fs) gs ≡ Some []
  tags_end fs gs i h = ap (λ l. tags_questions l gs) (drop_past fs i h)

  -- one field or tag more
  pub fields_more : (fs gs : List (Field A)) (i : ℕ) (g : Field A) (old now new : List (Pair A)) (b : Bool) → i < length gs → g ≡ get_or gs i g →
      Sofar (fields_questions fs gs) (fields_questions fs (drop i gs)) old now → Adds (found_questions fs g) b now new → b ≡ true → Sofar (fields_questions fs gs) (fields_questions fs (drop (i + 1) gs)) old new
  fields_more fs gs i g old now new b h e s a t =
      sofar_more (fields_questions fs gs) (fields_questions fs (drop i gs)) (found_questions fs g) (fields_questions fs (drop (i + 1) gs)) old now new s
      (fields_step fs gs i g h ∙ ap (λ x. join (found_questions fs x) (fields_questions fs (drop (i + 1) gs))) (sym e)) (subst (λ c. Adds (found_questions fs g) c now new) t a)

  pub tags_more : (fs gs : List (Field A)) (i : ℕ) (f : Field A) (old now new : List (Pair A)) (b : Bool) → i < length fs → f ≡ get_or fs i f →
      Sofar (tags_questions fs gs) (tags_questions (drop i fs) gs) old now → Adds (tag_questions gs f) b now new → b ≡ true → Sofar (tags_questions fs gs) (tags_questions (drop (i + 1) fs) gs) old new
  tags_more fs gs i f old now new b h e s a t =
      sofar_more (tags_questions fs gs) (tags_questions (drop i fs) gs) (tag_questions gs f) (tags_questions (drop (i + 1) fs) gs) old now new s
      (tags_step fs gs i f h ∙ ap (λ x. join (tag_questions gs x) (tags_questions (drop (i + 1) fs) gs)) (sym e)) (subst (λ c. Adds (tag_questions gs f) c now new) t a)
