-- What all patterns miss, pattern by pattern.
use Rattle.std.proofs.Common.{◌≡◌, List, [], ◌∷◌, ◌++◌, Bool, true, false, refl, sym, ap, ◌∙◌}
use Rattle.std.specs.Prelude.{cond}
use Rattle.std.proofs.lemmas.List.{append-nil, append_assoc}
use Rattle.mo_types.specs.declared.node.Node.{Node}
use Rattle.typed_tree.specs.Patterns.{Pat}
use Rattle.pattern_coverage.specs.Cover.{cut_missed, missed}
use Rattle.pattern_coverage.specs.Cutting.{Piece, cut}
use Rattle.pattern_coverage.specs.Known.{Known, Unknown}
use Rattle.mo_coverage.specs.Covering.{unmatched, missed_by, missed_by_all}

-- of all of them, one after another
abbrev of_each : List Known → (Known → List Known) → List Known
of_each [] g = []
of_each (k ∷ ks) g = g k ++ of_each ks g

each_append : (ks js : List Known) (g : Known → List Known) → of_each (ks ++ js) g ≡ of_each ks g ++ of_each js g
each_append [] js g = refl
each_append (k ∷ ks) js g = ap (λ z. g k ++ z) (each_append ks js g) ∙ sym (append_assoc (g k) (of_each ks g) (of_each js g))

each_itself : (ks : List Known) → ks ≡ of_each ks (λ k. k ∷ [])
each_itself [] = refl
each_itself (k ∷ ks) = ap (λ z. k ∷ z) (each_itself ks)

of_unmatched : (cs : List Piece) (g : Known → List Known) → of_each (unmatched cs) g ≡ cut_missed cs g
of_unmatched [] g = refl
of_unmatched (c ∷ cs) g = each_append (cond c.matched [] (c.known ∷ [])) (unmatched cs) g ∙ ap (λ z. of_each (cond c.matched [] (c.known ∷ [])) g ++ z) (of_unmatched cs g) ∙ ap (λ z. z ++ cut_missed cs g) (by c.matched)
  where
    by : (b : Bool) → of_each (cond b [] (c.known ∷ [])) g ≡ cond b [] (g c.known)
    by true = refl
    by false = append-nil (g c.known)

of_missed : (f : Known → List Piece) (ks : List Known) (g : Known → List Known) → of_each (missed_by f ks) g ≡ of_each ks (λ k. cut_missed (f k) g)
of_missed f [] g = refl
of_missed f (k ∷ ks) g = each_append (unmatched (f k)) (missed_by f ks) g ∙ ap (λ z. z ++ of_each (missed_by f ks) g) (of_unmatched (f k) g) ∙ ap (λ z. cut_missed (f k) g ++ z) (of_missed f ks g)

module _ {A : Type 0} (head : A → Node A) (has : A → Bool) where
  all_missed : (ps : List Pat) (t : A) (ks : List Known) → missed_by_all head has ps t ks ≡ of_each ks (λ k. missed head has ps t k)
  all_missed [] t ks = each_itself ks
  all_missed (p ∷ ps) t ks = all_missed ps t (missed_by (cut head has p t) ks) ∙ of_missed (cut head has p t) ks (λ k. missed head has ps t k)

  pub one_by_one : (ps : List Pat) (t : A) → missed_by_all head has ps t (Unknown ∷ []) ≡ missed head has ps t Unknown
  one_by_one ps t = all_missed ps t (Unknown ∷ []) ∙ append-nil (missed head has ps t Unknown)
