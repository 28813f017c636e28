-- The innermost label, which may be continued or not.
use Rattle.std.proofs.Common.{◌≡◌, ℕ, ◌+◌, ◌-◌, ◌<◌, Bool, List, [], ◌∷◌, ◌++◌, length, get_or, slice_set, refl, sym, ap, ◌∙◌, arith, length-append}
use Rattle.value_scopes.specs.declared.scopes.Label.{Label}
use Rattle.value_scopes.specs.Labels.{first_looped}
use Rattle.value_scopes.specs.Stacks.{stacked}
use Rattle.value_scopes.proofs.Stacking.{pushed, split_last}

last_set : (us : List Label) (t m : Label) → slice_set (us ++ t ∷ []) (length us) m ≡ us ++ m ∷ []
last_set [] t m = refl
last_set (u ∷ us) t m = ap (λ l. u ∷ l) (last_set us t m)

last_get : (us : List Label) (t d : Label) → get_or (us ++ t ∷ []) (length us) d ≡ t
last_get [] t d = refl
last_get (u ∷ us) t d = last_get us t d

record Innermost (xs : List (List ℕ)) (ts : List Label) (old : List (List ℕ × Label)) : Type 0 where
  name : List ℕ
  label : Label
  front : List (List ℕ)
  others : List Label
  names_are : xs ≡ front ++ name ∷ []
  labels_are : ts ≡ others ++ label ∷ []
  many : length front ≡ length others
  place : length ts - 1 ≡ length others
  is : old ≡ (name, label) ∷ stacked front others

module _ (xs : List (List ℕ)) (ts : List Label) (old : List (List ℕ × Label)) (n : ℕ) (l : Label) (v : stacked xs ts ≡ old) (f : length xs ≡ length ts) (e : n ≡ length ts) (h : 0 < n) (g : l ≡ get_or ts (n - 1) l) where
  innermost : Innermost xs ts old
  innermost =
      let (front, (x, p)) = split_last xs (omega arith) in
      let (us, (t, q)) = split_last ts (omega arith) in
      let i : length xs ≡ length front + 1 = ap length p ∙ length-append front (x ∷ []) in
      let j : length ts ≡ length us + 1 = ap length q ∙ length-append us (t ∷ []) in
      record {
        name = x;
        label = t;
        front = front;
        others = us;
        names_are = p;
        labels_are = q;
        many = omega arith;
        place = omega arith;
        is = sym v ∙ pushed front xs us ts (stacked front us) x t refl (omega arith) p q;
      }

  same_label : l ≡ innermost.label
  same_label = g ∙ (ap (λ k. get_or ts (k - 1) l) e ∙ (ap (λ k. get_or ts k l) innermost.place ∙ (ap (λ (s : List Label). get_or s (length innermost.others) l) innermost.labels_are ∙ last_get innermost.others innermost.label l)))

  pub was_looped : old ≡ first_looped l.is_loop old
  was_looped = innermost.is ∙ (ap (λ (k : Label). first_looped k.is_loop ((innermost.name, innermost.label) ∷ stacked innermost.front innermost.others)) (sym same_label) ∙ ap (first_looped l.is_loop) (sym innermost.is))

  pub is_looped : (b : Bool) (m : Label) → m ≡ record l { is_loop = b } → stacked xs (slice_set ts (n - 1) m) ≡ first_looped b old
  is_looped b m k =
      let y = innermost in
      let z : slice_set ts (n - 1) m ≡ y.others ++ m ∷ [] =
      ap (λ i. slice_set ts (i - 1) m) e ∙ (ap (λ i. slice_set ts i m) y.place ∙ (ap (λ (s : List Label). slice_set s (length y.others) m) y.labels_are ∙ last_set y.others y.label m)) in
      pushed y.front xs y.others (slice_set ts (n - 1) m) (stacked y.front y.others) y.name m refl y.many y.names_are z
      ∙ (ap (λ (u : Label). (y.name, u) ∷ stacked y.front y.others) (k ∙ ap (λ (u : Label). record u { is_loop = b }) same_label) ∙ ap (first_looped b) (sym y.is))
