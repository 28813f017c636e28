-- Two substitutions of closed values in turn are one.
use Rattle.std.proofs.Common.{◌≡◌, ℕ, zero, suc, [], ◌∷◌, Some, None, refl, ap, ap₂, ◌∙◌}
use Rattle.typed_tree.specs.Patterns.{names, names_all}
use Rattle.typed_tree.specs.Language.{Exp, Exps, Cases, Functions, Val, Name, Do, If, Switch, Group, Frame, Label, While, Repeat, For, Try, Update, NoExp, AnExp, NoCase, ACase, NoFunction, AFunction}
use Rattle.typed_tree.specs.Substitution.{Slots, pick, hide, count, put, put_all, put_cases, put_functions, merge}

put_pick : (s t : Slots) (n x : ℕ) → pick s x x ≡ Name x → put s (pick t n x) ≡ pick t n x
put_pick s [] n x h = h
put_pick s (None ∷ t) zero x h = h
put_pick s (Some v ∷ t) zero x h = refl
put_pick s (_ ∷ t) (suc n) x h = put_pick s t n x h

pick_merge : (all s t : Slots) (n x : ℕ) → pick all x x ≡ pick s n x → put all (pick t n x) ≡ pick (merge s t) n x
pick_merge all [] t n x h = put_pick all t n x h
pick_merge all (o ∷ s) [] n x h = h
pick_merge all (None ∷ s) (None ∷ t) zero x h = h
pick_merge all (Some v ∷ s) (None ∷ t) zero x h = h
pick_merge all (o ∷ s) (Some v ∷ t) zero x h = refl
pick_merge all (o ∷ s) (None ∷ t) (suc n) x h = pick_merge all s t n x h
pick_merge all (o ∷ s) (Some v ∷ t) (suc n) x h = pick_merge all s t n x h

hide_merge : (n : ℕ) (s t : Slots) → merge (hide n s) (hide n t) ≡ hide n (merge s t)
hide_merge zero s t = refl
hide_merge (suc n) s t = ap (λ u. None ∷ u) (hide_merge n s t)

count_put : (s : Slots) (fns : Functions) → count (put_functions s fns) ≡ count fns
count_put s NoFunction = refl
count_put s (AFunction how n ps body fns) = ap suc (count_put s fns)

mutual
  pub put_put : (s t : Slots) (e : Exp) → put s (put t e) ≡ put (merge s t) e
  put_put s t (Val v) = refl
  put_put s t (Name x) = pick_merge s s t x x refl
  put_put s t (Do a es) = ap (Do a) (put_put_all s t es)
  put_put s t (If c a b) = cc (put_put s t c, put_put s t a, put_put s t b)
  put_put s t (Switch e cases) = cc (put_put s t e, put_put_cases s t cases)
  put_put s t (Group fns b) =
      ap (λ n. Group (put_functions (hide n s) (put_functions (hide (count fns) t) fns)) (put (hide n s) (put (hide (count fns) t) b))) (count_put (hide (count fns) t) fns)
      ∙ ap₂ Group
      (put_put_functions (hide (count fns) s) (hide (count fns) t) fns ∙ ap (λ u. put_functions u fns) (hide_merge (count fns) s t))
      (put_put (hide (count fns) s) (hide (count fns) t) b ∙ ap (λ u. put u b) (hide_merge (count fns) s t))
  put_put s t (Frame n e) = cc (put_put s t e)
  put_put s t (Label e) = cc (put_put s t e)
  put_put s t (While c b) = cc (put_put s t c, put_put s t b)
  put_put s t (Repeat b c) = cc (put_put s t b, put_put s t c)
  put_put s t (For p e b) = ap₂ (For p) (put_put s t e) (put_put (hide (names p) s) (hide (names p) t) b ∙ ap (λ u. put u b) (hide_merge (names p) s t))
  put_put s t (Try e p b) = ap₂ (λ x y. Try x p y) (put_put s t e) (put_put (hide (names p) s) (hide (names p) t) b ∙ ap (λ u. put u b) (hide_merge (names p) s t))
  put_put s t (Update o e f) = ap₂ (Update o) (put_put s t e) (put_put s t f)

  pub put_put_all : (s t : Slots) (es : Exps) → put_all s (put_all t es) ≡ put_all (merge s t) es
  put_put_all s t NoExp = refl
  put_put_all s t (AnExp e es) = cc (put_put s t e, put_put_all s t es)

  pub put_put_cases : (s t : Slots) (cases : Cases) → put_cases s (put_cases t cases) ≡ put_cases (merge s t) cases
  put_put_cases s t NoCase = refl
  put_put_cases s t (ACase p e cases) = ap₂ (ACase p) (put_put (hide (names p) s) (hide (names p) t) e ∙ ap (λ u. put u e) (hide_merge (names p) s t)) (put_put_cases s t cases)

  pub put_put_functions : (s t : Slots) (fns : Functions) → put_functions s (put_functions t fns) ≡ put_functions (merge s t) fns
  put_put_functions s t NoFunction = refl
  put_put_functions s t (AFunction how n ps body fns) =
      ap₂ (AFunction how n ps) (put_put (hide (names_all ps) s) (hide (names_all ps) t) body ∙ ap (λ u. put u body) (hide_merge (names_all ps) s t)) (put_put_functions s t fns)
