-- Where no name has a value to be put in its place, nothing changes.
use Rattle.std.proofs.Common.{◌≡◌, ℕ, zero, suc, [], ◌∷◌, Some, None, refl, ap₂}
use Rattle.typed_tree.specs.Patterns.{names, names_all}
use Rattle.typed_tree.specs.Language.{Exp, Exps, Cases, Functions, Val, Name, Do, If, Switch, Group, Frame, Label, While, Repeat, For, Try, Update, NoExp, AnExp, NoCase, ACase, NoFunction, AFunction}
use Rattle.typed_tree.specs.Substitution.{Slots, pick, hide, count, put, put_all, put_cases, put_functions}

abbrev pub AllNone : Slots → Type 0
AllNone [] = Unit {0}
AllNone (None ∷ s) = AllNone s
AllNone (Some v ∷ s) = ⊥

pick_none : (s : Slots) → AllNone s → (n x : ℕ) → pick s n x ≡ Name x
pick_none [] h n x = refl
pick_none (None ∷ s) h zero x = refl
pick_none (None ∷ s) h (suc n) x = pick_none s h n x
pick_none (Some v ∷ s) h n x = absurd h

pub hide_none : (n : ℕ) (s : Slots) → AllNone s → AllNone (hide n s)
hide_none zero s h = h
hide_none (suc n) s h = hide_none n s h

mutual
  pub put_none : (s : Slots) → AllNone s → (e : Exp) → put s e ≡ e
  put_none s h (Val v) = refl
  put_none s h (Name x) = pick_none s h x x
  put_none s h (Do a es) = cc (put_none_all s h es)
  put_none s h (If c a b) = cc (put_none s h c, put_none s h a, put_none s h b)
  put_none s h (Switch e cases) = cc (put_none s h e, put_none_cases s h cases)
  put_none s h (Group fns b) = ap₂ Group (put_none_functions (hide (count fns) s) (hide_none (count fns) s h) fns) (put_none (hide (count fns) s) (hide_none (count fns) s h) b)
  put_none s h (Frame n e) = cc (put_none s h e)
  put_none s h (Label e) = cc (put_none s h e)
  put_none s h (While c b) = cc (put_none s h c, put_none s h b)
  put_none s h (Repeat b c) = cc (put_none s h b, put_none s h c)
  put_none s h (For p e b) = ap₂ (For p) (put_none s h e) (put_none (hide (names p) s) (hide_none (names p) s h) b)
  put_none s h (Try e p b) = ap₂ (λ x y. Try x p y) (put_none s h e) (put_none (hide (names p) s) (hide_none (names p) s h) b)
  put_none s h (Update o e f) = cc (put_none s h e, put_none s h f)

  pub put_none_all : (s : Slots) → AllNone s → (es : Exps) → put_all s es ≡ es
  put_none_all s h NoExp = refl
  put_none_all s h (AnExp e es) = cc (put_none s h e, put_none_all s h es)

  pub put_none_cases : (s : Slots) → AllNone s → (cases : Cases) → put_cases s cases ≡ cases
  put_none_cases s h NoCase = refl
  put_none_cases s h (ACase p e cases) = ap₂ (ACase p) (put_none (hide (names p) s) (hide_none (names p) s h) e) (put_none_cases s h cases)

  pub put_none_functions : (s : Slots) → AllNone s → (fns : Functions) → put_functions s fns ≡ fns
  put_none_functions s h NoFunction = refl
  put_none_functions s h (AFunction how n ps body fns) = ap₂ (AFunction how n ps) (put_none (hide (names_all ps) s) (hide_none (names_all ps) s h) body) (put_none_functions s h fns)
