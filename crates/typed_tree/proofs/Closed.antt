-- What has no free names is left as it is where values are put in the place of names.
use Rattle.std.proofs.Common.{◌≡◌, ℕ, zero, suc, ◌+◌, ◌<◌, ◌∷◌, None, arith, refl, ap, ap₂, ◌∙◌}
use Rattle.typed_tree.specs.Patterns.{names, names_all}
use Rattle.typed_tree.specs.Language.{Exp, Exps, Cases, Functions, Val, Name, Do, If, Switch, Group, Frame, Label, While, Repeat, For, Try, Update, NoExp, AnExp, NoCase, ACase, NoFunction, AFunction}
use Rattle.typed_tree.specs.Scoped.{Scoped, ScopedAll, ScopedCases, ScopedFunctions}
use Rattle.typed_tree.specs.Substitution.{Slots, pick, hide, count, put, put_all, put_cases, put_functions}

hidden : (n : ℕ) (s : Slots) (m x : ℕ) → m < n → pick (hide n s) m x ≡ Name x
hidden zero s m x h = absurd (no h)
  where
    no : m < zero → ⊥
    no i = omega arith
hidden (suc n) s zero x h = refl
hidden (suc n) s (suc m) x h = hidden n s m x (omega arith)

zero_sum : (n : ℕ) → n ≡ 0 + n
zero_sum n = omega arith

suc_sum : (m n : ℕ) → suc (m + n) ≡ suc m + n
suc_sum m n = omega arith

hide_sum : (m n : ℕ) (s : Slots) → hide m (hide n s) ≡ hide (m + n) s
hide_sum zero n s = ap (λ k. hide k s) (zero_sum n)
hide_sum (suc m) n s = ap (λ t. None ∷ t) (hide_sum m n s) ∙ ap (λ k. hide k s) (suc_sum m n)

mutual
  pub stays : (n : ℕ) (s : Slots) (e : Exp) → Scoped n e → put (hide n s) e ≡ e
  stays n s (Val v) h = refl
  stays n s (Name x) h = hidden n s x x h
  stays n s (Do a es) h = ap (Do a) (all_stay n s es h)
  stays n s (If c a b) h = cc (stays n s c h.0, stays n s a h.1, stays n s b h.2)
  stays n s (Switch e cases) h = ap₂ Switch (stays n s e h.0) (cases_stay n s cases h.1)
  stays n s (Group fns b) h = ap₂ Group
      (ap (λ t. put_functions t fns) (hide_sum (count fns) n s) ∙ functions_stay (count fns + n) s fns h.0)
      (ap (λ t. put t b) (hide_sum (count fns) n s) ∙ stays (count fns + n) s b h.1)
  stays n s (Frame nodes e) h = ap (Frame nodes) (stays n s e h)
  stays n s (Label e) h = ap Label (stays n s e h)
  stays n s (While c b) h = ap₂ While (stays n s c h.0) (stays n s b h.1)
  stays n s (Repeat b c) h = ap₂ Repeat (stays n s b h.0) (stays n s c h.1)
  stays n s (For p e b) h = ap₂ (For p) (stays n s e h.0) (ap (λ t. put t b) (hide_sum (names p) n s) ∙ stays (names p + n) s b h.1)
  stays n s (Try e p b) h = ap₂ (λ x y. Try x p y) (stays n s e h.0) (ap (λ t. put t b) (hide_sum (names p) n s) ∙ stays (names p + n) s b h.1)
  stays n s (Update o e f) h = ap₂ (Update o) (stays n s e h.0) (stays n s f h.1)

  all_stay : (n : ℕ) (s : Slots) (es : Exps) → ScopedAll n es → put_all (hide n s) es ≡ es
  all_stay n s NoExp h = refl
  all_stay n s (AnExp e es) h = ap₂ AnExp (stays n s e h.0) (all_stay n s es h.1)

  cases_stay : (n : ℕ) (s : Slots) (cases : Cases) → ScopedCases n cases → put_cases (hide n s) cases ≡ cases
  cases_stay n s NoCase h = refl
  cases_stay n s (ACase p e cases) h = ap₂ (ACase p) (ap (λ t. put t e) (hide_sum (names p) n s) ∙ stays (names p + n) s e h.0) (cases_stay n s cases h.1)

  functions_stay : (n : ℕ) (s : Slots) (fns : Functions) → ScopedFunctions n fns → put_functions (hide n s) fns ≡ fns
  functions_stay n s NoFunction h = refl
  functions_stay n s (AFunction how nodes ps body fns) h =
      ap₂ (AFunction how nodes ps) (ap (λ t. put t body) (hide_sum (names_all ps) n s) ∙ stays (names_all ps + n) s body h.0) (functions_stay n s fns h.1)
