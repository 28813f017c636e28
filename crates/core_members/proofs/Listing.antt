-- Operands one after another.
use Rattle.std.proofs.Common.{◌≡◌, ◌∙◌, ℕ, zero, suc, ◌+◌, ◌-◌, ◌<◌, ◌≤◌, List, [], ◌∷◌, ◌++◌, length, map, refl, sym, ap, arith}
use Rattle.core_ir.specs.declared.expression.Expression.{Expression}
use Rattle.core_ir.specs.Expressions as core
use Rattle.core_ir.specs.Expressions.{Exp, Exps, NoExp, AnExp}
use Rattle.core_ir.specs.View.{exps, expression}
use Rattle.elaboration.specs.Scopes.{append, name}
use Rattle.elaboration.specs.Members.{amount, bind_all, levels_from, names_of, nearest}

pub append_more : (es : List Expression) (x : Expression) (fs : Exps) → append (exps (map expression (es ++ x ∷ []))) fs ≡ append (exps (map expression es)) (AnExp (expression x) fs)
append_more [] x fs = refl
append_more (e ∷ es) x fs = ap (λ r. AnExp (expression e) r) (append_more es x fs)

pub append_none : (es : Exps) → append es NoExp ≡ es
append_none NoExp = refl
append_none (AnExp e es) = ap (λ r. AnExp e r) (append_none es)

pub append_both : (es fs : List Expression) → exps (map expression (es ++ fs)) ≡ append (exps (map expression es)) (exps (map expression fs))
append_both [] fs = refl
append_both (e ∷ es) fs = ap (λ r. AnExp (expression e) r) (append_both es fs)

pub amount_is : (es : List Expression) → amount (exps (map expression es)) ≡ length es
amount_is [] = refl
amount_is (e ∷ es) = ap suc (amount_is es)

-- ---- levels

pub levels_more : (level n : ℕ) → levels_from level (suc n) ≡ levels_from level n ++ (level + n) ∷ []
levels_more level zero = let e : level ≡ level + 0 = omega arith in ap (λ l. l ∷ []) e
levels_more level (suc n) = let e : suc level + n ≡ level + suc n = omega arith in ap (λ ls. level ∷ ls) (levels_more (suc level) n ∙ ap (λ l. levels_from (suc level) n ++ l ∷ []) e)

-- ---- names

names_more : (names : ℕ) (levels : List ℕ) (level : ℕ) → names_of names (levels ++ level ∷ []) ≡ append (names_of names levels) (AnExp (name names level) NoExp)
names_more names [] level = refl
names_more names (l ∷ levels) level = ap (λ r. AnExp (name names l) r) (names_more names levels level)

pub next_name : (names : ℕ) (levels : List ℕ) (level : ℕ) (x : Expression) (made : List Expression) → expression x ≡ name names level → exps (map expression made) ≡ names_of names levels
    → exps (map expression (made ++ x ∷ [])) ≡ names_of names (levels ++ level ∷ [])
next_name names levels level x made at all =
    append_both made (x ∷ []) ∙ ap (λ r. append r (AnExp (expression x) NoExp)) all ∙ ap (λ e. append (names_of names levels) (AnExp e NoExp)) at ∙ sym (names_more names levels level)

-- ---- bindings

pub bind_more : (es : List Expression) (x : Expression) (e : Exp) → bind_all (exps (map expression (es ++ x ∷ []))) e ≡ bind_all (exps (map expression es)) (core.Do (core.Bind e) (AnExp (expression x) NoExp))
bind_more [] x e = refl
bind_more (a ∷ es) x e = ap (λ y. core.Do (core.Bind y) (AnExp (expression a) NoExp)) (bind_more es x e)

-- ---- parameters

pub next_parameter : (p n : ℕ) (x : Expression) (made : List Expression) → p < n → expression x ≡ core.Name p
    → append (exps (map expression (made ++ x ∷ []))) (nearest (p + 1) (n - (p + 1))) ≡ append (exps (map expression made)) (nearest p (n - p))
next_parameter p n x made below at =
    let e : n - p ≡ suc (n - (p + 1)) = omega (arith, below) in
    let more : suc p ≡ p + 1 = omega arith in
    append_more made x (nearest (p + 1) (n - (p + 1)))
    ∙ ap (λ y. append (exps (map expression made)) (AnExp y (nearest (p + 1) (n - (p + 1))))) at
    ∙ ap (λ q. append (exps (map expression made)) (AnExp (core.Name p) (nearest q (n - (p + 1))))) (sym more)
    ∙ ap (λ m. append (exps (map expression made)) (nearest p m)) (sym e)

pub all_parameters : (p n : ℕ) (made : List Expression) → n ≤ p → exps (map expression made) ≡ append (exps (map expression made)) (nearest p (n - p))
all_parameters p n made past =
    let e : n - p ≡ 0 = omega (arith, past) in
    sym (append_none (exps (map expression made))) ∙ ap (λ m. append (exps (map expression made)) (nearest p m)) (sym e)

pub level_step : (level next : ℕ) → level ≤ next → levels_from level (next - level) ++ next ∷ [] ≡ levels_from level (next + 1 - level)
level_step level next below =
    let at : next ≡ level + (next - level) = omega (arith, below) in
    let e : suc (next - level) ≡ next + 1 - level = omega (arith, below) in
    ap (λ n. levels_from level (next - level) ++ n ∷ []) at ∙ sym (levels_more level (next - level)) ∙ ap (λ n. levels_from level n) e
