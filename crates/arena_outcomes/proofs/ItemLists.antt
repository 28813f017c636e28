-- The items of calls, one by one.
use Rattle.std.proofs.Common.{◌≡◌, ℕ, zero, suc, ◌+◌, ◌<◌, List, [], ◌∷◌, ◌++◌, length, get_or, take, sym, ap, ◌∙◌, append_assoc, add-one, arith}
use Rattle.play_script.specs.declared.item.Item.{Item}
use Rattle.play_script.specs.declared.item.Item.TheVariants as item
use Rattle.arena_executions.specs.declared.execution.Outgoing.{Outgoing}
use Rattle.arena_outcomes.specs.Books.{call_items}

abbrev one : ℕ → Outgoing → Item
one number c = item.Call number c.callee c.method c.argument

calls_next : (next : ℕ) (cs : List Outgoing) (i : ℕ) (d : Outgoing) → i < length cs → call_items next (take (suc i) cs) ≡ call_items next (take i cs) ++ one (next + i) (get_or cs i d) ∷ []
calls_next next [] i d h = absurd (omega (arith, h))
calls_next next (c ∷ cs) zero d h = let same : next ≡ next + 0 = omega arith in ap (λ (n : ℕ). one n c ∷ []) same
calls_next next (c ∷ cs) (suc i) d h =
    let same : (next + 1) + i ≡ next + suc i = omega arith in
    ap (λ (l : List Item). one next c ∷ l) (calls_next (next + 1) cs i d (omega (arith, h)) ∙ ap (λ (n : ℕ). call_items (next + 1) (take i cs) ++ one n (get_or cs i d) ∷ []) same)

pub calls_on : (before all more : List Item) (first number : ℕ) (cs : List Outgoing) (i : ℕ) (c : Outgoing) → i < length cs → c ≡ get_or cs i c → number ≡ first + i
    → all ≡ before ++ call_items first (take i cs) → more ≡ all ++ one number c ∷ [] → more ≡ before ++ call_items first (take (i + 1) cs)
calls_on before all more first number cs i c below is at so put =
    put
    ∙ ap (λ (l : List Item). l ++ one number c ∷ []) so
    ∙ append_assoc before (call_items first (take i cs)) (one number c ∷ [])
    ∙ ap (λ (l : List Item). before ++ l)
    (ap (λ (n : ℕ). call_items first (take i cs) ++ one n c ∷ []) at
    ∙ ap (λ (x : Outgoing). call_items first (take i cs) ++ one (first + i) x ∷ []) is
    ∙ sym (calls_next first cs i c below)
    ∙ ap (λ (n : ℕ). call_items first (take n cs)) (sym (add-one i)))
