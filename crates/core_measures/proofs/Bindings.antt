-- What bindings name: what stands behind them is named between what is named where functions are made and what is named in values.
use Rattle.std.proofs.Common.{◌≡◌, ◌≤◌, ◌<◌, ℕ, zero, suc, ◌+◌, refl, sym, ap, ◌∙◌, List, [], ◌∷◌, ◌++◌, length, map, get_or, arith}
use Rattle.std.proofs.lemmas.List.{append_assoc, append-nil}
use Rattle.std.proofs.lemmas.Option.{slice_get_read}
use Rattle.core_ir.proofs.Scoping.{nth_got}
use Rattle.core_ir.specs.Choices.{nth}
use Rattle.core_ir.specs.declared.expression.Expression.{Expression}
use Rattle.core_ir.specs.declared.expression.Binding.{Binding, roll-Binding, out-Binding, out-roll-Binding, roll-out-Binding, fold-roll-Binding}
use Rattle.core_ir.specs.declared.expression.Binding.TheVariants as B
use Rattle.core_ir.specs.declared.expression.Binding.TheOpen as E
use Rattle.core_ir.specs.Expressions as tree
use Rattle.core_ir.specs.Expressions.{Exp}
use Rattle.core_ir.specs.Outward.{beyond, all_beyond, outward}
use Rattle.core_ir.specs.View.{BindingView, binding_step, expression_step, goal_step, expression, binding, block}
use Rattle.core_measures.specs.Naming.{OneBinding, near_behind, end_of, made_by, made_in, given_by, given_in}

-- ---- places

pub not_beyond : (n x : ℕ) → x < n → beyond n x ≡ []
not_beyond zero x h = absurd (omega (arith, h))
not_beyond (suc n) zero h = refl
not_beyond (suc n) (suc x) h = not_beyond n x (omega (arith, h))

pub is_beyond : (n x y : ℕ) → y + n ≡ x → beyond n x ≡ y ∷ []
is_beyond zero x y h = let same : x ≡ y = omega (arith, h) in ap (λ z. z ∷ []) same
is_beyond (suc n) zero y h = absurd (omega (arith, h))
is_beyond (suc n) (suc x) y h = is_beyond n x y (omega (arith, h))

pub names_at : (needs : List (List ℕ)) (n : ℕ) (x : List ℕ) → n < length needs → x ≡ get_or needs n x → x ≡ nth [] needs n
names_at needs n x l read = sym (nth_got [] needs n x (slice_get_read needs (length needs) n x refl l read))

pub no_names_at : (needs : List (List ℕ)) (n : ℕ) → length needs ≤ n → nth [] needs n ≡ []
no_names_at [] n l = refl
no_names_at (x ∷ needs) zero l = absurd (omega (arith, l))
no_names_at (x ∷ needs) (suc n) l = no_names_at needs n (omega (arith, l))

-- ---- bindings

pub value_out : (e : Expression) → out-Binding (B.Value e) ≡ E.Value e
value_out e = ap out-Binding (sym (B.rolls-Value e)) ∙ out-roll-Binding (E.Value e)

pub functions_out : (k : ℕ) → out-Binding (B.Functions k) ≡ E.Functions k
functions_out k = ap out-Binding (sym (B.rolls-Functions k)) ∙ out-roll-Binding (E.Functions k)

-- one more behind others
pub pushed : (a b c : List ℕ) → (a ++ b) ++ c ≡ a ++ (b ++ c)
pushed a b c = append_assoc a b c

module _ (sizes : ℕ → ℕ) where
  further : (n : ℕ) (x : OneBinding) (m : ℕ) → near_behind sizes n x ≡ near_behind sizes m x → n ≡ m
  further n (E.Value e) m h = omega (arith, h)
  further n (E.Functions k) m h = omega (arith, h)

  -- bindings that end alike begin alike
  pub begins_alike : (bs : List Binding) (n m : ℕ) → end_of sizes n bs ≡ end_of sizes m bs → n ≡ m
  begins_alike [] n m h = h
  begins_alike (b ∷ bs) n m h = further n (out-Binding b) m (begins_alike bs (near_behind sizes n (out-Binding b)) (near_behind sizes m (out-Binding b)) h)

  module _ (needs : List (List ℕ)) where
    abbrev Names : ℕ → Exp → List ℕ
    Names n e = outward sizes needs n e

    rolled : (x : OneBinding) (n : ℕ) (rest : Exp) → Names n (binding (roll-Binding x) rest) ≡ made_by sizes needs n x ++ (Names (near_behind sizes n x) rest ++ given_by sizes needs n x)
    unfolding expression binding
    rolled (E.Value e) n rest =
        ap (λ (f : BindingView). Names n (f rest)) (fold-roll-Binding BindingView Exp tree.Goal binding_step expression_step goal_step (E.Value e)) ∙ ap (λ xs. Names (suc n) rest ++ xs) (append-nil (Names n (expression e)))
    rolled (E.Functions k) n rest =
        ap (λ (f : BindingView). Names n (f rest)) (fold-roll-Binding BindingView Exp tree.Goal binding_step expression_step goal_step (E.Functions k))
        ∙ ap (λ xs. all_beyond n (nth [] needs k) ++ xs) (sym (append-nil (Names (sizes k + n) rest)))

    one_names : (b : Binding) (n : ℕ) (rest : Exp) → Names n (binding b rest) ≡ made_by sizes needs n (out-Binding b) ++ (Names (near_behind sizes n (out-Binding b)) rest ++ given_by sizes needs n (out-Binding b))
    one_names b n rest = ap (λ x. Names n (binding x rest)) (sym (roll-out-Binding b)) ∙ rolled (out-Binding b) n rest

    pub block_names : (bs : List Binding) (n : ℕ) (e : Exp) → Names n (block (map binding bs) e) ≡ made_in sizes needs n bs ++ (Names (end_of sizes n bs) e ++ given_in sizes needs n bs)
    block_names [] n e = sym (append-nil (Names n e))
    block_names (b ∷ bs) n e =
        let m = near_behind sizes n (out-Binding b) in
        let first = made_by sizes needs n (out-Binding b) in
        let last = given_by sizes needs n (out-Binding b) in
        let before = made_in sizes needs m bs in
        let inner = Names (end_of sizes m bs) e in
        let behind = given_in sizes needs m bs in
        one_names b n (block (map binding bs) e) ∙ ap (λ xs. first ++ (xs ++ last)) (block_names bs m e)
        ∙ ap (λ xs. first ++ xs) (append_assoc before (inner ++ behind) last ∙ ap (λ xs. before ++ xs) (append_assoc inner behind last)) ∙ sym (append_assoc first before (inner ++ (behind ++ last)))

    pub block_named : (bs cs : List Binding) → cs ≡ bs → (near end : ℕ) → end ≡ end_of sizes near cs → (e : Exp) (old made inner last : List ℕ) → made ≡ old ++ made_in sizes needs near cs → inner ≡ made ++ Names end e
        → last ≡ inner ++ given_in sizes needs near cs → last ≡ old ++ Names near (block (map binding bs) e)
    block_named bs cs same near end is e old made inner last h i j =
        let first = made_in sizes needs near cs in
        let middle = Names (end_of sizes near cs) e in
        let behind = given_in sizes needs near cs in
        j ∙ ap (λ xs. xs ++ behind) (i ∙ ap (λ n. made ++ Names n e) is ∙ ap (λ xs. xs ++ middle) h)
        ∙ ap (λ xs. xs ++ behind) (append_assoc old first middle) ∙ append_assoc old (first ++ middle) behind ∙ ap (λ xs. old ++ xs) (append_assoc first middle behind)
        ∙ ap (λ xs. old ++ xs) (sym (block_names cs near e)) ∙ ap (λ (xs : List Binding). old ++ Names near (block (map binding xs) e)) same

    pub one_behind : (old a new b : List ℕ) → new ≡ old ++ a → (last : List ℕ) → last ≡ new ++ b → last ≡ old ++ (a ++ b)
    one_behind old a new b h last i = i ∙ ap (λ xs. xs ++ b) h ∙ append_assoc old a b
