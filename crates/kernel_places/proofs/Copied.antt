-- How declarations are copied.
use Rattle.std.proofs.Common.{◌≡◌, ℕ, suc, ◌+◌, ◌<◌, List, [], ◌∷◌, ◌++◌, Result, Ok, Err, IfOk, length, get_or, take, sym, ap, ◌∙◌, subst, arith}
use Rattle.std.proofs.Math.Seq.{take-suc}
use Rattle.std.proofs.lemmas.List.{map-append}
use Rattle.abstract_tree.specs.declared.declarations.Declaration as value
use Rattle.abstract_tree.specs.TreeView.{declaration_form}
use Rattle.value_scopes.specs.declared.note.Note.{Note}
use Rattle.typing_rules.specs.AbstractSyntax.{Bytes}
use Rattle.typed_tree.specs.Placing.{Declared}
use Rattle.desugaring.specs.FreeNames.{declared}
use Rattle.judged_parts.specs.Parts.{See}
use Rattle.kernel_places.specs.Similar.{Alike, AllAlike, declared_list}
use Rattle.kernel_places.proofs.Placed.{alike_more}

pub same_ok : {A E : Type 0} (r : Result A E) (n whole : A) → IfOk r (λ m. m ≡ n) → whole ≡ n → IfOk r (λ m. m ≡ whole)
same_ok (Ok a) n whole h e = h ∙ sym e
same_ok (Err x) n whole h e = tt

pub named : (new old n whole : List Bytes) → new ≡ old ++ n → old ≡ [] → whole ≡ n → new ≡ whole
named new old n whole h e k = h ∙ ap (λ z. z ++ n) e ∙ sym k

pub ok_with : {A E : Type 0} (r : Result A E) (P Q : Type 0) (R : A → Type 0) → IfOk r (λ m. P → Q → R m) → P → Q → IfOk r R
ok_with (Ok a) P Q R h p q = h p q
ok_with (Err x) P Q R h p q = tt

-- one more declaration
pub alike_next : (see : See) (xs new : List Declared) (list : List (value.Declaration Note)) (i : ℕ) (x : value.Declaration Note) (a : Declared) → i < length list → x ≡ get_or list i x → new ≡ xs ++ a ∷ []
    → AllAlike xs (declared_list see (take i list)) → Alike a (declared (declaration_form see x.form)) → AllAlike new (declared_list see (take (i + 1) list))
alike_next see xs new list i x a lt e n h k =
    let z : i + 1 ≡ suc i = omega arith in
    let t : take (i + 1) list ≡ take i list ++ x ∷ [] = ap (λ (j : ℕ). take j list) z ∙ take-suc list i x lt ∙ ap (λ w. take i list ++ w ∷ []) (sym e) in
    let d : declared_list see (take (i + 1) list) ≡ declared_list see (take i list) ++ declared (declaration_form see x.form) ∷ [] =
    ap (declared_list see) t ∙ map-append (λ (w : value.Declaration Note). declared (declaration_form see w.form)) (take i list) (x ∷ []) in
    subst (λ (w : List Declared). AllAlike w (declared_list see (take (i + 1) list))) (sym n)
    (subst (λ (w : List Declared). AllAlike (xs ++ a ∷ []) w) (sym d) (alike_more xs (declared_list see (take i list)) a (declared (declaration_form see x.form)) h k))
