-- Lists of declarations, one declaration after the other.
use Rattle.std.proofs.Common.{◌≡◌, ◌∙◌, ℕ, zero, suc, ◌+◌, ◌<◌, ◌≤◌, List, [], ◌∷◌, ◌++◌, length, drop, get_or, map, refl, sym, ap, arith, append_assoc, drop-cons}
use Rattle.std.proofs.lemmas.List.{append-nil}
use Rattle.typing_rules.specs.AbstractSyntax.{Declarations}
use Rattle.typing_rules.specs.AbstractSyntax as p
use Rattle.typing_rules.specs.TypedTrees.{Note}
use Rattle.abstract_tree.specs.declared.declarations.Declaration.{Declaration}
use Rattle.abstract_tree.specs.TreeView.{DeclarationView, declaration_form}
use Rattle.value_scopes.specs.declared.note.Note as value_note
use Rattle.judged_parts.specs.Parts.{See}
use Rattle.judged_parts.proofs.TreeViews.{declaration_is}
use Rattle.kernel_roles.specs.Roles.{list_seen}

pub drop_all : {A : Type 0} (xs : List A) (n : ℕ) → length xs ≤ n → drop n xs ≡ []
drop_all [] zero l = refl
drop_all [] (suc n) l = refl
drop_all (x ∷ xs) zero l = absurd (omega (arith, l))
drop_all (x ∷ xs) (suc n) l = drop_all xs n (omega (arith, l))

pub drop_none : {A : Type 0} (xs : List A) → drop 0 xs ≡ xs
drop_none [] = refl
drop_none (x ∷ xs) = refl

pub next : {A : Type 0} (xs : List A) (i : ℕ) (x : A) → i < length xs → x ≡ get_or xs i x → drop i xs ≡ x ∷ drop (i + 1) xs
next {A} xs i x l e =
    let n : suc i ≡ i + 1 = omega arith in
    drop-cons xs i x l ∙ (ap (λ (z : A). z ∷ drop (suc i) xs) (sym e) ∙ ap (λ (m : ℕ). x ∷ drop m xs) n)

module _ (see : See) where
  -- the first of a list, as it is seen
  pub first_seen : {A : Type 0} (f : Declarations Note → A) (d : Declaration value_note.Note) (ds : List (Declaration value_note.Note))
      → f (list_seen see (d ∷ ds)) ≡ f (p.Then d.public (see d.note) (declaration_form see d.form) (list_seen see ds))
  first_seen f d ds = ap (λ (g : DeclarationView Note). f (g (list_seen see ds))) (declaration_is see d)

  -- A list is made by a walk over the declarations, where each adds its part at the end.
  module _ {A : Type 0} (f : Declarations Note → List A) (part : Declaration value_note.Note → List A) (cons : (d : Declaration value_note.Note) (ds : List (Declaration value_note.Note)) → f (list_seen see (d ∷ ds)) ≡ part d ++ f (list_seen see ds)) where
    pub added : (ds : List (Declaration value_note.Note)) (i : ℕ) (d : Declaration value_note.Note) (made new old : List A) → i < length ds → d ≡ get_or ds i d → made ++ f (list_seen see (drop i ds)) ≡ old → new ≡ made ++ part d
        → new ++ f (list_seen see (drop (i + 1) ds)) ≡ old
    added ds i d made new old l e h g =
        ap (λ (z : List A). z ++ f (list_seen see (drop (i + 1) ds))) g
        ∙ (append_assoc made (part d) (f (list_seen see (drop (i + 1) ds)))
        ∙ (ap (λ (z : List A). made ++ z) (sym (cons d (drop (i + 1) ds)))
        ∙ (ap (λ (z : List (Declaration value_note.Note)). made ++ f (list_seen see z)) (sym (next ds i d l e)) ∙ h)))

  pub all_added : {A : Type 0} (f : Declarations Note → List A) (ds : List (Declaration value_note.Note)) (i : ℕ) (made old : List A) → f p.End ≡ [] → length ds ≤ i → made ++ f (list_seen see (drop i ds)) ≡ old → made ≡ old
  all_added {A} f ds i made old none l h =
      sym (append-nil made) ∙ (ap (λ (z : List A). made ++ z) (sym none) ∙ (ap (λ (z : List (Declaration value_note.Note)). made ++ f (list_seen see z)) (sym (drop_all ds i l)) ∙ h))

  pub begun : {A : Type 0} (f : Declarations Note → List A) (ds : List (Declaration value_note.Note)) (made : List A) → made ≡ [] → made ++ f (list_seen see (drop 0 ds)) ≡ f (list_seen see ds)
  begun {A} f ds made e = ap (λ (z : List A). z ++ f (list_seen see (drop 0 ds))) e ∙ ap (λ (z : List (Declaration value_note.Note)). f (list_seen see z)) (drop_none ds)
