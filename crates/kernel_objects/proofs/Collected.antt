-- The names of the fields of an object, collected from left to right.
use Rattle.std.proofs.Common.{◌≡◌, ◌∙◌, ℕ, ◌+◌, ◌<◌, ◌≤◌, Bool, true, false, cond, List, [], ◌∷◌, ◌++◌, length, get_or, drop, map, refl, sym, ap, append_assoc, append-nil}
use Rattle.std.specs.Prelude.{Result, Ok, Err, OnOk}
use Rattle.std.proofs.lemmas.List.{drop_more, at_drop_all}
use Rattle.typing_rules.specs.AbstractSyntax.{Bytes}
use Rattle.typing_rules.specs.AbstractSyntax as p
use Rattle.typing_rules.specs.TypedTrees as trees
use Rattle.abstract_tree.specs.declared.declarations.Declaration.{Declaration}
use Rattle.abstract_tree.specs.declared.declarations.DeclarationForm.{DeclarationForm}
use Rattle.abstract_tree.specs.TreeView.{DeclarationView, declaration, declaration_form, declarations}
use Rattle.value_scopes.specs.declared.note.Note.{Note}
use Rattle.judged_parts.specs.Parts.{See}
use Rattle.judged_parts.proofs.TreeViews.{declaration_is}
use Rattle.desugaring.specs.Expressions.{public_names}
use Rattle.desugaring.specs.FreeNames.{field_names}
use Rattle.kernel_objects.specs.Objects.{own_names}

on_ok : {A E : Type 0} (r : Result A E) (P Q : Type 0) → OnOk r P → (P → Q) → OnOk r Q
on_ok (Ok a) P Q h k = k h
on_ok (Err e) P Q h k = tt

pub none_more : (whole a : List Bytes) → whole ≡ [] → a ≡ a ++ whole
none_more whole a e = sym (ap (λ (z : List Bytes). a ++ z) e ∙ append-nil a)

pub same_more : {A E : Type 0} (r : Result A E) (whole n a c : List Bytes) → OnOk r (c ≡ a ++ n) → whole ≡ n → OnOk r (c ≡ a ++ whole)
same_more r whole n a c h e = on_ok r (c ≡ a ++ n) (c ≡ a ++ whole) h (λ k. k ∙ ap (λ (z : List Bytes). a ++ z) (sym e))

module _ (see : See) where
  pub of_fields : (f : DeclarationForm Note) (g : p.Declaration trees.Note) → declaration_form see f ≡ g → field_names (declaration_form see f) ≡ field_names g
  of_fields f g e = ap field_names e

  pub own_public : (x : Declaration Note) (f : DeclarationForm Note) → f ≡ x.form → x.public ≡ true → own_names see x ≡ field_names (declaration_form see f)
  own_public x f h e = ap (λ (b : Bool). cond b (field_names (declaration_form see x.form)) []) e ∙ ap (λ (g : DeclarationForm Note). field_names (declaration_form see g)) (sym h)

  pub own_hidden : (x : Declaration Note) → x.public ≡ false → own_names see x ≡ []
  own_hidden x e = ap (λ (b : Bool). cond b (field_names (declaration_form see x.form)) []) e

  abbrev pub collect : List (Declaration Note) → List Bytes
  collect xs = public_names (declarations (map (declaration see) xs))

  then_is : (b : Bool) (n : trees.Note) (d : p.Declaration trees.Note) (rest : p.Declarations trees.Note) → public_names (p.Then b n d rest) ≡ cond b (field_names d) [] ++ public_names rest
  then_is true n d rest = refl
  then_is false n d rest = refl

  one_is : (x : Declaration Note) (rest : List (Declaration Note)) → collect (x ∷ rest) ≡ own_names see x ++ collect rest
  one_is x rest =
      ap {B = List Bytes} (λ (f : DeclarationView trees.Note). public_names (f (declarations (map (declaration see) rest)))) (declaration_is see x)
      ∙ then_is x.public (see x.note) (declaration_form see x.form) (declarations (map (declaration see) rest))

  pub record Left (xs rest : List (Declaration Note)) (c : List Bytes) : Type 0 where
    pub is : c ++ collect rest ≡ collect xs

  pub all_left : (xs : List (Declaration Note)) (c : List Bytes) → c ≡ [] → Left xs xs c
  all_left xs c e = record { is = ap (λ (z : List Bytes). z ++ collect xs) e }

  pub one_less : (xs : List (Declaration Note)) (i : ℕ) (x : Declaration Note) (b c : List Bytes) → i < length xs → x ≡ get_or xs i x → c ≡ b ++ own_names see x → Left xs (drop i xs) b → Left xs (drop (i + 1) xs) c
  one_less xs i x b c h e k l =
      let d : drop i xs ≡ x ∷ drop (i + 1) xs = drop_more xs i x h ∙ ap (λ z. z ∷ drop (i + 1) xs) (sym e) in
      record {
        is = ap (λ z. z ++ collect (drop (i + 1) xs)) k ∙ append_assoc b (own_names see x) (collect (drop (i + 1) xs)) ∙ ap (λ z. b ++ z) (sym (one_is x (drop (i + 1) xs))) ∙ ap (λ ys. b ++ collect ys) (sym d) ∙ l.is;
      }

  pub none_left : (xs : List (Declaration Note)) (i : ℕ) (c : List Bytes) → length xs ≤ i → Left xs (drop i xs) c → c ≡ collect xs
  none_left xs i c h l =
      let q : collect (drop i xs) ≡ collect [] = at_drop_all collect xs i h in
      sym (append-nil c) ∙ ap (λ w. c ++ w) (sym q) ∙ l.is
