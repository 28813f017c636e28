-- The names of types that a declaration brings into scope.
use Rattle.std.proofs.Common.{◌≡◌, ℕ, List, ◌∷◌, Result, Ok, Err, length, map, ap, sym, ◌∙◌}
use Rattle.std.specs.Prelude.{OnOk}
use Rattle.std.proofs.lemmas.List.{length-map}
use Rattle.typing_rules.specs.AbstractSyntax as p
use Rattle.typing_rules.specs.DeclaredTypes.{with_declared, with_list}
use Rattle.typing_rules.specs.TypeScopes.{TypeScope, with_definition}
use Rattle.abstract_types.specs.declared.names.PlacedName.{PlacedName}
use Rattle.abstract_types.specs.declared.patterns.Signature.{Signature}
use Rattle.abstract_types.specs.declared.types.TypeNode.{TypeNode}
use Rattle.abstract_types.specs.TypeView.{named, parameter}
use Rattle.abstract_tree.specs.declared.declarations.Declaration.{Declaration}
use Rattle.abstract_tree.specs.declared.declarations.DeclarationForm.{DeclarationForm}
use Rattle.abstract_tree.specs.declared.declarations.DeclarationForm.TheVariants as d
use Rattle.abstract_tree.specs.TreeView.{DeclarationView, declarations, plain_declaration, plain_declaration_form}
use Rattle.abstract_tree.proofs.TreeViews.{declaration_is, seen_Class, seen_TypeAlias}

pub on_ok : {A E : Type 0} (r : Result A E) (P Q : Type 0) → OnOk r P → (P → Q) → OnOk r Q
on_ok (Ok a) P Q h k = k h
on_ok (Err e) P Q h k = tt

pub alias_named : (s : TypeScope) (f : DeclarationForm ℕ) (x : PlacedName) (ps : List PlacedName) (t : TypeNode) (own : ℕ) → f ≡ d.TypeAlias x ps t → own ≡ length ps
    → with_definition s (named x) own ≡ with_declared s (plain_declaration_form f)
alias_named s f x ps t own e n =
    ap (with_definition s (named x)) (n ∙ sym (length-map ps named)) ∙ sym (ap (with_declared s) (ap plain_declaration_form e ∙ seen_TypeAlias x ps t))

pub class_named : (s : TypeScope) (f : DeclarationForm ℕ) (x : PlacedName) (g : Signature ℕ) (ds : List (Declaration ℕ)) (own : ℕ) → f ≡ d.Class x g ds → own ≡ length g.generics
    → with_definition s (named x) own ≡ with_declared s (plain_declaration_form f)
class_named s f x g ds own e n =
    ap (with_definition s (named x)) (n ∙ sym (length-map g.generics parameter)) ∙ sym (ap (with_declared s) (ap plain_declaration_form e ∙ seen_Class x g ds))

pub none_named : (s : TypeScope) (f : DeclarationForm ℕ) (w : p.Declaration ℕ) → plain_declaration_form f ≡ w → with_declared s w ≡ s → s ≡ with_declared s (plain_declaration_form f)
none_named s f w e h = sym (ap (with_declared s) e ∙ h)

pub list_step : (s : TypeScope) (x : Declaration ℕ) (xs : List (Declaration ℕ))
    → with_list s (declarations (plain_declaration x ∷ map plain_declaration xs)) ≡ with_list (with_declared s (plain_declaration_form x.form)) (declarations (map plain_declaration xs))
list_step s x xs = ap (λ (f : DeclarationView ℕ). with_list s (f (declarations (map plain_declaration xs)))) (declaration_is x)
