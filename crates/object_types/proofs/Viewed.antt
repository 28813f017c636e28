-- The fields of patterns and declarations, by their forms.
use Rattle.std.proofs.Common.{◌≡◌, ℕ, Bool, true, false, List, [], ◌∷◌, ◌++◌, Option, Some, None, ap, map, refl, subst, sym, ◌∙◌}
use Rattle.std.specs.Prelude.{Result, OnOk}
use Rattle.mo_num.specs.declared.memory.Memory.{Memory}
use Rattle.mo_types.specs.declared.node.Field.{Field}
use Rattle.type_terms.specs.declared.form.TermId.{TermId}
use Rattle.typing_rules.specs.AbstractSyntax.{Bytes}
use Rattle.typing_rules.specs.AbstractSyntax as p
use Rattle.typing_rules.specs.DeclaredTypes.{declared_fields, fields_fields, member_fields, pattern_fields, patterns_fields}
use Rattle.typing_rules.specs.Programs.{method_fields}
use Rattle.typing_rules.specs.Signatures.{async_term}
use Rattle.typing_rules.specs.Terms.{Term, Fields}
use Rattle.typing_rules.specs.Terms as t
use Rattle.typing_rules.specs.TypeScopes.{TypeScope, term, term_or}
use Rattle.met_types.specs.States.{State}
use Rattle.abstract_types.specs.declared.patterns.Pattern.{Pattern}
use Rattle.abstract_types.specs.declared.patterns.PatternForm.{PatternForm}
use Rattle.abstract_types.specs.declared.patterns.PatternField.{PatternField, fold_out-PatternField}
use Rattle.abstract_types.specs.TypeView.{named}
use Rattle.abstract_types.specs.PatternView.{FieldView, fields, field_step, form_step, listed, pattern, pattern_field, pattern_form, pattern_step, plain, plain_field, plain_form}
use Rattle.abstract_types.proofs.PatternViews.{fields_are, listed_is, seen_Object, seen_Tuple}
use Rattle.abstract_types.specs.declared.patterns.PatternForm.TheVariants as e
use Rattle.abstract_tree.specs.declared.declarations.Declaration.{Declaration}
use Rattle.abstract_tree.specs.declared.declarations.DeclarationForm.{DeclarationForm}
use Rattle.abstract_tree.specs.TreeView.{DeclarationView, declarations, plain_declaration, plain_declaration_form}
use Rattle.abstract_tree.proofs.TreeViews.{declaration_is}
use Rattle.written_types.specs.Written.{Wrote, awaited}
use Rattle.declared_types.proofs.Signed.{by_form}
use Rattle.object_types.specs.Adding.{Adds, name_of}
use Rattle.object_types.specs.Joining.{before_if, member_before, method_before, together}
use Rattle.object_types.proofs.Adding.{adds_as, adds_one, on_ok}

-- ---- patterns

pub named_there : (s : TypeScope) (n : ℕ) (q : p.Pattern ℕ) (a : p.TypeNode) (x : Bytes) (rest : Fields) → Some x ≡ name_of q → pattern_fields s (p.pattern n (p.Annotated q a)) rest ≡ t.constant x (term s a) rest
named_there s n (p.pattern m (p.Variable y)) a x rest h = let g : y ≡ x = cc in ap (λ (z : Bytes). t.constant z (term s a) rest) g
named_there s n (p.pattern m (p.Annotated q b)) a x rest h = cc
named_there s n (p.pattern m (p.Alternative q r)) a x rest h = cc
named_there s n (p.pattern m (p.Optional q)) a x rest h = cc
named_there s n (p.pattern m (p.Tag y)) a x rest h = cc
named_there s n (p.pattern m (p.Tagged y q)) a x rest h = cc
named_there s n (p.pattern m p.Wildcard) a x rest h = cc
named_there s n (p.pattern m (p.Constant minus l)) a x rest h = cc
named_there s n (p.pattern m (p.Tuple items)) a x rest h = cc
named_there s n (p.pattern m (p.Object xs)) a x rest h = cc

pub no_name_there : (s : TypeScope) (n : ℕ) (q : p.Pattern ℕ) (a : p.TypeNode) (rest : Fields) → None ≡ name_of q → pattern_fields s (p.pattern n (p.Annotated q a)) rest ≡ pattern_fields s q rest
no_name_there s n (p.pattern m (p.Variable y)) a rest h = cc
no_name_there s n (p.pattern m (p.Annotated q b)) a rest h = refl
no_name_there s n (p.pattern m (p.Alternative q r)) a rest h = refl
no_name_there s n (p.pattern m (p.Optional q)) a rest h = refl
no_name_there s n (p.pattern m (p.Tag y)) a rest h = refl
no_name_there s n (p.pattern m (p.Tagged y q)) a rest h = refl
no_name_there s n (p.pattern m p.Wildcard) a rest h = refl
no_name_there s n (p.pattern m (p.Constant minus l)) a rest h = refl
no_name_there s n (p.pattern m (p.Tuple items)) a rest h = refl
no_name_there s n (p.pattern m (p.Object xs)) a rest h = refl

pub tuple_seen : (items : List (Pattern ℕ)) → plain_form (e.Tuple items) ≡ p.Tuple (listed (map plain items))
tuple_seen items = seen_Tuple items ∙ ap (λ (qs : p.Patterns ℕ). p.Tuple qs) (sym (listed_is (map plain items)))

pub object_seen : (xs : List (PatternField ℕ)) → plain_form (e.Object xs) ≡ p.Object (fields (map plain_field xs))
object_seen xs = seen_Object xs ∙ ap (λ (fs : p.PatternFields ℕ). p.Object fs) (sym (fields_are (map plain_field xs)))

pub patterns_are : (s : TypeScope) (qs : List (Pattern ℕ)) (rest : Fields) → patterns_fields s (listed (map plain qs)) rest ≡ together (map (λ q. pattern_fields s (plain q)) qs) rest
patterns_are s [] rest = refl
patterns_are s (q ∷ qs) rest = ap (λ (z : Fields). pattern_fields s (plain q) z) (patterns_are s qs rest)

-- how notes are seen
abbrev same : ℕ → ℕ
same n = n

field_is : (x : PatternField ℕ) → plain_field x ≡ (λ rest. p.Field (named x.name) (plain x.pattern) rest)
unfolding pattern pattern_form pattern_field
field_is x = fold_out-PatternField ℕ (p.PatternForm ℕ) (p.Pattern ℕ) (FieldView ℕ) (form_step same) (pattern_step same) (field_step same) x

pub of_fields : (s : TypeScope) (xs : List (PatternField ℕ)) (rest : Fields) → fields_fields s (fields (map plain_field xs)) rest ≡ together (map (λ x. pattern_fields s (plain x.pattern)) xs) rest
of_fields s [] rest = refl
of_fields s (x ∷ xs) rest =
    ap (λ (f : FieldView ℕ). fields_fields s (f (fields (map plain_field xs))) rest) (field_is x) ∙ ap (λ (z : Fields). pattern_fields s (plain x.pattern) z) (of_fields s xs rest)

-- the pattern of this form has these fields
module _ (s : TypeScope) (q : Pattern ℕ) (f : PatternForm ℕ) (g : p.PatternForm ℕ) (old new : State) (xs ys : List (Field TermId)) (h : q.form ≡ f) (k : plain_form f ≡ g) where
  form_is : (rest : Fields) → pattern_fields s (plain q) rest ≡ pattern_fields s (p.pattern q.note g) rest
  form_is rest = by_form q (λ (z : p.Pattern ℕ). pattern_fields s z rest) f g h k

  pub pattern_adds : (r : Result (Unit {0}) Memory) (before : Fields → Fields) → ((rest : Fields) → pattern_fields s (p.pattern q.note g) rest ≡ before rest) → OnOk r (Adds old new before xs ys) → OnOk r (Adds old new (pattern_fields s (plain q)) xs ys)
  pattern_adds r before b a = on_ok r (Adds old new before xs ys) (Adds old new (pattern_fields s (plain q)) xs ys) a (λ c. adds_as old new before (pattern_fields s (plain q)) xs ys (λ rest. form_is rest ∙ b rest) c)

-- one field is added to others
pub field_adds : (old new : State) (r : Result (Unit {0}) Memory) (x : Bytes) (mutable : Bool) (u : Term) (id : TermId) (xs ys : List (Field TermId)) → Wrote old new u id → OnOk r (ys ≡ xs ++ record { label = x; mutable = mutable; part = id } ∷ [])
    → OnOk r (Adds old new (λ rest. t.WithField x mutable u rest) xs ys)
field_adds old new r x mutable u id xs ys w h = on_ok r (ys ≡ xs ++ record { label = x; mutable = mutable; part = id } ∷ []) (Adds old new (λ rest. t.WithField x mutable u rest) xs ys) h (λ e. adds_one old new x mutable u id xs ys w e)

-- ---- declarations

module _ (s : TypeScope) where
  then_member : (public : Bool) (n : ℕ) (d : p.Declaration ℕ) (rest : p.Declarations ℕ) → member_fields s (p.Then public n d rest) ≡ before_if public (declared_fields s d) (member_fields s rest)
  then_member true n d rest = refl
  then_member false n d rest = refl

  pub members_are : (ds : List (Declaration ℕ)) → together (map (member_before s) ds) t.NoFields ≡ member_fields s (declarations (map plain_declaration ds))
  members_are [] = refl
  members_are (d ∷ ds) =
      ap (member_before s d) (members_are ds)
      ∙ sym (ap (λ (f : DeclarationView ℕ). member_fields s (f (declarations (map plain_declaration ds)))) (declaration_is d)
      ∙ then_member d.public d.note (plain_declaration_form d.form) (declarations (map plain_declaration ds)))

  pub methods_are : (ds : List (Declaration ℕ)) → together (map (method_before s) ds) t.NoFields ≡ method_fields s (declarations (map plain_declaration ds))
  methods_are [] = refl
  methods_are (d ∷ ds) =
      ap (method_before s d) (methods_are ds) ∙ sym (ap (λ (f : DeclarationView ℕ). method_fields s (f (declarations (map plain_declaration ds)))) (declaration_is d))

pub async_as : (s : TypeScope) (n : p.TypeNode) → term_or s (awaited n) t.unit ≡ async_term s (Some n)
async_as s (p.node at (p.Async a)) = refl
async_as s (p.node at (p.Function sharing parameters r)) = refl
async_as s (p.node at (p.Optional a)) = refl
async_as s (p.node at (p.Use x arguments)) = refl
async_as s (p.node at (p.Tuple items)) = refl
async_as s (p.node at (p.Array mutable a)) = refl
async_as s (p.node at (p.Object xs)) = refl
async_as s (p.node at (p.Variant tags)) = refl
async_as s (p.node at (p.Actor methods)) = refl

pub promise_as : (s : TypeScope) (n : p.TypeNode) (o : Option p.TypeNode) → o ≡ awaited n → term_or s o t.unit ≡ async_term s (Some n)
promise_as s n o e = ap (λ x. term_or s x t.unit) e ∙ async_as s n

pub form_seen : (f g : DeclarationForm ℕ) (d : p.Declaration ℕ) → f ≡ g → plain_declaration_form g ≡ d → plain_declaration_form f ≡ d
form_seen f g d h k = ap plain_declaration_form h ∙ k

-- a declaration of this form
module _ (f : DeclarationForm ℕ) (d : p.Declaration ℕ) (old new : State) (xs ys : List (Field TermId)) (h : plain_declaration_form f ≡ d) where
  pub declared_adds : (r : Result (Unit {0}) Memory) (of : p.Declaration ℕ → Fields → Fields) → OnOk r (Adds old new (of d) xs ys) → OnOk r (Adds old new (of (plain_declaration_form f)) xs ys)
  declared_adds r of a = on_ok r (Adds old new (of d) xs ys) (Adds old new (of (plain_declaration_form f)) xs ys) a (λ c. subst (λ (z : p.Declaration ℕ). Adds old new (of z) xs ys) (sym h) c)
