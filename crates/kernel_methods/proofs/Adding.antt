-- What one declaration adds, by its role.
use Rattle.std.proofs.Common.{◌≡◌, ◌∙◌, ℕ, ◌+◌, Bool, true, false, List, [], ◌∷◌, ◌++◌, Option, refl, sym, ap, subst, arith}
use Rattle.std.specs.Prelude.{Result, Ok, Err, IfOk, OnOk}
use Rattle.std.proofs.lemmas.List.{append-nil}
use Rattle.mo_types.specs.declared.node.Sort.{Sort}
use Rattle.mo_types.specs.declared.node.TypeId.{TypeId}
use Rattle.typed_tree.specs.declared.expression.Function.{Function, roll-Function}
use Rattle.typed_tree.specs.declared.expression.TypedExpression.{TypedExpression}
use Rattle.typed_tree.specs.declared.pattern.TypedPattern.{TypedPattern}
use Rattle.typed_tree.specs.declared.program.Method as typed
use Rattle.typing_rules.specs.AbstractSyntax.{Bytes, Declarations}
use Rattle.typing_rules.specs.AbstractSyntax as p
use Rattle.typing_rules.specs.Terms.{Term}
use Rattle.typing_rules.specs.TypedTrees as trees
use Rattle.type_terms.specs.declared.form.TermId.{TermId}
use Rattle.type_definitions.specs.Meanings.{term}
use Rattle.abstract_tree.specs.declared.declarations.Declaration.{Declaration}
use Rattle.abstract_tree.specs.declared.expressions.Expression.{Expression}
use Rattle.abstract_tree.specs.TreeView.{declaration_form}
use Rattle.abstract_types.specs.declared.patterns.Pattern.{Pattern}
use Rattle.abstract_types.specs.declared.patterns.Signature.{Signature}
use Rattle.value_scopes.specs.declared.note.Note.{Note}
use Rattle.value_scopes.specs.Values.{noted}
use Rattle.met_types.specs.States.{State}
use Rattle.desugaring.specs.Frames.{Frame}
use Rattle.desugaring.specs.Programs as programs
use Rattle.kernel_types.specs.Numbers.{definitions, number}
use Rattle.kernel_counts.specs.Counting.{Counts}
use Rattle.kernel_patterns.specs.Written.{patterns_of}
use Rattle.kernel_parts.specs.Views.{list_in}
use Rattle.kernel_roles.specs.Roles.{Role, role_in, role_of}
use Rattle.kernel_roles.proofs.Walking.{first_seen}
use Rattle.kernel_methods.specs.Methods.{body_in, context_in, function_in, made_of, methods_at, nodes_seen}
use Rattle.kernel_methods.specs.Shared.{HasShared, parameters_in, results_in}

-- ---- nodes

pub all_counted : {E : Type 0} (r : Result ℕ E) (a b c m n : ℕ) → Counts a 0 m → Counts b m n → IfOk r (Counts c n) → IfOk r (λ k. k ≡ a + b + c)
all_counted (Ok k) a b c m n h i j = let e : m ≡ 0 + a = h.is in let f : n ≡ m + b = i.is in let g : k ≡ n + c = j.is in omega (arith, e, f, g)
all_counted (Err x) a b c m n h i j = tt

-- ---- functions

abbrev as_function : Sort → List TypeId → ℕ → List TypedPattern → TypedExpression → Function
as_function o ts n ps e = roll-Function (record { sort = o; type_parameters = ts; nodes = n; parameters = ps; body = e })

module _ (s : State) (f : Frame) where
  pub function_is : (query : Bool) (context : Option (Pattern Note)) (g : Signature Note) (body : Expression Note) (o : Sort) (ts : List TypeId) (n : ℕ) (ps : List TypedPattern) (e : TypedExpression)
      → o ≡ programs.method_sort query → ts ≡ [] → n ≡ nodes_seen (noted s.forms) context g body → ps ≡ patterns_of s g.parameters → e ≡ body_in s f context g.parameters body → as_function o ts n ps e ≡ function_in s f query context g body
  function_is query context g body o ts n ps e a b c d h =
      ap (λ (z : Sort). as_function z ts n ps e) a
      ∙ (ap (λ (l : List TypeId). as_function (programs.method_sort query) l n ps e) b
      ∙ (ap (λ (m : ℕ). as_function (programs.method_sort query) [] m ps e) c
      ∙ (ap (λ (l : List TypedPattern). as_function (programs.method_sort query) [] (nodes_seen (noted s.forms) context g body) l e) d
      ∙ ap (λ (z : TypedExpression). as_function (programs.method_sort query) [] (nodes_seen (noted s.forms) context g body) (patterns_of s g.parameters) z) h)))

abbrev as_method : Bytes → Option TypedPattern → List TypeId → List TypeId → Function → typed.Method
as_method x context ps rs f = record { name = x; context = context; parameters = ps; results = rs; function = f }

module _ (s : State) where
  pub method_is : (kind : TermId) (context : Option (Pattern Note)) (x y : Bytes) (q : Option TypedPattern) (ps rs : List TypeId) (f : Function)
      → y ≡ x → q ≡ context_in s context → ps ≡ parameters_in s kind → rs ≡ results_in s kind → as_method y q ps rs f ≡ made_of s kind context x f
  method_is kind context x y q ps rs f a b c d =
      ap (λ (z : Bytes). as_method z q ps rs f) a
      ∙ (ap (λ (z : Option TypedPattern). as_method x z ps rs f) b
      ∙ (ap (λ (l : List TypeId). as_method x (context_in s context) l rs f) c
      ∙ ap (λ (l : List TypeId). as_method x (context_in s context) (parameters_in s kind) l f) d))

  -- ---- the public functions of a list

  module _ (f : Frame) where
    methods_then : (public : Bool) (n : trees.Note) (rest : Declarations trees.Note) (d : p.Declaration trees.Note)
        → programs.methods_of (definitions s) (number s) f (p.Then public n d rest) ≡ methods_at s f n.type (role_of d) ++ programs.methods_of (definitions s) (number s) f rest
    methods_then public n rest (p.Let q a) = refl
    methods_then public n rest (p.Var false x u a) = refl
    methods_then public n rest (p.Var true x u a) = refl
    methods_then public n rest (p.Func x g body) = refl
    methods_then public n rest (p.Method query context x g body) = refl
    methods_then public n rest (p.System x body) = refl
    methods_then public n rest (p.TypeAlias x parameters u) = refl
    methods_then public n rest (p.Class x g fields) = refl
    methods_then public n rest (p.NamedObject x fields) = refl
    methods_then public n rest (p.Evaluate a) = refl

    pub methods_next : (d : Declaration Note) (ds : List (Declaration Note))
        → programs.methods_of (definitions s) (number s) f (list_in s (d ∷ ds)) ≡ methods_at s f (term s.forms d.note.kind) (role_in (noted s.forms) d) ++ programs.methods_of (definitions s) (number s) f (list_in s ds)
    methods_next d ds = first_seen (noted s.forms) (programs.methods_of (definitions s) (number s) f) d ds ∙ methods_then d.public (noted s.forms d.note) (list_in s ds) (declaration_form (noted s.forms) d.form)

-- ---- one declaration

module _ {B : Type 0} (f : Role → List B) (z w : Role) (old new : List B) (e : z ≡ w) where
  pub added_as : {A E : Type 0} (r : Result A E) (more : List B) → more ≡ f z → OnOk r (new ≡ old ++ more) → OnOk r (new ≡ old ++ f w)
  added_as (Ok a) more h k = k ∙ (ap (λ (l : List B). old ++ l) h ∙ ap (λ (y : Role). old ++ f y) e)
  added_as (Err x) more h k = tt

pub stays : {B : Type 0} (f : Role → List B) (z w : Role) (old : List B) → z ≡ w → f z ≡ [] → old ≡ old ++ f w
stays {B} f z w old e h = sym (append-nil old) ∙ (ap (λ (l : List B). old ++ l) (sym h) ∙ ap (λ (y : Role). old ++ f y) e)

pub shared_as : (u : Term) (z w : Role) → z ≡ w → HasShared u w → HasShared u z
shared_as u z w e h = subst (HasShared u) (sym e) h

pub as_shared : (u : Term) (z w : Role) → z ≡ w → HasShared u z → HasShared u w
as_shared u z w e h = subst (HasShared u) e h
