-- What type definitions, classes and type parameters define.
use Rattle.std.proofs.Common.{◌≡◌, ℕ, List, [], ◌∷◌, ◌++◌, ap, append-nil, append_assoc, drop, length, map, refl, subst, sym, take, ◌∙◌}
use Rattle.std.proofs.Math.Seq.{drop-append_seam, take-append_seam}
use Rattle.type_terms.specs.declared.form.TermId.{TermId}
use Rattle.typing_rules.specs.AbstractSyntax as p
use Rattle.typing_rules.specs.Definitions.{Definitions}
use Rattle.typing_rules.specs.DeclaredTypes.{member_fields, with_declared, with_list, within}
use Rattle.typing_rules.specs.Gathered.{both, class_object, defined, in_expression, in_list, of_generics}
use Rattle.typing_rules.specs.Terms.{Term}
use Rattle.typing_rules.specs.Terms as t
use Rattle.typing_rules.specs.TypeScopes.{TypeScope, names_of, places_of, term, term_or, with_parameter, with_parameters}
use Rattle.type_definitions.specs.declared.definitions.Definition.{Definition}
use Rattle.type_definitions.specs.Definitions.{Listed}
use Rattle.met_types.specs.States.{State}
use Rattle.abstract_types.specs.declared.types.TypeParameter.{TypeParameter}
use Rattle.abstract_types.specs.TypeView.{annotation, parameter}
use Rattle.type_scopes.specs.Scopes.{Names, cut}
use Rattle.declared_names.specs.Scoping.{Extends}
use Rattle.declared_names.proofs.Entering.{taken_back}
use Rattle.written_types.specs.Written.{Wrote}
use Rattle.gathered_types.specs.Finding.{Finds, class_head, joined, one_type}
use Rattle.gathered_types.proofs.Finding.{all_of, definitions_same, finds_as, finds_then, finds_type}

-- ---- bounds

abbrev pub one_of : TypeScope → TypeParameter → Definitions
one_of s g = record { types = []; parameters = record { at = g.name.at; bound = term_or s (annotation g.bound) t.Any } ∷ [] }

pub of_bounds : (s : TypeScope) (gs : List TypeParameter) → all_of (map (one_of s) gs) ≡ of_generics s (map parameter gs)
of_bounds s [] = refl
of_bounds s (g ∷ gs) = ap (λ (c : Definitions). both (one_of s g) c) (of_bounds s gs)

-- ---- parameters in scope

pub parameters_after : (s : TypeScope) (xs : List p.Named) → (with_parameters s xs).parameters ≡ s.parameters ++ places_of xs
parameters_after s [] = sym (append-nil s.parameters)
parameters_after s (x ∷ xs) = parameters_after (with_parameter s x) xs ∙ append_assoc s.parameters (x.at ∷ []) (places_of xs)

declared_parameters : (s : TypeScope) (x : p.Declaration ℕ) → (with_declared s x).parameters ≡ s.parameters
declared_parameters s (p.Let q a) = refl
declared_parameters s (p.Var stable x u a) = refl
declared_parameters s (p.Func x g body) = refl
declared_parameters s (p.Method query context x g body) = refl
declared_parameters s (p.System x body) = refl
declared_parameters s (p.TypeAlias x parameters a) = refl
declared_parameters s (p.Class x g ds) = refl
declared_parameters s (p.NamedObject x ds) = refl
declared_parameters s (p.Evaluate a) = refl

pub list_parameters : (s : TypeScope) (ds : p.Declarations ℕ) → (with_list s ds).parameters ≡ s.parameters
list_parameters s p.End = refl
list_parameters s (p.Then public n x rest) = list_parameters (with_declared s x) rest ∙ declared_parameters s x

-- ---- definitions

abbrev pub made_from : ℕ → List ℕ → TermId → Definition
made_from n ps id = record { outer = n; parameters = ps; right = id }

module _ (s : TypeScope) (xs : List p.Named) (n : ℕ) (ps : List ℕ) (id : TermId) (made : Definition) (m : n ≡ length s.parameters) (e : ps ≡ (with_parameters s xs).parameters) (f : made ≡ made_from n ps id) where
  whole : made ≡ made_from (length s.parameters) (s.parameters ++ places_of xs) id
  whole = f ∙ (ap (λ (k : ℕ). made_from k ps id) m ∙ ap (λ (qs : List ℕ). made_from (length s.parameters) qs id) (e ∙ parameters_after s xs))

  pub defined_so : (old new : State) (x : p.Named) (u : Term) (y z : Listed) → Wrote old new u id → z ≡ joined y (one_type x.at made) → Finds old new (defined s x xs u) y z
  defined_so old new x u y z w g = finds_type old new x.at s.parameters (places_of xs) u made y z
      (subst (λ (i : TermId). Wrote old new u i) (sym (ap (λ (k : Definition). k.right) f)) w)
      (ap (λ (k : Definition). take k.outer k.parameters) whole ∙ take-append_seam s.parameters (places_of xs))
      (ap (λ (k : Definition). drop k.outer k.parameters) whole ∙ drop-append_seam s.parameters (places_of xs)) g

pub alias_found : (s u : TypeScope) (xs : List p.Named) (n : ℕ) (ps : List ℕ) (id : TermId) (made : Definition) → n ≡ length s.parameters → u ≡ with_parameters s xs → ps ≡ u.parameters → made ≡ made_from n ps id
    → (old new : State) (x : p.Named) (a : p.TypeNode) (y z : Listed) → Wrote old new (term u a) id → z ≡ joined y (one_type x.at made) → Finds old new (defined s x xs (term (with_parameters s xs) a)) y z
alias_found s u xs n ps id made m e q f old new x a y z w g = defined_so s xs n ps id made m (q ∙ ap (λ v. v.parameters) e) f old new x (term (with_parameters s xs) a) y z
    (subst (λ (v : TypeScope). Wrote old new (term v a) id) e w) g

-- a class, whose bounds were found first
bounds_first : (s v : TypeScope) (x : p.Named) (xs : List p.Named) (u : Term) (gs : List p.TypeParameter) → both (of_generics v gs) (defined s x xs u) ≡ both (defined s x xs u) (of_generics v gs)
bounds_first s v x xs u gs = definitions_same (defined s x xs u).types (defined s x xs u).types ((of_generics v gs).parameters ++ []) (of_generics v gs).parameters refl (append-nil (of_generics v gs).parameters)

module _ (s : TypeScope) (x : p.Named) (g : p.Signature ℕ) (ds : p.Declarations ℕ) (u v : TypeScope) (e : u ≡ within s g) (f : v ≡ with_list u ds) where
  pub list_seen : v ≡ with_list (within s g) ds
  list_seen = f ∙ ap (λ w. with_list w ds) e

  parameters_seen : v.parameters ≡ (with_parameters s (names_of g.generics)).parameters
  parameters_seen = ap (λ w. w.parameters) list_seen ∙ list_parameters (within s g) ds

  pub class_found : (old mid new : State) (n : ℕ) (ps : List ℕ) (id : TermId) (made : Definition) (y z k : Listed) → n ≡ length s.parameters → ps ≡ v.parameters → made ≡ made_from n ps id
      → Finds old mid (of_generics u g.generics) y z → Wrote mid new (t.Object (member_fields v ds)) id → k ≡ joined z (one_type x.at made) → Finds old new (class_head s x g ds) y k
  class_found old mid new n ps id made y z k m q h a w j =
      finds_as old new (both (of_generics (within s g) g.generics) (defined s x (names_of g.generics) (class_object s g ds))) (class_head s x g ds) y k (bounds_first s (within s g) x (names_of g.generics) (class_object s g ds) g.generics)
      (finds_then old mid new (of_generics (within s g) g.generics) (defined s x (names_of g.generics) (class_object s g ds)) y z k
      (subst (λ (w : TypeScope). Finds old mid (of_generics w g.generics) y z) e a)
      (defined_so s (names_of g.generics) n ps id made m (q ∙ parameters_seen) h mid new x (class_object s g ds) z k (subst (λ (w : TypeScope). Wrote mid new (t.Object (member_fields w ds)) id) list_seen w) j))

-- ---- scopes

pub scope_back : (old in_scope out : Names) (n : ℕ) → n ≡ length old.names → n ≡ length old.declared → Extends old in_scope → out ≡ in_scope → cut n out ≡ old
scope_back old in_scope out n e f x h = ap (cut n) h ∙ taken_back old in_scope n e f x

-- a function, whose type parameters are in scope
pub function_found : (s u : TypeScope) (g : p.Signature ℕ) (a : p.Expression ℕ) (old mid new : State) (x y z : Listed) → u ≡ within s g → Finds old mid (of_generics u g.generics) x y → Finds mid new (in_expression u a) y z
    → Finds old new (both (of_generics (within s g) g.generics) (in_expression (within s g) a)) x z
function_found s u g a old mid new x y z e f h = subst (λ (w : TypeScope). Finds old new (both (of_generics w g.generics) (in_expression w a)) x z) e
    (finds_then old mid new (of_generics u g.generics) (in_expression u a) x y z f h)

pub class_walked : (s v : TypeScope) (c : Definitions) (ds : p.Declarations ℕ) (w : TypeScope) (old mid new : State) (x y z : Listed) → v ≡ w → Finds old mid c x y → Finds mid new (in_list v ds) y z → Finds old new (both c (in_list w ds)) x z
class_walked s v c ds w old mid new x y z e f h = finds_then old mid new c (in_list w ds) x y z f (subst (λ (k : TypeScope). Finds mid new (in_list k ds) y z) e h)
