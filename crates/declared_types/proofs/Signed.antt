-- Types of functions and classes, made of those of their parts.
use Rattle.std.proofs.Common.{◌≡◌, ◌+◌, ℕ, List, [], ◌∷◌, ◌++◌, Option, ap, map, refl, subst, sym, take, ◌∙◌}
use Rattle.std.specs.Prelude.{Result, IfOk, Ok, Err}
use Rattle.mo_types.specs.Sub.{Each}
use Rattle.type_terms.specs.declared.form.Form.TheVariants as form
use Rattle.type_terms.specs.declared.form.TermId.{TermId}
use Rattle.typing_rules.specs.AbstractSyntax as p
use Rattle.typing_rules.specs.DeclaredTypes.{class_term, function_term, parameter_terms, pattern_term, within}
use Rattle.typing_rules.specs.Terms.{Term, Terms, unlisted}
use Rattle.typing_rules.specs.Terms as t
use Rattle.typing_rules.specs.TypedTrees.{annotation}
use Rattle.typing_rules.specs.TypeScopes.{TypeScope, term_or}
use Rattle.type_definitions.specs.Meanings.{term}
use Rattle.type_definitions.specs.Tables.{Within}
use Rattle.type_definitions.proofs.Meanings.{each_within, later_on}
use Rattle.met_types.specs.States.{State}
use Rattle.definition_rules.proofs.Promoting.{same_on}
use Rattle.abstract_types.specs.declared.patterns.Pattern.{Pattern}
use Rattle.abstract_types.specs.declared.patterns.PatternForm.{PatternForm}
use Rattle.abstract_types.specs.declared.patterns.Signature.{Signature}
use Rattle.abstract_types.specs.PatternView.{listed, plain, plain_form, plain_signature}
use Rattle.abstract_types.proofs.PatternViews.{pattern_is}
use Rattle.written_types.specs.Written.{Interned, Wrote, WroteEach}
use Rattle.written_types.proofs.Making.{more_written, then_written}
use Rattle.declared_types.specs.Signing.{class_within, function_within}

pub if_ok : {A E : Type 0} (r : Result A E) (P Q : A → Type 0) → IfOk r P → ((a : A) → P a → Q a) → IfOk r Q
if_ok (Ok a) P Q h f = f a h
if_ok (Err x) P Q h f = tt

-- the same term by another name
pub wrote_as : (old new : State) (u v : Term) (id : TermId) → u ≡ v → Wrote old new u id → Wrote old new v id
wrote_as old new u v id e w = subst (λ (x : Term). Wrote old new x id) e w

pub if_wrote_as : {E : Type 0} (old new : State) (u v : Term) (r : Result TermId E) → u ≡ v → IfOk r (Wrote old new u) → IfOk r (Wrote old new v)
if_wrote_as old new u v r e h = if_ok r (Wrote old new u) (Wrote old new v) h (λ id w. wrote_as old new u v id e w)

-- ---- patterns

-- what is said of a pattern, by its form
pub by_form : {A : Type 0} (q : Pattern ℕ) (said : p.Pattern ℕ → A) (f : PatternForm ℕ) (g : p.PatternForm ℕ) → q.form ≡ f → plain_form f ≡ g → said (plain q) ≡ said (p.pattern q.note g)
by_form q said f g h k = ap said (pattern_is q ∙ ap (p.pattern q.note) (ap plain_form h ∙ k))

pub annotated : (s : TypeScope) (q : p.Pattern ℕ) → term_or s (annotation q) t.Bottom ≡ pattern_term s q
annotated s (p.pattern n (p.Annotated q a)) = refl
annotated s (p.pattern n (p.Alternative q r)) = refl
annotated s (p.pattern n (p.Optional q)) = refl
annotated s (p.pattern n (p.Tag x)) = refl
annotated s (p.pattern n (p.Tagged x q)) = refl
annotated s (p.pattern n (p.Variable x)) = refl
annotated s (p.pattern n p.Wildcard) = refl
annotated s (p.pattern n (p.Constant minus l)) = refl
annotated s (p.pattern n (p.Tuple items)) = refl
annotated s (p.pattern n (p.Object xs)) = refl

pub pattern_as : (s : TypeScope) (q : Pattern ℕ) (o : Option p.TypeNode) → o ≡ annotation (plain q) → term_or s o t.Bottom ≡ pattern_term s (plain q)
pattern_as s q o e = ap (λ x. term_or s x t.Bottom) e ∙ annotated s (plain q)

-- ---- parameters

map_more : {A B : Type 0} (f : A → B) (xs : List A) (x : A) → map f (xs ++ x ∷ []) ≡ map f xs ++ f x ∷ []
map_more f [] x = refl
map_more f (y ∷ xs) x = ap (λ l. f y ∷ l) (map_more f xs x)

pub next_made : {A : Type 0} (f : A → Term) (old mid new : State) (xs : List A) (i : ℕ) (x : A) (ids qs : List TermId) (id : TermId) → take (i + 1) xs ≡ take i xs ++ x ∷ [] → qs ≡ ids ++ id ∷ []
    → WroteEach old mid (map f (take i xs)) ids → Wrote mid new (f x) id → WroteEach old new (map f (take (i + 1) xs)) qs
next_made {A} f old mid new xs i x ids qs id e q w m =
    subst (λ (l : List A). WroteEach old new (map f l) qs) (sym e)
    (subst (λ (us : List Term). WroteEach old new us qs) (sym (map_more f (take i xs) x))
    (subst (λ (rs : List TermId). WroteEach old new (map f (take i xs) ++ f x ∷ []) rs) (sym q) (more_written old mid new (map f (take i xs)) ids (f x) id w m)))

pub all_made : {A : Type 0} (f : A → Term) (old new : State) (xs ys : List A) (ids : List TermId) → ys ≡ xs → WroteEach old new (map f ys) ids → WroteEach old new (map f xs) ids
all_made {A} f old new xs ys ids e w = subst (λ (l : List A). WroteEach old new (map f l) ids) e w

pub listing : (s : TypeScope) (qs : List (Pattern ℕ)) → unlisted (map (λ q. pattern_term s (plain q)) qs) ≡ parameter_terms s (listed (map plain qs))
listing s [] = refl
listing s (q ∷ qs) = ap (t.Cons (pattern_term s (plain q))) (listing s qs)

pub still_within : (old mid new : State) (us : List Term) (u : Term) (ids : List TermId) (id : TermId) → WroteEach old mid us ids → Wrote mid new u id → Each (Within new.forms) ids
still_within old mid new us u ids id w m = each_within mid.forms new.forms ids m.made.grows w.made.within

-- ---- functions and classes

pub function_made : (old mid two new : State) (us : List Term) (u : Term) (ids : List TermId) (id r : TermId) → WroteEach old mid us ids → Wrote mid two u id → Interned two new (form.Function ids id) r
    → Wrote old new (t.Function (unlisted us) u) r
function_made old mid two new us u ids id r w m i = then_written old two new (form.Function ids id) r (t.Function (unlisted us) u) (same_on old mid two w.same m.same) i
    (λ later l.
    ap (λ (vs : List Term). t.Function (unlisted vs) (term later id)) (w.made.is later (later_on mid.forms two.forms later m.made.grows l))
    ∙ ap (λ (v : Term). t.Function (unlisted us) v) (m.made.is later l))

module _ (s : TypeScope) (g : Signature ℕ) (ps : List (Pattern ℕ)) (e : ps ≡ g.parameters) where
  parameters_are : unlisted (map (λ q. pattern_term s (plain q)) ps) ≡ parameter_terms s (plain_signature g).parameters
  parameters_are = ap (λ (qs : List (Pattern ℕ)). unlisted (map (λ q. pattern_term s (plain q)) qs)) e ∙ listing s g.parameters

  pub signed : (old mid two new : State) (u : Term) (ids : List TermId) (id r : TermId) → WroteEach old mid (map (λ q. pattern_term s (plain q)) ps) ids → Wrote mid two u id → Interned two new (form.Function ids id) r
      → Wrote old new (t.Function (parameter_terms s (plain_signature g).parameters) u) r
  signed old mid two new u ids id r w m i =
      wrote_as old new (t.Function (unlisted (map (λ q. pattern_term s (plain q)) ps)) u) (t.Function (parameter_terms s (plain_signature g).parameters) u) r (ap (λ (us : Terms). t.Function us u) parameters_are)
      (function_made old mid two new (map (λ q. pattern_term s (plain q)) ps) u ids id r w m i)

-- the scope with the type parameters
pub in_function : (s u : TypeScope) (g : p.Signature ℕ) → u ≡ within s g → function_within u g ≡ function_term s g
in_function s u g e = ap (λ v. function_within v g) e

pub in_class : (s u : TypeScope) (x : p.Named) (g : p.Signature ℕ) → u ≡ within s g → class_within u x g ≡ class_term s x g
in_class s u x g e = ap (λ v. class_within v x g) e
