-- Parameters and signatures, and the types that a list defines.
use Rattle.std.proofs.Common.{◌≡◌, ◌≢◌, ℕ, Bool, true, false, List, [], ◌∷◌, Option, Some, None, refl, sym, ap, subst}
use Rattle.std.specs.Prelude.{map, is_some}
use Rattle.mo_types.specs.declared.node.Sort.TheVariants as sort
use Rattle.mo_types.specs.Sub.{Each}
use Rattle.typed_tree.specs.Shareable.{IsShareable}
use Rattle.typing_rules.specs.declared.condition.Condition.TheVariants as condition
use Rattle.typing_rules.specs.AbstractSyntax.{Named, TypeNode, TypeParameter, Pattern, Patterns, Signature, Declaration, Declarations}
use Rattle.typing_rules.specs.AbstractSyntax as p
use Rattle.typing_rules.specs.DeclaredTypes.{within, pattern_term, parameter_terms, class_type}
use Rattle.typing_rules.specs.Definitions.{Definitions, definition_at, reached}
use Rattle.typing_rules.specs.Gathered.{bounded}
use Rattle.typing_rules.specs.Groups.{keeps_parameters}
use Rattle.typing_rules.specs.Heads.{head}
use Rattle.typing_rules.specs.Judgements.{Gives, Given, Case, Fine}
use Rattle.typing_rules.specs.Judgements as j
use Rattle.typing_rules.specs.Signatures.{Taken, first, others, context_type, method_sort, async_term, Parameters, ParameterTypes, ContextOf, AsyncResult, SignatureOf, Signatures, DefinitionOf, DefinitionsOf}
use Rattle.typing_rules.specs.Patterns.{Stands}
use Rattle.typing_rules.specs.Terms.{Term, Terms, listed, unlisted, unit}
use Rattle.typing_rules.specs.Terms as t
use Rattle.typing_rules.specs.Types.{Proper, Reads, ReadsOr, Generics, Defines, AllShareable, ends}
use Rattle.typing_rules.specs.TypedTrees.{annotation, pattern_place}
use Rattle.typing_rules.specs.TypeScopes.{TypeScope, with_parameters, term, term_or}
use Rattle.proper_laws.specs.Proper.{IsProper, AreProper}
use Rattle.proper_laws.specs.Source.{IsTypeSource, IsAnnotationSource, IsPatternSource, ArePatternsSource}
use Rattle.proper_laws.proofs.Meeting.{more, given, tests, by_case, needs_each, each_shareable}
use Rattle.proper_laws.proofs.Written.{proper_written}
use Rattle.meeting_laws.specs.Source.{IsContextSource, AreSource, DeclarationIsSource}
use Rattle.meeting_laws.proofs.Basics.{each_both, Known, Plain, Meeting, IsScopeFine, after, known}
use Rattle.meeting_laws.proofs.Standing.{IsRead, reads, reads_or, stands}

listed_unlisted : (us : List Term) → listed (unlisted us) ≡ us
listed_unlisted [] = refl
listed_unlisted (u ∷ us) = ap (λ l. u ∷ l) (listed_unlisted us)

annotation_source : (q : Pattern ℕ) → IsPatternSource q → (a : TypeNode) → annotation q ≡ Some a → IsTypeSource a
annotation_source (p.pattern n (p.Annotated q b)) h a e = let g : b ≡ a = cc in subst (λ z. IsTypeSource z) g h.1
annotation_source (p.pattern n p.Wildcard) h a e = cc
annotation_source (p.pattern n f) h a e = cc

pub annotation_fine : (q : Pattern ℕ) → IsPatternSource q → IsAnnotationSource (annotation q)
annotation_fine (p.pattern n (p.Annotated q b)) h = h.1
annotation_fine (p.pattern n f) h = tt

annotation_term : (s : TypeScope) (q : Pattern ℕ) (a : TypeNode) → annotation q ≡ Some a → term s a ≡ pattern_term s q
annotation_term s (p.pattern n (p.Annotated q b)) a e = let g : a ≡ b = cc in ap (λ z. term s z) g
annotation_term s (p.pattern n p.Wildcard) a e = cc
annotation_term s (p.pattern n f) a e = cc

module _ (defs : Definitions) where
  -- ---- type parameters

  abbrev pub AreBoundsProper : TypeScope → List TypeParameter → Type 0
  AreBoundsProper s gs = Each (λ b. IsProper defs b.bound × (ends defs b.at ≡ true)) (bounded s gs)

  pub generics : (s : TypeScope) (gs : List TypeParameter) → Each (λ x. IsAnnotationSource x.bound) gs → Meeting defs (Generics defs s gs) (λ z. AreBoundsProper s gs)
  generics s [] h = tt
  generics s (g ∷ rest) h =
      after defs (ReadsOr defs s g.bound t.Any) _ _ (λ z. AreBoundsProper s (g ∷ rest)) (reads_or defs s g.bound t.Any h.0 tt) (λ u r.
      tests defs (Known defs) condition.BadDefinition g.name.at (ends defs g.name.at) _ (λ z. AreBoundsProper s (g ∷ rest)) (λ e. (
        λ w. tt,
        more defs (Known defs) (Generics defs s rest) (λ z. AreBoundsProper s rest) (λ z. AreBoundsProper s (g ∷ rest)) (generics s rest h.1) (λ z k.
            ((subst (λ v. IsProper defs v) r.0 r.1, e), k)),
      )))

  -- ---- parameters

  abbrev Annotates : TypeScope → Pattern ℕ → Term → Type 0
  Annotates s q u = (u ≡ pattern_term s q) × IsProper defs u

  abbrev pub AreAnnotated : TypeScope → Patterns ℕ → List Term → Type 0
  AreAnnotated s qs us = (unlisted us ≡ parameter_terms s qs) × AreProper defs (unlisted us)

  cons_is : (u v : Term) (us : List Term) (vs : Terms) → u ≡ v → unlisted us ≡ vs → unlisted (u ∷ us) ≡ t.Cons v vs
  cons_is u v us vs e f = cc

  pub parameter_types : (s : TypeScope) (qs : Patterns ℕ) → ArePatternsSource qs → Meeting defs (ParameterTypes defs s qs) (AreAnnotated s qs)
  parameter_types s p.Nil h = (refl, tt)
  parameter_types s (p.Cons q rest) h =
      after defs (Given condition.NeedsType (pattern_place q) (annotation q) (λ a. Reads defs s a)) _ (Annotates s q) (AreAnnotated s (p.Cons q rest))
      (given defs (Known defs) condition.NeedsType (pattern_place q) (annotation q) _ (Annotates s q) (λ a e.
      more defs (Known defs) (Reads defs s a) (IsRead defs s a) (Annotates s q) (reads defs s a (annotation_source q h.0 a e)) (λ u r. (subst (λ z. u ≡ z) (annotation_term s q a e) r.0, r.1)))) (λ u r.
      after defs (ParameterTypes defs s rest) _ _ (AreAnnotated s (p.Cons q rest)) (parameter_types s rest h.1) (λ us k.
      (cons_is u (pattern_term s q) us (parameter_terms s rest) r.0 k.0, (r.1, k.1))))

  abbrev pub AreTaken : Taken → Type 0
  AreTaken c = IsScopeFine defs c.scope × Each (Plain defs) c.types

  first_plain : (us : List Term) → Each (Plain defs) us → (u : Term) → first us ≡ Some u → Plain defs u
  first_plain [] h u e = cc
  first_plain (v ∷ us) h u e = let g : v ≡ u = cc in subst (Plain defs) g h.0

  others_plain : (us : List Term) → Each (Plain defs) us → Each (Plain defs) (others us)
  others_plain [] h = tt
  others_plain (v ∷ us) h = h.1

  pub parameters : (s : TypeScope) (qs : Patterns ℕ) → ArePatternsSource qs → (us : List Term) → Each (Plain defs) us → Meeting defs (Parameters defs s qs us) AreTaken
  parameters s p.Nil h us k = (tt, tt)
  parameters s (p.Cons q rest) h us k =
      after defs (Case (annotation q) (λ a. Reads defs s a) (λ z. Given condition.NeedsType (pattern_place q) (first us) (λ u. Gives u))) _ (Plain defs) AreTaken
      (by_case defs (Known defs) (annotation q) _ _ (Plain defs)
      (λ a e. more defs (Known defs) (Reads defs s a) (IsRead defs s a) (Plain defs) (reads defs s a (annotation_source q h.0 a e)) (λ u r. λ w. r.1))
      (λ e. given defs (Known defs) condition.NeedsType (pattern_place q) (first us) _ (Plain defs) (λ u f. first_plain us k u f))) (λ u m.
      after defs (Stands defs s q u) _ _ AreTaken (stands defs s q h.0 u (known defs u m)) (λ b n.
      after defs (Parameters defs s rest (others us)) _ _ AreTaken (parameters s rest h.1 (others us) (others_plain us k)) (λ c l.
      (each_both _ c.scope b.0 l.0 n.0, (m, l.1)))))

  pub context_of : (s : TypeScope) (o : Option (Pattern ℕ)) → IsContextSource o → Meeting defs (ContextOf defs s o) (λ b. IsScopeFine defs b.0)
  context_of s None h = tt
  context_of s (Some q) h =
      (λ w. ((tt, tt), (tt, tt)), after defs (Stands defs s q context_type) _ _ (λ b. IsScopeFine defs b.0) (stands defs s q h context_type (λ w. ((tt, tt), (tt, tt)))) (λ b m. m.0))

  -- ---- signatures

  async_result : (at : ℕ) (s : TypeScope) (o : Option TypeNode) → IsAnnotationSource o → Meeting defs (AsyncResult defs at s o) (λ r. (r ≡ async_term s o) × IsProper defs r)
  async_result at s None h = tt
  async_result at s (Some (p.node inner (p.Async a))) h = reads defs s a h
  async_result at s (Some (p.node inner f)) h = tt

  parameters_are : (vs : List ℕ) → AreProper defs (unlisted (map t.Parameter vs))
  parameters_are [] = tt
  parameters_are (v ∷ vs) = (tt, parameters_are vs)

  pub class_proper : (s : TypeScope) (x : Named) → IsProper defs (class_type s x)
  class_proper s x = parameters_are s.parameters

  abbrev pub method_term : TypeScope → Bool → Signature ℕ → Term
  method_term s query g = t.Shared (method_sort query) (parameter_terms s g.parameters) (async_term s g.result)

  -- what is written of a function, class or method is proper
  abbrev pub IsSigned : TypeScope → Declaration ℕ → Type 0
  IsSigned s (p.Func x g body) =
      AreBoundsProper (within s g) g.generics × AreProper defs (parameter_terms (within s g) g.parameters) × IsProper defs (term_or (within s g) g.result unit)
  IsSigned s (p.Class x g fields) = AreBoundsProper (within s g) g.generics × AreProper defs (parameter_terms (within s g) g.parameters)
  IsSigned s (p.Method query context x g body) = IsProper defs (method_term s query g)
  IsSigned s _ = Unit {0}

  abbrev pub AreSigned : TypeScope → Declarations ℕ → Type 0
  AreSigned s p.End = Unit {0}
  AreSigned s (p.Then public n d rest) = IsSigned s d × AreSigned s rest

  pub shared_sort : (query : Bool) → method_sort query ≢ sort.Local
  shared_sort false e = cc
  shared_sort true e = cc

  shared_proper : (query : Bool) (us : List Term) (r : Term) → AreProper defs (unlisted us) → IsProper defs r → Each (IsShareable (head defs)) (r ∷ us) → IsProper defs (t.Shared (method_sort query) (unlisted us) r)
  shared_proper query us r h k q = (h, k, shared_sort query, subst (λ vs. Each (IsShareable (head defs)) (r ∷ vs)) (sym (listed_unlisted us)) q)

  method_is : (s : TypeScope) (query : Bool) (g : Signature ℕ) (us : List Term) (r : Term) → unlisted us ≡ parameter_terms s g.parameters → r ≡ async_term s g.result → t.Shared (method_sort query) (unlisted us) r ≡ method_term s query g
  method_is s query g us r e f = cc

  pub signature_of : (s : TypeScope) (d : Declaration ℕ) → DeclarationIsSource d → Meeting defs (SignatureOf defs s d) (λ names. IsScopeFine defs names × IsSigned s d)
  signature_of s (p.Func x g body) h =
      after defs (Generics defs (within s g) g.generics) _ _ (λ names. IsScopeFine defs names × IsSigned s (p.Func x g body)) (generics (within s g) g.generics h.0.0) (λ z k.
      after defs (ParameterTypes defs (within s g) g.parameters) _ _ (λ names. IsScopeFine defs names × IsSigned s (p.Func x g body)) (parameter_types (within s g) g.parameters h.0.1) (λ us m.
      after defs (ReadsOr defs (within s g) g.result unit) _ _ (λ names. IsScopeFine defs names × IsSigned s (p.Func x g body)) (reads_or defs (within s g) g.result unit h.0.2 (tt, λ e. cc)) (λ r n.
      (λ w. (m.1, n.1), (((λ w. (m.1, n.1), λ e. cc), tt), (k, subst (λ vs. AreProper defs vs) m.0 m.1, subst (λ v. IsProper defs v) n.0 n.1))))))
  signature_of s (p.Class x g fields) h =
      after defs (Generics defs (within s g) g.generics) _ _ (λ names. IsScopeFine defs names × IsSigned s (p.Class x g fields)) (generics (within s g) g.generics h.0.0) (λ z k.
      after defs (ParameterTypes defs (within s g) g.parameters) _ _ (λ names. IsScopeFine defs names × IsSigned s (p.Class x g fields)) (parameter_types (within s g) g.parameters h.0.1) (λ us m.
      (λ w. (m.1, class_proper (within s g) x), (((λ w. (m.1, class_proper (within s g) x), λ e. cc), tt), (k, subst (λ vs. AreProper defs vs) m.0 m.1)))))
  signature_of s (p.Method query context x g body) h =
      after defs (ParameterTypes defs s g.parameters) _ _ (λ names. IsScopeFine defs names × IsSigned s (p.Method query context x g body)) (parameter_types s g.parameters h.1.1) (λ us m.
      after defs (AsyncResult defs x.at s g.result) _ _ (λ names. IsScopeFine defs names × IsSigned s (p.Method query context x g body)) (async_result x.at s g.result h.1.2) (λ r n.
      after defs (AllShareable x.at us r) _ (λ z. Each (IsShareable (head defs)) (r ∷ us)) (λ names. IsScopeFine defs names × IsSigned s (p.Method query context x g body))
      (needs_each defs (Known defs) condition.NotShared x.at (map j.IsShareable (r ∷ us)) Fine (λ z. Each (IsShareable (head defs)) (r ∷ us)) (λ q. each_shareable defs (r ∷ us) q)) (λ z q. (
        λ w. shared_proper query us r m.1 n.1 q,
        (((λ w. shared_proper query us r m.1 n.1 q, λ e. cc), tt), subst (λ v. IsProper defs v) (method_is s query g us r m.0 n.0) (shared_proper query us r m.1 n.1 q)),
      ))))
  signature_of s (p.Let q a) h = (tt, tt)
  signature_of s d h = (tt, tt)

  pub signatures : (s : TypeScope) (ds : Declarations ℕ) → AreSource ds → Meeting defs (Signatures defs s ds) (λ names. IsScopeFine defs names × AreSigned s ds)
  signatures s p.End h = (tt, tt)
  signatures s (p.Then public at d rest) h =
      after defs (SignatureOf defs s d) _ _ (λ names. IsScopeFine defs names × AreSigned s (p.Then public at d rest)) (signature_of s d h.0) (λ one k.
      after defs (Signatures defs s rest) _ _ (λ names. IsScopeFine defs names × AreSigned s (p.Then public at d rest)) (signatures s rest h.1) (λ more l.
      (each_both _ more one l.0 k.0, (k.1, l.1))))

  -- ---- definitions

  -- the right side of an alias is proper
  abbrev pub IsAliased : TypeScope → Declaration ℕ → Type 0
  IsAliased s (p.TypeAlias x parameters a) = IsProper defs (term (with_parameters s parameters) a)
  IsAliased s _ = Unit {0}

  abbrev pub AreAliased : TypeScope → Declarations ℕ → Type 0
  AreAliased s p.End = Unit {0}
  AreAliased s (p.Then public n d rest) = IsAliased s d × AreAliased s rest

  defines : (x : Named) (R : Type 0) → R → Meeting defs (Defines defs x) (λ z. R)
  defines x R h =
      tests defs (Known defs) condition.BadDefinition x.at (is_some (reached defs.types x.at)) _ (λ z. R) (λ e.
      tests defs (Known defs) condition.BadDefinition x.at (keeps_parameters defs.types (definition_at defs.types x.at)) Fine (λ z. R) (λ f. h))

  definition_of : (s : TypeScope) (d : Declaration ℕ) → DeclarationIsSource d → Meeting defs (DefinitionOf defs s d) (λ z. IsAliased s d)
  definition_of s (p.TypeAlias x ps a) h =
      after defs (Proper defs (with_parameters s ps) a) _ _ (λ z. IsAliased s (p.TypeAlias x ps a)) (proper_written defs (Known defs) (with_parameters s ps) a h) (λ z k. defines x (IsAliased s (p.TypeAlias x ps a)) k)
  definition_of s (p.Class x g fields) h = defines x (Unit {0}) tt
  definition_of s (p.Let q a) h = tt
  definition_of s d h = tt

  pub definitions_of : (s : TypeScope) (ds : Declarations ℕ) → AreSource ds → Meeting defs (DefinitionsOf defs s ds) (λ z. AreAliased s ds)
  definitions_of s p.End h = tt
  definitions_of s (p.Then public at d rest) h =
      after defs (DefinitionOf defs s d) _ _ (λ z. AreAliased s (p.Then public at d rest)) (definition_of s d h.0) (λ z k.
      more defs (Known defs) (DefinitionsOf defs s rest) (λ z. AreAliased s rest) (λ z. AreAliased s (p.Then public at d rest)) (definitions_of s rest h.1) (λ z l. (k, l)))
