-- The names of patterns and parameters.
use Rattle.std.proofs.Common.{◌≡◌, ◌⊎◌, inl, inr, ℕ, true, false, List, [], ◌∷◌, ◌++◌, refl, ap₂, subst}
use Rattle.std.specs.Prelude.{not}
use Rattle.mo_types.specs.declared.node.Field.{Field}
use Rattle.mo_types.specs.Heads.{opt_of, tuple_of, object_of, variant_of}
use Rattle.mo_types.specs.Sub.{find}
use Rattle.subtype_laws.specs.Reached.{Among}
use Rattle.typing_rules.specs.declared.condition.Condition.TheVariants as condition
use Rattle.typing_rules.specs.AbstractSyntax.{Bytes, Pattern, Patterns, PatternFields}
use Rattle.typing_rules.specs.AbstractSyntax as p
use Rattle.typing_rules.specs.Contexts.{Scope, constant}
use Rattle.typing_rules.specs.Definitions.{Definitions}
use Rattle.typing_rules.specs.Heads.{head}
use Rattle.typing_rules.specs.Judgements.{Case, Given, Gives}
use Rattle.typing_rules.specs.Patterns.{is_empty, LiteralStands, Stands, EachStands, FieldsStand}
use Rattle.typing_rules.specs.Signatures.{Taken, Parameters, first, others}
use Rattle.typing_rules.specs.Terms.{Term}
use Rattle.typing_rules.specs.TypedTrees.{Note, annotation, pattern_place}
use Rattle.typing_rules.specs.TypeScopes.{TypeScope}
use Rattle.typing_rules.specs.Types.{Reads}
use Rattle.desugaring.specs.FreeNames.{names_in, names_in_each, names_in_fields}
use Rattle.desugaring_laws.specs.Yields.{Yields}
use Rattle.desugaring_laws.proofs.Yielding.{anything, given, tests, part as after}
use Rattle.kept_names.specs.Plain.{PatternIsPlain, EachPatternIsPlain, PatternFieldsArePlain}
use Rattle.kept_names.specs.Keeping.{IsBound}
use Rattle.kept_names.proofs.Names.{bound_here, bound_left, bound_right, none_bound, among_either}

-- what is known of patterns with these names that became some with those, and bind this
pub record Standing (Source : Type 0) (xs ys : List Bytes) (s : Scope) : Type 0 where
  pub plain : Source
  pub same : ys ≡ xs
  pub binds : (y : Bytes) → Among y xs → IsBound s y

one_more : (P Q : Type 0) (xs ys zs ws : List Bytes) (s t : Scope) → Standing P xs ys s → Standing Q zs ws t → Standing (P × Q) (xs ++ zs) (ys ++ ws) (t ++ s)
one_more P Q xs ys zs ws s t k l = record { plain = (k.plain, l.plain); same = ap₂ (λ x y. x ++ y) k.same l.same; binds = λ y m. binds y (among_either xs zs y m) } where
  binds : (y : Bytes) → Among y xs ⊎ Among y zs → IsBound (t ++ s) y
  binds y (inl m) = bound_right t s y (k.binds y m)
  binds y (inr m) = bound_left t s y (l.binds y m)

-- where nothing is bound there are no names
no_names : (xs : List Bytes) (s : Scope) → ((y : Bytes) → Among y xs → IsBound s y) → is_empty s ≡ true → xs ≡ []
no_names [] s h e = refl
no_names (x ∷ xs) [] h e = absurd (none_bound x (h x (inl refl)))
no_names (x ∷ xs) (z ∷ s) h e = let none : false ≡ true = e in cc

module _ (defs : Definitions) (terms : List Term) (s : TypeScope) where
  abbrev pub Stood : Pattern ℕ → Scope × Pattern Note → Type 0
  Stood q b = Standing (PatternIsPlain q) (names_in q) (names_in b.1) b.0

  abbrev EachStood : Patterns ℕ → Scope × Patterns Note → Type 0
  EachStood qs b = Standing (EachPatternIsPlain qs) (names_in_each qs) (names_in_each b.1) b.0

  abbrev FieldsStood : PatternFields ℕ → Scope × PatternFields Note → Type 0
  FieldsStood qs b = Standing (PatternFieldsArePlain qs) (names_in_fields qs) (names_in_fields b.1) b.0

  none : (t : Scope) → Standing (Unit {0}) [] [] t
  none t = record { plain = tt; same = refl; binds = λ y m. absurd m }

  mutual
    pub stood : (q : Pattern ℕ) (u : Term) → Yields defs terms (Stands defs s q u) (Stood q)
    stood (p.pattern at (p.Annotated q a)) u =
        let P = Stood (p.pattern at (p.Annotated q a)) in
        after defs terms (Reads defs s a) _ (λ v. Unit {0}) P (anything defs terms (Reads defs s a)) (λ v t. (
          λ below. after defs terms (Stands defs s q v) _ (Stood q) P (stood q v) (λ b i. i),
          λ no. tt,
        ))
    stood (p.pattern at (p.Alternative q r)) u =
        let P = Stood (p.pattern at (p.Alternative q r)) in
        after defs terms (Stands defs s q u) _ (Stood q) P (stood q u) (λ b i.
        tests defs terms _ _ (is_empty b.0) _ P (λ e.
        after defs terms (Stands defs s r u) _ (Stood r) P (stood r u) (λ c j.
        tests defs terms _ _ (is_empty c.0) _ P (λ f.
        record { plain = ((i.plain, no_names (names_in q) b.0 i.binds e), (j.plain, no_names (names_in r) c.0 j.binds f)); same = refl; binds = λ y m. absurd m }))))
    stood (p.pattern at (p.Optional q)) u =
        let P = Stood (p.pattern at (p.Optional q)) in
        given defs terms _ _ (opt_of (head defs u)) _ P (λ v e. after defs terms (Stands defs s q v) _ (Stood q) P (stood q v) (λ b i. i))
    stood (p.pattern at (p.Tag x)) u =
        let P = Stood (p.pattern at (p.Tag x)) in
        given defs terms _ _ (variant_of (head defs u)) _ P (λ tags e.
        given defs terms _ _ (find x tags) _ P (λ f found.
        given defs terms _ _ (tuple_of (head defs f.part)) _ P (λ parts et.
        tests defs terms _ _ (is_empty parts) _ P (λ empty. none []))))
    stood (p.pattern at (p.Tagged x q)) u =
        let P = Stood (p.pattern at (p.Tagged x q)) in
        given defs terms _ _ (variant_of (head defs u)) _ P (λ tags e.
        given defs terms _ _ (find x tags) _ P (λ f found.
        after defs terms (Stands defs s q f.part) _ (Stood q) P (stood q f.part) (λ b i. i)))
    stood (p.pattern at (p.Variable x)) u = record { plain = tt; same = refl; binds = λ y m. bound y m } where
      bound : (y : Bytes) → Among y (x ∷ []) → IsBound ((x, constant u) ∷ []) y
      bound y (inl e) = subst (λ z. IsBound ((x, constant u) ∷ []) z) e (bound_here x (constant u) [])
      bound y (inr m) = absurd m
    stood (p.pattern at p.Wildcard) u = none []
    stood (p.pattern at (p.Constant minus l)) u =
        after defs terms (LiteralStands at minus l (head defs u)) _ (λ x. Unit {0}) (Stood (p.pattern at (p.Constant minus l))) (anything defs terms (LiteralStands at minus l (head defs u))) (λ x i. none [])
    stood (p.pattern at (p.Tuple items)) u =
        let P = Stood (p.pattern at (p.Tuple items)) in
        given defs terms _ _ (tuple_of (head defs u)) _ P (λ us e. after defs terms (EachStands defs s at items us) _ (EachStood items) P (each_stood at items us) (λ b i. i))
    stood (p.pattern at (p.Object fields)) u =
        let P = Stood (p.pattern at (p.Object fields)) in
        given defs terms _ _ (object_of (head defs u)) _ P (λ fs e. after defs terms (FieldsStand defs s fields fs) _ (FieldsStood fields) P (fields_stood fields fs) (λ b i. i))

    each_stood : (at : ℕ) (qs : Patterns ℕ) (us : List Term) → Yields defs terms (EachStands defs s at qs us) (EachStood qs)
    each_stood at p.Nil [] = none []
    each_stood at p.Nil (u ∷ us) = tt
    each_stood at (p.Cons q rest) [] = tt
    each_stood at (p.Cons q rest) (u ∷ us) =
        let P = EachStood (p.Cons q rest) in
        after defs terms (Stands defs s q u) _ (Stood q) P (stood q u) (λ b i.
        after defs terms (EachStands defs s at rest us) _ (EachStood rest) P (each_stood at rest us) (λ c j.
        one_more (PatternIsPlain q) (EachPatternIsPlain rest) (names_in q) (names_in b.1) (names_in_each rest) (names_in_each c.1) b.0 c.0 i j))

    fields_stood : (qs : PatternFields ℕ) (fs : List (Field Term)) → Yields defs terms (FieldsStand defs s qs fs) (FieldsStood qs)
    fields_stood p.NoFields fs = none []
    fields_stood (p.Field x q rest) fs =
        let P = FieldsStood (p.Field x q rest) in
        given defs terms _ _ (find x.bytes fs) _ P (λ f found.
        tests defs terms _ _ (not f.mutable) _ P (λ fixed.
        after defs terms (Stands defs s q f.part) _ (Stood q) P (stood q f.part) (λ b i.
        after defs terms (FieldsStand defs s rest fs) _ (FieldsStood rest) P (fields_stood rest fs) (λ c j.
        one_more (PatternIsPlain q) (PatternFieldsArePlain rest) (names_in q) (names_in b.1) (names_in_fields rest) (names_in_fields c.1) b.0 c.0 i j))))

  abbrev pub Taking : Patterns ℕ → Taken → Type 0
  Taking qs ps = Standing (EachPatternIsPlain qs) (names_in_each qs) (names_in_each ps.patterns) ps.scope

  pub parameters_stood : (qs : Patterns ℕ) (us : List Term) → Yields defs terms (Parameters defs s qs us) (Taking qs)
  parameters_stood p.Nil us = none []
  parameters_stood (p.Cons q rest) us =
      let P = Taking (p.Cons q rest) in
      let j = Case (annotation q) (λ a. Reads defs s a) (λ _. Given condition.NeedsType (pattern_place q) (first us) (λ u. Gives u)) in
      after defs terms j _ (λ u. Unit {0}) P (anything defs terms j) (λ u z.
      after defs terms (Stands defs s q u) _ (Stood q) P (stood q u) (λ b i.
      after defs terms (Parameters defs s rest (others us)) _ (Taking rest) P (parameters_stood rest (others us)) (λ c k.
      one_more (PatternIsPlain q) (EachPatternIsPlain rest) (names_in q) (names_in b.1) (names_in_each rest) (names_in_each c.patterns) b.0 c.scope i k)))
