-- The names of a pattern, before and after it is judged.
use Rattle.std.proofs.Common.{◌≡◌, ℕ, true, false, List, [], ◌∷◌, ◌++◌, refl, sym, ap₂, ◌∙◌}
use Rattle.typing_rules.specs.AbstractSyntax.{Pattern, Patterns, PatternFields}
use Rattle.typing_rules.specs.AbstractSyntax as p
use Rattle.mo_types.specs.declared.node.Field.{Field}
use Rattle.mo_types.specs.Heads.{opt_of, tuple_of, object_of, variant_of}
use Rattle.mo_types.specs.Sub.{find}
use Rattle.std.specs.Prelude.{not}
use Rattle.typing_rules.specs.Contexts.{Scope}
use Rattle.typing_rules.specs.Definitions.{Definitions}
use Rattle.typing_rules.specs.Heads.{head}
use Rattle.typing_rules.specs.Judgements.{Judgement, Gives, Fails, Asks, Meets}
use Rattle.typing_rules.specs.Patterns.{is_empty, LiteralStands, Stands, EachStands, FieldsStand}
use Rattle.typing_rules.specs.Terms.{Term}
use Rattle.typing_rules.specs.TypedTrees.{Note}
use Rattle.typing_rules.specs.TypeScopes.{TypeScope}
use Rattle.typing_rules.specs.Types.{Reads}
use Rattle.desugaring.specs.FreeNames.{names_in, names_in_each, names_in_fields}
use Rattle.desugaring_laws.specs.Names.{bound_names, bound_in_each, bound_in_fields}
use Rattle.desugaring_laws.specs.Yields.{Yields}
use Rattle.desugaring_laws.proofs.Patterns.{map_append}
use Rattle.desugaring_laws.proofs.Yielding.{anything, given, tests, part as after}
use Rattle.expression_laws.proofs.Naming.{names_of}

mutual
  pub names_bound : (q : Pattern Note) → names_in q ≡ names_of (bound_names q)
  names_bound (p.pattern n (p.Annotated q a)) = names_bound q
  names_bound (p.pattern n (p.Alternative q r)) = refl
  names_bound (p.pattern n (p.Optional q)) = names_bound q
  names_bound (p.pattern n (p.Tag x)) = refl
  names_bound (p.pattern n (p.Tagged x q)) = names_bound q
  names_bound (p.pattern n (p.Variable x)) = refl
  names_bound (p.pattern n p.Wildcard) = refl
  names_bound (p.pattern n (p.Constant minus l)) = refl
  names_bound (p.pattern n (p.Tuple items)) = names_bound_in_each items
  names_bound (p.pattern n (p.Object fields)) = names_bound_in_fields fields

  pub names_bound_in_each : (qs : Patterns Note) → names_in_each qs ≡ names_of (bound_in_each qs)
  names_bound_in_each p.Nil = refl
  names_bound_in_each (p.Cons q rest) = ap₂ (λ x y. x ++ y) (names_bound q) (names_bound_in_each rest) ∙ sym (map_append (λ x. x.0) (bound_names q) (bound_in_each rest))

  pub names_bound_in_fields : (qs : PatternFields Note) → names_in_fields qs ≡ names_of (bound_in_fields qs)
  names_bound_in_fields p.NoFields = refl
  names_bound_in_fields (p.Field x q rest) = ap₂ (λ x y. x ++ y) (names_bound q) (names_bound_in_fields rest) ∙ sym (map_append (λ x. x.0) (bound_names q) (bound_in_fields rest))

pub both : {A : Type 0} (defs : Definitions) (terms : List Term) (j : Judgement A) (P Q : A → Type 0) → Yields defs terms j P → Yields defs terms j Q → Yields defs terms j (λ a. P a × Q a)
both defs terms (Gives a) P Q y z = (y, z)
both defs terms (Fails c place) P Q y z = tt
both defs terms (Asks q next) P Q y z = (λ h. both defs terms (next true) P Q (y.0 h) (z.0 h), λ h. both defs terms (next false) P Q (y.1 h) (z.1 h))
both defs terms (Meets t next) P Q y z = λ h. both defs terms next P Q (y h) (z h)

module _ (defs : Definitions) (terms : List Term) (s : TypeScope) where
  abbrev Same : Pattern ℕ → Scope × Pattern Note → Type 0
  Same q b = names_in b.1 ≡ names_in q

  abbrev SameEach : Patterns ℕ → Scope × Patterns Note → Type 0
  SameEach qs b = names_in_each b.1 ≡ names_in_each qs

  abbrev SameFields : PatternFields ℕ → Scope × PatternFields Note → Type 0
  SameFields qs b = names_in_fields b.1 ≡ names_in_fields qs

  mutual
    pub names_kept : (q : Pattern ℕ) (u : Term) → Yields defs terms (Stands defs s q u) (Same q)
    names_kept (p.pattern at (p.Annotated q a)) u =
        after defs terms (Reads defs s a) _ (λ v. Unit {0}) (Same (p.pattern at (p.Annotated q a))) (anything defs terms (Reads defs s a)) (λ v t. (
          λ below. after defs terms (Stands defs s q v) _ (Same q) (Same (p.pattern at (p.Annotated q a))) (names_kept q v) (λ b i. i),
          λ no. tt,
        ))
    names_kept (p.pattern at (p.Alternative q r)) u =
        after defs terms (Stands defs s q u) _ (Same q) (Same (p.pattern at (p.Alternative q r))) (names_kept q u) (λ b i.
        tests defs terms _ _ (is_empty b.0) _ (Same (p.pattern at (p.Alternative q r))) (λ e.
        after defs terms (Stands defs s r u) _ (Same r) (Same (p.pattern at (p.Alternative q r))) (names_kept r u) (λ c j.
        tests defs terms _ _ (is_empty c.0) _ (Same (p.pattern at (p.Alternative q r))) (λ f. refl))))
    names_kept (p.pattern at (p.Optional q)) u =
        given defs terms _ _ (opt_of (head defs u)) _ (Same (p.pattern at (p.Optional q))) (λ v e.
        after defs terms (Stands defs s q v) _ (Same q) (Same (p.pattern at (p.Optional q))) (names_kept q v) (λ b i. i))
    names_kept (p.pattern at (p.Tag x)) u =
        given defs terms _ _ (variant_of (head defs u)) _ (Same (p.pattern at (p.Tag x))) (λ tags e.
        given defs terms _ _ (find x tags) _ (Same (p.pattern at (p.Tag x))) (λ f found.
        given defs terms _ _ (tuple_of (head defs f.part)) _ (Same (p.pattern at (p.Tag x))) (λ parts et.
        tests defs terms _ _ (is_empty parts) _ (Same (p.pattern at (p.Tag x))) (λ none. refl))))
    names_kept (p.pattern at (p.Tagged x q)) u =
        given defs terms _ _ (variant_of (head defs u)) _ (Same (p.pattern at (p.Tagged x q))) (λ tags e.
        given defs terms _ _ (find x tags) _ (Same (p.pattern at (p.Tagged x q))) (λ f found.
        after defs terms (Stands defs s q f.part) _ (Same q) (Same (p.pattern at (p.Tagged x q))) (names_kept q f.part) (λ b i. i)))
    names_kept (p.pattern at (p.Variable x)) u = refl
    names_kept (p.pattern at p.Wildcard) u = refl
    names_kept (p.pattern at (p.Constant minus l)) u =
        after defs terms (LiteralStands at minus l (head defs u)) _ (λ x. Unit {0}) (Same (p.pattern at (p.Constant minus l))) (anything defs terms (LiteralStands at minus l (head defs u))) (λ x i. refl)
    names_kept (p.pattern at (p.Tuple items)) u =
        given defs terms _ _ (tuple_of (head defs u)) _ (Same (p.pattern at (p.Tuple items))) (λ us e.
        after defs terms (EachStands defs s at items us) _ (SameEach items) (Same (p.pattern at (p.Tuple items))) (each_kept at items us) (λ b i. i))
    names_kept (p.pattern at (p.Object fields)) u =
        given defs terms _ _ (object_of (head defs u)) _ (Same (p.pattern at (p.Object fields))) (λ fs e.
        after defs terms (FieldsStand defs s fields fs) _ (SameFields fields) (Same (p.pattern at (p.Object fields))) (fields_kept fields fs) (λ b i. i))

    each_kept : (at : ℕ) (qs : Patterns ℕ) (us : List Term) → Yields defs terms (EachStands defs s at qs us) (SameEach qs)
    each_kept at p.Nil [] = refl
    each_kept at p.Nil (u ∷ us) = tt
    each_kept at (p.Cons q rest) [] = tt
    each_kept at (p.Cons q rest) (u ∷ us) =
        after defs terms (Stands defs s q u) _ (Same q) (SameEach (p.Cons q rest)) (names_kept q u) (λ b i.
        after defs terms (EachStands defs s at rest us) _ (SameEach rest) (SameEach (p.Cons q rest)) (each_kept at rest us) (λ c j. ap₂ (λ x y. x ++ y) i j))

    fields_kept : (qs : PatternFields ℕ) (fs : List (Field Term)) → Yields defs terms (FieldsStand defs s qs fs) (SameFields qs)
    fields_kept p.NoFields fs = refl
    fields_kept (p.Field x q rest) fs =
        given defs terms _ _ (find x.bytes fs) _ (SameFields (p.Field x q rest)) (λ f found.
        tests defs terms _ _ (not f.mutable) _ (SameFields (p.Field x q rest)) (λ fixed.
        after defs terms (Stands defs s q f.part) _ (Same q) (SameFields (p.Field x q rest)) (names_kept q f.part) (λ b i.
        after defs terms (FieldsStand defs s rest fs) _ (SameFields rest) (SameFields (p.Field x q rest)) (fields_kept rest fs) (λ c j. ap₂ (λ x y. x ++ y) i j))))
