-- Patterns: the names that they bind, and the types that are written in them.
use Rattle.std.proofs.Common.{◌≡◌, ℕ, Bool, true, false, List, [], ◌∷◌, Option, Some, None, refl, subst}
use Rattle.std.specs.Prelude.{◌||◌, is_some, not}
use Rattle.std.specs.Str.{is_utf8}
use Rattle.mo_types.specs.declared.node.Node.{Node}
use Rattle.mo_types.specs.declared.node.Field.{Field}
use Rattle.mo_types.specs.Heads.{number_of, is_bool, is_char, is_text, is_blob, is_null, opt_of, tuple_of, object_of, variant_of}
use Rattle.mo_types.specs.Sub.{Each, find}
use Rattle.mo_values.specs.Parts.{is_in_range}
use Rattle.typed_tree.specs.Instances.{field_types}
use Rattle.typing_rules.specs.declared.condition.Condition.TheVariants as condition
use Rattle.typing_rules.specs.AbstractSyntax.{Literal, TypeNode, Pattern, Patterns, PatternFields}
use Rattle.typing_rules.specs.AbstractSyntax as p
use Rattle.typing_rules.specs.Contexts.{Scope}
use Rattle.typing_rules.specs.DeclaredTypes.{pattern_fields, patterns_fields, fields_fields}
use Rattle.typing_rules.specs.Definitions.{Definitions}
use Rattle.typing_rules.specs.Heads.{head}
use Rattle.typing_rules.specs.Judgements.{IsBelow, Fine}
use Rattle.typing_rules.specs.Patterns.{signed, is_empty, LiteralStands, Stands, EachStands, FieldsStand}
use Rattle.typing_rules.specs.Terms.{Term, Fields}
use Rattle.typing_rules.specs.Types.{Proper, Reads, ReadsEach, ReadsOr}
use Rattle.typing_rules.specs.TypedTrees.{Note}
use Rattle.typing_rules.specs.TypeScopes.{TypeScope, term, term_or}
use Rattle.proper_laws.specs.Proper.{IsProper, FieldsAreProper}
use Rattle.proper_laws.specs.Source.{IsTypeSource, IsAnnotationSource, IsPatternSource, ArePatternsSource, ArePatternFieldsSource}
use Rattle.proper_laws.proofs.Meeting.{given, tests, if_so, needs}
use Rattle.proper_laws.proofs.Unfolding.{proper_met}
use Rattle.proper_laws.proofs.Written.{proper_written}
use Rattle.meeting_laws.proofs.Basics.{each_both, Whole, Known, Plain, Meeting, IsScopeFine, after, known, parts_of}
use Rattle.meeting_laws.proofs.Parts.{option_part, tuple_parts, object_parts, variant_parts, field_part}

module _ (defs : Definitions) where
  pub spread : (us : List Term) → (Whole defs → Each (IsProper defs) us) → Each (Plain defs) us
  spread [] h = tt
  spread (u ∷ us) h = (λ w. (h w).0, spread us (λ w. (h w).1))

  pub gather : (us : List Term) → Each (Plain defs) us → Whole defs → Each (IsProper defs) us
  gather [] h w = tt
  gather (u ∷ us) h w = (h.0 w, gather us h.1 w)

  -- ---- types that are read

  abbrev pub IsRead : TypeScope → TypeNode → Term → Type 0
  IsRead s a u = (u ≡ term s a) × IsProper defs u

  pub reads : (s : TypeScope) (a : TypeNode) → IsTypeSource a → Meeting defs (Reads defs s a) (IsRead s a)
  reads s a h = after defs (Proper defs s a) _ _ _ (proper_written defs (Known defs) s a h) (λ z k. (λ w. proper_met defs (term s a) k, (refl, k)))

  pub reads_or : (s : TypeScope) (o : Option TypeNode) (u : Term) → IsAnnotationSource o → IsProper defs u → Meeting defs (ReadsOr defs s o u) (λ v. (v ≡ term_or s o u) × IsProper defs v)
  reads_or s None u h k = (refl, k)
  reads_or s (Some a) u h k = reads s a h

  pub reads_each : (s : TypeScope) (us : List TypeNode) → Each IsTypeSource us → Meeting defs (ReadsEach defs s us) (λ vs. Each (IsProper defs) vs)
  reads_each s [] h = tt
  reads_each s (a ∷ rest) h = after defs (Reads defs s a) _ _ _ (reads s a h.0) (λ v r. after defs (ReadsEach defs s rest) _ _ (λ vs. Each (IsProper defs) vs) (reads_each s rest h.1) (λ vs k. (r.1, k)))

  -- ---- patterns

  -- its names give an object proper fields, in whatever object
  abbrev pub PatternGives : TypeScope → Pattern ℕ → Type 0
  PatternGives s q = (rest : Fields) → FieldsAreProper defs rest → FieldsAreProper defs (pattern_fields s q rest)

  abbrev PatternsGive : TypeScope → Patterns ℕ → Type 0
  PatternsGive s qs = (rest : Fields) → FieldsAreProper defs rest → FieldsAreProper defs (patterns_fields s qs rest)

  abbrev PatternFieldsGive : TypeScope → PatternFields ℕ → Type 0
  PatternFieldsGive s qs = (rest : Fields) → FieldsAreProper defs rest → FieldsAreProper defs (fields_fields s qs rest)

  under_gives : (s : TypeScope) (n : ℕ) (q : Pattern ℕ) (a : TypeNode) → IsProper defs (term s a) → PatternGives s q → PatternGives s (p.pattern n (p.Annotated q a))
  under_gives s n (p.pattern m (p.Variable x)) a h k = λ rest l. (h, l)
  under_gives s n (p.pattern m (p.Annotated q b)) a h k = k
  under_gives s n (p.pattern m (p.Alternative q r)) a h k = k
  under_gives s n (p.pattern m (p.Optional q)) a h k = k
  under_gives s n (p.pattern m (p.Tag x)) a h k = k
  under_gives s n (p.pattern m (p.Tagged x q)) a h k = k
  under_gives s n (p.pattern m p.Wildcard) a h k = k
  under_gives s n (p.pattern m (p.Constant minus l)) a h k = k
  under_gives s n (p.pattern m (p.Tuple items)) a h k = k
  under_gives s n (p.pattern m (p.Object items)) a h k = k

  abbrev Anything : Unit {0} → Type 0
  Anything z = Unit {0}

  literal_stands : (at : ℕ) (minus : Bool) (l : Literal) (y : Node Term) → Meeting defs (LiteralStands at minus l y) Anything
  literal_stands at minus (p.Number n) y =
      given defs (Known defs) condition.PatternType at (number_of y) _ Anything (λ k e. tests defs (Known defs) condition.LiteralRange at (is_in_range k (signed minus n)) Fine Anything (λ f. tt))
  literal_stands at true (p.Character c) y = tt
  literal_stands at true (p.Text x) y = tt
  literal_stands at true p.True y = tt
  literal_stands at true p.False y = tt
  literal_stands at true p.Null y = tt
  literal_stands at false (p.Character c) y = tests defs (Known defs) condition.PatternType at (is_char y) Fine Anything (λ f. tt)
  literal_stands at false (p.Text x) y =
      if_so defs (Known defs) (is_blob y) _ _ Anything (λ e. tt) (λ e.
      tests defs (Known defs) condition.PatternType at (is_text y) _ Anything (λ f. tests defs (Known defs) condition.Mismatch at (is_utf8 x) Fine Anything (λ g. tt)))
  literal_stands at false p.True y = tests defs (Known defs) condition.PatternType at (is_bool y) Fine Anything (λ f. tt)
  literal_stands at false p.False y = tests defs (Known defs) condition.PatternType at (is_bool y) Fine Anything (λ f. tt)
  literal_stands at false p.Null y = tests defs (Known defs) condition.PatternType at (is_null y || is_some (opt_of y)) Fine Anything (λ f. tt)

  module _ (s : TypeScope) where
    -- what is bound has the types of parts
    abbrev pub IsStanding : Pattern ℕ → Scope × Pattern Note → Type 0
    IsStanding q b = IsScopeFine defs b.0 × PatternGives s q

    abbrev AreStanding : Patterns ℕ → Scope × Patterns Note → Type 0
    AreStanding qs b = IsScopeFine defs b.0 × PatternsGive s qs

    abbrev FieldsStanding : PatternFields ℕ → Scope × PatternFields Note → Type 0
    FieldsStanding qs b = IsScopeFine defs b.0 × PatternFieldsGive s qs

    mutual
      pub stands : (q : Pattern ℕ) → IsPatternSource q → (u : Term) → Known defs u → Meeting defs (Stands defs s q u) (IsStanding q)
      stands (p.pattern at (p.Annotated q a)) h u k =
          after defs (Reads defs s a) _ _ _ (reads s a h.1) (λ v r.
          needs defs (Known defs) condition.PatternType at (IsBelow u v) _ (IsStanding (p.pattern at (p.Annotated q a))) (λ i.
          after defs (Stands defs s q v) _ _ (IsStanding (p.pattern at (p.Annotated q a))) (stands q h.0 v (λ w. proper_met defs v r.1)) (λ b m.
          (m.0, under_gives s at q a (subst (λ z. IsProper defs z) r.0 r.1) m.1))))
      stands (p.pattern at (p.Alternative q r)) h u k =
          after defs (Stands defs s q u) _ _ (IsStanding (p.pattern at (p.Alternative q r))) (stands q h.0 u k) (λ b m.
          tests defs (Known defs) condition.PatternType at (is_empty b.0) _ (IsStanding (p.pattern at (p.Alternative q r))) (λ e.
          after defs (Stands defs s r u) _ _ (IsStanding (p.pattern at (p.Alternative q r))) (stands r h.1 u k) (λ c n.
          tests defs (Known defs) condition.PatternType at (is_empty c.0) _ (IsStanding (p.pattern at (p.Alternative q r))) (λ f. (tt, λ rest l. l)))))
      stands (p.pattern at (p.Optional q)) h u k =
          given defs (Known defs) condition.PatternType at (opt_of (head defs u)) _ (IsStanding (p.pattern at (p.Optional q))) (λ v e.
          after defs (Stands defs s q v) _ _ (IsStanding (p.pattern at (p.Optional q))) (stands q h v (known defs v (λ w. option_part (IsProper defs) (head defs u) v e (parts_of defs u k (head defs u) refl w)))) (λ b m. (m.0, m.1)))
      stands (p.pattern at (p.Tag x)) h u k =
          given defs (Known defs) condition.PatternType at (variant_of (head defs u)) _ (IsStanding (p.pattern at (p.Tag x))) (λ tags e.
          given defs (Known defs) condition.PatternType at (find x tags) _ (IsStanding (p.pattern at (p.Tag x))) (λ f g.
          given defs (Known defs) condition.PatternType at (tuple_of (head defs f.part)) _ (IsStanding (p.pattern at (p.Tag x))) (λ parts i.
          tests defs (Known defs) condition.PatternType at (is_empty parts) _ (IsStanding (p.pattern at (p.Tag x))) (λ j. (tt, λ rest l. l)))))
      stands (p.pattern at (p.Tagged x q)) h u k =
          given defs (Known defs) condition.PatternType at (variant_of (head defs u)) _ (IsStanding (p.pattern at (p.Tagged x q))) (λ tags e.
          given defs (Known defs) condition.PatternType at (find x tags) _ (IsStanding (p.pattern at (p.Tagged x q))) (λ f g.
          after defs (Stands defs s q f.part) _ _ (IsStanding (p.pattern at (p.Tagged x q)))
          (stands q h f.part (known defs f.part (λ w. field_part (IsProper defs) x tags f (variant_parts (IsProper defs) (head defs u) tags e (parts_of defs u k (head defs u) refl w)) g))) (λ b m. (m.0, m.1))))
      stands (p.pattern at (p.Variable x)) h u k = (((k, λ e. cc), tt), λ rest l. (tt, l))
      stands (p.pattern at p.Wildcard) h u k = (tt, λ rest l. l)
      stands (p.pattern at (p.Constant minus l)) h u k =
          after defs (LiteralStands at minus l (head defs u)) _ _ (IsStanding (p.pattern at (p.Constant minus l))) (literal_stands at minus l (head defs u)) (λ z m. (tt, λ rest n. n))
      stands (p.pattern at (p.Tuple items)) h u k =
          given defs (Known defs) condition.PatternType at (tuple_of (head defs u)) _ (IsStanding (p.pattern at (p.Tuple items))) (λ parts e.
          after defs (EachStands defs s at items parts) _ _ (IsStanding (p.pattern at (p.Tuple items)))
          (each_stands at items h parts (spread parts (λ w. tuple_parts (IsProper defs) (head defs u) parts e (parts_of defs u k (head defs u) refl w)))) (λ b m. (m.0, m.1)))
      stands (p.pattern at (p.Object fields)) h u k =
          given defs (Known defs) condition.PatternType at (object_of (head defs u)) _ (IsStanding (p.pattern at (p.Object fields))) (λ fs e.
          after defs (FieldsStand defs s fields fs) _ _ (IsStanding (p.pattern at (p.Object fields)))
          (fields_stand fields h fs (λ w. object_parts (IsProper defs) (head defs u) fs e (parts_of defs u k (head defs u) refl w))) (λ b m. (m.0, m.1)))

      each_stands : (at : ℕ) (qs : Patterns ℕ) → ArePatternsSource qs → (us : List Term) → Each (Plain defs) us → Meeting defs (EachStands defs s at qs us) (AreStanding qs)
      each_stands at p.Nil h [] k = (tt, λ rest l. l)
      each_stands at p.Nil h (u ∷ us) k = tt
      each_stands at (p.Cons q rest) h [] k = tt
      each_stands at (p.Cons q rest) h (u ∷ us) k =
          after defs (Stands defs s q u) _ _ (AreStanding (p.Cons q rest)) (stands q h.0 u (known defs u k.0)) (λ b m.
          after defs (EachStands defs s at rest us) _ _ (AreStanding (p.Cons q rest)) (each_stands at rest h.1 us k.1) (λ c n.
          (each_both _ c.0 b.0 n.0 m.0, λ more l. m.1 (patterns_fields s rest more) (n.1 more l))))

      fields_stand : (qs : PatternFields ℕ) → ArePatternFieldsSource qs → (fs : List (Field Term)) → (Whole defs → Each (IsProper defs) (field_types fs)) → Meeting defs (FieldsStand defs s qs fs) (FieldsStanding qs)
      fields_stand p.NoFields h fs k = (tt, λ rest l. l)
      fields_stand (p.Field x q rest) h fs k =
          given defs (Known defs) condition.PatternType x.at (find x.bytes fs) _ (FieldsStanding (p.Field x q rest)) (λ f e.
          tests defs (Known defs) condition.PatternType x.at (not f.mutable) _ (FieldsStanding (p.Field x q rest)) (λ g.
          after defs (Stands defs s q f.part) _ _ (FieldsStanding (p.Field x q rest)) (stands q h.0 f.part (known defs f.part (λ w. field_part (IsProper defs) x.bytes fs f (k w) e))) (λ b m.
          after defs (FieldsStand defs s rest fs) _ _ (FieldsStanding (p.Field x q rest)) (fields_stand rest h.1 fs k) (λ c n.
          (each_both _ c.0 b.0 n.0 m.0, λ more l. m.1 (fields_fields s rest more) (n.1 more l))))))
