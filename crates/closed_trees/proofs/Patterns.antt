-- A pattern that stands on a type is typed, in an environment, as one that meets values of what the type comes to.
use Rattle.std.proofs.Common.{◌≡◌, ℕ, inl, List, [], ◌∷◌, ◌++◌, map, length, refl, sym, subst}
use Rattle.mo_types.specs.declared.datum.Datum.TheVariants as part
use Rattle.mo_types.specs.declared.node.Field.{Field}
use Rattle.mo_types.specs.declared.node.Node.TheVariants as node
use Rattle.mo_types.specs.declared.node.TypeId.{TypeId}
use Rattle.mo_types.specs.Graph.{Slot, head_at}
use Rattle.mo_subtype.specs.Renamed.{on_field}
use Rattle.typed_tree.specs.declared.literal.Literal.{Literal}
use Rattle.typed_tree.specs.declared.literal.Literal.TheVariants as literal
use Rattle.typed_tree.specs.declared.pattern.TypedPattern.{TypedPattern, roll-TypedPattern, ind-TypedPattern, map-TypedPattern, fold-roll-TypedPattern}
use Rattle.typed_tree.specs.declared.pattern.PatternForm.{PatternForm, roll-PatternForm, map-PatternForm, fold-roll-PatternForm}
use Rattle.typed_tree.specs.declared.pattern.PatternForm.TheOpen as P
use Rattle.typed_tree.specs.declared.pattern.PatternField.{PatternField, roll-PatternField, map-PatternField, fold-roll-PatternField}
use Rattle.typed_tree.specs.Instances.{MentionsOnly}
use Rattle.typed_tree.specs.MemberTypes.{IsField}
use Rattle.typed_tree.specs.Patterns.{Pat}
use Rattle.typed_tree.specs.PatternTypes.{LiteralOf, IsPlainLiteral, EachStands, FieldsStand, Stands, FormStands, FieldStands}
use Rattle.typed_tree.specs.PatternView.{LabelledPat, form_step, field_step, pattern_step, literal_pattern, pats, pattern, pattern_form, patterns}
use Rattle.typed_tree.specs.Types.{AreLawful}
use Rattle.typed_tree.specs.TypingLaws.{form_standing, field_standing, pattern_standing}
use Rattle.typed_tree.specs.ViewLaws.{field}
use Rattle.typed_tree.specs.Wants.{Want, Of, Below}
use Rattle.typed_tree.proofs.Rules as rules
use Rattle.closed_types.specs.Closings.{Closing}
use Rattle.closed_types.specs.Environments.{IsEnvironment}
use Rattle.closed_types.specs.Expanded.{Environment, close_in, expanded}
use Rattle.closed_types.proofs.Environments.{below_there}
use Rattle.closed_types.proofs.Expanded.{closing}
use Rattle.closed_rules.proofs.Heads.{at, found_as, field_at}
use Rattle.mo_soundness.specs.Lawful.{IsLawful}
use Rattle.mo_soundness.specs.RunningPatterns.{FieldTypes, PatternTyped, PatternsTyped}
use Rattle.std.specs.Prelude.{◌≤◌}
use Rattle.closed_trees.specs.Seen.{SeesAll}
use Rattle.closed_trees.proofs.Literals.{part_there}
use Rattle.closed_trees.proofs.Seen.{sees_append, sees_as, sees_self}

-- ---- what a layer stands for

abbrev form_view : P.PatternForm-F PatternForm PatternField TypedPattern → Pat
form_view x = form_step (map-PatternForm PatternForm PatternField TypedPattern Pat LabelledPat Pat pattern_form field pattern x)

form_viewed : (x : P.PatternForm-F PatternForm PatternField TypedPattern) → pattern_form (roll-PatternForm x) ≡ form_view x
unfolding pattern_form field pattern
form_viewed x = fold-roll-PatternForm Pat LabelledPat Pat form_step field_step pattern_step x

field_viewed : (x : P.PatternField-F PatternForm PatternField TypedPattern) → field (roll-PatternField x) ≡ record { label = x.label; pattern = pattern x.pattern }
unfolding pattern_form field pattern
field_viewed x = fold-roll-PatternField Pat LabelledPat Pat form_step field_step pattern_step x

pattern_viewed : (x : P.TypedPattern-F PatternForm PatternField TypedPattern) → pattern (roll-TypedPattern x) ≡ pattern_form x.form
unfolding pattern_form field pattern
pattern_viewed x = fold-roll-TypedPattern Pat LabelledPat Pat form_step field_step pattern_step x

module _ (types : List Slot) (first : ℕ) (past : length types ≤ first) (graph : AreLawful types) (lawful : IsLawful (expanded types first)) (vs : List ℕ) (e : Environment) (around : IsEnvironment types first vs e) where
  abbrev close : TypeId → TypeId
  close t = close_in types first e t

  abbrev other : TypeId → TypeId → Type 0
  other t u = Below (expanded types first) t u

  abbrev c : Closing (head_at types) (expanded types first)
  c = closing types first past e

  below : (t u : TypeId) → Below (head_at types) t u → Below (expanded types first) (close t) (close u)
  below t u b = below_there types first past graph vs e around t u b

  abbrev Meets : Pat → TypeId → List (Want TypeId) → Type 0
  Meets p t ns = (ms : List (Want TypeId)) × SeesAll types first vs e ns ms × PatternTyped (expanded types first) p (close t) ms

  abbrev FormClaim : PatternForm → Type 0
  FormClaim f = (s t : TypeId) (ns : List (Want TypeId)) → MentionsOnly (head_at types) vs s → Below (head_at types) t s → FormStands types vs f s ns → Meets (pattern_form f) t ns

  abbrev FieldClaim : PatternField → Type 0
  FieldClaim x = (fs : List (Field TypeId)) (ns : List (Want TypeId)) → FieldStands types vs x fs ns → (t : TypeId) × IsField (head_at types) fs (field x).label t × Meets (field x).pattern t ns

  abbrev PatternClaim : TypedPattern → Type 0
  PatternClaim p = (t : TypeId) (ns : List (Want TypeId)) → Stands types vs p t ns → Meets (pattern p) t ns

  abbrev K0 : Type 0
  K0 = (x : PatternForm) × FormClaim x

  abbrev K1 : Type 0
  K1 = (x : PatternField) × FieldClaim x

  abbrev K2 : Type 0
  K2 = (x : TypedPattern) × PatternClaim x

  no_names : (ns : List (Want TypeId)) → ns ≡ [] → SeesAll types first vs e ns []
  no_names ns q = sees_as types first vs e ns [] [] q tt

  literal_typed : (l : Literal) (s t : TypeId) → Below (head_at types) t s → LiteralOf (head_at types) l s → IsPlainLiteral l → PatternTyped (expanded types first) (literal_pattern l) (close t) []
  literal_typed literal.Unit s t b h i = (close s, [], below t s b, at (head_at types) (expanded types first) c s (node.Tuple []) h refl, refl)
  literal_typed literal.Null s t b h i = (close s, below t s b, tt, inl (part_there types first past e part.Null s h.1), refl)
  literal_typed (literal.Flag f) s t b h i = (close s, below t s b, tt, inl (part_there types first past e (part.Flag f) s h.1), refl)
  literal_typed (literal.Number n) s t b h i = (close s, below t s b, tt, inl (part_there types first past e (part.Number n) s h.1), refl)
  literal_typed (literal.Character k) s t b h i = (close s, below t s b, tt, inl (part_there types first past e (part.Char k) s h.1), refl)
  literal_typed (literal.Text x) s t b h i = (close s, below t s b, tt, inl (part_there types first past e (part.Text x) s h.1), refl)
  literal_typed (literal.Blob x) s t b h i = (close s, below t s b, tt, inl (part_there types first past e (part.Blob x) s h.1), refl)
  literal_typed (literal.Actor p) s t b h i = absurd i

  -- a pattern without names has none in the environment either
  no_name : (p : Pat) (t : TypeId) (ms : List (Want TypeId)) → SeesAll types first vs e [] ms → PatternTyped (expanded types first) p (close t) ms → PatternTyped (expanded types first) p (close t) []
  no_name p t [] q h = h
  no_name p t (m ∷ ms) q h = absurd q

  abbrev AllMeet : List TypedPattern → List TypeId → List (Want TypeId) → Type 0
  AllMeet ps ts ns = (ms : List (Want TypeId)) × SeesAll types first vs e ns ms × PatternsTyped (expanded types first) (pats (map pattern ps)) (map close ts) ms

  joined : (ns ks ls ms os : List (Want TypeId)) → ns ≡ ks ++ ls → SeesAll types first vs e ks ms → SeesAll types first vs e ls os → SeesAll types first vs e ns (ms ++ os)
  joined ns ks ls ms os q h i = sees_as types first vs e ns (ks ++ ls) (ms ++ os) q (sees_append types first vs e ks ms ls os h i)

  each_typed : (ps : List K2) (ts : List TypeId) (ns : List (Want TypeId)) → EachStands (Stands types vs) (map (λ p. p.0) ps) ts ns → AllMeet (map (λ p. p.0) ps) ts ns
  each_typed [] [] ns h = ([], no_names ns h, refl)
  each_typed [] (t ∷ ts) ns h = absurd h
  each_typed (p ∷ ps) [] ns h = absurd h
  each_typed (p ∷ ps) (t ∷ ts) ns h =
      let k = p.1 t h.0 h.3 in
      let l = each_typed ps ts h.1 h.4 in
      (k.0 ++ l.0, joined ns h.0 h.1 k.0 l.0 h.2 k.1 l.1, (k.0, l.0, refl, k.2, l.2))

  abbrev FieldsMeet : List K1 → List (Field TypeId) → List (Want TypeId) → Type 0
  FieldsMeet xs fs ns =
      (ts : List TypeId) × (ms : List (Want TypeId)) × SeesAll types first vs e ns ms
      × FieldTypes (expanded types first) (map (on_field close) fs) (map (λ (l : LabelledPat). l.label) (map field (map (λ (x : K1). x.0) xs))) ts
      × PatternsTyped (expanded types first) (pats (map (λ (l : LabelledPat). l.pattern) (map field (map (λ (x : K1). x.0) xs)))) ts ms

  fields_typed : (xs : List K1) (fs : List (Field TypeId)) (ns : List (Want TypeId)) → FieldsStand (FieldStands types vs) (map (λ x. x.0) xs) fs ns → FieldsMeet xs fs ns
  fields_typed [] fs ns h = ([], [], no_names ns h, refl, refl)
  fields_typed (x ∷ xs) fs ns h =
      let k = x.1 fs h.0 h.3 in
      let l = fields_typed xs fs h.1 h.4 in
      let f = field_at (head_at types) (expanded types first) c fs (field x.0).label k.0 k.1 in
      (close k.0 ∷ l.0, k.2.0 ++ l.1, joined ns h.0 h.1 k.2.0 l.1 h.2 k.2.1 l.2, (close k.0, l.0, f, refl, l.3), (k.2.0, l.1, refl, k.2.2, l.4))

  form_typed : (y : P.PatternForm-F K0 K1 K2) (s t : TypeId) (ns : List (Want TypeId)) → MentionsOnly (head_at types) vs s → Below (head_at types) t s
      → form_standing types vs (map-PatternForm K0 K1 K2 PatternForm PatternField TypedPattern (λ z. z.0) (λ z. z.0) (λ z. z.0) y) s ns
      → Meets (form_view (map-PatternForm K0 K1 K2 PatternForm PatternField TypedPattern (λ z. z.0) (λ z. z.0) (λ z. z.0) y)) t ns
  form_typed P.Wildcard s t ns m b h = ([], no_names ns h, refl)
  form_typed P.Bind s t ns m b h = (Of (close s) ∷ [], sees_as types first vs e ns (Of s ∷ []) (Of (close s) ∷ []) h ((close s, refl, sees_self types first lawful vs e s m), tt), (close s, below t s b, refl))
  form_typed (P.Constant l) s t ns m b h = ([], no_names ns h.2, literal_typed l s t b h.0 h.1)
  form_typed (P.Present p) s t ns m b h =
      let k = p.1 h.0 ns h.2 in
      (k.0, k.1, (close s, close h.0, below t s b, inl (at (head_at types) (expanded types first) c s (node.Opt h.0) h.1 refl), k.2))
  form_typed (P.Tagged l p) s t ns m b h =
      let k = p.1 h.1.part ns h.4 in
      (k.0, k.1, (close s, map (on_field close) h.0, on_field close h.1, below t s b, at (head_at types) (expanded types first) c s (node.Variant h.0) h.2 refl, found_as close l h.0 h.1 h.3, k.2))
  form_typed (P.Parts ps) s t ns m b h =
      let k = each_typed ps h.0 ns h.2 in
      (k.0, k.1, (close s, map close h.0, below t s b, at (head_at types) (expanded types first) c s (node.Tuple h.0) h.1 refl, k.2))
  form_typed (P.Fields xs) s t ns m b h =
      let k = fields_typed xs h.0 ns h.2 in
      (k.1, k.2, (close s, map (on_field close) h.0, k.0, below t s b, at (head_at types) (expanded types first) c s (node.Object h.0) h.1 refl, k.3, k.4))
  form_typed (P.Either p q) s t ns m b h =
      let k = p.1 s [] h.0 in
      let l = q.1 s [] h.1 in
      ([], no_names ns h.2, (close s, below t s b, no_name (pattern p.0) s k.0 k.1 k.2, no_name (pattern q.0) s l.0 l.1 l.2, refl))

  form_case : (y : P.PatternForm-F K0 K1 K2) → FormClaim (roll-PatternForm (map-PatternForm K0 K1 K2 PatternForm PatternField TypedPattern (λ z. z.0) (λ z. z.0) (λ z. z.0) y))
  form_case y s t ns m b h = subst (λ (p : Pat). Meets p t ns) (sym (form_viewed _)) (form_typed y s t ns m b ((rules.pattern_forms types vs _ s ns).0 h))

  field_case : (y : P.PatternField-F K0 K1 K2) → FieldClaim (roll-PatternField (map-PatternField K0 K1 K2 PatternForm PatternField TypedPattern (λ z. z.0) (λ z. z.0) (λ z. z.0) y))
  field_case y fs ns h =
      let f : field_standing types vs (map-PatternField K0 K1 K2 PatternForm PatternField TypedPattern (λ z. z.0) (λ z. z.0) (λ z. z.0) y) fs ns = (rules.fields types vs _ fs ns).0 h in
      subst (λ (l : LabelledPat). (t : TypeId) × IsField (head_at types) fs l.label t × Meets l.pattern t ns) (sym (field_viewed _)) (f.0, f.1, y.pattern.1 f.0 ns f.2)

  pattern_case : (y : P.TypedPattern-F K0 K1 K2) → PatternClaim (roll-TypedPattern (map-TypedPattern K0 K1 K2 PatternForm PatternField TypedPattern (λ z. z.0) (λ z. z.0) (λ z. z.0) y))
  pattern_case y t ns h =
      let f : pattern_standing types vs (map-TypedPattern K0 K1 K2 PatternForm PatternField TypedPattern (λ z. z.0) (λ z. z.0) (λ z. z.0) y) t ns = (rules.patterns types vs _ t ns).0 h in
      subst (λ (p : Pat). Meets p t ns) (sym (pattern_viewed _)) (y.form.1 y.of_type t ns f.1.1 f.0 f.2)

  pub pattern_typed : (p : TypedPattern) → PatternClaim p
  pattern_typed = ind-TypedPattern FormClaim FieldClaim PatternClaim
      (λ x y is. subst (λ z. FormClaim (roll-PatternForm z)) is (form_case y))
      (λ x y is. subst (λ z. FieldClaim (roll-PatternField z)) is (field_case y))
      (λ x y is. subst (λ z. PatternClaim (roll-TypedPattern z)) is (pattern_case y))

  pub all_typed : (ps : List TypedPattern) (ts : List TypeId) (ns : List (Want TypeId)) → EachStands (Stands types vs) ps ts ns → (ms : List (Want TypeId)) × SeesAll types first vs e ns ms × PatternsTyped (expanded types first) (patterns ps) (map close ts) ms
  all_typed [] [] ns h = ([], no_names ns h, refl)
  all_typed [] (t ∷ ts) ns h = absurd h
  all_typed (p ∷ ps) [] ns h = absurd h
  all_typed (p ∷ ps) (t ∷ ts) ns h =
      let k = pattern_typed p t h.0 h.3 in
      let l = all_typed ps ts h.1 h.4 in
      (k.0 ++ l.0, joined ns h.0 h.1 k.0 l.0 h.2 k.1 l.1, (k.0, l.0, refl, k.2, l.2))
