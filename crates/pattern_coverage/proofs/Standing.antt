-- A pattern that stands on a type looks only into what each value of the type has.
use Rattle.std.proofs.Common.{◌≡◌, ◌⊎◌, inl, inr, ℕ, zero, suc, List, [], ◌∷◌, length, map, Bool, true, false, Option, Some, None, refl, sym, subst}
use Rattle.mo_types.specs.declared.datum.Datum.{Datum}
use Rattle.mo_types.specs.declared.datum.Datum.TheVariants as part
use Rattle.mo_types.specs.declared.node.Field.{Field}
use Rattle.mo_types.specs.declared.node.Node.{Node}
use Rattle.mo_types.specs.declared.node.Node.TheVariants as node
use Rattle.mo_types.specs.declared.node.TypeId.{TypeId}
use Rattle.mo_types.specs.Graph.{Slot, head_at}
use Rattle.mo_types.specs.Sub.{AtSome, IsSubtype, Each, Pairwise, Fitting, FieldsBelow, TagsBelow, find}
use Rattle.mo_types.specs.Values.{IsPartOf}
use Rattle.mo_values.specs.Shapes.{Bytes}
use Rattle.subtype_laws.proofs.Inversion.{to_above, from_above, to_below}
use Rattle.subtype_laws.proofs.Reflexive as reflexivity
use Rattle.subtype_laws.proofs.Transitive as transitivity
use Rattle.subtype_laws.specs.Bounds.{OneBound}
use Rattle.subtype_laws.specs.Inversion.{IsAbove, IsBelow, OtherBelow}
use Rattle.typed_tree.specs.declared.literal.Literal.{Literal}
use Rattle.typed_tree.specs.declared.literal.Literal.TheVariants as literal
use Rattle.typed_tree.specs.declared.pattern.TypedPattern.{TypedPattern, roll-TypedPattern, ind-TypedPattern, map-TypedPattern, fold-roll-TypedPattern}
use Rattle.typed_tree.specs.declared.pattern.PatternForm.{PatternForm, roll-PatternForm, map-PatternForm, fold-roll-PatternForm}
use Rattle.typed_tree.specs.declared.pattern.PatternForm.TheOpen as P
use Rattle.typed_tree.specs.declared.pattern.PatternField.{PatternField, roll-PatternField, map-PatternField, fold-roll-PatternField}
use Rattle.typed_tree.specs.Has.{IsLeafPart}
use Rattle.typed_tree.specs.MemberTypes.{IsField}
use Rattle.typed_tree.specs.Patterns.{Pat, Pats, Wildcard, Bind, Constant, Present?, Tagged, Parts, Fields, Either, NoPat, APat}
use Rattle.typed_tree.specs.PatternTypes.{EachStands, FieldsStand, Stands, FormStands, FieldStands, LiteralOf, IsPlainLiteral}
use Rattle.typed_tree.specs.PatternView.{LabelledPat, form_step, field_step, pattern_step, literal_pattern, pats, pattern, pattern_form}
use Rattle.typed_tree.specs.Types.{AreLawful}
use Rattle.typed_tree.specs.TypingLaws.{form_standing, field_standing, pattern_standing}
use Rattle.typed_tree.specs.ViewLaws.{field}
use Rattle.typed_tree.specs.Wants.{Want, Below}
use Rattle.typed_tree.proofs.Rules as rules
use Rattle.pattern_coverage.specs.Followed.{along, followed, end_of, value_head}
use Rattle.pattern_coverage.specs.Suited.{IsTold, OnOption, OnPart, OnVariant, OnTuple, OnObject, IsOn, AreOn, FieldsOn, IsNoParameter}
use Rattle.pattern_coverage.proofs.Ends.{ends}
use Rattle.pattern_coverage.proofs.Having.{found_each, at_some}
use Rattle.typed_tree.proofs.OwnLabels.{labels_own}
use Rattle.pattern_coverage.proofs.Seen.{no}
use Rattle.pattern_coverage.proofs.Tag.{found_label}

-- ---- what a layer stands for

abbrev form_view : P.PatternForm-F PatternForm PatternField TypedPattern → Pat
form_view x = form_step (map-PatternForm PatternForm PatternField TypedPattern Pat LabelledPat Pat pattern_form field pattern x)

form_viewed : (x : P.PatternForm-F PatternForm PatternField TypedPattern) → pattern_form (roll-PatternForm x) ≡ form_view x
unfolding pattern_form field pattern
form_viewed x = fold-roll-PatternForm Pat LabelledPat Pat form_step field_step pattern_step x

field_viewed : (x : P.PatternField-F PatternForm PatternField TypedPattern) → field (roll-PatternField x) ≡ record { label = x.label; pattern = pattern x.pattern }
unfolding pattern_form field pattern
field_viewed x = fold-roll-PatternField Pat LabelledPat Pat form_step field_step pattern_step x

pattern_viewed : (x : P.TypedPattern-F PatternForm PatternField TypedPattern) → pattern (roll-TypedPattern x) ≡ pattern_form x.form
unfolding pattern_form field pattern
pattern_viewed x = fold-roll-TypedPattern Pat LabelledPat Pat form_step field_step pattern_step x

module _ (types : List Slot) (lawful : AreLawful types) (vs : List ℕ) where
  abbrev head : TypeId → Node TypeId
  head = head_at types

  -- by which the values go
  abbrev vhead : TypeId → Node TypeId
  vhead = value_head types

  pub reflexive : (t : TypeId) → IsSubtype head t t
  reflexive t = reflexivity.reflexive head t (λ u r. labels_own types lawful u)

  one_bound : OneBound head
  one_bound t u b c v e f = subst (IsSubtype head b) (lawful.bounds t u b c v e f) (reflexive b)

  transitive : (t u w : TypeId) → IsSubtype head t u → IsSubtype head u w → IsSubtype head t w
  transitive t u w p q = transitivity.transitive head one_bound t u w p q

  -- ---- below a type that is no type parameter a type parameter is where its bound is

  below_followed : (n : ℕ) (t u : TypeId) → IsNoParameter (head u) → Below head t u → Below head (followed types n t) u
  below_followed zero t u k s = s
  below_followed (suc n) t u k s = by (head t) (to_above head t u s) (λ b h. below_followed n b u k h)
    where
      by : (x : Node TypeId) → IsAbove (IsSubtype head) u x (head u) → ((b : TypeId) → Below head b u → Below head (followed types n b) u) → Below head (along (followed types n) t x) u
      by (node.Variable v b) (inl h) m = from_above head (followed types n b) u (inl h)
      by (node.Variable v b) (inr (inl h)) m = absurd (subst IsNoParameter h.1 k)
      by (node.Variable v b) (inr (inr h)) m = m b h
      by x h m = s

  -- the head by which values go, below a type with this head
  below_of : (y : Node TypeId) (t u : TypeId) → head u ≡ y → IsNoParameter y → Below head t u → (vhead t ≡ node.Bottom) ⊎ OtherBelow (IsSubtype head) u y (vhead t)
  below_of y t u e k s = by (subst (λ y. IsBelow (IsSubtype head) u y (vhead t)) e (to_below head (end_of types t) u (below_followed (length types) t u (subst IsNoParameter (sym e) k) s)))
    where
      by : IsBelow (IsSubtype head) u y (vhead t) → (vhead t ≡ node.Bottom) ⊎ OtherBelow (IsSubtype head) u y (vhead t)
      by (inl h) = inl h
      by (inr (inl h)) = absurd (subst IsNoParameter h.2 (ends types lawful t))
      by (inr (inr h)) = inr h

  told_at : (x : Node TypeId) → IsNoParameter x → (x ≡ node.Any → ⊥) → IsTold x
  told_at node.Any n a = a refl
  told_at (node.Variable v b) n a = n
  told_at x n a = tt

  -- ---- literals

  no_literal : (y : Node TypeId) (c : Datum) → y ≡ node.Any → IsLeafPart c → IsPartOf y c → ⊥
  no_literal y c e l h = by c l (subst (λ y. IsPartOf y c) e h)
    where
      by : (c : Datum) → IsLeafPart c → IsPartOf {A = TypeId} node.Any c → ⊥
      by (part.Record n) l h = l
      by c l h = h

  any_below : (t u : TypeId) → head t ≡ node.Any → Below head t u → head u ≡ node.Any
  any_below t u e s = by (subst (λ x. IsAbove (IsSubtype head) u x (head u)) e (to_above head t u s))
    where
      by : IsAbove (IsSubtype head) u node.Any (head u) → head u ≡ node.Any
      by (inl h) = h
      by (inr h) = absurd h

  part_told : (y : Node TypeId) (c : Datum) → IsPartOf y c → IsNoParameter y
  part_told (node.Variable v b) c h = h
  part_told y c h = tt

  constant_told : (c : Datum) (t u : TypeId) → Below head t u → IsLeafPart c → IsPartOf (head u) c → IsTold (vhead t)
  constant_told c t u s l h =
      told_at (vhead t) (ends types lawful t) (λ e. no_literal (head u) c (any_below (end_of types t) u e (below_followed (length types) t u (part_told (head u) c h) s)) l h)

  unit_on : (x : Node TypeId) (u : TypeId) → (x ≡ node.Bottom) ⊎ OtherBelow (IsSubtype head) u (node.Tuple []) x → OnTuple (λ ts. AreOn vhead NoPat ts) x
  unit_on x u (inl h) = subst (OnTuple (λ ts. AreOn vhead NoPat ts)) (sym h) tt
  unit_on x u (inr h) = subst (OnTuple (λ ts. AreOn vhead NoPat ts)) (sym h.1) (none h.0 h.2)
    where
      none : (ts : List TypeId) → Pairwise (IsSubtype head) ts [] → AreOn vhead NoPat ts
      none [] p = tt
      none (t ∷ ts) p = absurd p

  literal_on : (l : Literal) (t u : TypeId) → LiteralOf head l u → IsPlainLiteral l → Below head t u → IsOn vhead (literal_pattern l) t
  literal_on literal.Unit t u h i s = unit_on (vhead t) u (below_of (node.Tuple []) t u h tt s)
  literal_on literal.Null t u h i s = constant_told part.Null t u s h.0 h.1
  literal_on (literal.Flag b) t u h i s = constant_told (part.Flag b) t u s h.0 h.1
  literal_on (literal.Number n) t u h i s = constant_told (part.Number n) t u s h.0 h.1
  literal_on (literal.Character n) t u h i s = constant_told (part.Char n) t u s h.0 h.1
  literal_on (literal.Text x) t u h i s = constant_told (part.Text x) t u s h.0 h.1
  literal_on (literal.Blob x) t u h i s = constant_told (part.Blob x) t u s h.0 h.1
  literal_on (literal.Actor p) t u h i s = absurd i

  -- ---- layers

  abbrev FormClaim : PatternForm → Type 0
  FormClaim f = (u t : TypeId) (ns : List (Want TypeId)) → FormStands types vs f u ns → Below head t u → IsOn vhead (pattern_form f) t

  abbrev FieldClaim : PatternField → Type 0
  FieldClaim x = (fs gs : List (Field TypeId)) (ns : List (Want TypeId)) → FieldStands types vs x gs ns → FieldsBelow (IsSubtype head) fs gs
      → AtSome (find (field x).label fs) (λ f. (f.mutable ≡ false) × IsOn vhead (field x).pattern f.part)

  abbrev PatternClaim : TypedPattern → Type 0
  PatternClaim p = (u t : TypeId) (ns : List (Want TypeId)) → Stands types vs p u ns → Below head t u → IsOn vhead (pattern p) t

  abbrev K0 : Type 0
  K0 = (x : PatternForm) × FormClaim x

  abbrev K1 : Type 0
  K1 = (x : PatternField) × FieldClaim x

  abbrev K2 : Type 0
  K2 = (x : TypedPattern) × PatternClaim x

  each_on : (ps : List K2) (us ts : List TypeId) (ns : List (Want TypeId)) → EachStands (Stands types vs) (map (λ p. p.0) ps) us ns → Pairwise (IsSubtype head) ts us
      → AreOn vhead (pats (map pattern (map (λ p. p.0) ps))) ts
  each_on [] [] [] ns h s = tt
  each_on [] [] (t ∷ ts) ns h s = absurd s
  each_on [] (u ∷ us) ts ns h s = absurd h
  each_on (p ∷ ps) [] ts ns h s = absurd h
  each_on (p ∷ ps) (u ∷ us) [] ns h s = absurd s
  each_on (p ∷ ps) (u ∷ us) (t ∷ ts) ns h s = (p.1 u t h.0 h.3 s.0, each_on ps us ts h.1 h.4 s.1)

  fields_on : (xs : List K1) (fs gs : List (Field TypeId)) (ns : List (Want TypeId)) → FieldsStand (FieldStands types vs) (map (λ x. x.0) xs) gs ns → FieldsBelow (IsSubtype head) fs gs
      → FieldsOn vhead (map (λ (l : LabelledPat). l.label) (map field (map (λ x. x.0) xs))) (pats (map (λ (l : LabelledPat). l.pattern) (map field (map (λ x. x.0) xs)))) fs
  fields_on [] fs gs ns h s = tt
  fields_on (x ∷ xs) fs gs ns h s = (x.1 fs gs h.0 h.3 s, fields_on xs fs gs h.1 h.4 s)

  option_on : (p : K2) (u : TypeId) (ns : List (Want TypeId)) → Stands types vs p.0 u ns → (w : TypeId) (x : Node TypeId) → (x ≡ node.Bottom) ⊎ OtherBelow (IsSubtype head) w (node.Opt u) x
      → OnOption (λ u. IsOn vhead (pattern p.0) u) x
  option_on p u ns h w x (inl b) = subst (OnOption (λ u. IsOn vhead (pattern p.0) u)) (sym b) tt
  option_on p u ns h w x (inr (inl b)) = subst (OnOption (λ u. IsOn vhead (pattern p.0) u)) (sym b) tt
  option_on p u ns h w x (inr (inr b)) = subst (OnOption (λ u. IsOn vhead (pattern p.0) u)) (sym b.1) (p.1 u b.0 ns h b.2)

  tag_on : (l : Bytes) (p : K2) (g : Field TypeId) (gs fs : List (Field TypeId)) (ns : List (Want TypeId)) → find l gs ≡ Some g → Stands types vs p.0 g.part ns → TagsBelow (IsSubtype head) fs gs
      → (o : Option (Field TypeId)) → find l fs ≡ o → OnPart (λ u. IsOn vhead (pattern p.0) u) o
  tag_on l p g gs fs ns e h s None f = tt
  tag_on l p g gs fs ns e h s (Some k) f =
      let a = at_some (λ g. IsSubtype head k.part g.part) (find k.label gs) (found_each (λ f. AtSome (find f.label gs) (λ g. IsSubtype head f.part g.part)) l k fs f s) in
      let same : a.0 ≡ g = (let q : find l gs ≡ Some a.0 = subst (λ l. find l gs ≡ Some a.0) (found_label l fs k f) a.1 in cc) in
      p.1 g.part k.part ns h (subst (λ g. IsSubtype head k.part g.part) same a.2)

  variant_on : (l : Bytes) (p : K2) (g : Field TypeId) (gs : List (Field TypeId)) (ns : List (Want TypeId)) → find l gs ≡ Some g → Stands types vs p.0 g.part ns
      → (w : TypeId) (x : Node TypeId) → (x ≡ node.Bottom) ⊎ OtherBelow (IsSubtype head) w (node.Variant gs) x → OnVariant (λ u. IsOn vhead (pattern p.0) u) l x
  variant_on l p g gs ns e h w x (inl b) = subst (OnVariant (λ u. IsOn vhead (pattern p.0) u) l) (sym b) tt
  variant_on l p g gs ns e h w x (inr b) = subst (OnVariant (λ u. IsOn vhead (pattern p.0) u) l) (sym b.1) (tag_on l p g gs b.0 ns e h b.2 (find l b.0) refl)

  tuple_on : (ps : List K2) (us : List TypeId) (ns : List (Want TypeId)) → EachStands (Stands types vs) (map (λ p. p.0) ps) us ns
      → (w : TypeId) (x : Node TypeId) → (x ≡ node.Bottom) ⊎ OtherBelow (IsSubtype head) w (node.Tuple us) x → OnTuple (λ ts. AreOn vhead (pats (map pattern (map (λ p. p.0) ps))) ts) x
  tuple_on ps us ns h w x (inl b) = subst (OnTuple (λ ts. AreOn vhead (pats (map pattern (map (λ p. p.0) ps))) ts)) (sym b) tt
  tuple_on ps us ns h w x (inr b) =
      subst (OnTuple (λ ts. AreOn vhead (pats (map pattern (map (λ p. p.0) ps))) ts)) (sym b.1) (each_on ps us b.0 ns h b.2)

  abbrev RecordOn : List K1 → Node TypeId → Type 0
  RecordOn xs = OnObject (λ fs. FieldsOn vhead (map (λ (l : LabelledPat). l.label) (map field (map (λ x. x.0) xs))) (pats (map (λ (l : LabelledPat). l.pattern) (map field (map (λ x. x.0) xs)))) fs)

  object_on : (xs : List K1) (gs : List (Field TypeId)) (ns : List (Want TypeId)) → FieldsStand (FieldStands types vs) (map (λ x. x.0) xs) gs ns
      → (w : TypeId) (x : Node TypeId) → (x ≡ node.Bottom) ⊎ OtherBelow (IsSubtype head) w (node.Object gs) x → RecordOn xs x
  object_on xs gs ns h w x (inl b) = subst (RecordOn xs) (sym b) tt
  object_on xs gs ns h w x (inr b) = subst (RecordOn xs) (sym b.1) (fields_on xs b.0 gs ns h b.2)

  abbrev forms : P.PatternForm-F K0 K1 K2 → P.PatternForm-F PatternForm PatternField TypedPattern
  forms y = map-PatternForm K0 K1 K2 PatternForm PatternField TypedPattern (λ z. z.0) (λ z. z.0) (λ z. z.0) y

  form_on : (y : P.PatternForm-F K0 K1 K2) (u t : TypeId) (ns : List (Want TypeId)) → form_standing types vs (forms y) u ns → Below head t u → IsOn vhead (form_view (forms y)) t
  form_on P.Wildcard u t ns h s = tt
  form_on P.Bind u t ns h s = tt
  form_on (P.Constant l) u t ns h s = literal_on l t u h.0 h.1 s
  form_on (P.Present p) u t ns h s = option_on p h.0 ns h.2 u (vhead t) (below_of (node.Opt h.0) t u h.1 tt s)
  form_on (P.Tagged l p) u t ns h s = variant_on l p h.1 h.0 ns h.3 h.4 u (vhead t) (below_of (node.Variant h.0) t u h.2 tt s)
  form_on (P.Parts ps) u t ns h s = tuple_on ps h.0 ns h.2 u (vhead t) (below_of (node.Tuple h.0) t u h.1 tt s)
  form_on (P.Fields xs) u t ns h s = object_on xs h.0 ns h.2 u (vhead t) (below_of (node.Object h.0) t u h.1 tt s)
  form_on (P.Either p q) u t ns h s = (p.1 u t [] h.0 s, q.1 u t [] h.1 s)

  form_case : (y : P.PatternForm-F K0 K1 K2) → FormClaim (roll-PatternForm (forms y))
  form_case y u t ns h s =
      subst (λ p. IsOn vhead p t) (sym (form_viewed (forms y))) (form_on y u t ns ((rules.pattern_forms types vs (forms y) u ns).0 h) s)

  fitting : (f g : Field TypeId) (m n : Bool) → n ≡ false → Fitting (IsSubtype head) f g m n → (m ≡ false) × IsSubtype head f.part g.part
  fitting f g false false e h = (refl, h)
  fitting f g true false e h = absurd h
  fitting f g m true e h = absurd (no (sym e))

  field_on : (l : Bytes) (p : K2) (fs gs : List (Field TypeId)) (ns : List (Want TypeId)) (u : TypeId) → IsField head gs l u → Stands types vs p.0 u ns → FieldsBelow (IsSubtype head) fs gs
      → AtSome (find l fs) (λ f. (f.mutable ≡ false) × IsOn vhead (pattern p.0) f.part)
  field_on l p fs gs ns u g h s =
      let a = at_some (λ f. Fitting (IsSubtype head) f g.0 f.mutable g.0.mutable) (find g.0.label fs) (found_each (λ g. AtSome (find g.label fs) (λ f. Fitting (IsSubtype head) f g f.mutable g.mutable)) l g.0 gs g.1 s) in
      let q : find l fs ≡ Some a.0 = subst (λ l. find l fs ≡ Some a.0) (found_label l gs g.0 g.1) a.1 in
      let b = fitting a.0 g.0 a.0.mutable g.0.mutable g.2 a.2 in
      subst (λ o. AtSome o (λ f. (f.mutable ≡ false) × IsOn vhead (pattern p.0) f.part)) (sym q)
      (b.0, p.1 u a.0.part ns h (subst (IsSubtype head a.0.part) g.3 b.1))

  field_case : (y : P.PatternField-F K0 K1 K2) → FieldClaim (roll-PatternField (map-PatternField K0 K1 K2 PatternForm PatternField TypedPattern (λ z. z.0) (λ z. z.0) (λ z. z.0) y))
  field_case y fs gs ns h s =
      let z : P.PatternField-F PatternForm PatternField TypedPattern = map-PatternField K0 K1 K2 PatternForm PatternField TypedPattern (λ z. z.0) (λ z. z.0) (λ z. z.0) y in
      let f : field_standing types vs z gs ns = (rules.fields types vs z gs ns).0 h in
      subst (λ (x : LabelledPat). AtSome (find x.label fs) (λ f. (f.mutable ≡ false) × IsOn vhead x.pattern f.part)) (sym (field_viewed z))
      (field_on y.label y.pattern fs gs ns f.0 f.1 f.2 s)

  pattern_case : (y : P.TypedPattern-F K0 K1 K2) → PatternClaim (roll-TypedPattern (map-TypedPattern K0 K1 K2 PatternForm PatternField TypedPattern (λ z. z.0) (λ z. z.0) (λ z. z.0) y))
  pattern_case y u t ns h s =
      let z : P.TypedPattern-F PatternForm PatternField TypedPattern = map-TypedPattern K0 K1 K2 PatternForm PatternField TypedPattern (λ z. z.0) (λ z. z.0) (λ z. z.0) y in
      let f : pattern_standing types vs z u ns = (rules.patterns types vs z u ns).0 h in
      subst (λ p. IsOn vhead p t) (sym (pattern_viewed z)) (y.form.1 y.of_type t ns f.2 (transitive t u y.of_type s f.0))

  pub stands_on : (p : TypedPattern) → PatternClaim p
  stands_on = ind-TypedPattern FormClaim FieldClaim PatternClaim
      (λ x y is. subst (λ z. FormClaim (roll-PatternForm z)) is (form_case y))
      (λ x y is. subst (λ z. FieldClaim (roll-PatternField z)) is (field_case y))
      (λ x y is. subst (λ z. PatternClaim (roll-TypedPattern z)) is (pattern_case y))
