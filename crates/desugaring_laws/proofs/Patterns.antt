-- Patterns that were judged become typed ones.
use Rattle.std.proofs.Common.{◌≡◌, inl, inr, ℕ, zero, suc, Bool, true, false, not, List, [], ◌∷◌, ◌++◌, map, Some, refl, sym, ap, ap₂, ◌∙◌, subst}
use Rattle.std.specs.Prelude.{pos, neg_ℤ, nat_eq, if◌then◌else◌, ◌||◌, is_some}
use Rattle.std.specs.Cmp.Lexicographic.{pointwise}
use Rattle.std.specs.Str.{is_utf8}
use Rattle.mo_num.specs.declared.kind.Kind.{Kind}
use Rattle.mo_types.specs.declared.datum.Datum.{Datum}
use Rattle.mo_types.specs.declared.datum.Datum.TheVariants as part
use Rattle.mo_types.specs.declared.node.Field.{Field}
use Rattle.mo_types.specs.declared.node.Node.{Node}
use Rattle.mo_types.specs.declared.node.Node.TheVariants as node
use Rattle.mo_types.specs.declared.node.TypeId.{TypeId}
use Rattle.mo_types.specs.Graph.{Slot, head_at}
use Rattle.mo_types.specs.Heads.{number_of, is_bool, is_char, is_text, is_blob, is_null, opt_of, tuple_of, object_of, variant_of, async_of}
use Rattle.mo_types.specs.Sub.{Each, Sub, NodeBelow, find}
use Rattle.mo_types.specs.Values.{IsPartOf}
use Rattle.mo_subtype.specs.Renamed.{on_field, on_node}
use Rattle.mo_values.specs.Parts.{is_in_range}
use Rattle.mo_values.proofs.Leaves.{leaf_is}
use Rattle.subtype_laws.specs.Reached.{Among}
use Rattle.typed_tree.specs.declared.literal.Literal.TheVariants as literal
use Rattle.typed_tree.specs.declared.pattern.PatternForm.{PatternForm}
use Rattle.typed_tree.specs.declared.pattern.PatternForm.TheOpen as P
use Rattle.typed_tree.specs.declared.pattern.PatternField.{PatternField}
use Rattle.typed_tree.specs.declared.pattern.TypedPattern.{TypedPattern}
use Rattle.typed_tree.specs.Instances.{types_in, ParameterAmong, Mentions}
use Rattle.typed_tree.specs.PatternTypes.{LiteralOf, IsPlainLiteral}
use Rattle.typed_tree.specs.PatternTypes as typed
use Rattle.typed_tree.specs.TypingLaws.{form_standing}
use Rattle.typed_tree.specs.Wants.{Want, Of, Below}
use Rattle.typed_tree.proofs.Rules.{patterns, pattern_forms, fields}
use Rattle.typing_rules.specs.AbstractSyntax.{Literal, Pattern, Patterns, PatternFields}
use Rattle.typing_rules.specs.AbstractSyntax as p
use Rattle.typing_rules.specs.Contexts.{Scope, constant}
use Rattle.typing_rules.specs.Definitions.{Definitions}
use Rattle.typing_rules.specs.Heads.{head}
use Rattle.typing_rules.specs.Patterns.{is_empty, LiteralStands, Stands, EachStands, FieldsStand}
use Rattle.typing_rules.specs.Terms.{Term, unit}
use Rattle.typing_rules.specs.TypedTrees.{Note}
use Rattle.typing_rules.specs.Types.{Reads}
use Rattle.typing_rules.specs.TypeScopes.{TypeScope}
use Rattle.desugaring.specs.Nodes.{literal_at}
use Rattle.desugaring.specs.Patterns.{pattern, patterns as each_pattern, fields_of, stands as at_type}
use Rattle.desugaring_laws.specs.GraphOf.{IsGraphOf}
use Rattle.desugaring_laws.specs.Known.{IsFine, IsKnown}
use Rattle.desugaring_laws.specs.Laws.{wants, AreWrittenFine, PatternTyped, PatternsAreTyped}
use Rattle.desugaring_laws.specs.Names.{Names, bound_names, bound_in_each, bound_in_fields, entered}
use Rattle.desugaring_laws.specs.Written.{IsWritten, PatternIsWritten, EachIsWritten, FieldsAreWritten}
use Rattle.desugaring_laws.specs.Yields.{Yields}
use Rattle.desugaring_laws.proofs.Graph.{each_among, head_number, part_known as known_part, head_there as there_head, reflexive, transitive, below_number, in_scope}
use Rattle.desugaring_laws.proofs.HeadForms.{is_number, is_option, is_tuple, is_object, is_variant, has_flags, has_characters, has_texts, has_blobs}
use Rattle.desugaring_laws.proofs.Yielding.{given, tests, if_so, part as after}

-- ---- names

append_nil : {A : Type 0} (xs : List A) → xs ++ [] ≡ xs
append_nil [] = refl
append_nil (x ∷ xs) = ap (λ l. x ∷ l) (append_nil xs)

append_three : {A : Type 0} (xs ys zs : List A) → (xs ++ ys) ++ zs ≡ xs ++ (ys ++ zs)
append_three [] ys zs = refl
append_three (x ∷ xs) ys zs = ap (λ l. x ∷ l) (append_three xs ys zs)

pub entered_on : (xs : Names) (s : Scope) → entered xs s ≡ entered xs [] ++ s
entered_on [] s = refl
entered_on (x ∷ xs) s =
    entered_on xs ((x.0, constant x.1) ∷ s)
    ∙ sym (append_three (entered xs []) ((x.0, constant x.1) ∷ []) s) ∙ ap (λ l. l ++ s) (sym (entered_on xs ((x.0, constant x.1) ∷ [])))

entered_both : (xs ys : Names) (s : Scope) → entered (xs ++ ys) s ≡ entered ys (entered xs s)
entered_both [] ys s = refl
entered_both (x ∷ xs) ys s = entered_both xs ys ((x.0, constant x.1) ∷ s)

pub beside : (xs ys : Names) → entered ys [] ++ entered xs [] ≡ entered (xs ++ ys) []
beside xs ys = sym (entered_on ys (entered xs [])) ∙ sym (entered_both xs ys [])

no_append : {A : Type 0} (xs : List A) (x : A) → xs ++ x ∷ [] ≡ [] → ⊥
no_append [] x h = cc
no_append (y ∷ xs) x h = cc

none_bound : (xs : Names) → entered xs [] ≡ [] → xs ≡ []
none_bound [] h = refl
none_bound (x ∷ xs) h = absurd (no_append (entered xs []) (x.0, constant x.1) (sym (entered_on xs ((x.0, constant x.1) ∷ [])) ∙ h))

empty_is : {A : Type 0} (xs : List A) → is_empty xs ≡ true → xs ≡ []
empty_is [] h = refl
empty_is (x ∷ xs) h = cc

pub each_append : {A : Type 0} (P : A → Type 0) (xs ys : List A) → Each P xs → Each P ys → Each P (xs ++ ys)
each_append P [] ys h k = k
each_append P (x ∷ xs) ys h k = (h.0, each_append P xs ys h.1 k)

pub map_append : {A B : Type 0} (f : A → B) (xs ys : List A) → map f (xs ++ ys) ≡ map f xs ++ map f ys
map_append f [] ys = refl
map_append f (x ∷ xs) ys = ap (λ l. f x ∷ l) (map_append f xs ys)

-- ---- heads

module _ {A B : Type 0} (f : A → B) where
  found_by : (b : Bool) (x : Field A) (fs : List (Field A)) (l : List ℕ) (g : Field A) → (find l fs ≡ Some g → find l (map (on_field f) fs) ≡ Some (on_field f g)) → (if b then Some x else find l fs) ≡ Some g
      → (if b then Some (on_field f x) else find l (map (on_field f) fs)) ≡ Some (on_field f g)
  found_by true x fs l g h e = let k : x ≡ g = cc in ap (λ y. Some (on_field f y)) k
  found_by false x fs l g h e = h e

  -- a field is found where it was
  pub find_seen : (l : List ℕ) (fs : List (Field A)) (g : Field A) → find l fs ≡ Some g → find l (map (on_field f) fs) ≡ Some (on_field f g)
  find_seen l [] g h = cc
  find_seen l (x ∷ fs) g h = found_by (pointwise nat_eq x.label l) x fs l g (find_seen l fs g) h

found_among : {A : Type 0} (b : Bool) (x : Field A) (fs : List (Field A)) (l : List ℕ) (g : Field A) → (find l fs ≡ Some g → Among g.part (map (λ f. f.part) fs)) → (if b then Some x else find l fs) ≡ Some g
    → Among g.part (map (λ f. f.part) (x ∷ fs))
found_among true x fs l g h e = let k : x ≡ g = cc in inl (ap (λ f. f.part) k)
found_among false x fs l g h e = inr (h e)

-- the type of a field is one of those in the type
pub find_among : {A : Type 0} (l : List ℕ) (fs : List (Field A)) (g : Field A) → find l fs ≡ Some g → Among g.part (map (λ f. f.part) fs)
find_among l [] g h = cc
find_among l (x ∷ fs) g h = found_among (pointwise nat_eq x.label l) x fs l g (find_among l fs g) h

not_is : (b : Bool) → not b ≡ true → b ≡ false
not_is true h = cc
not_is false h = refl

-- types of the unit tuple are below each other
units_to : (slots : List Slot) (t u : TypeId) → head_at slots t ≡ node.Tuple [] → head_at slots u ≡ node.Tuple [] → (n : ℕ) → Sub (head_at slots) n t u
unfolding Sub
units_to slots t u a b zero = tt
units_to slots t u a b (suc n) =
    subst (λ x. NodeBelow (Sub (head_at slots) n) u x (head_at slots u)) (sym a) (subst (λ y. NodeBelow (Sub (head_at slots) n) u (node.Tuple []) y) (sym b) (inr tt))

units_below : (slots : List Slot) (t u : TypeId) → head_at slots t ≡ node.Tuple [] → head_at slots u ≡ node.Tuple [] → Below (head_at slots) t u
units_below slots t u a b = record { by = units_to slots t u a b }

unit_head : (defs : Definitions) → head defs unit ≡ node.Tuple []
unfolding head
unit_head defs = refl

unit_mentions : (defs : Definitions) (vs : List ℕ) (n : ℕ) → Mentions (head defs) vs n unit
unfolding Mentions
unit_mentions defs vs zero = tt
unit_mentions defs vs (suc n) = subst (λ x. ParameterAmong vs x × Each (Mentions (head defs) vs n) (types_in x)) (sym (unit_head defs)) (tt, tt)

pub unit_fine : (defs : Definitions) (vs : List ℕ) → IsFine defs vs unit
unit_fine defs vs = record { scoped = record { by = unit_mentions defs vs }; no_future = ap async_of (unit_head defs) }

module _ (defs : Definitions) (slots : List Slot) (terms : List Term) (number : Term → TypeId) (g : IsGraphOf defs slots terms number) (units : Among unit terms) where
  -- ---- literals

  leaf_there : (t : TypeId) (x : Node TypeId) (p : Datum) → head_at slots t ≡ x → IsPartOf x p → IsPartOf (head_at slots t) p
  leaf_there t x p e h = subst (λ y. IsPartOf y p) (sym e) h

  abbrev Literally : Term → Bool → Literal → Unit {0} → Type 0
  Literally u minus l x = LiteralOf (head_at slots) (literal_at minus l (head defs u)) (number u)

  number_there : (u : Term) → Among u terms → (k : Kind) → number_of (head defs u) ≡ Some k → head_at slots (number u) ≡ node.Number k
  number_there u m k e = head_number defs slots terms number g u m ∙ ap (on_node number) (is_number (head defs u) k e)

  text_or_blob : (u : Term) → Among u terms → (x : List ℕ) (b : Bool) → is_blob (head defs u) ≡ b → (b ≡ false → is_text (head defs u) ≡ true) → (b ≡ false → is_utf8 x ≡ true) → Literally u false (p.Text x) tt
  text_or_blob u m x true e h i =
      subst (λ c. LiteralOf (head_at slots) (if c then literal.Blob x else literal.Text x) (number u)) (sym e)
      (tt, leaf_there (number u) node.Blob (part.Blob x) (head_number defs slots terms number g u m ∙ ap (on_node number) (has_blobs (head defs u) e)) tt)
  text_or_blob u m x false e h i =
      subst (λ c. LiteralOf (head_at slots) (if c then literal.Blob x else literal.Text x) (number u)) (sym e)
      (tt, leaf_there (number u) node.Text (part.Text x) (head_number defs slots terms number g u m ∙ ap (on_node number) (has_texts (head defs u) (h refl))) (i refl))

  null_there : (u : Term) → Among u terms → (is_null (head defs u) || is_some (opt_of (head defs u))) ≡ true → IsPartOf (head_at slots (number u)) part.Null
  null_there u m h = subst (λ y. IsPartOf y part.Null) (sym (head_number defs slots terms number g u m)) (by (head defs u) h) where
    by : (y : Node Term) → (is_null y || is_some (opt_of y)) ≡ true → IsPartOf (on_node number y) part.Null
    by node.Null h = tt
    by (node.Opt a) h = tt
    by (node.Number k) h = cc
    by node.Bool h = cc
    by node.Char h = cc
    by node.Text h = cc
    by node.Blob h = cc
    by node.Principal h = cc
    by node.Error h = cc
    by node.Any h = cc
    by node.Bottom h = cc
    by (node.Array a) h = cc
    by (node.MutArray a) h = cc
    by (node.Tuple ts) h = cc
    by (node.Object fs) h = cc
    by (node.Actor fs) h = cc
    by (node.Variant fs) h = cc
    by (node.Func s ps rs) h = cc
    by (node.Async a) h = cc
    by (node.Variable v b) h = cc

  literal_stands : (at : ℕ) (minus : Bool) (l : Literal) (u : Term) → Among u terms → IsWritten l → Yields defs terms (LiteralStands at minus l (head defs u)) (Literally u minus l)
  literal_stands at false (p.Number n) u m w =
      given defs terms _ _ (number_of (head defs u)) _ _ (λ k e.
      tests defs terms _ _ (is_in_range k (pos n)) _ _ (λ r. (tt, leaf_there (number u) (node.Number k) (part.Number (pos n)) (number_there u m k e) (leaf_is {A = TypeId} (node.Number k) (part.Number (pos n)) r))))
  literal_stands at true (p.Number n) u m w =
      given defs terms _ _ (number_of (head defs u)) _ _ (λ k e.
      tests defs terms _ _ (is_in_range k (neg_ℤ (pos n))) _ _
      (λ r. (tt, leaf_there (number u) (node.Number k) (part.Number (neg_ℤ (pos n))) (number_there u m k e) (leaf_is {A = TypeId} (node.Number k) (part.Number (neg_ℤ (pos n))) r))))
  literal_stands at true (p.Character c) u m w = tt
  literal_stands at true (p.Text x) u m w = tt
  literal_stands at true p.True u m w = tt
  literal_stands at true p.False u m w = tt
  literal_stands at true p.Null u m w = tt
  literal_stands at false (p.Character c) u m w =
      tests defs terms _ _ (is_char (head defs u)) _ _
      (λ e. (tt, leaf_there (number u) node.Char (part.Char c) (head_number defs slots terms number g u m ∙ ap (on_node number) (has_characters (head defs u) e)) w))
  literal_stands at false (p.Text x) u m w =
      if_so defs terms (is_blob (head defs u)) _ _ _ (λ e. text_or_blob u m x true e (λ z. cc) (λ z. cc))
      (λ e. tests defs terms _ _ (is_text (head defs u)) _ _ (λ t. tests defs terms _ _ (is_utf8 x) _ _ (λ i. text_or_blob u m x false e (λ z. t) (λ z. i))))
  literal_stands at false p.True u m w =
      tests defs terms _ _ (is_bool (head defs u)) _ _
      (λ e. (tt, leaf_there (number u) node.Bool (part.Flag true) (head_number defs slots terms number g u m ∙ ap (on_node number) (has_flags (head defs u) e)) tt))
  literal_stands at false p.False u m w =
      tests defs terms _ _ (is_bool (head defs u)) _ _
      (λ e. (tt, leaf_there (number u) node.Bool (part.Flag false) (head_number defs slots terms number g u m ∙ ap (on_node number) (has_flags (head defs u) e)) tt))
  literal_stands at false p.Null u m w = tests defs terms _ _ (is_null (head defs u) || is_some (opt_of (head defs u))) _ _ (λ e. (tt, null_there u m e))

  -- no actor is written in a pattern
  written_plain : (minus : Bool) (l : Literal) (y : Node Term) → IsPlainLiteral (literal_at minus l y)
  written_plain minus (p.Number n) y = tt
  written_plain minus (p.Character c) y = tt
  written_plain minus (p.Text x) y = by (is_blob y) where
    by : (b : Bool) → IsPlainLiteral (if b then literal.Blob x else literal.Text x)
    by true = tt
    by false = tt
  written_plain minus p.True y = tt
  written_plain minus p.False y = tt
  written_plain minus p.Null y = tt

  module _ (vs : List ℕ) (s : TypeScope) (written : AreWrittenFine defs terms vs s) where
    abbrev Known : Term → Type 0
    Known = IsKnown defs terms vs

    abbrev Is : Term → Scope × Pattern Note → Type 0
    Is u b = PatternTyped defs slots terms number vs u b.0 b.1

    abbrev Wants : Names → List (Want TypeId)
    Wants = wants number

    part_known : (u v : Term) → Known u → (y : Node Term) → head defs u ≡ y → Among v (types_in y) → Known v
    part_known = known_part defs slots terms number g vs

    head_there : (u : Term) → Known u → (y : Node Term) → head defs u ≡ y → head_at slots (number u) ≡ on_node number y
    head_there u k = there_head defs slots terms number g u k.there

    -- a pattern with a type of its own
    made : (u : Term) → Known u → (f : P.PatternForm-F PatternForm PatternField TypedPattern) (ns : List (Want TypeId)) → form_standing slots vs f (number u) ns → (t : TypeId) → Below (head_at slots) t (number u)
        → typed.Stands slots vs (at_type defs number u f) t ns
    made u k f ns h t b = (patterns slots vs _ t ns).1 (b, in_scope defs slots terms number g vs u k.there k.fine.scoped, (pattern_forms slots vs f (number u) ns).1 h)

    self : (u : Term) → Below (head_at slots) (number u) (number u)
    self u = reflexive defs slots terms number g (number u)

    nothing : (u : Term) (q : Pattern Note) (scope : Scope) → PatternTyped defs slots terms number vs u scope q → scope ≡ [] → bound_names q ≡ []
    nothing u q scope i e = none_bound (bound_names q) (sym i.scope_is ∙ e)

    -- the pattern of `#t` on ()
    unit_stands : (u : Term) → Known u → tuple_of (head defs u) ≡ Some [] → typed.Stands slots vs (at_type defs number unit (P.Constant literal.Unit)) (number u) []
    unit_stands u k e =
        let there : head_at slots (number unit) ≡ node.Tuple [] = head_number defs slots terms number g unit units ∙ ap (on_node number) (unit_head defs) in
        made unit (record { there = units; fine = unit_fine defs vs }) (P.Constant literal.Unit) [] (there, tt, refl) (number u)
        (units_below slots (number u) (number unit) (head_there u k (node.Tuple []) (is_tuple (head defs u) [] e)) there)

    record Each_ (us : List Term) (scope : Scope) (qs : Patterns Note) : Type 0 where
      stand : typed.EachStands (typed.Stands slots vs) (each_pattern defs number qs) (map number us) (Wants (bound_in_each qs))
      scope_is : scope ≡ entered (bound_in_each qs) []
      known : Each (λ x. Known x.1) (bound_in_each qs)

    record Fields_ (fs : List (Field Term)) (scope : Scope) (qs : PatternFields Note) : Type 0 where
      stand : typed.FieldsStand (typed.FieldStands slots vs) (fields_of defs number qs) (map (on_field number) fs) (Wants (bound_in_fields qs))
      scope_is : scope ≡ entered (bound_in_fields qs) []
      known : Each (λ x. Known x.1) (bound_in_fields qs)

    mutual
      stands_typed : (q : Pattern ℕ) → PatternIsWritten q → (u : Term) → Known u → Yields defs terms (Stands defs s q u) (Is u)
      stands_typed (p.pattern at (p.Annotated q a)) w u k =
          after defs terms (Reads defs s a) _ Known (Is u) (written a) (λ v kv. (
            λ below.
                after defs terms (Stands defs s q v) _ (Is v) (Is u) (stands_typed q w v kv) (λ b i. record {
                  stands = λ t h. i.stands t (transitive defs slots terms number g t (number u) (number v) h (below_number defs slots terms number g u v k.there kv.there below));
                  scope_is = i.scope_is;
                  known = i.known;
                }),
            λ no. tt,
          ))
      stands_typed (p.pattern at (p.Alternative q r)) w u k =
          after defs terms (Stands defs s q u) _ (Is u) (Is u) (stands_typed q w.0 u k) (λ b i.
          tests defs terms _ _ (is_empty b.0) _ (Is u) (λ e.
          after defs terms (Stands defs s r u) _ (Is u) (Is u) (stands_typed r w.1 u k) (λ c j.
          tests defs terms _ _ (is_empty c.0) _ (Is u) (λ f. record {
            stands = made u k (P.Either (pattern defs number b.1) (pattern defs number c.1)) [] (
              subst (λ xs. typed.Stands slots vs (pattern defs number b.1) (number u) (Wants xs)) (nothing u b.1 b.0 i (empty_is b.0 e)) (i.stands (number u) (self u)),
              subst (λ xs. typed.Stands slots vs (pattern defs number c.1) (number u) (Wants xs)) (nothing u c.1 c.0 j (empty_is c.0 f)) (j.stands (number u) (self u)),
              refl,
            );
            scope_is = refl;
            known = tt;
          }))))
      stands_typed (p.pattern at (p.Optional q)) w u k =
          given defs terms _ _ (opt_of (head defs u)) _ (Is u) (λ v e.
          let h : head defs u ≡ node.Opt v = is_option (head defs u) v e in
          after defs terms (Stands defs s q v) _ (Is v) (Is u) (stands_typed q w v (part_known u v k (node.Opt v) h (inl refl))) (λ b i. record {
            stands = made u k (P.Present (pattern defs number b.1)) (Wants (bound_names b.1)) (number v, head_there u k (node.Opt v) h, i.stands (number v) (self v));
            scope_is = i.scope_is;
            known = i.known;
          }))
      stands_typed (p.pattern at (p.Tag x)) w u k =
          given defs terms _ _ (variant_of (head defs u)) _ (Is u) (λ tags e.
          given defs terms _ _ (find x tags) _ (Is u) (λ f found.
          given defs terms _ _ (tuple_of (head defs f.part)) _ (Is u) (λ parts et.
          tests defs terms _ _ (is_empty parts) _ (Is u) (λ none.
          let h : head defs u ≡ node.Variant tags = is_variant (head defs u) tags e in
          record {
            stands = made u k (P.Tagged x (at_type defs number unit (P.Constant literal.Unit))) [] (
              map (on_field number) tags,
              on_field number f,
              head_there u k (node.Variant tags) h,
              find_seen number x tags f found,
              unit_stands f.part (part_known u f.part k (node.Variant tags) h (find_among x tags f found)) (et ∙ ap (λ ps. Some ps) (empty_is parts none)),
            );
            scope_is = refl;
            known = tt;
          }))))
      stands_typed (p.pattern at (p.Tagged x q)) w u k =
          given defs terms _ _ (variant_of (head defs u)) _ (Is u) (λ tags e.
          given defs terms _ _ (find x tags) _ (Is u) (λ f found.
          let h : head defs u ≡ node.Variant tags = is_variant (head defs u) tags e in
          after defs terms (Stands defs s q f.part) _ (Is f.part) (Is u) (stands_typed q w f.part (part_known u f.part k (node.Variant tags) h (find_among x tags f found))) (λ b i. record {
            stands = made u k (P.Tagged x (pattern defs number b.1)) (Wants (bound_names b.1))
                (map (on_field number) tags, on_field number f, head_there u k (node.Variant tags) h, find_seen number x tags f found, i.stands (number f.part) (self f.part));
            scope_is = i.scope_is;
            known = i.known;
          })))
      stands_typed (p.pattern at (p.Variable x)) w u k = record { stands = made u k P.Bind (Of (number u) ∷ []) refl; scope_is = refl; known = (k, tt) }
      stands_typed (p.pattern at p.Wildcard) w u k = record { stands = made u k P.Wildcard [] refl; scope_is = refl; known = tt }
      stands_typed (p.pattern at (p.Constant minus l)) w u k =
          after defs terms (LiteralStands at minus l (head defs u)) _ (Literally u minus l) (Is u) (literal_stands at minus l u k.there w) (λ x i. record {
            stands = made u k (P.Constant (literal_at minus l (head defs u))) [] (i, written_plain minus l (head defs u), refl);
            scope_is = refl;
            known = tt;
          })
      stands_typed (p.pattern at (p.Tuple items)) w u k =
          given defs terms _ _ (tuple_of (head defs u)) _ (Is u) (λ us e.
          let h : head defs u ≡ node.Tuple us = is_tuple (head defs u) us e in
          after defs terms (EachStands defs s at items us) _ (λ b. Each_ us b.0 b.1) (Is u) (each_typed at items w us (each_among Known us (λ v m. part_known u v k (node.Tuple us) h m))) (λ b i. record {
            stands = made u k (P.Parts (each_pattern defs number b.1)) (Wants (bound_in_each b.1)) (map number us, head_there u k (node.Tuple us) h, i.stand);
            scope_is = i.scope_is;
            known = i.known;
          }))
      stands_typed (p.pattern at (p.Object fs)) w u k =
          given defs terms _ _ (object_of (head defs u)) _ (Is u) (λ gs e.
          let h : head defs u ≡ node.Object gs = is_object (head defs u) gs e in
          after defs terms (FieldsStand defs s fs gs) _ (λ b. Fields_ gs b.0 b.1) (Is u) (fields_typed fs w gs (λ x f found. part_known u f.part k (node.Object gs) h (find_among x gs f found))) (λ b i. record {
            stands = made u k (P.Fields (fields_of defs number b.1)) (Wants (bound_in_fields b.1)) (map (on_field number) gs, head_there u k (node.Object gs) h, i.stand);
            scope_is = i.scope_is;
            known = i.known;
          }))

      each_typed : (at : ℕ) (qs : Patterns ℕ) → EachIsWritten qs → (us : List Term) → Each Known us → Yields defs terms (EachStands defs s at qs us) (λ b. Each_ us b.0 b.1)
      each_typed at p.Nil w [] k = record { stand = refl; scope_is = refl; known = tt }
      each_typed at p.Nil w (u ∷ us) k = tt
      each_typed at (p.Cons q rest) w [] k = tt
      each_typed at (p.Cons q rest) w (u ∷ us) k =
          after defs terms (Stands defs s q u) _ (Is u) (λ b. Each_ (u ∷ us) b.0 b.1) (stands_typed q w.0 u k.0) (λ b i.
          after defs terms (EachStands defs s at rest us) _ (λ b. Each_ us b.0 b.1) (λ b. Each_ (u ∷ us) b.0 b.1) (each_typed at rest w.1 us k.1) (λ c j. record {
            stand = (Wants (bound_names b.1), Wants (bound_in_each c.1), map_append (λ x. Of (number x.1)) (bound_names b.1) (bound_in_each c.1), i.stands (number u) (self u), j.stand);
            scope_is = ap₂ (λ x y. x ++ y) j.scope_is i.scope_is ∙ beside (bound_names b.1) (bound_in_each c.1);
            known = each_append (λ x. Known x.1) (bound_names b.1) (bound_in_each c.1) i.known j.known;
          }))

      fields_typed : (qs : PatternFields ℕ) → FieldsAreWritten qs → (fs : List (Field Term)) → ((x : List ℕ) (f : Field Term) → find x fs ≡ Some f → Known f.part) → Yields defs terms (FieldsStand defs s qs fs) (λ b. Fields_ fs b.0 b.1)
      fields_typed p.NoFields w fs k = record { stand = refl; scope_is = refl; known = tt }
      fields_typed (p.Field x q rest) w fs k =
          given defs terms _ _ (find x.bytes fs) _ (λ b. Fields_ fs b.0 b.1) (λ f found.
          tests defs terms _ _ (not f.mutable) _ (λ b. Fields_ fs b.0 b.1) (λ fixed.
          after defs terms (Stands defs s q f.part) _ (Is f.part) (λ b. Fields_ fs b.0 b.1) (stands_typed q w.0 f.part (k x.bytes f found)) (λ b i.
          after defs terms (FieldsStand defs s rest fs) _ (λ b. Fields_ fs b.0 b.1) (λ b. Fields_ fs b.0 b.1) (fields_typed rest w.1 fs k) (λ c j. record {
            stand = (
              Wants (bound_names b.1),
              Wants (bound_in_fields c.1),
              map_append (λ x. Of (number x.1)) (bound_names b.1) (bound_in_fields c.1),
              (fields slots vs (record { label = x.bytes; pattern = pattern defs number b.1 }) (map (on_field number) fs) (Wants (bound_names b.1))).1
                  (number f.part, (on_field number f, find_seen number x.bytes fs f found, not_is f.mutable fixed, refl), i.stands (number f.part) (self f.part)),
              j.stand,
            );
            scope_is = ap₂ (λ x y. x ++ y) j.scope_is i.scope_is ∙ beside (bound_names b.1) (bound_in_fields c.1);
            known = each_append (λ x. Known x.1) (bound_names b.1) (bound_in_fields c.1) i.known j.known;
          }))))

pub patterns_are_typed : PatternsAreTyped
patterns_are_typed defs slots terms number g units vs s written q w u k = stands_typed defs slots terms number g units vs s written q w u k
