-- Objects that are written with their fields.
use Rattle.std.proofs.Common.{◌≡◌, ◌≢◌, inl, inr, ℕ, Bool, true, false, List, [], ◌∷◌, map, Option, Some, None, refl, sym, ap, ◌∙◌, subst}
use Rattle.std.specs.Prelude.{cond, if◌then◌else◌, nat_eq}
use Rattle.std.specs.Cmp.Lexicographic.{pointwise}
use Rattle.std.specs.Str.{bytes_eq}
use Rattle.std.proofs.lemmas.Slice.Eq.{bytes_eq-Decides}
use Rattle.mo_types.specs.declared.node.Field.{Field}
use Rattle.mo_types.specs.declared.node.Node.TheVariants as node
use Rattle.mo_types.specs.Heads.{object_of}
use Rattle.mo_types.specs.Label.{label_id}
use Rattle.mo_types.specs.Sub.{Each, IsSubtype, find}
use Rattle.mo_subtype.specs.Renamed.{on_field}
use Rattle.mo_values.specs.declared.operation.Operation.TheVariants as op
use Rattle.subtype_laws.specs.Reached.{Among}
use Rattle.typed_tree.specs.declared.action.Action.TheVariants as action
use Rattle.typed_tree.specs.declared.expression.Form.TheOpen as F
use Rattle.typed_tree.specs.declared.expression.TypedExpression.{TypedExpression}
use Rattle.typed_tree.specs.Has.{field_want, by_mutability}
use Rattle.typed_tree.specs.Instances.{IsAmong}
use Rattle.typed_tree.specs.OperationTypes.{Distinct}
use Rattle.typed_tree.specs.Typing.{EachGives, Typed}
use Rattle.typed_tree.specs.Wants.{Anything, Of, CellOf}
use Rattle.typing_rules.specs.declared.condition.Condition.TheVariants as condition
use Rattle.typing_rules.specs.AbstractSyntax.{Bytes, Expression, ObjectFields}
use Rattle.typing_rules.specs.AbstractSyntax as p
use Rattle.typing_rules.specs.Answers.{Holds}
use Rattle.typing_rules.specs.Ends.{wanted}
use Rattle.typing_rules.specs.AsyncPlaces.{Other}
use Rattle.typing_rules.specs.Contexts.{directly}
use Rattle.typing_rules.specs.Expressions.{Judge, Rule, JudgeFields, has_field, all_there, same, field_questions}
use Rattle.typing_rules.specs.Heads.{head}
use Rattle.typing_rules.specs.Judgements.{Question, Judgement, Case, Tests, Part, NeedsEach}
use Rattle.typing_rules.specs.Terms.{Term, listed_fields}
use Rattle.typing_rules.specs.Terms as t
use Rattle.typing_rules.specs.TypedTrees.{Note, type_of, field_types, declared_type}
use Rattle.typing_rules.specs.TypeScopes.{term}
use Rattle.typing_rules.specs.Types.{Proper, Reads}
use Rattle.desugaring.specs.Expressions.{part_or, labels_of, field_trees, field_value, new_cell}
use Rattle.desugaring.specs.Nodes.{operates}
use Rattle.desugaring_laws.specs.Yields.{Yields}
use Rattle.desugaring_laws.proofs.Graph.{below_number}
use Rattle.desugaring_laws.proofs.HeadForms.{is_object}
use Rattle.desugaring_laws.proofs.Patterns.{find_seen, find_among}
use Rattle.desugaring_laws.proofs.Yielding.{anything, more, tests, by_case, part as after}
use Rattle.expression_laws.specs.Laws.{labels_in}
use Rattle.expression_laws.proofs.Ending.{Setting, Place, self, trans, there, inside, value_of, as_wanted, Known, WantKnown, Is, IsPart, IsTypedPart, part_fits, Tree, Value, Made, has, fits, a_cell, acts, written}
use Rattle.expression_laws.proofs.Heads.{object_head, made_fine}
use Rattle.expression_laws.proofs.Wanting.{wanted_is}
use Rattle.expression_laws.proofs.BoundNames.{both}
use Rattle.expression_laws.proofs.Trees.{node as a_node, scope_of}

some_none : {X : Type 0} {x : X} → Some x ≡ None → ⊥
some_none e = cc

same_is : (a b : Bool) → same a b ≡ true → a ≡ b
same_is true true e = refl
same_is true false e = cc
same_is false true e = cc
same_is false false e = refl

module _ (S : Setting) (A : Place S) where
  -- a field where one of this type is wanted, or none is
  abbrev Fits : List (Field Term) → Bool → Bytes → p.Expression Note → Type 0
  Fits gs mutable x b = Typed S.slots (field_value S.defs S.number (node.Object gs) mutable x b (Tree S A b)) A.context (field_want (find x (map (on_field S.number) gs)))

  -- a cell of a value of this type
  cell_of : (u : Term) → Known S A u → (x : TypedExpression) → Typed S.slots x A.context (Of (S.number u)) → Typed S.slots (new_cell S.defs S.number u x) A.context (CellOf (S.number u))
  cell_of u k x h = a_cell S A u k action.New (x ∷ []) (Of (S.number u) ∷ []) (S.number u, refl, refl) (h, tt)

  -- one of which nothing is asked
  cell_unasked : (u : Term) → Known S A u → (x : TypedExpression) → Typed S.slots x A.context (Of (S.number u)) → Typed S.slots (new_cell S.defs S.number u x) A.context Anything
  cell_unasked u k x h =
      a_node S.defs S.slots S.terms S.number S.graph A.context u (scope_of S.defs S.slots S.terms S.number S.graph A.context u k) (F.Do action.New (x ∷ [])) (CellOf (S.number u)) Anything refl
      (Of (S.number u) ∷ [], (S.number u, refl, refl), (h, tt)) tt

  wanted_field : (gs : List (Field Term)) (mutable : Bool) (x : Bytes) (g : Field Term) → find x gs ≡ Some g → mutable ≡ g.mutable → Known S A g.part → (b : p.Expression Note)
      → Typed S.slots (Tree S A b) A.context (Of (S.number g.part)) → Fits gs mutable x b
  wanted_field gs mutable x g e m k b h =
      subst (λ o. Typed S.slots (field_value S.defs S.number (node.Object gs) mutable x b (Tree S A b)) A.context (field_want o)) (sym (find_seen S.number x gs g e))
      (subst (λ z. Typed S.slots (field_value S.defs S.number (node.Object gs) mutable x b (Tree S A b)) A.context (by_mutability z (S.number g.part))) m (by mutable))
    where
      by : (z : Bool) → Typed S.slots (field_value S.defs S.number (node.Object gs) z x b (Tree S A b)) A.context (by_mutability z (S.number g.part))
      by false = h
      by true =
          subst (λ o. Typed S.slots (new_cell S.defs S.number (part_or (type_of b) o) (Tree S A b)) A.context (CellOf (S.number g.part))) (sym e)
          (cell_of g.part k (Tree S A b) h)

  not_there : {X Y : Type 0} (f : X → Y) (l : List ℕ) (gs : List (Field X)) → find l gs ≡ None → find l (map (on_field f) gs) ≡ None
  not_there f l [] e = refl
  not_there f l (g ∷ gs) e = by (pointwise nat_eq g.label l) refl (λ k. not_there f l gs k) where
    by : (b : Bool) → pointwise nat_eq g.label l ≡ b → (find l gs ≡ None → find l (map (on_field f) gs) ≡ None) → find l (map (on_field f) (g ∷ gs)) ≡ None
    by true h k =
        let q : Some g ≡ None = sym (ap (λ z. if z then Some g else find l gs) h) ∙ e in
        absurd (some_none q)
    by false h k =
        ap (λ z. if z then Some (on_field f g) else find l (map (on_field f) gs)) h ∙ k (sym (ap (λ z. if z then Some g else find l gs) h) ∙ e)

  further_field : (gs : List (Field Term)) (mutable : Bool) (x : Bytes) → find x gs ≡ None → (b : p.Expression Note) → Value S A (type_of b) (Tree S A b) → Fits gs mutable x b
  further_field gs mutable x e b h =
      subst (λ o. Typed S.slots (field_value S.defs S.number (node.Object gs) mutable x b (Tree S A b)) A.context (field_want o)) (sym (not_there S.number x gs e)) (by mutable)
    where
      by : (z : Bool) → Typed S.slots (field_value S.defs S.number (node.Object gs) z x b (Tree S A b)) A.context Anything
      by false = h.unasked
      by true =
          subst (λ o. Typed S.slots (new_cell S.defs S.number (part_or (type_of b) o) (Tree S A b)) A.context Anything) (sym e)
          (cell_unasked (type_of b) h.known (Tree S A b) (h.typed (S.number (type_of b)) (self S (S.number (type_of b)))))

  -- ---- all of them

  -- each field uses some of the names
  abbrev pub EachField : ObjectFields ℕ → Type 0
  EachField p.NoFields = Unit {0}
  EachField (p.Field mutable x u a rest) = IsTypedPart S A a × EachField rest

  pub record FieldsFit (gs : List (Field Term)) (fields : ObjectFields ℕ) (bs : ObjectFields Note) : Type 0 where
    pub typed : EachGives (Typed S.slots) A.context (field_trees S.defs S.number A.frame (node.Object gs) bs) (map (λ l. field_want (find l (map (on_field S.number) gs))) (labels_of bs))
    pub labels : labels_of bs ≡ labels_in fields

  needs_each : {X : Type 0} (n : ℕ) (qs : List Question) (j : Judgement X) (P : X → Type 0) → (Each (Holds S.defs) qs → Yields S.defs S.terms j P) → Yields S.defs S.terms (NeedsEach condition.Mismatch n qs j) P
  needs_each n [] j P f = f tt
  needs_each n (q ∷ qs) j P f = (λ h. needs_each n qs j P (λ hs. f (h, hs)), λ no. tt)

  below_field : (mutable : Bool) (v u : Term) → Each (Holds S.defs) (field_questions mutable v u) → IsSubtype (head S.defs) v u
  below_field true v u h = h.0
  below_field false v u h = h.0

  -- one field, by whether one is wanted and whether its type is written
  one_fits : (gs : List (Field Term)) → ((g : Field Term) (l : Bytes) → find l gs ≡ Some g → Known S A g.part) → (n : ℕ) (mutable : Bool) (x : Bytes) (u : Option p.TypeNode) (a : Expression ℕ) → IsTypedPart S A a
      → Yields S.defs S.terms
      (Case (find x gs) (λ f. Tests condition.Mismatch n (same mutable f.mutable) (Case u
      (λ v. Part (Reads S.defs A.known.types v) (λ v. NeedsEach condition.Mismatch n (field_questions mutable v f.part) (Judge S.defs (directly Other A.known) a (Some v)))) (λ _. Judge S.defs (directly Other A.known) a (Some f.part))))
      (λ _. Case u (λ v. Part (Reads S.defs A.known.types v) (λ v. Judge S.defs (directly Other A.known) a (Some v))) (λ _. Judge S.defs (directly Other A.known) a None)))
      (Fits gs mutable x)
  one_fits gs known n mutable x u a j =
      by_case S.defs S.terms (find x gs) _ _ (Fits gs mutable x) (λ g e.
      tests S.defs S.terms condition.Mismatch n (same mutable g.mutable) _ (Fits gs mutable x) (λ m.
      by_case S.defs S.terms u _ _ (Fits gs mutable x) (λ v i.
      after S.defs S.terms (Reads S.defs A.known.types v) _ (Known S A) (Fits gs mutable x) ((written S A) v) (λ t kt.
      needs_each n (field_questions mutable t g.part) _ (Fits gs mutable x) (λ hs.
      more S.defs S.terms (Judge S.defs (directly Other A.known) a (Some t)) (IsPart S A (Some t)) (Fits gs mutable x) (at_type t kt) (λ b h.
      wanted_field gs mutable x g e (same_is mutable g.mutable m) (known g x e) b
      ((value_of S A.known.labels A.frame A.context (Some t) b h).typed (S.number g.part)
      (trans S (S.number (type_of b)) (S.number t) (S.number g.part) h.below (below_number S.defs S.slots S.terms S.number S.graph t g.part kt.there (known g x e).there (below_field mutable t g.part hs)))))))) (λ i.
      more S.defs S.terms (Judge S.defs (directly Other A.known) a (Some g.part)) (IsPart S A (Some g.part)) (Fits gs mutable x) (at_type g.part (known g x e)) (λ b h.
      wanted_field gs mutable x g e (same_is mutable g.mutable m) (known g x e) b (as_wanted S A.known.labels A.frame A.context g.part b h))))) (λ e.
      by_case S.defs S.terms u _ _ (Fits gs mutable x) (λ v i.
      after S.defs S.terms (Reads S.defs A.known.types v) _ (Known S A) (Fits gs mutable x) ((written S A) v) (λ t kt.
      more S.defs S.terms (Judge S.defs (directly Other A.known) a (Some t)) (IsPart S A (Some t)) (Fits gs mutable x) (at_type t kt) (λ b h.
      further_field gs mutable x e b (value_of S A.known.labels A.frame A.context (Some t) b h)))) (λ i.
      more S.defs S.terms (Judge S.defs (directly Other A.known) a None) (IsPart S A None) (Fits gs mutable x) (j.0 (directly Other A.known) A.frame A.context (part_fits S A a j.1) None tt) (λ b h.
      further_field gs mutable x e b (value_of S A.known.labels A.frame A.context None b h))))
    where
      at_type : (t : Term) → Known S A t → Yields S.defs S.terms (Judge S.defs (directly Other A.known) a (Some t)) (IsPart S A (Some t))
      at_type t k = j.0 (directly Other A.known) A.frame A.context (part_fits S A a j.1) (Some t) k.fine

  fields_fit : (gs : List (Field Term)) → ((g : Field Term) (l : Bytes) → find l gs ≡ Some g → Known S A g.part) → (fields : ObjectFields ℕ) → EachField fields
      → Yields S.defs S.terms (JudgeFields S.defs (directly Other A.known) fields gs) (FieldsFit gs fields)
  fields_fit gs known p.NoFields j = record { typed = tt; labels = refl }
  fields_fit gs known (p.Field mutable x u a rest) j =
      after S.defs S.terms _ _ (Fits gs mutable x.bytes) (FieldsFit gs (p.Field mutable x u a rest)) (one_fits gs known x.at mutable x.bytes u a j.0) (λ b h.
      after S.defs S.terms (JudgeFields S.defs (directly Other A.known) rest gs) _ (FieldsFit gs rest) (FieldsFit gs (p.Field mutable x u a rest)) (fields_fit gs known rest j.1) (λ bs r. record {
        typed = (h, r.typed);
        labels = ap (λ ls. x.bytes ∷ ls) r.labels;
      }))

  -- ---- where an object type is wanted

  has_label : (l : Bytes) (fields : ObjectFields ℕ) → has_field l fields ≡ true → IsAmong l (labels_in fields)
  has_label l p.NoFields e = cc
  has_label l (p.Field mutable x u a rest) e = by (bytes_eq x.bytes l) refl e (λ k. has_label l rest k) where
    by : (b : Bool) → bytes_eq x.bytes l ≡ b → cond b true (has_field l rest) ≡ true → (has_field l rest ≡ true → IsAmong l (labels_in rest)) → IsAmong l (x.bytes ∷ labels_in rest)
    by true h k more = inl (sym ((bytes_eq-Decides x.bytes l).0 h))
    by false h k more = inr (more k)

  all_labels : (fields : ObjectFields ℕ) (gs : List (Field Term)) → all_there fields gs ≡ true → Each (λ g. IsAmong g.label (labels_in fields)) (map (on_field S.number) gs)
  all_labels fields [] e = tt
  all_labels fields (g ∷ gs) e = by (has_field g.label fields) refl e (λ k. all_labels fields gs k) where
    by : (b : Bool) → has_field g.label fields ≡ b → cond b (all_there fields gs) false ≡ true → (all_there fields gs ≡ true → Each (λ g. IsAmong g.label (labels_in fields)) (map (on_field S.number) gs))
        → IsAmong g.label (labels_in fields) × Each (λ g. IsAmong g.label (labels_in fields)) (map (on_field S.number) gs)
    by true h k more = (has_label g.label fields h, more k)
    by false h k more = cc

  -- an object of a type with these fields
  object_value : (v : Term) → Known S A v → (gs : List (Field Term)) → head S.defs v ≡ node.Object gs → (fields : ObjectFields ℕ) → Distinct (map label_id (labels_in fields)) → Each (λ g. IsAmong g.label (labels_in fields)) (map (on_field S.number) gs)
      → (bs : ObjectFields Note) → FieldsFit gs fields bs → (at : ℕ) → Value S A v (Made S A at v (p.Object bs))
  object_value v k gs e fields d all bs i at =
      subst (λ y. Value S A v (operates S.defs S.number v (op.MakeObject (labels_of bs)) (field_trees S.defs S.number A.frame y bs))) (sym e)
      (acts S A v k (action.Operate (op.MakeObject (labels_of bs))) (field_trees S.defs S.number A.frame (node.Object gs) bs) (map (λ l. field_want (find l (map (on_field S.number) gs))) (labels_of bs)) (
        S.number v,
        refl,
        (
          map (on_field S.number) gs,
          there S v k.there (node.Object gs) e,
          subst (λ ls. Distinct (map label_id ls)) (sym i.labels) d,
          subst (λ ls. Each (λ g. IsAmong g.label ls) (map (on_field S.number) gs)) (sym i.labels) all,
          refl,
        ),
      ) i.typed)

  -- ---- where none is

  -- fields at the types that are written or their own
  abbrev EachOwn : ObjectFields Note → Type 0
  EachOwn p.NoFields = Unit {0}
  EachOwn (p.Field mutable x u b rest) =
      Known S A (declared_type A.known.types u b) × Typed S.slots (Tree S A b) A.context (Of (S.number (declared_type A.known.types u b))) × EachOwn rest

  pub record OwnFields (fields : ObjectFields ℕ) (bs : ObjectFields Note) : Type 0 where
    pub each : EachOwn bs
    pub labels : labels_of bs ≡ labels_in fields

  reads_term : (a : p.TypeNode) → Yields S.defs S.terms (Reads S.defs A.known.types a) (λ v. Known S A v × (v ≡ term A.known.types a))
  reads_term a =
      both S.defs S.terms (Reads S.defs A.known.types a) (Known S A) (λ v. v ≡ term A.known.types a) (written S A a)
      (after S.defs S.terms (Proper S.defs A.known.types a) _ (λ x. Unit {0}) (λ v. v ≡ term A.known.types a) (anything S.defs S.terms (Proper S.defs A.known.types a)) (λ x h. λ m. refl))

  own_fields : (fields : ObjectFields ℕ) → EachField fields → Yields S.defs S.terms (JudgeFields S.defs (directly Other A.known) fields []) (OwnFields fields)
  own_fields p.NoFields j = record { each = tt; labels = refl }
  own_fields (p.Field mutable x u a rest) j =
      after S.defs S.terms _ _ (λ b. Known S A (declared_type A.known.types u b) × Typed S.slots (Tree S A b) A.context (Of (S.number (declared_type A.known.types u b)))) (OwnFields (p.Field mutable x u a rest)) (by u) (λ b h.
      after S.defs S.terms (JudgeFields S.defs (directly Other A.known) rest []) _ (OwnFields rest) (OwnFields (p.Field mutable x u a rest)) (own_fields rest j.1) (λ bs r. record {
        each = (h.0, h.1, r.each);
        labels = ap (λ ls. x.bytes ∷ ls) r.labels;
      }))
    where
      by : (u : Option p.TypeNode)
          → Yields S.defs S.terms (Case u (λ v. Part (Reads S.defs A.known.types v) (λ v. Judge S.defs (directly Other A.known) a (Some v))) (λ z. Judge S.defs (directly Other A.known) a None))
          (λ b. Known S A (declared_type A.known.types u b) × Typed S.slots (Tree S A b) A.context (Of (S.number (declared_type A.known.types u b))))
      by (Some v) =
          after S.defs S.terms (Reads S.defs A.known.types v) _ (λ t. Known S A t × (t ≡ term A.known.types v)) (λ b. Known S A (term A.known.types v) × Typed S.slots (Tree S A b) A.context (Of (S.number (term A.known.types v)))) (reads_term v) (λ t h.
          more S.defs S.terms (Judge S.defs (directly Other A.known) a (Some t)) (IsPart S A (Some t)) _ (j.0.0 (directly Other A.known) A.frame A.context (part_fits S A a j.0.1) (Some t) h.0.fine) (λ b i.
          (subst (λ z. Known S A z) h.1 h.0, subst (λ z. Typed S.slots (Tree S A b) A.context (Of (S.number z))) h.1 (as_wanted S A.known.labels A.frame A.context t b i))))
      by None =
          more S.defs S.terms (Judge S.defs (directly Other A.known) a None) (IsPart S A None) _ (j.0.0 (directly Other A.known) A.frame A.context (part_fits S A a j.0.1) None tt) (λ b i.
          let y = value_of S A.known.labels A.frame A.context None b i in
          (y.known, y.typed (S.number (type_of b)) (self S (S.number (type_of b)))))

  -- the fields of the type that is given
  abbrev given_fields : ObjectFields Note → List (Field Term)
  given_fields bs = listed_fields (field_types A.known.types bs)

  differ_from : (x l : Bytes) (ls : List Bytes) → Each (λ i. label_id x ≢ i) (map label_id ls) → Among l ls → x ≡ l → ⊥
  differ_from x l [] d m e = absurd m
  differ_from x l (y ∷ ls) d (inl q) e = d.0 (ap label_id (e ∙ sym q))
  differ_from x l (y ∷ ls) d (inr m) e = differ_from x l ls d.1 m e

  passed : (x l : Bytes) (g : Field Term) (gs : List (Field Term)) → g.label ≡ x → (x ≡ l → ⊥) → find l (g ∷ gs) ≡ find l gs
  passed x l g gs e d = by (pointwise nat_eq g.label l) refl where
    by : (b : Bool) → pointwise nat_eq g.label l ≡ b → find l (g ∷ gs) ≡ find l gs
    by true h = absurd (d (sym e ∙ (bytes_eq-Decides g.label l).0 h))
    by false h = ap (λ z. if z then Some g else find l gs) h

  at_head : (x : Bytes) (g : Field Term) (gs : List (Field Term)) → g.label ≡ x → find x (g ∷ gs) ≡ Some g
  at_head x g gs e = ap (λ z. if z then Some g else find x gs) ((bytes_eq-Decides g.label x).1 e)

  -- each stands at its own field
  each_at : (gs : List (Field Term)) (bs : ObjectFields Note) → Distinct (map label_id (labels_of bs)) → ((l : Bytes) → Among l (labels_of bs) → find l gs ≡ find l (given_fields bs)) → EachOwn bs
      → EachGives (Typed S.slots) A.context (field_trees S.defs S.number A.frame (node.Object gs) bs) (map (λ l. field_want (find l (map (on_field S.number) gs))) (labels_of bs))
  each_at gs p.NoFields d h own = tt
  each_at gs (p.Field mutable x u b rest) d h own =
      let g : Field Term = record { label = x.bytes; mutable = mutable; part = declared_type A.known.types u b } in
      let found : find x.bytes gs ≡ Some g = h x.bytes (inl refl) ∙ at_head x.bytes g (given_fields rest) refl in (
        wanted_field gs mutable x.bytes g found refl own.0 b own.1,
        each_at gs rest d.1 (λ l m. h l (inr m) ∙ passed x.bytes l g (given_fields rest) refl (differ_from x.bytes l (labels_of rest) d.0 m)) own.2,
      )

  own_known : (bs : ObjectFields Note) → EachOwn bs → (v : Term) → Among v (map (λ f. f.part) (given_fields bs)) → Known S A v
  own_known p.NoFields own v m = absurd m
  own_known (p.Field mutable x u b rest) own v (inl e) = subst (λ z. Known S A z) e own.0
  own_known (p.Field mutable x u b rest) own v (inr m) = own_known rest own.2 v m

  all_given : (bs : ObjectFields Note) → Each (λ g. IsAmong g.label (labels_of bs)) (map (on_field S.number) (given_fields bs))
  all_given bs = within (labels_of bs) bs (λ l m. m) where
    within : (ls : List Bytes) (cs : ObjectFields Note) → ((l : Bytes) → IsAmong l (labels_of cs) → IsAmong l ls) → Each (λ g. IsAmong g.label ls) (map (on_field S.number) (given_fields cs))
    within ls p.NoFields h = tt
    within ls (p.Field mutable x u b rest) h = (h x.bytes (inl refl), within ls rest (λ l m. h l (inr m)))

  pub object_typed : (n : ℕ) (fields : ObjectFields ℕ) → EachField fields → Distinct (map label_id (labels_in fields)) → (w : Option Term) → WantKnown S A w
      → Yields S.defs S.terms (Rule S.defs A.around (directly Other A.known) n (p.Object fields) w) (Is S A w)
  object_typed n fields j d w k =
      by_case S.defs S.terms (wanted S.defs object_of w) _ _ (Is S A w) (λ q e.
      let r = wanted_is S.defs object_of w q e in
      let h : head S.defs q.0 ≡ node.Object q.1 = is_object (head S.defs q.0) q.1 r.1 in
      let v : Known S A q.0 = subst (λ z. WantKnown S A z) r.0 k in
      tests S.defs S.terms condition.Mismatch n (all_there fields q.1) _ (Is S A w) (λ all.
      after S.defs S.terms (JudgeFields S.defs (directly Other A.known) fields q.1) _ (FieldsFit q.1 fields) (Is S A w)
      (fields_fit q.1 (λ g l i. inside S A.context.parameters q.0 g.part v (node.Object q.1) h (find_among l q.1 g i)) fields j) (λ bs i.
      fits S A n q.0 (p.Object bs) (λ l. refl) (object_value q.0 v q.1 h fields d (all_labels fields q.1 all) bs i n) w r.0))) (λ e.
      after S.defs S.terms (JudgeFields S.defs (directly Other A.known) fields []) _ (OwnFields fields) (Is S A w) (own_fields fields j) (λ bs i.
      let ls = field_types A.known.types bs in
      has S A n w (t.Object ls) (p.Object bs) (λ l. refl) k (λ m.
      let e : head S.defs (t.Object ls) ≡ node.Object (given_fields bs) = object_head S.defs ls in
      let v : Known S A (t.Object ls) = record { there = m; fine = made_fine S.defs A.context.parameters (t.Object ls) (node.Object (given_fields bs)) e tt refl (λ z m'. (own_known bs i.each z m').fine.scoped) } in
      object_value (t.Object ls) v (given_fields bs) e fields d (subst (λ xs. Each (λ g. IsAmong g.label xs) (map (on_field S.number) (given_fields bs))) i.labels (all_given bs)) bs (record {
        typed = each_at (given_fields bs) bs (subst (λ xs. Distinct (map label_id xs)) (sym i.labels) d) (λ l m'. refl) i.each;
        labels = i.labels;
      }) n)))
