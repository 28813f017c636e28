-- The fields of an object, judged one after the other.
use Rattle.std.proofs.Common.{◌≡◌, ◌∙◌, ℕ, suc, Bool, true, false, List, [], ◌∷◌, ◌++◌, drop, map, Ok, Err, Option, refl, sym, ap, subst, append_assoc}
use Rattle.std.proofs.Math.Path.{fun_ext}
use Rattle.std.specs.Prelude.{Result}
use Rattle.std.specs.Result.{IsErr, IsErrAnd}
use Rattle.mo_types.specs.declared.node.Field.{Field}
use Rattle.mo_types.specs.Sub.{Each, find}
use Rattle.type_terms.specs.declared.form.Form.{Form}
use Rattle.type_terms.specs.declared.form.TermId.{TermId}
use Rattle.typing_rules.specs.AbstractSyntax as p
use Rattle.typing_rules.specs.Expressions.{JudgeFields}
use Rattle.typing_rules.specs.Judgements.{Judgement, Gives, Part}
use Rattle.typing_rules.specs.Terms.{Fields, Term}
use Rattle.typing_rules.specs.Terms as t
use Rattle.typing_rules.specs.TypedTrees.{Note, Typed, declared_type, field_types}
use Rattle.type_definitions.proofs.Meanings.{each_map, grows_not}
use Rattle.met_types.specs.States.{Goes, IsReached, State}
use Rattle.type_scopes.specs.Scopes.{seen}
use Rattle.type_judgements.specs.declared.refusal.Refusal.{Refusal}
use Rattle.abstract_types.specs.declared.names.PlacedName.{PlacedName}
use Rattle.abstract_types.specs.TypeView.{annotation, named}
use Rattle.abstract_tree.specs.declared.expressions.Expression.{Expression}
use Rattle.abstract_tree.specs.declared.expressions.ObjectField.{ObjectField, fold_out-ObjectField}
use Rattle.abstract_tree.specs.TreeView.{CaseView, FieldView, DeclarationView, fields, plain_field, object_field, expression, expression_form, declaration, declaration_form, case, declaration_form_step, form_step, declaration_step, case_step, expression_step, field_step}
use Rattle.value_scopes.specs.declared.note.Note as value_note
use Rattle.value_scopes.specs.declared.place.Place.{Place}
use Rattle.value_scopes.specs.declared.scopes.Scopes.{Scopes}
use Rattle.value_scopes.specs.Values.{noted}
use Rattle.judging.specs.declared.checker.Checker.{Checker}
use Rattle.judging.specs.Answers.{Answers}
use Rattle.judging.specs.Parts.{Sound}
use Rattle.judging.specs.Views.{View, view, context, definitions, typed_in}
use Rattle.judging.proofs.Chains.{given, goes_on, goes_on_from, seen_as, stops}
use Rattle.judging.proofs.Steps.{reached_on}
use Rattle.proper_types.proofs.Turns.{part_assoc}
use Rattle.object_rules.specs.declared.fields.MadeFields.{MadeFields}
use Rattle.object_rules.specs.declared.values.FieldValue.{FieldValue}
use Rattle.object_rules.specs.Values.{fields_in, judge_fields, kinds_in, made_in, made_reached, value_among, value_in, value_reached, wants, with_type, with_types}
use Rattle.object_rules.specs.Written.{IsWritten}

-- how a field is seen, where this is how notes are seen
pub seen_field : {N M : Type 0} (see : N → M) (f : ObjectField N) → object_field see f ≡ (λ rest. p.Field f.mutable (named f.name) (annotation f.annotation) (expression see f.value) rest)
unfolding expression expression_form declaration declaration_form case object_field
seen_field {N} {M} see f =
    fold_out-ObjectField N (p.Declaration M) (p.Form M) (DeclarationView M) (CaseView M) (p.Expression M) (FieldView M) (declaration_form_step see) (form_step see) (declaration_step see) (case_step see) (expression_step see) (field_step see) f

abbrev pub Seen : Type 0
Seen = p.ObjectFields Note × Fields

abbrev pub Fielded : Type 0
Fielded = Result MadeFields Refusal

abbrev pub Comes : (View → Judgement Seen) → Scopes → Checker → Scopes → Checker → Fielded → Type 0
Comes j c k d l r = Answers made_in made_reached j c k d l r

-- ---- fields in front of others

abbrev pub made : List (ObjectField value_note.Note) → List (Field TermId) → MadeFields
made fs gs = record { fields = fs; kinds = gs }

abbrev joined : MadeFields → MadeFields → MadeFields
joined a b = made (a.fields ++ b.fields) (a.kinds ++ b.kinds)

abbrev pub in_front : MadeFields → Fielded → Fielded
in_front a (Ok rest) = Ok (joined a rest)
in_front a (Err e) = Err e

abbrev pub one : ObjectField value_note.Note → Field TermId → MadeFields
one f g = made (f ∷ []) (g ∷ [])

in_front_twice : (a b : MadeFields) (r : Fielded) → in_front a (in_front b r) ≡ in_front (joined a b) r
in_front_twice a b (Ok rest) =
    ap (λ (fs : List (ObjectField value_note.Note)). Ok (made fs (a.kinds ++ (b.kinds ++ rest.kinds)))) (sym (append_assoc a.fields b.fields rest.fields))
    ∙ ap (λ (gs : List (Field TermId)). Ok (made ((a.fields ++ b.fields) ++ rest.fields) gs)) (sym (append_assoc a.kinds b.kinds rest.kinds))
in_front_twice a b (Err e) = refl

pub all_reached_on : (s t : State) (gs : List (Field TermId)) → Goes s t → Each (λ g. IsReached s g.part) gs → Each (λ g. IsReached t g.part) gs
all_reached_on s t gs q h = each_map (λ g. IsReached s g.part) (λ g. IsReached t g.part) (λ g. reached_on s t g.part q) gs h

-- this field of the type has the name of that one, and this type
abbrev pub kind_of : ObjectField ℕ → TermId → Field TermId
kind_of x id = record { label = x.name.bytes; mutable = x.mutable; part = id }

pub one_kind_more : (gs more : List (Field TermId)) (g h : Field TermId) → g ≡ h → more ≡ gs ++ g ∷ [] → more ≡ gs ++ h ∷ []
one_kind_more gs more g h e q = q ∙ ap (λ (z : Field TermId). gs ++ z ∷ []) e

module _ (y : Place) (ws : List (Field TermId)) where
  abbrev pub value : ObjectField ℕ → View → Judgement (Typed × Term)
  value x = with_type x.annotation (λ v. value_among y x (find x.name.bytes (wants ws v.later)) v)

  abbrev pub each : List (ObjectField ℕ) → View → Judgement Seen
  each xs = with_types y xs ws

  abbrev in_field : ObjectField ℕ → Typed × Term → Seen → Seen
  in_field x q rest = (p.Field x.mutable (named x.name) (annotation x.annotation) q.0 rest.0, t.WithField x.name.bytes x.mutable q.1 rest.1)

  -- one, and then the others
  abbrev then_others : ObjectField ℕ → List (ObjectField ℕ) → View → Typed × Term → Judgement Seen
  then_others x xs v q = Part (each xs v) (λ rest. Gives (in_field x q rest))

  abbrev one_more : ObjectField ℕ → List (ObjectField ℕ) → View → Judgement Seen
  one_more x xs v = Part (value x v) (then_others x xs v)

  module _ (x : ObjectField ℕ) (xs : List (ObjectField ℕ)) (v : View) where
    abbrev of : Judgement Typed
    of = value_among y x (find x.name.bytes (wants ws v.later)) v

    abbrev others : Judgement (p.ObjectFields Note)
    others = judge_fields y xs ws v

    abbrev types : p.ObjectFields Note → Fields
    types fs = field_types (seen v.scopes.types) fs

    abbrev its_type : Typed → Term
    its_type b = declared_type (seen v.scopes.types) (annotation x.annotation) b

    abbrev as_field : Typed → p.ObjectFields Note → p.ObjectFields Note
    as_field b bs = p.Field x.mutable (named x.name) (annotation x.annotation) b bs

    abbrev ended : Typed → p.ObjectFields Note → Judgement Seen
    ended b bs = Gives (as_field b bs, t.WithField x.name.bytes x.mutable (its_type b) (types bs))

    first_others : Part (Part of (λ b. Part others (λ bs. Gives (as_field b bs)))) (λ fs. Gives (fs, types fs)) ≡ Part of (λ b. Part others (ended b))
    first_others =
        part_assoc of (λ b. Part others (λ bs. Gives (as_field b bs))) (λ fs. Gives (fs, types fs))
        ∙ ap (λ (k : Typed → Judgement Seen). Part of k) (fun_ext (λ b. part_assoc others (λ bs. Gives (as_field b bs)) (λ fs. Gives (fs, types fs))))

    others_first : one_more x xs v ≡ Part of (λ b. Part others (ended b))
    others_first =
        part_assoc of (λ b. Gives (b, its_type b)) (then_others x xs v)
        ∙ ap (λ (k : Typed → Judgement Seen). Part of k) (fun_ext (λ b. part_assoc others (λ fs. Gives (fs, types fs)) (λ rest. Gives (in_field x (b, its_type b) rest))))

    one_of : each (x ∷ xs) v ≡ one_more x xs v
    one_of =
        ap (λ (g : FieldView ℕ). Part (JudgeFields (definitions v) (context v y) (g (fields (map plain_field xs))) (wants ws v.later)) (λ fs. Gives (fs, types fs))) (seen_field (λ n. n) x)
        ∙ (first_others ∙ sym others_first)

  module _ (x : ObjectField ℕ) (b : FieldValue) (f : ObjectField value_note.Note) (h : IsWritten x b.value f) where
    -- a field that is made, as it is seen
    is_field : (rest : List (ObjectField value_note.Note)) (later : List Form)
        → fields_in (f ∷ rest) later ≡ p.Field x.mutable (named x.name) (annotation x.annotation) (typed_in b.value later) (fields_in rest later)
    is_field rest later =
        ap (λ (g : FieldView Note). g (fields_in rest later)) (seen_field (λ (n : value_note.Note). noted later n) f)
        ∙ (ap (λ (m : Bool). p.Field m (named f.name) (annotation f.annotation) (typed_in f.value later) (fields_in rest later)) h.mutable
        ∙ (ap (λ (q : PlacedName). p.Field x.mutable (named q) (annotation f.annotation) (typed_in f.value later) (fields_in rest later)) h.name
        ∙ (ap (λ (o : Option p.TypeNode). p.Field x.mutable (named x.name) o (typed_in f.value later) (fields_in rest later)) h.annotation
        ∙ ap (λ (z : Expression value_note.Note). p.Field x.mutable (named x.name) (annotation x.annotation) (typed_in z later) (fields_in rest later)) h.value)))

    is_made : (rest : MadeFields) (later : List Form) → made_in (joined (one f (kind_of x b.kind)) rest) later ≡ in_field x (value_in b later) (made_in rest later)
    is_made rest later = ap (λ (fs : p.ObjectFields Note). (fs, kinds_in (kind_of x b.kind ∷ rest.kinds) later)) (is_field rest.fields later)

    -- the first is given before the others
    first_given : (xs : List (ObjectField ℕ)) (c d : Scopes) (k l : Checker) (r : Fielded) → value_reached k.types b → Comes (each xs) c k d l r
        → Comes (λ v. then_others x xs v (value_in b v.later)) c k d l (in_front (one f (kind_of x b.kind)) r)
    first_given xs c d k l (Ok rest) g j =
        goes_on made_in made_reached made_in made_reached (each xs) (λ v q. Gives (in_field x (value_in b v.later) q)) c d d k l l rest (Ok (joined (one f (kind_of x b.kind)) rest)) j
        (given made_in made_reached (λ v. Gives (in_field x (value_in b v.later) (made_in rest v.later))) d l (joined (one f (kind_of x b.kind)) rest) j.outcome.sound
        (reached_on k.types l.types b.kind j.outcome.goes g, j.outcome.holds) (λ later w. ap (λ (z : Seen). Gives z) (sym (is_made rest later))))
    first_given xs c d k l (Err e) g j = stops made_in made_reached made_in made_reached (each xs) (λ v q. Gives (in_field x (value_in b v.later) q)) c d k l e (Err e) (refl, refl) j

  module _ (xs : List (ObjectField ℕ)) (c : Scopes) (k : Checker) where
    -- the first of these are given, and the others are still to be judged
    pub record Judging (i : ℕ) (fs : List (ObjectField value_note.Note)) (gs : List (Field TermId)) (d : Scopes) (l : Checker) : Type 0 where
      pub goes : Goes k.types l.types
      pub reached : Each (λ g. IsReached l.types g.part) gs
      pub rest : (e : Scopes) (m : Checker) (r : Fielded) → Comes (each (drop i xs)) d l e m r → Comes (each xs) c k e m (in_front (made fs gs) r)

    pub none_yet : Judging 0 [] [] c k
    none_yet = record {
      goes = record { forms = grows_not k.types.forms; listed = refl; outcomes = refl; reached = λ i u h. h };
      reached = tt;
      rest = λ e m r h. subst (λ z. Comes (each xs) c k e m z) (sym (nothing_before r)) h;
    } where
      nothing_before : (r : Fielded) → in_front (made [] []) r ≡ r
      nothing_before (Ok rest) = refl
      nothing_before (Err e) = refl

    module _ (i : ℕ) (fs : List (ObjectField value_note.Note)) (gs : List (Field TermId)) (d e : Scopes) (l m : Checker) (x : ObjectField ℕ) (at : drop i xs ≡ x ∷ drop (suc i) xs) (j : Judging i fs gs d l) where
      turned : (s : Scopes) (n : Checker) (r : Fielded) → Comes (one_more x (drop (suc i) xs)) d l s n r → Comes (each xs) c k s n (in_front (made fs gs) r)
      turned s n r h =
          j.rest s n r (seen_as made_in made_reached (each (drop i xs)) (one_more x (drop (suc i) xs)) d s l n r
          (λ later w. ap (λ ys. each ys (view later l.types.listed d)) at ∙ one_of x (drop (suc i) xs) (view later l.types.listed d)) h)

      -- one more
      pub next : (b : FieldValue) (f : ObjectField value_note.Note) (more : List (ObjectField value_note.Note)) (kinds : List (Field TermId)) → IsWritten x b.value f → more ≡ fs ++ f ∷ [] → kinds ≡ gs ++ kind_of x b.kind ∷ []
          → Answers value_in value_reached (value x) d l e m (Ok b) → Judging (suc i) more kinds e m
      next b f more kinds w q u h = record {
        goes = goes_on_from k.types l.types m.types j.goes h.outcome.goes;
        reached = subst (λ z. Each (λ g. IsReached m.types g.part) z) (sym u) (each_more gs (kind_of x b.kind) (all_reached_on l.types m.types gs h.outcome.goes j.reached) h.outcome.holds);
        rest = λ s n r g.
            subst (λ (z : MadeFields). Comes (each xs) c k s n (in_front z r)) (ap (λ z. made z (gs ++ kind_of x b.kind ∷ [])) (sym q) ∙ ap (λ z. made more z) (sym u))
            (subst (λ z. Comes (each xs) c k s n z) (in_front_twice (made fs gs) (one f (kind_of x b.kind)) r)
            (turned s n (in_front (one f (kind_of x b.kind)) r)
            (goes_on made_in made_reached value_in value_reached (value x) (then_others x (drop (suc i) xs)) d e s l m n b (in_front (one f (kind_of x b.kind)) r) h
            (first_given x b f w (drop (suc i) xs) e s m n r h.outcome.holds g))));
      } where
        each_more : (gs : List (Field TermId)) (g : Field TermId) → Each (λ z. IsReached m.types z.part) gs → IsReached m.types g.part → Each (λ z. IsReached m.types z.part) (gs ++ g ∷ [])
        each_more [] g h q = (q, tt)
        each_more (z ∷ gs) g h q = (h.0, each_more gs g h.1 q)

      -- one that is not typed
      pub refused : (q : Refusal) (r : Fielded) → IsErr r × IsErrAnd r (λ z. z ≡ q) → Answers value_in value_reached (value x) d l e m (Err q) → Comes (each xs) c k e m r
      refused q (Ok rest) g h = let z : false ≡ true = g.0 in cc
      refused q (Err z) g h = turned e m (Err z) (stops made_in made_reached value_in value_reached (value x) (then_others x (drop (suc i) xs)) d e l m q (Err z) g h)

    -- all of them
    pub all_judged : (i : ℕ) (fs : List (ObjectField value_note.Note)) (gs : List (Field TermId)) (d : Scopes) (l : Checker) → drop i xs ≡ [] → Sound l d → Judging i fs gs d l → Comes (each xs) c k d l (Ok (made fs gs))
    all_judged i fs gs d l q s j =
        subst (λ z. Comes (each xs) c k d l (Ok z)) (ap (λ z. made z (gs ++ [])) (append_nil fs) ∙ ap (λ z. made fs z) (append_nil gs))
        (j.rest d l (Ok (made [] [])) (given made_in made_reached (each (drop i xs)) d l (made [] []) s tt (λ later w. ap (λ ys. each ys (view later l.types.listed d)) q)))
      where
        append_nil : {A : Type 0} (ys : List A) → ys ++ [] ≡ ys
        append_nil [] = refl
        append_nil (a ∷ ys) = ap (λ z. a ∷ z) (append_nil ys)
