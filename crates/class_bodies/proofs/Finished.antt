-- Classes by their parts, and with their type parameters in scope.
use Rattle.std.proofs.Common.{◌≡◌, ◌∙◌, ℕ, true, false, List, [], Ok, Err, None, map, sym, ap, subst}
use Rattle.std.specs.Prelude.{Result}
use Rattle.type_terms.specs.declared.form.Form.{Form}
use Rattle.type_terms.specs.declared.form.TermId.{TermId}
use Rattle.typing_rules.specs.AbstractSyntax.{Declarations, Named, Patterns}
use Rattle.typing_rules.specs.AbstractSyntax as p
use Rattle.typing_rules.specs.AsyncPlaces.{Local}
use Rattle.typing_rules.specs.Contexts.{in_body, with_types}
use Rattle.typing_rules.specs.DeclaredTypes.{class_type, within}
use Rattle.typing_rules.specs.Judgements.{Gives, Judgement, Part}
use Rattle.typing_rules.specs.Lists as rules
use Rattle.typing_rules.specs.PublicFields.{PublicFields}
use Rattle.typing_rules.specs.Signatures as signing
use Rattle.typing_rules.specs.Terms.{Term}
use Rattle.typing_rules.specs.TypedTrees.{Note, note, signature}
use Rattle.typing_rules.specs.TypeScopes.{TypeScope}
use Rattle.type_definitions.specs.Definitions.{rules_in}
use Rattle.type_definitions.specs.Meanings.{term}
use Rattle.met_types.specs.States.{State}
use Rattle.type_judgements.specs.declared.refusal.Refusal.{Refusal}
use Rattle.type_scopes.specs.Scopes.{Names as TypeNames, seen}
use Rattle.abstract_types.specs.declared.names.PlacedName.{PlacedName}
use Rattle.abstract_types.specs.declared.patterns.Pattern as value_pattern
use Rattle.abstract_types.specs.declared.patterns.Signature.{Signature}
use Rattle.abstract_types.specs.PatternView.{listed, plain, plain_signature}
use Rattle.abstract_types.specs.PatternView as pattern_view
use Rattle.abstract_types.specs.TypeView.{named}
use Rattle.abstract_tree.specs.declared.declarations.Declaration as value
use Rattle.abstract_tree.specs.declared.declarations.DeclarationForm.TheVariants as form
use Rattle.value_scopes.specs.declared.note.Note as value_note
use Rattle.value_scopes.specs.declared.place.Place.{Place}
use Rattle.value_scopes.specs.declared.scopes.Scopes.{Scopes}
use Rattle.value_scopes.specs.Places.{context_in}
use Rattle.value_scopes.specs.Values.{noted}
use Rattle.written_types.specs.Written.{Wrote}
use Rattle.proper_types.proofs.Turns.{part_assoc}
use Rattle.typed_patterns.specs.Binding.{patterns_in}
use Rattle.typed_patterns.proofs.Standing.{behind_alike}
use Rattle.signatures.specs.Taking.{names_and_rest}
use Rattle.judging.specs.declared.checker.Checker.{Checker}
use Rattle.judging.specs.Parts.{Sound}
use Rattle.judging.specs.Views.{View, definitions, view}
use Rattle.judging.specs.Answers.{Answers}
use Rattle.judging.proofs.Chains.{given, goes_on, seen_as, stops}
use Rattle.scope_judging.proofs.Under.{refused_elsewhere}
use Rattle.signature_judging.specs.Rules.{parameters}
use Rattle.signature_judging.proofs.Kept.{typed}
use Rattle.list_judging.specs.Lists.{list_in, list_of, seen_list}
use Rattle.order_rules.specs.declared.entries.MadeDeclaration.{MadeDeclaration}
use Rattle.order_rules.specs.Entries.{made_in}
use Rattle.order_rules.proofs.Declarations.{seen_Class}
use Rattle.function_bodies.specs.Bodies.{any_made, body_in, judge_body}
use Rattle.function_bodies.proofs.First.{Handed, here, made_first, typed_back}
use Rattle.class_bodies.specs.declared.classes.Fields.{Fields}
use Rattle.class_bodies.specs.Classes.{any_fields, class_in, class_parts, fields_in, public_under}

pub sound_typed : (k : Checker) (c : Scopes) (t : TypeNames) → Sound k c → Sound k (typed c t)
sound_typed k c t s = record { known = s.known; values = s.values; labels = s.labels }

-- ---- parameters and fields, and then what follows

module _ (y : Place) (at : ℕ) (x : Named) (s : Signature ℕ) (xs : List (value.Declaration ℕ)) (rest : List MadeDeclaration) where
  abbrev g : p.Signature ℕ
  g = plain_signature s

  abbrev pub within_class : View → Judgement (rules.Made × List rules.Made)
  within_class = class_in y at x g xs rest

  abbrev parted : View → Judgement ((List Term × Patterns Note) × (Term × Declarations Note))
  parted = class_parts y at (map plain s.parameters) xs

  abbrev class_end : View → Term → (List Term × Patterns Note) × (Term × Declarations Note) → Judgement (rules.Made × List rules.Made)
  class_end v u z = Gives ((note at u, p.Class x (signature g z.0.1) z.1.1), map (made_in v.later) rest)

  abbrev class_of : View → Term → Judgement (rules.Made × List rules.Made)
  class_of v u = Part (parted v) (class_end v u)

  abbrev taking : View → Judgement signing.Taken
  taking v = signing.Parameters (definitions v) (seen v.scopes.types) (listed (map plain s.parameters)) []

  abbrev kind_of : View → Term
  kind_of v = class_type (seen v.scopes.types) x

  -- the parts in one
  class_is : (v : View) → class_of v (kind_of v) ≡ within_class v
  class_is v =
      part_assoc (parameters (map plain s.parameters) [] v) (λ r. Part (public_under y at xs r.0 v) (λ z. Gives (r.1, z))) (class_end v (kind_of v))
      ∙ (part_assoc (taking v) (λ k. Gives (names_and_rest k)) (λ r. Part (Part (public_under y at xs r.0 v) (λ z. Gives (r.1, z))) (class_end v (kind_of v)))
      ∙ behind_alike (taking v) (λ k. Part (Part (public_under y at xs k.scope v) (λ z. Gives ((k.types, k.patterns), z))) (class_end v (kind_of v))) (λ k. Part (public_under y at xs k.scope v) (λ z. class_end v (kind_of v) ((k.types, k.patterns), z)))
      (λ k. part_assoc (public_under y at xs k.scope v) (λ z. Gives ((k.types, k.patterns), z)) (class_end v (kind_of v))))

  -- its type is made first
  module _ (c : Scopes) (k : Checker) (t : State) (id : TermId) (w : Wrote k.types t (class_type (seen c.types) x) id) where
    from_type : (d : Scopes) (l : Checker) (r : Result MadeDeclaration Refusal) → Answers (body_in rest) any_made (λ v. class_of v (term v.later id)) c (here k t) d l r → Answers (body_in rest) any_made within_class c k d l r
    from_type d l r h =
        seen_as (body_in rest) any_made within_class (λ v. class_of v (kind_of v)) c d k l r (λ later z. sym (class_is (view later k.types.listed c)))
        (made_first (body_in rest) any_made kind_of class_of c d k l t id r w.same (λ later z. w.made.is later z) h)

    pub class_not : (d : Scopes) (l : Checker) (e : Refusal) (r : Result MadeDeclaration Refusal) → Handed r e → Answers fields_in any_fields parted c (here k t) d l (Err e) → Answers (body_in rest) any_made within_class c k d l r
    class_not d l e r h j = from_type d l r (stops (body_in rest) any_made fields_in any_fields parted (λ v. class_end v (term v.later id)) c d (here k t) l e r h j)

    pub class_given : (d : Scopes) (l : Checker) (m : Fields) → Answers fields_in any_fields parted c (here k t) d l (Ok m) → (q : List TermId × List (value_pattern.Pattern value_note.Note)) → q ≡ (m.taken.kinds, m.taken.patterns)
        → (copy : PlacedName) → named copy ≡ x → (sig : Signature value_note.Note) → ((later : List Form) → pattern_view.signature (noted later) sig ≡ signature g (patterns_in q.1 later))
        → Answers (body_in rest) any_made within_class c k d l (Ok (record { note = record { at = at; kind = id }; form = form.Class copy sig m.list.declarations }))
    class_given d l m j q e copy f sig o =
        let made : MadeDeclaration = record { note = record { at = at; kind = id }; form = form.Class copy sig m.list.declarations } in
        from_type d l (Ok made)
        (goes_on (body_in rest) any_made fields_in any_fields parted (λ v. class_end v (term v.later id)) c d d (here k t) l l m (Ok made) j
        (given (body_in rest) any_made (λ v. class_end v (term v.later id) (fields_in m v.later)) d l made j.outcome.sound tt
        (λ later z. sym (ap (λ (n : p.Declaration Note). Gives ((note at (term later id), n), map (made_in later) rest))
        (seen_Class (λ n. noted later n) copy sig m.list.declarations
        ∙ (ap (λ (n : Named). p.Class n (pattern_view.signature (noted later) sig) (list_in m.list later).1) f
        ∙ ap (λ (n : p.Signature Note). p.Class x n (list_in m.list later).1) (o later ∙ ap (λ (r : List TermId × List (value_pattern.Pattern value_note.Note)). signature g (patterns_in r.1 later)) e)))))))

  -- its type parameters are in scope

  abbrev pub whole : View → Judgement (rules.Made × List rules.Made)
  whole = judge_body y at (p.Class x g (seen_list xs)) rest

  module _ (c : Scopes) (k : Checker) (t : TypeNames) (e : seen t ≡ within (seen c.types) g) where
    -- with these names of types
    abbrev class_with : List Form → TypeScope → Judgement (rules.Made × List rules.Made)
    class_with later u =
        Part (signing.Parameters (rules_in later k.types.listed) u g.parameters []) (λ ps. Part (PublicFields (seen_list xs)) (λ _.
        Part (list_of (rules_in later k.types.listed) (in_body Local None ps.scope (with_types u (context_in later c y))) at false (seen_list xs) None) (λ q.
        Gives ((note at (class_type u x), p.Class x (signature g ps.patterns) q.1), map (made_in later) rest))))

    abbrev fields_with : List Form → signing.Taken → Judgement (Term × Declarations Note)
    fields_with later ps = list_of (rules_in later k.types.listed) (in_body Local None ps.scope (context_in later (typed c t) y)) at false (seen_list xs) None

    abbrev end_with : List Form → signing.Taken → Term × Declarations Note → Judgement (rules.Made × List rules.Made)
    end_with later ps q = Gives ((note at (class_type (seen t) x), p.Class x (signature g ps.patterns) q.1), map (made_in later) rest)

    class_with_types : (later : List Form) → whole (view later k.types.listed c) ≡ within_class (view later k.types.listed (typed c t))
    class_with_types later =
        ap (class_with later) (sym e)
        ∙ behind_alike (signing.Parameters (rules_in later k.types.listed) (seen t) g.parameters []) (λ ps. Part (PublicFields (seen_list xs)) (λ _. Part (fields_with later ps) (end_with later ps)))
        (λ ps. Part (Part (PublicFields (seen_list xs)) (λ _. fields_with later ps)) (end_with later ps))
        (λ ps. sym (part_assoc (PublicFields (seen_list xs)) (λ _. fields_with later ps) (end_with later ps)))

    pub class_refused : (d : Scopes) (l : Checker) (q : Refusal) (r : Result MadeDeclaration Refusal) → Handed r q → Answers (body_in rest) any_made within_class (typed c t) k d l (Err q) → Answers (body_in rest) any_made whole c k d l r
    class_refused d l q (Ok m) h j = let z : false ≡ true = h.0 in cc
    class_refused d l q (Err f) h j =
        subst (λ (z : Refusal). Answers (body_in rest) any_made whole c k d l (Err z)) (sym h.1) (refused_elsewhere (body_in rest) any_made whole within_class c (typed c t) k (λ later w. class_with_types later) d d l q j)

    pub class_back : (d : Scopes) (l : Checker) (u : TypeNames) (m : MadeDeclaration) → u ≡ c.types → Sound k c → Answers (body_in rest) any_made within_class (typed c t) k d l (Ok m) → Answers (body_in rest) any_made whole c k (typed d u) l (Ok m)
    class_back d l u m f s j = typed_back (body_in rest) any_made whole within_class c d k l t u class_with_types (Ok m) f s j

-- by parameters that are the same
pub parts_there : (y : Place) (at : ℕ) (xs : List (value.Declaration ℕ)) (ps qs : List (value_pattern.Pattern ℕ)) (c d : Scopes) (k l : Checker) (r : Result Fields Refusal) → ps ≡ qs
    → Answers fields_in any_fields (class_parts y at (map plain ps) xs) c k d l r → Answers fields_in any_fields (class_parts y at (map plain qs) xs) c k d l r
parts_there y at xs ps qs c d k l r e h = subst (λ (ns : List (value_pattern.Pattern ℕ)). Answers fields_in any_fields (class_parts y at (map plain ns) xs) c k d l r) e h
