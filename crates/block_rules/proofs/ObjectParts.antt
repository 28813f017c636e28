-- Objects by their lists of fields.
use Rattle.std.proofs.Common.{◌≡◌, ◌∙◌, ℕ, false, List, Ok, Err, None, refl, sym, ap, subst}
use Rattle.std.specs.Prelude.{Result}
use Rattle.std.specs.Result.{IsErr, IsErrAnd}
use Rattle.type_terms.specs.declared.form.TermId.{TermId}
use Rattle.typing_rules.specs.AbstractSyntax as p
use Rattle.typing_rules.specs.Answers.{answer}
use Rattle.typing_rules.specs.Ends.{Has}
use Rattle.typing_rules.specs.Judgements.{Gives, Judgement, Part}
use Rattle.typing_rules.specs.PublicFields.{PublicFields}
use Rattle.typing_rules.specs.Terms.{Term}
use Rattle.typing_rules.specs.TypedTrees.{Note, Typed}
use Rattle.type_definitions.specs.Meanings.{term}
use Rattle.met_types.specs.States.{State}
use Rattle.type_judgements.specs.declared.refusal.Refusal.{Refusal}
use Rattle.type_judgements.specs.declared.refusal.Refusal.TheVariants as refusal
use Rattle.abstract_tree.specs.declared.declarations.Declaration as value
use Rattle.value_scopes.specs.declared.place.Place.{Place}
use Rattle.value_scopes.specs.declared.scopes.Scopes.{Scopes}
use Rattle.written_types.specs.Written.{Wrote}
use Rattle.annotated_names.specs.Verdicts.{IsVerdict}
use Rattle.proper_types.proofs.Turns.{part_assoc}
use Rattle.typed_patterns.proofs.Standing.{behind_alike}
use Rattle.judging.specs.declared.checker.Checker.{Checker}
use Rattle.judging.specs.declared.site.Site.{Site}
use Rattle.judging.specs.Parts.{Ready, Sound}
use Rattle.judging.specs.Views.{View, context, definitions, kind_reached, no_more, nothing, rule, term_in, typed_in, view, wanted_in}
use Rattle.judging.specs.Answers.{Answers}
use Rattle.judging.proofs.Chains.{fails, given, goes_on, seen_as, stops}
use Rattle.judging.proofs.Steps.{sound_on}
use Rattle.judging.proofs.TypedParts.{Comes, Given}
use Rattle.scope_judging.specs.Rules.{kind_within}
use Rattle.list_judging.specs.declared.part.MadeList.{MadeList}
use Rattle.list_judging.specs.Lists.{list_in, list_of, list_reached, seen_list}
use Rattle.block_rules.specs.Objects.{judge_object, object_kind, object_term, object_within}

-- a rule that asks nothing
pub verdict_answers : (j : Judgement (Unit {0})) (c : Scopes) (k : Checker) (r : Result (Unit {0}) Refusal) → Sound k c → IsVerdict j r → Answers nothing no_more (λ v. j) c k c k r
verdict_answers j c k (Ok u) s h = given nothing no_more (λ v. j) c k u s tt (λ later w. h)
verdict_answers j c k (Err (refusal.False place q)) s h = fails nothing no_more (λ v. j) c k q place (λ later w. h)
verdict_answers j c k (Err refusal.Memory) s h = record { outcome = tt }

-- ---- its type

pub kind_made : (xs : List (value.Declaration ℕ)) (c d : Scopes) (k : Checker) (t : State) (id : TermId) → Sound k c → d ≡ c → Wrote k.types t (object_term xs c) id
    → Answers term_in kind_within (object_kind xs) c k d (record k { types = t }) (Ok id)
kind_made xs c d k t id s e w = record {
  outcome = record {
    sound = subst (λ (z : Scopes). Sound (record k { types = t }) z) (sym e) (sound_on k c t s w.same.kept w.same.goes);
    same = e;
    goes = w.same.goes;
    holds = w.made.within;
    gave = record {
      by = λ met st later l. (met, w.same.stands met st, ap (λ (u : Term). answer (Ok u) met) (w.made.is later l));
    };
  };
}

-- ---- its fields, and then its type

module _ (y : Place) (at : ℕ) (xs : List (value.Declaration ℕ)) where
  abbrev object : View → Judgement (Term × p.Declarations Note)
  object = judge_object y at xs

  abbrev public : View → Judgement (Unit {0})
  public v = PublicFields (seen_list xs)

  abbrev list : View → Judgement (Term × p.Declarations Note)
  list v = list_of (definitions v) (context v y) at false (seen_list xs) None

  abbrev with_kind : View → Term × p.Declarations Note → Judgement (Term × p.Declarations Note)
  with_kind v q = Gives (object_term xs v.scopes, q.1)

  abbrev behind : View → Unit {0} → Judgement (Term × p.Declarations Note)
  behind v u = Part (list v) (with_kind v)

  pub not_public : (c : Scopes) (k : Checker) (e : Refusal) (r : Result MadeList Refusal) → IsErr r × IsErrAnd r (λ z. z ≡ e) → Sound k c → IsVerdict (PublicFields (seen_list xs)) (Err e)
      → Answers list_in object_within object c k c k r
  not_public c k e r h s j = stops list_in object_within nothing no_more public behind c c k k e r h (verdict_answers (PublicFields (seen_list xs)) c k (Err e) s j)

  module _ (c d : Scopes) (k l : Checker) (s : Sound k c) (u : Unit {0}) (h : IsVerdict (PublicFields (seen_list xs)) (Ok u)) where
    from_list : (e : Scopes) (m : Checker) (r : Result MadeList Refusal) → Answers list_in object_within (λ v. behind v u) c k e m r → Answers list_in object_within object c k e m r
    from_list e m r j = goes_on list_in object_within nothing no_more public behind c c e k k m u r (verdict_answers (PublicFields (seen_list xs)) c k (Ok u) s h) j

    pub no_list : (e : Refusal) (r : Result MadeList Refusal) → IsErr r × IsErrAnd r (λ z. z ≡ e) → Answers list_in list_reached list c k d l (Err e) → Answers list_in object_within object c k d l r
    no_list e r g j = from_list d l r (stops list_in object_within list_in list_reached list with_kind c d k l e r g j)

    module _ (made : MadeList) (j : Answers list_in list_reached list c k d l (Ok made)) where
      -- there was no memory for its type
      pub no_kind : (e : Scopes) (m : Checker) (q : Refusal) (r : Result MadeList Refusal) → IsErr r × IsErrAnd r (λ z. z ≡ q) → Answers term_in kind_within (object_kind xs) d l e m (Err q)
          → Answers list_in object_within object c k e m r
      no_kind e m q r g i =
          from_list e m r (goes_on list_in object_within list_in list_reached list with_kind c d e k l m made r j
          (stops list_in object_within term_in kind_within (object_kind xs) (λ v w. Gives (w, (list_in made v.later).1)) d e l m q r g i))

      abbrev whole : TermId → MadeList
      whole id = record { kind = id; declarations = made.declarations }

      pub object_given : (e : Scopes) (m : Checker) (id : TermId) → Answers term_in kind_within (object_kind xs) d l e m (Ok id) → Answers list_in object_within object c k e m (Ok (whole id))
      object_given e m id i =
          from_list e m (Ok (whole id)) (goes_on list_in object_within list_in list_reached list with_kind c d e k l m made (Ok (whole id)) j
          (goes_on list_in object_within term_in kind_within (object_kind xs) (λ v w. Gives (w, (list_in made v.later).1)) d e e l m m id (Ok (whole id)) i
          (given list_in object_within (λ v. Gives (term v.later id, (list_in made v.later).1)) e m (whole id) i.outcome.sound i.outcome.holds (λ later w. refl))))

-- ---- the rule

module _ (x : Site) (xs : List (value.Declaration ℕ)) where
  abbrev pub object_block : View → Judgement Typed
  object_block = rule x (p.ObjectBlock (seen_list xs))

  abbrev fields : View → Judgement (Term × p.Declarations Note)
  fields = judge_object x.place x.at xs

  abbrev ends : View → Term × p.Declarations Note → Judgement Typed
  ends v q = Has x.at (wanted_in v x.wanted) q.0 (p.ObjectBlock q.1)

  same_rule : (v : View) → object_block v ≡ Part (fields v) (ends v)
  same_rule v =
      sym (part_assoc (PublicFields (seen_list xs)) (λ u. behind x.place x.at xs v u) (ends v)
      ∙ behind_alike (PublicFields (seen_list xs)) (λ u. Part (behind x.place x.at xs v u) (ends v)) (λ u. Part (list x.place x.at xs v) (λ q. ends v (object_term xs v.scopes, q.1)))
      (λ u. part_assoc (list x.place x.at xs v) (with_kind x.place x.at xs v) (ends v)))

  as_rule : (c d : Scopes) (k l : Checker) (r : Result Given Refusal) → Comes (λ v. Part (fields v) (ends v)) c k d l r → Comes object_block c k d l r
  as_rule c d k l r h = seen_as typed_in kind_reached object_block (λ v. Part (fields v) (ends v)) c d k l r (λ later w. same_rule (view later k.types.listed c)) h

  pub no_object : (c d : Scopes) (k l : Checker) (e : Refusal) (r : Result Given Refusal) → IsErr r × IsErrAnd r (λ z. z ≡ e) → Answers list_in object_within fields c k d l (Err e) → Comes object_block c k d l r
  no_object c d k l e r h j = as_rule c d k l r (stops typed_in kind_reached list_in object_within fields ends c d k l e r h j)

  pub block_given : (c d e : Scopes) (k l m : Checker) (made : MadeList) (r : Result Given Refusal) → Answers list_in object_within fields c k d l (Ok made) → Comes (λ v. ends v (list_in made v.later)) d l e m r
      → Comes object_block c k e m r
  block_given c d e k l m made r j h = as_rule c e k m r (goes_on typed_in kind_reached list_in object_within fields ends c d e k l m made r j h)

-- ---- the site of its fields

pub fields_ready : (k : Checker) (c : Scopes) (x : Site) (at : ℕ) (y : Site) → y ≡ record x { at = at; wanted = None } → Ready k c x → Ready k c y
fields_ready k c x at y e r =
    subst (λ (z : Site). Ready k c z) (sym e) (record { sound = r.sound; returns = r.returns; wanting = record { kept = r.wanting.kept; wanted = tt } })
