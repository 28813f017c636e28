-- The rules of variants by their parts.
use Rattle.std.proofs.Common.{◌≡◌, ◌∙◌, ℕ, ◌<◌, false, List, [], ◌∷◌, Ok, Err, Option, Some, None, option_map, refl, sym, ap}
use Rattle.std.specs.Prelude.{Result}
use Rattle.std.specs.Result.{IsErr, IsErrAnd}
use Rattle.mo_types.specs.declared.node.Field.{Field}
use Rattle.mo_types.specs.Heads.{variant_of}
use Rattle.mo_types.specs.Sub.{find}
use Rattle.type_terms.specs.declared.form.Form.{Form}
use Rattle.type_terms.specs.declared.form.Form.TheVariants as variants
use Rattle.type_terms.specs.declared.form.TermId.{TermId}
use Rattle.type_terms.specs.Layouts.{layout}
use Rattle.type_terms.specs.Tables.{PartsBelow}
use Rattle.typing_rules.specs.declared.condition.Condition.TheVariants as condition
use Rattle.typing_rules.specs.AbstractSyntax.{Bytes, Expression}
use Rattle.typing_rules.specs.AbstractSyntax as p
use Rattle.typing_rules.specs.Definitions.{Definitions}
use Rattle.typing_rules.specs.Heads.{head}
use Rattle.typing_rules.specs.Terms.{Term}
use Rattle.typing_rules.specs.Terms as t
use Rattle.typing_rules.specs.Judgements.{Judgement, Case, Gives, IsBelow, Meets, Needs, Part}
use Rattle.typing_rules.specs.Judgements as j
use Rattle.typing_rules.specs.TypedTrees.{Typed, type_of, typed}
use Rattle.typing_rules.specs.Ends.{Has, wanted, with_type}
use Rattle.type_definitions.specs.Meanings.{term, term_of}
use Rattle.type_definitions.specs.Tables.{Later}
use Rattle.type_definitions.specs.Definitions.{rules_in}
use Rattle.met_types.specs.States.{Goes, Stands}
use Rattle.type_judgements.specs.declared.refusal.Refusal.{Refusal}
use Rattle.type_judgements.specs.declared.refusal.Refusal.TheVariants as refusal
use Rattle.value_scopes.specs.declared.scopes.Scopes.{Scopes}
use Rattle.judging.specs.declared.checker.Checker.{Checker}
use Rattle.judging.specs.declared.site.Site.{Site}
use Rattle.judging.specs.Answers.{Answers}
use Rattle.judging.specs.Heads.{WantedHas}
use Rattle.judging.specs.Views.{View, view, definitions, judge, judge_at, kind_reached, no_more, nothing, typed_in, wanted_in}
use Rattle.judging.proofs.Cases.{as_wanted, given_none, given_some, unwanted}
use Rattle.judging.proofs.Chains.{after, goes_on, seen_as, stops}
use Rattle.judging.proofs.Ends.{takes}
use Rattle.judging.proofs.Forms.{type_is}
use Rattle.judging.proofs.Steps.{IsOf, needs_then}
use Rattle.judging.proofs.TypedParts.{Given, Comes, part_given, part_refused}
use Rattle.data_parts.specs.Tags.{own_part, part_among, tag_of}

abbrev pub Handed : Result Given Refusal → Refusal → Type 0
Handed r e = IsErr r × IsErrAnd r (λ z. z ≡ e)

abbrev pub one_tag : Bytes → TermId → List (Field TermId)
one_tag name id = record { label = name; mutable = false; part = id } ∷ []

pub below_variant : (n : ℕ) (name : Bytes) (id : TermId) → id.index < n → PartsBelow n (variants.Variant (one_tag name id))
unfolding layout
below_variant n name id h = (h, tt)

-- ---- the tag of the variants that are wanted

module _ (defs : Definitions) (name : Bytes) (at : ℕ) (next : Term → Term → Judgement Typed) (other : Unit {0} → Judgement Typed) where
  by_found : (u : Term) (m : Option (Field Term)) → j.Given condition.Mismatch at m (λ f. next u f.part) ≡ j.Given condition.Mismatch at (option_map own_part m) (next u)
  by_found u None = refl
  by_found u (Some f) = refl

  by_tags : (u : Term) (o : Option (List (Field Term))) → Case (with_type defs u o) (λ q. j.Given condition.Mismatch at (find name q.1) (λ f. next q.0 f.part)) other
      ≡ Case (with_type defs u (option_map (part_among name) o)) (λ q. j.Given condition.Mismatch at q.1 (next q.0)) other
  by_tags u None = refl
  by_tags u (Some tags) = by_found u (find name tags)

  by_tag : (w : Option Term) → Case (wanted defs variant_of w) (λ q. j.Given condition.Mismatch at (find name q.1) (λ f. next q.0 f.part)) other
      ≡ Case (wanted defs (tag_of name) w) (λ q. j.Given condition.Mismatch at q.1 (next q.0)) other
  by_tag None = refl
  by_tag (Some u) = by_tags u (variant_of (head defs u))

module _ (x : Site) (name : Bytes) (next : View → Term → Term → Judgement Typed) (other : View → Unit {0} → Judgement Typed) where
  abbrev pub by_variant : View → Judgement Typed
  by_variant v = Case (wanted (definitions v) variant_of (wanted_in v x.wanted)) (λ q. j.Given condition.Mismatch x.at (find name q.1) (λ f. next v q.0 f.part)) (other v)

  abbrev fits : View → Term × Option Term → Judgement Typed
  fits v q = j.Given condition.Mismatch x.at q.1 (next v q.0)

  abbrev by_own_tag : View → Judgement Typed
  by_own_tag v = Case (wanted (definitions v) (tag_of name) (wanted_in v x.wanted)) (fits v) (other v)

  module _ (c d : Scopes) (k l : Checker) (r : Result Given Refusal) (o : Option (TermId × Option TermId)) (h : WantedHas (tag_of name) k.types x.wanted (λ later part. option_map (term later) part) o) where
    by_own : Comes by_own_tag c k d l r → Comes by_variant c k d l r
    by_own g =
        seen_as typed_in kind_reached by_variant by_own_tag c d k l r
        (λ later z. by_tag (rules_in later k.types.listed) name x.at (next (view later k.types.listed c)) (other (view later k.types.listed c)) (option_map (term later) x.wanted)) g

    pub tag_wanted : (w : TermId) (part : Option TermId) → o ≡ Some (w, part) → Comes (λ v. j.Given condition.Mismatch x.at (option_map (term v.later) part) (next v (term v.later w))) c k d l r → Comes by_variant c k d l r
    tag_wanted w part e g = by_own (as_wanted typed_in kind_reached (tag_of name) (λ later part. option_map (term later) part) x.wanted fits other c d k l r o h w part e g)

    pub tag_unwanted : o ≡ None → Comes (λ v. other v tt) c k d l r → Comes by_variant c k d l r
    tag_unwanted e g = by_own (unwanted typed_in kind_reached (tag_of name) (λ later part. option_map (term later) part) x.wanted fits other c d k l r o h e g)

-- ---- `#x`

module _ (x : Site) (name : Bytes) where
  abbrev pub tag_next : View → Term → Term → Judgement Typed
  tag_next v w u = Meets t.unit (Needs condition.Mismatch x.at (IsBelow t.unit u) (Gives (typed x.at w (p.Tag name))))

  abbrev pub tag_other : View → Unit {0} → Judgement Typed
  tag_other v u = Has x.at (wanted_in v x.wanted) (t.Variant (t.constant name t.unit t.NoFields)) (p.Tag name)

  -- () is the type of the tag
  pub unit_tag : (id : TermId) (g : Form) (c : Scopes) (k l m : Checker) (r : Result Given Refusal) → g ≡ variants.Tuple [] → Goes k.types l.types → ((met : List Term) → Stands met k.types → Stands met l.types)
      → ((later : List Form) → Later l.types.forms later → IsOf g id later)
      → Comes (λ v. Has x.at (wanted_in v x.wanted) (t.Variant (t.constant name (term v.later id) t.NoFields)) (p.Tag name)) c l c m r → Comes (λ v. tag_other v tt) c k c m r
  unit_tag id g c k l m r e go s is h =
      after typed_in kind_reached (λ v. tag_other v tt) c c c k l m r go s refl
      (seen_as typed_in kind_reached (λ v. tag_other v tt) (λ v. Has x.at (wanted_in v x.wanted) (t.Variant (t.constant name (term v.later id) t.NoFields)) (p.Tag name)) c c l m r
      (λ later z. ap (λ (u : Term). Has x.at (option_map (term later) x.wanted) (t.Variant (t.constant name u t.NoFields)) (p.Tag name)) (sym (is later z ∙ ap (λ (y : Form). term_of (term later) y) e))) h)

  module _ (w : TermId) (o : Option TermId) (c : Scopes) (k : Checker) where
    abbrev tag_end : View → Unit {0} → Judgement Typed
    tag_end v u = Gives (typed x.at (term v.later w) (p.Tag name))

    abbrev pub tag_fitting : View → Judgement Typed
    tag_fitting v = j.Given condition.Mismatch x.at (option_map (term v.later) o) (tag_next v (term v.later w))

    as_taken : (id : TermId) (l : Checker) (r : Result Given Refusal) → o ≡ Some id → Comes (λ v. Part (takes x.at id c k k v) (tag_end v)) c k c l r → Comes tag_fitting c k c l r
    as_taken id l r e h =
        given_some typed_in kind_reached (λ v. option_map (term v.later) o) c c k l r condition.Mismatch x.at (λ v. tag_next v (term v.later w)) (λ later. term later id) (λ later z. ap (option_map (term later)) e)
        (seen_as typed_in kind_reached (λ v. tag_next v (term v.later w) (term v.later id)) (λ v. Part (takes x.at id c k k v) (tag_end v)) c c k l r
        (λ later z. ap (λ (i : Judgement Typed). Meets t.unit i) (needs_then condition.Mismatch x.at (IsBelow t.unit (term later id)) (Gives (typed x.at (term later w) (p.Tag name))))) h)

    pub tag_given : (id : TermId) (l m : Checker) (r : Result Given Refusal) → o ≡ Some id → Answers nothing no_more (takes x.at id c k l) c k c l (Ok tt) → Comes (λ v. tag_end v tt) c l c m r → Comes tag_fitting c k c m r
    tag_given id l m r e h g = as_taken id m r e (goes_on typed_in kind_reached nothing no_more (takes x.at id c k k) tag_end c c c k l m tt r h g)

    pub tag_untaken : (id : TermId) (l : Checker) (q : Refusal) (r : Result Given Refusal) → o ≡ Some id → Handed r q → Answers nothing no_more (takes x.at id c k l) c k c l (Err q) → Comes tag_fitting c k c l r
    tag_untaken id l q r e g h = as_taken id l r e (stops typed_in kind_reached nothing no_more (takes x.at id c k k) tag_end c c k l q r g h)

    pub no_tag : o ≡ None → Comes tag_fitting c k c k (Err (refusal.False x.at condition.Mismatch))
    no_tag e = given_none typed_in kind_reached condition.Mismatch x.at (λ v. option_map (term v.later) o) c k (λ v. tag_next v (term v.later w)) (λ later z. ap (option_map (term later)) e)

-- ---- `#x a`

module _ (x : Site) (name : Bytes) (a : Expression ℕ) where
  abbrev tagged_end : View → Term → Typed → Judgement Typed
  tagged_end v w b = Gives (typed x.at w (p.Tagged name b))

  abbrev pub tagged_next : View → Term → Term → Judgement Typed
  tagged_next v w u = Part (judge_at x.place a (Some u) v) (tagged_end v w)

  abbrev tagged_had : View → Typed → Judgement Typed
  tagged_had v b = Has x.at (wanted_in v x.wanted) (t.Variant (t.constant name (type_of b) t.NoFields)) (p.Tagged name b)

  abbrev pub tagged_other : View → Unit {0} → Judgement Typed
  tagged_other v u = Part (judge x.place a None v) (tagged_had v)

  pub tagged_refused : (c d : Scopes) (k l : Checker) (e : Refusal) (r : Result Given Refusal) → Handed r e → Comes (judge x.place a None) c k d l (Err e) → Comes (λ v. tagged_other v tt) c k d l r
  tagged_refused c d k l e r g h = part_refused (judge x.place a None) tagged_had c d k l e r g h

  pub tagged_has : (c d : Scopes) (k l m : Checker) (b : Given) (r : Result Given Refusal) → Comes (judge x.place a None) c k d l (Ok b)
      → Comes (λ v. Has x.at (wanted_in v x.wanted) (t.Variant (t.constant name (term v.later b.note.kind) t.NoFields)) (p.Tagged name (typed_in b v.later))) d l d m r → Comes (λ v. tagged_other v tt) c k d m r
  tagged_has c d k l m b r h g =
      part_given (judge x.place a None) tagged_had c d d k l m b r h
      (seen_as typed_in kind_reached (λ v. tagged_had v (typed_in b v.later)) (λ v. Has x.at (wanted_in v x.wanted) (t.Variant (t.constant name (term v.later b.note.kind) t.NoFields)) (p.Tagged name (typed_in b v.later))) d d l m r
      (λ later z. ap (λ (u : Term). Has x.at (option_map (term later) x.wanted) (t.Variant (t.constant name u t.NoFields)) (p.Tagged name (typed_in b later))) (type_is b later)) g)

  module _ (w : TermId) (o : Option TermId) (c d : Scopes) (k l : Checker) where
    abbrev pub tagged_fitting : View → Judgement Typed
    tagged_fitting v = j.Given condition.Mismatch x.at (option_map (term v.later) o) (tagged_next v (term v.later w))

    as_there : (id : TermId) (r : Result Given Refusal) → o ≡ Some id → Comes (λ v. tagged_next v (term v.later w) (term v.later id)) c k d l r → Comes tagged_fitting c k d l r
    as_there id r e h =
        given_some typed_in kind_reached (λ v. option_map (term v.later) o) c d k l r condition.Mismatch x.at (λ v. tagged_next v (term v.later w)) (λ later. term later id) (λ later z. ap (option_map (term later)) e) h

    pub tagged_given : (id : TermId) (b : Given) (r : Result Given Refusal) → o ≡ Some id → Comes (judge x.place a (Some id)) c k d l (Ok b)
        → Comes (λ v. Gives (typed x.at (term v.later w) (p.Tagged name (typed_in b v.later)))) d l d l r → Comes tagged_fitting c k d l r
    tagged_given id b r e h g = as_there id r e (part_given (judge x.place a (Some id)) (λ v. tagged_end v (term v.later w)) c d d k l l b r h g)

    pub tagged_unfit : (id : TermId) (q : Refusal) (r : Result Given Refusal) → o ≡ Some id → Handed r q → Comes (judge x.place a (Some id)) c k d l (Err q) → Comes tagged_fitting c k d l r
    tagged_unfit id q r e g h = as_there id r e (part_refused (judge x.place a (Some id)) (λ v. tagged_end v (term v.later w)) c d k l q r g h)

  pub tagged_none : (w : TermId) (o : Option TermId) (c : Scopes) (k : Checker) → o ≡ None → Comes (tagged_fitting w o c c k k) c k c k (Err (refusal.False x.at condition.Mismatch))
  tagged_none w o c k e = given_none typed_in kind_reached condition.Mismatch x.at (λ v. option_map (term v.later) o) c k (λ v. tagged_next v (term v.later w)) (λ later z. ap (option_map (term later)) e)
