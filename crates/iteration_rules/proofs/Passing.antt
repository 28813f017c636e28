-- `for` by its parts.
use Rattle.std.proofs.Common.{◌≡◌, ◌∙◌, ℕ, List, Ok, Err, Option, Some, None, option_map, refl, sym, ap}
use Rattle.std.specs.Prelude.{Result}
use Rattle.std.specs.Result.{IsErr, IsErrAnd}
use Rattle.type_terms.specs.declared.form.Form.{Form}
use Rattle.type_terms.specs.declared.form.TermId.{TermId}
use Rattle.typing_rules.specs.declared.condition.Condition.TheVariants as condition
use Rattle.typing_rules.specs.AbstractSyntax.{Expression, Pattern}
use Rattle.typing_rules.specs.AbstractSyntax as p
use Rattle.typing_rules.specs.Calls.{items_of}
use Rattle.typing_rules.specs.Ends.{Has}
use Rattle.typing_rules.specs.Heads.{members_head}
use Rattle.typing_rules.specs.Judgements.{Judgement, Part, Given as IsGiven}
use Rattle.typing_rules.specs.Patterns.{Stands}
use Rattle.typing_rules.specs.Terms.{Term, unit}
use Rattle.typing_rules.specs.TypedTrees.{Note, Typed, type_of}
use Rattle.type_definitions.specs.Definitions.{rules_in}
use Rattle.type_definitions.specs.Meanings.{term}
use Rattle.met_types.specs.States.{State}
use Rattle.type_scopes.specs.Scopes.{seen}
use Rattle.type_judgements.specs.declared.refusal.Refusal.{Refusal}
use Rattle.type_judgements.specs.declared.refusal.Refusal.TheVariants as refusal
use Rattle.value_scopes.specs.declared.scopes.Scopes.{Scopes}
use Rattle.typed_patterns.specs.Making.{pattern_in}
use Rattle.judging.specs.declared.checker.Checker.{Checker}
use Rattle.judging.specs.declared.site.Site.{Site}
use Rattle.judging.specs.Views.{View, definitions, judge, kind_reached, no_more, nothing, rule, typed_in, view, wanted_in}
use Rattle.judging.specs.Answers.{Answers}
use Rattle.judging.proofs.Cases.{given_none, given_some}
use Rattle.judging.proofs.Chains.{after, goes_on, seen_as, stops}
use Rattle.judging.proofs.Forms.{type_is}
use Rattle.judging.proofs.TypedParts.{Comes, Given, part_given, part_refused}
use Rattle.scope_judging.specs.Rules.{loop_under}
use Rattle.iteration_rules.specs.declared.turns.Turn.{Turn}
use Rattle.iteration_rules.specs.Items.{Finds, items_in}
use Rattle.type_steps.specs.Steps.{meeting}
use Rattle.iteration_rules.specs.Turns.{passes, turn, turn_in, turn_reached}
use Rattle.iteration_rules.proofs.Turning.{turn_then}

abbrev Handed : Result Given Refusal → Refusal → Type 0
Handed r e = IsErr r × IsErrAnd r (λ y. y ≡ e)

-- ---- `for` over items of a type

module _ (x : Site) (q : Pattern ℕ) (b : Expression ℕ) where
  abbrev over : View → Typed → Term → Judgement Typed
  over v y u = Part (Stands (definitions v) (seen v.scopes.types) q u) (λ r. Part (loop_under x b r.0 v) (λ z. Has x.at (wanted_in v x.wanted) unit (p.For r.1 y z)))

  abbrev for_end : View → Typed → Pattern Note × Typed → Judgement Typed
  for_end v y z = Has x.at (wanted_in v x.wanted) unit (p.For z.0 y z.1)

  module _ (g : Given) (id : TermId) (c : Scopes) (k l : Checker) where
    abbrev passed : View → Judgement Typed
    passed v = passes x q b (typed_in g v.later) (term v.later id) v

    abbrev behind : View → Unit {0} → Judgement Typed
    behind v _ = over v (typed_in g v.later) (term v.later id)

    pub not_met : (e : Refusal) (r : Result Given Refusal) → Handed r e → Answers nothing no_more (meeting id) c k c l (Err e) → Comes passed c k c l r
    not_met e r h i = stops typed_in kind_reached nothing no_more (meeting id) behind c c k l e r h i

    module _ (m : Answers nothing no_more (meeting id) c k c l (Ok tt)) where
      abbrev turned : View → Judgement Typed
      turned v = Part (turn x q id b v) (for_end v (typed_in g v.later))

      from_turn : (d : Scopes) (n : Checker) (r : Result Given Refusal) → Comes turned c l d n r → Comes passed c k d n r
      from_turn d n r h =
          goes_on typed_in kind_reached nothing no_more (meeting id) behind c c d k l n tt r m
          (seen_as typed_in kind_reached (λ v. behind v tt) turned c d l n r
          (λ later w. sym (turn_then x q id b (for_end (view later l.types.listed c) (typed_in g later)) (view later l.types.listed c))) h)

      pub no_turn : (d : Scopes) (n : Checker) (e : Refusal) (r : Result Given Refusal) → Handed r e → Answers turn_in turn_reached (turn x q id b) c l d n (Err e) → Comes passed c k d n r
      no_turn d n e r h i = from_turn d n r (stops typed_in kind_reached turn_in turn_reached (turn x q id b) (λ v. for_end v (typed_in g v.later)) c d l n e r h i)

      pub pass_given : (d : Scopes) (n o : Checker) (y : Turn) (r : Result Given Refusal) → Answers turn_in turn_reached (turn x q id b) c l d n (Ok y)
          → Comes (λ v. Has x.at (wanted_in v x.wanted) unit (p.For (pattern_in y.pattern v.later) (typed_in g v.later) (typed_in y.body v.later))) d n d o r → Comes passed c k d o r
      pass_given d n o y r h i =
          from_turn d o r (goes_on typed_in kind_reached turn_in turn_reached (turn x q id b) (λ v. for_end v (typed_in g v.later)) c d d l n o y r h i)

-- ---- `for`

module _ (x : Site) (q : Pattern ℕ) (a b : Expression ℕ) where
  abbrev iterated : View → Judgement Typed
  iterated = rule x (p.For q a b)

  abbrev of_value : View → Judgement Typed
  of_value v = judge x.place a None v

  abbrev goes_over : View → Typed → Judgement Typed
  goes_over v y = IsGiven condition.NotIterable x.at (items_of (definitions v) (members_head (definitions v) (type_of y))) (λ u. passes x q b y u v)

  pub no_value : (c d : Scopes) (k l : Checker) (e : Refusal) (r : Result Given Refusal) → Handed r e → Comes of_value c k d l (Err e) → Comes iterated c k d l r
  no_value c d k l e r h i = part_refused of_value goes_over c d k l e r h i

  module _ (c d : Scopes) (k l : Checker) (g : Given) (h : Comes of_value c k d l (Ok g)) (t : State) (o : Option TermId) (f : Finds l.types (items_in g.note.kind) o t) where
    abbrev after_items : Checker
    after_items = record l { types = t }

    abbrev items_at : View → Option Term
    items_at v = items_of (definitions v) (members_head (definitions v) (type_of (typed_in g v.later)))

    items_are : (later : List Form) → items_at (view later t.listed d) ≡ items_in g.note.kind later t.listed
    items_are later = ap (λ (u : Term). items_of (rules_in later t.listed) (members_head (rules_in later t.listed) u)) (type_is g later)

    from_items : (e : Scopes) (m : Checker) (r : Result Given Refusal) → Comes (λ v. goes_over v (typed_in g v.later)) d after_items e m r → Comes iterated c k e m r
    from_items e m r i = part_given of_value goes_over c d e k l m g r h (after typed_in kind_reached (λ v. goes_over v (typed_in g v.later)) d d e l after_items m r f.goes f.stands refl i)

    pub items_found : (id : TermId) → o ≡ Some id → (e : Scopes) (m : Checker) (r : Result Given Refusal) → Comes (λ v. passes x q b (typed_in g v.later) (term v.later id) v) d after_items e m r → Comes iterated c k e m r
    items_found id z e m r i =
        from_items e m r
        (given_some typed_in kind_reached items_at d e after_items m r condition.NotIterable x.at (λ v u. passes x q b (typed_in g v.later) u v) (λ later. term later id)
        (λ later w. items_are later ∙ (f.is later w ∙ ap (option_map (term later)) z)) i)

    pub no_items : o ≡ None → Comes iterated c k d after_items (Err (refusal.False x.at condition.NotIterable))
    no_items z =
        from_items d after_items (Err (refusal.False x.at condition.NotIterable))
        (given_none typed_in kind_reached condition.NotIterable x.at items_at d after_items (λ v u. passes x q b (typed_in g v.later) u v)
        (λ later w. items_are later ∙ (f.is later w ∙ ap (option_map (term later)) z)))
