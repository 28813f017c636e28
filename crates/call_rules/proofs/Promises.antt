-- `await` by the type of what it stands before.
use Rattle.std.proofs.Common.{◌≡◌, ◌∙◌, ℕ, ◌<◌, List, Ok, Err, Option, Some, None, IfSome, option_map, refl, ap, subst}
use Rattle.std.specs.Prelude.{Result}
use Rattle.std.specs.Result.{IsErr, IsErrAnd}
use Rattle.mo_types.specs.declared.node.Node.{Node}
use Rattle.mo_types.specs.declared.node.Node.TheVariants as node
use Rattle.mo_types.specs.declared.node.TypeId.{TypeId}
use Rattle.mo_types.specs.Heads.{async_of}
use Rattle.mo_types.specs.Sub.{Each}
use Rattle.mo_subtype.specs.Renamed.{on_node}
use Rattle.typed_tree.specs.Instances.{types_in}
use Rattle.type_terms.specs.declared.form.Form.{Form}
use Rattle.type_terms.specs.declared.form.TermId.{TermId}
use Rattle.typing_rules.specs.declared.condition.Condition.TheVariants as condition
use Rattle.typing_rules.specs.AbstractSyntax.{Expression}
use Rattle.typing_rules.specs.AbstractSyntax as p
use Rattle.typing_rules.specs.Heads.{head}
use Rattle.typing_rules.specs.Terms.{Term}
use Rattle.typing_rules.specs.Judgements.{Judgement, Part, Given as IsGiven}
use Rattle.typing_rules.specs.TypedTrees.{Typed, type_of}
use Rattle.typing_rules.specs.Ends.{Has}
use Rattle.type_definitions.specs.Meanings.{term}
use Rattle.type_definitions.specs.Tables.{Later}
use Rattle.type_judgements.specs.declared.refusal.Refusal.{Refusal}
use Rattle.type_judgements.specs.declared.refusal.Refusal.TheVariants as refusal
use Rattle.value_scopes.specs.declared.place.Around.TheVariants as around
use Rattle.value_scopes.specs.declared.place.Place.{Place}
use Rattle.value_scopes.specs.declared.scopes.Scopes.{Scopes}
use Rattle.judging.specs.declared.checker.Checker.{Checker}
use Rattle.judging.specs.declared.site.Site.{Site}
use Rattle.judging.specs.Heads.{HeadHas}
use Rattle.judging.specs.Views.{View, view, definitions, judge, wanted_in, typed_in, kind_reached}
use Rattle.judging.proofs.Cases.{given_none, given_some}
use Rattle.judging.proofs.Forms.{type_is}
use Rattle.judging.proofs.NodeParts.{OnePart}
use Rattle.judging.proofs.TypedParts.{Given, Comes, part_given, part_refused}

pub future_one : OnePart async_of async_of
future_one = record { same = same; among = among } where
  same : (f : TypeId → Term) (y : Node TypeId) → async_of (on_node f y) ≡ option_map f (async_of y)
  same f (node.Async a) = refl
  same f _ = refl

  among : (n : ℕ) (y : Node TypeId) → Each (λ p. p.index < n) (types_in y) → IfSome (async_of y) (λ p. p.index < n)
  among n (node.Async a) h = h.0
  among n _ h = tt

pub some_is : (P : TermId → Type 0) (o : Option TermId) (id : TermId) → o ≡ Some id → IfSome o P → P id
some_is P o id e h = subst (λ (q : Option TermId). IfSome q P) e h

module _ (x : Site) (a : Expression ℕ) where
  abbrev pub part : View → Judgement Typed
  part v = judge (record x.place { around = around.Awaited }) a None v

  abbrev rest : View → Typed → Judgement Typed
  rest v b = IsGiven condition.AsyncPlace x.at (async_of (head (definitions v) (type_of b))) (λ u. Has x.at (wanted_in v x.wanted) u (p.Await b))

  abbrev pub awaits : View → Judgement Typed
  awaits v = Part (part v) (rest v)

  pub not_typed : (y : Place) (c d : Scopes) (k l : Checker) (e : Refusal) (r : Result Given Refusal) → y ≡ record x.place { around = around.Awaited } → IsErr r × IsErrAnd r (λ z. z ≡ e) → Comes (judge y a None) c k d l (Err e) → Comes awaits c k d l r
  not_typed y c d k l e r q h g = part_refused part rest c d k l e r h (subst (λ (z : Place). Comes (judge z a None) c k d l (Err e)) q g)

  module _ (y : Place) (q : y ≡ record x.place { around = around.Awaited }) (c d : Scopes) (k l : Checker) (b : Given) (g : Comes (judge y a None) c k d l (Ok b)) (o : Option TermId)
      (h : HeadHas async_of l.types b.note.kind (λ later. option_map (term later) o)) where
    abbrev kind_in : View → Option Term
    kind_in v = async_of (head (definitions v) (type_of (typed_in b v.later)))

    abbrev ended : View → Term → Judgement Typed
    ended v u = Has x.at (wanted_in v x.wanted) u (p.Await (typed_in b v.later))

    kind_is : (later : List Form) → Later l.types.forms later → kind_in (view later l.types.listed d) ≡ option_map (term later) o
    kind_is later z = ap (λ (u : Term). async_of (head (definitions (view later l.types.listed d)) u)) (type_is b later) ∙ h later z

    first : Comes part c k d l (Ok b)
    first = subst (λ (z : Place). Comes (judge z a None) c k d l (Ok b)) q g

    pub is_future : (id : TermId) (m : Checker) (r : Result Given Refusal) → o ≡ Some id → Comes (λ v. ended v (term v.later id)) d l d m r → Comes awaits c k d m r
    is_future id m r e i =
        part_given part rest c d d k l m b r first
        (given_some typed_in kind_reached kind_in d d l m r condition.AsyncPlace x.at ended (λ later. term later id) (λ later z. kind_is later z ∙ ap (option_map (term later)) e) i)

    pub no_future : o ≡ None → Comes awaits c k d l (Err (refusal.False x.at condition.AsyncPlace))
    no_future e =
        part_given part rest c d d k l l b (Err (refusal.False x.at condition.AsyncPlace)) first
        (given_none typed_in kind_reached condition.AsyncPlace x.at kind_in d l ended (λ later z. kind_is later z ∙ ap (option_map (term later)) e))
