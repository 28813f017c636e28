-- `let`.
use Rattle.std.proofs.Common.{◌≡◌, ◌∙◌, ℕ, Bool, Ok, Err, Option, Some, None, sym, ap, subst}
use Rattle.std.specs.Prelude.{Result}
use Rattle.std.specs.Result.{IsErr, IsErrAnd}
use Rattle.typing_rules.specs.AbstractSyntax.{Expression, Pattern}
use Rattle.typing_rules.specs.AbstractSyntax as p
use Rattle.typing_rules.specs.AsyncPlaces as async
use Rattle.typing_rules.specs.AsyncPlaces.{around_of}
use Rattle.typing_rules.specs.Contexts.{Scope, directly}
use Rattle.typing_rules.specs.Expressions.{Judge}
use Rattle.typing_rules.specs.Judgements.{Case, Gives, Judgement, Part}
use Rattle.typing_rules.specs.Lists as rules
use Rattle.typing_rules.specs.Patterns.{Stands}
use Rattle.typing_rules.specs.Terms.{Term}
use Rattle.typing_rules.specs.TypedTrees.{Note, Typed, annotation, declared_type, note, type_of}
use Rattle.type_definitions.specs.Meanings.{term}
use Rattle.type_scopes.specs.Scopes.{seen}
use Rattle.type_judgements.specs.declared.refusal.Refusal.{Refusal}
use Rattle.abstract_types.specs.declared.patterns.Pattern as value_pattern
use Rattle.abstract_tree.specs.declared.declarations.DeclarationForm.TheVariants as form
use Rattle.value_scopes.specs.declared.note.Note as value_note
use Rattle.value_scopes.specs.declared.place.Around.{Around}
use Rattle.value_scopes.specs.declared.place.Place.{Place}
use Rattle.value_scopes.specs.declared.scopes.Scopes.{Scopes}
use Rattle.value_scopes.specs.Places.{around_in}
use Rattle.value_scopes.specs.Values.{noted, scope_in}
use Rattle.typed_patterns.specs.Making.{pattern_in}
use Rattle.proper_types.proofs.Turns.{part_assoc}
use Rattle.judging.specs.declared.checker.Checker.{Checker}
use Rattle.judging.specs.declared.site.Site.{Site}
use Rattle.judging.specs.Views.{View, context, definitions, judge_at, typed_in, view}
use Rattle.judging.specs.Answers.{Answers}
use Rattle.judging.proofs.Forms.{type_is}
use Rattle.scope_judging.specs.Binding.{Binds}
use Rattle.scope_judging.specs.Rules.{reads, stands}
use Rattle.order_rules.specs.declared.entries.Entry.{Entry}
use Rattle.order_rules.specs.declared.values.DeclaredValue.{DeclaredValue}
use Rattle.order_rules.specs.Entries.{Enters, entry_in, entry_reached, judge_one}
use Rattle.order_rules.specs.Values.{declared_value, value_in, value_of, value_reached}
use Rattle.order_rules.proofs.Declarations.{seen_Let}
use Rattle.order_rules.proofs.Declared.{written_as}
use Rattle.order_rules.proofs.Entering.{bound_enters, enters_as, enters_then, stops_entering, unbound_enters}

-- the place of the value
abbrev pub there : Site → Around → Place
there x o = record x.place { around = o }

module _ (x : Site) (at : ℕ) (q : Pattern ℕ) (a : Expression ℕ) (last : Bool) (o : Around) (h : around_in o ≡ around_of q) where
  abbrev pub bound_let : View → Judgement rules.Entry
  bound_let = judge_one x at (p.Let q a) last

  abbrev valued : View → Judgement (Term × Typed)
  valued = declared_value x (annotation q) (there x o) a

  abbrev binding : View → Term × Typed → Judgement rules.Entry
  binding v z = Part (Stands (definitions v) (seen v.scopes.types) q z.0) (λ r. Gives (rules.entry r.0 (note at (type_of z.1)) (p.Let r.1 z.1)))

  same_let : (v : View) → bound_let v ≡ Part (valued v) (binding v)
  same_let v =
      ap (λ (z : async.Around).
      Part (Case (annotation q) (λ u. Part (reads u v) (λ t. judge_at x.place a (Some t) v)) (λ _. Judge (definitions v) (directly z (context v x.place)) a None))
      (λ b. binding v (declared_type (seen v.scopes.types) (annotation q) b, b))) (sym h)
      ∙ sym (part_assoc (value_of x (annotation q) (there x o) a v) (λ b. Gives (declared_type (seen v.scopes.types) (annotation q) b, b)) (binding v))

  as_let : (c d : Scopes) (k l : Checker) (r : Result Entry Refusal) → Enters entry_in entry_reached (λ v. Part (valued v) (binding v)) c k d l r → Enters entry_in entry_reached bound_let c k d l r
  as_let c d k l r g = enters_as entry_in entry_reached bound_let (λ v. Part (valued v) (binding v)) c d k l r (λ later w. same_let (view later k.types.listed c)) g

  pub no_value : (c d f : Scopes) (k l : Checker) (e : Refusal) (r : Result Entry Refusal) → IsErr r × IsErrAnd r (λ z. z ≡ e) → Answers value_in value_reached valued c k d l (Err e)
      → Enters entry_in entry_reached bound_let c k f l r
  no_value c d f k l e r g j = as_let c f k l r (stops_entering entry_in entry_reached value_in value_reached valued binding c d f k l e r g j)

  module _ (c d : Scopes) (k l : Checker) (made : DeclaredValue) (j : Answers value_in value_reached valued c k d l (Ok made)) where
    abbrev entered : View → Scope × Pattern Note → Judgement rules.Entry
    entered v r = Gives (rules.entry r.0 (note at (type_of (typed_in made.value v.later))) (p.Let r.1 (typed_in made.value v.later)))

    from_binding : (e : Scopes) (m : Checker) (r : Result Entry Refusal) → Enters entry_in entry_reached (λ v. Part (stands q made.kind v) (entered v)) d l e m r → Enters entry_in entry_reached bound_let c k e m r
    from_binding e m r g = as_let c e k m r (enters_then entry_in entry_reached value_in value_reached valued binding c d e k l m made r j g)

    pub no_pattern : (e f : Scopes) (m : Checker) (y : Refusal) (r : Result Entry Refusal) → IsErr r × IsErrAnd r (λ z. z ≡ y) → Binds pattern_in (stands q made.kind) d l e m (Err y) → Enters entry_in entry_reached bound_let c k f m r
    no_pattern e f m y r g b = from_binding f m r (unbound_enters entry_in entry_reached pattern_in (stands q made.kind) entered d e f l m y r g b)

    abbrev pub let_made : value_pattern.Pattern value_note.Note → Entry
    let_made r = record { value = None; made = Some (record { note = record { at = at; kind = made.value.note.kind }; form = form.Let r made.value }) }

    pub let_given : (e : Scopes) (m : Checker) (r : value_pattern.Pattern value_note.Note) → Binds pattern_in (stands q made.kind) d l e m (Ok r) → Enters entry_in entry_reached bound_let c k e m (Ok (let_made r))
    let_given e m r b = from_binding e m (Ok (let_made r)) (bound_enters entry_in entry_reached pattern_in (stands q made.kind) entered d e l m r (let_made r) b tt
        (λ more later w.
        ap (λ (u : Term). Gives (rules.entry (scope_in later more) (note at u) (p.Let (pattern_in r later) (typed_in made.value later)))) (type_is made.value later)
        ∙ ap (λ (f : p.Declaration Note). Gives (rules.entry (scope_in later more) (note at (term later made.value.note.kind)) f)) (sym (seen_Let (λ n. noted later n) r made.value))))

-- a value that is judged there
pub placed : (x : Site) (q : Pattern ℕ) (a : Expression ℕ) (o : Around) (n : Option p.TypeNode) (y : Place) (c d : Scopes) (k l : Checker) (r : Result DeclaredValue Refusal) → n ≡ annotation q → y ≡ there x o
    → Answers value_in value_reached (declared_value x n y a) c k d l r → Answers value_in value_reached (declared_value x (annotation q) (there x o) a) c k d l r
placed x q a o n y c d k l r e f h =
    written_as x (there x o) a n (annotation q) c d k l r e (subst (λ (z : Place). Answers value_in value_reached (declared_value x n z a) c k d l r) f h)
