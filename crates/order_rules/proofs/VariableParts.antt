-- `var`.
use Rattle.std.proofs.Common.{◌≡◌, ◌∙◌, inl, inr, ℕ, Bool, true, false, [], ◌∷◌, Ok, Err, Option, Some, None, refl, sym, ap, subst}
use Rattle.std.specs.Prelude.{Result}
use Rattle.std.specs.Result.{IsErr, IsErrAnd}
use Rattle.type_terms.specs.declared.form.TermId.{TermId}
use Rattle.typing_rules.specs.declared.condition.Condition.TheVariants as condition
use Rattle.typing_rules.specs.AbstractSyntax.{Bytes, Expression, Named, TypeNode}
use Rattle.typing_rules.specs.AbstractSyntax as p
use Rattle.typing_rules.specs.Contexts.{variable}
use Rattle.typing_rules.specs.Judgements.{Fine, Gives, IsShareable, Judgement, Needs, Part}
use Rattle.typing_rules.specs.Lists as rules
use Rattle.typing_rules.specs.Lists.{Stable}
use Rattle.typing_rules.specs.Terms.{Term}
use Rattle.typing_rules.specs.TypedTrees.{Note, Typed, declared_type, note}
use Rattle.type_definitions.specs.Meanings.{term}
use Rattle.type_definitions.proofs.Meanings.{grows_not}
use Rattle.shareable_types.specs.declared.sharing.Sharing.{Sharing}
use Rattle.shareable_types.specs.Answers.{IsAnswer, Stands}
use Rattle.type_scopes.specs.Scopes.{seen}
use Rattle.type_judgements.specs.declared.refusal.Refusal.{Refusal}
use Rattle.type_judgements.specs.declared.refusal.Refusal.TheVariants as refusal
use Rattle.abstract_types.specs.declared.names.PlacedName.{PlacedName}
use Rattle.abstract_types.specs.declared.types.TypeNode as value_type
use Rattle.abstract_types.specs.TypeView.{annotation, named}
use Rattle.abstract_tree.specs.declared.declarations.DeclarationForm.TheVariants as form
use Rattle.value_scopes.specs.declared.bound.Bound as value_bound
use Rattle.value_scopes.specs.declared.scopes.Scopes.{Scopes}
use Rattle.value_scopes.specs.Values.{noted}
use Rattle.typed_patterns.specs.Binding.{Names}
use Rattle.proper_types.proofs.Turns.{part_assoc}
use Rattle.typed_patterns.proofs.Standing.{behind_alike}
use Rattle.judging.specs.declared.checker.Checker.{Checker}
use Rattle.judging.specs.declared.site.Site.{Site}
use Rattle.judging.specs.Parts.{Sound}
use Rattle.judging.specs.Views.{View, no_more, nothing, typed_in, view}
use Rattle.judging.specs.Answers.{Answers}
use Rattle.judging.proofs.Chains.{given}
use Rattle.judging.proofs.Steps.{needs_then, reached_on}
use Rattle.scope_judging.specs.Binding.{under}
use Rattle.order_rules.specs.declared.entries.Entry.{Entry}
use Rattle.order_rules.specs.declared.values.DeclaredValue.{DeclaredValue}
use Rattle.order_rules.specs.Entries.{Enters, entry_in, entry_reached, judge_one}
use Rattle.order_rules.specs.Values.{declared_value, value_in, value_of, value_reached}
use Rattle.order_rules.proofs.Declarations.{seen_Var}
use Rattle.order_rules.proofs.Entering.{enters_as, enters_given, enters_then, stops_entering}

-- ---- a stable type

abbrev sending : ℕ → TermId → View → Judgement (Unit {0})
sending at kind v = Needs condition.StableType at (IsShareable (term v.later kind)) Fine

abbrev pub stable_in : Bool → ℕ → TermId → View → Judgement (Unit {0})
stable_in stable at kind v = Stable stable at (term v.later kind) Fine

module _ (at : ℕ) (kind : TermId) (c : Scopes) (k : Checker) (s : Sound k c) where
  module _ (new : Sharing) (is : Bool) (h : IsAnswer k.messages.any k.types kind is) where
    abbrev answer : IsAnswer true k.types kind is
    answer = subst (λ (any : Bool). IsAnswer any k.types kind is) s.known.any h

    pub may_be_sent : new.any ≡ k.messages.any → Stands k.types new → is ≡ true → Answers nothing no_more (sending at kind) c k c (record k { messages = new }) (Ok tt)
    may_be_sent q u g = record {
      outcome = record {
        sound = record {
          known = record {
            kept = s.known.kept;
            messages = u;
            any = q ∙ s.known.any;
            equality = s.known.equality;
            no_any = s.known.no_any;
          };
          values = s.values;
          labels = s.labels;
        };
        same = refl;
        goes = record { forms = grows_not k.types.forms; listed = refl; outcomes = refl; reached = λ i v w. w };
        holds = tt;
        gave = record {
          by = λ met st later l.
              let y : IsAnswer true k.types kind true = subst (λ (b : Bool). IsAnswer true k.types kind b) g answer in
              (met, st, inl (y later l, refl));
        };
      };
    }

    pub may_not_be_sent : is ≡ false → Answers nothing no_more (sending at kind) c k c (record k { messages = new }) (Err (refusal.False at condition.StableType))
    may_not_be_sent g = record {
      outcome = record {
        left = record { forms = grows_not k.types.forms; listed = refl };
        names = record {
          by = λ met st later l.
              let y : IsAnswer true k.types kind false = subst (λ (b : Bool). IsAnswer true k.types kind b) g answer in
              (met, inr (y later l, refl));
        };
      };
    }

  pub stable_sent : (stable : Bool) (l : Checker) (r : Result (Unit {0}) Refusal) → stable ≡ true → Answers nothing no_more (sending at kind) c k c l r → Answers nothing no_more (stable_in stable at kind) c k c l r
  stable_sent stable l r e h = subst (λ (b : Bool). Answers nothing no_more (stable_in b at kind) c k c l r) (sym e) h

  pub not_stable : (stable : Bool) → stable ≡ false → Answers nothing no_more (stable_in stable at kind) c k c k (Ok tt)
  not_stable stable e = subst (λ (b : Bool). Answers nothing no_more (stable_in b at kind) c k c k (Ok tt)) (sym e) (given nothing no_more (stable_in false at kind) c k tt s tt (λ later w. refl))

-- a condition, and then what follows
stable_then : {A : Type 0} (stable : Bool) (at : ℕ) (u : Term) (j : Judgement A) → Stable stable at u j ≡ Part (Stable stable at u Fine) (λ z. j)
stable_then false at u j = refl
stable_then true at u j = needs_then condition.StableType at (IsShareable u) j

-- ---- the rule

module _ (x : Site) (at : ℕ) (stable : Bool) (name : Named) (n : Option TypeNode) (a : Expression ℕ) (last : Bool) where
  abbrev pub variable_of : View → Judgement rules.Entry
  variable_of = judge_one x at (p.Var stable name n a) last

  abbrev valued : View → Judgement (Term × Typed)
  valued = declared_value x n x.place a

  abbrev entering : Term → Typed → Judgement rules.Entry
  entering u b = Gives (rules.entry ((name.bytes, variable u) ∷ []) (note at u) (p.Var stable name n b))

  abbrev checked : View → Term × Typed → Judgement rules.Entry
  checked v z = Part (Stable stable at z.0 Fine) (λ w. entering z.0 z.1)

  same_variable : (v : View) → variable_of v ≡ Part (valued v) (checked v)
  same_variable v =
      behind_alike (value_of x n x.place a v) (λ b. Stable stable at (declared_type (seen v.scopes.types) n b) (entering (declared_type (seen v.scopes.types) n b) b)) (λ b. checked v (declared_type (seen v.scopes.types) n b, b))
      (λ b. stable_then stable at (declared_type (seen v.scopes.types) n b) (entering (declared_type (seen v.scopes.types) n b) b))
      ∙ sym (part_assoc (value_of x n x.place a v) (λ b. Gives (declared_type (seen v.scopes.types) n b, b)) (checked v))

  as_variable : (c d : Scopes) (k l : Checker) (r : Result Entry Refusal) → Enters entry_in entry_reached (λ v. Part (valued v) (checked v)) c k d l r → Enters entry_in entry_reached variable_of c k d l r
  as_variable c d k l r g = enters_as entry_in entry_reached variable_of (λ v. Part (valued v) (checked v)) c d k l r (λ later w. same_variable (view later k.types.listed c)) g

  pub no_value : (c d f : Scopes) (k l : Checker) (e : Refusal) (r : Result Entry Refusal) → IsErr r × IsErrAnd r (λ z. z ≡ e) → Answers value_in value_reached valued c k d l (Err e)
      → Enters entry_in entry_reached variable_of c k f l r
  no_value c d f k l e r g j = as_variable c f k l r (stops_entering entry_in entry_reached value_in value_reached valued checked c d f k l e r g j)

  module _ (c d : Scopes) (k l : Checker) (made : DeclaredValue) (j : Answers value_in value_reached valued c k d l (Ok made)) where
    abbrev behind : View → Unit {0} → Judgement rules.Entry
    behind v w = entering (term v.later made.kind) (typed_in made.value v.later)

    from_checked : (e : Scopes) (m : Checker) (r : Result Entry Refusal) → Enters entry_in entry_reached (λ v. Part (stable_in stable at made.kind v) (behind v)) d l e m r → Enters entry_in entry_reached variable_of c k e m r
    from_checked e m r g = as_variable c e k m r (enters_then entry_in entry_reached value_in value_reached valued checked c d e k l m made r j g)

    pub unstable : (f : Scopes) (m : Checker) (y : Refusal) (r : Result Entry Refusal) → IsErr r × IsErrAnd r (λ z. z ≡ y) → Answers nothing no_more (stable_in stable at made.kind) d l d m (Err y)
        → Enters entry_in entry_reached variable_of c k f m r
    unstable f m y r g h = from_checked f m r (stops_entering entry_in entry_reached nothing no_more (stable_in stable at made.kind) behind d d f l m y r g h)

    module _ (copy : PlacedName) (written : Option value_type.TypeNode) (e : named copy ≡ name) (f : annotation written ≡ n) where
      abbrev pub variable_made : Entry
      variable_made = record { value = None; made = Some (record { note = record { at = at; kind = made.kind }; form = form.Var stable copy written made.value }) }

      abbrev pub one : Names
      one = (name.bytes, record { kind = made.kind; mutable = true; generics = [] }) ∷ []

      pub variable_given : (g : Scopes) (m : Checker) → g ≡ under one d → Answers nothing no_more (stable_in stable at made.kind) d l d m (Ok tt) → Enters entry_in entry_reached variable_of c k g m (Ok variable_made)
      variable_given g m q h =
          from_checked g m (Ok variable_made)
          (enters_then entry_in entry_reached nothing no_more (stable_in stable at made.kind) behind d d g l m m tt (Ok variable_made) h
          (enters_given entry_in entry_reached (λ v. behind v tt) d g m one variable_made h.outcome.sound tt (reached_on l.types m.types made.kind h.outcome.goes j.outcome.holds.0, tt) q
          (λ later w.
          ap (λ (z : p.Declaration Note). Gives (rules.entry ((name.bytes, variable (term later made.kind)) ∷ []) (note at (term later made.kind)) z)) (sym (seen_Var (λ i. noted later i) stable copy written made.value
          ∙ (ap (λ (z : Named). p.Var stable z (annotation written) (typed_in made.value later)) e ∙ ap (λ (z : Option TypeNode). p.Var stable name z (typed_in made.value later)) f))))))

-- ---- the name that is bound

pub pushed_is : (d : Scopes) (vs : Names) (x y : Bytes) (b c : value_bound.Bound) → vs ≡ (x, b) ∷ d.values → x ≡ y → b ≡ c → record d { values = vs } ≡ under ((y, c) ∷ []) d
pushed_is d vs x y b c e f g =
    ap (λ (ws : Names). record d { values = ws }) (e ∙ (ap (λ (z : Bytes). (z, b) ∷ d.values) f ∙ ap (λ (z : value_bound.Bound). (y, z) ∷ d.values) g))
