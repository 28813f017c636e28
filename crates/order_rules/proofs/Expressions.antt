-- Expressions of lists, and declarations that are not evaluated in order.
use Rattle.std.proofs.Common.{◌≡◌, ◌∙◌, ℕ, Bool, [], ◌∷◌, Ok, Err, Option, Some, None, IfSome, option_map, refl, sym, ap, subst}
use Rattle.std.specs.Prelude.{Result}
use Rattle.std.specs.Result.{IsErr, IsErrAnd}
use Rattle.type_terms.specs.declared.form.TermId.{TermId}
use Rattle.typing_rules.specs.AbstractSyntax.{Declaration, Expression}
use Rattle.typing_rules.specs.AbstractSyntax as p
use Rattle.typing_rules.specs.declared.condition.Condition.TheVariants as condition
use Rattle.typing_rules.specs.Judgements.{Fine, Gives, IsBelow, Judgement, Meets, Needs, Part}
use Rattle.typing_rules.specs.Lists as rules
use Rattle.typing_rules.specs.Terms.{Term}
use Rattle.typing_rules.specs.Terms as t
use Rattle.typing_rules.specs.TypedTrees.{Note, Typed, note, type_of}
use Rattle.type_definitions.specs.Meanings.{term}
use Rattle.met_types.specs.States.{IsReached}
use Rattle.type_judgements.specs.Judged.{Judged}
use Rattle.type_judgements.specs.declared.refusal.Refusal.{Refusal}
use Rattle.abstract_tree.specs.declared.declarations.DeclarationForm.{DeclarationForm}
use Rattle.abstract_tree.specs.declared.declarations.DeclarationForm.TheVariants as form
use Rattle.abstract_tree.specs.TreeView.{plain_declaration_form}
use Rattle.value_scopes.specs.declared.scopes.Scopes.{Scopes}
use Rattle.value_scopes.specs.Values.{noted}
use Rattle.judging.specs.declared.checker.Checker.{Checker}
use Rattle.judging.specs.declared.site.Site.{Site}
use Rattle.judging.specs.Parts.{Sound}
use Rattle.judging.specs.Views.{View, judge_at, kind_reached, no_more, nothing, term_in, typed_in, view, wanted_in}
use Rattle.judging.specs.Answers.{Answers}
use Rattle.judging.proofs.Chains.{given, goes_on, seen_as, stops}
use Rattle.judging.proofs.Forms.{type_is}
use Rattle.judging.proofs.Steps.{judged_as, needs_then}
use Rattle.judging.proofs.TypedParts.{Comes, Given}
use Rattle.order_rules.specs.declared.entries.Entry.{Entry}
use Rattle.order_rules.specs.Entries.{Enters, entry_in, entry_reached, judge_one, wanted_of}
use Rattle.order_rules.proofs.Declarations.{seen_Evaluate}
use Rattle.order_rules.proofs.Entering.{enters_given, enters_then, stops_entering}

module _ (x : Site) (a : Expression ℕ) where
  abbrev pub of_list : Bool → View → Judgement Typed
  of_list last v = judge_at x.place a (wanted_of x last v) v

  pub as_last : (last b : Bool) (c d : Scopes) (k l : Checker) (r : Result Given Refusal) → last ≡ b → Comes (of_list b) c k d l r → Comes (of_list last) c k d l r
  as_last last b c d k l r e h = subst (λ (z : Bool). Comes (of_list z) c k d l r) (sym e) h

  module _ (at : ℕ) (last : Bool) where
    abbrev pub evaluated : View → Judgement rules.Entry
    evaluated = judge_one x at (p.Evaluate a) last

    abbrev entering : View → Typed → Judgement rules.Entry
    entering v b = Gives (record { scope = []; value = Some (type_of b); made = (note at (type_of b), p.Evaluate b) ∷ [] })

    pub no_value : (c d f : Scopes) (k l : Checker) (e : Refusal) (r : Result Entry Refusal) → IsErr r × IsErrAnd r (λ z. z ≡ e) → Comes (of_list last) c k d l (Err e) → Enters entry_in entry_reached evaluated c k f l r
    no_value c d f k l e r g j = stops_entering entry_in entry_reached typed_in kind_reached (of_list last) entering c d f k l e r g j

    abbrev pub evaluated_made : Given → Entry
    evaluated_made b = record { value = Some b.note.kind; made = Some (record { note = record { at = at; kind = b.note.kind }; form = form.Evaluate b }) }

    pub evaluated_given : (c d : Scopes) (k l : Checker) (b : Given) → Comes (of_list last) c k d l (Ok b) → Enters entry_in entry_reached evaluated c k d l (Ok (evaluated_made b))
    evaluated_given c d k l b j =
        enters_then entry_in entry_reached typed_in kind_reached (of_list last) entering c d d k l l b (Ok (evaluated_made b)) j
        (enters_given entry_in entry_reached (λ v. entering v (typed_in b v.later)) d d l [] (evaluated_made b) j.outcome.sound j.outcome.holds tt refl
        (λ later w.
        ap (λ (u : Term). Gives (record { scope = []; value = Some u; made = (note at u, p.Evaluate (typed_in b later)) ∷ [] })) (type_is b later)
        ∙ ap (λ (f : p.Declaration Note). Gives (record { scope = []; value = Some (term later b.note.kind); made = (note at (term later b.note.kind), f) ∷ [] })) (sym (seen_Evaluate (λ n. noted later n) b))))

-- ---- what is not evaluated in order

module _ (x : Site) (at : ℕ) (last : Bool) where
  abbrev none_made : Entry
  none_made = record { value = None; made = None }

  pub none_entered : (f g : DeclarationForm ℕ) (w : Declaration ℕ) (c : Scopes) (k : Checker) (made : Entry) → Sound k c → f ≡ g → plain_declaration_form g ≡ w → made ≡ none_made → ((v : View) → judge_one x at w last v ≡ Gives rules.no_entry)
      → Enters entry_in entry_reached (judge_one x at (plain_declaration_form f) last) c k c k (Ok made)
  none_entered f g w c k made s e h q j =
      subst (λ (m : Entry). Enters entry_in entry_reached (judge_one x at (plain_declaration_form f) last) c k c k (Ok m)) (sym q)
      (subst (λ (z : Declaration ℕ). Enters entry_in entry_reached (judge_one x at z last) c k c k (Ok none_made)) (sym (ap plain_declaration_form e ∙ h))
      (enters_given entry_in entry_reached (judge_one x at w last) c c k [] none_made s tt tt refl (λ later z. j (view later k.types.listed c))))

  -- by its form
  pub entered_as : (f g : DeclarationForm ℕ) (w : Declaration ℕ) (c d : Scopes) (k l : Checker) (r : Result Entry Refusal) → f ≡ g → plain_declaration_form g ≡ w → Enters entry_in entry_reached (judge_one x at w last) c k d l r
      → Enters entry_in entry_reached (judge_one x at (plain_declaration_form f) last) c k d l r
  entered_as f g w c d k l r e h j = subst (λ (z : Declaration ℕ). Enters entry_in entry_reached (judge_one x at z last) c k d l r) (sym (ap plain_declaration_form e ∙ h)) j

-- ---- a list that has no value

abbrev pub type_only : Site → View → Judgement Term
type_only x v = rules.EndsList x.at None (wanted_in v x.wanted)

module _ (x : Site) (c : Scopes) (k l : Checker) where
  abbrev unit_met : View → Judgement Term
  unit_met v = Meets t.unit (Gives t.unit)

  abbrev ends : Option TermId → View → Judgement Term
  ends o v = rules.EndsList x.at None (option_map (term v.later) o)

  no_end : (o : Option TermId) (e : Refusal) (r : Result TermId Refusal) → IsErr r × IsErrAnd r (λ y. y ≡ e) → Answers term_in IsReached unit_met c k c l (Err e) → Answers term_in IsReached (ends o) c k c l r
  no_end None e r g h = stops term_in IsReached term_in IsReached unit_met (λ v u. Gives u) c c k l e r g h
  no_end (Some w) e r g h = stops term_in IsReached term_in IsReached unit_met (λ v u. Needs condition.Mismatch x.at (IsBelow u (term v.later w)) (Gives u)) c c k l e r g h

  pub no_unit : (e : Refusal) (r : Result TermId Refusal) → IsErr r × IsErrAnd r (λ y. y ≡ e) → Answers term_in IsReached unit_met c k c l (Err e) → Answers term_in IsReached (type_only x) c k c l r
  no_unit e r g h = no_end x.wanted e r g h

  module _ (id : TermId) (h : Answers term_in IsReached unit_met c k c l (Ok id)) where
    pub unit_alone : x.wanted ≡ None → Answers term_in IsReached (type_only x) c k c l (Ok id)
    unit_alone e =
        subst (λ (o : Option TermId). Answers term_in IsReached (λ v. rules.EndsList x.at None (option_map (term v.later) o)) c k c l (Ok id)) (sym e) h

    module _ (w : TermId) (e : x.wanted ≡ Some w) where
      abbrev tested : View → Judgement (Unit {0})
      tested v = Needs condition.Mismatch x.at (IsBelow (term v.later id) (term v.later w)) Fine

      from_test : (r : Result TermId Refusal) → Answers term_in IsReached (λ v. Part (tested v) (λ z. Gives (term v.later id))) c l c l r → Answers term_in IsReached (type_only x) c k c l r
      from_test r g =
          subst (λ (o : Option TermId). Answers term_in IsReached (λ v. rules.EndsList x.at None (option_map (term v.later) o)) c k c l r) (sym e)
          (goes_on term_in IsReached term_in IsReached unit_met (λ v u. Needs condition.Mismatch x.at (IsBelow u (term v.later w)) (Gives u)) c c c k l l id r h
          (seen_as term_in IsReached (λ v. Needs condition.Mismatch x.at (IsBelow (term v.later id) (term v.later w)) (Gives (term v.later id))) (λ v. Part (tested v) (λ z. Gives (term v.later id))) c c l l r
          (λ later z. needs_then condition.Mismatch x.at (IsBelow (term later id) (term later w)) (Gives (term later id))) g))

      pub not_below : (q : Refusal) (r : Result TermId Refusal) → IsErr r × IsErrAnd r (λ y. y ≡ q) → Judged (λ later. Needs condition.Mismatch x.at (IsBelow (term later id) (term later w)) Fine) l.types l.types nothing (Err q)
          → Answers term_in IsReached (type_only x) c k c l r
      not_below q r g j =
          from_test r (stops term_in IsReached nothing no_more tested (λ v z. Gives (term v.later id)) c c l l q r g
          (judged_as nothing no_more (λ later. Needs condition.Mismatch x.at (IsBelow (term later id) (term later w)) Fine) c l (Err q) h.outcome.sound (λ m z. tt) j))

      pub is_below : Judged (λ later. Needs condition.Mismatch x.at (IsBelow (term later id) (term later w)) Fine) l.types l.types nothing (Ok tt) → Answers term_in IsReached (type_only x) c k c l (Ok id)
      is_below j =
          from_test (Ok id) (goes_on term_in IsReached nothing no_more tested (λ v z. Gives (term v.later id)) c c c l l l tt (Ok id)
          (judged_as nothing no_more (λ later. Needs condition.Mismatch x.at (IsBelow (term later id) (term later w)) Fine) c l (Ok tt) h.outcome.sound (λ m z. tt) j)
          (given term_in IsReached (λ v. Gives (term v.later id)) c l id h.outcome.sound h.outcome.holds (λ later z. refl)))

-- ---- the type of a list

abbrev type_of_list : Site → Option TermId → View → Judgement Term
type_of_list x last v = rules.EndsList x.at (option_map (term v.later) last) (wanted_in v x.wanted)

pub own_type : (x : Site) (last : Option TermId) (id : TermId) (c : Scopes) (k : Checker) → last ≡ Some id → IfSome last (IsReached k.types) → Sound k c → Answers term_in IsReached (type_of_list x last) c k c k (Ok id)
own_type x last id c k e i s =
    subst (λ (o : Option TermId). Answers term_in IsReached (type_of_list x o) c k c k (Ok id)) (sym e)
    (given term_in IsReached (type_of_list x (Some id)) c k id s (subst (λ (o : Option TermId). IfSome o (IsReached k.types)) e i) (λ later w. refl))

pub type_alone : (x : Site) (last : Option TermId) (c : Scopes) (k l : Checker) (r : Result TermId Refusal) → last ≡ None → Answers term_in IsReached (type_only x) c k c l r → Answers term_in IsReached (type_of_list x last) c k c l r
type_alone x last c k l r e h = subst (λ (o : Option TermId). Answers term_in IsReached (type_of_list x o) c k c l r) (sym e) h
