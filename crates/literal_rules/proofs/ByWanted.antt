-- Numbers and texts by the type that is wanted.
use Rattle.std.proofs.Common.{◌≡◌, ℕ, Bool, true, false, List, Err, Option, Some, None, option_map, ap}
use Rattle.std.specs.Prelude.{ℤ, Result}
use Rattle.std.specs.Str.{is_utf8}
use Rattle.mo_num.specs.declared.kind.Kind.{Kind}
use Rattle.mo_types.specs.Heads.{number_of}
use Rattle.mo_values.specs.Parts.{is_in_range}
use Rattle.type_terms.specs.declared.form.Form.{Form}
use Rattle.type_terms.specs.declared.form.TermId.{TermId}
use Rattle.typing_rules.specs.declared.condition.Condition.TheVariants as condition
use Rattle.typing_rules.specs.AbstractSyntax as p
use Rattle.typing_rules.specs.Terms.{Term}
use Rattle.typing_rules.specs.Terms as t
use Rattle.typing_rules.specs.Judgements.{Judgement, Gives, Case, Tests}
use Rattle.typing_rules.specs.TypedTrees.{Note, Typed, typed}
use Rattle.typing_rules.specs.Ends.{wanted, Has}
use Rattle.typing_rules.specs.Literals.{Number, blob_of}
use Rattle.type_definitions.specs.Meanings.{term}
use Rattle.type_judgements.specs.declared.refusal.Refusal.{Refusal}
use Rattle.type_judgements.specs.declared.refusal.Refusal.TheVariants as refusal
use Rattle.abstract_tree.specs.declared.expressions.Expression as value
use Rattle.value_scopes.specs.declared.note.Note as value_note
use Rattle.value_scopes.specs.declared.scopes.Scopes.{Scopes}
use Rattle.judging.specs.declared.checker.Checker.{Checker}
use Rattle.judging.specs.declared.site.Site.{Site}
use Rattle.judging.specs.Heads.{WantedHas}
use Rattle.judging.specs.Views.{View, definitions, wanted_in, typed_in, kind_reached}
use Rattle.judging.specs.Answers.{Answers}
use Rattle.judging.proofs.Cases.{as_wanted, unwanted, tests_hold, tests_fail}

abbrev Answered : Type 0
Answered = Result (value.Expression value_note.Note) Refusal

module _ (x : Site) (kind : Kind) (n : ℤ) (f : List Form → p.Form Note) (c : Scopes) (k : Checker) (o : Option (TermId × Kind)) (h : WantedHas number_of k.types x.wanted (λ later j. j) o) where
  abbrev judged : View → Judgement Typed
  judged v = Number (definitions v) x.at (wanted_in v x.wanted) kind n (f v.later)

  abbrev gives : Term → View → Judgement Typed
  gives u v = Gives (typed x.at u (f v.later))

  abbrev has : View → Judgement Typed
  has v = Has x.at (wanted_in v x.wanted) (t.Number kind) (f v.later)

  abbrev fits : View → Term × Kind → Judgement Typed
  fits v q = Tests condition.LiteralRange x.at (is_in_range q.1 n) (gives q.0 v)

  abbrev is_own : View → Unit {0} → Judgement Typed
  is_own v u = Tests condition.LiteralRange x.at (is_in_range kind n) (has v)

  pub number_fits : (w : TermId) (j : Kind) (b : Bool) (l : Checker) (r : Answered) → o ≡ Some (w, j) → b ≡ is_in_range j n → b ≡ true → Answers typed_in kind_reached (λ v. gives (term v.later w) v) c k c l r → Answers typed_in kind_reached judged c k c l r
  number_fits w j b l r e i g a =
      as_wanted typed_in kind_reached number_of (λ later m. m) x.wanted fits is_own c c k l r o h w j e
      (tests_hold typed_in kind_reached condition.LiteralRange x.at (is_in_range j n) (λ v. gives (term v.later w) v) c c k l r (let z : is_in_range j n ≡ true = cc in z) a)

  pub number_fits_not : (w : TermId) (j : Kind) (b : Bool) → o ≡ Some (w, j) → b ≡ is_in_range j n → b ≡ false → Answers typed_in kind_reached judged c k c k (Err (refusal.False x.at condition.LiteralRange))
  number_fits_not w j b e i g =
      as_wanted typed_in kind_reached number_of (λ later m. m) x.wanted fits is_own c c k k (Err (refusal.False x.at condition.LiteralRange)) o h w j e
      (tests_fail typed_in kind_reached condition.LiteralRange x.at (is_in_range j n) (λ v. gives (term v.later w) v) c k (let z : is_in_range j n ≡ false = cc in z))

  pub number_has : (b : Bool) (l : Checker) (r : Answered) → o ≡ None → b ≡ is_in_range kind n → b ≡ true → Answers typed_in kind_reached has c k c l r → Answers typed_in kind_reached judged c k c l r
  number_has b l r e i g a =
      unwanted typed_in kind_reached number_of (λ later m. m) x.wanted fits is_own c c k l r o h e
      (tests_hold typed_in kind_reached condition.LiteralRange x.at (is_in_range kind n) has c c k l r (let z : is_in_range kind n ≡ true = cc in z) a)

  pub number_has_not : (b : Bool) → o ≡ None → b ≡ is_in_range kind n → b ≡ false → Answers typed_in kind_reached judged c k c k (Err (refusal.False x.at condition.LiteralRange))
  number_has_not b e i g =
      unwanted typed_in kind_reached number_of (λ later m. m) x.wanted fits is_own c c k k (Err (refusal.False x.at condition.LiteralRange)) o h e
      (tests_fail typed_in kind_reached condition.LiteralRange x.at (is_in_range kind n) has c k (let z : is_in_range kind n ≡ false = cc in z))

module _ (x : Site) (bytes : List ℕ) (f : List Form → p.Form Note) (c : Scopes) (k : Checker) (o : Option TermId) (h : WantedHas blob_of k.types x.wanted (λ later j. j) (option_map (λ id. (id, tt)) o)) where
  abbrev has_text : View → Judgement Typed
  has_text v = Has x.at (wanted_in v x.wanted) t.Text (f v.later)

  abbrev is_blob : View → Term × Unit {0} → Judgement Typed
  is_blob v q = Gives (typed x.at q.0 (f v.later))

  abbrev is_text : View → Unit {0} → Judgement Typed
  is_text v u = Tests condition.Mismatch x.at (is_utf8 bytes) (has_text v)

  abbrev judged_text : View → Judgement Typed
  judged_text v = Case (wanted (definitions v) blob_of (wanted_in v x.wanted)) (is_blob v) (is_text v)

  pub text_fits : (w : TermId) (l : Checker) (r : Answered) → o ≡ Some w → Answers typed_in kind_reached (λ v. Gives (typed x.at (term v.later w) (f v.later))) c k c l r → Answers typed_in kind_reached judged_text c k c l r
  text_fits w l r e a = as_wanted typed_in kind_reached blob_of (λ later m. m) x.wanted is_blob is_text c c k l r (option_map (λ id. (id, tt)) o) h w tt (ap (option_map (λ (id : TermId). (id, tt))) e) a

  pub text_has : (b : Bool) (l : Checker) (r : Answered) → o ≡ None → b ≡ is_utf8 bytes → b ≡ true → Answers typed_in kind_reached has_text c k c l r → Answers typed_in kind_reached judged_text c k c l r
  text_has b l r e i g a =
      unwanted typed_in kind_reached blob_of (λ later m. m) x.wanted is_blob is_text c c k l r (option_map (λ id. (id, tt)) o) h (ap (option_map (λ (id : TermId). (id, tt))) e)
      (tests_hold typed_in kind_reached condition.Mismatch x.at (is_utf8 bytes) has_text c c k l r (let z : is_utf8 bytes ≡ true = cc in z) a)

  pub text_has_not : (b : Bool) → o ≡ None → b ≡ is_utf8 bytes → b ≡ false → Answers typed_in kind_reached judged_text c k c k (Err (refusal.False x.at condition.Mismatch))
  text_has_not b e i g =
      unwanted typed_in kind_reached blob_of (λ later m. m) x.wanted is_blob is_text c c k k (Err (refusal.False x.at condition.Mismatch)) (option_map (λ id. (id, tt)) o) h (ap (option_map (λ (id : TermId). (id, tt))) e)
      (tests_fail typed_in kind_reached condition.Mismatch x.at (is_utf8 bytes) has_text c k (let z : is_utf8 bytes ≡ false = cc in z))
