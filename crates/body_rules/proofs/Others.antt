-- Type aliases, and the declarations that were evaluated.
use Rattle.std.proofs.Common.{◌≡◌, ◌∙◌, ℕ, List, [], ◌∷◌, Ok, Err, Option, Some, None, map, refl, sym, ap, subst}
use Rattle.std.proofs.IntoIterSteps.{All-taken}
use Rattle.std.specs.Prelude.{Result}
use Rattle.std.specs.declared.vec.IntoIter.{IntoIter}
use Rattle.std.specs.Vec.Iter.{into_iter_items, into_iter_steps}
use Rattle.type_terms.specs.declared.form.TermId.{TermId}
use Rattle.typing_rules.specs.declared.condition.Condition.TheVariants as condition
use Rattle.typing_rules.specs.AbstractSyntax.{Named, TypeNode}
use Rattle.typing_rules.specs.AbstractSyntax as p
use Rattle.typing_rules.specs.Judgements.{Gives, Judgement}
use Rattle.typing_rules.specs.Lists as rules
use Rattle.typing_rules.specs.Lists.{TakesMade}
use Rattle.typing_rules.specs.Terms.{unit}
use Rattle.typing_rules.specs.TypedTrees.{Note, note}
use Rattle.type_definitions.specs.Meanings.{term}
use Rattle.met_types.specs.States.{State}
use Rattle.type_judgements.specs.declared.refusal.Refusal.{Refusal}
use Rattle.type_judgements.specs.declared.refusal.Refusal.TheVariants as refusal
use Rattle.abstract_types.specs.declared.names.PlacedName.{PlacedName}
use Rattle.abstract_types.specs.declared.types.TypeNode as value_type
use Rattle.abstract_types.specs.TypeView.{named, type_node}
use Rattle.abstract_tree.specs.declared.declarations.DeclarationForm.{DeclarationForm}
use Rattle.abstract_tree.specs.declared.declarations.DeclarationForm.TheVariants as declaration
use Rattle.abstract_tree.specs.TreeView.{plain_declaration_form}
use Rattle.value_scopes.specs.declared.place.Place.{Place}
use Rattle.value_scopes.specs.declared.scopes.Scopes.{Scopes}
use Rattle.value_scopes.specs.Values.{noted}
use Rattle.written_types.specs.Written.{Wrote}
use Rattle.judging.specs.declared.checker.Checker.{Checker}
use Rattle.judging.specs.Parts.{Sound}
use Rattle.judging.specs.Views.{View}
use Rattle.judging.specs.Answers.{Answers}
use Rattle.judging.proofs.Chains.{fails, given}
use Rattle.order_rules.specs.declared.entries.MadeDeclaration.{MadeDeclaration}
use Rattle.order_rules.specs.Entries.{made_in}
use Rattle.order_rules.proofs.Declarations.{seen_TypeAlias}
use Rattle.function_bodies.specs.Bodies.{any_made, body_in, judge_body}
use Rattle.function_bodies.proofs.First.{here, made_first, sound_here}

-- ---- type aliases

pub alias_given : (y : Place) (at : ℕ) (x : Named) (xs : List Named) (n : TypeNode) (rest : List MadeDeclaration) (c : Scopes) (k : Checker) (t : State) (id : TermId) → Sound k c → Wrote k.types t unit id
    → (copy : PlacedName) → named copy ≡ x → (names : List PlacedName) → map named names ≡ xs → (of : value_type.TypeNode) → type_node of ≡ n
    → Answers (body_in rest) any_made (judge_body y at (p.TypeAlias x xs n) rest) c k c (here k t) (Ok (record { note = record { at = at; kind = id }; form = declaration.TypeAlias copy names of }))
alias_given y at x xs n rest c k t id s w copy e names f of g =
    let made : MadeDeclaration = record { note = record { at = at; kind = id }; form = declaration.TypeAlias copy names of } in
    made_first (body_in rest) any_made (λ v. unit) (λ v u. Gives ((note at u, p.TypeAlias x xs n), map (made_in v.later) rest)) c c k (here k t) t id (Ok made) w.same (λ later z. w.made.is later z)
    (given (body_in rest) any_made (λ v. Gives ((note at (term v.later id), p.TypeAlias x xs n), map (made_in v.later) rest)) c (here k t) made (sound_here c k t w.same s) tt
    (λ later z. sym (ap (λ (q : p.Declaration Note). Gives ((note at (term later id), q), map (made_in later) rest))
    (seen_TypeAlias (λ i. noted later i) copy names of
    ∙ (ap (λ (q : Named). p.TypeAlias q (map named names) (type_node of)) e
    ∙ (ap (λ (qs : List Named). p.TypeAlias x qs (type_node of)) f ∙ ap (λ (q : TypeNode). p.TypeAlias x xs q) g))))))

-- ---- the next that was evaluated

module _ (old new : List MadeDeclaration) (c : Scopes) (k : Checker) (s : Sound k c) where
  abbrev takes : View → Judgement (rules.Made × List rules.Made)
  takes v = TakesMade (map (made_in v.later) old)

  pub one_taken : (one : MadeDeclaration) → old ≡ one ∷ new → Answers (body_in new) any_made takes c k c k (Ok one)
  one_taken one e = given (body_in new) any_made takes c k one s tt (λ later w. ap (λ (ms : List MadeDeclaration). TakesMade (map (made_in later) ms)) e)

  pub none_taken : old ≡ [] → Answers (body_in new) any_made takes c k c k (Err (refusal.False 0 condition.Mismatch))
  none_taken e = fails (body_in new) any_made takes c k condition.Mismatch 0 (λ later w. ap (λ (ms : List MadeDeclaration). TakesMade (map (made_in later) ms)) e)

module _ {X Z : Type 0} (s : IntoIter X Z) (r : Option X) (t : IntoIter X Z) (h : into_iter_steps s r t) where
  pub one_comes : (x : X) → r ≡ Some x → into_iter_items s ≡ x ∷ into_iter_items t
  one_comes x e = let g : into_iter_steps s (Some x) t = subst (λ (q : Option X). into_iter_steps s q t) e h in g.0

  -- where none comes, none is left
  pub none_left : r ≡ None → into_iter_items s ≡ []
  none_left e = let g : into_iter_steps s None t = subst (λ (q : Option X). into_iter_steps s q t) e h in sym (All-taken s [] (t, (s, refl, g)))

-- ---- by its form

module _ (y : Place) (at : ℕ) (rest new : List MadeDeclaration) where
  pub judged_as : (f g : DeclarationForm ℕ) (w : p.Declaration ℕ) (c d : Scopes) (k l : Checker) (r : Result MadeDeclaration Refusal) → f ≡ g → plain_declaration_form g ≡ w → Answers (body_in new) any_made (judge_body y at w rest) c k d l r
      → Answers (body_in new) any_made (judge_body y at (plain_declaration_form f) rest) c k d l r
  judged_as f g w c d k l r e h j = subst (λ (z : p.Declaration ℕ). Answers (body_in new) any_made (judge_body y at z rest) c k d l r) (sym (ap plain_declaration_form e ∙ h)) j
