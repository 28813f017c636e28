-- Types that are written, or else others.
use Rattle.std.proofs.Common.{◌≡◌, List, [], Ok, Err, Option, Some, None, refl, sym, ap, subst}
use Rattle.std.specs.Prelude.{Result}
use Rattle.type_terms.specs.declared.form.Form.{Form}
use Rattle.type_terms.specs.declared.form.Form.TheVariants as variants
use Rattle.type_terms.specs.declared.form.TermId.{TermId}
use Rattle.typing_rules.specs.AbstractSyntax.{TypeNode}
use Rattle.typing_rules.specs.Judgements.{Judgement}
use Rattle.typing_rules.specs.Terms.{Term}
use Rattle.typing_rules.specs.Types.{ReadsOr}
use Rattle.type_definitions.specs.Definitions.{rules_in}
use Rattle.type_definitions.specs.Meanings.{term}
use Rattle.type_definitions.specs.Tables.{Later, Within}
use Rattle.met_types.specs.States.{Goes, IsReached, Stands}
use Rattle.type_scopes.specs.Scopes.{seen}
use Rattle.type_judgements.specs.declared.refusal.Refusal.{Refusal}
use Rattle.type_judgements.specs.declared.refusal.Refusal.TheVariants as refusal
use Rattle.abstract_types.specs.declared.types.TypeNode as value
use Rattle.abstract_types.specs.TypeView.{annotation, type_node}
use Rattle.value_scopes.specs.declared.scopes.Scopes.{Scopes}
use Rattle.judging.specs.declared.checker.Checker.{Checker}
use Rattle.judging.specs.Parts.{Sound}
use Rattle.judging.specs.Views.{View, term_in}
use Rattle.judging.specs.Answers.{Answers}
use Rattle.judging.proofs.Chains.{after, given, seen_as}
use Rattle.judging.proofs.Steps.{IsOf, reached_within}
use Rattle.scope_judging.specs.Rules.{kind_within, reads, reads_or, reads_or_unit}

-- a type that was met is a term of the table
met_within : (n : View → Judgement Term) (c : Scopes) (k l : Checker) (r : Result TermId Refusal) → Answers term_in IsReached n c k c l r → Answers term_in kind_within n c k c l r
met_within n c k l (Ok id) h = record {
  outcome = record {
    sound = h.outcome.sound;
    same = h.outcome.same;
    goes = h.outcome.goes;
    holds = reached_within l.types id h.outcome.sound.known.kept h.outcome.holds;
    gave = h.outcome.gave;
  };
}
met_within n c k l (Err (refusal.False place q)) h = record { outcome = record { left = h.outcome.left; names = h.outcome.names } }
met_within n c k l (Err refusal.Memory) h = record { outcome = tt }

module _ (o : Option value.TypeNode) (other : TermId) (c : Scopes) (k : Checker) where
  pub written : (n : value.TypeNode) (l : Checker) (r : Result TermId Refusal) → o ≡ Some n → Answers term_in IsReached (reads (type_node n)) c k c l r → Answers term_in kind_within (reads_or (annotation o) other) c k c l r
  written n l r e h =
      subst (λ (z : Option value.TypeNode). Answers term_in kind_within (reads_or (annotation z) other) c k c l r) (sym e) (met_within (reads (type_node n)) c k l r h)

  pub not_written : o ≡ None → Sound k c → Within k.types.forms other → Answers term_in kind_within (reads_or (annotation o) other) c k c k (Ok other)
  not_written e s h =
      given term_in kind_within (reads_or (annotation o) other) c k other s h
      (λ later w. ap (λ (z : Option value.TypeNode). ReadsOr (rules_in later k.types.listed) (seen c.types) (annotation z) (term later other)) e)

-- the form of () has no parts
pub is_unit : (ids : List TermId) (id : TermId) (forms : List Form) → ids ≡ [] → ((later : List Form) → Later forms later → IsOf (variants.Tuple ids) id later) → (later : List Form) → Later forms later → IsOf (variants.Tuple []) id later
is_unit ids id forms e h later l = subst (λ (is : List TermId). IsOf (variants.Tuple is) id later) e (h later l)

pub or_unit : (n : Option TypeNode) (id : TermId) (c : Scopes) (k l m : Checker) (r : Result TermId Refusal) → Goes k.types l.types → ((met : List Term) → Stands met k.types → Stands met l.types)
    → ((later : List Form) → Later l.types.forms later → IsOf (variants.Tuple []) id later) → Answers term_in kind_within (reads_or n id) c l c m r → Answers term_in kind_within (reads_or_unit n) c k c m r
or_unit n id c k l m r g s is h =
    after term_in kind_within (reads_or_unit n) c c c k l m r g s refl
    (seen_as term_in kind_within (reads_or_unit n) (reads_or n id) c c l m r (λ later w. ap (λ (u : Term). ReadsOr (rules_in later l.types.listed) (seen c.types) n u) (sym (is later w))) h)
