-- The type of a program's name, by what the names in scope stand for.
use Rattle.std.proofs.Common.{◌≡◌, ◌∙◌, Bool, List, [], ◌∷◌, Option, Some, None, ap, cond, refl, subst, sym, map, Ok}
use Rattle.std.specs.Prelude.{Result, option_map}
use Rattle.std.specs.Str.{bytes_eq}
use Rattle.std.proofs.lemmas.Slice.Eq.{bytes_eq-Decides}
use Rattle.mo_scopes.specs.Scopes.{named}
use Rattle.type_terms.specs.declared.form.Form.{Form}
use Rattle.type_terms.specs.declared.form.TermId.{TermId}
use Rattle.typing_rules.specs.AbstractSyntax.{Bytes}
use Rattle.typing_rules.specs.Contexts as rules
use Rattle.typing_rules.specs.Judgements.{Fine, MeetsEach}
use Rattle.typing_rules.specs.Programs.{own_name}
use Rattle.typing_rules.specs.Terms.{Term}
use Rattle.type_definitions.specs.Meanings.{term}
use Rattle.type_definitions.specs.Tables.{Within}
use Rattle.type_judgements.specs.declared.refusal.Refusal.{Refusal}
use Rattle.value_scopes.specs.declared.bound.Bound.{Bound}
use Rattle.value_scopes.specs.declared.scopes.Scopes.{Scopes}
use Rattle.value_scopes.specs.Values.{Hold, bound_in, scope_in}
use Rattle.value_scopes.proofs.Seeing.{found_holds, value_seen}
use Rattle.judging.specs.declared.checker.Checker.{Checker}
use Rattle.judging.specs.Answers.{Answers}
use Rattle.judging.specs.Parts.{Sound}
use Rattle.judging.specs.Views.{no_more, nothing}
use Rattle.judging.proofs.Chains.{given, seen_as}
use Rattle.program_fields.specs.Fields.{found_type, own_in, type_in}

-- it is a term of the table
pub own_within : (forms : List Form) (s : List (Bytes × Bound)) (name : Option Bytes) (id : TermId) → Some id ≡ found_type s name → Hold forms s → Within forms id
own_within forms s None id e h = cc
own_within forms s (Some x) id e h = by (named s x) refl e where
  by : (o : Option Bound) → o ≡ named s x → Some id ≡ option_map (λ b. b.kind) o → Within forms id
  by None q g = cc
  by (Some b) q g = let w : Within forms b.kind = found_holds forms s x b q h in let f : id ≡ b.kind = cc in subst (λ (i : TermId). Within forms i) (sym f) w

-- where the scope is seen as that of the name alone, it is seen as the type of the name
pub own_seen : (later : List Form) (s : List (Bytes × Bound)) (name : Option Bytes) (u : Term) → scope_in later s ≡ own_name name u → type_in later (found_type s name) ≡ map (λ z. z.1.type) (own_name name u)
own_seen later s None u e = refl
own_seen later s (Some x) u e = by (named s x) (sym (value_seen later s x) ∙ ap (λ (z : rules.Scope). named z x) e ∙ ap (λ (b : Bool). cond b (Some (rules.constant u)) None) ((bytes_eq-Decides x x).1 refl)) where
  by : (o : Option Bound) → option_map (bound_in later) o ≡ Some (rules.constant u) → type_in later (option_map (λ b. b.kind) o) ≡ u ∷ []
  by None q = cc
  by (Some b) q = let f : bound_in later b ≡ rules.constant u = cc in ap (λ (z : rules.Bound). z.type ∷ []) f

-- ---- it is met

module _ (name : Option Bytes) (c : Scopes) (k : Checker) where
  abbrev OwnMet : Checker → Result (Unit {0}) Refusal → Type 0
  OwnMet l r = Answers nothing no_more (λ v. MeetsEach (own_in name v) Fine) c k c l r

  pub no_own : None ≡ found_type c.values name → Sound k c → OwnMet k (Ok tt)
  no_own e s = given nothing no_more (λ v. MeetsEach (own_in name v) Fine) c k tt s tt (λ later w. ap (λ (o : Option TermId). MeetsEach (type_in later o) Fine) (sym e))

  pub own_met : (l : Checker) (id : TermId) (r : Result (Unit {0}) Refusal) → Some id ≡ found_type c.values name → Answers nothing no_more (λ v. MeetsEach (type_in v.later (Some id)) Fine) c k c l r → OwnMet l r
  own_met l id r e h =
      seen_as nothing no_more (λ v. MeetsEach (own_in name v) Fine) (λ v. MeetsEach (type_in v.later (Some id)) Fine) c c k l r (λ later w. ap (λ (o : Option TermId). MeetsEach (type_in later o) Fine) (sym e)) h
