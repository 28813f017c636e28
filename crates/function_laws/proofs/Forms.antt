-- Each form whose parts are typed.
use Rattle.std.proofs.Common.{◌≡◌, ℕ, ◌++◌, Option, Some, None, refl, sym, subst}
use Rattle.subtype_laws.specs.Reached.{Among}
use Rattle.typing_rules.specs.AbstractSyntax.{Expressions, Form}
use Rattle.typing_rules.specs.AbstractSyntax as p
use Rattle.typing_rules.specs.AsyncPlaces.{Other}
use Rattle.typing_rules.specs.Contexts.{directly}
use Rattle.typing_rules.specs.Expressions.{Judge, Rule}
use Rattle.typing_rules.specs.Terms.{Term}
use Rattle.desugaring.specs.FreeNames.{occurring, in_each}
use Rattle.desugaring_laws.specs.Yields.{Yields}
use Rattle.expression_laws.specs.Results.{IsWantFine, Becomes, AreTyped}
use Rattle.expression_laws.proofs.Ending.{Setting, Place, Within, WantKnown, Is}
use Rattle.expression_laws.specs.Laws.{EachIs}
use Rattle.expression_laws.proofs.Forms.{in_left, in_right}
use Rattle.expression_laws.proofs.Listed.{EachTyping}
use Rattle.function_laws.specs.Laws.{FunctionsAreTyped, CallsAreTyped, ReferencesAreTyped}
use Rattle.function_laws.proofs.Calls.{call_typed}
use Rattle.function_laws.proofs.References.{reference_typed}
use Rattle.function_laws.proofs.Functions.{function_typed_so}

-- A form that is typed in each place is typed.
pub by_rule : (S : Setting) (n : ℕ) (x : Form ℕ) → ((A : Place S) → A.used ≡ occurring (p.exp n x) → (w : Option Term) → WantKnown S A w → Yields S.defs S.terms (Rule S.defs A.around (directly Other A.known) n x w) (Is S A w))
    → AreTyped S.defs S.slots S.terms S.number S.scope (p.exp n x)
by_rule S n x rule e f c fit w k = by w k where
  place : Place S
  place = record { around = e.around; known = e; frame = f; context = c; used = occurring (p.exp n x); fits = record { names = fit.names; labels = fit.labels; returns = fit.returns; options = fit.options; body_is = fit.body_is; types = fit.types; bounds = fit.bounds; scope_is = fit.scope_is } }

  by : (w : Option Term) → IsWantFine S.defs c.parameters w → Yields S.defs S.terms (Judge S.defs e (p.exp n x) w) (Becomes S.defs S.slots S.terms S.number e.around e.labels f c w)
  by None k = rule place refl None tt
  by (Some u) k = λ m. rule place refl (Some u) (record { there = m; fine = k })

pub functions_are_typed : FunctionsAreTyped
functions_are_typed defs slots terms number graph units scope n g body none fine j =
    by_rule setting n (p.Function g body) (λ A e w k. function_typed_so setting A n g body none fine (λ x m. subst (λ xs. Among x xs) (sym e) m) j w k)
  where
    setting : Setting
    setting = record { defs = defs; slots = slots; terms = terms; number = number; graph = graph; units = units; scope = scope }

each_typed : (S : Setting) (A : Place S) (items : Expressions ℕ) → EachIs (AreTyped S.defs S.slots S.terms S.number S.scope) items → Within (in_each items) A.used → EachTyping S A items
each_typed S A p.Nil j w = tt
each_typed S A (p.Cons a rest) j w = ((j.0, λ x m. w x (in_left (occurring a) (in_each rest) x m)), each_typed S A rest j.1 (λ x m. w x (in_right (occurring a) (in_each rest) x m)))

pub calls_are_typed : CallsAreTyped
calls_are_typed defs slots terms number graph units scope n g types arguments j js =
    by_rule setting n (p.Call g types arguments) (λ A e w k.
    let within : Within (occurring g ++ in_each arguments) A.used = λ x m. subst (λ xs. Among x xs) (sym e) m in
    call_typed setting A n g (j, λ x m. within x (in_left (occurring g) (in_each arguments) x m)) types arguments
    (each_typed setting A arguments js (λ x m. within x (in_right (occurring g) (in_each arguments) x m))) w k)
  where
    setting : Setting
    setting = record { defs = defs; slots = slots; terms = terms; number = number; graph = graph; units = units; scope = scope }

pub references_are_typed : ReferencesAreTyped
references_are_typed defs slots terms number graph units scope n m x u = by_rule setting n (p.Annotated (p.exp m (p.ActorReference x)) u) (λ A e w k. reference_typed setting A n m x u w k)
  where
    setting : Setting
    setting = record { defs = defs; slots = slots; terms = terms; number = number; graph = graph; units = units; scope = scope }
