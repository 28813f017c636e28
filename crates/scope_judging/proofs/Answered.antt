-- What functions over types come to, while a program is judged.
use Rattle.std.proofs.Common.{◌≡◌, ◌∙◌, List, [], Ok, Err, refl, sym, ap, subst}
use Rattle.std.specs.Prelude.{Result, OnOk}
use Rattle.type_terms.specs.declared.form.Form.{Form}
use Rattle.typing_rules.specs.Contexts.{Scope}
use Rattle.typing_rules.specs.Judgements.{Judgement}
use Rattle.type_definitions.proofs.Meanings.{each_map}
use Rattle.met_types.specs.States.{State, Goes, IsReached}
use Rattle.shareable_types.specs.declared.sharing.Sharing.{Sharing}
use Rattle.shareable_types.specs.Answers.{Stands}
use Rattle.shareable_types.proofs.Staying.{stays}
use Rattle.type_judgements.specs.declared.refusal.Refusal.{Refusal}
use Rattle.type_judgements.specs.declared.refusal.Refusal.TheVariants as refusal
use Rattle.value_scopes.specs.declared.scopes.Scopes.{Scopes}
use Rattle.value_scopes.proofs.Seeing.{hold_on}
use Rattle.proper_types.specs.Passing as passing
use Rattle.proper_types.specs.Passing.{Judges}
use Rattle.typed_patterns.specs.Binding.{Names, Pushes}
use Rattle.judging.specs.declared.checker.Checker.{Checker}
use Rattle.judging.specs.declared.site.Site.{Site}
use Rattle.judging.specs.Parts.{Ready, Sound}
use Rattle.judging.specs.Views.{View, view}
use Rattle.judging.specs.Answers.{Answers}
use Rattle.judging.proofs.Steps.{reached_on, ready_on}
use Rattle.scope_judging.specs.Binding.{Binds, bound, names_reached}

-- the types are kept as they have to be for those that are written
pub proper_ready : (k : Checker) (c : Scopes) → Sound k c → passing.Ready k.types k.messages
proper_ready k c s = record { kept = s.known.kept; sent = s.known.any; stands = s.known.messages }

pub sound_there : (c : Scopes) (k l : Checker) → Sound k c → l.equality ≡ k.equality → passing.Ready l.types l.messages → Goes k.types l.types → Sound l c
sound_there c k l s e r g = record {
  known = record {
    kept = r.kept;
    messages = r.stands;
    any = r.sent;
    equality = subst (λ (a : Sharing). Stands l.types a) (sym e) (stays k.types l.types k.equality g s.known.equality);
    no_any = ap (λ (a : Sharing). a.any) e ∙ s.known.no_any;
  };
  values = hold_on k.types.forms l.types.forms c.values g.forms s.values;
  labels = each_map (λ q. IsReached k.types q.1.kind) (λ q. IsReached l.types q.1.kind) (λ q. reached_on k.types l.types q.1.kind g) c.labels s.labels;
}

module _ {A M : Type 0} (see : M → List Form → A) (good : State → M → Type 0) (j : View → Judgement A) (c : Scopes) (k l : Checker) where
  pub answered : (r : Result M Refusal) → Sound k c → l.equality ≡ k.equality → ((m : M) → r ≡ Ok m → good l.types m) → Judges (λ listed later. j (view later listed c)) k.types l.types l.messages see r
      → Answers see good j c k c l r
  answered (Ok m) s e g h = record { outcome = record { sound = sound_there c k l s e h.ready h.goes; same = refl; goes = h.goes; holds = g m refl; gave = h.gave } }
  answered (Err (refusal.False place q)) s e g h = record { outcome = record { left = h.left; names = h.names } }
  answered (Err refusal.Memory) s e g h = record { outcome = tt }

  -- a rule can be applied there afterwards
  pub ready_after : (r : Result M Refusal) (x : Site) → Answers see good j c k c l r → Ready k c x → OnOk r (Ready l c x)
  ready_after (Ok m) x h q = ready_on k l c c x q h.outcome.sound h.outcome.goes
  ready_after (Err e) x h q = tt

-- names are bound
module _ {X M : Type 0} (see : M → List Form → X) (j : View → Judgement (Scope × X)) (c : Scopes) (k l : Checker) where
  pub binds : (after : Names) (r : Result M Refusal) → Sound k c → l.equality ≡ k.equality → Pushes (λ listed later. j (view later listed c)) k.types l.types l.messages c.values after see r
      → Binds see j c k (record c { values = after }) l r
  binds after (Ok m) s e h = record {
    more = h.more;
    answer = answered (bound h.more see) (names_reached h.more) j c k l (Ok m) s e (λ n q. h.reached) h.passed;
    pushed = ap (λ (vs : Names). record c { values = vs }) h.names;
  }
  binds after (Err (refusal.False place q)) s e h = record {
    more = [];
    answer = answered (bound [] see) (names_reached []) j c k l (Err (refusal.False place q)) s e (λ n z. tt) h;
    pushed = tt;
  }
  binds after (Err refusal.Memory) s e h = record { more = []; answer = answered (bound [] see) (names_reached []) j c k l (Err refusal.Memory) s e (λ n z. tt) h; pushed = tt }
