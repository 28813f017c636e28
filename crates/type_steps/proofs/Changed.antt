-- What functions over types come to, while a program is judged.
use Rattle.std.proofs.Common.{◌≡◌, List, Ok, Err, refl}
use Rattle.std.specs.Prelude.{Result, OnOk, IfErr}
use Rattle.type_terms.specs.declared.form.Form.{Form}
use Rattle.typing_rules.specs.Judgements.{Judgement}
use Rattle.met_types.specs.States.{State, Goes, Kept}
use Rattle.type_judgements.specs.Judged.{Judged}
use Rattle.type_judgements.specs.LeftBehind.{LeavesOn}
use Rattle.type_judgements.specs.declared.refusal.Refusal.{Refusal}
use Rattle.value_scopes.specs.declared.scopes.Scopes.{Scopes}
use Rattle.judging.specs.declared.checker.Checker.{Checker}
use Rattle.judging.specs.Parts.{Sound}
use Rattle.judging.specs.Answers.{Answers}
use Rattle.judging.proofs.Steps.{refused_as, sound_on}

-- only the types changed
pub changed : {A M : Type 0} (see : M → List Form → A) (good : State → M → Type 0) (j : List Form → Judgement A) (c : Scopes) (k : Checker) (t : State) (r : Result M Refusal) → Sound k c → OnOk r (Kept t) → OnOk r (Goes k.types t)
    → IfErr r (LeavesOn k.types t) → ((m : M) → r ≡ Ok m → good t m) → Judged j k.types t see r → Answers see good (λ v. j v.later) c k c (record k { types = t }) r
changed see good j c k t (Ok m) s q g e h i = record { outcome = record { sound = sound_on k c t s q g; same = refl; goes = g; holds = h m refl; gave = i } }
changed see good j c k t (Err x) s q g e h i = refused_as see good j see c c k (record k { types = t }) x e i
