-- What a function of the checker comes to: what the judgement comes to, whatever types were met before. The judgement and what it gives are those in each later
-- table of terms.
use Rattle.std.specs.Prelude.{List, Result, Ok, Err}
use Rattle.type_terms.specs.declared.form.Form.{Form}
use Rattle.typing_rules.specs.Terms.{Term}
use Rattle.typing_rules.specs.Judgements.{Judgement}
use Rattle.typing_rules.specs.Answers.{Fault, fault, answer, Comes}
use Rattle.type_definitions.specs.Tables.{Later}
use Rattle.type_definitions.specs.Definitions.{rules_in}
use Rattle.met_types.specs.States.{State, Stands}
use Rattle.type_judgements.specs.declared.refusal.Refusal.{Refusal}
use Rattle.type_judgements.specs.declared.refusal.Refusal.TheVariants as refusal

module _ {A : Type 0} (j : List Form → Judgement A) (old new : State) where
  -- it gives this, and the graph has what is met then
  pub record Gave (a : List Form → A) : Type 0 where
    pub by : (met : List Term) → Stands met old → (later : List Form) → Later new.forms later
        → (now : List Term) × Stands now new × Comes (rules_in later new.listed) (j later) met (answer (Ok (a later)) now)

  -- it names this fault
  pub record Names (f : Fault) : Type 0 where
    pub by : (met : List Term) → Stands met old → (later : List Form) → Later new.forms later
        → (now : List Term) × Comes (rules_in later new.listed) (j later) met (answer (Err f) now)

  -- by what the function gives, as it is seen in a table
  abbrev pub Judged : {M : Type 0} → (M → List Form → A) → Result M Refusal → Type 0
  Judged see (Ok made) = Gave (see made)
  Judged see (Err (refusal.False place c)) = Names (fault c place)
  Judged see (Err refusal.Memory) = Unit {0}
