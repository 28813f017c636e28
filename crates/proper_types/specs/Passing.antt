-- What a function of the checker does: what its judgement comes to, and what becomes of the types.
use Rattle.std.specs.Prelude.{◌≡◌, true, List, Result, Ok, Err}
use Rattle.type_terms.specs.declared.form.Form.{Form}
use Rattle.typing_rules.specs.Judgements.{Judgement}
use Rattle.typing_rules.specs.Answers.{Fault, fault}
use Rattle.type_definitions.specs.Definitions.{Listed}
use Rattle.met_types.specs.States.{State, Kept, Goes, Left}
use Rattle.shareable_types.specs.declared.sharing.Sharing.{Sharing}
use Rattle.shareable_types.specs.Answers.{Stands}
use Rattle.type_judgements.specs.declared.refusal.Refusal.{Refusal}
use Rattle.type_judgements.specs.declared.refusal.Refusal.TheVariants as refusal
use Rattle.type_judgements.specs.Judged.{Gave, Names}

-- the types as they are kept, and which of them are shareable
pub record Ready (s : State) (sharing : Sharing) : Type 0 where
  pub kept : Kept s
  pub sent : sharing.any ≡ true
  pub stands : Stands s sharing

module _ {A : Type 0} (j : List Form → Judgement A) (old new : State) where
  -- The judgement gave this. The types are kept, and grew.
  pub record Passed (sharing : Sharing) (a : List Form → A) : Type 0 where
    pub ready : Ready new sharing
    pub goes : Goes old new
    pub gave : Gave j old new a

  -- The judgement names this fault. The table of terms may have grown.
  pub record Refused (f : Fault) : Type 0 where
    pub left : Left old new
    pub names : Names j old new f

-- by what the function gives, as it is seen in a table
module _ {A : Type 0} (j : Listed → List Form → Judgement A) (old new : State) (sharing : Sharing) where
  abbrev pub Judges : {M : Type 0} → (M → List Form → A) → Result M Refusal → Type 0
  Judges see (Ok made) = Passed (j old.listed) old new sharing (see made)
  Judges see (Err (refusal.False place c)) = Refused (j old.listed) old new (fault c place)
  Judges see (Err refusal.Memory) = Unit {0}
