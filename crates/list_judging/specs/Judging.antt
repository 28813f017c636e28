-- Function values that judge lists of declarations.
use Rattle.std.specs.Prelude.{◌≡◌, ℕ, Result}
use denote.Ref.{MutBor}
use Rattle.type_judgements.specs.declared.refusal.Refusal.{Refusal}
use Rattle.value_scopes.specs.declared.scopes.Scopes.{Scopes}
use Rattle.judging.specs.declared.checker.Checker.{Checker}
use Rattle.judging.specs.Answers.{Answers}
use Rattle.judging.specs.Parts.{Ready}
use Rattle.list_judging.specs.declared.part.ListPart.{ListPart}
use Rattle.list_judging.specs.declared.part.MadeList.{MadeList}
use Rattle.list_judging.specs.Lists.{judge_list, list_in, list_reached}

-- A function value that judges lists of declarations of at most so many levels.
pub record JudgesLists (depth : ℕ) (pre : MutBor Checker → MutBor Scopes → ListPart → Type 0)
    (post : MutBor Checker → MutBor Scopes → ListPart → Result MadeList Refusal → MutBor Checker → MutBor Scopes → Type 0) : Type 0 where
  pub callable : (k : MutBor Checker) (c : MutBor Scopes) (x : ListPart) → x.depth ≡ depth → Ready k.now c.now x.site → pre k c x
  pub answers : (k l : MutBor Checker) (c d : MutBor Scopes) (x : ListPart) (r : Result MadeList Refusal) → x.depth ≡ depth → post k c x r l d
      → Answers list_in list_reached (judge_list x.site x.value x.declarations.now) c.now k.now d.now l.now r
