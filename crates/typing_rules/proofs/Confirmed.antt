-- Rows by evaluation.
use Rattle.std.proofs.Common.{◌≡◌, ℕ, Bool, true, ◌&&◌, List, [], ◌∷◌, map, Option, Some, None, Result, Ok, Err, subst}
use Rattle.typing_rules.specs.AbstractSyntax.{Program}
use Rattle.typing_rules.specs.Answers.{Fault, Answer}
use Rattle.typing_rules.specs.Gathered.{gathered}
use Rattle.typing_rules.specs.TypedTrees.{Note}
use Rattle.typing_rules.specs.Programs.{JudgeProgram, Checks}
use Rattle.typing_rules.specs.Rows.{Row, IsAnswer, AreAnswered}
use Rattle.typing_rules.proofs.Closures.{both_true}
use Rattle.typing_rules.proofs.Closed.{is_few, few_are}
use Rattle.typing_rules.proofs.Evaluated.{run, known, comes}
use Rattle.typing_rules.proofs.Asked.{fuel, ask, says}

abbrev pub came : Program ℕ → Answer (Program Note)
came program = run (ask (gathered program)) (JudgeProgram program) []

-- all that was asked is known, and few types are met
abbrev pub is_sure : Program ℕ → Bool
is_sure program = known (ask (gathered program)) (JudgeProgram program) && is_few (gathered program) fuel (came program).met

pub checked : (program : Program ℕ) → is_sure program ≡ true → Checks program (came program).is
checked program h =
    let k = both_true (known (ask (gathered program)) (JudgeProgram program)) (is_few (gathered program) fuel (came program).met) h in
    record { met = (came program).met; by = comes (ask (gathered program)) (gathered program) (says (gathered program)) (JudgeProgram program) [] k.0 (few_are (gathered program) fuel (came program).met k.1) }

abbrev pub fault_in : Result (Program Note) Fault → Option Fault
fault_in (Ok made) = None
fault_in (Err f) = Some f

-- what each row comes to
abbrev pub outcomes : List Row → List (Option Fault)
outcomes rows = map (λ r. fault_in (came r.program).is) rows

abbrev pub wanted : List Row → List (Option Fault)
wanted rows = map (λ r. r.fault) rows

abbrev pub all_sure : List Row → Bool
all_sure [] = true
all_sure (r ∷ rows) = is_sure r.program && all_sure rows

answers : (program : Program ℕ) (is : Result (Program Note) Fault) → Checks program is → IsAnswer program (fault_in is)
answers program (Ok made) c = (made, c)
answers program (Err f) c = c

first_is : (x y : Option Fault) (xs ys : List (Option Fault)) → x ∷ xs ≡ y ∷ ys → x ≡ y
first_is x y xs ys e = cc

rest_is : (x y : Option Fault) (xs ys : List (Option Fault)) → x ∷ xs ≡ y ∷ ys → xs ≡ ys
rest_is x y xs ys e = cc

pub all_answered : (rows : List Row) → all_sure rows ≡ true → outcomes rows ≡ wanted rows → AreAnswered rows
all_answered [] h e = tt
all_answered (r ∷ rows) h e =
    let k = both_true (is_sure r.program) (all_sure rows) h in (
      subst (λ f. IsAnswer r.program f) (first_is (fault_in (came r.program).is) r.fault (outcomes rows) (wanted rows) e) (answers r.program (came r.program).is (checked r.program k.0)),
      all_answered rows k.1 (rest_is (fault_in (came r.program).is) r.fault (outcomes rows) (wanted rows) e),
    )
