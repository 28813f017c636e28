-- What the function of a rule comes to: what its judgement comes to, which it gives or whose fault it names.
use Rattle.std.specs.Prelude.{◌≡◌, ℕ, List, Result, Ok, Err}
use denote.Ref.{MutBor}
use Rattle.type_terms.specs.declared.form.Form.{Form}
use Rattle.typing_rules.specs.Judgements.{Judgement}
use Rattle.typing_rules.specs.Answers.{Fault, fault}
use Rattle.met_types.specs.States.{State, Goes, Left}
use Rattle.type_judgements.specs.Judged.{Gave, Names}
use Rattle.type_judgements.specs.declared.refusal.Refusal.{Refusal}
use Rattle.type_judgements.specs.declared.refusal.Refusal.TheVariants as refusal
use Rattle.abstract_tree.specs.declared.expressions.Expression.{Expression}
use Rattle.abstract_tree.specs.TreeView.{plain}
use Rattle.value_scopes.specs.declared.note.Note.{Note}
use Rattle.value_scopes.specs.declared.scopes.Scopes.{Scopes}
use Rattle.judging.specs.declared.checker.Checker.{Checker}
use Rattle.judging.specs.declared.layer.Part.{Part}
use Rattle.judging.specs.Parts.{Sound, Entering}
use Rattle.judging.specs.Views.{View, view, judge, typed_in, kind_reached}

-- From this checker and these names to those. The names in scope are as they were.
module _ {A M : Type 0} (see : M → List Form → A) (good : State → M → Type 0) (j : View → Judgement A) (c : Scopes) (k : Checker) (d : Scopes) (l : Checker) where
  -- it gives this
  pub record Made (made : M) : Type 0 where
    pub sound : Sound l d
    pub same : d ≡ c
    pub goes : Goes k.types l.types
    pub holds : good l.types made
    pub gave : Gave (λ later. j (view later k.types.listed c)) k.types l.types (see made)

  -- it names this fault
  pub record Refused (f : Fault) : Type 0 where
    pub left : Left k.types l.types
    pub names : Names (λ later. j (view later k.types.listed c)) k.types l.types f

  abbrev pub Outcome : Result M Refusal → Type 0
  Outcome (Ok made) = Made made
  Outcome (Err (refusal.False place x)) = Refused (fault x place)
  Outcome (Err refusal.Memory) = Unit {0}

  pub record Answers (r : Result M Refusal) : Type 0 where
    pub outcome : Outcome r

-- A function value that judges expressions of at most so many levels.
pub record Judges (depth : ℕ) (pre : MutBor Checker → MutBor Scopes → Part → Type 0)
    (post : MutBor Checker → MutBor Scopes → Part → Result (Expression Note) Refusal → MutBor Checker → MutBor Scopes → Type 0) : Type 0 where
  pub callable : (k : MutBor Checker) (c : MutBor Scopes) (x : Part) → x.depth ≡ depth → Entering k.now c.now x.place x.wanted → pre k c x
  pub answers : (k l : MutBor Checker) (c d : MutBor Scopes) (x : Part) (r : Result (Expression Note) Refusal) → x.depth ≡ depth → post k c x r l d
      → Answers typed_in kind_reached (judge x.place (plain x.expression.now) x.wanted) c.now k.now d.now l.now r
