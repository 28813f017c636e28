-- A judgement comes to one answer.
use Rattle.std.proofs.Common.{◌≡◌, inl, inr, ℕ, true, false, List, [], Result, sym, ap, ◌∙◌}
use Rattle.typing_rules.specs.AbstractSyntax.{Program}
use Rattle.typing_rules.specs.Terms.{Term}
use Rattle.typing_rules.specs.Definitions.{Definitions}
use Rattle.typing_rules.specs.Judgements.{Judgement, Gives, Fails, Asks, Meets}
use Rattle.typing_rules.specs.Answers.{Fault, Answer, answer, Comes}
use Rattle.typing_rules.specs.Gathered.{gathered}
use Rattle.typing_rules.specs.TypedTrees.{Note}
use Rattle.typing_rules.specs.Programs.{JudgeProgram, Checks}

pub one : {A : Type 0} (defs : Definitions) (j : Judgement A) (met : List Term) (p q : Answer A) → Comes defs j met p → Comes defs j met q → p ≡ q
one defs (Gives a) met p q x y = x ∙ sym y
one defs (Fails c at) met p q x y = x ∙ sym y
one defs (Asks h next) met p q (inl x) (inl y) = one defs (next true) met p q x.1 y.1
one defs (Asks h next) met p q (inl x) (inr y) = absurd (y.0 x.0)
one defs (Asks h next) met p q (inr x) (inl y) = absurd (x.0 y.0)
one defs (Asks h next) met p q (inr x) (inr y) = one defs (next false) met p q x.1 y.1
one defs (Meets t next) met p q (inl x) (inl y) = one defs next _ p q x.1 y.1
one defs (Meets t next) met p q (inl x) (inr y) = absurd (y.0 x.0)
one defs (Meets t next) met p q (inr x) (inl y) = absurd (x.0 y.0)
one defs (Meets t next) met p q (inr x) (inr y) = x.1 ∙ sym y.1

pub program_one : (program : Program ℕ) (r s : Result (Program Note) Fault) → Checks program r → Checks program s → r ≡ s
program_one program r s x y = ap (λ z. z.is) (one (gathered program) (JudgeProgram program) [] (answer r x.met) (answer s y.met) x.by y.by)
