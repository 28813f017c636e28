-- A program with too many nodes is refused, whatever they are.
use Rattle.std.proofs.Common.{◌≡◌, ℕ, zero, suc, ◌+◌, ◌*◌, ◌<◌, [], Err, refl, sym, subst, arith}
use Rattle.std.proofs.lemmas.Bool.{lt-leb}
use Rattle.typing_rules.specs.declared.condition.Condition.TheVariants as condition
use Rattle.typing_rules.specs.AbstractSyntax.{Program}
use Rattle.typing_rules.specs.Judgements.{Tests}
use Rattle.typing_rules.specs.Answers.{fault, answer, Comes}
use Rattle.typing_rules.specs.Gathered.{gathered}
use Rattle.typing_rules.specs.LimitRows.{units}
use Rattle.typing_rules.specs.Nodes.{in_list, nodes}
use Rattle.typing_rules.specs.Programs.{JudgeFieldsOf, Checks}
use Rattle.typing_rules.specs.Rows.{actor}

pub too_many : (program : Program ℕ) → 50000 < nodes program → Checks program (Err (fault condition.TooManyNodes 0))
too_many program h = record {
  met = [];
  by = subst (λ b. Comes (gathered program) (Tests condition.TooManyNodes 0 b (JudgeFieldsOf program)) [] (answer (Err (fault condition.TooManyNodes 0)) []))
      (sym (lt-leb (nodes program) 50000 h)) refl;
}

pub units_nodes : (n at : ℕ) → in_list (units n at) ≡ 2 * n
units_nodes zero at = refl
units_nodes (suc n) at = let h : in_list (units n (at + 3)) ≡ 2 * n = units_nodes n (at + 3) in omega arith

pub many_units : (n : ℕ) → 25000 < n → Checks (actor (units n 2)) (Err (fault condition.TooManyNodes 0))
many_units n h = too_many (actor (units n 2)) (let e : nodes (actor (units n 2)) ≡ 2 * n = units_nodes n 2 in omega arith)
