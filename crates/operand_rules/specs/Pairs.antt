-- Two operands with the greatest of their types, and how an operand is judged.
use Rattle.std.specs.Prelude.{ℕ, List}
use Rattle.type_terms.specs.declared.form.Form.{Form}
use Rattle.typing_rules.specs.AbstractSyntax.{Expression}
use Rattle.typing_rules.specs.Terms.{Term}
use Rattle.typing_rules.specs.TypedTrees.{Typed, Judged}
use Rattle.type_definitions.specs.Meanings.{term}
use Rattle.met_types.specs.States.{State, IsReached}
use Rattle.judging.specs.declared.site.Site.{Site}
use Rattle.judging.specs.Views.{View, judge_at, typed_in}
use Rattle.operand_rules.specs.declared.pairs.OperandPair.{OperandPair}

-- how the part of an expression that stands there is judged
abbrev pub part_of : Site → Expression ℕ → View → Judged
part_of x a v w = judge_at x.place a w v

abbrev pub pair_in : OperandPair → List Form → Term × Typed × Typed
pair_in o later = (term later o.kind, typed_in o.left later, typed_in o.right later)

abbrev pub pair_reached : State → OperandPair → Type 0
pair_reached s o = IsReached s o.kind
