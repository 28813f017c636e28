use Rattle.std.proofs.Common.{◌≡◌, ℕ, List, Option}
use Rattle.type_terms.specs.declared.form.Form.{Form}
use Rattle.typing_rules.specs.Terms.{Term}
use Rattle.typing_rules.specs.Definitions.{followed}
use Rattle.type_definitions.specs.Meanings.{term}
use Rattle.type_definitions.specs.Tables.{Later, Within}
use Rattle.type_definitions.specs.Definitions.{types_in}
use Rattle.type_definitions.specs.Outcomes.{Agree}
use Rattle.type_definitions.proofs.chains.follow.Given as goal

abbrev pub invariant-loop-outcome : goal.invariant-loop-outcome
invariant-loop-outcome l = record {
  within : Within l.terms l.id;
  same : (later : List Form) → Later l.terms later → (below : ℕ → Option Term) → Agree l.definitions l.outcomes below
      → followed (types_in later l.definitions) below (term later l.fn.id) ≡ followed (types_in later l.definitions) below (term later l.id);
}

abbrev pub decreases-loop-outcome : goal.decreases-loop-outcome
decreases-loop-outcome l = l.id.index
