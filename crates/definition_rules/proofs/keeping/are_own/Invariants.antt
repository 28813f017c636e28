use Rattle.std.proofs.Common.{◌≡◌, ℕ, ◌<◌, true, Some, slice_get}
use Rattle.type_terms.specs.declared.form.TermId.{TermId}
use Rattle.definition_rules.specs.Uses.{is_parameter}
use Rattle.definition_rules.proofs.keeping.are_own.Given as goal

abbrev pub invariant-loop-i : goal.invariant-loop-i
invariant-loop-i l = (j n : ℕ) (a : TermId) → j < l.i → slice_get l.own j ≡ Some n → slice_get l.arguments j ≡ Some a → is_parameter (slice_get l.terms a.index) n ≡ true
