use Rattle.type_terms.specs.Tables.{Founded}
use Rattle.definition_rules.proofs.Walking.{Walked}
use Rattle.definition_rules.proofs.groups.types_within.Given as goal

abbrev pub invariant-loop-place : goal.invariant-loop-place
invariant-loop-place l = record {
  walked : Walked l.terms l.fn.id l.place l.found.keys;
  founded : Founded l.terms;
}
