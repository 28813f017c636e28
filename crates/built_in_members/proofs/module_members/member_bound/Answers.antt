use Rattle.built_in_members.proofs.Interned.{bound_is}
use Rattle.type_definitions.specs.Meanings.{term}
use Rattle.built_in_members.proofs.module_members.member_bound.Goals as goal

pub returns-clause-bound : goal.returns-clause-bound
returns-clause-bound c = record {
  added = c.in_ok-kind.ensures.added;
  within = c.in_ok-kind.ensures.written.within;
  is = λ later l. bound_is c.args.member (term later c.in_ok-kind.kind) c.in_ok-generics.generics (c.in_ok-kind.ensures.written.is later l) c.in_ok-generics.ensures;
}
