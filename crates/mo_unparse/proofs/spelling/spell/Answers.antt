use Rattle.std.proofs.Common.{subst, sym, []}
use Rattle.mo_unparse.specs.declared.last.Last.TheVariants as last
use Rattle.mo_unparse.proofs.ChainLemmas.{Going, start, go_on_at, finish_at}
use Rattle.mo_unparse.proofs.NeedLemmas.{needed}
use Rattle.mo_unparse.proofs.spelling.spell.Goals as goal

pub loop-kind-init : goal.loop-kind-init
loop-kind-init c = λ able. subst (Going [] c.args.kinds.now last.Other) (sym c.new-out.ensures) (start c.args.kinds.now able)

pub loop-kind-preserved : goal.loop-kind-preserved
loop-kind-preserved c =
    go_on_at c.args.kinds.now c.loop-kind.kind-index c.kind-item.result c.loop-kind.last c.last_of-last.result c.loop-kind.out c.put_next.new.out c.loop-kind-test.true c.kind-item.is c.loop-kind.invariant c.in_ok-put_next.ensures c.last_of-last.ensures

pub returns : goal.returns
returns c =
    let spells = finish_at c.args.kinds.now c.loop-kind.kind-index c.loop-kind.last c.loop-kind.out c.push.new.self c.loop-kind-test.false c.loop-kind.invariant c.in_ok-push.ensures.ok in
    record { written = spells; possible = λ other s. spells (needed other c.args.kinds.now s) }
