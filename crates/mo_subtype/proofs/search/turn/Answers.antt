use Rattle.std.proofs.Common.{◌≡◌, ◌<◌, length, ap, arith, sym, ◌∙◌}
use Rattle.std.specs.Option.{option_copied}
use Rattle.mo_types.specs.Graph.{head_at}
use Rattle.mo_subtype.proofs.Turns.{turning_start, on_true, on_false}
use Rattle.mo_subtype.proofs.search.turn.Goals as goal

pub loop-place-init : goal.loop-place-init
loop-place-init c = turning_start (head_at c.args.types.now) c.args.pairs.now.keys c.args.start c.requires.led

pub returns-then-not-branch : goal.returns-then-not-branch
returns-then-not-branch c =
    let l : c.loop-place.place < length c.args.pairs.now.keys = (let a : c.loop-place.place < c.args.end = c.loop-place-test.true in let b : c.args.end ≡ length c.args.pairs.now.keys = c.requires.whole in omega arith) in
    on_false (head_at c.args.types.now) c.args.pairs.now.keys c.loop-place.pairs.keys c.expand.new.pairs.keys c.loop-place.place c.in-Some.pair.now c.loop-place.invariant l
    (sym c.get_index.ensures.key ∙ ap option_copied c.in-Some.is) c.in_ok-expand.field-0 c.in_ok-expand.ensures c.expand.new.pairs.keys c.if-not-branch.true

pub loop-place-preserved : goal.loop-place-preserved
loop-place-preserved c =
    let l : c.loop-place.place < length c.args.pairs.now.keys = (let a : c.loop-place.place < c.args.end = c.loop-place-test.true in let b : c.args.end ≡ length c.args.pairs.now.keys = c.requires.whole in omega arith) in
    on_true (head_at c.args.types.now) c.args.pairs.now.keys c.loop-place.pairs.keys c.expand.new.pairs.keys c.loop-place.place c.in-Some.pair.now c.loop-place.invariant l
    (sym c.get_index.ensures.key ∙ ap option_copied c.in-Some.is) c.in_ok-expand.field-0 c.in_ok-expand.ensures c.if-not-branch.false
