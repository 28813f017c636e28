use Rattle.std.proofs.Common.{sym, ◌∙◌, add-one}
use Rattle.arena_keeping.proofs.Found.{place_behind, place_here, place_none}
use Rattle.arena_keeping.proofs.places.place_of.Goals as goal

pub returns-then-same_name : goal.returns-then-same_name
returns-then-same_name c =
    sym (place_here c.args.variable.now.name c.args.stable.now c.loop-place.place c.index-stable-place.result c.loop-place-test.true c.index-stable-place.is (sym c.if-same_name.ensures)) ∙ c.loop-place.invariant

pub loop-place-preserved : goal.loop-place-preserved
loop-place-preserved c =
    rw add-one
    (sym (place_behind c.args.variable.now.name c.args.stable.now c.loop-place.place c.index-stable-place.result c.loop-place-test.true c.index-stable-place.is (sym c.if-same_name.ensures)) ∙ c.loop-place.invariant)

pub returns : goal.returns
returns c = sym (place_none c.args.variable.now.name c.args.stable.now c.loop-place.place c.loop-place-test.false) ∙ c.loop-place.invariant
