use Rattle.std.proofs.Common.{List, length, reverse, ◌∷◌, [], sym, ap, ◌∙◌, subst}
use Rattle.std.proofs.lemmas.List.{reverse-append}
use Rattle.value_arena.specs.declared.node.ValueId.{ValueId}
use Rattle.value_arena.specs.Growth.{AreWithin}
use Rattle.arena_reading.proofs.Readings.{below_take, put_so}
use Rattle.arena_reading.proofs.opening.put_part.Goals as goal

pub make-requires : goal.make-requires
make-requires c =
    let Of : List ValueId → Type 0 = λ ids. AreWithin c.args.arena.now ids in
    subst Of (sym c.in_ok-inside.ensures.0) (below_take (length c.args.arena.now) c.arity-count.result (reverse c.args.values.now.items) c.requires)

pub returns : goal.returns
returns c =
    put_so c.args.arena.now c.make.new.self _ c.args.part.now c.arity-count.result (reverse c.args.values.now.items) c.in_ok-inside.inside (reverse c.take_inside.new.values.items) (reverse c.push.new.self.items) c.in_ok-head.head
    c.in_ok-value.value c.requires c.arity-count.ensures c.in_ok-inside.ensures.0 c.in_ok-inside.ensures.1 c.in_ok-head.ensures c.in_ok-value.ensures.ok
    (ap reverse c.in_ok-push.ensures.items ∙ reverse-append c.take_inside.new.values.items (c.in_ok-value.value ∷ []))
