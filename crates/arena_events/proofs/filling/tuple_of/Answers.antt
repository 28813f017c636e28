use Rattle.std.proofs.Common.{List, sym, subst, ◌∙◌}
use Rattle.std.proofs.lemmas.Result.{IfOk-weaker}
use Rattle.value_arena.specs.declared.node.ValueId.{ValueId}
use Rattle.value_arena.specs.Growth.{AreWithin}
use Rattle.arena_events.proofs.Givens.{tuple_made}
use Rattle.arena_events.proofs.filling.tuple_of.Goals as goal

pub make-requires : goal.make-requires
make-requires c =
    let Of : List ValueId → Type 0 = λ ids. AreWithin c.args.arena.now ids in
    subst Of (sym (c.from_vec-parts.ensures ∙ c.in_ok-list.ensures.items)) c.requires

pub returns : goal.returns
returns c =
    IfOk-weaker c.make.result _ _
    (λ v added. tuple_made c.args.arena.now c.make.new.self c.args.values.now c.from_vec-parts.result v (c.from_vec-parts.ensures ∙ c.in_ok-list.ensures.items) added)
    c.make.ensures.ok
