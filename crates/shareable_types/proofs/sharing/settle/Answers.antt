use Rattle.std.proofs.Common.{◌∙◌, ap, refl, length}
use Rattle.type_definitions.specs.Definitions.{Listed}
use Rattle.shareable_types.proofs.Answered.{round_at, covered_at, nothing_known}
use Rattle.shareable_types.proofs.Round.{valid_at_first, valid_next, fixed_here}
use Rattle.shareable_types.proofs.sharing.settle.Goals as goal

pub loop-turn-init : goal.loop-turn-init
loop-turn-init c = record {
  many = c.in_ok-needed.ensures.0 ∙ ap length (c.types.ensures ∙ ap (λ (l : Listed). l.types) c.definitions-definitions.ensures);
  valid = λ later h. valid_at_first c.args.any c.args.types.now.listed c.in_ok-needed.needed.items c.in_ok-needed.ensures.1 later;
}

pub returns-then-all_cover : goal.returns-then-all_cover
returns-then-all_cover c =
    let round = round_at c.args.any c.definitions-definitions.result.now c.args.types.now.listed c.as_slice.result.now c.loop-turn.needed.items c.terms-terms.result.now c.args.types.now.forms c.outcomes.result.now c.args.types.now.outcomes c.in_ok-next.next.items
    c.definitions-definitions.ensures c.as_slice.ensures.value c.terms-terms.ensures c.outcomes.ensures c.in_ok-next.ensures in
    let covered = covered_at c.as_slice-in-loop-turn.result.now c.loop-turn.needed.items c.as_slice-in-loop-turn-2.result.now c.in_ok-next.next.items c.as_slice-in-loop-turn.ensures.value c.as_slice-in-loop-turn-2.ensures.value (c.all_cover.ensures c.if-all_cover.true) in (
      refl,
      record {
        settled = record {
          valid = c.loop-turn.invariant.valid;
          fixed = λ later h. fixed_here c.args.any c.args.types.now.listed c.args.types.now.forms c.args.types.now.outcomes c.requires.outcomes c.loop-turn.needed.items c.in_ok-next.next.items round later h covered c.loop-turn.invariant.many;
        };
        knows = nothing_known c.args.any c.args.types.now.listed c.loop-turn.needed.items c.args.types.now.forms c.new.result.items c.new.ensures.items;
      },
    )

pub loop-turn-preserved : goal.loop-turn-preserved
loop-turn-preserved c =
    let round = round_at c.args.any c.definitions-definitions.result.now c.args.types.now.listed c.as_slice.result.now c.loop-turn.needed.items c.terms-terms.result.now c.args.types.now.forms c.outcomes.result.now c.args.types.now.outcomes c.in_ok-next.next.items
    c.definitions-definitions.ensures c.as_slice.ensures.value c.terms-terms.ensures c.outcomes.ensures c.in_ok-next.ensures in
    record {
      many = round.many;
      valid = λ later h. valid_next c.args.any c.args.types.now.listed c.args.types.now.forms c.args.types.now.outcomes c.requires.outcomes c.loop-turn.needed.items c.in_ok-next.next.items round later h (c.loop-turn.invariant.valid later h);
    }
