use Rattle.std.proofs.Common.{◌≡◌, ◌≤◌, Bool, true, List, [], ◌∷◌, length, ap, arith, sym, subst, ◌∙◌}
use Rattle.std.specs.Prelude.{slice_get}
use Rattle.mo_types.specs.Graph.{head_at}
use Rattle.mo_types.specs.Sub.{IsSubtype}
use Rattle.mo_subtype.specs.Certificate.{Led, Turned, Proves}
use Rattle.mo_subtype.specs.Questions.{pair}
use Rattle.mo_subtype.proofs.Rounds.{Round}
use Rattle.mo_subtype.proofs.Turns.{P, goes, first_stays, proved, refuted, begins, none_led, single, longer}
use Rattle.mo_subtype.proofs.search.subtype.Goals as goal

pub loop-depth-init : goal.loop-depth-init
loop-depth-init c =
    let k : c.insert.new.self.keys ≡ pair c.args.low c.args.high ∷ [] = single c.new-pairs.result.keys c.insert.new.self.keys (pair c.args.low c.args.high) c.new-pairs.ensures.empty c.in_ok-insert.ensures.keys in
    record {
      round = subst (Round (head_at c.args.types.now) 0 c.args.low c.args.high) (sym k) (begins (head_at c.args.types.now) c.args.low c.args.high);
      first = ap (λ (l : List P). slice_get l 0) k;
      led = none_led (head_at c.args.types.now) c.insert.new.self.keys;
      within = omega arith;
    }

pub returns-then-start-end : goal.returns-then-start-end
returns-then-start-end c =
    let l : Led (head_at c.args.types.now) c.loop-depth.pairs.keys (length c.loop-depth.pairs.keys) = subst (Led (head_at c.args.types.now) c.loop-depth.pairs.keys) (c.if-start-end.true ∙ c.len-end.ensures.len) c.loop-depth.invariant.led in
    subst (λ (ps : List P). Proves (head_at c.args.types.now) c.args.low c.args.high ps × IsSubtype (head_at c.args.types.now) c.args.low c.args.high) (sym c.from_set.ensures)
    (proved (head_at c.args.types.now) c.args.low c.args.high c.loop-depth.pairs.keys l c.loop-depth.invariant.first)

pub turn-requires-clause-order : goal.turn-requires-clause-order
turn-requires-clause-order c = subst (λ n. c.loop-depth.start ≤ n) (sym c.len-end.ensures.len) c.loop-depth.invariant.within

pub turn-requires-clause-led : goal.turn-requires-clause-led
turn-requires-clause-led c = c.loop-depth.invariant.led

pub returns-then-not-branch : goal.returns-then-not-branch
returns-then-not-branch c = refuted (head_at c.args.types.now) c.loop-depth.depth c.args.low c.args.high c.loop-depth.pairs.keys c.turn.new.pairs.keys c.loop-depth.invariant.round
    (subst (λ (b : Bool). Turned (head_at c.args.types.now) b c.loop-depth.pairs.keys c.turn.new.pairs.keys) c.if-not-branch.true c.in_ok-turn.ensures)

pub loop-depth-preserved : goal.loop-depth-preserved
loop-depth-preserved c =
    let t : Turned (head_at c.args.types.now) true c.loop-depth.pairs.keys c.turn.new.pairs.keys = subst (λ (b : Bool). Turned (head_at c.args.types.now) b c.loop-depth.pairs.keys c.turn.new.pairs.keys) c.if-not-branch.false c.in_ok-turn.ensures in
    record {
      round = goes (head_at c.args.types.now) c.loop-depth.depth c.args.low c.args.high c.loop-depth.pairs.keys c.turn.new.pairs.keys c.loop-depth.invariant.round t;
      first = first_stays (head_at c.args.types.now) c.loop-depth.pairs.keys c.turn.new.pairs.keys (pair c.args.low c.args.high) t c.loop-depth.invariant.first;
      led = subst (Led (head_at c.args.types.now) c.turn.new.pairs.keys) (sym c.len-end.ensures.len) t.1;
      within = subst (λ n. n ≤ length c.turn.new.pairs.keys) (sym c.len-end.ensures.len) (longer (head_at c.args.types.now) c.loop-depth.pairs.keys c.turn.new.pairs.keys t.0);
    }
