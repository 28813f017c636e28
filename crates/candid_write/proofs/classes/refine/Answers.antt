use Rattle.std.proofs.Common.{◌≡◌, ◌+◌, ◌++◌, [], ◌∷◌, ap, sym, subst, length, length-append, get_or, arith}
use Rattle.candid_types.specs.Shapes.{shape_at}
use Rattle.candid_write.specs.Signature.{signature}
use Rattle.candid_write.specs.Rounds.{lists}
use Rattle.candid_write.proofs.PlaceLemmas.{IsPlace, places_more, refines}
use Rattle.candid_write.proofs.Counting.{Onto, onto_more, counted}
use Rattle.candid_write.proofs.classes.refine.Goals as goal

pub loop-number-preserved : goal.loop-number-preserved
loop-number-preserved c = record {
  count = let e : length c.push.new.self.items ≡ length (c.loop-number.next.items ++ c.in_ok-place_of.field-0 ∷ []) = ap length c.in_ok-push.ensures.items in let l : length (c.loop-number.next.items ++ c.in_ok-place_of.field-0 ∷ []) ≡ length c.loop-number.next.items + 1 = length-append c.loop-number.next.items (c.in_ok-place_of.field-0 ∷ []) in let f : length c.loop-number.next.items ≡ c.loop-number.number = c.loop-number.invariant.count in omega arith;
  onto = subst (λ l. Onto (length (lists c.place_of.new.seen.keys)) l (c.loop-number.number + 1)) (sym c.in_ok-push.ensures.items)
      (onto_more (lists c.loop-number.seen.keys) (lists c.place_of.new.seen.keys) (signature c.args.classes.now (shape_at c.args.shapes.now c.loop-number.number)) c.loop-number.next.items c.loop-number.number c.in_ok-place_of.field-0 c.loop-number.invariant.count c.loop-number.invariant.onto c.in_ok-place_of.ensures);
  places = λ i h. subst (λ l. IsPlace (lists c.place_of.new.seen.keys) (signature c.args.classes.now (shape_at c.args.shapes.now i)) (get_or l i 0)) (sym c.in_ok-push.ensures.items)
      (places_more (λ j. signature c.args.classes.now (shape_at c.args.shapes.now j)) (lists c.loop-number.seen.keys) (lists c.place_of.new.seen.keys) c.loop-number.next.items c.loop-number.number c.in_ok-place_of.field-0 c.loop-number.invariant.count
      c.loop-number.invariant.places c.in_ok-place_of.ensures i h);
}

pub returns-clause-count : goal.returns-clause-count
returns-clause-count c = counted (λ i. signature c.args.classes.now (shape_at c.args.shapes.now i)) c.loop-number.seen.keys c.loop-number.next.items c.loop-number.number _ c.len-2.ensures.len c.loop-number.invariant.count c.loop-number.invariant.places c.loop-number.invariant.onto

pub returns-clause-classes : goal.returns-clause-classes
returns-clause-classes c = refines c.args.shapes.now c.args.classes.now c.loop-number.next.items (lists c.loop-number.seen.keys) c.loop-number.number c.loop-number.invariant.count (omega arith) c.loop-number.invariant.places
