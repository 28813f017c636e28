use Rattle.std.proofs.Common.{◌≡◌, ◌+◌, ◌*◌, ◌≤◌, ◌%◌, [], ◌∷◌, ◌++◌, length, take, get_or, arith, inl, inr, ap, subst, ◌∙◌}
use Rattle.std.proofs.lemmas.List.{take_more, take_all}
use Rattle.mo_num.proofs.Numbers.{Writes, writes_kept, writes_byte, writes_end, small_pending, below_at, filled_byte, writes_same, unit_is}
use Rattle.mo_num.proofs.base32.regrouped.Goals as goal
use Rattle.mo_num.proofs.base32.regrouped.Goals.{then-count-lt3, else-count-lt3}

pub overflow_mul-wide : goal.overflow_mul-wide
overflow_mul-wide c =
    let w = c.loop-digit.invariant.writes in
    let p = small_pending c.loop-digit.pending c.loop-digit.count w.small w.few in
    omega (arith, p)

pub overflow_add-wide : goal.overflow_add-wide
overflow_add-wide c =
    let w = c.loop-digit.invariant.writes in
    let p = small_pending c.loop-digit.pending c.loop-digit.count w.small w.few in
    let d = below_at 32 c.args.digits.now c.loop-digit.digit-index c.requires.below c.loop-digit-test.true in
    omega (arith, p, d)

pub overflow_cast-wide-else-count-lt3 : goal.overflow_cast-wide-else-count-lt3
overflow_cast-wide-else-count-lt3 c =
    let w = c.loop-digit.invariant.writes in
    let d = below_at 32 c.args.digits.now c.loop-digit.digit-index c.requires.below c.loop-digit-test.true in
    let f = filled_byte c.loop-digit.pending c.loop-digit.count (get_or c.args.digits.now c.loop-digit.digit-index 0) w.small d (omega arith) in
    omega (arith, f)

pub loop-digit-preserved : goal.loop-digit-preserved
loop-digit-preserved c =
    let d = below_at 32 c.args.digits.now c.loop-digit.digit-index c.requires.below c.loop-digit-test.true in
    let e : take (c.loop-digit.digit-index + 1) c.args.digits.now ≡ take c.loop-digit.digit-index c.args.digits.now ++ get_or c.args.digits.now c.loop-digit.digit-index 0 ∷ [] = take_more c.args.digits.now c.loop-digit.digit-index 0 c.loop-digit-test.true in
    elim c.if-count-lt3.branch [
      | then-count-lt3 w ↦ record {
        room = ap (λ v. v.capacity) w.bytes-is ∙ c.loop-digit.invariant.room;
        writes = writes_same c.loop-digit.bytes.items _ _ _ _ _ _ _ (ap (λ v. v.items) w.bytes-is) e w.pending-is w.count-is
            (writes_kept c.loop-digit.bytes.items (take c.loop-digit.digit-index c.args.digits.now) c.loop-digit.pending c.loop-digit.count (get_or c.args.digits.now c.loop-digit.digit-index 0) c.loop-digit.invariant.writes d w.if-count-lt3.true);
      }
      | else-count-lt3 w ↦
          let u = unit_is c.loop-digit.count c.loop-digit.invariant.writes.few in
          record {
            room = ap (λ v. v.capacity) w.bytes-is ∙ w.push_reserved.ensures.capacity ∙ c.loop-digit.invariant.room;
            writes = writes_same _ _ _ _ _ _ _ _ (ap (λ v. v.items) w.bytes-is ∙ w.push_reserved.ensures.items) e (w.pending-is ∙ ap (λ k. (c.loop-digit.pending * 32 + get_or c.args.digits.now c.loop-digit.digit-index 0) % k) u) w.count-is
                (writes_byte c.loop-digit.bytes.items (take c.loop-digit.digit-index c.args.digits.now) c.loop-digit.pending c.loop-digit.count (get_or c.args.digits.now c.loop-digit.digit-index 0) c.loop-digit.invariant.writes d w.if-count-lt3.false);
          }
    ]

pub returns-else-count-lt5 : goal.returns-else-count-lt5
returns-else-count-lt5 c = λ other b.
    let past : length c.args.digits.now ≤ c.loop-digit.digit-index = c.loop-digit-test.false in
    let all : take c.loop-digit.digit-index c.args.digits.now ≡ c.args.digits.now = take_all c.loop-digit.digit-index c.args.digits.now past in
    let w : Writes c.loop-digit.bytes.items c.args.digits.now c.loop-digit.pending c.loop-digit.count = subst (λ l. Writes c.loop-digit.bytes.items l c.loop-digit.pending c.loop-digit.count) all c.loop-digit.invariant.writes in
    let e = writes_end c.loop-digit.bytes.items c.args.digits.now other c.loop-digit.pending c.loop-digit.count w b in
    elim c.else-count-lt5.either [ inl h ↦ h.1 e.0 | inr h ↦ omega (arith, h, e.1) ]
