use Rattle.std.proofs.Common.{◌≡◌, suc, ◌+◌, ◌-◌, subst, arith}
use Rattle.suspend_split.specs.Bindings.{Slots}
use Rattle.suspend_split.proofs.OpenedNames.{slots_more}
use Rattle.suspend_split.proofs.bindings.open_functions.Goals as goal

pub loop-number-preserved : goal.loop-number-preserved
loop-number-preserved c =
    let n = c.loop-number.number in
    let w = c.loop-number.invariant.within in
    let slot = c.in_ok-slot.slot in
    let t = c.loop-number-test.true in
    let s : slot ≡ c.args.first + (n - 1) = c.in_ok-slot.ensures in
    record {
      within = omega (arith, w);
      slots =
          subst (λ f. Slots f (c.args.count - (n - 1)) c.args.scope c.in_ok-inner.inner c.args.scopes.now c.add.new.self) s
          (subst (λ m. Slots slot m c.args.scope c.in_ok-inner.inner c.args.scopes.now c.add.new.self) (let e : suc (c.args.count - n) ≡ c.args.count - (n - 1) = omega (arith, w, t) in e)
          (slots_more slot (c.args.count - n) c.args.scope c.loop-number.inner c.in_ok-inner.inner c.args.scopes.now c.loop-number.scopes c.add.new.self
          (subst (λ f. Slots f (c.args.count - n) c.args.scope c.loop-number.inner c.args.scopes.now c.loop-number.scopes) (let e : c.args.first + n ≡ suc slot = omega (arith, s, t) in e) c.loop-number.invariant.slots)
          c.in_ok-inner.ensures.added c.in_ok-inner.ensures.number));
    }
