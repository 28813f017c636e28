use Rattle.std.proofs.Common.{◌≡◌, ◌≤◌, ◌<◌, ◌-◌, ◌&&◌, ◌∙◌, ℕ, suc, sym, ap, List, [], length, map, drop, Decides, subst, arith}
use Rattle.core_ir.specs.Choices.{nth}
use Rattle.core_ir.specs.declared.expression.CoreBody.{CoreBody}
use Rattle.core_ir.specs.declared.program.Group.{Group}
use Rattle.core_ir.specs.Formed.{PaidCoreGroups}
use Rattle.core_measures.specs.Within.{core_group}
use Rattle.core_measures.proofs.Deciding.{decide_is, pays_of, paid_before}
use Rattle.core_measures.proofs.paying.are_paid.Goals as goal

pub loop-number-preserved : goal.loop-number-preserved
loop-number-preserved c =
    let gs : List (Group CoreBody) = c.args.groups.now in
    let needs : List (List ℕ) = c.args.needs.now in
    let number = c.loop-number.number in
    let i = number - 1 in
    let more = c.loop-number-test.true in
    let within : number ≤ length gs = c.loop-number.invariant.within in
    let next : suc i ≡ number = omega (arith, more) in
    let there : i < length gs = omega (arith, more, within) in
    let g = c.index-groups-number.result in
    let names = c.needed.ensures ∙ ap (λ (n : ℕ). nth [] needs n) c.in_ok-at.ensures in
    record {
      within = omega (arith, within);
      paid = λ own p.
          decide_is c.all_of-all.result (c.in_ok-one.one && c.loop-number.all) c.all_of-all.ensures
          (paid_before own p needs gs i number g next there c.index-groups-number.is c.in_ok-one.one c.loop-number.all (pays_of own p needs i g c.as_slice.result.now c.needed.result.now (c.as_slice.ensures ∙ ap (λ (x : Group CoreBody). x.bodies) (sym c.index-groups-number.is)) names c.in_ok-one.one c.in_ok-one.ensures)
          (c.loop-number.invariant.paid own p));
    }

pub returns : goal.returns
returns c own p =
    let gs : List (Group CoreBody) = c.args.groups.now in
    let needs : List (List ℕ) = c.args.needs.now in
    let none : c.loop-number.number ≡ 0 = let z = c.loop-number-test.false in omega (arith, z) in
    subst (λ (n : ℕ). Decides c.loop-number.all (PaidCoreGroups own p (drop n needs) (map core_group (drop n gs)))) none (c.loop-number.invariant.paid own p)
