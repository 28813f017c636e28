use Rattle.std.proofs.Common.{◌≡◌, ◌≤◌, ◌-◌, length, take, drop, subst, arith, length-drop}
use Rattle.std.specs.Bool.{MatchBool}
use Rattle.std.proofs.lemmas.List.{take_all}
use Rattle.mo_num.proofs.Groups.{Shows, ShowsNone, short_text, six_none, dash_none, letters_none, long_answer}
use Rattle.mo_num.proofs.base32.+read_groups.Goals as goal
use Rattle.mo_num.proofs.base32.+read_groups.Goals.{then-text-eq6-via-then-text-eq6, then-text-eq6-via-else-text-eq6+then-text-ne45}

pub returns-then-text-le5-clause-digits : goal.returns-then-text-le5-clause-digits
returns-then-text-le5-clause-digits t c = short_text c.read_letters.result _ _ _ c.if-text-le5.true c.read_letters.ensures.digits

pub returns-then-text-eq6-clause-digits : goal.returns-then-text-eq6-clause-digits
returns-then-text-eq6-clause-digits t c = elim c.then-text-eq6.branch [
  | then-text-eq6-via-then-text-eq6 w ↦ six_none c.args.text.now w.if-text-eq6.true
  | then-text-eq6-via-else-text-eq6+then-text-ne45 w ↦ dash_none c.args.text.now (omega arith) w.if-text-ne45.true
]

pub returns-then-not-read_letters-clause-digits : goal.returns-then-not-read_letters-clause-digits
returns-then-not-read_letters-clause-digits t c =
    let h = c.if-not-read_letters.ensures in
    letters_none c.args.text.now (omega arith) h.digits

pub returns-clause-digits : goal.returns-clause-digits
returns-clause-digits t c =
    let h = c.if-not-read_letters.ensures in
    let fits : length (drop 6 c.args.text.now) ≤ length c.args.text.now - 6 = omega (arith, length-drop 6 c.args.text.now) in
    let all : take (length c.args.text.now - 6) (drop 6 c.args.text.now) ≡ drop 6 c.args.text.now = take_all (length c.args.text.now - 6) (drop 6 c.args.text.now) fits in
    long_answer c.read_groups.result c.args.digits.now.items c.read_letters-2.new.digits.items c.read_groups.new.digits.items c.args.text.now (omega arith) c.if-text-ne45.false h.digits
    (subst (λ l. MatchBool c.read_groups.result (Shows c.read_letters-2.new.digits.items c.read_groups.new.digits.items l) (ShowsNone l)) all c.read_groups.ensures.digits)
