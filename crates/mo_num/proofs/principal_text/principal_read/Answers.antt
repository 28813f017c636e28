use Rattle.std.proofs.Common.{◌≡◌, ◌<◌, ◌++◌, length, ap, subst, sym, ◌∙◌, arith}
use Rattle.std.specs.List.{AllByRecursion}
use Rattle.mo_num.specs.PrincipalText.{shown, IsBase32}
use Rattle.mo_num.proofs.PrincipalTexts.{text_length, text_answer, text_none, shown_longer}
use Rattle.mo_num.proofs.principal_text.principal_read.Goals as goal

pub returns-then-text-gt63 : goal.returns-then-text-gt63
returns-then-text-gt63 c = λ p is t. let l = text_length p c.args.text.now is t in omega (arith, l)

pub regrouped-requires-clause-few : goal.regrouped-requires-clause-few
regrouped-requires-clause-few c =
    let h = c.if-not-read_groups.ensures in
    let all : c.as_slice.result.now ≡ h.digits.0 = c.as_slice.ensures ∙ h.digits.1 ∙ ap (λ l. l ++ h.digits.0) c.new-digits.ensures.items in
    omega (arith, ap length all, shown_longer h.digits.0, ap length h.digits.3)

pub returns-in-Some : goal.returns-in-Some
returns-in-Some c =
    let h = c.if-not-read_groups.ensures in
    let all : c.as_slice.result.now ≡ h.digits.0 = c.as_slice.ensures ∙ h.digits.1 ∙ ap (λ l. l ++ h.digits.0) c.new-digits.ensures.items in
    let text : c.args.text.now ≡ shown c.as_slice.result.now = h.digits.3 ∙ ap shown (sym all) in
    let below : AllByRecursion (λ d. d < 32) c.as_slice.result.now = subst (λ l. AllByRecursion (λ d. d < 32) l) (sym all) h.digits.2 in
    let same : c.as_slice-in-Some.result.now ≡ c.in-Some.bytes.items = c.as_slice-in-Some.ensures in
    let spelled : IsBase32 c.as_slice-in-Some.result.now c.as_slice.result.now = subst (λ l. IsBase32 l c.as_slice.result.now) (sym same) c.in-Some.ensures.0 in
    let small : AllByRecursion (λ b. b < 256) c.as_slice-in-Some.result.now = subst (λ l. AllByRecursion (λ b. b < 256) l) (sym same) c.in-Some.ensures.1 in
    text_answer c.checked.result c.args.text.now c.as_slice.result.now c.as_slice-in-Some.result.now text below small spelled c.checked.ensures

pub returns : goal.returns
returns c =
    let h = c.if-not-read_groups.ensures in
    let all : c.as_slice.result.now ≡ h.digits.0 = c.as_slice.ensures ∙ h.digits.1 ∙ ap (λ l. l ++ h.digits.0) c.new-digits.ensures.items in
    let text : c.args.text.now ≡ shown c.as_slice.result.now = h.digits.3 ∙ ap shown (sym all) in
    let below : AllByRecursion (λ d. d < 32) c.as_slice.result.now = subst (λ l. AllByRecursion (λ d. d < 32) l) (sym all) h.digits.2 in
    text_none c.args.text.now c.as_slice.result.now text below c.in-None.ensures
