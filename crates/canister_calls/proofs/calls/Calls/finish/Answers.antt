use Rattle.std.proofs.Common.{◌≡◌, ◌+◌, ◌++◌, ◌∙◌, ap, cond, false, length, arith, None}
use Rattle.std.specs.Prelude.{◌==◌}
use Rattle.std.proofs.lemmas.Grind.{common_steps}
use Rattle.canister_host.specs.HostRun.{numbered, answer_items, lacks_answer}
use Rattle.canister_calls.specs.Calling.{state_with}
use Rattle.canister_calls.specs.Calling.{without, during}
use Rattle.canister_calls.proofs.Finishing.{finish_so, set_at}
use Rattle.canister_calls.proofs.Numbering.{length-numbered}
use Rattle.canister_calls.proofs.calls.Calls.finish.Goals as goal

pub overflow_add-self : goal.overflow_add-self
overflow_add-self c =
    let count : c.len-count.result ≡ length c.in_ok-opened.opened.items = grind (arith, common_steps) in
    let many : length c.in_ok-opened.opened.items ≡ length c.args.performed = ap length c.in_ok-opened.ensures.calls ∙ length-numbered c.args.owner c.args.self.now.made c.args.performed in
    omega (arith, c.in_ok-open.ensures.made)

pub returns-clause-ok : goal.returns-clause-ok
returns-clause-ok c =
    let s = c.args.self.now in
    let count : c.len-count.result ≡ length (numbered c.args.owner s.made c.args.performed) = (let h : c.len-count.result ≡ length c.in_ok-opened.opened.items = grind (arith, common_steps) in h ∙ ap length c.in_ok-opened.ensures.calls) in
    let answers = c.in_ok-answers.answers in
    λ state. finish_so state c.args.owner c.args.items c.push_answer.new.items c.push_no_answer.new.items c.args.performed c.args.answer s.incoming.items c.answer_if.new.self.incoming.items c.answer_if-2.new.self.incoming.items s.made c.answer_if-2.new.self.made (without c.args.answering s.waiting.items) c.answer_if-2.new.self.waiting.items answers c.is_left_without-is_left.result
    c.in_ok-answers.ensures.answers
    (c.is_left_without-is_left.ensures ∙ ap (λ n. cond answers false (cond (n == 0) (lacks_answer c.args.owner (during c.args.answering (state_with None s))) false)) count)
    (c.in_ok-answers.ensures.items ∙ ap (λ l. l ++ answer_items c.args.owner c.args.answer) c.in_ok-opened.ensures.items)
    c.in_ok-push_no_answer.ensures
    (c.answer_if.ensures.incoming ∙ ap (λ l. cond answers (set_at l c.args.owner) l) c.in_ok-open.ensures.incoming)
    c.answer_if-2.ensures.incoming
    (c.answer_if-2.ensures.made ∙ c.answer_if.ensures.made ∙ ap (λ m. m + c.len-count.result) c.in_ok-open.ensures.made ∙ ap (λ n. s.made + n) (count ∙ length-numbered c.args.owner s.made c.args.performed))
    (c.answer_if-2.ensures.waiting ∙ c.answer_if.ensures.waiting ∙ c.in_ok-open.ensures.waiting ∙ ap (λ l. without c.args.answering s.waiting.items ++ l) c.in_ok-opened.ensures.calls)

pub returns-clause-made : goal.returns-clause-made
returns-clause-made c =
    let s = c.args.self.now in
    let count : c.len-count.result ≡ length (numbered c.args.owner s.made c.args.performed) = (let h : c.len-count.result ≡ length c.in_ok-opened.opened.items = grind (arith, common_steps) in h ∙ ap length c.in_ok-opened.ensures.calls) in
    c.answer_if-2.ensures.made ∙ c.answer_if.ensures.made ∙ ap (λ m. m + c.len-count.result) c.in_ok-open.ensures.made ∙ ap (λ n. s.made + n) (count ∙ length-numbered c.args.owner s.made c.args.performed)
