use Rattle.mo_lexer.specs.Answers.{TextStops}
use Rattle.std.proofs.Common.{subst, refl, inl, inr, arith}
use Rattle.mo_lexer.proofs.FrontLemmas.{same_front, front_within}
use Rattle.mo_lexer.proofs.lexer.answer.Goals as goal

pub returns-else-front-source-clause-fault : goal.returns-else-front-source-clause-fault
returns-else-front-source-clause-fault c = let f = front_within c.args.source.now c.utf8_front-front.result.now c.utf8_front-front.ensures in
    inr (inr (omega arith, c.utf8_front-front.result.now, c.utf8_front-front.ensures, inr (inr (omega arith, refl, inl (c.in-Ok.tokens, c.in-Ok.ensures.ok)))))

pub returns-then-front-source-2-clause-fault : goal.returns-then-front-source-2-clause-fault
returns-then-front-source-2-clause-fault c =
    inr (inr (omega arith, c.utf8_front-front.result.now, c.utf8_front-front.ensures, inr (inl (same_front c.args.source.now c.utf8_front-front.result.now c.utf8_front-front.ensures (omega arith), subst (TextStops c.utf8_front-front.result.now) c.in-Err-AtEnd.field-0-is c.in-Err-AtEnd.ensures.err))))

pub returns-else-front-source-2-clause-fault : goal.returns-else-front-source-2-clause-fault
returns-else-front-source-2-clause-fault c = let f = front_within c.args.source.now c.utf8_front-front.result.now c.utf8_front-front.ensures in
    inr (inr (omega arith, c.utf8_front-front.result.now, c.utf8_front-front.ensures, inr (inr (omega arith, refl, inr (c.in-Err-AtEnd.fault, subst (TextStops c.utf8_front-front.result.now) c.in-Err-AtEnd.field-0-is c.in-Err-AtEnd.ensures.err)))))
