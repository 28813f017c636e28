use Rattle.std.specs.Option.{option_copied}
use Rattle.play_script.specs.declared.verb.Verb.TheVariants as verb
use Rattle.play_script.specs.Words.{words_behind}
use Rattle.play_script.proofs.line.read_behind.Goals as goal

pub returns-in-Call : goal.returns-in-Call
returns-in-Call c = rw c.in-Call.is (c.admitted.ensures c.args.modules verb.Call (words_behind (option_copied c.args.rest)) tt c.read_call.ensures)

pub returns-in-Query : goal.returns-in-Query
returns-in-Query c = rw c.in-Query.is (c.admitted-in-Query.ensures c.args.modules verb.Query (words_behind (option_copied c.args.rest)) tt c.read_call-in-Query.ensures)

pub returns-in-Reply : goal.returns-in-Reply
returns-in-Reply c = rw c.in-Reply.is (c.admitted-in-Reply.ensures c.args.modules verb.Reply (words_behind (option_copied c.args.rest)) tt c.read_reply.ensures)

pub returns-in-Reject : goal.returns-in-Reject
returns-in-Reject c = rw c.in-Reject.is (c.admitted-in-Reject.ensures c.args.modules verb.Reject (words_behind (option_copied c.args.rest)) tt c.read_reject.ensures)
