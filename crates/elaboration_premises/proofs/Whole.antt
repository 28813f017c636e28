-- Executions of well-typed programs are followed.
use Rattle.std.proofs.Common.{ℕ}
use Rattle.core_ir.specs.Worlds.{Context}
use Rattle.core_ir.specs.Expressions.{Core}
use Rattle.elaboration_runs.proofs.Whole.{executions, goes_on}
use Rattle.elaboration_premises.specs.Whole.{TypedExecutionsFollow, TypedExecutionsGoOn}
use Rattle.elaboration_premises.proofs.Executions.{executions_serve}

pub typed_executions : (program : Core) (context : Context) (nodes : ℕ) → TypedExecutionsFollow program context nodes
typed_executions program context nodes s graph basics same around accounts results answers kinds c typed n held known w d prints world f k together calls c' q =
    executions program context nodes s same around accounts n held known c w d prints world f k together calls (executions_serve s graph basics results answers kinds c typed).serves c' q

pub typed_goes_on : (program : Core) (context : Context) (nodes : ℕ) → TypedExecutionsGoOn program context nodes
typed_goes_on program context nodes s graph basics same around accounts results answers kinds c typed least held known w d prints world f k together calls =
    goes_on program context nodes s same around accounts least held known c w d prints world f k together calls (executions_serve s graph basics results answers kinds c typed).serves
