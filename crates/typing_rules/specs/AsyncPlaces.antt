-- Where `await`, `try`, `throw` and calls of shared functions may stand (Motoko language manual, sections "Async", "Await", "Throw" and "Try").
--
-- They stand directly in an async body, not in a local function. A query has no `await` and no such call. A call of a shared function stands only as the operand
-- of `await` or `ignore`, or as the whole right side of a `let` whose pattern is one name. Such a name stands only as the operand of `await` or `ignore`.
use Rattle.std.specs.Prelude.{ℕ, Bool, true, false, is_some}
use Rattle.mo_types.specs.Heads.{async_of}
use Rattle.typing_rules.specs.declared.condition.Condition.TheVariants as condition
use Rattle.typing_rules.specs.AbstractSyntax.{Pattern}
use Rattle.typing_rules.specs.AbstractSyntax as p
use Rattle.typing_rules.specs.Terms.{Term}
use Rattle.typing_rules.specs.Definitions.{Definitions}
use Rattle.typing_rules.specs.Heads.{head}
use Rattle.typing_rules.specs.Judgements.{Judgement, If, Tests, Fine}

-- the body in which an expression stands
pub data Body : Type 0 where
  Update : Body
  Query : Body
  Local : Body

-- what stands directly around an expression
pub data Around : Type 0 where
  -- `await` or `ignore`
  Awaited : Around
  -- a `let` whose pattern is one name
  Named : Around
  -- a label
  Labelled : Around
  Other : Around

-- whether the body is async
abbrev pub waits : Body → Bool
waits Update = true
waits Query = true
waits Local = false

-- whether shared functions are called in it
abbrev pub calls : Body → Bool
calls Update = true
calls Query = false
calls Local = false

-- whether a call of a shared function stands there
abbrev pub takes_call : Around → Bool
takes_call Awaited = true
takes_call Named = true
takes_call Labelled = false
takes_call Other = false

-- whether the name of such a call stands there
abbrev pub takes_name : Around → Bool
takes_name Awaited = true
takes_name Named = false
takes_name Labelled = false
takes_name Other = false

abbrev pub body_of : Bool → Body
body_of false = Update
body_of true = Query

abbrev pub around_of : Pattern ℕ → Around
around_of (p.pattern at (p.Variable x)) = Named
around_of _ = Other

-- a call or a name of type u, where one that gives a future may stand or not
abbrev pub FuturePlaced : Definitions → Body → Bool → ℕ → Term → Judgement (Unit {0})
FuturePlaced defs b takes at u =
    If (is_some (async_of (head defs u))) (λ _. Tests condition.AsyncPlace at (calls b) (Tests condition.AsyncPlace at takes Fine)) (λ _. Fine)
