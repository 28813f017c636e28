-- A language of the compiler, as far as the run of an actor speaks of it: types alone. The typed program, the core
-- languages and low code each give their own.

-- The parts of an actor that are the language's own: Motoko language manual, sections "Actors", "Async" and "Stable variables".
pub record Language : Type 1 where
  -- the variables of the actor, as they are committed
  pub store : Type 0
  -- an expression that is ready to run
  pub body : Type 0
  -- an expression that stands at an `await` and needs the answer of a call
  pub waiting : Type 0
  -- the result types of a shared function
  pub results : Type 0
  -- what a future is filled with: the results of a call, or the error that it was rejected with
  pub value : Type 0
  -- a shared function of the actor
  pub method : Type 0
  -- the values of the stable variables, as an upgrade hands them on
  pub kept : Type 0

-- The language with these parts.
abbrev pub language : (store body waiting results value method kept : Type 0) → Language
language store body waiting results value method kept =
    record { store = store; body = body; waiting = waiting; results = results; value = value; method = method; kept = kept }
