-- The host of an execution that is told by its replies, one for each call.
use Rattle.std.specs.Prelude.{ℕ, List, [], ◌∷◌, ◌++◌, Option}
use Rattle.wasm_tree.specs.Exec.{HostAnswer, Answers, Refuses, Host}

-- A call gives a result, if its function has one, and a memory, or it traps.
pub data Reply : Type 0 where
  Gives : Option ℕ → List ℕ → Reply
  Traps : Reply

-- A call of an imported function, with its arguments and the memory before it.
pub record HostCall : Type 0 where
  pub function : ℕ
  pub args : List ℕ
  pub memory : List ℕ
  pub reply : Reply

-- The calls that were made, the last one last, and the replies that are still to come.
pub record Play : Type 0 where
  pub made : List HostCall
  pub coming : List Reply

abbrev pub answered : Play → ℕ → List ℕ → List ℕ → List Reply → HostAnswer Play
answered w f args memory [] =
    Refuses (record { made = w.made ++ record { function = f; args = args; memory = memory; reply = Traps } ∷ []; coming = [] })
answered w f args memory (Gives result new ∷ rest) =
    Answers result new (record { made = w.made ++ record { function = f; args = args; memory = memory; reply = Gives result new } ∷ []; coming = rest })
answered w f args memory (Traps ∷ rest) =
    Refuses (record { made = w.made ++ record { function = f; args = args; memory = memory; reply = Traps } ∷ []; coming = rest })

-- Each call takes the next reply.
abbrev pub played : Host Play
played f args memory w = answered w f args memory w.coming
