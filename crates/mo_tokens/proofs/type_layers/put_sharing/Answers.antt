use Rattle.std.proofs.Common.{append_assoc}
use Rattle.mo_tokens.proofs.type_layers.put_sharing.Goals as goal

pub returns-in-Shared : goal.returns-in-Shared
returns-in-Shared c = rw c.in-Shared.is c.put_word.ensures

pub returns-in_ok-put_word-in-SharedQuery : goal.returns-in_ok-put_word-in-SharedQuery
returns-in_ok-put_word-in-SharedQuery c = rw c.in-SharedQuery.is (simp (c.in_ok-put_word-in-SharedQuery.ensures, append_assoc) at c.put_word-in-SharedQuery-2.ensures)
