-- What a store holds, and what it keeps.
use Rattle.wasm_tree.specs.Load.{Instance}
use Rattle.wasm_store.specs.declared.store.Store.{Store}

abbrev pub standing : Store → Instance
standing s = record { memory = s.memory.bytes; globals = s.globals; table = s.table }

-- as the last commit kept it, or nothing before the first one
abbrev pub kept : Store → Instance
kept s = record { memory = s.memory.kept; globals = s.kept_globals; table = s.kept_table }
